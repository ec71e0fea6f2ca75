use Rattle.std.proofs.Common.{◌≡◌, take}
use Rattle.glue_lines.specs.Vendor.{vendor_names}
use Rattle.glue_lines.proofs.vendor.vendor_names.Given as goal

abbrev pub invariant-loop-prefix : goal.invariant-loop-prefix
invariant-loop-prefix l = l.names ≡ vendor_names l.name (take l.prefix-index l.prefixes)
