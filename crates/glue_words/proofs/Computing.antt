-- What has to unfold so that `refl` computes the texts of words of known bytes, and whether a name is an identifier.
use Rattle.std.specs.Str.{chars}
use Rattle.ucd_table.specs.Rows.{in_ranges}
use Rattle.ucd_derived.specs.Binary.{is_xid_start, is_xid_continue}
use Rattle.ucd_derived.specs.XidStartRanges.{xid_start_ranges}
use Rattle.ucd_derived.specs.XidContinueRanges.{xid_continue_ranges}
use Rattle.glue_words.specs.Ident.{is_ident}
use Rattle.glue_words.specs.Tables.{punct_text}

-- `unfolding spelling` lets them compute
unfoldable pub spelling : Unit {0}
unfolding punct_text is_ident chars in_ranges is_xid_start is_xid_continue xid_start_ranges xid_continue_ranges
spelling = tt
