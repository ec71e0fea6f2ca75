-- Whether an import has an expression depends neither on the names that are drawn, nor on what is given of the module, nor on how it is called.
use Rattle.std.proofs.Common.{◌≡◌, refl, Bool, true, false}
use Rattle.std.specs.Prelude.{is_some}
use Rattle.glue_shared.specs.declared.adapter.AdapterJsImportKind.{AdapterJsImportKind}
use Rattle.glue_shared.specs.declared.import.AuxImport.{AuxImport}
use Rattle.glue_shared.specs.declared.import.AuxImport.TheVariants as w
use Rattle.glue_shared.specs.declared.import.Intrinsic.{Intrinsic}
use Rattle.glue_shared.specs.declared.import.Intrinsic.TheVariants as i
use Rattle.glue_shared.specs.declared.name_map.NameMap.{NameMap}
use Rattle.glue_shared.specs.declared.settings.Settings.{Settings}
use Rattle.glue_shared.specs.declared.settings.Target.{Target}
use Rattle.glue_imports.specs.Given.{Given, nothing_given}
use Rattle.glue_imports.specs.Expressions.{intrinsic_expression, expression, has_expression}

any_intrinsic : (target : Target) (externref : Bool) (g : Given) (bound : Bool) (name : Intrinsic)
    → is_some (intrinsic_expression target externref g bound name) ≡ is_some (intrinsic_expression target externref nothing_given false name)
any_intrinsic target true g bound i.InitExternrefTable = refl
any_intrinsic target false g bound i.InitExternrefTable = refl
any_intrinsic target externref g bound other = refl

pub any_call : (s : Settings) (m : NameMap) (g : Given) (call : AdapterJsImportKind) (spread bound : Bool) (what : AuxImport)
    → is_some (expression s m g call spread bound what) ≡ has_expression s what
any_call s m g call spread bound (w.Intrinsic name) = any_intrinsic s.target s.externref g bound name
any_call s m g call spread bound other = refl
