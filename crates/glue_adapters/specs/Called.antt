-- What an import has to be called with: how, with how many arguments, and with what result.
use Rattle.std.specs.Prelude.{ℕ, ◌+◌, ◌==◌, nat_le, Bool, true, false, not, ◌&&◌, ◌||◌, length, Option, Some, None}
use Rattle.glue_shared.specs.declared.adapter.Adapter.{Adapter}
use Rattle.glue_shared.specs.declared.adapter.AdapterKind.{AdapterKind}
use Rattle.glue_shared.specs.declared.adapter.AdapterKind.TheVariants as kinds
use Rattle.glue_shared.specs.declared.adapter.AdapterJsImportKind.{AdapterJsImportKind}
use Rattle.glue_shared.specs.declared.adapter.AdapterJsImportKind.TheVariants as calls
use Rattle.glue_shared.specs.declared.import.AuxImport.{AuxImport}
use Rattle.glue_shared.specs.declared.import.AuxImport.TheVariants as w
use Rattle.glue_shared.specs.declared.import.AuxValue.{AuxValue}
use Rattle.glue_shared.specs.declared.import.AuxValue.TheVariants as v
use Rattle.glue_shared.specs.declared.import.Intrinsic.{Intrinsic}
use Rattle.glue_shared.specs.declared.import.Intrinsic.TheVariants as i

-- ---- ways of calling

abbrev pub is_normal : AdapterJsImportKind → Bool
is_normal calls.Normal = true
is_normal calls.Method = false
is_normal calls.Constructor = false

abbrev pub is_method : AdapterJsImportKind → Bool
is_method calls.Normal = false
is_method calls.Method = true
is_method calls.Constructor = false

-- a value is called in any way, an accessor as a method
abbrev pub fits_value : AdapterJsImportKind → AuxValue → Bool
fits_value call (v.Bare js) = true
fits_value call other = is_method call

-- all others as functions
abbrev pub fits_call : AdapterJsImportKind → AuxImport → Bool
fits_call call (w.Value value) = fits_value call value
fits_call call other = is_normal call

-- ---- counts of arguments

-- how many arguments an intrinsic takes, where they are counted
abbrev pub intrinsic_count : Intrinsic → Option ℕ
intrinsic_count i.Exports = Some 0
intrinsic_count i.ExternrefHeapLiveCount = Some 0
intrinsic_count i.FunctionTable = Some 0
intrinsic_count i.Instance = Some 0
intrinsic_count i.Memory = Some 0
intrinsic_count i.Module = Some 0
intrinsic_count i.Reinit = Some 0
intrinsic_count i.InitExternrefTable = None
intrinsic_count i.Add = Some 2
intrinsic_count i.BitAnd = Some 2
intrinsic_count i.BitOr = Some 2
intrinsic_count i.BitXor = Some 2
intrinsic_count i.CheckedDiv = Some 2
intrinsic_count i.CopyToTypedArray = Some 2
intrinsic_count i.Div = Some 2
intrinsic_count i.GE = Some 2
intrinsic_count i.GT = Some 2
intrinsic_count i.InOperator = Some 2
intrinsic_count i.JsvalEq = Some 2
intrinsic_count i.JsvalLooseEq = Some 2
intrinsic_count i.LE = Some 2
intrinsic_count i.LT = Some 2
intrinsic_count i.Mul = Some 2
intrinsic_count i.Pow = Some 2
intrinsic_count i.Rem = Some 2
intrinsic_count i.Shl = Some 2
intrinsic_count i.Shr = Some 2
intrinsic_count i.Sub = Some 2
intrinsic_count i.UnsignedShr = Some 2
intrinsic_count other = Some 1

-- how many an import takes, where they are counted
abbrev pub argument_count : AuxImport → Option ℕ
argument_count (w.Value value) = None
argument_count (w.ValueWithThis js name) = None
argument_count (w.Instanceof js) = Some 1
argument_count (w.Static js optional) = Some 0
argument_count (w.String text) = Some 0
argument_count (w.Cast comment) = Some 1
argument_count (w.StructuralMethod name) = None
argument_count (w.StructuralGetter name) = Some 1
argument_count (w.StructuralSetter name) = Some 2
argument_count (w.StructuralClassGetter js name) = Some 0
argument_count (w.StructuralClassSetter js name) = Some 1
argument_count (w.IndexingGetterOfClass js) = Some 1
argument_count (w.IndexingSetterOfClass js) = Some 2
argument_count (w.IndexingDeleterOfClass js) = Some 1
argument_count w.IndexingGetterOfObject = Some 2
argument_count w.IndexingSetterOfObject = Some 3
argument_count w.IndexingDeleterOfObject = Some 2
argument_count (w.WrapInExportedClass class) = Some 1
argument_count (w.UnwrapExportedClass class) = Some 1
argument_count (w.LinkTo path content) = Some 0
argument_count (w.Intrinsic name) = intrinsic_count name

-- the last argument may be spread
abbrev pub may_spread : AuxImport → Bool
may_spread (w.Value value) = true
may_spread (w.ValueWithThis js name) = true
may_spread (w.StructuralMethod name) = true
may_spread other = false

-- how many arguments stand before those that are passed on: the object that has the method
abbrev pub own_arguments : AuxImport → ℕ
own_arguments (w.StructuralMethod name) = 1
own_arguments other = 0

abbrev pub is_count : Option ℕ → ℕ → Bool
is_count None count = true
is_count (Some wanted) count = wanted == count

-- one argument more where the last is spread
abbrev pub spread_count : Bool → ℕ
spread_count true = 1
spread_count false = 0

-- the fewest arguments
abbrev pub fewest : (spread : Bool) → AuxImport → ℕ
fewest spread what = own_arguments what + spread_count spread

-- as many arguments as the import takes, and one to spread, where that is asked for
abbrev pub fits_count : (spread : Bool) → AuxImport → ℕ → Bool
fits_count spread what count =
    is_count (argument_count what) count
    && ((not spread || may_spread what) && nat_le (fewest spread what) count)

-- ---- results

-- an intrinsic that is a statement
abbrev pub is_statement : Intrinsic → Bool
is_statement i.Throw = true
is_statement i.Rethrow = true
is_statement i.InitExternrefTable = true
is_statement other = false

-- a statement gives no result
abbrev pub fits_result : AuxImport → ℕ → Bool
fits_result (w.Intrinsic name) count = not (is_statement name) || count == 0
fits_result other count = true

-- ---- all of these

-- an import is called as it asks for
abbrev pub is_called_right : (spread : Bool) → AuxImport → Adapter → AdapterJsImportKind → Bool
is_called_right spread what a call =
    fits_call call what && (fits_count spread what (length a.args) && fits_result what (length a.results))

abbrev pub calls_right : (spread : Bool) → AuxImport → Adapter → AdapterKind → Bool
calls_right spread what a (kinds.Import call) = is_called_right spread what a call
calls_right spread what a (kinds.Local code) = false

-- there is an adapter that calls the import, as it asks for
abbrev pub fits_import : (spread : Bool) → AuxImport → Option Adapter → Bool
fits_import spread what None = false
fits_import spread what (Some a) = calls_right spread what a a.kind
