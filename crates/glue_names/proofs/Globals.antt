-- What a described name brings is of the outside.
use Rattle.std.proofs.Common.{◌≡◌, ℕ, List, [], ◌∷◌, ◌++◌, map, Bool, Option, Some, None, true, false, true≢false, refl, sym}
use Rattle.std.specs.List.{flat_map}
use Rattle.std.specs.Prelude.{is_some}
use Rattle.values.specs.Lists.{IsIn}
use Rattle.values.proofs.Members.{in_left, in_right, in_either}
use Rattle.glue_shared.specs.declared.import.AuxImport.{AuxImport}
use Rattle.glue_shared.specs.declared.import.JsImportName.{JsImportName}
use Rattle.glue_shared.specs.declared.import.JsImportName.TheVariants as js
use Rattle.glue_shared.specs.declared.description.Lowered.{Lowered}
use Rattle.glue_shared.specs.declared.settings.Settings.{Settings}
use Rattle.glue_shared.specs.declared.names.TheConstants.{HOSTS}
use Rattle.glue_shared.specs.Names.{names_of, js_import, described_names, described_hosts, target_hosts, inspect_names, host_names}
use Rattle.glue_names.specs.Taken.{brought}
pub use Rattle.printed_adapters.proofs.Choices.{from_flat, in_flat}

-- an option that is some value is that of one
pub some_of : {A : Type 0} (o : Option A) → is_some o ≡ true → (x : A) × (o ≡ Some x)
some_of None h = absurd (true≢false (sym h))
some_of (Some x) h = (x, refl)

-- ---- names of the outside

-- a name brings no fewer where imports are left out
pub more_hosts : (omitted : Bool) (n : JsImportName) (x : List ℕ) → IsIn x (described_hosts false n) → IsIn x (described_hosts omitted n)
more_hosts omitted (js.Global name) x i = i
more_hosts omitted (js.VendorPrefixed name prefixes) x i = i
more_hosts omitted other x i = absurd i

-- what a described name brings is of the outside
pub described_host : (s : Settings) (l : Lowered) (n : JsImportName) → IsIn n (described_names l.aux) → (x : List ℕ)
    → IsIn x (described_hosts s.omit_imports n) → IsIn x (host_names s l.aux)
unfolding host_names
described_host s l n i x k =
    let described = flat_map (described_hosts s.omit_imports) (described_names l.aux) in
    in_right x (map (λ w. w.now) HOSTS) (target_hosts s.target ++ (described ++ inspect_names s l.aux))
    (in_right x (target_hosts s.target) (described ++ inspect_names s l.aux)
    (in_left x described (inspect_names s l.aux)
    (in_flat (described_hosts s.omit_imports) (described_names l.aux) n x i k)))

-- and so is what an import brings
pub brought_host : (s : Settings) (l : Lowered) (e : ℕ × AuxImport) → IsIn e l.aux.imports → (x : List ℕ) → IsIn x (brought s.omit_imports e.1)
    → IsIn x (host_names s l.aux)
brought_host s l e i x k =
    let r = from_flat (described_hosts s.omit_imports) (names_of (js_import e.1)) x k in
    let imported = flat_map (λ (e : ℕ × AuxImport). names_of (js_import e.1)) l.aux.imports in
    described_host s l r.0
    (in_left r.0 imported (map (λ r. r.1.name) l.aux.reexports) (in_flat (λ (e : ℕ × AuxImport). names_of (js_import e.1)) l.aux.imports e r.0 i r.1)) x r.2
