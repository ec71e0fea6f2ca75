-- What the loops over a description need.
use Rattle.std.proofs.Common.{◌≡◌, ℕ, ◌+◌, ◌<◌, List, [], ◌∷◌, ◌++◌, length, get_or, map, take, refl, sym, ap, ◌∙◌}
use Rattle.std.proofs.lemmas.List.{append-nil, append_assoc, map_more}
use Rattle.glue_shared.specs.Paths.{Path}
use Rattle.glue_shared.specs.declared.aux.AuxEnum.{AuxEnum}
use Rattle.glue_shared.specs.declared.aux.AuxExport.{AuxExport}
use Rattle.glue_exports.specs.declared.definition.ExportDefinition.{ExportDefinition}
use Rattle.glue_exports.specs.Enums as enums
use Rattle.glue_public.specs.declared.definitions.PublicDefinition.{PublicDefinition}
use Rattle.glue_public.specs.Described.{FunctionItems, zipped, enum_name, enum_definition}

zipped_none : (lone : List AuxExport) → zipped lone [] ≡ []
zipped_none [] = refl
zipped_none (e ∷ lone) = refl

-- once no items are left, all definitions are made
pub zipped_all : (lone : List AuxExport) (left : List FunctionItems) (made all : List PublicDefinition) → left ≡ []
    → made ++ zipped lone left ≡ all → made ≡ all
zipped_all lone left made all none h =
    sym (ap (λ fs. made ++ zipped lone fs) none ∙ ap (λ ds. made ++ ds) (zipped_none lone) ∙ append-nil made) ∙ h

abbrev pub definition_at : Path → List ℕ → ExportDefinition → PublicDefinition
definition_at namespace name d = record { namespace = namespace; name = name; definition = d }

-- what is made for an enum is its definition
pub enum_given : (given : List (List ℕ × List ℕ)) (e : AuxEnum) (namespace : Path) (own name : List ℕ) (d : ExportDefinition)
    → namespace ≡ e.namespace → own ≡ e.name → name ≡ enum_name given e → d ≡ enums.enum_definition e name
    → definition_at namespace own d ≡ enum_definition given e
enum_given given e namespace own name d a b c k =
    ap (λ ns. definition_at ns own d) a ∙ ap (λ n. definition_at e.namespace n d) b
    ∙ ap (definition_at e.namespace e.name) (k ∙ ap (enums.enum_definition e) c)

-- what is made of one item more
pub pushed_next : {A B : Type 0} (f : A → B) (xs : List A) (i : ℕ) (x : A) (y : B) (first made new : List B) → i < length xs → x ≡ get_or xs i x
    → y ≡ f x → made ≡ first ++ map f (take i xs) → new ≡ made ++ y ∷ [] → new ≡ first ++ map f (take (i + 1) xs)
pushed_next f xs i x y first made new within here is before pushed =
    pushed
    ∙ ap (λ ys. ys ++ y ∷ []) before
    ∙ append_assoc first (map f (take i xs)) (y ∷ [])
    ∙ ap (λ z. first ++ (map f (take i xs) ++ z ∷ [])) (is ∙ ap f here)
    ∙ ap (λ ys. first ++ ys) (sym (map_more f xs i x within))
