-- What the entries of a description's tree are of.
use Rattle.std.proofs.Common.{◌≡◌, ℕ, true, List, [], ◌∷◌, ◌++◌, map, refl, sym, ap, subst, ◌∙◌, inl, inr}
use Rattle.std.specs.List.{zip, AllZip}
use Rattle.values.specs.Lists.{IsIn}
use Rattle.values.proofs.Members.{in_left, in_right, in_either}
use Rattle.glue_shared.specs.Paths.{qualified_name}
use Rattle.glue_shared.specs.declared.aux.AuxEnum.{AuxEnum}
use Rattle.glue_shared.specs.declared.aux.AuxExport.{AuxExport}
use Rattle.glue_shared.specs.declared.aux.WasmBindgenAux.{WasmBindgenAux}
use Rattle.glue_shared.specs.declared.name_map.NameMap.{NameMap}
use Rattle.glue_exports.specs.Tree.{Entry}
use Rattle.glue_exports.proofs.Joined.{in_map, from_map, from_filter}
use Rattle.glue_published.specs.Things.{stands_alone}
use Rattle.glue_public.specs.declared.definitions.PublicDefinition.{PublicDefinition}
use Rattle.glue_public.specs.Described.{FunctionItems, Reexport, lone_functions, function_definition, zipped, enum_definition, reexport_definition, described, entry_of, ArePut}
use Rattle.glue_public.proofs.Put.{from_put, to_put}

-- ---- lists side by side

module _ {A B : Type 0} where
  pub from_zip : (xs : List A) (ys : List B) (x : A) (y : B) → IsIn (x, y) (zip xs ys) → IsIn x xs × IsIn y ys
  from_zip [] ys x y i = absurd i
  from_zip (a ∷ xs) [] x y i = absurd i
  from_zip (a ∷ xs) (b ∷ ys) x y (inl same) = (inl (ap (λ (p : A × B). p.0) same), inl (ap (λ (p : A × B). p.1) same))
  from_zip (a ∷ xs) (b ∷ ys) x y (inr i) = let r = from_zip xs ys x y i in (inr r.0, inr r.1)

  -- what is said of the two lists is said of each pair
  pub each_zip : (R : A → B → Type 0) (xs : List A) (ys : List B) (x : A) (y : B) → AllZip R xs ys → IsIn (x, y) (zip xs ys) → R x y
  each_zip R [] ys x y h i = absurd i
  each_zip R (a ∷ xs) [] x y h i = absurd i
  each_zip R (a ∷ xs) (b ∷ ys) x y h (inl same) = rw (ap (λ (p : A × B). p.0) same, ap (λ (p : A × B). p.1) same) h.0
  each_zip R (a ∷ xs) (b ∷ ys) x y h (inr i) = each_zip R xs ys x y h.1 i

-- ---- entries

module _ (aux : WasmBindgenAux) (given : NameMap) (functions : List FunctionItems) where
  -- the functions that stand by themselves, with their items
  abbrev pub pairs : List (AuxExport × FunctionItems)
  pairs = zip (lone_functions aux.exports) functions

  -- an entry is that of a function with its items, of an enum or of a re-export
  pub data IsOf (x : Entry) : Type 0 where
    OfFunction : (e : AuxExport) (f : FunctionItems) → IsIn (e, f) pairs → x ≡ entry_of (function_definition e f) → IsOf x
    OfEnum : (e : AuxEnum) → IsIn e aux.enums → x ≡ entry_of (enum_definition given.enums e) → IsOf x
    OfReexport : (r : Reexport) → IsIn r aux.reexports → x ≡ entry_of (reexport_definition given.imports r) → IsOf x

  -- a function that has items is one of the description's that stand by themselves
  pub function_in : (e : AuxExport) (f : FunctionItems) → IsIn (e, f) pairs
      → IsIn e aux.exports × (stands_alone e.kind ≡ true) × IsIn f functions
  function_in e f i =
      let r = from_zip (lone_functions aux.exports) functions e f i in
      let lone = from_filter (λ (e : AuxExport). stands_alone e.kind) e aux.exports r.0 in (lone.0, lone.1, r.1)

  abbrev lone : List PublicDefinition
  lone = zipped (lone_functions aux.exports) functions

  abbrev enums : List PublicDefinition
  enums = map (enum_definition given.enums) aux.enums

  abbrev reexports : List PublicDefinition
  reexports = map (reexport_definition given.imports) aux.reexports

  of_definition : (x : Entry) (d : PublicDefinition) → x ≡ entry_of d → IsIn d (described aux given functions) → IsOf x
  of_definition x d is i = elim (in_either d lone (enums ++ reexports) i) [
    | inl function ↦
        let r = from_map (λ (p : AuxExport × FunctionItems). function_definition p.0 p.1) d pairs function in
        OfFunction r.0.0 r.0.1 r.1 (is ∙ ap entry_of r.2)
    | inr behind ↦ elim (in_either d enums reexports behind) [
      | inl one ↦ let r = from_map (enum_definition given.enums) d aux.enums one in OfEnum r.0 r.1 (is ∙ ap entry_of r.2)
      | inr one ↦
          let r = from_map (reexport_definition given.imports) d aux.reexports one in
          OfReexport r.0 r.1 (is ∙ ap entry_of r.2)
    ]
  ]

  -- the definition that an entry is of
  abbrev pub definition_of : (x : Entry) → IsOf x → PublicDefinition
  definition_of x (OfFunction e f i is) = function_definition e f
  definition_of x (OfEnum e i is) = enum_definition given.enums e
  definition_of x (OfReexport r i is) = reexport_definition given.imports r

  pub is_entry_of : (x : Entry) (k : IsOf x) → x ≡ entry_of (definition_of x k)
  is_entry_of x (OfFunction e f i is) = is
  is_entry_of x (OfEnum e i is) = is
  is_entry_of x (OfReexport r i is) = is

  pub is_described : (x : Entry) (k : IsOf x) → IsIn (definition_of x k) (described aux given functions)
  is_described x (OfFunction e f i is) =
      in_left _ lone (enums ++ reexports) (in_map (λ (p : AuxExport × FunctionItems). function_definition p.0 p.1) (e, f) pairs i)
  is_described x (OfEnum e i is) =
      in_right _ lone (enums ++ reexports) (in_left _ enums reexports (in_map (enum_definition given.enums) e aux.enums i))
  is_described x (OfReexport r i is) =
      in_right _ lone (enums ++ reexports) (in_right _ enums reexports (in_map (reexport_definition given.imports) r aux.reexports i))

  -- the qualified name of what an entry is of
  abbrev pub qualified_of : (x : Entry) → IsOf x → List ℕ
  qualified_of x (OfFunction e f i is) = qualified_name e.namespace e.name
  qualified_of x (OfEnum e i is) = qualified_name e.namespace e.name
  qualified_of x (OfReexport r i is) = qualified_name [] r.0

  -- it is that of its definition
  pub qualified_is : (x : Entry) (k : IsOf x)
      → qualified_of x k ≡ qualified_name (definition_of x k).namespace (definition_of x k).name
  qualified_is x (OfFunction e f i is) = refl
  qualified_is x (OfEnum e i is) = refl
  qualified_is x (OfReexport r i is) = refl

  -- ---- the tree

  module _ (tree : List Entry) (put : ArePut (described aux given functions) [] tree) where
    pub was_put : (x : Entry) → IsIn x tree → IsIn x (map entry_of (described aux given functions))
    was_put x i = elim (from_put (described aux given functions) [] tree put x i) [ inl here ↦ here | inr none ↦ absurd none ]

    pub is_put : (x : Entry) → IsIn x (map entry_of (described aux given functions)) → IsIn x tree
    is_put x i = to_put (described aux given functions) [] tree put x (inl i)

    -- what each entry is of
    pub entry_is : (x : Entry) → IsIn x tree → IsOf x
    entry_is x i =
        let r = from_map entry_of x (described aux given functions) (was_put x i) in of_definition x r.0 r.2 r.1

    -- and what stands in the tree
    pub entry_in : (x : Entry) → IsOf x → IsIn x tree
    entry_in x k =
        let ds = described aux given functions in
        is_put x (subst (λ (y : Entry). IsIn y (map entry_of ds)) (sym (is_entry_of x k)) (in_map entry_of (definition_of x k) ds (is_described x k)))
