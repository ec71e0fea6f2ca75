-- What the lists of string enums declare: the name of each that is chosen, once; and that each belongs into the file.
use Rattle.glue_context.proofs.Common.{◌≡◌, ℕ, List, [], ◌∷◌, map, Bool, true, false, sym, ap, ◌∙◌, subst, bytes_eq, bytes_eq-Decides, IsPermutation-map, IsPermutation-sym, IsIn, AreDistinct, AreAmong, Item, bound_names, AllItems, Belongs, Context, Settings, Lowered}
use Rattle.std.specs.Prelude.{cond, filter}
use Rattle.std.proofs.lemmas.List.Sums.{list_all-from_AllPass}
use Rattle.glue_words.specs.Ident.{is_ident}
use Rattle.glue_words.proofs.Among.{among_by}
use Rattle.glue_shared.specs.declared.aux.AuxStringEnum.{AuxStringEnum}
use Rattle.glue_lines.proofs.TextsFacts.{texts_all_belong, texts_declare, texts_each}
use Rattle.glue_names.specs.Given.{values_name}
use Rattle.printed_adapters.specs.Printed.{named_enums}
use Rattle.glue_names.proofs.MappedLists.{from_map, in_map}
use Rattle.glue_exports.proofs.Joined.{from_filter, in_filter}
use Rattle.glue_check.proofs.Steps.{IsListOf}
use Rattle.glue_naming.proofs.Arranged.{all_are, distinct_moved, moved_from}
use Rattle.glue_context.specs.ListedItems.{AreLists, chosen_enums, is_chosen, list_item}

-- what is mapped to distinct things is so where fewer are
map_kept : {A B : Type 0} (f : A → B) (test : A → Bool) (xs : List A) → AreDistinct (map f xs) → AreDistinct (map f (filter test xs))
map_kept f test [] d = tt
map_kept f test (x ∷ xs) d = by (test x) (map_kept f test xs d.1)
  where
    by : (b : Bool) → AreDistinct (map f (filter test xs)) → AreDistinct (map f (cond b (x ∷ filter test xs) (filter test xs)))
    by true rest = (
      λ i. let r = from_map f (f x) (filter test xs) i in d.0 (subst (λ y. IsIn y (map f xs)) (sym r.2) (in_map f r.0 xs (from_filter test r.0 xs r.1).0)),
      rest,
    )
    by false rest = rest

module _ (s : Settings) (l : Lowered) where
  -- the names of the lists that are asked for
  abbrev pub list_names : List (List ℕ)
  list_names = map values_name (chosen_enums s l)

  -- the list that an instruction names is one of these
  pub list_chosen : (list : List ℕ) → IsListOf s l list → IsIn list list_names
  list_chosen list d =
      subst (λ (name : List ℕ). IsIn name list_names) (sym d.is)
      (in_map values_name d.values (chosen_enums s l) (in_filter (is_chosen (named_enums s l)) d.values l.aux.string_enums d.among d.named))

  -- they are names of the lists of all enums
  pub names_among : AreAmong list_names (map values_name l.aux.string_enums)
  names_among = among_by list_names (map values_name l.aux.string_enums) (λ name i.
      let r = from_map values_name name (chosen_enums s l) i in
      subst (λ (x : List ℕ). IsIn x (map values_name l.aux.string_enums)) (sym r.2)
      (in_map values_name r.0 l.aux.string_enums (from_filter (is_chosen (named_enums s l)) r.0 l.aux.string_enums r.1).0))

  module _ (items : List Item) (a : AreLists s l items) where
    -- each has a fact that the list of an enum has
    pub lists_each : (P : Item → Type 0) → ((e : AuxStringEnum) → P (list_item e)) → AllItems P items
    lists_each P give =
        subst (AllItems P) (sym a.are) (texts_each values_name (λ (e : AuxStringEnum). e.variants) P a.enums (λ e i. give e))

    declared : bound_names items ≡ map values_name a.enums
    declared = ap bound_names a.are ∙ texts_declare values_name (λ (e : AuxStringEnum). e.variants) a.enums

    -- they declare these names, and no others
    pub lists_declare : (name : List ℕ) → IsIn name (bound_names items) → IsIn name list_names
    lists_declare name i =
        moved_from list_names (map values_name a.enums) (IsPermutation-map values_name (chosen_enums s l) a.enums a.by_name.same) name
        (subst (IsIn name) declared i)

    pub lists_declare_all : (name : List ℕ) → IsIn name list_names → IsIn name (bound_names items)
    lists_declare_all name i =
        subst (IsIn name) (sym declared)
        (moved_from (map values_name a.enums) list_names (IsPermutation-map values_name a.enums (chosen_enums s l) (IsPermutation-sym _ _ a.by_name.same)) name i)

    -- each once, where no two enums have one
    pub lists_distinct : AreDistinct (map values_name l.aux.string_enums) → AreDistinct (bound_names items)
    lists_distinct d =
        subst AreDistinct (sym declared)
        (distinct_moved bytes_eq bytes_eq-Decides list_names (map values_name a.enums)
        (IsPermutation-map values_name (chosen_enums s l) a.enums a.by_name.same)
        (map_kept values_name (is_chosen (named_enums s l)) l.aux.string_enums d))

    -- they belong into any file, where the names are identifiers
    pub lists_belong : (c : Context) → ((name : List ℕ) → IsIn name list_names → is_ident name ≡ true) → AllItems (λ item. Belongs c item.words) items
    lists_belong c idents =
        let names = map values_name a.enums in
        subst (AllItems (λ item. Belongs c item.words)) (sym a.are)
        (texts_all_belong values_name (λ (e : AuxStringEnum). e.variants) c a.enums
        (list_all-from_AllPass is_ident names (all_are (λ (x : List ℕ). is_ident x ≡ true) names (λ name i.
        idents name (lists_declare name (subst (IsIn name) (sym declared) i))))))
