-- What the functions of closures declare: the name of each closure that is made, once; and that each belongs into the file, where no other item
-- stands for one.
use Rattle.glue_context.proofs.Common.{◌≡◌, ℕ, inl, inr, List, [], ◌∷◌, ◌++◌, flat_map, Bool, true, false, Some, refl, sym, ap, ◌∙◌, subst, rules, AllZip, list_any, IsIn, AreApart, AreDistinct, AreAmong, Item, bound_in, bound_names, is_export_key, fixed_by, AllItems, Belongs, Settings, NameMap, Lowered, HasSteps, declaration_back, declaration_front, callback_name, used_closures, AreClosures, IsClosureItem, closure_item}
use Rattle.std.proofs.lemmas.List.Folds.{list_any-append}
use Rattle.std.proofs.lemmas.Option.{same_Some}
use Rattle.values.proofs.Members.{in_either}
use Rattle.glue_words.specs.declared.item.Role.TheVariants as role
use Rattle.glue_words.specs.Ident.{is_ident}
use Rattle.glue_words.proofs.Among.{among_by, apart_in, apart_none, apart_parts}
use Rattle.glue_words.proofs.Fitting.{declared_are}
use Rattle.glue_targets.specs.Published.{fixed_of}
use Rattle.glue_names.specs.Given.{closure_names}
use Rattle.glue_names.proofs.Globals.{in_flat}
use Rattle.printed_adapters.proofs.Used.{used_distinct}
use Rattle.glue_check.proofs.Steps.{IsClosureOf}
use Rattle.glue_context.specs.Defined.{HoldsClosure}
use Rattle.glue_context.proofs.ClosureNames.{AreOfOne, callback_listed}
use Rattle.glue_context.proofs.Fits.{AreWell, HasBasis, declaration_frame, function_binds, function_fits, function_inner, names_with}
use Rattle.glue_context.proofs.Lists.{matched}

-- what items declare
abbrev pub declared_names : List Item → List (List ℕ)
declared_names items = flat_map (λ (item : Item). bound_in item.words) items

module _ (s : Settings) (m : NameMap) (l : Lowered) where
  -- ---- one

  module _ (id : ℕ) (item : Item) (d : IsClosureItem s m l id item) where
    -- it declares its name
    closure_binds : bound_in item.words ≡ d.name ∷ []
    closure_binds =
        ap (λ (i : Item). bound_in i.words) d.is ∙ ap (λ (names : List (List ℕ)). d.name ∷ names) (function_binds d.of_adapter declaration_back)

    -- and that alone
    bound_named : (name : List ℕ) → IsIn name (bound_in item.words) → callback_name l id ≡ Some name
    bound_named name i = by (subst (IsIn name) closure_binds i)
      where
        by : IsIn name (d.name ∷ []) → callback_name l id ≡ Some name
        by (inl same) = d.named ∙ ap (λ (n : List ℕ). Some n) (sym same)
        by (inr none) = absurd none

    -- it is the function of this closure alone
    pub closure_holds : AreOfOne l → IsIn id (used_closures s l) → HoldsClosure s m l item
    closure_holds one used other name named i =
        let same = one id other name (bound_named name i) named in (
          subst (λ (n : ℕ). IsIn n (used_closures s l)) same used,
          subst (λ (n : ℕ). IsClosureItem s m l n item) same d,
        )

    module _ (well : AreWell s l m) (ident : is_ident d.name ≡ true) (h : HasSteps s l id) where
      -- it belongs into a file that has what functions use
      pub closure_belongs : (declared : List (List ℕ)) → HasBasis s l m declared → Belongs (names_with s l declared) item.words
      closure_belongs declared basis =
          rw d.is (function_fits d.of_adapter well h (declaration_front d.name) declaration_back (declaration_frame d.name ident) declared basis
          (search (rules, apart_none)))

      -- it isn't exported
      unexported : list_any is_export_key (closure_item d.name d.function.words).words ≡ false
      unexported =
          list_any-append is_export_key d.function.words declaration_back
          ∙ rw (function_inner d.of_adapter well h (declaration_front d.name) declaration_back (declaration_frame d.name ident)) refl

      pub closure_inner : fixed_by item ≡ []
      closure_inner = rw d.is (ap (λ (b : Bool). fixed_of role.Body b (closure_item d.name d.function.words).words) unexported)

  -- ---- those of some closures

  -- what they declare are the names of these closures
  declared_by : (ids : List ℕ) (items : List Item) → AllZip (IsClosureItem s m l) ids items → (name : List ℕ) → IsIn name (declared_names items)
      → (id : ℕ) × IsIn id ids × (callback_name l id ≡ Some name)
  declared_by [] [] h name i = absurd i
  declared_by (id ∷ ids) (item ∷ items) h name i =
      elim (in_either name (bound_in item.words) (declared_names items) i) [
        | inl here ↦ (id, inl refl, bound_named id item h.0 name here)
        | inr later ↦ let r = declared_by ids items h.1 name later in (r.0, inr r.1, r.2)
      ]
  declared_by ids items h name i = absurd h

  -- each has its item
  item_there : (ids : List ℕ) (items : List Item) → AllZip (IsClosureItem s m l) ids items → (id : ℕ) → IsIn id ids
      → (item : Item) × IsIn item items × IsClosureItem s m l id item
  item_there [] [] h id i = absurd i
  item_there (x ∷ ids) (item ∷ items) h id (inl same) = (item, inl refl, subst (λ (n : ℕ). IsClosureItem s m l n item) (sym same) h.0)
  item_there (x ∷ ids) (item ∷ items) h id (inr later) = let r = item_there ids items h.1 id later in (r.0, inr r.1, r.2)
  item_there ids items h id i = absurd h

  -- no two declare one name
  declare_once : AreOfOne l → (ids : List ℕ) (items : List Item) → AllZip (IsClosureItem s m l) ids items → AreDistinct ids
      → AreDistinct (declared_names items)
  declare_once one [] [] h d = tt
  declare_once one (id ∷ ids) (item ∷ items) h d =
      subst (λ (names : List (List ℕ)). AreDistinct (names ++ declared_names items)) (sym (closure_binds id item h.0)) (
        λ i.
            let r = declared_by ids items h.1 (h.0).name i in
            d.0 (subst (λ (n : ℕ). IsIn n ids) (one r.0 id (h.0).name r.2 (h.0).named) r.1),
        declare_once one ids items h.1 d.1,
      )
  declare_once one ids items h d = absurd h

  -- ---- those of the file

  module _ (items : List Item) (a : AreClosures s m l items) where
    -- each has a fact that the function of a closure has
    pub closures_each : (P : Item → Type 0) → ((id : ℕ) (item : Item) → IsIn id (used_closures s l) → IsClosureItem s m l id item → P item) → AllItems P items
    closures_each P give =
        matched (IsClosureItem s m l) (λ ids. AllItems P) (used_closures s l) items a.are tt (λ id item ids is k i d h. (give id item k d, h))

    -- each closure that is made has its item
    pub closure_there : (id : ℕ) → IsIn id (used_closures s l) → (item : Item) × IsIn item items × IsClosureItem s m l id item
    closure_there = item_there (used_closures s l) items a.are

    -- they declare names of closures, and no others
    pub closures_among : AreAmong (bound_names items) (closure_names l)
    closures_among = among_by (bound_names items) (closure_names l) (λ name i.
        let r = declared_by (used_closures s l) items a.are name (subst (IsIn name) (declared_are items) i) in callback_listed l r.0 name r.2)

    -- that of each that a function makes
    pub closure_declared : (function : List ℕ) → IsClosureOf s l function → IsIn function (bound_names items)
    closure_declared function c =
        let r = closure_there c.adapter c.used in
        let same = same_Some (r.2).name function (sym (r.2).named ∙ c.named) in
        subst (IsIn function) (sym (declared_are items))
        (in_flat (λ (item : Item). bound_in item.words) items r.0 function r.1
        (subst (IsIn function) (sym (closure_binds c.adapter r.0 r.2)) (inl (sym same))))

    -- each once
    pub closures_distinct : AreOfOne l → AreDistinct (bound_names items)
    closures_distinct one = subst AreDistinct (sym (declared_are items)) (declare_once one (used_closures s l) items a.are (used_distinct s l a.by_id))

  -- ---- other items

  -- an item that declares none of their names stands for none
  pub other_holds : (item : Item) → AreApart (bound_in item.words) (closure_names l) → HoldsClosure s m l item
  other_holds item h id name named i = absurd (apart_in name (bound_in item.words) (closure_names l) h i (callback_listed l id name named))

  pub others_hold : (items : List Item) → AreApart (declared_names items) (closure_names l) → AllItems (HoldsClosure s m l) items
  others_hold [] h = tt
  others_hold (item ∷ items) h =
      let parts = apart_parts (bound_in item.words) (declared_names items) (closure_names l) h in (other_holds item parts.0, others_hold items parts.1)
