-- Names of exports after which functions of closures are named: where no given name clashes, each stands for one pair of an export and an adapter, and
-- for nothing else.
use Rattle.std.proofs.Common.{◌≡◌, ℕ, List, [], ◌∷◌, ◌++◌, map, Bool, true, false, true≢false, not, None, refl, ap, sym, subst, ◌∙◌, inl, inr}
use Rattle.std.specs.List.{flat_map}
use Rattle.std.specs.Str.{bytes_eq}
use Rattle.std.proofs.lemmas.List.{append-nil}
use Rattle.values.specs.Lists.{IsIn, IsAway, AreDistinct, AreApart}
use Rattle.values.proofs.Members.{in_left, in_right}
use Rattle.wasm_core.specs.ids.ExportId.{ExportId}
use Rattle.glue_words.specs.Ident.{is_ident}
use Rattle.glue_words.proofs.Among.{apart_in, apart_split, distinct_parts}
use Rattle.glue_shared.specs.declared.description.Lowered.{Lowered}
use Rattle.glue_shared.specs.declared.settings.Settings.{Settings}
use Rattle.glue_shared.specs.Names.{fixed_names, host_names, is_one_of}
use Rattle.glue_faults.specs.declared.fault.Fault.TheVariants as faults
use Rattle.glue_faults.specs.Clash.{first_clash_after}
use Rattle.glue_faults.specs.First.{first_of}
use Rattle.glue_faults.proofs.First.{find-none, first_of-none, option_map-none}
use Rattle.glue_names.specs.Given.{closure_export, closure_names, given_names, kept, other_names, values_name}
use Rattle.glue_names.specs.Naming.{bad_closure, given_clash}
use Rattle.glue_names.specs.Once.{each_pair}
use Rattle.glue_names.proofs.EachOnce.{pair_from, pair_has}
use Rattle.glue_names.proofs.GivenNames.{imported_given, none_other, none_twice, reexported_given}
use Rattle.glue_names.proofs.Globals.{from_flat, in_flat}

-- ---- lists

-- a list behind which none stands
pub none_behind : {A : Type 0} (xs ys : List A) → ys ≡ [] → xs ≡ xs ++ ys
none_behind xs ys none = sym (ap (λ zs. xs ++ zs) none ∙ append-nil xs)

-- what two items give has nothing in common, where no item that is given stands twice
flat_apart : {A B : Type 0} (f : A → List B) (xs : List A) → AreDistinct (flat_map f xs) → (a b : A) → IsIn a xs → IsIn b xs → (a ≡ b → ⊥)
    → (y : B) → IsIn y (f a) → IsAway y (f b)
flat_apart f [] d a b i k differ y at there = i
flat_apart f (x ∷ xs) d a b (inl p) (inl q) differ y at there = differ (p ∙ sym q)
flat_apart f (x ∷ xs) d a b (inl p) (inr q) differ y at there =
    let parts = distinct_parts (f x) (flat_map f xs) d in
    apart_in y (f x) (flat_map f xs) parts.2 (subst (λ z. IsIn y (f z)) p at) (in_flat f xs b y q there)
flat_apart f (x ∷ xs) d a b (inr p) (inl q) differ y at there =
    let parts = distinct_parts (f x) (flat_map f xs) d in
    apart_in y (f x) (flat_map f xs) parts.2 (subst (λ z. IsIn y (f z)) q there) (in_flat f xs a y p at)
flat_apart f (x ∷ xs) d a b (inr p) (inr q) differ y at there =
    flat_apart f xs (distinct_parts (f x) (flat_map f xs) d).1 a b p q differ y at there

-- ---- which names they are

module _ (l : Lowered) where
  -- the name of the export of each pair is one of them
  pub closure_named : (pair : ExportId × ℕ) → IsIn pair l.wit.exports → (name : List ℕ) → IsIn name (closure_export l.«module» pair) → IsIn name (closure_names l)
  closure_named pair i name at = in_flat (closure_export l.«module») (each_pair l.wit.exports) pair name (pair_has pair l.wit.exports i) at

  -- and no other name is
  pub named_by_pair : (name : List ℕ) → IsIn name (closure_names l) → (pair : ExportId × ℕ) × IsIn pair l.wit.exports × IsIn name (closure_export l.«module» pair)
  named_by_pair name at =
      let r = from_flat (closure_export l.«module») (each_pair l.wit.exports) name at in
      (r.0, pair_from r.0 l.wit.exports r.1, r.2)

  -- each is given
  pub closure_given : (omitted : Bool) (name : List ℕ) → IsIn name (closure_names l) → IsIn name (given_names omitted l)
  closure_given omitted name at =
      in_left name (closure_names l)
      (imported_given omitted l.aux ++ (map values_name l.aux.string_enums ++ reexported_given omitted l.aux)) at

  not_false : (b : Bool) → not b ≡ false → b ≡ true
  not_false true h = refl
  not_false false h = absurd (true≢false h)

  -- where none is bad, each is an identifier
  pub closure_ident : first_of (bad_closure l.«module») l.wit.exports ≡ None → (name : List ℕ) → IsIn name (closure_names l) → is_ident name ≡ true
  closure_ident none name at =
      let r = named_by_pair name at in
      not_false (is_ident name) (find-none (λ name. not (is_ident name)) (closure_export l.«module» r.0) name
      (first_of-none (bad_closure l.«module») l.wit.exports r.0 none r.1) r.2)

-- ---- where no given name clashes

-- what is known of these names
pub record AreClosureNames (s : Settings) (l : Lowered) : Type 0 where
  -- none is the name of another pair's export
  pub apart : (pair other : ExportId × ℕ) → IsIn pair l.wit.exports → IsIn other l.wit.exports → (pair ≡ other → ⊥)
      → (name : List ℕ) → IsIn name (closure_export l.«module» pair) → IsAway name (closure_export l.«module» other)
  -- each stands once
  pub once : AreDistinct (closure_names l)
  -- none is a given name of another kind
  pub no_imported : AreApart (closure_names l) (imported_given s.omit_imports l.aux)
  pub no_values : AreApart (closure_names l) (map values_name l.aux.string_enums)
  pub no_reexported : AreApart (closure_names l) (reexported_given s.omit_imports l.aux)
  -- none is a name of the outside where imports are kept, or one that the glue file may bind
  pub no_host : (name : List ℕ) → IsIn name (closure_names l) → is_one_of (host_names (kept s) l.aux) name ≡ false
  pub no_fixed : (name : List ℕ) → IsIn name (closure_names l) → is_one_of (fixed_names s l.«module») name ≡ false

pub closures_named : (s : Settings) (l : Lowered) → given_clash s l ≡ None → AreClosureNames s l
closures_named s l none =
    let closures = closure_names l in
    let imported = imported_given s.omit_imports l.aux in
    let values = map values_name l.aux.string_enums in
    let later = reexported_given s.omit_imports l.aux in
    let given = given_names s.omit_imports l in
    let unmet = option_map-none faults.NameClash (first_clash_after bytes_eq (other_names s l) given) none in
    let parts = distinct_parts closures (imported ++ (values ++ later)) (none_twice (other_names s l) given unmet) in
    let first = apart_split closures imported (values ++ later) parts.2 in
    let second = apart_split closures values later first.1 in
    let other = λ (name : List ℕ) (at : IsIn name closures). none_other s l given name unmet (closure_given l s.omit_imports name at) in
    record {
      apart = λ pair next i k differ.
          flat_apart (closure_export l.«module») (each_pair l.wit.exports) parts.0 pair next (pair_has pair l.wit.exports i) (pair_has next l.wit.exports k) differ;
      once = parts.0;
      no_imported = first.0;
      no_values = second.0;
      no_reexported = second.1;
      no_host = λ name at. (other name at).0;
      no_fixed = λ name at. (other name at).1;
    }
