-- What is known of the names of the functions of closures in a description that has no fault: each is an identifier, stands for one adapter, and is
-- no name of the outside, none that the glue file binds in each case, and none that is drawn.
use Rattle.glue_context.proofs.Common.{◌≡◌, ℕ, zero, suc, ◌==◌, inl, inr, List, [], ◌∷◌, ◌++◌, flat_map, map, Bool, true, false, true≢false, Option, Some, None, refl, sym, ap, ◌∙◌, subst, option_map, IsIn, AreApart, AreDistinct, in_left, HOSTS, Lowered, Settings, verdict, fixed_names, host_names, described_hosts, callback_name, entry_at}
use Rattle.std.specs.Prelude.{cond, find, option_and_then}
use Rattle.std.specs.FinSet as set
use Rattle.std.proofs.lemmas.Bool.{eq-eqb, eqb-true}
use Rattle.std.proofs.lemmas.Option.{same_Some}
use Rattle.wasm_core.specs.entries.Export.{Export}
use Rattle.wasm_core.specs.ids.ExportId.{ExportId}
use Rattle.glue_words.specs.Ident.{is_ident}
use Rattle.glue_words.proofs.Among.{apart_by, apart_in, apart_split}
use Rattle.glue_scope.proofs.Drawn.{with_texts_there}
use Rattle.glue_shared.specs.Names.{described_names}
use Rattle.glue_faults.specs.First.{first_of}
use Rattle.glue_steps.specs.Resolving.{name_at_place}
use Rattle.glue_names.specs.Given.{closure_export, closure_names, export_name_at, kept, values_name}
use Rattle.glue_names.specs.Naming.{bad_closure}
use Rattle.glue_names.specs.Taken.{taken_names}
use Rattle.glue_names.proofs.ClosureNames.{AreClosureNames, closure_ident, closure_named, closures_named, named_by_pair}
use Rattle.glue_names.proofs.GivenNames.{either_host, imported_given, omitted_either, reexported_given}
use Rattle.glue_names.proofs.Globals.{described_host, from_flat, in_flat}
use Rattle.glue_check.proofs.BuiltForm.{away}
use Rattle.glue_check.proofs.Passed.{no_bad, no_clashes}
use Rattle.glue_naming.specs.Given.{bundled_names, given_names, reserved_names}

-- what is found passes the test, and is one of those that are searched
found_there : {A : Type 0} (test : A → Bool) (xs : List A) (x : A) → find test xs ≡ Some x → IsIn x xs × (test x ≡ true)
found_there test [] x h = cc
found_there test (y ∷ ys) x h = by (test y) refl h (found_there test ys x)
  where
    by : (b : Bool) → test y ≡ b → cond b (Some y) (find test ys) ≡ Some x → (find test ys ≡ Some x → IsIn x ys × (test x ≡ true))
        → IsIn x (y ∷ ys) × (test x ≡ true)
    by true passes h later = let same = same_Some y x h in (inl (sym same), ap test (sym same) ∙ passes)
    by false passes h later = let r = later h in (inr r.0, r.1)

-- the name of an export that stands
named_at : (exports : List (Option Export)) (place : ℕ) (name : List ℕ) → option_map (λ (e : Export). e.name) (entry_at exports place) ≡ Some name
    → IsIn name (export_name_at exports place)
named_at [] place name h = cc
named_at (None ∷ exports) zero name h = cc
named_at (Some e ∷ exports) zero name h = inl (sym (same_Some e.name name h))
named_at (entry ∷ exports) (suc place) name h = named_at exports place name h

-- ---- of which adapter each is

module _ (l : Lowered) where
  -- the pair of an export and an adapter that gives the function of a closure's adapter its name
  record HasPair (id : ℕ) (name : List ℕ) : Type 0 where
    pair : ExportId × ℕ
    described : IsIn pair l.wit.exports
    of : pair.1 ≡ id
    named : IsIn name (closure_export l.«module» pair)

  pair_of : (id : ℕ) (name : List ℕ) → callback_name l id ≡ Some name → HasPair id name
  pair_of id name h = by (find (λ (e : ExportId × ℕ). e.1 == id) l.wit.exports) refl h
    where
      by : (o : Option (ExportId × ℕ)) → find (λ (e : ExportId × ℕ). e.1 == id) l.wit.exports ≡ o
          → option_and_then (name_at_place l.«module») (option_map (λ (e : ExportId × ℕ). e.0) o) ≡ Some name → HasPair id name
      by None found h = cc
      by (Some pair) found h =
          let r = found_there (λ (e : ExportId × ℕ). e.1 == id) l.wit.exports pair found in
          record { pair = pair; described = r.0; of = eqb-true pair.1 id r.1; named = named_at l.«module».exports pair.0.0 name h }

  -- it is one of all such names
  pub callback_listed : (id : ℕ) (name : List ℕ) → callback_name l id ≡ Some name → IsIn name (closure_names l)
  callback_listed id name h = let p = pair_of id name h in closure_named l p.pair p.described name p.named

  -- no two adapters have one name
  abbrev pub AreOfOne : Type 0
  AreOfOne = (first second : ℕ) (name : List ℕ) → callback_name l first ≡ Some name → callback_name l second ≡ Some name → first ≡ second

module _ (s : Settings) (l : Lowered) where
  -- the names are identifiers, each of one adapter, none twice, none that of a list of a string enum, none that the file binds in each case, and none
  -- of the host, of each file or of a described name
  pub record AreCallbackNames : Type 0 where
    pub idents : (name : List ℕ) → IsIn name (closure_names l) → is_ident name ≡ true
    pub of_one : AreOfOne l
    pub no_values : AreApart (closure_names l) (map values_name l.aux.string_enums)
    pub no_fixed : AreApart (closure_names l) (fixed_names s l.«module»)
    pub no_common : AreApart (closure_names l) (map (λ w. w.now) HOSTS)
    pub no_described : AreApart (closure_names l) (flat_map (described_hosts s.omit_imports) (described_names l.aux))

-- ---- where there is no fault

module _ (s : Settings) (l : Lowered) (passed : verdict s l ≡ None) where
  known : AreClosureNames s l
  known = closures_named s l (no_clashes s l passed).0

  of_one : AreOfOne l
  of_one first second name h k = by (first == second) refl
    where
      by : (b : Bool) → (first == second) ≡ b → first ≡ second
      by true q = eqb-true first second q
      by false q =
          let a = pair_of l first name h in
          let c = pair_of l second name k in
          absurd (known.apart a.pair c.pair a.described c.described (λ same.
          true≢false (sym (eq-eqb first second (sym a.of ∙ ap (λ (p : ExportId × ℕ). p.1) same ∙ c.of)) ∙ q)) name a.named c.named)

  -- none is of the outside where imports are kept
  no_kept : AreApart (closure_names l) (host_names (kept s) l.aux)
  no_kept = apart_by (closure_names l) (host_names (kept s) l.aux) (λ name i. away name (host_names (kept s) l.aux) (known.no_host name i))

  no_common : AreApart (closure_names l) (map (λ w. w.now) HOSTS)
  unfolding host_names
  no_common = (apart_split (closure_names l) (map (λ w. w.now) HOSTS) _ no_kept).0

  no_described : AreApart (closure_names l) (flat_map (described_hosts s.omit_imports) (described_names l.aux))
  no_described =
      apart_by (closure_names l) (flat_map (described_hosts s.omit_imports) (described_names l.aux)) (λ name i k.
      let r = from_flat (described_hosts s.omit_imports) (described_names l.aux) name k in
      elim (either_host s.omit_imports r.0 name r.2) [
        | inl here ↦ apart_in name (closure_names l) (host_names (kept s) l.aux) no_kept i (described_host (kept s) l r.0 r.1 name here)
        | inr named ↦ elim (omitted_either s.omit_imports l.aux r.0 r.1 name named) [
          | inl before ↦ apart_in name (closure_names l) (imported_given s.omit_imports l.aux) known.no_imported i before
          | inr after ↦ apart_in name (closure_names l) (reexported_given s.omit_imports l.aux) known.no_reexported i after
        ]
      ])

  pub callbacks_named : AreCallbackNames s l
  callbacks_named = record {
    idents = closure_ident l (no_bad s l passed (first_of (bad_closure l.«module») l.wit.exports) (inl refl));
    of_one = of_one;
    no_values = known.no_values;
    no_fixed = apart_by (closure_names l) (fixed_names s l.«module») (λ name i. away name (fixed_names s l.«module») (known.no_fixed name i));
    no_common = no_common;
    no_described = no_described;
  }

-- ---- drawn names

module _ (s : Settings) (l : Lowered) where
  -- all are reserved
  callback_reserved : (name : List ℕ) → IsIn name (closure_names l) → set.contains (reserved_names s l) name ≡ true
  callback_reserved name i =
      let r = named_by_pair l name i in
      let exported = flat_map (closure_export l.«module») l.wit.exports in
      with_texts_there (taken_names s l) (given_names s l) name
      (in_left name exported (map values_name l.aux.string_enums ++ bundled_names s l)
      (in_flat (closure_export l.«module») l.wit.exports r.0 name r.1 r.2))

  -- so names that aren't reserved are none of them
  pub free_no_callbacks : (names : List (List ℕ)) → ((name : List ℕ) → IsIn name names → set.contains (reserved_names s l) name ≡ false)
      → AreApart names (closure_names l)
  free_no_callbacks names free = apart_by names (closure_names l) (λ name i k. true≢false (sym (callback_reserved name k) ∙ free name i))
