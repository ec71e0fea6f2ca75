-- What is known of the names of the lists of string enums in a description that has no fault: each is an identifier, stands for one list, and is
-- no name of the outside, and none that the glue file binds in each case.
use Rattle.std.proofs.Common.{◌≡◌, ℕ, List, ◌++◌, map, true, None, refl, inl, inr}
use Rattle.std.specs.List.{flat_map}
use Rattle.std.specs.Prelude.{not}
use Rattle.std.specs.Str.{bytes_eq}
use Rattle.values.specs.Lists.{IsIn, AreApart, AreDistinct}
use Rattle.values.proofs.Members.{in_left, in_right}
use Rattle.glue_words.specs.Ident.{is_ident}
use Rattle.glue_words.proofs.Among.{apart_by, apart_in, apart_split, distinct_parts}
use Rattle.glue_shared.specs.declared.aux.AuxStringEnum.{AuxStringEnum}
use Rattle.glue_shared.specs.declared.description.Lowered.{Lowered}
use Rattle.glue_shared.specs.declared.names.TheConstants.{HOSTS}
use Rattle.glue_shared.specs.declared.settings.Settings.{Settings}
use Rattle.glue_shared.specs.Names.{described_hosts, described_names, fixed_names, host_names}
use Rattle.glue_faults.specs.declared.fault.Fault.TheVariants as faults
use Rattle.glue_faults.specs.Clash.{first_clash_after}
use Rattle.glue_faults.specs.First.{first_of}
use Rattle.glue_faults.proofs.First.{first_of-none, option_map-none, where_true-none}
use Rattle.glue_names.specs.Given.{closure_names, given_names, kept, other_names, values_name}
use Rattle.glue_names.specs.Naming.{bad_values}
use Rattle.glue_names.proofs.GivenNames.{either_host, imported_given, none_other, none_twice, omitted_either, reexported_given}
use Rattle.glue_names.proofs.Globals.{described_host, from_flat}
use Rattle.glue_names.proofs.MappedLists.{from_map}
use Rattle.glue_check.specs.Verdict.{verdict}
use Rattle.glue_check.proofs.BuiltForm.{away, not_false}
use Rattle.glue_check.proofs.Passed.{given_apart, no_bad, no_clashes}

module _ (s : Settings) (l : Lowered) where
  -- the names of the lists of all string enums
  abbrev pub values : List (List ℕ)
  values = map values_name l.aux.string_enums

  -- they are identifiers, none twice, none that the file binds in each case, and none of the host, of each file or of a described name
  pub record AreListNames : Type 0 where
    pub idents : (name : List ℕ) → IsIn name values → is_ident name ≡ true
    pub once : AreDistinct values
    pub no_fixed : AreApart values (fixed_names s l.«module»)
    pub no_common : AreApart values (map (λ w. w.now) HOSTS)
    pub no_described : AreApart values (flat_map (described_hosts s.omit_imports) (described_names l.aux))

module _ (s : Settings) (l : Lowered) (passed : verdict s l ≡ None) where
  value_ident : (e : AuxStringEnum) → IsIn e l.aux.string_enums → is_ident (values_name e) ≡ true
  unfolding bad_values
  value_ident e i =
      let bad = no_bad s l passed (first_of bad_values l.aux.string_enums) (inr (inr (inr (inr (inl refl))))) in
      let none = first_of-none bad_values l.aux.string_enums e bad i in
      not_false (is_ident (values_name e)) (where_true-none (not (is_ident (values_name e))) (values_name e) none)

  -- given names are those that closures call, those from modules, those of lists, and others from modules
  abbrev first : List (List ℕ)
  first = imported_given s.omit_imports l.aux

  abbrev later : List (List ℕ)
  later = reexported_given s.omit_imports l.aux

  abbrev given : List (List ℕ)
  given = given_names s.omit_imports l

  value_given : (name : List ℕ) → IsIn name (values s l) → IsIn name given
  value_given name i =
      in_right name (closure_names l) (first ++ (values s l ++ later)) (in_right name first (values s l ++ later) (in_left name (values s l) later i))

  none_given : first_clash_after bytes_eq (other_names s l) given ≡ None
  none_given = option_map-none faults.NameClash (first_clash_after bytes_eq (other_names s l) given) (no_clashes s l passed).0

  once : AreDistinct first × AreDistinct (values s l ++ later) × AreApart first (values s l ++ later)
  once =
      let all = distinct_parts (closure_names l) (first ++ (values s l ++ later)) (none_twice (other_names s l) given none_given) in
      distinct_parts first (values s l ++ later) all.1

  behind : AreDistinct (values s l) × AreDistinct later × AreApart (values s l) later
  behind = distinct_parts (values s l) later once.1

  -- none is of the outside where imports are kept
  no_kept : AreApart (values s l) (host_names (kept s) l.aux)
  no_kept =
      apart_by (values s l) (host_names (kept s) l.aux) (λ name i.
      away name (host_names (kept s) l.aux) (none_other s l given name none_given (value_given name i)).0)

  no_common : AreApart (values s l) (map (λ w. w.now) HOSTS)
  unfolding host_names
  no_common = (apart_split (values s l) (map (λ w. w.now) HOSTS) _ no_kept).0

  no_described : AreApart (values s l) (flat_map (described_hosts s.omit_imports) (described_names l.aux))
  no_described =
      apart_by (values s l) (flat_map (described_hosts s.omit_imports) (described_names l.aux)) (λ name i k.
      let r = from_flat (described_hosts s.omit_imports) (described_names l.aux) name k in
      elim (either_host s.omit_imports r.0 name r.2) [
        | inl here ↦ apart_in name (values s l) (host_names (kept s) l.aux) no_kept i (described_host (kept s) l r.0 r.1 name here)
        | inr named ↦ elim (omitted_either s.omit_imports l.aux r.0 r.1 name named) [
          | inl before ↦ apart_in name first (values s l ++ later) once.2 before (in_left name (values s l) later i)
          | inr after ↦ apart_in name (values s l) later behind.2 i after
        ]
      ])

  pub lists_named : AreListNames s l
  lists_named = record {
    idents = λ name i. let r = from_map values_name name l.aux.string_enums i in rw r.2 (value_ident r.0 r.1);
    once = behind.0;
    no_fixed = apart_by (values s l) (fixed_names s l.«module») (λ name i. given_apart s l passed name (value_given name i));
    no_common = no_common;
    no_described = no_described;
  }
