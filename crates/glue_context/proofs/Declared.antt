-- The names that the glue file declares beside those that are drawn: of foreign modules, of the frame and of loading, and of helpers. They are
-- fixed names, none of them twice and none of the host.
use Rattle.glue_context.proofs.Common.{◌≡◌, ℕ, zero, suc, ◌+◌, ◌<◌, inl, inr, List, [], ◌∷◌, ◌++◌, map, Bool, true, false, true≢false, refl, sym, ap, subst, arith, length, codes, bytes_eq-Decides, list_any, Option, Some, None, IsIn, IsAway, AreDistinct, AreAmong, AreApart, distinct_both, HOSTS, TARGET_NAMES, fixed_names, helper_names, import_names, live_count, global_names, is_one_of, Settings, Contents, module_at, modules_from}
use Rattle.std.specs.Prelude.{◌||◌, ◌≤◌, ◌^◌, cond, drop, is_some, slice_get}
use Rattle.std.specs.Fmt.{decimal}
use Rattle.std.specs.List.{list_all}
use Rattle.std.proofs.lemmas.{Fmt.decimal_injective, Bool.and_parts, Bool.Decides.nat_tests, List.Sums.sum_by-cons, List.length-append}
use Rattle.values.proofs.Members.{in_either, in_left, in_right}
use Rattle.glue_names.proofs.MappedLists.{in_map}
use Rattle.glue_words.proofs.{Among.among_by, Among.among_in, Among.among_left, Among.among_right, Among.among_trans, Among.among_both, Among.among_itself, Among.apart_swap, Among.apart_among, Among.apart_by, Among.apart_in, Among.apart_both, Among.apart_joined, Among.apart_parts, Among.apart_split}
use Rattle.glue_words.specs.Facts.{facts}
use Rattle.glue_words.specs.Ident.{is_ident}
use Rattle.glue_lines.specs.Lines.{foreign_line}
use Rattle.glue_shared.specs.declared.names.TheConstants.{HELPER_NAMES, MEMORY_NAMES, TABLE_NAMES}
use Rattle.glue_shared.specs.Names.{has_number, placed_names}
use Rattle.glue_shared.specs.Roots.{is_entry}
use Rattle.glue_targets.specs.Targets.{module_name}
use Rattle.glue_targets.proofs.FixedTexts.{start_binds}
use Rattle.glue_targets.proofs.FrameEnd.{module_names, modules_apart, own_name}
use Rattle.glue_words.proofs.Belonging.{Context}
use Rattle.glue_lines.specs.declared.form.LineForm.TheVariants.{Es}
use Rattle.glue_lines.proofs.LineFacts.{foreign_fits, foreign_holds}
use Rattle.glue_check.proofs.BuiltForm.{away}
use Rattle.helper_table.specs.declared.parts.HelperParts.{HelperParts}
use Rattle.helper_table.specs.declared.parts.TableExport.{TableExport}
use Rattle.helper_table.specs.Names.{single_names}
use Rattle.helper_table.proofs.ListedNames.{IsListed, is_unlisted, listed_away}
use Rattle.helper_table.proofs.SuppliedNames.{memory_stems, table_stems}
use Rattle.glue_context.specs.Foreign.{is_strings}

-- ---- tests of names

-- a text that is found is one of them
pub among_is : (name : List ℕ) (names : List (List ℕ)) → is_one_of names name ≡ true → IsIn name names
among_is name [] h = absurd (true≢false (sym h))
among_is name (other ∷ names) h = let rest = among_is name names in let same = bytes_eq-Decides other name in grind arith

pub all_found : (names xs : List (List ℕ)) → list_all (is_one_of names) xs ≡ true → AreAmong xs names
all_found names [] h = tt
all_found names (x ∷ xs) h = let rest = all_found names xs in let here = among_is x names in grind arith

either_false : (a b : Bool) → (a || b) ≡ false → (a ≡ false) × (b ≡ false)
either_false true b h = absurd (true≢false h)
either_false false b h = (refl, h)

pub none_found : (names xs : List (List ℕ)) → list_any (is_one_of names) xs ≡ false → AreApart xs names
none_found names [] h = tt
none_found names (x ∷ xs) h =
    let p = either_false (is_one_of names x) (list_any (is_one_of names) xs) h in (away x names p.0, none_found names xs p.1)

-- ---- names of modules

-- the name of a module is among those with the numbers up to one that is no less
named_in : (k n : ℕ) → k ≤ n → IsIn (module_name k) (import_names n)
named_in k zero le = let e : k ≡ 0 = omega (arith, le) in inl (ap module_name e)
named_in k (suc n) le = let rest = named_in k n in grind (arith, nat_tests)

pub modules_within : (from : ℕ) (paths : List (List ℕ)) (n : ℕ) → from + length paths ≤ n + 1 → AreAmong (module_names from paths) (import_names n)
modules_within from [] n le = tt
modules_within from (path ∷ paths) n le =
    (named_in from n (omega (arith, le)), modules_within (from + 1) paths n (omega (arith, le)))

-- a number is behind the name
number_of : (k n : ℕ) → k < 2 ^ 64 → n < 2 ^ 64 → module_name k ≡ module_name n → k ≡ n
number_of k n p q e = decimal_injective k n p q (ap (λ (ds : List ℕ). drop 6 ds) e)

-- the names of later modules are others
pub later_away : (k from : ℕ) (paths : List (List ℕ)) → k < from → from + length paths < 2 ^ 64 → IsAway (module_name k) (module_names from paths)
later_away k from [] less small at = at
later_away k from (path ∷ paths) less small (inl same) =
    let e = number_of k from (omega (arith, less, small)) (omega (arith, small)) same in omega (arith, less, e)
later_away k from (path ∷ paths) less small (inr at) =
    later_away k (from + 1) paths (omega (arith, less)) (omega (arith, small)) at

pub modules_distinct : (from : ℕ) (paths : List (List ℕ)) → from + length paths < 2 ^ 64 → AreDistinct (module_names from paths)
modules_distinct from [] small = tt
modules_distinct from (path ∷ paths) small =
    (later_away from (from + 1) paths (omega arith) (omega (arith, small)), modules_distinct (from + 1) paths (omega (arith, small)))

-- it is an identifier
module_ident : (n : ℕ) → n < 2 ^ 64 → is_ident (module_name n) ≡ true
module_ident n small =
    let none : Context = record { hosts = []; exports = []; keys = []; declared = [] } in
    let fit = foreign_fits Es n [] none small tt in
    let f = facts (foreign_line Es n []).words in
    let behind = f.uses ++ (f.hosts ++ f.local_binds) in
    (and_parts (is_ident (module_name n)) (list_all is_ident behind)
    (subst (λ (ns : List (List ℕ)). list_all is_ident (ns ++ behind) ≡ true) (foreign_holds Es n []).binds fit.idents)).0

pub modules_idents : (from : ℕ) (paths : List (List ℕ)) → from + length paths < 2 ^ 64 → list_all is_ident (module_names from paths) ≡ true
modules_idents from [] small = refl
modules_idents from (path ∷ paths) small =
    rw (module_ident from (omega (arith, small)), modules_idents (from + 1) paths (omega (arith, small))) refl

-- ---- how many foreign modules there are

place_count : (own : List ℕ) (place : ℕ) (o : Option (List ℕ)) → length (module_at own place o) ≤ cond (is_some o) 1 0
place_count own place None = omega arith
place_count own place (Some path) = by (has_number place own || is_strings path)
  where
    by : (b : Bool) → length (cond b [] (path ∷ [])) ≤ 1
    by true = omega arith
    by false = omega arith

pub modules_few : (own : List ℕ) (place : ℕ) (paths : List (Option (List ℕ))) → length (modules_from own place paths) ≤ live_count paths
modules_few own place [] = omega arith
modules_few own place (o ∷ os) =
    let here = place_count own place o in
    let rest = modules_few own (place + 1) os in
    let both = length-append (module_at own place o) (modules_from own (place + 1) os) in
    subst (λ (n : ℕ). length (modules_from own place (o ∷ os)) ≤ n) (sym (sum_by-cons (λ (x : Option (List ℕ)). cond (is_some x) 1 0) o os))
    (omega (arith, both, here, rest))

-- ---- all of them

-- what loading declares
abbrev pub loading_bound : List (List ℕ)
loading_bound = codes "wasmUrl" ∷ codes "wasmInstantiated" ∷ codes "wasmInstance" ∷ codes "wasm" ∷ []

-- the host's names that each file has
abbrev pub host_texts : List (List ℕ)
host_texts = map (λ w. w.now) HOSTS

-- the frame declares its own module, with the memory and without
pub own_framed : (memory : Bool) → IsIn (codes "import0") (start_binds memory)
own_framed false = inr (inl refl)
own_framed true = inr (inr (inl refl))

start_within : (memory : Bool) → AreAmong (start_binds memory) (start_binds true)
start_within false = (inl refl, (inr (inr (inl refl)), tt))
start_within true = among_itself (start_binds true)

start_distinct : (memory : Bool) → AreDistinct (start_binds memory)
start_distinct false = grind arith
start_distinct true = grind arith

start_apart : (memory : Bool) (names : List (List ℕ)) → AreApart (start_binds true) names → AreApart (start_binds memory) names
start_apart memory names h = apart_among (start_binds memory) (start_binds true) names (start_within memory) h

-- the memories and the table whose exports are given to helpers stand
pub record AreStanding (m : Contents) (parts : HelperParts) : Type 0 where
  pub memories : (n : ℕ) (export : List ℕ) → slice_get parts.memories n ≡ Some (Some export) → is_entry (slice_get m.memories n) ≡ true
  pub table : (t : TableExport) → parts.table ≡ Some t → is_entry (slice_get m.tables t.place) ≡ true

-- a name with the place of an entry that stands is among those with the places of entries
placed_in : {A : Type 0} (stems : List (List ℕ)) (stem : List ℕ) → IsIn stem stems → (from n : ℕ) (entries : List (Option A))
    → is_entry (slice_get entries n) ≡ true → IsIn (stem ++ decimal (from + n)) (placed_names stems from entries)
placed_in stems stem at from n [] h = absurd (true≢false (sym h))
placed_in stems stem at from zero (None ∷ entries) h = absurd (true≢false (sym h))
placed_in stems stem at from zero (Some entry ∷ entries) h =
    let same : from ≡ from + 0 = omega arith in
    in_left (stem ++ decimal (from + 0)) (map (λ (x : List ℕ). x ++ decimal from) stems) (placed_names stems (from + 1) entries)
    (subst (λ (k : ℕ). IsIn (stem ++ decimal k) (map (λ (x : List ℕ). x ++ decimal from) stems)) same
    (in_map (λ (x : List ℕ). x ++ decimal from) stem stems at))
placed_in stems stem at from (suc n) (None ∷ entries) h =
    let same : from + 1 + n ≡ from + suc n = omega arith in
    subst (λ (k : ℕ). IsIn (stem ++ decimal k) (placed_names stems (from + 1) entries)) same (placed_in stems stem at (from + 1) n entries h)
placed_in stems stem at from (suc n) (Some entry ∷ entries) h =
    let same : from + 1 + n ≡ from + suc n = omega arith in
    in_right (stem ++ decimal (from + suc n)) (map (λ (x : List ℕ). x ++ decimal from) stems) (placed_names stems (from + 1) entries)
    (subst (λ (k : ℕ). IsIn (stem ++ decimal k) (placed_names stems (from + 1) entries)) same (placed_in stems stem at (from + 1) n entries h))

-- the same, where the first entry has the place 0
placed_first : {A : Type 0} (stems : List (List ℕ)) (stem : List ℕ) → IsIn stem stems → (n : ℕ) (entries : List (Option A))
    → is_entry (slice_get entries n) ≡ true → IsIn (stem ++ decimal n) (placed_names stems 0 entries)
placed_first stems stem at n entries h =
    let same : 0 + n ≡ n = omega arith in
    subst (λ (k : ℕ). IsIn (stem ++ decimal k) (placed_names stems 0 entries)) same (placed_in stems stem at 0 n entries h)

-- names of modules are none of helpers
lines_unlisted : (from : ℕ) (paths : List (List ℕ)) → list_all is_unlisted (module_names from paths) ≡ true
lines_unlisted from [] = refl
lines_unlisted from (path ∷ paths) = lines_unlisted (from + 1) paths

-- names of helpers that are held, and of these foreign modules, beside the drawn ones, where the frame takes the memory or not
module _ (s : Settings) (m : Contents) (paths held : List (List ℕ)) (memory : Bool) (few : length paths ≤ live_count m.imports)
    (small : length paths < 2 ^ 32) (parts : HelperParts) (stands : AreStanding m parts)
    (listed : (name : List ℕ) → IsIn name held → IsListed parts name) where
  abbrev pub lines : List (List ℕ)
  lines = module_names 1 paths

  abbrev pub own_names : List (List ℕ)
  own_names = lines ++ (start_binds memory ++ (held ++ loading_bound))

  abbrev rest_names : List (List ℕ)
  rest_names = import_names (live_count m.imports) ++ global_names s.target

  -- a name that a helper may bind is a fixed one
  pub listed_fixed : (name : List ℕ) → IsListed parts name → IsIn name (fixed_names s m)
  unfolding fixed_names helper_names
  listed_fixed name h =
      in_right name (map (λ w. w.now) TARGET_NAMES) (helper_names m ++ rest_names) (in_left name (helper_names m) rest_names (by h))
    where
      helpers : List (List ℕ)
      helpers = map (λ w. w.now) HELPER_NAMES

      of_memories : List (List ℕ)
      of_memories = map (λ w. w.now) MEMORY_NAMES

      of_tables : List (List ℕ)
      of_tables = map (λ w. w.now) TABLE_NAMES

      by : IsListed parts name → IsIn name (helpers ++ (placed_names of_memories 0 m.memories ++ placed_names of_tables 0 m.tables))
      by (inl at) =
          in_left name helpers (placed_names of_memories 0 m.memories ++ placed_names of_tables 0 m.tables)
          (among_in name single_names helpers (all_found helpers single_names refl) at)
      by (inr (inl o)) =
          in_right name helpers (placed_names of_memories 0 m.memories ++ placed_names of_tables 0 m.tables)
          (in_left name (placed_names of_memories 0 m.memories) (placed_names of_tables 0 m.tables)
          (subst (λ (x : List ℕ). IsIn x (placed_names of_memories 0 m.memories)) (sym o.told)
          (placed_first of_memories o.stem (among_in o.stem memory_stems of_memories (all_found of_memories memory_stems refl) o.listed) o.place m.memories
          (stands.memories o.place o.export o.given))))
      by (inr (inr o)) =
          in_right name helpers (placed_names of_memories 0 m.memories ++ placed_names of_tables 0 m.tables)
          (in_right name (placed_names of_memories 0 m.memories) (placed_names of_tables 0 m.tables)
          (subst (λ (x : List ℕ). IsIn x (placed_names of_tables 0 m.tables)) (sym o.told)
          (placed_first of_tables o.stem (among_in o.stem table_stems of_tables (all_found of_tables table_stems refl) o.listed) o.«export».place m.tables
          (stands.table o.«export» o.given))))

  -- they are fixed names
  pub own_fixed : AreAmong own_names (fixed_names s m)
  unfolding fixed_names helper_names
  own_fixed =
      let targets = map (λ w. w.now) TARGET_NAMES in
      let imports = import_names (live_count m.imports) in
      let by_target = λ (xs : List (List ℕ)) (h : AreAmong xs targets). among_left xs targets (helper_names m ++ rest_names) h in
      let by_import = λ (xs : List (List ℕ)) (h : AreAmong xs imports).
      among_right xs targets (helper_names m ++ rest_names) (among_right xs (helper_names m) rest_names (among_left xs imports (global_names s.target) h)) in
      let first = subst (λ (name : List ℕ). IsIn name imports) own_name (named_in 0 (live_count m.imports) (omega arith)) in
      let taken = codes "__wbg_get_imports" ∷ codes "memory" ∷ [] in
      let frame = by_target taken (all_found targets taken refl) in
      let named = by_import (codes "import0" ∷ []) (first, tt) in
      among_both lines (start_binds memory ++ (held ++ loading_bound)) (fixed_names s m)
      (by_import lines (let l = few in modules_within 1 paths (live_count m.imports) (omega (arith, l))))
      (among_both (start_binds memory) (held ++ loading_bound) (fixed_names s m)
      (among_trans (start_binds memory) (start_binds true) (fixed_names s m) (start_within memory) (frame.0, (frame.1.0, (named.0, tt))))
      (among_both held loading_bound (fixed_names s m) (among_by held (fixed_names s m) (λ name at. listed_fixed name (listed name at)))
      (by_target loading_bound (all_found targets loading_bound refl))))

  -- apart from one another
  wide : 1 + length paths < 2 ^ 64
  wide = let h = small in omega (arith, h)

  lines_frame : AreApart lines (start_binds memory)
  lines_frame =
      let taken = codes "__wbg_get_imports" ∷ codes "memory" ∷ [] in
      let away = apart_swap lines taken (modules_apart taken refl 1 paths) in
      let first = subst (λ (name : List ℕ). IsAway name lines) own_name (later_away 0 1 paths (omega arith) wide) in
      apart_swap (start_binds memory) lines (start_apart memory lines (away.0, (away.1.0, (first, tt))))

  held_apart : (names : List (List ℕ)) → list_all is_unlisted names ≡ true → AreApart held names
  held_apart names h = apart_by held names (λ name at. listed_away parts names h name (listed name at))

  lines_held : AreApart lines held
  lines_held = apart_swap held lines (held_apart lines (lines_unlisted 1 paths))

  lines_loading : AreApart lines loading_bound
  lines_loading = modules_apart loading_bound refl 1 paths

  frame_held : AreApart (start_binds memory) held
  frame_held =
      start_apart memory held (apart_swap held (start_binds true) (held_apart (start_binds true) refl))

  held_loading : AreApart held loading_bound
  held_loading = held_apart loading_bound refl

  -- none is a name that the host has in each file
  pub own_no_hosts : AreApart own_names host_texts
  own_no_hosts =
      apart_both lines (start_binds memory ++ (held ++ loading_bound)) host_texts (modules_apart host_texts refl 1 paths)
      (apart_both (start_binds memory) (held ++ loading_bound) host_texts (start_apart memory host_texts (none_found host_texts (start_binds true) refl))
      (apart_both held loading_bound host_texts (held_apart host_texts refl) (none_found host_texts loading_bound refl)))

  frame_behind : AreApart (start_binds memory) (held ++ loading_bound)
  frame_behind = apart_joined (start_binds memory) held loading_bound frame_held (start_apart memory loading_bound (none_found loading_bound (start_binds true) refl))

  lines_behind : AreApart lines (held ++ loading_bound)
  lines_behind = apart_joined lines held loading_bound lines_held lines_loading

  -- names that are apart from the own ones
  record AreApartFromOwn (names : List (List ℕ)) : Type 0 where
    from_lines : AreApart names lines
    from_frame : AreApart names (start_binds memory)
    behind : AreApart names (held ++ loading_bound)

  from_own : (names : List (List ℕ)) → AreApart names own_names → AreApartFromOwn names
  from_own names h =
      let first = apart_split names lines (start_binds memory ++ (held ++ loading_bound)) h in
      let second = apart_split names (start_binds memory) (held ++ loading_bound) first.1 in
      record { from_lines = first.0; from_frame = second.0; behind = second.1 }

  -- names that are drawn, for imports of described modules, for vendors' names and for exports, and those that are given to functions of closures
  -- and lists of string enums: all are distinct, and none is an own one
  pub record AreDrawn (imported constants names given : List (List ℕ)) : Type 0 where
    pub imports_once : AreDistinct imported
    pub constants_once : AreDistinct constants
    pub names_once : AreDistinct names
    pub given_once : AreDistinct given
    pub imports_constants : AreApart imported constants
    pub imports_names : AreApart imported names
    pub constants_names : AreApart constants names
    pub imports_given : AreApart imported given
    pub constants_given : AreApart constants given
    pub names_given : AreApart names given
    pub imports_own : AreApart imported own_names
    pub constants_own : AreApart constants own_names
    pub names_own : AreApart names own_names
    pub given_own : AreApart given own_names

  -- what the file declares: names of described modules, of foreign ones, and of vendors, those of exports, of the frame, and given ones, those of
  -- helpers, and of loading
  module _ (imported constants names given : List (List ℕ)) where
    abbrev framed : List (List ℕ)
    framed = start_binds memory ++ given

    abbrev pub framed_names : List (List ℕ)
    framed_names = imported ++ (lines ++ (constants ++ (names ++ framed)))

    abbrev pub all_names : List (List ℕ)
    all_names = framed_names ++ (held ++ loading_bound)

    -- none stands twice
    pub all_distinct : AreDistinct held → AreDrawn imported constants names given → AreDistinct all_names
    all_distinct h d =
        let i = from_own imported d.imports_own in
        let c = from_own constants d.constants_own in
        let n = from_own names d.names_own in
        let v = from_own given d.given_own in
        let published = names ++ framed in
        let more = constants ++ published in
        let back : AreDistinct loading_bound = grind arith in
        let ended = distinct_both (start_binds memory) given (start_distinct memory) d.given_once (apart_swap given (start_binds memory) v.from_frame) in
        let named = distinct_both names framed d.names_once ended (apart_joined names (start_binds memory) given n.from_frame d.names_given) in
        let held_too = distinct_both constants published d.constants_once named (apart_joined constants names framed d.constants_names
        (apart_joined constants (start_binds memory) given c.from_frame d.constants_given)) in
        let lined = distinct_both lines more (modules_distinct 1 paths wide) held_too
        (apart_joined lines constants published (apart_swap constants lines c.from_lines)
        (apart_joined lines names framed (apart_swap names lines n.from_lines)
        (apart_joined lines (start_binds memory) given lines_frame (apart_swap given lines v.from_lines)))) in
        let whole = distinct_both imported (lines ++ more) d.imports_once lined
        (apart_joined imported lines more i.from_lines (apart_joined imported constants published d.imports_constants
        (apart_joined imported names framed d.imports_names
        (apart_joined imported (start_binds memory) given i.from_frame d.imports_given)))) in
        let behind = held ++ loading_bound in
        distinct_both framed_names behind whole (distinct_both held loading_bound h back held_loading)
        (apart_both imported (lines ++ more) behind i.behind (apart_both lines more behind lines_behind
        (apart_both constants published behind c.behind (apart_both names framed behind n.behind
        (apart_both (start_binds memory) given behind frame_behind v.behind)))))

    -- what own names and the drawn ones are apart from, all are
    pub all_apart : (others : List (List ℕ)) → AreApart imported others → AreApart constants others → AreApart names others → AreApart given others
        → AreApart own_names others → AreApart all_names others
    all_apart others i c n v own =
        let behind = held ++ loading_bound in
        let first = apart_parts lines (start_binds memory ++ behind) others own in
        let second = apart_parts (start_binds memory) behind others first.1 in
        let published = names ++ framed in
        let more = constants ++ published in
        apart_both framed_names behind others
        (apart_both imported (lines ++ more) others i (apart_both lines more others first.0
        (apart_both constants published others c (apart_both names framed others n
        (apart_both (start_binds memory) given others second.0 v))))) second.1

    -- what stands whatever helpers are held
    abbrev pub first_names : List (List ℕ)
    first_names = framed_names ++ loading_bound

    pub first_among : AreAmong first_names all_names
    first_among =
        among_both framed_names loading_bound all_names (among_left framed_names framed_names (held ++ loading_bound) (among_itself framed_names))
        (among_right loading_bound framed_names (held ++ loading_bound) (among_right loading_bound held loading_bound (among_itself loading_bound)))

    -- where drawn and given names are no fixed ones, none of the first is a name that a helper may bind
    pub first_unlisted : AreApart imported (fixed_names s m) → AreApart constants (fixed_names s m) → AreApart names (fixed_names s m)
        → AreApart given (fixed_names s m) → (name : List ℕ) → IsIn name first_names → IsListed parts name → ⊥
    first_unlisted i c n v name at h =
        elim (in_either name framed_names loading_bound at) [
          | inl at ↦ elim (in_either name imported (lines ++ (constants ++ (names ++ framed))) at) [
            | inl here ↦ apart_in name imported (fixed_names s m) i here (listed_fixed name h)
            | inr behind ↦ elim (in_either name lines (constants ++ (names ++ framed)) behind) [
              | inl here ↦ listed_away parts lines (lines_unlisted 1 paths) name h here
              | inr behind ↦ elim (in_either name constants (names ++ framed) behind) [
                | inl here ↦ apart_in name constants (fixed_names s m) c here (listed_fixed name h)
                | inr behind ↦ elim (in_either name names framed behind) [
                  | inl here ↦ apart_in name names (fixed_names s m) n here (listed_fixed name h)
                  | inr behind ↦ elim (in_either name (start_binds memory) given behind) [
                    | inl here ↦ listed_away parts (start_binds true) refl name h (among_in name (start_binds memory) (start_binds true) (start_within memory) here)
                    | inr here ↦ apart_in name given (fixed_names s m) v here (listed_fixed name h)
                  ]
                ]
              ]
            ]
          ]
          | inr here ↦ listed_away parts loading_bound refl name h here
        ]

    pub held_among : AreAmong held all_names
    held_among = among_right held framed_names (held ++ loading_bound) (among_left held held loading_bound (among_itself held))

    -- the names of modules, of vendors, of exports, of the frame, given ones and those of loading stand among the first
    framed_first : (xs : List (List ℕ)) → AreAmong xs framed_names → AreAmong xs first_names
    framed_first xs h = among_left xs framed_names loading_bound h

    behind_imports : (xs : List (List ℕ)) → AreAmong xs (lines ++ (constants ++ (names ++ framed))) → AreAmong xs first_names
    behind_imports xs h = framed_first xs (among_right xs imported (lines ++ (constants ++ (names ++ framed))) h)

    behind_lines : (xs : List (List ℕ)) → AreAmong xs (constants ++ (names ++ framed)) → AreAmong xs first_names
    behind_lines xs h = behind_imports xs (among_right xs lines (constants ++ (names ++ framed)) h)

    behind_constants : (xs : List (List ℕ)) → AreAmong xs (names ++ framed) → AreAmong xs first_names
    behind_constants xs h = behind_lines xs (among_right xs constants (names ++ framed) h)

    pub imports_first : AreAmong imported first_names
    imports_first = framed_first imported (among_left imported imported (lines ++ (constants ++ (names ++ framed))) (among_itself imported))

    pub lines_first : AreAmong lines first_names
    lines_first = behind_imports lines (among_left lines lines (constants ++ (names ++ framed)) (among_itself lines))

    pub constants_first : AreAmong constants first_names
    constants_first = behind_lines constants (among_left constants constants (names ++ framed) (among_itself constants))

    pub names_first : AreAmong names first_names
    names_first = behind_constants names (among_left names names framed (among_itself names))

    pub frame_first : AreAmong (start_binds memory) first_names
    frame_first =
        behind_constants (start_binds memory) (among_right (start_binds memory) names framed
        (among_left (start_binds memory) (start_binds memory) given (among_itself (start_binds memory))))

    pub given_first : AreAmong given first_names
    given_first = behind_constants given (among_right given names framed (among_right given (start_binds memory) given (among_itself given)))

    pub loading_first : AreAmong loading_bound first_names
    loading_first = among_right loading_bound framed_names loading_bound (among_itself loading_bound)
