-- In the written module own imports come from the glue file's module, and no other import does.
use Rattle.glue_context.proofs.Common.{◌≡◌, ℕ, zero, suc, ◌+◌, ◌==◌, inl, inr, List, [], ◌∷◌, ◌++◌, map, Bool, true, false, true≢false, refl, sym, ap, ◌∙◌, subst, fold, arith, filter_map, bytes_eq, bytes_eq-Decides, Option, Some, None, option_map, IsIn, Import, ImportId, Settings, Lowered, own_imports, entry_at, move_of, rewritten, FileFlags, unbuilt, verdict}
use Rattle.std.specs.Prelude.{IfSome, cond, option_and_then, ◌&&◌, ◌||◌}
use Rattle.std.specs.Ordering.{nat_cmp}
use Rattle.std.proofs.lemmas.Bool.{and_parts, eqb-true}
use Rattle.glue_shared.proofs.Texts.{list_any-map}
use Rattle.std.proofs.lemmas.Option.{same_Some}
use Rattle.values.specs.Map.{look_up}
use Rattle.values.proofs.Members.{in_either, in_left, in_right}
use Rattle.glue_shared.specs.declared.adapter.Instruction.{Instruction}
use Rattle.glue_shared.specs.declared.adapter.Instruction.TheVariants as instr
use Rattle.glue_shared.specs.declared.import.AuxImport.{AuxImport}
use Rattle.glue_shared.specs.declared.import.JsImport.{JsImport}
use Rattle.glue_shared.specs.declared.import.JsImportName.{JsImportName}
use Rattle.glue_shared.specs.declared.import.JsImportName.TheVariants as names
use Rattle.glue_shared.specs.Names.{code_of, entry_of, handed_name, has_number, implemented, is_direct, is_from_module, is_handed_on, is_implemented, is_own, is_whole, js_import, names_of, own_place, own_places}
use Rattle.glue_lines.specs.Grouped.{source_of}
use Rattle.claimed_modules.specs.Modules.{called_place, calls_from, claim_of, comes_from, glue_module, is_from, module_of}
use Rattle.glue_names.proofs.Globals.{from_flat, in_flat}
use Rattle.glue_check.proofs.OwnPairs.{number_there, own_defined}
use Rattle.glue_check.proofs.Passed.{foreign_apart}
use Rattle.glue_names.proofs.Called.{number_in}
use Rattle.glue_naming.specs.Handed.{handed_imports, handed_pair}
use Rattle.glue_naming.specs.Imported.{called_name, called_names}
use Rattle.glue_names.proofs.MappedLists.{from_map, in_map}
use Rattle.glue_context.specs.Foreign.{path_of, with_move, with_path}
use Rattle.glue_context.specs.Rewritten.{handed_move}
use Rattle.glue_context.proofs.Entries.{any_there, from_filter_map, in_filter_map, mapped_entry, one_of_any}
use Rattle.glue_context.proofs.HandedParts.{name_is}
use Rattle.glue_context.proofs.Paths.{written_are}

-- ---- own places

-- the place of an entry that passes is one of them
listed_own : (own : ℕ → Import → Bool) (from k : ℕ) (is : List (Option Import)) (i : Import) → entry_at is k ≡ Some i → own (from + k) i ≡ true
    → IsIn (from + k) (own_places own from is)
listed_own own from k [] i e h = cc
listed_own own from zero (x ∷ is) i e h =
    let here : from + 0 ≡ from = omega arith in
    let same : x ≡ Some i = e in
    let passes : own from i ≡ true = ap (λ (n : ℕ). own n i) (sym here) ∙ h in
    subst (λ (n : ℕ). IsIn n (own_places own from (x ∷ is))) (sym here)
    (subst (λ (o : Option Import). IsIn from (own_place own from o ++ own_places own (from + 1) is)) (sym same) (rw passes (inl refl)))
listed_own own from (suc k) (x ∷ is) i e h =
    let later : from + 1 + k ≡ from + suc k = omega arith in
    let rest = listed_own own (from + 1) k is i e (ap (λ (n : ℕ). own n i) later ∙ h) in
    in_right (from + suc k) (own_place own from x) (own_places own (from + 1) is)
    (subst (λ (n : ℕ). IsIn n (own_places own (from + 1) is)) later rest)

-- ---- the module of an import after changes

-- a change of another import leaves it, and one of this import gives it the new one
one_leaves : (P : List ℕ → Type 0) (paths : List (Option (List ℕ))) (k place : ℕ) (path : List ℕ) → (place ≡ k → P path) → IfSome (entry_at paths k) P
    → IfSome (entry_at (with_path paths place path) k) P
one_leaves P [] k place path give h = h
one_leaves P (None ∷ os) zero zero path give h = tt
one_leaves P (Some old ∷ os) zero zero path give h = give refl
one_leaves P (o ∷ os) (suc k) zero path give h = h
one_leaves P (o ∷ os) zero (suc place) path give h = h
one_leaves P (o ∷ os) (suc k) (suc place) path give h = one_leaves P os k place path (λ e. give (ap (λ (n : ℕ). suc n) e)) h

one_gives : (P : List ℕ → Type 0) (paths : List (Option (List ℕ))) (k : ℕ) (path : List ℕ) → P path → IfSome (entry_at (with_path paths k path) k) P
one_gives P [] k path h = tt
one_gives P (None ∷ os) zero path h = tt
one_gives P (Some old ∷ os) zero path h = h
one_gives P (o ∷ os) (suc k) path h = one_gives P os k path h

-- each of these changes that is of this import gives it a module of a kind
abbrev AllGive : (List ℕ → Type 0) → ℕ → List (ImportId × List ℕ × List ℕ) → Type 0
AllGive P k moves = (e : ImportId × List ℕ × List ℕ) → IsIn e moves → e.0.0 ≡ k → P e.1

-- then it has such a module if it had one before
all_leave : (P : List ℕ → Type 0) (k : ℕ) (moves : List (ImportId × List ℕ × List ℕ)) (paths : List (Option (List ℕ))) → AllGive P k moves
    → IfSome (entry_at paths k) P → IfSome (entry_at (fold with_move paths moves) k) P
all_leave P k [] paths give h = h
all_leave P k (e ∷ moves) paths give h =
    all_leave P k moves (with_path paths e.0.0 e.1) (λ x i. give x (inr i)) (one_leaves P paths k e.0.0 e.1 (give e (inl refl)) h)

-- or if one of them is of this import
one_of_all : (P : List ℕ → Type 0) (k : ℕ) (moves : List (ImportId × List ℕ × List ℕ)) (paths : List (Option (List ℕ))) → AllGive P k moves
    → (e : ImportId × List ℕ × List ℕ) → IsIn e moves → e.0.0 ≡ k → IfSome (entry_at (fold with_move paths moves) k) P
one_of_all P k [] paths give e i at = absurd i
one_of_all P k (x ∷ moves) paths give e (inl same) at =
    let here : x.0.0 ≡ k = ap (λ (y : ImportId × List ℕ × List ℕ). y.0.0) (sym same) ∙ at in
    all_leave P k moves (with_path paths x.0.0 x.1) (λ y j. give y (inr j))
    (subst (λ (n : ℕ). IfSome (entry_at (with_path paths n x.1) k) P) (sym here) (one_gives P paths k x.1 (give x (inl refl) here)))
one_of_all P k (x ∷ moves) paths give e (inr i) at = one_of_all P k moves (with_path paths x.0.0 x.1) (λ y j. give y (inr j)) e i at

-- ---- which change moves which import

-- a change that moves an own import
moved_by : (stem : List ℕ) (place : ℕ) (o : Option Import) (e : ImportId × List ℕ × List ℕ)
    → option_map (λ (i : Import). (record { 0 = place }, glue_module stem, i.name)) o ≡ Some e → (e.0.0 ≡ place) × (e.1 ≡ glue_module stem)
moved_by stem place None e h = cc
moved_by stem place (Some i) e h =
    let same = same_Some (record { 0 = place }, glue_module stem, i.name) e h in
    (ap (λ (x : ImportId × List ℕ × List ℕ). x.0.0) (sym same), ap (λ (x : ImportId × List ℕ × List ℕ). x.1) (sym same))

-- a change by which an import becomes a described name
record IsHandedMove (imports : List (Option Import)) (h : ImportId × JsImportName) (e : ImportId × List ℕ × List ℕ) : Type 0 where
  «import» : Import
  stands : entry_at imports h.0.0 ≡ Some «import»
  source : List ℕ × List ℕ
  described : source_of h.1 ≡ Some source
  place : e.0 ≡ h.0
  path : e.1 ≡ source.0

handed_by : (imports : List (Option Import)) (h : ImportId × JsImportName) (e : ImportId × List ℕ × List ℕ) → handed_move imports h ≡ Some e → IsHandedMove imports h e
handed_by imports h e = by (entry_at imports h.0.0) refl (source_of h.1) refl
  where
    by : (o : Option Import) → entry_at imports h.0.0 ≡ o → (from : Option (List ℕ × List ℕ)) → source_of h.1 ≡ from
        → option_and_then (λ (i : Import). option_map (λ (source : List ℕ × List ℕ). (h.0, source.0, source.1)) from) o ≡ Some e → IsHandedMove imports h e
    by None q from p k = cc
    by (Some i) q None p k = cc
    by (Some i) q (Some source) p k =
        let same = same_Some (h.0, source.0, source.1) e k in record {
          «import» = i;
          stands = q;
          source = source;
          described = p;
          place = ap (λ (x : ImportId × List ℕ × List ℕ). x.0) (sym same);
          path = ap (λ (x : ImportId × List ℕ × List ℕ). x.1) (sym same);
        }

-- there is one, where the import stands and the name is one of a module
handed_move_is : (imports : List (Option Import)) (h : ImportId × JsImportName) (i : Import) (source : List ℕ × List ℕ) → entry_at imports h.0.0 ≡ Some i
    → source_of h.1 ≡ Some source → handed_move imports h ≡ Some (h.0, source.0, source.1)
handed_move_is imports h i source stands described = rw (stands, described) refl

-- ---- described names

-- a name of a module comes from there
source_is : (n : JsImportName) (source : List ℕ × List ℕ) → source_of n ≡ Some source → module_of n ≡ Some source.0
source_is (names.Global name) source h = cc
source_is (names.Module from name) source h = ap (λ (x : List ℕ × List ℕ). Some x.0) (same_Some (from, name) source h)
source_is (names.LocalModule from name) source h = ap (option_map (λ (x : List ℕ × List ℕ). x.0)) h
source_is (names.InlineJs crate index name) source h = ap (option_map (λ (x : List ℕ × List ℕ). x.0)) h
source_is (names.VendorPrefixed name prefixes) source h = cc

comes_there : (n : JsImportName) (path : List ℕ) → module_of n ≡ Some path → (name : List ℕ) → bytes_eq path name ≡ true → comes_from name n ≡ true
comes_there n path h name same = rw (h, same) refl

has_source : (n : JsImportName) → is_from_module n ≡ true → (source : List ℕ × List ℕ) × (source_of n ≡ Some source)
has_source (names.Module path name) h = ((path, name), refl)
has_source (names.LocalModule path name) h = (_, refl)
has_source (names.InlineJs from index name) h = (_, refl)
has_source other h = absurd (true≢false (sym h))

-- a call of what is described as a name of a module is one of that module
calls_there : (entries : List (ℕ × AuxImport)) (path : List ℕ) (n : JsImportName) (step : Instruction) → IsIn n (called_name entries step) → comes_from path n ≡ true
    → calls_from entries path step ≡ true
calls_there entries path n (instr.CallAdapter id) i h = any_there (comes_from path) (names_of (option_and_then js_import (entry_of id entries))) n i h
calls_there entries path n other i h = absurd i

-- ---- own imports and others

module _ (f : FileFlags) (s : Settings) (l : Lowered) (whole : unbuilt f s l ≡ None) (passed : verdict s l ≡ None) where
  abbrev own : List ℕ
  own = own_imports s l.«module» l.wit l.aux

  abbrev imports : List (Option Import)
  imports = l.«module».imports

  abbrev glue : List ℕ
  glue = glue_module s.stem

  abbrev own_moves : List (ImportId × List ℕ × List ℕ)
  own_moves = filter_map (move_of s.stem imports) own

  abbrev handed_moves : List (ImportId × List ℕ × List ℕ)
  handed_moves = filter_map (handed_move imports) (handed_imports s l)

  -- whether a module is that of the glue file
  abbrev IsGlueModule : Bool → List ℕ → Type 0
  IsGlueModule b path = bytes_eq path glue ≡ b

  glue_itself : bytes_eq glue glue ≡ true
  glue_itself = (bytes_eq-Decides glue glue).1 refl

  -- a change of an own import
  own_move : (e : ImportId × List ℕ × List ℕ) → IsIn e own_moves → (has_number e.0.0 own ≡ true) × (e.1 ≡ glue)
  own_move e i =
      let r = from_filter_map (move_of s.stem imports) own e i in
      let m = moved_by s.stem r.0 (entry_at imports r.0) e r.2 in
      (ap (λ (n : ℕ). has_number n own) m.0 ∙ number_there r.0 own r.1, m.1)

  -- a change of another import: what its adapter calls is described as a name of the module that it moves to
  record IsForeignMove (e : ImportId × List ℕ × List ℕ) : Type 0 where
    pair : ImportId × ℕ
    described : IsIn pair l.wit.implements
    place : pair.0.0 ≡ e.0.0
    foreign : has_number e.0.0 own ≡ false
    name : JsImportName
    called : IsIn name (called_names l pair.1)
    module_is : module_of name ≡ Some e.1
    «import» : Import
    stands : entry_at imports e.0.0 ≡ Some «import»

  foreign_move : (e : ImportId × List ℕ × List ℕ) → IsIn e handed_moves → IsForeignMove e
  foreign_move e i =
      let r = from_filter_map (handed_move imports) (handed_imports s l) e i in
      let m = handed_by imports r.0 e r.2 in
      let p = from_flat (handed_pair own l) l.wit.implements r.0 r.1 in
      by r.0 m p.0 p.1 (has_number p.0.0.0 own) refl p.2
    where
      by : (h : ImportId × JsImportName) → IsHandedMove imports h e → (pair : ImportId × ℕ) → IsIn pair l.wit.implements → (b : Bool) → has_number pair.0.0 own ≡ b
          → IsIn h (cond b [] (map (λ (n : JsImportName). (pair.0, n)) (called_names l pair.1))) → IsForeignMove e
      by h m pair at true q none = absurd none
      by h m pair at false q j =
          let c = from_map (λ (n : JsImportName). (pair.0, n)) h (called_names l pair.1) j in
          let place : e.0.0 ≡ pair.0.0 = ap (λ (x : ImportId). x.0) m.place ∙ ap (λ (x : ImportId × JsImportName). x.0.0) c.2 in
          let name : h.1 ≡ c.0 = ap (λ (x : ImportId × JsImportName). x.1) c.2 in record {
            pair = pair;
            described = at;
            place = sym place;
            foreign = ap (λ (n : ℕ). has_number n own) place ∙ q;
            name = c.0;
            called = c.1;
            module_is = ap module_of (sym name) ∙ source_is h.1 m.source m.described ∙ ap (λ (x : List ℕ). Some x) (sym m.path);
            «import» = m.«import»;
            stands = ap (λ (x : ImportId). entry_at imports x.0) m.place ∙ m.stands;
          }

  -- no other import has a name that the glue file needs
  apart : (k : ℕ) (i : Import) → entry_at imports k ≡ Some i → has_number k own ≡ false
      → cond (has_number k (implemented l.wit)) (has_number k (claim_of l glue).called) (bytes_eq i.«module» glue) ≡ false
  unfolding is_from
  apart k i stands foreign = foreign_apart s l passed k i stands foreign (claim_of l glue) (inl refl)

  paired_there : (pair : ImportId × ℕ) → IsIn pair l.wit.implements → has_number pair.0.0 (implemented l.wit) ≡ true
  paired_there pair at = number_there pair.0.0 (implemented l.wit) (in_map (λ (p : ImportId × ℕ). p.0.0) pair l.wit.implements at)

  implemented_there : (k : ℕ) → has_number k (implemented l.wit) ≡ true → is_implemented l.wit k ≡ true
  implemented_there k h = sym (list_any-map (λ (n : ℕ). n == k) (λ (pair : ImportId × ℕ). pair.0.0) l.wit.implements) ∙ h

  -- the place of an import whose adapter calls a name of a module is claimed for it
  claimed : (pair : ImportId × ℕ) → IsIn pair l.wit.implements → (n : JsImportName) → IsIn n (called_names l pair.1) → comes_from glue n ≡ true
      → has_number pair.0.0 (claim_of l glue).called ≡ true
  claimed pair at n called comes =
      let code = code_of (look_up nat_cmp l.wit.adapters pair.1) in
      let r = from_flat (called_name l.aux.imports) code n called in
      let calls = any_there (calls_from l.aux.imports glue) code r.0 r.1 (calls_there l.aux.imports glue n r.0 r.2 comes) in
      number_there pair.0.0 (claim_of l glue).called
      (in_flat (called_place l.wit l.aux.imports glue) l.wit.implements pair pair.0.0 at (rw calls (inl refl)))

  foreign_gives : (e : ImportId × List ℕ × List ℕ) → IsForeignMove e → IsGlueModule false e.1
  foreign_gives e m = by (bytes_eq e.1 glue) refl
    where
      by : (b : Bool) → bytes_eq e.1 glue ≡ b → b ≡ false
      by false q = refl
      by true q =
          let claimed = claimed m.pair m.described m.name m.called (comes_there m.name e.1 m.module_is glue q) in
          let here = ap (λ (n : ℕ). has_number n (claim_of l glue).called) (sym m.place) ∙ claimed in
          let paired = ap (λ (n : ℕ). has_number n (implemented l.wit)) (sym m.place) ∙ paired_there m.pair m.described in
          let none = apart e.0.0 m.«import» m.stands m.foreign in
          absurd (true≢false (sym here ∙ ap (λ (b : Bool). cond b (has_number e.0.0 (claim_of l glue).called) (bytes_eq m.«import».«module» glue)) (sym paired) ∙ none))

  -- each change of an own import gives it the glue file's module, and each of another import a different one
  all_give : (k : ℕ) → AllGive (IsGlueModule (has_number k own)) k (own_moves ++ handed_moves)
  all_give k e i at = elim (in_either e own_moves handed_moves i) [
    | inl mine ↦
        let m = own_move e mine in
        subst (λ (n : ℕ). IsGlueModule (has_number n own) e.1) at (ap (λ (path : List ℕ). bytes_eq path glue) m.1 ∙ glue_itself ∙ sym m.0)
    | inr other ↦
        let m = foreign_move e other in
        subst (λ (n : ℕ). IsGlueModule (has_number n own) e.1) at (foreign_gives e m ∙ sym m.foreign)
  ]

  -- an own import moves
  own_moves_there : (k : ℕ) → has_number k own ≡ true → (e : ImportId × List ℕ × List ℕ) × IsIn e (own_moves ++ handed_moves) × (e.0.0 ≡ k)
  own_moves_there k mine =
      let at = number_in k own mine in
      let d = own_defined f s l whole passed k at in
      let e : ImportId × List ℕ × List ℕ = (record { 0 = k }, glue, d.«import».name) in
      (e, in_left e own_moves handed_moves (in_filter_map (move_of s.stem imports) own k e at (rw d.stands refl)), refl)

  -- another import for which an adapter stands is handed on
  handed_there : (k : ℕ) (i : Import) → entry_at imports k ≡ Some i → has_number k own ≡ false → is_implemented l.wit k ≡ true → is_handed_on s l.wit l.aux k ≡ true
  unfolding own_imports
  handed_there k i stands foreign paired = by (is_handed_on s l.wit l.aux k) refl
    where
      either : (a b : Bool) → (a || (true || b)) ≡ true
      either true b = refl
      either false b = refl

      by : (b : Bool) → is_handed_on s l.wit l.aux k ≡ b → b ≡ true
      by true q = refl
      by false q =
          let here : 0 + k ≡ k = omega arith in
          let passes : is_own s l.«module» l.wit l.aux k i ≡ true = rw (q, paired) (rw (either _ _) refl) in
          let at = listed_own (is_own s l.«module» l.wit l.aux) 0 k imports i stands (ap (λ (n : ℕ). is_own s l.«module» l.wit l.aux n i) here ∙ passes) in
          absurd (true≢false (sym (number_there k own (subst (λ (n : ℕ). IsIn n own) here at)) ∙ foreign))

  whole_name : (o : Option JsImport) → is_whole o ≡ true → (js : JsImport) × (o ≡ Some js)
  whole_name None h = absurd (true≢false (sym h))
  whole_name (Some js) h = (js, refl)

  -- and moves to the module of the name
  foreign_moves_there : (k : ℕ) (i : Import) → entry_at imports k ≡ Some i → has_number k own ≡ false → is_implemented l.wit k ≡ true
      → (e : ImportId × List ℕ × List ℕ) × IsIn e (own_moves ++ handed_moves) × (e.0.0 ≡ k)
  foreign_moves_there k i stands foreign paired =
      let r = one_of_any (λ (pair : ImportId × ℕ). pair.0.0 == k && is_direct s l.wit l.aux pair.1) l.wit.implements (handed_there k i stands foreign paired) in
      let both = and_parts (r.0.0.0 == k) (is_direct s l.wit l.aux r.0.1) r.2 in
      let place : r.0.0.0 ≡ k = eqb-true r.0.0.0 k both.0 in
      let js = whole_name (handed_name s l.wit l.aux r.0.1) both.1 in
      let h = name_is s l r.0.1 js.0 js.1 in
      let n = js.0.name in
      let source = has_source n h.from_module in
      let code = code_of (look_up nat_cmp l.wit.adapters r.0.1) in
      let called : IsIn n (called_names l r.0.1) =
      in_flat (called_name l.aux.imports) code (instr.CallAdapter h.id) n h.called (rw h.described (inl refl)) in
      let handed : ImportId × JsImportName = (r.0.0, n) in
      let other : has_number r.0.0.0 own ≡ false = ap (λ (x : ℕ). has_number x own) place ∙ foreign in
      let listed : IsIn handed (handed_imports s l) =
      in_flat (handed_pair own l) l.wit.implements r.0 handed r.1 (rw other (in_map (λ (x : JsImportName). (r.0.0, x)) n (called_names l r.0.1) called)) in
      let e : ImportId × List ℕ × List ℕ = (r.0.0, source.0.0, source.0.1) in
      let there : entry_at imports r.0.0.0 ≡ Some i = ap (λ (x : ℕ). entry_at imports x) place ∙ stands in
      (e, in_right e own_moves handed_moves (in_filter_map (handed_move imports) (handed_imports s l) handed e listed (handed_move_is imports handed i source.0 there source.1)), place)

  -- an import for which no adapter stands has its module
  kept_apart : (k : ℕ) (i : Import) → entry_at imports k ≡ Some i → has_number k own ≡ false → has_number k (implemented l.wit) ≡ false
      → bytes_eq i.«module» glue ≡ false
  kept_apart k i stands foreign unpaired =
      ap (λ (b : Bool). cond b (has_number k (claim_of l glue).called) (bytes_eq i.«module» glue)) (sym unpaired) ∙ apart k i stands foreign

  abbrev paths : List (Option (List ℕ))
  paths = map path_of imports

  abbrev moves : List (ImportId × List ℕ × List ℕ)
  moves = own_moves ++ handed_moves

  written_path : (k : ℕ) → IfSome (entry_at (fold with_move paths moves) k) (IsGlueModule (has_number k own))
  written_path k = by (has_number k own) refl (all_give k)
    where
      foreign : (o : Option Import) → entry_at imports k ≡ o → has_number k own ≡ false → AllGive (IsGlueModule false) k moves
          → (b : Bool) → has_number k (implemented l.wit) ≡ b → IfSome (entry_at (fold with_move paths moves) k) (IsGlueModule false)
      foreign None q other give b p = all_leave (IsGlueModule false) k moves paths give (rw (mapped_entry (λ (i : Import). i.«module») imports k, q) tt)
      foreign (Some i) q other give true p =
          let e = foreign_moves_there k i q other (implemented_there k p) in one_of_all (IsGlueModule false) k moves paths give e.0 e.1 e.2
      foreign (Some i) q other give false p =
          all_leave (IsGlueModule false) k moves paths give (rw (mapped_entry (λ (i : Import). i.«module») imports k, q) (kept_apart k i q other p))

      by : (b : Bool) → has_number k own ≡ b → AllGive (IsGlueModule b) k moves → IfSome (entry_at (fold with_move paths moves) k) (IsGlueModule b)
      by true q give = let e = own_moves_there k q in one_of_all (IsGlueModule true) k moves paths give e.0 e.1 e.2
      by false q give = foreign (entry_at imports k) refl q give (has_number k (implemented l.wit)) refl

  -- an import of the written module is an own one exactly where it comes from the glue file's module
  pub own_is : (k : ℕ) (path : List ℕ) → entry_at (map path_of (rewritten s l).imports) k ≡ Some path → has_number k own ≡ bytes_eq path glue
  own_is k path e =
      let here = subst (λ (paths : List (Option (List ℕ))). IfSome (entry_at paths k) (IsGlueModule (has_number k own))) (written_are s l) (written_path k) in
      sym (subst (λ (o : Option (List ℕ)). IfSome o (IsGlueModule (has_number k own))) e here)
