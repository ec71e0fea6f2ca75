-- What a text tells of its names, and what follows for its words and for those with names for its stand-ins.
use Rattle.std.proofs.Common.{◌≡◌, ℕ, zero, suc, Bool, true, false, List, [], ◌∷◌, ◌++◌, inl, inr, refl, ap, sym, ◌∙◌, subst, map}
use Rattle.std.proofs.lemmas.List.{map-append}
use Rattle.std.specs.List.{list_all, list_any}
use Rattle.values.specs.Lists.{IsIn}
use Rattle.glue_words.specs.declared.word.Word.{Word}
use Rattle.glue_words.specs.Facts.{Facts, facts, names_outside, Levels, Last, Below}
use Rattle.glue_words.specs.Ident.{is_ident}
use Rattle.glue_words.specs.Linking.{AreAmong}
use Rattle.glue_words.specs.Names.{bound_in, used_in, hosted_in, wasm_in, is_export_key}
use Rattle.glue_words.proofs.Belonging.{Context}
use Rattle.glue_words.proofs.Among.{apart_split}
use Rattle.glue_words.proofs.Fitting.{Fits, the_module}
use Rattle.glue_marked.specs.StandIns.{Names, name_for, renamed}
use Rattle.glue_marked.proofs.Renamed.{renamed_facts, renamed_levels, facts-renamed}
use Rattle.glue_marked.proofs.ShippedFacts.{short, once, is_shipped, among_once, once_among, none_in}
use Rattle.glue_marked.proofs.ShippedFacts.{apart_by_test}
use Rattle.glue_marked.proofs.StandIns.{Suit, given, stand_ins, text_fits, renamed_text_fits}
use Rattle.glue_helpers.specs.TextNames.{TextNames, renamed_names}

-- the names of words, each told once but for those that they declare
abbrev pub names_in : List Word → TextNames
names_in words =
    let f = short (facts words) in record { binds = f.binds; uses = f.uses; hosts = f.hosts; takes = f.takes }

-- whether words fit wherever the names that they ask for are there, whether they publish something, the names that they
-- use outside all braces but not when the item is evaluated, and their names
abbrev pub Told : Type 0
Told = Bool × Bool × List (List ℕ) × TextNames

abbrev pub told : List Word → Told
told words =
    (is_shipped (short (facts words)), (facts words).exported, names_outside 0 (facts words).levels, names_in words)

-- words that fit, publish nothing, use each name outside all braces when the item is evaluated, and have these names
abbrev pub well : TextNames → Told
well names = (true, false, [], names)

-- the words are so; it computes
abbrev pub Tells : List Word → TextNames → Type 0
Tells words names = told words ≡ well names

-- the same names, whatever their order is and however often they stand
abbrev pub SameNames : List (List ℕ) → List (List ℕ) → Type 0
SameNames names others = AreAmong names others × AreAmong others names

-- words declare these names, and use exactly these; they publish nothing, and outside all braces each name is used when
-- the item is evaluated
pub record Holds (words : List Word) (t : TextNames) : Type 0 where
  pub binds : bound_in words ≡ t.binds
  pub uses : SameNames (used_in words) t.uses
  pub hosts : SameNames (hosted_in words) t.hosts
  pub takes : SameNames (wasm_in words) t.takes
  pub unexported : list_any is_export_key words ≡ false
  pub late : names_outside 0 (facts words).levels ≡ []

-- ---- the same names

same_once : (names told : List (List ℕ)) → once names ≡ told → SameNames names told
same_once names told same = subst (SameNames names) same (among_once names, once_among names)

in_map : (f : List ℕ → List ℕ) (name : List ℕ) (names : List (List ℕ)) → IsIn name names
    → IsIn (f name) (map f names)
in_map f name [] at = absurd at
in_map f name (other ∷ names) (inl same) = inl (ap f same)
in_map f name (other ∷ names) (inr at) = inr (in_map f name names at)

among_map : (f : List ℕ → List ℕ) (names others : List (List ℕ)) → AreAmong names others
    → AreAmong (map f names) (map f others)
among_map f [] others h = tt
among_map f (name ∷ names) others h = (in_map f name others h.0, among_map f names others h.1)

same_map : (f : List ℕ → List ℕ) (names others mapped : List (List ℕ)) → mapped ≡ map f names
    → SameNames names others → SameNames mapped (map f others)
same_map f names others mapped e h =
    subst (λ (xs : List (List ℕ)). SameNames xs (map f others)) (sym e)
    (among_map f names others h.0, among_map f others names h.1)

-- ---- names outside all braces

outside_renamed : (rename : List ℕ → List ℕ) (depth : ℕ) (levels : Levels)
    → names_outside depth (renamed_levels rename levels) ≡ map rename (names_outside depth levels)
outside_renamed rename zero (Last names count) = refl
outside_renamed rename (suc depth) (Last names count) = refl
outside_renamed rename zero (Below names levels) =
    ap (λ (ns : List (List ℕ)). map rename names ++ ns) (outside_renamed rename zero levels)
    ∙ sym (map-append rename names (names_outside zero levels))
outside_renamed rename (suc depth) (Below names levels) = outside_renamed rename depth levels

-- ---- a text as it stands

module _ (words : List Word) (t : TextNames) (tells : Tells words t) where
  ships : is_shipped (short (facts words)) ≡ true
  ships = ap (λ (p : Told). p.0) tells

  names_told : names_in words ≡ t
  names_told = ap (λ (p : Told). p.3) tells

  pub told_holds : Holds words t
  told_holds = record {
    binds = ap (λ (n : TextNames). n.binds) names_told;
    uses = same_once (used_in words) t.uses (ap (λ (n : TextNames). n.uses) names_told);
    hosts = same_once (hosted_in words) t.hosts (ap (λ (n : TextNames). n.hosts) names_told);
    takes = same_once (wasm_in words) t.takes (ap (λ (n : TextNames). n.takes) names_told);
    unexported = ap (λ (p : Told). p.1) tells;
    late = ap (λ (p : Told). p.2) tells;
  }

  pub told_fits : (c : Context) → AreAmong t.uses c.declared → AreAmong t.hosts c.hosts → AreAmong t.takes c.exports
      → Fits c (facts words)
  told_fits c u h k =
      text_fits c words ships
      (subst (λ (n : TextNames). AreAmong n.uses c.declared) (sym names_told) u)
      (subst (λ (n : TextNames). AreAmong n.hosts c.hosts) (sym names_told) h)
      (subst (λ (n : TextNames). AreAmong n.takes c.exports) (sym names_told) k)

  -- ---- and with names for its stand-ins

  module _ (names exports : Names) where
    abbrev named : List Word
    named = renamed (name_for names) (name_for exports) words

    facts_named : facts named ≡ renamed_facts (name_for names) (name_for exports) (facts words)
    facts_named = facts-renamed (name_for names) (name_for exports) words

    pub named_holds : Holds named (renamed_names names exports t)
    named_holds = let h = told_holds in record {
      binds = ap (λ (f : Facts). f.binds) facts_named ∙ ap (map (name_for names)) h.binds;
      uses =
          same_map (name_for names) (used_in words) t.uses (used_in named) (ap (λ (f : Facts). f.uses) facts_named)
          h.uses;
      hosts =
          same_map (name_for names) (hosted_in words) t.hosts (hosted_in named)
          (ap (λ (f : Facts). f.hosts) facts_named) h.hosts;
      takes =
          same_map (name_for exports) (wasm_in words) t.takes (wasm_in named)
          (ap (λ (f : Facts). f.takes) facts_named) h.takes;
      unexported = ap (λ (f : Facts). f.exported) facts_named ∙ h.unexported;
      late =
          ap (λ (f : Facts). names_outside 0 f.levels) facts_named
          ∙ outside_renamed (name_for names) 0 (facts words).levels ∙ ap (map (name_for names)) h.late;
    }

    -- where the names are identifiers, no stand-ins, no local names of the text and not `wasm`
    pub named_fits : (c : Context) → list_all is_ident (given names) ≡ true
        → none_in (given names) (the_module ++ (short (facts words)).local_binds) ≡ true
        → none_in (the_module ++ (short (facts words)).local_binds) (stand_ins names) ≡ true
        → AreAmong (map (name_for names) t.uses) c.declared → AreAmong (map (name_for names) t.hosts) c.hosts
        → AreAmong (map (name_for exports) t.takes) c.exports → Fits c (facts named)
    named_fits c idents away marked u h k =
        let locals = (short (facts words)).local_binds in
        let apart = apart_by_test (given names) (the_module ++ locals) away in
        let parts = apart_split (given names) the_module locals apart in
        let suit : Suit names (short (facts words)) =
        record { idents = idents; no_locals = parts.1; no_module = parts.0; marked = marked } in
        renamed_text_fits c words names exports ships suit
        (subst (λ (n : TextNames). AreAmong (map (name_for names) n.uses) c.declared) (sym names_told) u)
        (subst (λ (n : TextNames). AreAmong (map (name_for names) n.hosts) c.hosts) (sym names_told) h)
        (subst (λ (n : TextNames). AreAmong (map (name_for exports) n.takes) c.exports) (sym names_told) k)
