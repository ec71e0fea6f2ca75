-- Words whose facts fit, and the linkage of items whose words' facts fit.
use Rattle.std.proofs.Common.{◌≡◌, ℕ, List, ◌∷◌, [], ◌++◌, inl, inr, refl, ap, sym, ◌∙◌, subst, Bool, true, false}
use Rattle.std.proofs.Common.{true≢false}
use Rattle.std.proofs.lemmas.Bool.{and_parts}
use Rattle.std.proofs.lemmas.List.Folds.{list_all-append}
use Rattle.std.proofs.lemmas.List.Elements.{filter_map-append}
use Rattle.std.proofs.lemmas.Slice.Eq.{bytes_eq-Decides}
use Rattle.std.specs.Prelude.{Option, Some, None, ◌&&◌, ◌||◌, ◌==◌, not, codes, pos, negsuc, if◌then◌else◌}
use Rattle.std.specs.List.{list_all, filter_map, flat_map}
use Rattle.values.proofs.Members.{in_left, in_right}
use Rattle.values.specs.Lists.{IsIn, AreDistinct, AreApart}
use Rattle.glue_words.specs.declared.word.Word.{Word}
use Rattle.glue_words.specs.declared.word.Word.TheVariants.{Punct, Key, Regex, Gap, Num, Text, Tpl, Note, Bind, Refer}
use Rattle.glue_words.specs.declared.word.Word.TheVariants.{Host, LocalBind, Local, Prop, Wasm, Outer, Splice}
use Rattle.glue_words.specs.declared.punct.TheConstants as punct
use Rattle.glue_words.specs.declared.item.Item.{Item}
use Rattle.glue_words.specs.Ident.{is_ident}
use Rattle.glue_words.specs.Limits.{is_prop, is_computed}
use Rattle.glue_words.specs.Words.{words_of}
use Rattle.glue_words.specs.Names.{bound_name, used_name, hosted_name, local_bound_name, local_name, spliced_key}
use Rattle.glue_words.specs.Names.{bound_in, used_in, hosted_in, local_bound_in, local_in, spliced_in, bound_names}
use Rattle.glue_words.specs.Spacing.{is_misread, is_loose_access, is_export_access, is_line_note, is_line_gap}
use Rattle.glue_words.specs.Spacing.{is_wasm, each_next, begins_apart}
use Rattle.glue_words.specs.Linking.{EachItem, AreAmong, KeepsLocals, TakesExports, TakesKeys}
use Rattle.glue_words.specs.Linking.{is_access_place, is_named_access}
use Rattle.glue_words.proofs.Belonging.{StandAlone, ends_in_gap, Context, Belongs, AllItems, AreLinked}
use Rattle.glue_words.proofs.Among.{among_both, among_parts, apart_by, apart_parts}
use Rattle.glue_words.proofs.ByKind.{stands_by_kind, is_sound}
use Rattle.glue_words.proofs.Spaced.{alone_by_kind, alone_spaced, alone_exported}
use Rattle.glue_words.proofs.Linked.{names-cons, bound_once_from, resolved_from}
use Rattle.glue_words.specs.Facts.{Facts, Ends, facts, may_meet, opened_name, gated_name, prop_name, may_misread, is_use}
use Rattle.glue_words.specs.Facts.{meets_well, is_proper, pairs_in, all_pairs, last_of, ends_of}
use Rattle.glue_words.proofs.Joined.{open_or, open_turn}

-- ---- when facts fit

-- the only name whose exports are taken
abbrev pub the_module : List (List ℕ)
the_module = codes "wasm" ∷ []

abbrev pub is_gap_word : Word → Bool
is_gap_word (Gap text) = true
is_gap_word word = false

-- words of these ends stand between any others: they don't begin with the access of an export, and end with a gap
abbrev pub are_free_ends : Ends → Bool
are_free_ends None = false
are_free_ends (Some ends) = not (is_export_access ends.0) && is_gap_word ends.1

-- no note is open behind the turn
abbrev pub is_closed : Option Bool → Bool
is_closed None = true
is_closed (Some b) = not b

-- what kinds alone decide
abbrev pub stands_alone : Facts → Bool
stands_alone f = ((f.proper && f.spaced) && (f.outside && is_closed f.turn)) && are_free_ends f.ends

-- facts of words that may stand in a file of such names
pub record Fits (c : Context) (f : Facts) : Type 0 where
  pub alone : stands_alone f ≡ true
  pub idents : list_all is_ident (f.binds ++ (f.uses ++ (f.hosts ++ f.local_binds))) ≡ true
  pub props : list_all is_prop f.props ≡ true
  pub resolved : AreAmong f.uses c.declared
  pub known : AreAmong f.hosts c.hosts
  pub local : AreAmong f.locals f.local_binds
  pub apart : AreApart f.local_binds (f.uses ++ f.hosts)
  pub taken : AreAmong f.takes c.exports
  pub described : AreAmong f.keys c.keys
  pub formed : list_all is_computed f.keys ≡ true
  pub opened : AreApart f.opened the_module
  pub gated : AreAmong f.gated the_module

-- ---- words are as their kinds say

pub all_among : (test : List ℕ → Bool) (xs ys : List (List ℕ)) → AreAmong xs ys → list_all test ys ≡ true
    → list_all test xs ≡ true
all_among test [] ys h k = refl
all_among test (x ∷ xs) ys h k = ap (λ (b : Bool). b && list_all test xs) (found ys h.0 k) ∙ all_among test xs ys h.1 k
  where
    found : (ys : List (List ℕ)) → IsIn x ys → list_all test ys ≡ true → test x ≡ true
    found [] at k = absurd at
    found (y ∷ ys) (inl same) k = ap test same ∙ (and_parts (test y) (list_all test ys) k).0
    found (y ∷ ys) (inr at) k = found ys at (and_parts (test y) (list_all test ys) k).1

-- what each kind of word asks for
record AreSound (words : List Word) : Type 0 where
  binds : list_all is_ident (bound_in words) ≡ true
  uses : list_all is_ident (used_in words) ≡ true
  hosts : list_all is_ident (hosted_in words) ≡ true
  local_binds : list_all is_ident (local_bound_in words) ≡ true
  locals : list_all is_ident (local_in words) ≡ true
  props : list_all is_prop (filter_map prop_name words) ≡ true
  keys : list_all is_computed (spliced_in words) ≡ true
  proper : list_all is_proper words ≡ true

first_rest : (test : List ℕ → Bool) (name : Word → Option (List ℕ)) (word : Word) (words : List Word)
    → list_all test (filter_map name (word ∷ words)) ≡ true
    → (list_all test (filter_map name (word ∷ [])) ≡ true) × (list_all test (filter_map name words) ≡ true)
first_rest test name word words h =
    and_parts (list_all test (filter_map name (word ∷ []))) (list_all test (filter_map name words))
    (sym (ap (list_all test) (filter_map-append name (word ∷ []) words)
    ∙ list_all-append test (filter_map name (word ∷ [])) (filter_map name words)) ∙ h)

sound_parts : (word : Word) (words : List Word) → AreSound (word ∷ words) → AreSound (word ∷ []) × AreSound words
sound_parts word words s =
    let b = first_rest is_ident bound_name word words s.binds in
    let u = first_rest is_ident used_name word words s.uses in
    let h = first_rest is_ident hosted_name word words s.hosts in
    let lb = first_rest is_ident local_bound_name word words s.local_binds in
    let l = first_rest is_ident local_name word words s.locals in
    let p = first_rest is_prop prop_name word words s.props in
    let k = first_rest is_computed spliced_key word words s.keys in
    let q = and_parts (is_proper word) (list_all is_proper words) s.proper in (
      record {
        binds = b.0;
        uses = u.0;
        hosts = h.0;
        local_binds = lb.0;
        locals = l.0;
        props = p.0;
        keys = k.0;
        proper = ap (λ (x : Bool). x && true) q.0;
      },
      record {
        binds = b.1;
        uses = u.1;
        hosts = h.1;
        local_binds = lb.1;
        locals = l.1;
        props = p.1;
        keys = k.1;
        proper = q.1;
      },
    )

sound_word : (word : Word) → AreSound (word ∷ []) → is_sound word ≡ true
sound_word (Punct place) s = s.proper
sound_word (Key place) s = s.proper
sound_word (Regex place) s = s.proper
sound_word (Gap text) s = s.proper
sound_word (Num value) s = refl
sound_word (Text text) s = refl
sound_word (Tpl text) s = s.proper
sound_word (Note kind text) s = refl
sound_word (Bind name) s = s.binds
sound_word (Refer name now) s = s.uses
sound_word (Host name now) s = s.hosts
sound_word (LocalBind name) s = s.local_binds
sound_word (Local name) s = s.locals
sound_word (Prop name) s = s.props
sound_word (Wasm name) s = refl
sound_word (Outer name) s = refl
sound_word (Splice text) s = (and_parts (is_computed text) true s.keys).0

all_sound : (words : List Word) → AreSound words → list_all is_sound words ≡ true
all_sound [] s = refl
all_sound (word ∷ words) s =
    let parts = sound_parts word words s in
    ap (λ (b : Bool). b && list_all is_sound words) (sound_word word parts.0) ∙ all_sound words parts.1

-- ---- neighbours stand

and_true : (a b : Bool) → a ≡ true → b ≡ true → (a && b) ≡ true
and_true a b h k = ap (λ x. x && b) h ∙ k

and_false : (b : Bool) → (b && false) ≡ false
and_false true = refl
and_false false = refl

and_itself : (b : Bool) → (b && true) ≡ b
and_itself true = refl
and_itself false = refl

same_misread : (word next : Word) → may_misread word next ≡ is_misread word next
same_misread (Punct place) (Num (pos n)) = and_false (place == punct.MINUS || (place == punct.DECREMENT))
same_misread (Punct place) (Num (negsuc n)) = and_itself (place == punct.MINUS || (place == punct.DECREMENT))
same_misread word next = refl

not_loose : (word next : Word) → (not (is_export_access next) || is_use word) ≡ true
    → AreAmong (gated_name word next) the_module → is_loose_access word next ≡ false
not_loose (Refer name now) (Wasm export) u (inl same, rest) = ap (λ (n : List ℕ). not (is_wasm n)) same
not_loose (Refer name now) (Wasm export) u (inr none, rest) = absurd none
not_loose word (Wasm export) u g = absurd (true≢false (sym u))
not_loose word next u g = refl

pair_stands : (word next : Word) → meets_well word next ≡ true → AreAmong (gated_name word next) the_module
    → stands_by_kind word (Some next) ≡ true
pair_stands word next m g =
    let kinds = not (may_meet word next) && not (may_misread word next) in
    let gate = not (is_export_access next) || is_use word in
    let note = not (is_line_note word) || is_line_gap next in
    let p = and_parts (kinds && gate) note m in
    let q = and_parts kinds gate p.0 in
    let r = and_parts (not (may_meet word next)) (not (may_misread word next)) q.0 in
    and_true _ note (and_true _ _ (and_true _ _ r.0 (ap not (sym (same_misread word next)) ∙ r.1))
    (ap not (not_loose word next q.1 g))) p.1

named_case : (name : List ℕ) (b : Bool) → AreApart (if b then name ∷ [] else []) the_module
    → (not b || not (is_wasm name)) ≡ true
named_case name true h = other_name (is_wasm name) refl
  where
    other_name : (b : Bool) → is_wasm name ≡ b → not b ≡ true
    other_name true e = absurd (h.0 (inl (sym ((bytes_eq-Decides (codes "wasm") name).0 e))))
    other_name false e = refl
named_case name false h = refl

pair_named : (word next : Word) → AreApart (opened_name word next) the_module → is_named_access word (Some next) ≡ true
pair_named (Refer name now) (Punct place) h = named_case name (is_access_place place) h
pair_named word next h = refl

gap_stands : (word : Word) → is_gap_word word ≡ true
    → (stands_by_kind word None ≡ true) × (is_named_access word None ≡ true)
gap_stands (Gap text) h = (refl, refl)
gap_stands word h = absurd (true≢false (sym h))

gap_ends : (word : Word) → is_gap_word word ≡ true → ends_in_gap (word ∷ []) ≡ true
gap_ends (Gap text) h = refl
gap_ends word h = absurd (true≢false (sym h))

-- the parts of a test on neighbours and of the names that they give
pairs_stand : (word : Word) (words : List Word) → all_pairs meets_well (word ∷ words) ≡ true
    → AreAmong (pairs_in gated_name (word ∷ words)) the_module → is_gap_word (last_of word words) ≡ true
    → each_next stands_by_kind (word ∷ words) None ≡ true
pairs_stand word [] m g e = and_true _ _ (gap_stands word e).0 refl
pairs_stand word (next ∷ words) m g e =
    let p = and_parts (meets_well word next) (all_pairs meets_well (next ∷ words)) m in
    let q = among_parts (gated_name word next) (pairs_in gated_name (next ∷ words)) the_module g in
    and_true _ _ (pair_stands word next p.0 q.0) (pairs_stand next words p.1 q.1 e)

pairs_named : (word : Word) (words : List Word) → AreApart (pairs_in opened_name (word ∷ words)) the_module
    → is_gap_word (last_of word words) ≡ true
    → each_next is_named_access (word ∷ words) None ≡ true
pairs_named word [] o e = and_true _ _ (gap_stands word e).1 refl
pairs_named word (next ∷ words) o e =
    let q = apart_parts (opened_name word next) (pairs_in opened_name (next ∷ words)) the_module o in
    and_true _ _ (pair_named word next q.0) (pairs_named next words q.1 e)

ends_gap : (word : Word) (words : List Word) → is_gap_word (last_of word words) ≡ true
    → ends_in_gap (word ∷ words) ≡ true
ends_gap word [] e = gap_ends word e
ends_gap word (next ∷ words) e = ends_gap next words e

closed_turn : (t : Option Bool) → is_closed t ≡ true → open_or false t ≡ false
closed_turn None h = refl
closed_turn (Some true) h = sym h
closed_turn (Some false) h = refl

-- ---- words whose facts fit

module _ (c : Context) (words : List Word) (fit : Fits c (facts words)) where
  abbrev f : Facts
  f = facts words

  abbrev kinds : (f.proper ≡ true) × (f.spaced ≡ true)
  kinds =
      and_parts f.proper f.spaced
      (and_parts (f.proper && f.spaced) (f.outside
      && is_closed f.turn)
      (and_parts ((f.proper && f.spaced) && (f.outside && is_closed f.turn)) (are_free_ends f.ends) fit.alone).0).0

  abbrev notes : (f.outside ≡ true) × (is_closed f.turn ≡ true)
  notes =
      and_parts f.outside (is_closed f.turn)
      (and_parts (f.proper && f.spaced) (f.outside
      && is_closed f.turn)
      (and_parts ((f.proper && f.spaced) && (f.outside && is_closed f.turn)) (are_free_ends f.ends) fit.alone).0).1

  abbrev free : are_free_ends f.ends ≡ true
  free = (and_parts ((f.proper && f.spaced) && (f.outside && is_closed f.turn)) (are_free_ends f.ends) fit.alone).1

  all_split : (test : List ℕ → Bool) (xs ys : List (List ℕ)) → list_all test (xs ++ ys) ≡ true
      → (list_all test xs ≡ true) × (list_all test ys ≡ true)
  all_split test xs ys h = and_parts (list_all test xs) (list_all test ys) (sym (list_all-append test xs ys) ∙ h)

  sound : list_all is_sound words ≡ true
  sound =
      let b = all_split is_ident f.binds (f.uses ++ (f.hosts ++ f.local_binds)) fit.idents in
      let u = all_split is_ident f.uses (f.hosts ++ f.local_binds) b.1 in
      let h = all_split is_ident f.hosts f.local_binds u.1 in
      all_sound words (record {
        binds = b.0;
        uses = u.0;
        hosts = h.0;
        local_binds = h.1;
        locals = all_among is_ident f.locals f.local_binds fit.local h.1;
        props = fit.props;
        keys = fit.formed;
        proper = kinds.0;
      })

  begins : (ws : List Word) → are_free_ends (ends_of ws) ≡ true → begins_apart ws ≡ true
  begins [] h = refl
  begins (word ∷ ws) h = (and_parts (not (is_export_access word)) (is_gap_word (last_of word ws)) h).0

  gap_at_end : (word : Word) (ws : List Word) → are_free_ends (ends_of (word ∷ ws)) ≡ true
      → is_gap_word (last_of word ws) ≡ true
  gap_at_end word ws h = (and_parts (not (is_export_access word)) (is_gap_word (last_of word ws)) h).1

  stand : (ws : List Word) → are_free_ends (ends_of ws) ≡ true → all_pairs meets_well ws ≡ true
      → AreAmong (pairs_in gated_name ws) the_module → each_next stands_by_kind ws None ≡ true
  stand [] h m g = refl
  stand (word ∷ ws) h m g = pairs_stand word ws m g (gap_at_end word ws h)

  named : (ws : List Word) → are_free_ends (ends_of ws) ≡ true → AreApart (pairs_in opened_name ws) the_module
      → each_next is_named_access ws None ≡ true
  named [] h o = refl
  named (word ∷ ws) h o = pairs_named word ws o (gap_at_end word ws h)

  end : (ws : List Word) → are_free_ends (ends_of ws) ≡ true → ends_in_gap ws ≡ true
  end [] h = absurd (true≢false (sym h))
  end (word ∷ ws) h = ends_gap word ws (gap_at_end word ws h)

  pub fits_alone : StandAlone words
  fits_alone =
      alone_by_kind words sound (stand words free kinds.1 fit.gated) (begins words free) notes.0 (end words free)
      (open_turn false words ∙ closed_turn f.turn notes.1)

  pub fits_exports : TakesExports c.exports words None
  fits_exports = record { known = fit.taken; named = named words free fit.opened }

  pub fits_keys : TakesKeys c.keys words
  fits_keys = record { known = fit.described; formed = fit.formed }

  pub fits_locals : KeepsLocals words
  fits_locals = record { bound = fit.local; apart = fit.apart }

-- ---- items whose words belong

module _ (c : Context) where
  each_item : (P Q : Item → Type 0) → ((item : Item) → P item → Q item) → (before items : List Item)
      → AllItems P items → EachItem (λ before item after. Q item) before items
  each_item P Q give before [] h = tt
  each_item P Q give before (item ∷ items) h = (give item h.0, each_item P Q give (before ++ item ∷ []) items h.1)

  names_among : (name : Word → Option (List ℕ)) (ys : List (List ℕ))
      → ((item : Item) → Belongs c item.words → AreAmong (filter_map name item.words) ys)
      → (items : List Item) → AllItems (λ item. Belongs c item.words) items
      → AreAmong (filter_map name (words_of items)) ys
  names_among name ys give [] h = tt
  names_among name ys give (item ∷ items) h =
      subst (λ (xs : List (List ℕ)). AreAmong xs ys) (sym (names-cons name item items))
      (among_both (filter_map name item.words) (filter_map name (words_of items)) ys (give item h.0)
      (names_among name ys give items h.1))

  -- items are linked whose words belong into the file, where names are declared once and are no host's
  pub linked_by_words : (items : List Item) → c.declared ≡ bound_names items
      → AllItems (λ item. Belongs c item.words) items → AreDistinct (bound_names items)
      → AreApart (bound_names items) c.hosts → AreLinked c items
  linked_by_words items all h d n =
      let alone = each_item (λ item. Belongs c item.words) (λ item. StandAlone item.words) (λ item b. b.alone) []
      items h in
      let exports = each_item (λ item. Belongs c item.words) (λ item. TakesExports c.exports item.words None)
      (λ item b. b.exported) [] items h in record {
        distinct = bound_once_from c.hosts [] items d n (apart_by (bound_names items) [] (λ x at k. k));
        resolved = resolved_from c.hosts [] items
            (names_among used_name (bound_names items)
            (λ item b. subst (AreAmong (used_in item.words)) all b.resolved.bound) items h)
            (names_among hosted_name c.hosts (λ item b. b.resolved.known) items h);
        local =
            each_item (λ item. Belongs c item.words) (λ item. KeepsLocals item.words) (λ item b. b.local) [] items h;
        exported = alone_exported c.exports [] items alone exports;
        described =
            each_item (λ item. Belongs c item.words) (λ item. TakesKeys c.keys item.words) (λ item b. b.described) []
            items h;
        spaced = alone_spaced [] items refl alone;
      }

  -- words belong whose facts fit
  pub belongs_by_facts : (words : List Word) → Fits c (facts words) → Belongs c words
  belongs_by_facts words fit = record {
    resolved = record { bound = fit.resolved; known = fit.known };
    local = fits_locals c words fit;
    exported = fits_exports c words fit;
    described = fits_keys c words fit;
    alone = fits_alone c words fit;
  }

  abbrev pub FitItem : Item → Type 0
  FitItem item = Fits c (facts item.words)

  all_belong : (items : List Item) → AllItems FitItem items → AllItems (λ item. Belongs c item.words) items
  all_belong [] h = tt
  all_belong (item ∷ items) h = (belongs_by_facts item.words h.0, all_belong items h.1)

  -- items are linked where the facts of each fit
  pub linked_by_facts : (items : List Item) → c.declared ≡ bound_names items → AllItems FitItem items
      → AreDistinct (bound_names items) → AreApart (bound_names items) c.hosts → AreLinked c items
  linked_by_facts items all h d n = linked_by_words items all (all_belong items h) d n

-- ---- what items declare, from their facts

pub declared_are : (items : List Item) → bound_names items ≡ flat_map (λ (item : Item). (facts item.words).binds) items
declared_are [] = refl
declared_are (item ∷ items) =
    names-cons bound_name item items ∙ ap (λ (xs : List (List ℕ)). bound_in item.words ++ xs) (declared_are items)

-- a name that an item binds is declared
pub declared_by : (name : List ℕ) (item : Item) (items : List Item) → IsIn item items
    → IsIn name (facts item.words).binds → IsIn name (bound_names items)
declared_by name item [] at binds = absurd at
declared_by name item (other ∷ items) (inl same) binds =
    subst (IsIn name) (sym (names-cons bound_name other items))
    (in_left name (bound_in other.words) (bound_names items)
    (subst (λ (i : Item). IsIn name (bound_in i.words)) same binds))
declared_by name item (other ∷ items) (inr at) binds =
    subst (IsIn name) (sym (names-cons bound_name other items))
    (in_right name (bound_in other.words) (bound_names items) (declared_by name item items at binds))
