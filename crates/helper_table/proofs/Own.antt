-- Each held item is that of a helper that is there, with its key.
use Rattle.std.proofs.Common.{◌≡◌, ℕ, ◌-◌, ◌<◌, Bool, true, false, true≢false, List, refl, sym, ap, ◌∙◌, cond, arith}
use Rattle.std.specs.Prelude.{nat_eq, nat_lt, codes, Option, Some, None, slice_get}
use Rattle.std.specs.Ordering.{nat_cmp}
use Rattle.std.specs.Cmp.Lexicographic.{slice_cmp}
use Rattle.std.proofs.lemmas.Bool.{ltb-true}
use Rattle.std.proofs.Math.Nat.{mod-lt}
use Rattle.std.proofs.lemmas.List.Elements.{All-weaker}
use Rattle.values.specs.Lists.{IsIn}
use Rattle.values.specs.Map.{look_up}
use Rattle.glue_words.specs.declared.word.Word.{Word}
use Rattle.glue_words.specs.declared.item.Item.{Item}
use Rattle.glue_words.specs.declared.item.Role.{Role}
use Rattle.glue_words.specs.declared.item.Role.TheVariants.{Helper}
use Rattle.glue_words.specs.Names.{bound_in, used_in}
use Rattle.glue_helpers.specs.declared.closures.ClosureHelper.{ClosureHelper}
use Rattle.glue_helpers.specs.declared.closures.ClosureHelper.TheVariants as closure
use Rattle.glue_helpers.specs.declared.element.ElementKind.TheVariants as element
use Rattle.glue_helpers.specs.declared.element.Width.TheVariants as width
use Rattle.glue_helpers.specs.Closures.{closure_key}
use Rattle.glue_helpers.specs.Plain.{plain_item}
use Rattle.helper_set.specs.Helpers.{AreHelpers, held_item}
use Rattle.helper_set.proofs.Entries.{all_found}
use Rattle.helper_table.specs.declared.parts.EncoderForm.{EncoderForm}
use Rattle.helper_table.specs.declared.parts.EncoderForm.TheVariants as encoder
use Rattle.helper_table.specs.declared.parts.TableExport.{TableExport}
use Rattle.helper_table.specs.declared.parts.HelperParts.{HelperParts}
use Rattle.helper_table.specs.declared.kinds.Single.{Single}
use Rattle.helper_table.specs.declared.kinds.Single.TheVariants as single
use Rattle.helper_table.specs.declared.kinds.MemoryHelper.{MemoryHelper}
use Rattle.helper_table.specs.declared.kinds.MemoryHelper.TheVariants as memory
use Rattle.helper_table.specs.declared.kinds.TableHelper.{TableHelper}
use Rattle.helper_table.specs.declared.kinds.TableHelper.TheVariants as table
use Rattle.helper_table.specs.declared.kinds.Family.{Family}
use Rattle.helper_table.specs.declared.kinds.Family.TheVariants as family
use Rattle.helper_table.specs.declared.kinds.TheConstants.{SINGLES, SINGLE, FAMILIES, FAMILY}
use Rattle.helper_table.specs.Names.{single_key_at, family_name}
use Rattle.helper_table.specs.Made.{decoder_form, encoder_form, error_handled, closure_made, single_item, values_got, values_passed}
use Rattle.helper_table.specs.Made.{memory_item, added, taken, table_item, of_memory, of_table, family_item, helper_item}
use Rattle.helper_table.specs.Made.{single_at, family_at, family_of, place_of, is_there, item_words, helper_words, helper_key, count}
use Rattle.helper_table.specs.Closed.{binder, ArePresent}
use Rattle.helper_table.specs.Told.{Rows, row_at, before}
use Rattle.helper_table.specs.Laws.{binds_law}

-- ---- an item's role is the helper of its key

HasRole : Option Item → List ℕ → Type 0
HasRole None key = Unit {0}
HasRole (Some item) key = item.role ≡ Helper key

abbrev SingleRole : ℕ → Single → Type 0
SingleRole i f = (parts : HelperParts) → HasRole (single_item parts f) (single_key_at i)

abbrev FamilyRole : ℕ → Family → Type 0
FamilyRole q f = (parts : HelperParts) (n : ℕ) → HasRole (family_item parts f n) (family_name q n)

decoder_role : (b : Bool) → HasRole (Some (plain_item (decoder_form b))) (codes "text_decoder")
unfolding HasRole
decoder_role true = refl
decoder_role false = refl

encoder_role : (form : EncoderForm) → HasRole (Some (plain_item (encoder_form form))) (codes "text_encoder")
unfolding HasRole
encoder_role encoder.Own = refl
encoder_role encoder.Tested = refl
encoder_role encoder.Copying = refl

closure_role : (h : ClosureHelper) (o : Option (List ℕ)) → HasRole (closure_made h o) (closure_key h)
unfolding HasRole
closure_role h None = tt
closure_role h (Some destroy) = refl

error_role : (by : Bool) (t : Option TableExport) (o : Option (List ℕ)) → HasRole (error_handled by t o) (codes "handle_error")
unfolding HasRole
error_role by t None = tt
error_role true None (Some store) = tt
error_role true (Some t) (Some store) = refl
error_role false t (Some store) = refl

single_roles : Rows SingleRole SINGLE
unfolding Rows HasRole
single_roles =
    before (λ parts. refl)
    (before (λ parts. refl)
    (before (λ parts. refl)
    (before (λ parts. refl)
    (before (λ parts. refl)
    (before (λ parts. refl)
    (before (λ parts. refl)
    (before (λ parts. refl)
    (before (λ parts. refl)
    (before (λ parts. refl)
    (before (λ parts. refl)
    (before (λ parts. refl)
    (before (λ parts. refl)
    (before (λ parts. refl)
    (before (λ parts. refl)
    (before (λ parts. refl)
    (before (λ parts. refl)
    (before (λ parts. refl)
    (before (λ parts. decoder_role parts.browser)
    (before (λ parts. encoder_role parts.encoder)
    (before (λ parts. refl)
    (before (λ parts. closure_role closure.ClosureFinalization parts.destroy_closure)
    (before (λ parts. closure_role closure.MakeClosure parts.destroy_closure)
    (before (λ parts. closure_role closure.MakeMutClosure parts.destroy_closure)
    (before (λ parts. error_role parts.externref parts.table parts.exn_store)
    tt))))))))))))))))))))))))

by_memory : (q : ℕ) (m : MemoryHelper) → ((parts : HelperParts) (n : ℕ) (export : List ℕ) → HasRole (memory_item parts m n export) (family_name q n))
    → FamilyRole q (family.Memory m)
unfolding HasRole
by_memory q m role parts n = by (slice_get parts.memories n)
  where
    by : (o : Option (Option (List ℕ))) → HasRole (of_memory (λ export. memory_item parts m n export) o) (family_name q n)
    by None = tt
    by (Some None) = tt
    by (Some (Some export)) = role parts n export

by_table : (q : ℕ) (m : TableHelper) → ((parts : HelperParts) (n : ℕ) (export : List ℕ) → HasRole (table_item parts m n export) (family_name q n))
    → FamilyRole q (family.Table m)
unfolding HasRole
by_table q m role parts n = by parts.table
  where
    at : (t : TableExport) (b : Bool) → HasRole (cond b (table_item parts m n t.name) None) (family_name q n)
    at t true = role parts n t.name
    at t false = tt

    by : (o : Option TableExport) → HasRole (of_table (λ export. table_item parts m n export) n o) (family_name q n)
    by None = tt
    by (Some t) = at t (nat_eq t.place n)

got_role : (by : Bool) (t : Option TableExport) (o : Option (List ℕ)) (n : ℕ) → HasRole (values_got by t o n) (family_name 23 n)
unfolding HasRole
got_role false t o n = refl
got_role true None o n = tt
got_role true (Some t) None n = tt
got_role true (Some t) (Some free) n = refl

passed_role : (by : Bool) (t : Option TableExport) (n : ℕ) → HasRole (values_passed by t n) (family_name 24 n)
unfolding HasRole
passed_role false t n = refl
passed_role true None n = tt
passed_role true (Some t) n = refl

added_role : (n : ℕ) (export : List ℕ) (o : Option (List ℕ)) → HasRole (added n export o) (family_name 25 n)
unfolding HasRole
added_role n export None = tt
added_role n export (Some allocate) = refl

taken_role : (n : ℕ) (export : List ℕ) (o : Option (List ℕ)) → HasRole (taken n export o) (family_name 27 n)
unfolding HasRole
taken_role n export None = tt
taken_role n export (Some free) = refl

family_roles : Rows FamilyRole FAMILY
unfolding Rows HasRole
family_roles =
    before (by_memory 0 (memory.ArrayView element.I8) (λ parts n export. refl))
    (before (by_memory 1 (memory.ArrayView element.U8) (λ parts n export. refl))
    (before (by_memory 2 (memory.ArrayView element.I16) (λ parts n export. refl))
    (before (by_memory 3 (memory.ArrayView element.U16) (λ parts n export. refl))
    (before (by_memory 4 (memory.ArrayView element.I32) (λ parts n export. refl))
    (before (by_memory 5 (memory.ArrayView element.U32) (λ parts n export. refl))
    (before (by_memory 6 (memory.ArrayView element.I64) (λ parts n export. refl))
    (before (by_memory 7 (memory.ArrayView element.U64) (λ parts n export. refl))
    (before (by_memory 8 memory.DataView (λ parts n export. refl))
    (before (by_memory 9 (memory.GetArray element.I8) (λ parts n export. refl))
    (before (by_memory 10 (memory.GetArray element.U8) (λ parts n export. refl))
    (before (by_memory 11 (memory.GetArray element.I16) (λ parts n export. refl))
    (before (by_memory 12 (memory.GetArray element.U16) (λ parts n export. refl))
    (before (by_memory 13 (memory.GetArray element.I32) (λ parts n export. refl))
    (before (by_memory 14 (memory.GetArray element.U32) (λ parts n export. refl))
    (before (by_memory 15 (memory.GetArray element.I64) (λ parts n export. refl))
    (before (by_memory 16 (memory.GetArray element.U64) (λ parts n export. refl))
    (before (by_memory 17 (memory.PassArray width.Bits8) (λ parts n export. refl))
    (before (by_memory 18 (memory.PassArray width.Bits16) (λ parts n export. refl))
    (before (by_memory 19 (memory.PassArray width.Bits32) (λ parts n export. refl))
    (before (by_memory 20 (memory.PassArray width.Bits64) (λ parts n export. refl))
    (before (by_memory 21 memory.GetString (λ parts n export. refl))
    (before (by_memory 22 memory.PassString (λ parts n export. refl))
    (before (by_memory 23 memory.GetValues (λ parts n export. got_role parts.externref parts.table parts.externref_drop_slice n))
    (before (by_memory 24 memory.PassValues (λ parts n export. passed_role parts.externref parts.table n))
    (before (by_table 25 table.Add (λ parts n export. added_role n export parts.externref_alloc))
    (before (by_table 26 table.Get (λ parts n export. refl))
    (before (by_table 27 table.Take (λ parts n export. taken_role n export parts.externref_drop))
    tt)))))))))))))))))))))))))))

role_by : (parts : HelperParts) (b : Bool) (i : ℕ) → nat_lt i SINGLES ≡ b
    → HasRole (cond b (single_item parts (single_at i)) (family_item parts (family_at (family_of i)) (place_of i)))
    (cond b (single_key_at i) (family_name (family_of i) (place_of i)))
role_by parts true i e = row_at SingleRole SINGLE single.HandleError single_roles i (ltb-true i SINGLES e) parts
role_by parts false i e =
    row_at FamilyRole FAMILY (family.Table table.Get) family_roles (family_of i) (mod-lt (i - SINGLES) {m = FAMILIES} (omega arith)) parts
    (place_of i)

own_role : (parts : HelperParts) (i : ℕ) → HasRole (helper_item parts i) (helper_key i)
unfolding helper_item helper_key
own_role parts i = role_by parts (nat_lt i SINGLES) i refl

-- ---- each held helper is there

binds_there : (o : Option Item) (name : List ℕ) → IsIn name (bound_in (item_words o)) → is_there o ≡ true
binds_there None name h = absurd h
binds_there (Some item) name h = refl

abbrev is_node_there : HelperParts → ℕ → Bool
is_node_there parts i = is_there (helper_item parts i)

pub bound_there : (parts : HelperParts) (i : ℕ) (name : List ℕ) → IsIn name (bound_in (helper_words parts i)) → is_node_there parts i ≡ true
bound_there parts i name h = binds_there (helper_item parts i) name h

held_there : (parts : HelperParts) (needed : List ℕ) (entries : List (List ℕ × List Word))
    (helpers : AreHelpers helper_key (helper_words parts) (binder parts) needed entries) → ArePresent parts needed → (i : ℕ) → helpers.held i ≡ true
    → is_node_there parts i ≡ true
held_there parts needed entries helpers present i h =
    helpers.least.least (is_node_there parts)
    (All-weaker (λ j. (j < count parts) × (is_node_there parts j ≡ true)) (λ j. is_node_there parts j ≡ true) (λ j p. p.1) needed present)
    (λ x there. all_found (λ j. is_node_there parts j ≡ true) (binder parts)
    (λ name j e. bound_there parts j name (binds_law parts name j e).1) (used_in (helper_words parts x))) i h

item_is : (item : Item) (key : List ℕ) (words : List Word) → item.role ≡ Helper key → words ≡ item.words → item ≡ held_item (key, words)
item_is item key words e f =
    ap (λ (r : Role). (let made : Item = record { role = r; words = item.words } in made)) e
    ∙ ap (λ (ws : List Word). held_item (key, ws)) (sym f)

own_case : (o : Option Item) (own key : List ℕ) (words : List Word) → is_there o ≡ true → HasRole o own → key ≡ own → words ≡ item_words o
    → o ≡ Some (held_item (key, words))
unfolding HasRole
own_case None own key words there role is same = absurd (true≢false (sym there))
own_case (Some item) own key words there role is same = ap Some (item_is item key words (role ∙ ap Helper (sym is)) same)

-- the entry of a helper that is there is its item
pub entry_item : (parts : HelperParts) (i : ℕ) (key : List ℕ) (words : List Word) → is_there (helper_item parts i) ≡ true → key ≡ helper_key i
    → words ≡ helper_words parts i → helper_item parts i ≡ Some (held_item (key, words))
entry_item parts i key words there is same = own_case (helper_item parts i) (helper_key i) key words there (own_role parts i) is same

-- each entry is the item of a helper that is there
pub owned : (parts : HelperParts) (needed : List ℕ) (entries : List (List ℕ × List Word))
    → AreHelpers helper_key (helper_words parts) (binder parts) needed entries → ArePresent parts needed → (key : List ℕ) (words : List Word)
    → look_up (slice_cmp nat_cmp) entries key ≡ Some words → (i : ℕ) × (helper_item parts i ≡ Some (held_item (key, words)))
owned parts needed entries helpers present key words e =
    let found = helpers.entries_are.only key words e in
    let there = held_there parts needed entries helpers present found.0 found.1.0 in
    (found.0, entry_item parts found.0 key words there found.1.1 found.1.2)
