-- Entries that are put behind those of their modules.
use Rattle.std.proofs.Common.{◌≡◌, ℕ, ◌+◌, ◌<◌, Bool, true, false, List, [], ◌∷◌, ◌++◌, length, take, get_or, refl, ap}
use Rattle.std.proofs.Common.{sym, ◌∙◌, cond, map, subst}
use Rattle.std.proofs.lemmas.List.{append-nil, map-append, take_more}
use Rattle.std.proofs.lemmas.List.Elements.{filter-append, filter_map-append}
use Rattle.std.proofs.lemmas.Map.Text.{is_eq-slice_cmp}
use Rattle.std.proofs.lemmas.Slice.Eq.{bytes_eq-Decides}
use Rattle.std.specs.Prelude.{Option, Some, filter, unwrap_or}
use Rattle.std.specs.Cmp.Lexicographic.{nat_list_cmp_total}
use Rattle.std.specs.BTreeMap.{insert_entry}
use Rattle.std.specs.Str.{bytes_eq}
use Rattle.values.specs.Map.{look_up, AreInOrder}
use Rattle.values.proofs.Maps.{look_up_inserted}
use Rattle.glue_lines.specs.Lines.{LineEntry}
use Rattle.glue_lines.specs.Grouped.{AreByModule, AddsEntries, entries_of, some_entries, found_entries, text_order}
use Rattle.glue_lines.specs.Grouped.{Imported, placed_entry, placed_entries}

-- the entries of a module in joined lists
pub entries-append : (path : List ℕ) (xs ys : List (List ℕ × LineEntry))
    → entries_of path (xs ++ ys) ≡ entries_of path xs ++ entries_of path ys
entries-append path xs ys =
    ap (map (λ (p : List ℕ × LineEntry). p.1)) (filter-append (λ (p : List ℕ × LineEntry). bytes_eq path p.0) xs ys)
    ∙ map-append (λ (p : List ℕ × LineEntry). p.1) (filter (λ (p : List ℕ × LineEntry). bytes_eq path p.0) xs)
    (filter (λ (p : List ℕ × LineEntry). bytes_eq path p.0) ys)

-- entries that are there, or none
pub found_some : (entries : List LineEntry) → unwrap_or (some_entries entries) [] ≡ entries
found_some [] = refl
found_some (entry ∷ entries) = refl

some_more : (entries : List LineEntry) (entry : LineEntry) → some_entries (entries ++ entry ∷ []) ≡ Some (entries ++ entry ∷ [])
some_more [] entry = refl
some_more (first ∷ entries) entry = refl

-- what one entry more does to the entries of a module, by whether it is of that module
one_more : (b : Bool) (path : List ℕ) (entry : LineEntry) (old new : List LineEntry)
    → (b ≡ true → new ≡ old ++ entry ∷ []) → (found : Option (List LineEntry)) → found ≡ some_entries old
    → cond b (Some new) (cond b (Some []) found)
    ≡ some_entries (old ++ map (λ (p : List ℕ × LineEntry). p.1) (cond b ((path, entry) ∷ []) []))
one_more true path entry old new h found f = ap Some (h refl) ∙ sym (some_more old entry)
one_more false path entry old new h found f = f ∙ ap some_entries (sym (append-nil old))

-- what is put in at the text of its module, behind what was there, is added
pub put_adds : (lines after : List (List ℕ × List LineEntry)) (path : List ℕ) (entry : LineEntry)
    → after ≡ insert_entry text_order (insert_entry text_order lines path []) path (found_entries lines path ++ entry ∷ [])
    → AreInOrder text_order after → AddsEntries ((path, entry) ∷ []) lines after
put_adds lines after path entry is order placed by = record {
  in_order = order;
  each = λ q.
      let new = found_entries lines path ++ entry ∷ [] in
      let test = is_eq-slice_cmp q path in
      let same = (bytes_eq-Decides q path).0 in
      let at = ap (λ (es : List (List ℕ × List LineEntry)). look_up text_order es q) is
      ∙ look_up_inserted text_order nat_list_cmp_total (insert_entry text_order lines path []) path new q
      ∙ ap (cond _ (Some new)) (look_up_inserted text_order nat_list_cmp_total lines path [] q)
      ∙ ap (λ (b : Bool). cond b (Some new) (cond b (Some []) (look_up text_order lines q))) test in
      let old : found_entries lines path ≡ entries_of path placed =
      ap (λ (o : Option (List LineEntry)). unwrap_or o []) (by.each path) ∙ found_some (entries_of path placed) in
      at ∙ one_more (bytes_eq q path) path entry (entries_of q placed) new
      (λ e. ap (λ (es : List LineEntry). es ++ entry ∷ []) (old ∙ ap (λ (p : List ℕ). entries_of p placed) (sym (same e))))
      (look_up text_order lines q) (by.each q)
      ∙ ap some_entries (sym (entries-append q placed ((path, entry) ∷ [])));
}

-- what one described name more adds
pub adds_next : (imports : List Imported) (i : ℕ) (next : Imported) (before after : List (List ℕ × List LineEntry))
    → i < length imports → next ≡ get_or imports i next → AreByModule (placed_entries (take i imports)) before
    → AddsEntries (placed_entries (next ∷ [])) before after → AreByModule (placed_entries (take (i + 1) imports)) after
adds_next imports i next before after lt is by adds =
    let one : take (i + 1) imports ≡ take i imports ++ next ∷ [] =
    take_more imports i next lt ∙ ap (λ (x : Imported). take i imports ++ x ∷ []) (sym is) in
    subst (λ (placed : List (List ℕ × LineEntry)). AreByModule placed after)
    (sym (ap placed_entries one ∙ filter_map-append placed_entry (take i imports) (next ∷ [])))
    (adds (placed_entries (take i imports)) by)
