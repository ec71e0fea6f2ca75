-- What the import lines of described names declare, where they belong, and where an entry stands.
use Rattle.std.proofs.Common.{◌≡◌, ℕ, true, List, [], ◌∷◌, ◌++◌, inl, inr, refl, ap, sym, ◌∙◌, map, subst}
use Rattle.std.specs.Prelude.{Some}
use Rattle.std.specs.Cmp.Lexicographic.{nat_list_cmp_total}
use Rattle.std.specs.List.{list_all, flat_map}
use Rattle.std.specs.Map.{keys_of}
use Rattle.values.specs.Lists.{IsIn, AreDistinct}
use Rattle.values.proofs.Maps.{ascending_distinct}
use Rattle.values.proofs.Members.{distinct_both}
use Rattle.glue_words.specs.declared.item.Item.{Item}
use Rattle.glue_words.specs.Ident.{is_ident}
use Rattle.glue_words.specs.Linking.{AreAmong}
use Rattle.glue_words.specs.Names.{bound_name, bound_names}
use Rattle.glue_words.proofs.Among.{among_by, among_in, apart_by}
use Rattle.glue_words.proofs.Belonging.{Context, Belongs, AllItems}
use Rattle.glue_words.proofs.Fitting.{all_among}
use Rattle.glue_words.proofs.Linked.{names-cons}
use Rattle.glue_lines.specs.declared.form.LineForm.{LineForm}
use Rattle.glue_lines.specs.Lines.{LineEntry, import_line}
use Rattle.glue_lines.specs.Grouped.{Imported, AreByModule, AreImportLines, entries_of, line_of, placed_entries}
use Rattle.glue_lines.specs.Grouped.{some_entries, text_order}
use Rattle.glue_lines.proofs.LineFacts.{entry_names, line_hosts, import_holds, import_belongs}
use Rattle.glue_lines.proofs.Placing.{from_map, in_map, in_lists, from_lists, one_of, in_entries, given_from, given_distinct}
use Rattle.glue_lines.proofs.Placing.{placed_entry_names, some_is, found_line, own_line}

-- the names that entries of lines give
abbrev line_names : List (List ℕ × List LineEntry) → List (List ℕ)
line_names lines = flat_map (λ (line : List ℕ × List LineEntry). entry_names line.1) lines

-- each line has the entries of its module
abbrev HaveEntries : List (List ℕ × LineEntry) → List (List ℕ × List LineEntry) → Type 0
HaveEntries placed lines = (line : List ℕ × List LineEntry) → IsIn line lines → line.1 ≡ entries_of line.0 placed

have_entries : (placed : List (List ℕ × LineEntry)) (lines : List (List ℕ × List LineEntry)) → AreByModule placed lines
    → AreDistinct (keys_of lines) → HaveEntries placed lines
have_entries placed lines by d line at =
    sym (some_is (entries_of line.0 placed) line.1 (sym (by.each line.0) ∙ own_line lines line.0 line.1 d at))

items_bound : (f : LineForm) (lines : List (List ℕ × List LineEntry)) → bound_names (map (line_of f) lines) ≡ line_names lines
items_bound f [] = refl
items_bound f (line ∷ lines) =
    names-cons bound_name (line_of f line) (map (line_of f) lines)
    ∙ ap (λ (names : List (List ℕ)). names ++ bound_names (map (line_of f) lines)) (import_holds f line.0 line.1).binds
    ∙ ap (λ (names : List (List ℕ)). entry_names line.1 ++ names) (items_bound f lines)

names_distinct : (placed : List (List ℕ × LineEntry)) (lines : List (List ℕ × List LineEntry))
    → AreDistinct (placed_entry_names placed) → AreDistinct (keys_of lines) → HaveEntries placed lines
    → AreDistinct (line_names lines)
names_distinct placed [] d k have = tt
names_distinct placed (line ∷ lines) d k have =
    let own = have line (inl refl) in
    distinct_both (entry_names line.1) (line_names lines)
    (subst (λ (es : List LineEntry). AreDistinct (entry_names es)) (sym own) (given_distinct line.0 placed d))
    (names_distinct placed lines d k.1 (λ l at. have l (inr at)))
    (apart_by (entry_names line.1) (line_names lines) (λ name here there.
    let one = given_from line.0 name placed (subst (λ (es : List LineEntry). IsIn name (entry_names es)) own here) in
    let found = from_lists (λ (l : List ℕ × List LineEntry). entry_names l.1) name lines there in
    let other = given_from found.0.0 name placed
    (subst (λ (es : List LineEntry). IsIn name (entry_names es)) (have found.0 (inr found.1)) found.2) in
    let same = one_of (λ (p : List ℕ × LineEntry). p.1.1) (line.0, one.0) (found.0.0, other.0) placed d one.1 other.1
    (sym one.2 ∙ other.2) in
    k.0 (subst (λ (path : List ℕ). IsIn path (keys_of lines)) (sym (ap (λ (p : List ℕ × LineEntry). p.0) same))
    (in_map (λ (l : List ℕ × List LineEntry). l.0) found.0 lines found.1))))

some_there : (entry : LineEntry) (entries : List LineEntry) → IsIn entry entries → some_entries entries ≡ Some entries
some_there entry [] at = absurd at
some_there entry (other ∷ entries) at = refl

all_items : (P : Item → Type 0) (f : LineForm) (lines : List (List ℕ × List LineEntry))
    → ((line : List ℕ × List LineEntry) → IsIn line lines → P (line_of f line)) → AllItems P (map (line_of f) lines)
all_items P f [] give = tt
all_items P f (line ∷ lines) give = (give line (inl refl), all_items P f lines (λ l at. give l (inr at)))

module _ (f : LineForm) (imports : List Imported) (items : List Item) (are : AreImportLines f imports items) where
  abbrev placed : List (List ℕ × LineEntry)
  placed = placed_entries imports

  -- the names that the glue file has for described names of modules, in their order
  abbrev pub drawn_names : List (List ℕ)
  drawn_names = placed_entry_names placed

  keys_distinct : AreDistinct (keys_of are.lines)
  keys_distinct = ascending_distinct text_order nat_list_cmp_total (keys_of are.lines) are.by_module.in_order

  have : HaveEntries placed are.lines
  have = have_entries placed are.lines are.by_module keys_distinct

  bound_are : bound_names items ≡ line_names are.lines
  bound_are = ap bound_names are.items_are ∙ items_bound f are.lines

  -- an entry stands in the line of its module, and that among the lines
  pub entry_stands : (path : List ℕ) (entry : LineEntry) → IsIn (path, entry) placed
      → IsIn (import_line f path (entries_of path placed)) items × IsIn entry (entries_of path placed)
  entry_stands path entry at =
      let here = in_entries path entry placed at in
      let line = found_line are.lines path (entries_of path placed)
      (are.by_module.each path ∙ some_there entry (entries_of path placed) here) in (
        subst (IsIn (import_line f path (entries_of path placed))) (sym are.items_are)
            (in_map (line_of f) (path, entries_of path placed) are.lines line),
        here,
      )

  given_there : (line : List ℕ × List LineEntry) → IsIn line are.lines → AreAmong (entry_names line.1) drawn_names
  given_there line at =
      among_by (entry_names line.1) drawn_names (λ name here.
      let r = given_from line.0 name placed (subst (λ (es : List LineEntry). IsIn name (entry_names es)) (have line at) here) in
      rw (r.2) (in_map (λ (p : List ℕ × LineEntry). p.1.1) (line.0, r.0) placed r.1))

  -- the lines declare those names, and no others, each once where they are distinct
  pub lines_declare : AreAmong (bound_names items) drawn_names
  lines_declare =
      among_by (bound_names items) drawn_names (λ name at.
      let found = from_lists (λ (l : List ℕ × List LineEntry). entry_names l.1) name are.lines
      (subst (IsIn name) bound_are at) in
      among_in name (entry_names found.0.1) drawn_names (given_there found.0 found.1) found.2)

  pub lines_declare_all : AreAmong drawn_names (bound_names items)
  lines_declare_all =
      among_by drawn_names (bound_names items) (λ name at.
      let r = from_map (λ (p : List ℕ × LineEntry). p.1.1) name placed at in
      let here = in_entries r.0.0 r.0.1 placed r.1 in
      let line = found_line are.lines r.0.0 (entries_of r.0.0 placed)
      (are.by_module.each r.0.0 ∙ some_there r.0.1 (entries_of r.0.0 placed) here) in
      subst (IsIn name) (sym bound_are)
      (in_lists (λ (l : List ℕ × List LineEntry). entry_names l.1) name (r.0.0, entries_of r.0.0 placed) are.lines line
      (subst (λ (n : List ℕ). IsIn n (entry_names (entries_of r.0.0 placed))) (sym r.2)
      (in_map (λ (e : LineEntry). e.1) r.0.1 (entries_of r.0.0 placed) here))))

  pub lines_distinct : AreDistinct drawn_names → AreDistinct (bound_names items)
  lines_distinct d = subst AreDistinct (sym bound_are) (names_distinct placed are.lines d keys_distinct have)

  -- what holds of each import line holds of each of them
  pub lines_each : (P : Item → Type 0) → ((path : List ℕ) (entries : List LineEntry) → P (import_line f path entries))
      → AllItems P items
  lines_each P give =
      subst (AllItems P) (sym are.items_are) (all_items P f are.lines (λ line at. give line.0 line.1))

  -- they belong where the host gives what their form takes, if the names are identifiers
  pub lines_belong : (c : Context) → list_all is_ident drawn_names ≡ true → AreAmong (line_hosts f) c.hosts
      → AllItems (λ item. Belongs c item.words) items
  lines_belong c idents known =
      subst (AllItems (λ item. Belongs c item.words)) (sym are.items_are)
      (all_items (λ item. Belongs c item.words) f are.lines (λ line at.
      import_belongs f line.0 line.1 c (all_among is_ident (entry_names line.1) drawn_names (given_there line at) idents)
      known))
