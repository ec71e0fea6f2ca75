-- Each import that is listed with a name is bound under it, by an item of the import lines or by a vendor constant.
use Rattle.glue_context.proofs.Common.{◌≡◌, ℕ, inl, inr, List, [], ◌∷◌, ◌++◌, Some, Bool, true, false, true≢false, refl, ap, sym, ◌∙◌, append-nil, subst, codes, bytes_eq, bytes_eq-Decides, filter_map, flat_map, map, IsIn, Item, Imported, AreImportLines, vendor_items}
use Rattle.std.proofs.Common.{append_assoc, ◌⊎◌}
use Rattle.std.specs.Fmt.{decimal}
use Rattle.glue_words.specs.declared.word.Word.{Word}
use Rattle.glue_words.specs.declared.word.Word.TheVariants as w
use Rattle.glue_words.specs.declared.punct.TheConstants as punct
use Rattle.glue_words.specs.Words.{line_feed, space}
use Rattle.glue_shared.specs.declared.import.JsImportName.{JsImportName}
use Rattle.glue_shared.specs.declared.import.JsImportName.TheVariants as js
use Rattle.glue_targets.specs.Published.{entries_from, text_name, Enters, IsVendorConstant, BindsImport, IsImportBound}
use Rattle.glue_lines.specs.declared.form.LineForm.{LineForm}
use Rattle.glue_lines.specs.declared.form.LineForm.TheVariants as form
use Rattle.glue_lines.specs.Lines.{LineEntry, entry_with, next_entry, further_entries, entry_words, entries_words, end_words, import_words, import_line}
use Rattle.glue_lines.specs.Grouped.{placed_entry, placed_entries, entries_of, local_path, inline_path}
use Rattle.glue_lines.specs.Vendor.{closing_word, constant_words, tested_words, vendor_names, vendor_constant}
use Rattle.glue_lines.proofs.GroupedFacts.{entry_stands}
use Rattle.glue_lines.proofs.VendorFacts.{constant_holds, tried_names}
use Rattle.glue_names.proofs.Globals.{in_flat}
use Rattle.glue_context.specs.ImportedItems.{vendor_item}
use Rattle.glue_context.proofs.Entries.{in_filter_map}
use Rattle.glue_published.specs.Reexports.{is_outside}

-- ---- import lines

-- an entry is read back, and holds no text
entry_read : (b : Bool) (f : LineForm) (entry : LineEntry) (rest : List Word) → (b ≡ true → entry.0 ≡ entry.1)
    → entries_from true [] (entry_with f b entry ++ rest) ≡ entry ∷ entries_from true [] rest
entry_read true f entry rest same = ap (λ (name : List ℕ). (name, entry.1) ∷ entries_from true [] rest) (sym (same refl))
entry_read false form.Es entry rest same = refl
entry_read false form.CommonJs entry rest same = refl

entry_texts : (b : Bool) (f : LineForm) (entry : LineEntry) (rest : List Word)
    → filter_map text_name (entry_with f b entry ++ rest) ≡ filter_map text_name rest
entry_texts true f entry rest = refl
entry_texts false form.Es entry rest = refl
entry_texts false form.CommonJs entry rest = refl

-- and so are entries behind another
further_read : (f : LineForm) (entries : List LineEntry) (rest : List Word)
    → entries_from true [] (further_entries f entries ++ rest) ≡ entries ++ entries_from true [] rest
further_read f [] rest = refl
further_read f (entry ∷ entries) rest =
    ap (entries_from true []) (append_assoc (next_entry f entry) (further_entries f entries) rest)
    ∙ entry_read (bytes_eq entry.0 entry.1) f entry (further_entries f entries ++ rest) (bytes_eq-Decides entry.0 entry.1).0
    ∙ ap (λ (es : List LineEntry). entry ∷ es) (further_read f entries rest)

further_texts : (f : LineForm) (entries : List LineEntry) (rest : List Word)
    → filter_map text_name (further_entries f entries ++ rest) ≡ filter_map text_name rest
further_texts f [] rest = refl
further_texts f (entry ∷ entries) rest =
    ap (filter_map text_name) (append_assoc (next_entry f entry) (further_entries f entries) rest)
    ∙ entry_texts (bytes_eq entry.0 entry.1) f entry (further_entries f entries ++ rest)
    ∙ further_texts f entries rest

entries_read : (f : LineForm) (entries : List LineEntry) (rest : List Word)
    → entries_from true [] (entries_words f entries ++ rest) ≡ entries ++ entries_from true [] rest
entries_read f [] rest = refl
entries_read f (entry ∷ entries) rest =
    ap (entries_from true []) (append_assoc (entry_words f entry) (further_entries f entries) rest)
    ∙ entry_read (bytes_eq entry.0 entry.1) f entry (further_entries f entries ++ rest) (bytes_eq-Decides entry.0 entry.1).0
    ∙ ap (λ (es : List LineEntry). entry ∷ es) (further_read f entries rest)

entries_texts : (f : LineForm) (entries : List LineEntry) (rest : List Word)
    → filter_map text_name (entries_words f entries ++ rest) ≡ filter_map text_name rest
entries_texts f [] rest = refl
entries_texts f (entry ∷ entries) rest =
    ap (filter_map text_name) (append_assoc (entry_words f entry) (further_entries f entries) rest)
    ∙ entry_texts (bytes_eq entry.0 entry.1) f entry (further_entries f entries ++ rest)
    ∙ further_texts f entries rest

-- the end of the braces, and of the line
abbrev closing : LineForm → List ℕ → List Word
closing f path = space ∷ w.Punct punct.CLOSE_BRACE ∷ end_words f path

-- a line holds its entries, in their order, and no text but its path
line_read : (f : LineForm) (path : List ℕ) (entries : List LineEntry) → entries_from false [] (import_words f path entries) ≡ entries
line_read form.Es path entries = entries_read form.Es entries (closing form.Es path) ∙ append-nil entries
line_read form.CommonJs path entries = entries_read form.CommonJs entries (closing form.CommonJs path) ∙ append-nil entries

line_texts : (f : LineForm) (path : List ℕ) (entries : List LineEntry) → filter_map text_name (import_words f path entries) ≡ path ∷ []
line_texts form.Es path entries = entries_texts form.Es entries (closing form.Es path)
line_texts form.CommonJs path entries = entries_texts form.CommonJs entries (closing form.CommonJs path)

-- so it imports each name of its entries, under the name that stands with it
pub line_enters : (f : LineForm) (path : List ℕ) (entries : List LineEntry) (entry : LineEntry) → IsIn entry entries
    → Enters path entry.0 entry.1 (import_line f path entries)
line_enters f path entries entry at = record {
  line = refl;
  from = line_texts f path entries;
  entry = subst (IsIn entry) (sym (line_read f path entries)) at;
}

-- ---- vendor constants

tried_only : (names : List (List ℕ)) (x : List ℕ) → IsIn x (tried_names names) → IsIn x (codes "undefined" ∷ names)
tried_only [] x at = at
tried_only (name ∷ names) x (inl same) = inr (inl same)
tried_only (name ∷ names) x (inr (inl same)) = inr (inl same)
tried_only (name ∷ names) x (inr (inr at)) = elim (tried_only names x at) [ inl same ↦ inl same | inr later ↦ inr (inr later) ]

tried_all : (names : List (List ℕ)) (x : List ℕ) → IsIn x names → IsIn x (tried_names names)
tried_all [] x at = absurd at
tried_all (name ∷ names) x (inl same) = inl same
tried_all (name ∷ names) x (inr at) = inr (inr (tried_all names x at))

-- its words have no text but `undefined`
abbrev HasNoTexts : List Word → Type 0
HasNoTexts words = (text : List ℕ) → IsIn text (filter_map text_name words) → text ≡ codes "undefined"

closing_texts : (names : List (List ℕ)) (rest : List Word) → filter_map text_name (map closing_word names ++ rest) ≡ filter_map text_name rest
closing_texts [] rest = refl
closing_texts (name ∷ names) rest = closing_texts names rest

tested_texts : (names : List (List ℕ)) (rest : List Word) → HasNoTexts rest → HasNoTexts (flat_map tested_words names ++ rest)
tested_texts [] rest none text at = none text at
tested_texts (name ∷ names) rest none text (inl same) = same
tested_texts (name ∷ names) rest none text (inr later) = tested_texts names rest none text later

constant_texts : (bound : List ℕ) (names : List (List ℕ)) → HasNoTexts (constant_words bound names)
constant_texts bound names text at =
    let last : List Word = w.Host (codes "undefined") true ∷ map closing_word names in
    let end : List Word = w.Punct punct.SEMICOLON ∷ line_feed ∷ [] in
    tested_texts names (last ++ end) (λ text at. absurd (subst (IsIn text) (closing_texts names end) at)) text
    (subst (λ (words : List Word). IsIn text (filter_map text_name words)) (append_assoc (flat_map tested_words names) last end) at)

-- the constant of a name with prefixes tells which of its names is there
pub constant_tells : (bound name : List ℕ) (prefixes : List (List ℕ))
    → IsVendorConstant (vendor_names name prefixes) bound (vendor_constant bound name prefixes)
constant_tells bound name prefixes =
    let holds = constant_holds bound name prefixes in
    let names = vendor_names name prefixes in record {
      line = refl;
      binds = holds.binds;
      only = λ x at. tried_only names x (subst (IsIn x) holds.hosts at);
      all = λ x at. subst (IsIn x) (sym holds.hosts) (tried_all names x at);
      texts = constant_texts bound names;
    }

-- ---- imports

-- the module of a piece of JavaScript of a crate, whose parts may be joined from the left
inline_joined : (from : List ℕ) (index : ℕ)
    → codes "./snippets/" ++ from ++ codes "/inline" ++ decimal index ++ codes ".js" ≡ inline_path from index
inline_joined from index =
    let front = codes "./snippets/" ++ from in
    let back = decimal index ++ codes ".js" in
    append_assoc (front ++ codes "/inline") (decimal index) (codes ".js")
    ∙ append_assoc front (codes "/inline") back
    ∙ append_assoc (codes "./snippets/") from (codes "/inline" ++ back)

module _ (f : LineForm) (imports : List Imported) (lines : List Item) (are : AreImportLines f imports lines) where
  -- a name of a module is taken by the line of that module
  taken : (n : JsImportName) (path name drawn : List ℕ) → IsIn (n, drawn) imports → placed_entry (n, drawn) ≡ Some (path, (name, drawn))
      → (item : Item) × IsIn item lines × Enters path name drawn item
  taken n path name drawn at placed =
      let entries = entries_of path (placed_entries imports) in
      let stands = entry_stands f imports lines are path (name, drawn) (in_filter_map placed_entry imports (n, drawn) (path, (name, drawn)) at placed) in
      (import_line f path entries, stands.0, line_enters f path entries (name, drawn) stands.1)

  -- an import that is listed with a name, and is no name of the host, is bound under it by a line or a constant
  pub import_bound : (omitted : Bool) (n : JsImportName) (drawn : List ℕ) → IsIn (n, drawn) imports → is_outside omitted n ≡ false
      → (item : Item) × (IsIn item lines ⊎ IsIn item (vendor_items imports)) × BindsImport n drawn item
  import_bound omitted (js.Global name) drawn at own = absurd (true≢false own)
  import_bound omitted (js.Module path name) drawn at own =
      let line = taken (js.Module path name) path name drawn at refl in (line.0, inl line.1, line.2)
  import_bound omitted (js.LocalModule path name) drawn at own =
      let line = taken (js.LocalModule path name) (local_path path) name drawn at refl in (line.0, inl line.1, line.2)
  import_bound omitted (js.InlineJs from index name) drawn at own =
      let line = taken (js.InlineJs from index name) (inline_path from index) name drawn at refl in
      (line.0, inl line.1, subst (λ path. Enters path name drawn line.0) (sym (inline_joined from index)) line.2)
  import_bound omitted (js.VendorPrefixed name prefixes) drawn at own =
      let constant = vendor_constant drawn name prefixes in
      (constant, inr (in_flat vendor_item imports (js.VendorPrefixed name prefixes, drawn) constant at (inl refl)), constant_tells drawn name prefixes)

  -- and so by an item of any list that has them all
  pub import_bound_among : (items : List Item) → ((item : Item) → IsIn item lines → IsIn item items)
      → ((item : Item) → IsIn item (vendor_items imports) → IsIn item items) → (omitted : Bool) (n : JsImportName) (drawn : List ℕ)
      → IsIn (n, drawn) imports → is_outside omitted n ≡ false → IsImportBound items n drawn
  import_bound_among items with_lines with_constants omitted n drawn at own =
      let bound = import_bound omitted n drawn at own in record {
        item = bound.0;
        stands = elim bound.1 [ inl here ↦ with_lines bound.0 here | inr here ↦ with_constants bound.0 here ];
        binds = bound.2;
      }
