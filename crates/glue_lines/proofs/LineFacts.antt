-- What lines that take a module declare, use and take of the host, and where they belong, for any number of entries.
use Rattle.std.proofs.Common.{◌≡◌, ℕ, ◌<◌, ◌^◌, Bool, true, false, List, [], ◌∷◌, ◌++◌, refl, ap, sym, ◌∙◌, map, append_assoc}
use Rattle.std.proofs.lemmas.List.{append-nil}
use Rattle.std.proofs.lemmas.List.Folds.{list_all-append}
use Rattle.std.specs.Prelude.{codes}
use Rattle.std.specs.List.{list_all, flat_map}
use Rattle.std.specs.Str.{bytes_eq}
use Rattle.glue_words.specs.declared.word.Word.{Word}
use Rattle.glue_words.specs.declared.word.Word.TheVariants as w
use Rattle.glue_words.specs.declared.key.TheConstants as key
use Rattle.glue_words.specs.declared.punct.TheConstants as punct
use Rattle.glue_words.specs.Words.{space, line_feed}
use Rattle.glue_words.specs.Facts.{Facts, Last, Below, Declares, facts, joined}
use Rattle.glue_words.specs.Ident.{is_ident}
use Rattle.glue_words.specs.Linking.{AreAmong}
use Rattle.glue_words.specs.Spacing.{joins, is_export_access}
use Rattle.glue_words.specs.Tables.{punct_text}
use Rattle.glue_words.proofs.Belonging.{Context, Belongs}
use Rattle.glue_words.proofs.Fitting.{Fits, belongs_by_facts}
use Rattle.glue_words.proofs.Idents.{ascii_ident}
use Rattle.glue_words.proofs.Joined.{joined_are}
use Rattle.glue_lines.specs.declared.form.LineForm.{LineForm}
use Rattle.glue_lines.specs.declared.form.LineForm.TheVariants as form
use Rattle.glue_lines.specs.Lines.{LineEntry, entry_with, entry_words, next_entry, further_entries, entries_words}
use Rattle.glue_lines.specs.Lines.{start_words, end_words, import_words, import_line, foreign_words, foreign_name}
use Rattle.glue_lines.specs.Lines.{foreign_line}
use Rattle.glue_lines.proofs.ForeignNames.{foreign_ident}
use Rattle.glue_lines.proofs.Shown.{shown, HoldsOnly, shown_holds, shown_fits}

-- the names that entries give in the glue file
abbrev pub entry_names : List LineEntry → List (List ℕ)
entry_names entries = map (λ entry. entry.1) entries

-- the names of the host that a line takes
abbrev pub line_hosts : LineForm → List (List ℕ)
line_hosts form.Es = []
line_hosts form.CommonJs = codes "require" ∷ []

-- the names for the outside that entries have
abbrev outside_with : Bool → LineEntry → List (List ℕ)
outside_with true entry = []
outside_with false entry = entry.0 ∷ []

abbrev outside_of : List LineEntry → List (List ℕ)
outside_of entries = flat_map (λ (entry : LineEntry). outside_with (bytes_eq entry.0 entry.1) entry) entries

-- ---- entries

next_are : (f : LineForm) (b : Bool) (entry : LineEntry)
    → facts (w.Punct punct.COMMA ∷ space ∷ entry_with f b entry)
    ≡ shown (entry.1 ∷ []) [] (outside_with b entry) (Last [] 0) (w.Punct punct.COMMA) (w.Bind entry.1)
unfolding joins punct_text
next_are form.Es true entry = refl
next_are form.Es false entry = refl
next_are form.CommonJs true entry = refl
next_are form.CommonJs false entry = refl

first_are : (f : LineForm) (b : Bool) (entry : LineEntry)
    → facts (w.Punct punct.OPEN_BRACE ∷ space ∷ entry_with f b entry)
    ≡ shown (entry.1 ∷ []) [] (outside_with b entry) (Last [] 1) (w.Punct punct.OPEN_BRACE) (w.Bind entry.1)
unfolding joins punct_text
first_are form.Es true entry = refl
first_are form.Es false entry = refl
first_are form.CommonJs true entry = refl
first_are form.CommonJs false entry = refl

-- the end of the braces
abbrev closing : List Word
closing = space ∷ w.Punct punct.CLOSE_BRACE ∷ []

-- the first word behind an entry
abbrev behind : List LineEntry → Word
behind [] = space
behind (entry ∷ entries) = w.Punct punct.COMMA

-- entries up to the end of the braces, behind another
abbrev further_facts : List LineEntry → Facts
further_facts entries =
    shown (entry_names entries) [] (outside_of entries) (Below [] (Last [] 0)) (behind entries) (w.Punct punct.CLOSE_BRACE)

further_joined : (entry : LineEntry) (entries : List LineEntry)
    → joined (shown (entry.1 ∷ []) [] (outside_with (bytes_eq entry.0 entry.1) entry) (Last [] 0) (w.Punct punct.COMMA)
    (w.Bind entry.1)) (further_facts entries)
    ≡ further_facts (entry ∷ entries)
further_joined entry [] = refl
further_joined entry (next ∷ entries) = refl

further_are : (f : LineForm) (entries : List LineEntry) → facts (further_entries f entries ++ closing) ≡ further_facts entries
unfolding joins punct_text
further_are f [] = refl
further_are f (entry ∷ entries) =
    ap facts (append_assoc (next_entry f entry) (further_entries f entries) closing)
    ∙ joined_are (next_entry f entry) (further_entries f entries ++ closing) _ _
    (next_are f (bytes_eq entry.0 entry.1) entry) (further_are f entries)
    ∙ further_joined entry entries

-- entries in braces
abbrev braced : LineForm → List LineEntry → List Word
braced f entries = w.Punct punct.OPEN_BRACE ∷ space ∷ entries_words f entries ++ closing

abbrev braced_facts : List LineEntry → Facts
braced_facts entries =
    shown (entry_names entries) [] (outside_of entries) (Last [] 0) (w.Punct punct.OPEN_BRACE) (w.Punct punct.CLOSE_BRACE)

braced_joined : (entry : LineEntry) (entries : List LineEntry)
    → joined (shown (entry.1 ∷ []) [] (outside_with (bytes_eq entry.0 entry.1) entry) (Last [] 1)
    (w.Punct punct.OPEN_BRACE) (w.Bind entry.1)) (further_facts entries)
    ≡ braced_facts (entry ∷ entries)
braced_joined entry [] = refl
braced_joined entry (next ∷ entries) = refl

braced_are : (f : LineForm) (entries : List LineEntry) → facts (braced f entries) ≡ braced_facts entries
unfolding joins punct_text
braced_are f [] = refl
braced_are f (entry ∷ entries) =
    let front = w.Punct punct.OPEN_BRACE ∷ space ∷ entry_words f entry in
    ap (λ (words : List Word). facts (w.Punct punct.OPEN_BRACE ∷ space ∷ words))
    (append_assoc (entry_words f entry) (further_entries f entries) closing)
    ∙ joined_are front (further_entries f entries ++ closing) _ _
    (first_are f (bytes_eq entry.0 entry.1) entry) (further_are f entries)
    ∙ braced_joined entry entries

-- ---- import lines

-- the first word of a line
abbrev start_key : LineForm → Word
start_key form.Es = w.Key key.IMPORT
start_key form.CommonJs = w.Key key.CONST

start_apart : (f : LineForm) → is_export_access (start_key f) ≡ false
start_apart form.Es = refl
start_apart form.CommonJs = refl

-- identifiers, with the names of the host that a line takes
line_idents : (f : LineForm) (names : List (List ℕ)) → list_all is_ident names ≡ true
    → list_all is_ident (names ++ (line_hosts f ++ [])) ≡ true
line_idents form.Es names h = rw (append-nil names) h
line_idents form.CommonJs names h =
    list_all-append is_ident names (codes "require" ∷ [])
    ∙ rw (h, ascii_ident (codes "require") refl) refl

start_are : (f : LineForm) → facts (start_words f) ≡ shown [] [] [] (Last [] 0) (start_key f) space
start_are form.Es = refl
start_are form.CommonJs = refl

end_are : (f : LineForm) (path : List ℕ)
    → facts (end_words f path) ≡ shown [] (line_hosts f) [] (Last [] 0) space line_feed
unfolding joins punct_text
end_are form.Es path = refl
end_are form.CommonJs path = refl

line_joined : (f : LineForm) (entries : List LineEntry)
    → joined (shown [] [] [] (Last [] 0) (start_key f) space)
    (joined (braced_facts entries) (shown [] (line_hosts f) [] (Last [] 0) space line_feed))
    ≡ shown (entry_names entries) (line_hosts f) (outside_of entries) (Last [] 0) (start_key f) line_feed
line_joined f entries =
    rw (
      append-nil (entry_names entries),
      append-nil (outside_of entries),
      append-nil (map Declares (entry_names entries)),
    ) refl

import_are : (f : LineForm) (path : List ℕ) (entries : List LineEntry)
    → facts (import_words f path entries)
    ≡ shown (entry_names entries) (line_hosts f) (outside_of entries) (Last [] 0) (start_key f) line_feed
import_are f path entries =
    ap (λ (words : List Word). facts (start_words f ++ w.Punct punct.OPEN_BRACE ∷ space ∷ words))
    (sym (append_assoc (entries_words f entries) closing (end_words f path)))
    ∙ joined_are (start_words f) (braced f entries ++ end_words f path) _ _ (start_are f)
    (joined_are (braced f entries) (end_words f path) _ _ (braced_are f entries) (end_are f path))
    ∙ line_joined f entries

module _ (f : LineForm) (path : List ℕ) (entries : List LineEntry) where
  abbrev line : List Word
  line = (import_line f path entries).words

  -- an import line declares the names that its entries give, and takes no name of the host but `require`
  pub import_holds : HoldsOnly line (entry_names entries) (line_hosts f)
  import_holds =
      shown_holds line (entry_names entries) (line_hosts f) (outside_of entries) (Last [] 0) (start_key f)
      (import_are f path entries)

  -- it fits and belongs where the host gives it, if the names that it declares are identifiers
  pub import_fits : (c : Context) → list_all is_ident (entry_names entries) ≡ true → AreAmong (line_hosts f) c.hosts
      → Fits c (facts line)
  import_fits c idents known =
      shown_fits line (entry_names entries) (line_hosts f) (outside_of entries) (Last [] 0) (start_key f)
      (import_are f path entries) c (start_apart f) (line_idents f (entry_names entries) idents) known

  pub import_belongs : (c : Context) → list_all is_ident (entry_names entries) ≡ true → AreAmong (line_hosts f) c.hosts
      → Belongs c line
  import_belongs c idents known = belongs_by_facts c line (import_fits c idents known)

-- ---- foreign lines

foreign_are : (f : LineForm) (name path : List ℕ)
    → facts (foreign_words f name path) ≡ shown (name ∷ []) (line_hosts f) [] (Last [] 0) (start_key f) line_feed
unfolding joins punct_text
foreign_are form.Es name path = refl
foreign_are form.CommonJs name path = refl

module _ (f : LineForm) (number : ℕ) (path : List ℕ) where
  abbrev whole : List Word
  whole = (foreign_line f number path).words

  -- a foreign line declares the name of its number, and takes no name of the host but `require`
  pub foreign_holds : HoldsOnly whole (foreign_name number ∷ []) (line_hosts f)
  foreign_holds =
      shown_holds whole (foreign_name number ∷ []) (line_hosts f) [] (Last [] 0) (start_key f)
      (foreign_are f (foreign_name number) path)

  -- it fits and belongs where the host gives it, whatever the number of 64 bits is
  pub foreign_fits : (c : Context) → number < 2 ^ 64 → AreAmong (line_hosts f) c.hosts → Fits c (facts whole)
  foreign_fits c small known =
      shown_fits whole (foreign_name number ∷ []) (line_hosts f) [] (Last [] 0) (start_key f)
      (foreign_are f (foreign_name number) path) c (start_apart f)
      (line_idents f (foreign_name number ∷ []) (rw (foreign_ident number small) refl)) known

  pub foreign_belongs : (c : Context) → number < 2 ^ 64 → AreAmong (line_hosts f) c.hosts → Belongs c whole
  foreign_belongs c small known = belongs_by_facts c whole (foreign_fits c small known)
