-- A file's part is its heading, its bytes and a line feed.
use Rattle.std.proofs.Common.{◌≡◌, ◌≢◌, ℕ, ◌+◌, ◌<◌, ◌≤◌, List, [], ◌∷◌, ◌++◌, length, codes, Bool, true, false, refl, sym, ap, ◌∙◌, subst, arith, append_assoc, append-nil, length-append}
use Rattle.std.specs.List.{flat_map}
use Rattle.std.specs.Fmt.{decimal}
use Rattle.std.proofs.lemmas.Grind.{flat_map-append}
use Rattle.glue_ends.specs.Listing.{entry, listing, heading_text, form_word, shown_bytes}
use Rattle.glue_ends.specs.declared.plan.PlannedFile.{PlannedFile}
use Rattle.file_listing.specs.Parts.{Lacks, IsFirstCut, heading_line, IsHeadingOf, IsNoHeading, IsBodyOf, IsNoBody}
use Rattle.file_listing.specs.Reading.{IsListable, AreListable, IsEntryOf, HasNoEntry, IsFault}
use Rattle.file_listing.proofs.Lacking.{lacks_cons, lacks_append, lacks_front, lacks_behind, lacks_by_test, not_lacking, unique_first}
use Rattle.file_listing.proofs.Headings.{decimal_lacks_feed, word_lacks_feed, SameHeading, same_heading}
use Rattle.file_listing.proofs.Bodies.{same_rest, same_body}

-- the line of a file
abbrev line_of : PlannedFile → List ℕ
line_of f = heading_line f.path (form_word f.is_text) (decimal (length f.bytes))

-- what stands behind the line
abbrev body_of : PlannedFile → List ℕ → List ℕ
body_of f rest = shown_bytes f.is_text f.bytes ++ 10 ∷ rest

pub entry_lines : (f : PlannedFile) (rest : List ℕ) → entry f ++ rest ≡ line_of f ++ 10 ∷ body_of f rest
unfolding heading_text
entry_lines f rest = simp append_assoc

line_lacks : (f : PlannedFile) → IsListable f → Lacks 10 (line_of f)
line_lacks f h =
    let count : List ℕ = decimal (length f.bytes) in
    let last = lacks_cons 10 32 count (λ e. omega arith) (decimal_lacks_feed (length f.bytes) h.few) in
    let words = lacks_cons 10 32 (form_word f.is_text ++ 32 ∷ count) (λ e. omega arith) (lacks_append 10 (form_word f.is_text) (32 ∷ count) (word_lacks_feed f.is_text) last) in
    let rest = lacks_append 10 f.path (32 ∷ (form_word f.is_text ++ 32 ∷ count)) h.line words in
    lacks_append 10 (codes "file ") (f.path ++ 32 ∷ (form_word f.is_text ++ 32 ∷ count)) (lacks_by_test 10 (codes "file ") refl) rest

heading_of_file : (f : PlannedFile) → IsListable f → IsHeadingOf (line_of f) f.path f.is_text (length f.bytes)
heading_of_file f h = record { whole = refl; text = h.text; few = h.few }

body_of_file : (f : PlannedFile) (rest : List ℕ) → IsListable f → IsBodyOf (body_of f rest) f.is_text (length f.bytes) f.bytes rest
body_of_file f rest h = record { whole = refl; long = refl; are = h.bytes }

-- a file's part, cut at its first line feed
record CutEntry (line rest : List ℕ) (f : PlannedFile) (more : List ℕ) : Type 0 where
  pub same_line : line ≡ line_of f
  pub same_body : rest ≡ body_of f more

cut_entry : (text line rest : List ℕ) (f : PlannedFile) (more : List ℕ) → IsFirstCut 10 text line rest → IsEntryOf text f more → CutEntry line rest f more
cut_entry text line rest f more cut is =
    let same = unique_first 10 line rest (line_of f) (body_of f more) cut.lacks (line_lacks f is.listable) (sym cut.whole ∙ is.whole ∙ entry_lines f more) in
    record { same_line = same.0; same_body = same.1 }

pub no_entry_without_line : (text : List ℕ) → Lacks 10 text → HasNoEntry text
no_entry_without_line text lacks f more is = not_lacking 10 (line_of f) (body_of f more) (rw (is.whole ∙ entry_lines f more) at lacks)

read_heading : (text line rest : List ℕ) (f : PlannedFile) (more : List ℕ) → IsFirstCut 10 text line rest → IsEntryOf text f more → IsHeadingOf line f.path f.is_text (length f.bytes)
read_heading text line rest f more cut is =
    rw (cut_entry text line rest f more cut is).same_line (heading_of_file f is.listable)

pub no_entry_by_heading : (text line rest : List ℕ) → IsFirstCut 10 text line rest → IsNoHeading line → HasNoEntry text
no_entry_by_heading text line rest cut none f more is = none f.path f.is_text (length f.bytes) (read_heading text line rest f more cut is)

-- by the heading that was read, what follows it is the file's body
read_body : (text line rest : List ℕ) (path : List ℕ) (is_text : Bool) (count : ℕ) (f : PlannedFile) (more : List ℕ) → IsFirstCut 10 text line rest → IsHeadingOf line path is_text count → IsEntryOf text f more
    → IsBodyOf rest is_text count f.bytes more
read_body text line rest path is_text count f more cut heading is =
    let same = same_heading line f.path f.is_text (length f.bytes) path is_text count (read_heading text line rest f more cut is) heading in
    let whole : IsBodyOf rest f.is_text (length f.bytes) f.bytes more = rw (cut_entry text line rest f more cut is).same_body (body_of_file f more is.listable) in
    record { whole = whole.whole ∙ ap (λ t. shown_bytes t f.bytes ++ 10 ∷ more) same.same_form; long = same.same_count; are = is.listable.bytes }

pub no_entry_by_body : (text line rest path : List ℕ) (is_text : Bool) (count : ℕ) → IsFirstCut 10 text line rest → IsHeadingOf line path is_text count → IsNoBody rest is_text count → HasNoEntry text
no_entry_by_body text line rest path is_text count cut heading none f more is =
    none f.bytes more (read_body text line rest path is_text count f more cut heading is)

-- a heading's path is a part of its line
path_lacks : (line path : List ℕ) (is_text : Bool) (count : ℕ) → Lacks 10 line → IsHeadingOf line path is_text count → Lacks 10 path
path_lacks line path is_text count lacks h =
    let all : Lacks 10 (codes "file " ++ (path ++ 32 ∷ (form_word is_text ++ 32 ∷ decimal count))) = rw h.whole at lacks in
    lacks_front 10 path (32 ∷ (form_word is_text ++ 32 ∷ decimal count)) (lacks_behind 10 (codes "file ") (path ++ 32 ∷ (form_word is_text ++ 32 ∷ decimal count)) all)

-- a line, its heading and its body are a file's part
pub entry_by_parts : (text line rest path : List ℕ) (is_text : Bool) (count : ℕ) (bytes after : List ℕ) → IsFirstCut 10 text line rest → IsHeadingOf line path is_text count → IsBodyOf rest is_text count bytes after
    → IsEntryOf text (record { path = path; bytes = bytes; is_text = is_text }) after
entry_by_parts text line rest path is_text count bytes after cut heading body =
    let f : PlannedFile = record { path = path; bytes = bytes; is_text = is_text } in
    record {
      listable = record { text = heading.text; line = path_lacks line path is_text count cut.lacks heading; bytes = body.are; few = rw body.long heading.few };
      whole = cut.whole ∙ ap (λ l. l ++ 10 ∷ rest) (heading.whole ∙ ap (λ n. heading_line path (form_word is_text) (decimal n)) (sym body.long)) ∙ ap (λ l. line_of f ++ 10 ∷ l) body.whole ∙ sym (entry_lines f after);
    }

-- what stands behind the parts of two files at the head of one text is one
pub same_after : (text : List ℕ) (f g : PlannedFile) (rest more : List ℕ) → IsEntryOf text f rest → IsEntryOf text g more → rest ≡ more
same_after text f g rest more a b =
    let cut : IsFirstCut 10 text (line_of f) (body_of f rest) = record { whole = a.whole ∙ entry_lines f rest; lacks = line_lacks f a.listable } in
    same_rest (body_of f rest) f.is_text (length f.bytes) f.bytes rest g.bytes more (body_of_file f rest a.listable)
    (read_body text (line_of f) (body_of f rest) f.path f.is_text (length f.bytes) g more cut (heading_of_file f a.listable) b)

-- ---- all files

pub listable_more : (files : List PlannedFile) (f : PlannedFile) → AreListable files → IsListable f → AreListable (files ++ f ∷ [])
listable_more [] f a b = (b, tt)
listable_more (g ∷ files) f a b = (a.0, listable_more files f a.1 b)

pub listing_more : (text : List ℕ) (files : List PlannedFile) (rest : List ℕ) (f : PlannedFile) (after : List ℕ) → text ≡ listing files ++ rest → rest ≡ entry f ++ after → text ≡ listing (files ++ f ∷ []) ++ after
listing_more text files rest f after whole is =
    let one : listing (files ++ f ∷ []) ≡ listing files ++ entry f = flat_map-append entry files (f ∷ []) ∙ ap (λ l. listing files ++ l) (append-nil (entry f)) in
    whole ∙ ap (λ l. listing files ++ l) is ∙ sym (append_assoc (listing files) (entry f) after) ∙ ap (λ l. l ++ after) (sym one)

-- no part is empty
pub entry_long : (f : PlannedFile) (rest : List ℕ) → length rest < length (entry f ++ rest)
entry_long f rest =
    let lines = entry_lines f rest in
    omega (arith, ap length lines, length-append (line_of f) (10 ∷ body_of f rest), length-append (shown_bytes f.is_text f.bytes) (10 ∷ rest))

not_empty : (f : PlannedFile) (rest : List ℕ) → entry f ++ rest ≢ []
not_empty f rest is = omega (arith, entry_long f rest, ap length is)

-- where files were read, all files that the text lists go on with the rest
pub record GoesOn (rest : List ℕ) : Type 0 where
  pub files : List PlannedFile
  pub listable : AreListable files
  pub whole : rest ≡ listing files

pub goes_on : (read all : List PlannedFile) (rest : List ℕ) → AreListable read → AreListable all → listing all ≡ listing read ++ rest → GoesOn rest
goes_on [] all rest a b is = record { files = all; listable = b; whole = sym is }
goes_on (f ∷ read) [] rest a b is = absurd (not_empty f (listing read ++ rest) (sym (is ∙ append_assoc (entry f) (listing read) rest)))
goes_on (f ∷ read) (g ∷ all) rest a b is =
    let one : IsEntryOf (listing (g ∷ all)) f (listing read ++ rest) = record { listable = a.0; whole = is ∙ append_assoc (entry f) (listing read) rest } in
    let two : IsEntryOf (listing (g ∷ all)) g (listing all) = record { listable = b.0; whole = refl } in
    goes_on read all rest a.1 b.1 (same_after (listing (g ∷ all)) g f (listing all) (listing read ++ rest) two one)

no_rest : (rest : List ℕ) → rest ≢ [] → HasNoEntry rest → (files : List PlannedFile) → AreListable files → rest ≡ listing files → ⊥
no_rest rest more none [] a is = more is
no_rest rest more none (f ∷ files) a is = none f (listing files) (record { listable = a.0; whole = is })

-- so no files have the text as their listing
pub no_listing : (text : List ℕ) (place : ℕ) → IsFault text place → (files : List PlannedFile) → AreListable files → listing files ≢ text
no_listing text place fault files a is =
    let on = goes_on fault.files files fault.rest fault.listable a (is ∙ fault.whole) in
    no_rest fault.rest fault.more fault.none on.files on.listable on.whole

-- ---- one text lists one list of files

abbrev made : List ℕ → List ℕ → Bool → PlannedFile
made path bytes is_text = record { path = path; bytes = bytes; is_text = is_text }

same_parts : (p q b c : List ℕ) (t u : Bool) → p ≡ q → b ≡ c → t ≡ u → made p b t ≡ made q c u
same_parts p q b c t u e f g = ap (λ x. made x b t) e ∙ ap (λ x. made q x t) f ∙ ap (λ x. made q c x) g

same_entry : (text : List ℕ) (f g : PlannedFile) (rest more : List ℕ) → IsEntryOf text f rest → IsEntryOf text g more → f ≡ g
same_entry text f g rest more a b =
    let cut : IsFirstCut 10 text (line_of f) (body_of f rest) = record { whole = a.whole ∙ entry_lines f rest; lacks = line_lacks f a.listable } in
    let heading = same_heading (line_of f) f.path f.is_text (length f.bytes) g.path g.is_text (length g.bytes) (heading_of_file f a.listable) (read_heading text (line_of f) (body_of f rest) g more cut b) in
    let bytes = same_body (body_of f rest) f.is_text (length f.bytes) f.bytes rest g.bytes more (body_of_file f rest a.listable)
    (read_body text (line_of f) (body_of f rest) f.path f.is_text (length f.bytes) g more cut (heading_of_file f a.listable) b) in
    same_parts f.path g.path f.bytes g.bytes f.is_text g.is_text heading.same_path bytes heading.same_form

pub same_files : (a b : List PlannedFile) → AreListable a → AreListable b → listing a ≡ listing b → a ≡ b
same_files [] [] m n is = refl
same_files [] (g ∷ b) m n is = absurd (not_empty g (listing b) (sym is))
same_files (f ∷ a) [] m n is = absurd (not_empty f (listing a) is)
same_files (f ∷ a) (g ∷ b) m n is =
    let one : IsEntryOf (listing (f ∷ a)) f (listing a) = record { listable = m.0; whole = refl } in
    let two : IsEntryOf (listing (f ∷ a)) g (listing b) = record { listable = n.0; whole = is } in
    ap (λ x. x ∷ a) (same_entry (listing (f ∷ a)) f g (listing a) (listing b) one two)
    ∙ ap (λ l. g ∷ l) (same_files a b m.1 n.1 (same_after (listing (f ∷ a)) f g (listing a) (listing b) one two))
