-- The parts of a file's part of a listing.
use Rattle.std.specs.Prelude.{◌≡◌, ◌≢◌, ◌<◌, ◌*◌, ◌^◌, ℕ, List, ◌∷◌, ◌++◌, length, slice_index, codes, Bool, true, false, IsUtf8}
use Rattle.std.specs.Fmt.{decimal}
use Rattle.hex.specs.Hex.{IsBytes}
use Rattle.glue_ends.specs.Listing.{form_word, shown_bytes}

-- no byte is this one
abbrev pub Lacks : ℕ → List ℕ → Type 0
Lacks byte bytes = (i : ℕ) → i < length bytes → slice_index bytes i ≢ byte

-- bytes cut in two at the first that is this one
pub record IsFirstCut (byte : ℕ) (bytes front back : List ℕ) : Type 0 where
  pub whole : bytes ≡ front ++ byte ∷ back
  pub lacks : Lacks byte front

-- bytes cut in two at the last that is this one
pub record IsLastCut (byte : ℕ) (bytes front back : List ℕ) : Type 0 where
  pub whole : bytes ≡ front ++ byte ∷ back
  pub lacks : Lacks byte back

-- `file ` and what follows
abbrev pub file_word : List ℕ → List ℕ
file_word rest = codes "file " ++ rest

-- `file `, a path, a word and a count, with spaces between
abbrev pub heading_line : List ℕ → List ℕ → List ℕ → List ℕ
heading_line path word count = file_word (path ++ 32 ∷ (word ++ 32 ∷ count))

-- a line is these parts, of which the last two have no space
pub record AreParts (line path word count : List ℕ) : Type 0 where
  pub whole : line ≡ heading_line path word count
  pub word_lacks : Lacks 32 word
  pub count_lacks : Lacks 32 count

-- a line is the heading of a file with this path, which is text, this form and so many bytes
pub record IsHeadingOf (line path : List ℕ) (is_text : Bool) (count : ℕ) : Type 0 where
  pub whole : line ≡ heading_line path (form_word is_text) (decimal count)
  pub text : IsUtf8 path
  pub few : count < 2 ^ 64

-- a line is no file's heading
abbrev pub IsNoHeading : List ℕ → Type 0
IsNoHeading line = (path : List ℕ) (is_text : Bool) (count : ℕ) → IsHeadingOf line path is_text count → ⊥

-- how many bytes show so many
abbrev pub size_of : Bool → ℕ → ℕ
size_of true count = count
size_of false count = 2 * count

-- a text cut in two behind so many bytes, where a line feed stands
pub record IsCutAt (text : List ℕ) (size : ℕ) (front back : List ℕ) : Type 0 where
  pub whole : text ≡ front ++ 10 ∷ back
  pub long : length front ≡ size

-- no line feed stands behind so many bytes
abbrev pub IsNoCut : List ℕ → ℕ → Type 0
IsNoCut text size = (front back : List ℕ) → IsCutAt text size front back → ⊥

-- so many bytes in this form, and a line feed, stand at the head of a text
pub record IsBodyOf (text : List ℕ) (is_text : Bool) (count : ℕ) (bytes rest : List ℕ) : Type 0 where
  pub whole : text ≡ shown_bytes is_text bytes ++ 10 ∷ rest
  pub long : length bytes ≡ count
  pub are : IsBytes bytes

-- no so many bytes stand there
abbrev pub IsNoBody : List ℕ → Bool → ℕ → Type 0
IsNoBody text is_text count = (bytes rest : List ℕ) → IsBodyOf text is_text count bytes rest → ⊥
