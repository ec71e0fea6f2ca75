-- Texts that are read, and texts that aren't: the place is that of the first part outside the notation.
use Rattle.std.proofs.Common.{◌≡◌, ◌∷◌, [], refl}
use Rattle.std.specs.Prelude.{Ok, Err, codes, pos}
use Rattle.glue_words.specs.declared.punct.TheConstants as punct
use Rattle.glue_words.specs.declared.word.Word.TheVariants.{Punct, Gap, Num, Text, Bind, Local}
use Rattle.glue_marked.specs.Marked.{read_marked}
use Rattle.glue_marked.proofs.Reading.{reading}

-- ---- rows

row_words : read_marked (codes "b@x = 1;")
    ≡ Ok (Bind (codes "x") ∷ Gap (codes " ") ∷ Punct punct.ASSIGN ∷ Gap (codes " ") ∷ Num (pos 1)
    ∷ Punct punct.SEMICOLON ∷ [])
unfolding reading
row_words = refl

row_text : read_marked (codes "x = \"a\\n\";")
    ≡ Ok (Local (codes "x") ∷ Gap (codes " ") ∷ Punct punct.ASSIGN ∷ Gap (codes " ") ∷ Text (97 ∷ 10 ∷ [])
    ∷ Punct punct.SEMICOLON ∷ [])
unfolding reading
row_text = refl

unclosed : read_marked (codes "a \"b") ≡ Err 2
unfolding reading
unclosed = refl

backslash : read_marked (codes "a \\ b") ≡ Err 2
unfolding reading
backslash = refl

reserved : read_marked (codes "a do b") ≡ Err 2
unfolding reading
reserved = refl

raw_line_feed : read_marked (codes "x = \"a\nb\"") ≡ Err 4
unfolding reading
raw_line_feed = refl

no_name : read_marked (codes "  b@ = 1") ≡ Err 2
unfolding reading
no_name = refl

template_line_feed : read_marked (codes "a `x\ny`") ≡ Err 2
unfolding reading
template_line_feed = refl

long_escape : read_marked (codes "x = \"\\x41\"") ≡ Err 4
unfolding reading
long_escape = refl

large_number : read_marked (codes "9223372036854775808") ≡ Err 0
unfolding reading
large_number = refl
