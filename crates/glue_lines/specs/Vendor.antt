-- Constants of names that have vendor prefixes.
use Rattle.std.specs.Prelude.{ℕ, List, [], ◌∷◌, ◌++◌, map, true, false, codes}
use Rattle.std.specs.List.{flat_map}
use Rattle.glue_words.specs.declared.word.Word.{Word}
use Rattle.glue_words.specs.declared.word.Word.TheVariants as w
use Rattle.glue_words.specs.declared.item.Item.{Item}
use Rattle.glue_words.specs.declared.item.Role.TheVariants.{Import}
use Rattle.glue_words.specs.declared.key.TheConstants as key
use Rattle.glue_words.specs.declared.punct.TheConstants as punct
use Rattle.glue_words.specs.Words.{space, line_feed}
use Rattle.glue_shared.specs.declared.import.JsImportName.TheVariants.{VendorPrefixed}
use Rattle.glue_shared.specs.Names.{described_hosts}

-- the names of the host that are tried: the name, and the name behind each prefix
abbrev pub vendor_names : List ℕ → List (List ℕ) → List (List ℕ)
vendor_names name prefixes = described_hosts false (VendorPrefixed name prefixes)

-- `(typeof name !== "undefined" ? name : `
abbrev pub tested_words : List ℕ → List Word
tested_words name =
    w.Punct punct.OPEN_PAREN ∷ w.Key key.TYPEOF ∷ space ∷ w.Host name true ∷ space ∷ w.Punct punct.UNEQUAL ∷ space
    ∷ w.Text (codes "undefined") ∷ space ∷ w.Punct punct.QUESTION ∷ space ∷ w.Host name true ∷ space
    ∷ w.Punct punct.COLON ∷ space ∷ []

-- what closes the parenthesis of a name
abbrev pub closing_word : List ℕ → Word
closing_word name = w.Punct punct.CLOSE_PAREN

-- the first of the names that is there, or `undefined`
abbrev pub first_there : List (List ℕ) → List Word
first_there names = flat_map tested_words names ++ w.Host (codes "undefined") true ∷ map closing_word names

-- `const bound = (typeof name !== "undefined" ? name : (.. : undefined));`
abbrev pub constant_words : List ℕ → List (List ℕ) → List Word
constant_words bound names =
    w.Key key.CONST ∷ space ∷ w.Bind bound ∷ space ∷ w.Punct punct.ASSIGN ∷ space
    ∷ first_there names ++ w.Punct punct.SEMICOLON ∷ line_feed ∷ []

-- the constant of a name with prefixes
abbrev pub vendor_constant : List ℕ → List ℕ → List (List ℕ) → Item
vendor_constant bound name prefixes =
    record { role = Import; words = constant_words bound (vendor_names name prefixes) }
