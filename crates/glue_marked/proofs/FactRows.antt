-- Facts of a few texts, computed: what they hold, and texts that are refused.
use Rattle.std.proofs.Common.{◌≡◌, ℕ, List, ◌∷◌, [], refl, Bool, true, false}
use Rattle.std.specs.Prelude.{codes}
use Rattle.glue_words.specs.Facts.{Facts, facts, Last, Below, Declares, UsesNow, names_outside}
use Rattle.glue_marked.specs.Reads.{words_in}
use Rattle.glue_marked.proofs.Reading.{reading}
use Rattle.glue_marked.proofs.ShippedFacts.{short, is_shipped}

abbrev facts_of : List ℕ → Facts
facts_of text = facts (words_in text)

abbrev ships : List ℕ → Bool
ships text = is_shipped (short (facts_of text))

-- a function that uses another, and takes an export
take_ships : ships (codes "function b@take(l@at) {\nreturn u@get(u@wasm.w@item(at));\n}\n") ≡ true
unfolding reading
take_ships = refl

-- a local name that isn't declared
undeclared_local : ships (codes "function b@take(l@at) {\nreturn u@get(place);\n}\n") ≡ false
unfolding reading
undeclared_local = refl

-- a parameter that hides a name from outside
hidden_name : ships (codes "function b@take(l@get) {\nreturn u@get(1);\n}\n") ≡ false
unfolding reading
hidden_name = refl

-- an export that is taken as a property
loose_export : ships (codes "u@wasm.item(1);\n") ≡ false
unfolding reading
loose_export = refl

-- two words that would be read as one
joined_words : ships (codes "let b@x = 1u@y;\n") ≡ false
unfolding reading
joined_words = refl

-- a function declaration is hoisted, its body isn't evaluated when the item is
loading_order : ((facts_of (codes "function b@f() {\nreturn u@g;\n}\nlet b@x = n@f();\n")).hoisted ≡ codes "f" ∷ [])
    × (((facts_of (codes "function b@f() {\nreturn u@g;\n}\nlet b@x = n@f();\n")).order
    ≡ Declares (codes "f") ∷ Declares (codes "x") ∷ UsesNow (codes "f") ∷ [])
    × (names_outside 0 (facts_of (codes "function b@f() {\nreturn u@g;\n}\nlet b@x = n@f();\n")).levels ≡ []))
unfolding reading
loading_order = (refl, (refl, refl))

-- a name outside all braces that isn't evaluated, and one behind `=>`
late_names : (names_outside 0 (facts_of (codes "u@f(1);\n")).levels
    ≡ codes "f" ∷ []) × (names_outside 0 (facts_of (codes "let b@x = () => u@f(1);\n")).levels ≡ [])
unfolding reading
late_names = (refl, refl)

-- braces that close below the start, and braces that stay open
levels_of : ((facts_of (codes "};\n}\nu@f(1);\n")).levels
    ≡ Below [] (Below [] (Last (codes "f" ∷ []) 0))) × ((facts_of (codes "u@f({\n")).levels ≡ Last (codes "f" ∷ []) 1)
unfolding reading
levels_of = (refl, refl)
