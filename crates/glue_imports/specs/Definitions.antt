-- The definition of an import by a value that a module has.
use Rattle.std.specs.Prelude.{ℕ, List, [], ◌∷◌, ◌++◌, codes}
use Rattle.glue_words.specs.declared.punct.TheConstants as punct
use Rattle.glue_words.specs.declared.key.TheConstants as key
use Rattle.glue_shared.specs.declared.import.JsImport.{JsImport}
use Rattle.glue_shared.specs.declared.name_map.NameMap.{NameMap}
use Rattle.glue_imports.specs.declared.part.Part.{Part}
use Rattle.glue_imports.specs.declared.part.Part.TheVariants as p
use Rattle.glue_imports.specs.Expressions.{around}

-- `typeof `
abbrev pub typeof_front : List Part
typeof_front = p.Key key.TYPEOF ∷ p.Space ∷ []

-- ` == "function" ? `
abbrev pub if_function : List Part
if_function =
    p.Space ∷ p.Punct punct.LOOSE_EQUAL ∷ p.Space ∷ p.Literal (codes "function") ∷ p.Space ∷ p.Punct punct.QUESTION ∷ p.Space ∷ []

-- ` : notDefined("text")`: a function that throws, and tells that this isn't defined
abbrev pub else_not_defined : List ℕ → List Part
else_not_defined text =
    p.Space ∷ p.Punct punct.COLON ∷ p.Space ∷ p.Name (codes "notDefined") ∷ p.Punct punct.OPEN_PAREN ∷ p.Literal text ∷ p.Punct punct.CLOSE_PAREN ∷ []

-- `typeof N == "function" ? N : notDefined("text")`, where N is the value that an import names
abbrev pub function_or_throw : NameMap → JsImport → List ℕ → List Part
function_or_throw m js text = around m typeof_front js (around m if_function js (else_not_defined text))
