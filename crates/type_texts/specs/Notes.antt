-- The lines that tell the types of a function in its note.
use Rattle.std.specs.Prelude.{ℕ, Bool, true, false, List, [], ◌∷◌, ◌++◌, map, codes, bytes_eq, cond}
use Rattle.std.specs.List.{zip}
use Rattle.glue_shared.specs.declared.adapter.Adapter.{Adapter}
use Rattle.glue_shared.specs.declared.adapter.AdapterType.{AdapterType}
use Rattle.glue_shared.specs.declared.aux.AuxExport.{AuxExport}
use Rattle.glue_shared.specs.declared.aux.AuxExportKind.{AuxExportKind}
use Rattle.glue_shared.specs.declared.aux.AuxExportKind.TheVariants as kinds
use Rattle.glue_shared.specs.declared.name_map.NameMap.{NameMap}
use Rattle.type_texts.specs.TypeTexts.{type_text}

-- `@param {T} p`
abbrev pub param_line : (type name : List ℕ) → List ℕ
param_line type name = codes "@param {" ++ (type ++ (codes "} " ++ name))

-- a line for each type and the name beside it
abbrev pub param_lines : (buffers : Bool) → NameMap → List AdapterType → (names : List (List ℕ)) → List (List ℕ)
param_lines buffers m types names =
    map (λ (p : AdapterType × List ℕ). param_line (type_text buffers m p.0) p.1) (zip types names)

-- what stands behind the first of these
abbrev pub behind_first : List AdapterType → List AdapterType
behind_first [] = []
behind_first (type ∷ types) = types

-- the types of the parameters of a signature, of all that are passed: that of `this` is the first, which the signature leaves out
abbrev pub signature_types : AuxExportKind → List AdapterType → List AdapterType
signature_types kinds.FunctionThis types = behind_first types
signature_types kind types = types

-- the text of what a function answers, which is `void` where it answers nothing
abbrev pub answer_text : (buffers : Bool) → NameMap → (results : List AdapterType) → List ℕ
answer_text buffers m [] = codes "void"
answer_text buffers m (type ∷ types) = type_text buffers m type

-- a promise of it, where the function is async
abbrev pub promised : (asyncness : Bool) → List ℕ → List ℕ
promised false answer = answer
promised true answer = codes "Promise<" ++ (answer ++ codes ">")

-- `@returns {R}`
abbrev pub returns_line : (answer : List ℕ) → List ℕ
returns_line answer = codes "@returns {" ++ (answer ++ codes "}")

-- this line, where the answer isn't `void`
abbrev pub told_answer : (answer : List ℕ) → List (List ℕ)
told_answer answer = cond (bytes_eq answer (codes "void")) [] (returns_line answer ∷ [])

-- the same, but for a constructor, whose signature has no answer
abbrev pub returns_lines : AuxExportKind → (answer : List ℕ) → List (List ℕ)
returns_lines kinds.Constructor answer = []
returns_lines kind answer = told_answer answer

-- the lines of the types of an export's adapter, where the parameters of the signature have these names
abbrev pub signature_lines : (buffers : Bool) → NameMap → AuxExport → Adapter → (params : List (List ℕ)) → List (List ℕ)
signature_lines buffers m e a params =
    param_lines buffers m (signature_types e.kind a.args) params
    ++ returns_lines e.kind (promised e.asyncness (answer_text buffers m a.results))
