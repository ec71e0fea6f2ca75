-- Items that are refused, each beside items that are right.
use Rattle.std.proofs.Common.{◌≡◌, ℕ, inl, inr, List, [], ◌∷◌, ◌++◌, refl, Bool, true, false, true≢false}
use Rattle.std.proofs.Common.{ap, sym, ◌∙◌, subst}
use Rattle.std.specs.Prelude.{◌⊎◌, Option, Some, None, codes, bytes_eq, map, filter_map, if◌then◌else◌}
use Rattle.std.specs.Fmt.{digits}
use Rattle.std.specs.List.{list_any, flat_map}
use Rattle.values.specs.Lists.{IsIn}
use Rattle.glue_words.specs.declared.word.Word.{Word}
use Rattle.glue_words.specs.declared.word.Word.TheVariants as w
use Rattle.glue_words.specs.declared.punct.TheConstants as punct
use Rattle.glue_words.specs.declared.key.TheConstants as key
use Rattle.glue_words.specs.declared.item.Item.{Item}
use Rattle.glue_words.specs.declared.item.Thing.TheVariants as thing
use Rattle.glue_words.specs.declared.item.Role.{Role}
use Rattle.glue_words.specs.declared.item.Role.TheVariants as role
use Rattle.glue_marked.specs.Reads.{words_in}
use Rattle.glue_words.specs.Names.{bound_in, hosted_in}
use Rattle.glue_words.specs.Tables.{key_text}
use Rattle.glue_words.specs.Words.{text_of, space, access}
use Rattle.glue_words.proofs.Computing.{spelling}
use Rattle.glue_marked.proofs.Reading.{reading}
use Rattle.glue_shared.specs.declared.aux.WasmBindgenAux.{WasmBindgenAux}
use Rattle.glue_shared.specs.declared.import.JsImport.{JsImport}
use Rattle.glue_shared.specs.declared.import.JsImportName.TheVariants.{Global, Module}
use Rattle.glue_shared.specs.declared.settings.Settings.{Settings}
use Rattle.glue_shared.specs.declared.settings.Target.TheVariants as target
use Rattle.glue_shared.specs.Names.{fixed_public_names, further_names, published_names}
use Rattle.glue_targets.specs.Published.{IsImportBound, IsNamed, Enters, IsVendorConstant, own_host, entries_from, text_name}
use Rattle.glue_targets.specs.Published.{fixed_published}
use Rattle.glue_targets.specs.RoleWords.{role_words, clause_words, publish_texts, root_words, inner_texts, roots_of}
use Rattle.glue_targets.specs.RoleWords.{statement_end}
use Rattle.glue_targets.specs.Targets.{FixedText, Frame, frame_texts, loading_texts}

-- ---- an inner namespace: `||=` below a re-exported root, `=` below one of the glue file's own

-- a text is one of those that the role asks for, where it asks for one
abbrev pub is_one_of : List ℕ → Option (List (List Word)) → Bool
is_one_of text None = true
is_one_of text (Some texts) = list_any (λ words. bytes_eq (flat_map text_of words) text) texts

-- `ns` is an import that is bound to `ns1`
abbrev pub reexported_root : Item
reexported_root = record {
  role = role.Publish (codes "ns" ∷ []) (thing.Imported (codes "ns")) (codes "ns1");
  words = clause_words (codes "ns") (w.Refer (codes "ns1") false);
}

-- `ns` is an object of the glue file
abbrev pub own_root : Item
own_root = record { role = role.Namespace (codes "ns" ∷ []); words = root_words true (codes "ns") }

abbrev pub inner : Role
inner = role.Namespace (codes "ns" ∷ codes "inner" ∷ [])

abbrev is_nil : List (List ℕ) → Bool
is_nil [] = true
is_nil (x ∷ xs) = false

module _ (settings : Settings) (frame : Frame) where
  reexported_right : is_one_of (codes "ns1.inner ||= {};\n") (role_words settings false frame (reexported_root ∷ []) inner [])
      ≡ true
  unfolding spelling
  reexported_right = refl

  reexported_refused : is_one_of (codes "ns1.inner = {};\n") (role_words settings false frame (reexported_root ∷ []) inner [])
      ≡ false
  unfolding spelling
  reexported_refused = refl

  own_right : is_one_of (codes "ns.inner = {};\n") (role_words settings false frame (own_root ∷ []) inner []) ≡ true
  unfolding spelling
  own_right = refl

  own_refused : is_one_of (codes "ns.inner ||= {};\n") (role_words settings false frame (own_root ∷ []) inner []) ≡ false
  unfolding spelling
  own_refused = refl

-- ---- only what stands for an import may be a name of the host

abbrev path : List (List ℕ)
path = codes "ns" ∷ codes "inner" ∷ []

import_root_right : flat_map hosted_in (inner_texts path (roots_of (codes "ns") (reexported_root ∷ [])))
    ≡ codes "ns1" ∷ codes "ns1" ∷ []
unfolding spelling
import_root_right = refl

own_root_right : flat_map hosted_in (inner_texts path (roots_of (codes "ns") (own_root ∷ []))) ≡ []
unfolding spelling
own_root_right = refl

import_right : flat_map hosted_in (publish_texts true (codes "f") (thing.Imported (codes "f")) (codes "console"))
    ≡ codes "console" ∷ codes "console" ∷ []
import_right = refl

own_right_alone : flat_map hosted_in (publish_texts true (codes "f") thing.Reset (codes "console")) ≡ []
own_right_alone = refl

-- ---- a name that is published may be evaluated now or later

later_right : IsIn (clause_words (codes "f") (w.Refer (codes "f1") false))
    (publish_texts true (codes "f") thing.Reset (codes "f1"))
later_right = inl refl

now_right : IsIn (clause_words (codes "f") (w.Refer (codes "f1") true))
    (publish_texts true (codes "f") thing.Reset (codes "f1"))
now_right = inr (inl refl)

-- ---- a re-export is published under a name of its own import

-- a re-export `f` of the host's `console`
abbrev pub console : JsImport
console = record { name = Global (codes "console"); fields = [] }

abbrev pub publishes : List ℕ → Role
publishes name = role.Publish (codes "f" ∷ []) (thing.Imported (codes "f")) name

module _ (settings : Settings) (aux : WasmBindgenAux) (given : aux.reexports ≡ (codes "f", console, false) ∷ [])
  where
    own_host_right : IsNamed settings aux [] (publishes (codes "console"))
    own_host_right = record {
      js = console;
      «typescript» = false;
      described = subst (IsIn (codes "f", console, false)) (sym given) (inl refl);
      whole = refl;
      names = inr (inl refl);
    }

    -- what the name would have to be
    abbrev Names : List Item → List ℕ → JsImport → Type 0
    Names items name js = IsImportBound items js.name name ⊎ IsIn name (own_host settings.omit_imports js.name)

    other_name : Names [] (codes "document") console → ⊥
    other_name (inl bound) = bound.binds
    other_name (inr (inl e)) = true≢false (ap (bytes_eq (codes "document")) e)
    other_name (inr (inr none)) = none

    other_host_refused : IsNamed settings aux [] (publishes (codes "document")) → ⊥
    other_host_refused n =
        elim (subst (IsIn (codes "f", n.js, n.«typescript»)) given n.described) [
          | inl e ↦ other_name (subst (Names [] (codes "document")) (ap (λ r. r.1) e) n.names)
          | inr none ↦ absurd none
        ]

-- a re-export of a field of it is refused
module _ (settings : Settings) (aux : WasmBindgenAux)
    (given : aux.reexports ≡ (codes "f", record { name = Global (codes "console"); fields = codes "log" ∷ [] }, false) ∷ [])
  where
    field_refused : IsNamed settings aux [] (publishes (codes "console")) → ⊥
    field_refused n =
        elim (subst (IsIn (codes "f", n.js, n.«typescript»)) given n.described) [
          | inl e ↦ true≢false (sym (ap is_nil n.whole) ∙ ap (λ (r : List ℕ × JsImport × Bool). is_nil r.1.fields) e)
          | inr none ↦ absurd none
        ]

-- a re-export `f` of the name `f` of a module
abbrev pub from_module : JsImport
from_module = record { name = Module (codes "./m.js") (codes "f"); fields = [] }

-- `import { taken as bound } from "./m.js";`
abbrev pub import_line : List ℕ → List ℕ → Item
import_line taken bound = record {
  role = role.Import;
  words =
      w.Key key.IMPORT ∷ space ∷ w.Punct punct.OPEN_BRACE ∷ space ∷ w.Outer taken ∷ space ∷ w.Key key.AS ∷ space
      ∷ w.Bind bound ∷ space ∷ w.Punct punct.CLOSE_BRACE ∷ space ∷ w.Key key.FROM ∷ space ∷ w.Text (codes "./m.js")
      ∷ statement_end;
}

module _ (settings : Settings) (aux : WasmBindgenAux) (given : aux.reexports ≡ (codes "f", from_module, false) ∷ [])
    (kept : settings.omit_imports ≡ false) where
  own_entry_right : IsNamed settings aux (import_line (codes "f") (codes "f1") ∷ []) (publishes (codes "f1"))
  own_entry_right = record {
    js = from_module;
    «typescript» = false;
    described = subst (IsIn (codes "f", from_module, false)) (sym given) (inl refl);
    whole = refl;
    names = inl (record {
      item = import_line (codes "f") (codes "f1");
      stands = inl refl;
      binds = record {
        line = refl;
        from = refl;
        entry = inl refl;
      };
    });
  }

  -- what the name would have to be
  abbrev Entered : JsImport → Type 0
  Entered js =
      IsImportBound (import_line (codes "g") (codes "g1") ∷ []) js.name (codes "g1")
      ⊎ IsIn (codes "g1") (own_host settings.omit_imports js.name)

  other_entry : Entered from_module → ⊥
  other_entry (inl bound) =
      elim bound.stands [
        | inl e ↦
            elim (subst (λ (i : Item). IsIn (codes "f", codes "g1") (entries_from false [] i.words)) e bound.binds.entry) [
              | inl same ↦ true≢false (ap (λ (p : List ℕ × List ℕ). bytes_eq (codes "f") p.0) same)
              | inr none ↦ absurd none
            ]
        | inr none ↦ absurd none
      ]
  other_entry (inr host) =
      subst (λ (b : Bool). IsIn (codes "g1") (own_host b from_module.name)) kept host

  other_entry_refused : IsNamed settings aux (import_line (codes "g") (codes "g1") ∷ []) (publishes (codes "g1")) → ⊥
  other_entry_refused n =
      elim (subst (IsIn (codes "f", n.js, n.«typescript»)) given n.described) [
        | inl e ↦ other_entry (subst Entered (ap (λ r. r.1) e) n.names)
        | inr none ↦ absurd none
      ]

-- ---- an import line, and what its entries bind

abbrev entries_in : List ℕ → List (List ℕ × List ℕ)
entries_in text = entries_from false [] (words_in text)

entries_right : entries_in (codes "import { o@a as b@c, b@d } from \"m\";\n")
    ≡ (codes "a", codes "c") ∷ (codes "d", codes "d") ∷ []
unfolding reading
entries_right = refl

required_right : entries_in (codes "const { o@a: b@c, b@d } = g@require(\"m\");\n")
    ≡ (codes "a", codes "c") ∷ (codes "d", codes "d") ∷ []
unfolding reading
required_right = refl

-- what a keyword takes, and what stands outside the braces, isn't the name that is bound
default_refused : entries_in (codes "import b@e, { default as b@f } from \"m\";\n") ≡ (codes "default", codes "f") ∷ []
unfolding reading key_text
default_refused = refl

whole_module_refused : entries_in (codes "import * as b@m from \"m\";\n") ≡ []
unfolding reading
whole_module_refused = refl

-- a line names one module
two_modules_refused : (name bound : List ℕ) → Enters (codes "m") name bound (record {
  role = role.Import;
  words = words_in (codes "import { b@a } from \"n\";\nimport { b@b } from \"m\";\n");
}) → ⊥
unfolding reading
two_modules_refused name bound h = true≢false (ap (λ (texts : List (List ℕ)). list_any (bytes_eq (codes "n")) texts) h.from)

-- ---- the constant of a name with prefixes

abbrev vendor_words : List Word
vendor_words =
    words_in (codes "const b@lx = (typeof g@x !== \"undefined\" ? g@x : (typeof g@wx !== \"undefined\" ? g@wx : g@undefined));\n")

abbrev vendor_line : Role → Item
vendor_line r = record { role = r; words = vendor_words }

abbrev vendor_hosts : List (List ℕ)
vendor_hosts = codes "x" ∷ codes "wx" ∷ []

vendor_bound : bound_in vendor_words ≡ codes "lx" ∷ []
unfolding reading
vendor_bound = refl

abbrev vendor_hosted : List (List ℕ)
vendor_hosted = codes "x" ∷ codes "x" ∷ codes "wx" ∷ codes "wx" ∷ codes "undefined" ∷ []

vendor_names : hosted_in vendor_words ≡ vendor_hosted
unfolding reading
vendor_names = refl

vendor_only : (name : List ℕ) → IsIn name vendor_hosted → IsIn name (codes "undefined" ∷ vendor_hosts)
vendor_only name (inl e) = inr (inl e)
vendor_only name (inr (inl e)) = inr (inl e)
vendor_only name (inr (inr (inl e))) = inr (inr (inl e))
vendor_only name (inr (inr (inr (inl e)))) = inr (inr (inl e))
vendor_only name (inr (inr (inr (inr (inl e))))) = inl e
vendor_only name (inr (inr (inr (inr (inr none))))) = absurd none

vendor_all : (name : List ℕ) → IsIn name vendor_hosts → IsIn name vendor_hosted
vendor_all name (inl e) = inl e
vendor_all name (inr (inl e)) = inr (inr (inl e))
vendor_all name (inr (inr none)) = absurd none

abbrev tried_texts : List (List ℕ)
tried_texts = codes "undefined" ∷ codes "undefined" ∷ []

vendor_texts : filter_map text_name vendor_words ≡ tried_texts
unfolding reading
vendor_texts = refl

vendor_text : (text : List ℕ) → IsIn text tried_texts → text ≡ codes "undefined"
vendor_text text (inl e) = e
vendor_text text (inr (inl e)) = e
vendor_text text (inr (inr none)) = absurd none

vendor_right : IsVendorConstant vendor_hosts (codes "lx") (vendor_line role.Import)
vendor_right = record {
  line = refl;
  binds = vendor_bound;
  only = λ name h. vendor_only name (subst (IsIn name) vendor_names h);
  all = λ name h. subst (IsIn name) (sym vendor_names) (vendor_all name h);
  texts = λ text h. vendor_text text (subst (IsIn text) vendor_texts h);
}

abbrev is_import : Role → Bool
is_import role.Import = true
is_import r = false

vendor_body_refused : IsVendorConstant vendor_hosts (codes "lx") (vendor_line role.Body) → ⊥
vendor_body_refused h = true≢false (sym (ap is_import h.line))

-- a line that takes a name of a module is no such constant, whatever the host calls what takes it
abbrev required_line : Item
required_line = record { role = role.Import; words = words_in (codes "const { b@lx } = g@require(\"m\");\n") }

required_texts : filter_map text_name required_line.words ≡ codes "m" ∷ []
unfolding reading
required_texts = refl

require_refused : IsVendorConstant (codes "require" ∷ []) (codes "lx") required_line → ⊥
require_refused h =
    let same : codes "m" ≡ codes "undefined" = h.texts (codes "m") (subst (IsIn (codes "m")) (sym required_texts) (inl refl)) in
    true≢false (ap (bytes_eq (codes "m")) same)

-- ---- names beside the public tree

-- a bundler's definition of an import publishes it, and a member of a frame publishes nothing
abbrev pub definition : List ℕ → Item
definition text = record { role = role.Define 0; words = words_in text }

own_import_right : fixed_published (definition (codes "export function b@f() {\n}\n") ∷ []) ≡ codes "f" ∷ []
unfolding reading
own_import_right = refl

member_right : fixed_published (definition (codes "o@f: function() {\n},\n") ∷ []) ≡ []
unfolding reading
member_right = refl

-- a text publishes what its clause lists, and nothing else that it declares
clause_right : fixed_published (record {
  role = role.Loading;
  words = words_in (codes "const b@path = 1;\nexport { u@initSync, u@path as default };\n");
} ∷ []) ≡ codes "initSync" ∷ codes "default" ∷ []
unfolding reading key_text
clause_right = refl

-- whatever its role, an item's clauses are seen, a helper's and an import line's too
helper_seen : fixed_published (record {
  role = role.Helper (codes "k");
  words = words_in (codes "export function b@f() {\n}\n");
} ∷ []) ≡ codes "f" ∷ []
unfolding reading
helper_seen = refl

passed_on_seen : fixed_published (record {
  role = role.Import;
  words = words_in (codes "export { a, o@b as default, o@c as p@d, o@e as \"f g\" } from \"m\";\n");
} ∷ []) ≡ codes "a" ∷ codes "default" ∷ codes "d" ∷ codes "f g" ∷ []
unfolding reading key_text
passed_on_seen = refl

-- no list of names has what a whole module gives
whole_module_seen : fixed_published (record {
  role = role.Import;
  words = words_in (codes "export * from \"m\";\nconst b@x = 1;\n");
} ∷ []) ≡ codes "*" ∷ []
unfolding reading
whole_module_seen = refl

-- an exported declaration ends with its semicolon, and names all its constants
constants_right : fixed_published (record {
  role = role.Body;
  words = words_in (codes "export const b@x = u@f(1, () => { 2; }), b@y = 3;\nconst b@z = 4;\n");
} ∷ []) ≡ codes "x" ∷ codes "y" ∷ []
unfolding reading
constants_right = refl

nothing_right : fixed_published (record { role = role.Body; words = words_in (codes "export {};\nconst b@z = 4;\n") } ∷ [])
    ≡ []
unfolding reading
nothing_right = refl

-- on the bundler own imports are published, and `__wasm` stands in the entry
bundler_right : (browser_only : Bool) (own wasm : List (List ℕ))
    → published_names (target.Bundler browser_only) ++ further_names (target.Bundler browser_only) own wasm
    ≡ codes "__wbg_set_wasm" ∷ own
bundler_right browser_only own wasm = refl

-- a script publishes `initSync` alone, although further names are refused there
script_right : (global : List ℕ) (own wasm : List (List ℕ))
    → published_names (target.NoModules global) ++ further_names (target.NoModules global) own wasm
    ≡ codes "initSync" ∷ wasm
script_right global own wasm = refl

script_refused : (settings : Settings) (global : List ℕ) → settings.target ≡ target.NoModules global
    → IsIn (codes "constructor") (fixed_public_names settings)
unfolding fixed_public_names
script_refused settings global e = rw e (inr (inr (inr (inr (inr (inl refl))))))

-- ---- an assignment is one to a property

assigned_root_refused : (settings : Settings) (frame : Frame) → is_one_of (codes "ns = f;\n")
    (role_words settings false frame (own_root ∷ []) (role.Assign (codes "ns" ∷ []) thing.Reset (codes "f")) []) ≡ false
assigned_root_refused settings frame = refl

assigned_right : (settings : Settings) (frame : Frame) → is_one_of (codes "ns.f = f1;\n")
    (role_words settings false frame (own_root ∷ []) (role.Assign (codes "ns" ∷ codes "f" ∷ []) thing.Reset (codes "f1")) [])
    ≡ true
unfolding spelling
assigned_right settings frame = refl

-- ---- the frame takes the memory exactly where it is imported, and hands on string constants exactly where they are

-- what the frame of Deno may be, for the stem `out` and another module `m`
abbrev frame_words : (memory strings : Bool) → Option (List (List Word))
frame_words memory strings =
    let frame : Frame = record { memory = memory; modules = codes "m" ∷ []; strings = strings } in
    Some (map (λ (text : FixedText). text.words) (frame_texts target.Deno (codes "out") frame))

-- the frame's start with these parameters
abbrev start_with : List ℕ → List ℕ
start_with parameters =
    codes "function __wbg_get_imports(" ++ (parameters ++ codes ") {\nconst import0 = {\n__proto__: null,\n")

start_right : (strings : Bool) → is_one_of (start_with []) (frame_words false strings) ≡ true
unfolding spelling reading key_text
start_right strings = refl

start_refused : (strings : Bool) → is_one_of (start_with []) (frame_words true strings) ≡ false
unfolding spelling reading key_text
start_refused strings = refl

memory_right : (strings : Bool) → is_one_of (start_with (codes "memory")) (frame_words true strings) ≡ true
unfolding spelling reading key_text
memory_right strings = refl

memory_refused : (strings : Bool) → is_one_of (start_with (codes "memory")) (frame_words false strings) ≡ false
unfolding spelling reading key_text
memory_refused strings = refl

-- the frame's end with these lines behind those of modules
abbrev end_with : List ℕ → List ℕ
end_with lines =
    codes "};\nreturn {\n__proto__: null,\n\"./out_bg.js\": import0,\n\"m\": import1,\n" ++ (lines ++ codes "};\n}\n")

-- the line of string constants
abbrev constants_line : List ℕ
constants_line = codes "\"wasm:js/string-constants\": new Proxy({}, { get: (_, name) => name }),\n"

end_right : (memory : Bool) → is_one_of (end_with []) (frame_words memory false) ≡ true
unfolding spelling reading key_text digits
end_right false = refl
end_right true = refl

end_refused : (memory : Bool) → is_one_of (end_with []) (frame_words memory true) ≡ false
unfolding spelling reading key_text digits
end_refused false = refl
end_refused true = refl

string_constants_right : (memory : Bool) → is_one_of (end_with constants_line) (frame_words memory true) ≡ true
unfolding spelling reading key_text digits
string_constants_right false = refl
string_constants_right true = refl

string_constants_refused : (memory : Bool) → is_one_of (end_with constants_line) (frame_words memory false) ≡ false
unfolding spelling reading key_text digits
string_constants_refused false = refl
string_constants_refused true = refl

-- ---- loading calls the start function exactly where the module has one, and is told of string constants exactly where it imports some

-- what loading of Deno may be, for the stem `out`
abbrev loading_words : (strings starts : Bool) → Option (List (List Word))
loading_words strings starts =
    let frame : Frame = record { memory = false; modules = []; strings = strings } in
    Some (map (λ (text : FixedText). text.words) (loading_texts target.Deno (codes "out") frame starts))

-- loading of the module, with these options, and then these lines
abbrev loading_and : (options lines : List ℕ) → List ℕ
loading_and options lines =
    codes "const wasmUrl = new URL(\"out_bg.wasm\", import.meta.url);\n"
    ++ (codes "const wasmInstantiated = await WebAssembly.instantiateStreaming(fetch(wasmUrl), __wbg_get_imports()"
    ++ (options ++ (codes ");\n"
    ++ (codes "const wasmInstance = wasmInstantiated.instance;\nconst wasm = wasmInstance.exports;\n" ++ lines))))

-- the line that calls the start function
abbrev call_line : List ℕ
call_line = codes "wasm.__wbindgen_start();\n"

-- what tells of string constants
abbrev strings_option : List ℕ
strings_option = codes ", { importedStringConstants: \"wasm:js/string-constants\" }"

call_right : is_one_of (loading_and [] call_line) (loading_words false true) ≡ true
unfolding spelling reading key_text access
call_right = refl

call_refused : is_one_of (loading_and [] call_line) (loading_words false false) ≡ false
unfolding spelling reading key_text access
call_refused = refl

no_call_right : is_one_of (loading_and [] []) (loading_words false false) ≡ true
unfolding spelling reading key_text access
no_call_right = refl

no_call_refused : is_one_of (loading_and [] []) (loading_words false true) ≡ false
unfolding spelling reading key_text access
no_call_refused = refl

option_right : (starts : Bool) → is_one_of (loading_and strings_option (if starts then call_line else [])) (loading_words true starts) ≡ true
unfolding spelling reading key_text access
option_right false = refl
option_right true = refl

option_refused : (starts : Bool) → is_one_of (loading_and strings_option (if starts then call_line else [])) (loading_words false starts) ≡ false
unfolding spelling reading key_text access
option_refused false = refl
option_refused true = refl

no_option_refused : (starts : Bool) → is_one_of (loading_and [] (if starts then call_line else [])) (loading_words true starts) ≡ false
unfolding spelling reading key_text access
no_option_refused false = refl
no_option_refused true = refl
