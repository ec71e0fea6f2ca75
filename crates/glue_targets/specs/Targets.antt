-- The texts of a target, which depend on the names of files, on what the frame takes and hands on, and on whether the module
-- has a start function.
use Rattle.std.specs.Prelude.{ℕ, ◌+◌, Bool, true, false, List, [], ◌∷◌, ◌++◌, codes}
use Rattle.glue_words.specs.declared.word.Word.{Word}
use Rattle.glue_words.specs.declared.item.Item.{Item}
use Rattle.glue_words.specs.declared.item.Role.TheVariants.{Fixed, Loading}
use Rattle.glue_words.specs.Ident.{numbered}
use Rattle.glue_marked.specs.Reads.{words_in}
use Rattle.glue_marked.specs.StandIns.{Names, name_for, renamed}
use Rattle.glue_shared.specs.declared.settings.Target.{Target}
use Rattle.glue_shared.specs.declared.settings.Target.TheVariants as target
use Rattle.glue_targets.specs.declared.deno.TheConstants as deno

-- the stem between two texts
abbrev pub file_name : List ℕ → List ℕ → List ℕ → List ℕ
file_name before stem after = before ++ stem ++ after

-- the name of the WebAssembly file for its stand-in
abbrev pub file_names : List ℕ → Names
file_names stem = (codes "$file", file_name [] stem (codes "_bg.wasm")) ∷ []

-- the words of a text for a stem
abbrev pub fixed_words : List ℕ → List ℕ → List Word
fixed_words stem text = renamed (name_for []) (name_for (file_names stem)) (words_in text)

-- the words of the frame's start, where its function takes the memory or not
abbrev pub start_words : List ℕ → Bool → List Word
start_words stem true = fixed_words stem deno.FRAME_START_MEMORY.now
start_words stem false = fixed_words stem deno.FRAME_START.now

-- the frame up to the first member
abbrev pub frame_start : List ℕ → Bool → Item
frame_start stem memory = record { role = Fixed; words = start_words stem memory }

-- ---- the modules that imports come from

-- the name of the module of a number
abbrev pub module_name : ℕ → List ℕ
module_name number = numbered (codes "import") number

-- the module of a number under its path
abbrev pub module_words : ℕ → List ℕ → List Word
module_words number path =
    renamed (name_for ((codes "$import", module_name number) ∷ [])) (name_for ((codes "$module", path) ∷ []))
    (words_in deno.FRAME_MODULE.now)

-- modules under their paths, numbered from this number on
abbrev pub modules_words : ℕ → List (List ℕ) → List Word
modules_words number [] = []
modules_words number (path ∷ paths) = module_words number path ++ modules_words (number + 1) paths

-- the path of the module whose members the frame holds
abbrev pub own_path : List ℕ → List ℕ
own_path stem = file_name (codes "./") stem (codes "_bg.js")

-- the line of string constants, where the module imports some
abbrev pub string_constants : Bool → List Word
string_constants true = words_in deno.FRAME_STRINGS.now
string_constants false = []

-- the frame from the end of the members on: the module of these members has the number 0, and other modules are
-- numbered from 1 on
abbrev pub frame_end : List ℕ → List (List ℕ) → Bool → Item
frame_end stem modules strings = record {
  role = Fixed;
  words =
      words_in deno.FRAME_MODULES.now
      ++ (modules_words 0 (own_path stem ∷ modules) ++ (string_constants strings ++ words_in deno.FRAME_END.now));
}

-- ---- loading

-- the call of the start function, where the module has one
abbrev pub start_call : Bool → List Word
start_call true = words_in deno.START_CALL.now
start_call false = []

-- the words of loading, where the module imports string constants or not
abbrev pub loading_words : List ℕ → Bool → List Word
loading_words stem true = fixed_words stem deno.LOADING_STRINGS.now
loading_words stem false = fixed_words stem deno.LOADING.now

-- loading, and behind it that call
abbrev pub loading_item : List ℕ → (strings starts : Bool) → Item
loading_item stem strings starts = record { role = Loading; words = loading_words stem strings ++ start_call starts }

-- ---- the texts of each target

-- a fixed text, and the names that it publishes otherwise than by an export clause
pub record FixedText : Type 0 where
  pub words : List Word
  pub assigns : List (List ℕ)

-- a text that publishes nothing in such a way
abbrev pub plain_text : Item → FixedText
plain_text item = record { words = item.words; assigns = [] }

-- what a frame and loading depend on, beside the names of files
pub record Frame : Type 0 where
  -- the first memory is imported
  pub memory : Bool
  -- imports come from these modules too, beside the one whose members the frame holds
  pub modules : List (List ℕ)
  -- the module imports string constants
  pub strings : Bool

-- the texts of the frame on a target
abbrev pub frame_texts : Target → List ℕ → Frame → List FixedText
frame_texts target.Deno stem frame =
    plain_text (frame_start stem frame.memory) ∷ plain_text (frame_end stem frame.modules frame.strings) ∷ []
frame_texts t stem frame = []

-- the texts of loading on a target, for whether the module has a start function
abbrev pub loading_texts : Target → List ℕ → Frame → Bool → List FixedText
loading_texts target.Deno stem frame starts = plain_text (loading_item stem frame.strings starts) ∷ []
loading_texts t stem frame starts = []
