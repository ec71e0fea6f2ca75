-- Trees whose words are right: names are identifiers, keys are properties, and no number stands after `--`.
use Rattle.std.specs.Prelude.{Bool, true, false, not, ◌&&◌, ◌||◌, ◌==◌, List, Option, Some, None}
use Rattle.std.specs.List.{list_all}
use Rattle.glue_words.specs.declared.word.Word.{Word}
use Rattle.glue_words.specs.declared.word.NoteKind.TheVariants as n
use Rattle.glue_words.specs.declared.word.Word.TheVariants as w
use Rattle.glue_words.specs.Ident.{is_ident}
use Rattle.glue_words.specs.Limits.{is_prop}
use Rattle.glue_words.specs.Spacing.{is_wasm, first_word, each_next, begins_apart}
use Rattle.glue_words.specs.Linking.{is_named_access}
use Rattle.glue_words.proofs.ByKind.{stands_by_kind, is_sound}
use Rattle.glue_tree.specs.Term.{Term, Lit, Large, Chars, Const, Var, Name, Outside, Export, Field, Index, Apply, Make, One, Two, Choose, Fields, Terms, NoTerms, AndTerm, Keyed, NoKeys, AndKey, Line, Bind, Hold, Put, Run, When, Short, Always, Rescue, Fail, Leave, Inner, Lines, NoLines, AndLine}
use Rattle.glue_words.specs.Words.{line_feed}
use Rattle.glue_tree.specs.Spelling.{term_words}
use Rattle.glue_tree.specs.declared.tree.UnaryOperator.{UnaryOperator}
use Rattle.glue_tree.specs.declared.tree.UnaryOperator.TheVariants as u

-- a word is no part of a note of several lines
abbrev pub is_single : Word → Bool
is_single (w.Note n.Slash text) = true
is_single (w.Note n.Block text) = true
is_single (w.Note kind text) = false
is_single word = true

-- a word is as its kind says, and no part of a note of several lines
abbrev pub is_right : Word → Bool
is_right word = is_sound word && is_single word

-- a word isn't the keyword `export`
abbrev pub is_inner : Word → Bool
is_inner (w.Key place) = not (place == 12)
is_inner word = true

-- a word that may stand in a function
abbrev pub is_good : Word → Bool
is_good word = is_right word && is_inner word

-- a word may stand before what follows it, and takes exports in no other way than by their names
abbrev pub spaced : Word → Option Word → Bool
spaced word next = stands_by_kind word next && is_named_access word next

-- a word that is a number
abbrev pub is_number : Option Word → Bool
is_number (Some (w.Num n)) = true
is_number next = false

-- `--`, before which no number stands
abbrev pub is_decrement : UnaryOperator → Bool
is_decrement u.Decrement = true
is_decrement op = false

-- an expression
abbrev mutual
  pub fit : Term → Bool
  fit (Lit n) = true
  fit (Large n) = true
  fit (Chars text) = true
  fit (Const constant) = true
  fit (Var name) = is_ident name
  fit (Name name) = is_ident name && not (is_wasm name)
  fit (Outside name) = is_ident name
  fit (Export name) = true
  fit (Field e name) = fit e && is_prop name
  fit (Index e i) = fit e && fit i
  fit (Apply f es) = fit f && all_fit es
  fit (Make f es) = fit f && all_fit es
  fit (One op e) = fit e && (not (is_decrement op) || not (is_number (first_word (term_words e) None)))
  fit (Two op a b) = fit a && fit b
  fit (Choose c a b) = fit c && (fit a && fit b)
  fit (Fields es) = fields_fit es

  pub all_fit : Terms → Bool
  all_fit NoTerms = true
  all_fit (AndTerm e es) = fit e && all_fit es

  pub fields_fit : Keyed → Bool
  fields_fit NoKeys = true
  fields_fit (AndKey name e es) = (is_prop name && fit e) && fields_fit es

-- words that are handed in stand as a line of their own
abbrev pub is_line : List Word → Bool
is_line words = list_all is_good words && (each_next spaced words (Some line_feed) && begins_apart words)

-- a statement
abbrev mutual
  pub line_fit : Line → Bool
  line_fit (Bind name e) = is_ident name && fit e
  line_fit (Hold name) = is_ident name
  line_fit (Put target e) = fit target && fit e
  line_fit (Run e) = fit e
  line_fit (When e body) = fit e && lines_fit body
  line_fit (Short e line) = fit e && line_fit line
  line_fit (Always body last) = lines_fit body && lines_fit last
  line_fit (Rescue body name last) = is_ident name && (lines_fit body && lines_fit last)
  line_fit (Fail e) = fit e
  line_fit (Leave None) = true
  line_fit (Leave (Some e)) = fit e
  line_fit (Inner adapter es bound words) = is_line words

  pub lines_fit : Lines → Bool
  lines_fit NoLines = true
  lines_fit (AndLine line lines) = line_fit line && lines_fit lines
