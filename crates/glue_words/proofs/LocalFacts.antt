-- Facts of words that hold local names alone.
use Rattle.std.proofs.Common.{ℕ, List, ◌∷◌, [], true, false}
use Rattle.std.specs.Prelude.{Some, None}
use Rattle.glue_words.specs.declared.punct.TheConstants as punct
use Rattle.glue_words.specs.declared.word.Word.{Word}
use Rattle.glue_words.specs.declared.word.Word.TheVariants.{Punct, Local}
use Rattle.glue_words.specs.Facts.{Facts, Last}

-- what declares and uses these local names and holds nothing else, between these two words
abbrev pub of_locals : (declared used : List (List ℕ)) → Word → Word → Facts
of_locals declared used first last = record {
  binds = [];
  uses = [];
  uses_now = [];
  hosts = [];
  hosts_now = [];
  local_binds = declared;
  locals = used;
  takes = [];
  keys = [];
  outers = [];
  props = [];
  opened = [];
  gated = [];
  order = [];
  hoisted = [];
  lead = [];
  trail = Some false;
  levels = Last [] 0;
  arrowed = false;
  proper = true;
  spaced = true;
  exported = false;
  turn = None;
  outside = true;
  inside = true;
  ends = Some (first, last);
}

-- an operand: a local name, or words in parentheses
pub data Shape : Type 0 where
  Bare : List ℕ → Shape
  Closed : List (List ℕ) → Shape

abbrev pub operand_facts : Shape → Facts
operand_facts (Bare name) = of_locals [] (name ∷ []) (Local name) (Local name)
operand_facts (Closed names) = of_locals [] names (Punct punct.OPEN_PAREN) (Punct punct.CLOSE_PAREN)
