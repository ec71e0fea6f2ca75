-- What the meaning of trees comes to on the forms that are written.
use Rattle.std.proofs.Common.{◌≡◌, ℕ, List, ◌∷◌, refl}
use Rattle.values.specs.Value.{Thing, Undefined, unsigned, is_not_zero, Answer, Entry, Went}
use Rattle.std.specs.Prelude.{pos}
use Rattle.glue_tree.specs.declared.tree.BinaryOperator.TheVariants.{ShiftUnsigned, StrictUnequal}
use Rattle.glue_tree.specs.Term.{Term, Lit, Var, Two, Line, Hold, Put, Rescue, When, Short, Lines, NoLines, AndLine}
use Rattle.glue_tree.proofs.Values.{text_same}
use Rattle.glue_tree.specs.TreeMeaning.{Locals, value_in, value_of, runs, caught, unless_left}

module _ (thing_of : List ℕ → Thing) where
  -- `if (c) s` is `if (c) { s }`, whatever s is
  pub short_is_if : (c : Term) (line : Line) (lines : Lines)
      → runs thing_of (AndLine (Short c line) lines) ≡ runs thing_of (AndLine (When c (AndLine line NoLines)) lines)
  short_is_if c (Hold name) lines = refl
  short_is_if c line lines = refl

  -- the operators on a local that instructions use are those of their tables: `>>> 0` and `!== 0`
  pub unsigned_is : (name : List ℕ) (locals : Locals) (trace : List Entry) (answers : List Answer)
      → value_of thing_of (Two ShiftUnsigned (Var name) (Lit (pos 0))) locals trace answers
      ≡ Went (unsigned (value_in locals name)) trace answers
  unsigned_is name locals trace answers = refl

  pub not_zero_is : (name : List ℕ) (locals : Locals) (trace : List Entry) (answers : List Answer)
      → value_of thing_of (Two StrictUnequal (Var name) (Lit (pos 0))) locals trace answers
      ≡ Went (is_not_zero (value_in locals name)) trace answers
  not_zero_is name locals trace answers = refl

  -- the guard of a call: the local has the value of the call, or is `undefined` after what took a throw
  pub guard_is : (x error : List ℕ) (e : Term) (last lines : Lines) (locals : Locals) (trace : List Entry) (answers : List Answer)
      → let held : Locals = (x, Undefined) ∷ locals in
      runs thing_of (AndLine (Hold x) (AndLine (Rescue (AndLine (Put (Var x) e) NoLines) error last) lines)) locals trace answers
      ≡ caught (value_of thing_of e held trace answers) (λ v. runs thing_of lines ((x, v) ∷ locals)) (λ w trace answers.
      unless_left (runs thing_of last ((error, w) ∷ held) trace answers) (runs thing_of lines held))
  guard_is x error e last lines locals trace answers = rw (text_same x) refl
