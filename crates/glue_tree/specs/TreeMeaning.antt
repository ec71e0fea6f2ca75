-- What a tree does: its run, with a map of locals.
--
-- A tree is run from its first statement on. Each outside step joins the trace and takes the next answer (`step`), so a
-- run is a function of the tree, the locals and the answers alone. What a name of the module's scope stands for is
-- handed in (`thing_of`).
--
-- Some trees have no meaning here: a local is written nowhere but in `let x; try { x = e; } catch (error) {..}`,
-- nothing else is written but names, properties and slots, and `++` and `--` write names alone. No tree that is printed
-- does otherwise. Others have a meaning here and none in ECMAScript, and no tree that is printed is one: a declaration as
-- the one statement of `if (c) ..`, which wants braces there, and a record with the key `__proto__`. Such a run stops there, however many answers are left, and neither `catch` nor `finally` goes on from
-- it (`no_meaning`). The run of a described function stops only where its answers end, so no such tree passes for one.
use Rattle.std.specs.Prelude.{ℕ, Bool, true, false, not, List, [], ◌∷◌, if◌then◌else◌, Option, Some, None, codes, bit_and, bit_or, bit_xor}
use Rattle.values.specs.Value.{Thing, OfExport, OfHost, Value, Undefined, Null, Truth, Number, BigInt, Letters, Itself, WithFields, FieldValues, NoFields, AndField, Reads, Writes, ReadsAt, WritesAt, TestsClass, TestsKey, Calls, CallsValue, CallsOn, CallsAt, News, NewsValue, CallsAdapter, Answer, Ran, Went, Threw, Ended, Act, goes_on, step, is_same_text, is_same, is_like, is_nothing, is_true, is_less, is_at_most, type_of, sum_of, difference_of, product_of, complement_of, by_bits, shifted_left, shifted_right, shifted_unsigned, bump, lower}
use Rattle.glue_tree.specs.declared.tree.BinaryOperator.{BinaryOperator}
use Rattle.glue_tree.specs.declared.tree.BinaryOperator.TheVariants as b
use Rattle.glue_tree.specs.declared.tree.Constant.{Constant}
use Rattle.glue_tree.specs.declared.tree.Constant.TheVariants as c
use Rattle.glue_tree.specs.declared.tree.UnaryOperator.{UnaryOperator}
use Rattle.glue_tree.specs.declared.tree.UnaryOperator.TheVariants as u
use Rattle.glue_tree.specs.Term.{Term, Lit, Large, Chars, Const, Var, Name, Outside, Export, Field, Index, Apply, Make, One, Two, Choose, Fields, Terms, NoTerms, AndTerm, Keyed, NoKeys, AndKey, Line, Bind, Hold, Put, Run, When, Short, Always, Rescue, Fail, Leave, Inner, Lines, NoLines, AndLine}

-- the locals, the newest first
abbrev pub Locals : Type 0
Locals = List (List ℕ × Value)

-- the value of a local: `undefined` where there is none
abbrev pub value_in : Locals → List ℕ → Value
value_in [] name = Undefined
value_in (local ∷ locals) name = if is_same_text name local.0 then local.1 else value_in locals name

-- the parameters of a call: `undefined` where an argument isn't given; further arguments aren't seen
abbrev pub locals_of : List (List ℕ) → List Value → Locals
locals_of [] args = []
locals_of (name ∷ names) [] = (name, Undefined) ∷ locals_of names []
locals_of (name ∷ names) (v ∷ args) = (name, v) ∷ locals_of names args

-- the run of what has no meaning: it stops, whatever answers are left
abbrev pub no_meaning : {A : Type 0} → Act A
no_meaning trace answers = Ended trace

-- the value of a keyword; `this` and `arguments` are what the caller gives under these names, which no local has
abbrev pub constant_value : Constant → Locals → Value
constant_value c.Null locals = Null
constant_value c.True locals = Truth true
constant_value c.False locals = Truth false
constant_value c.This locals = value_in locals (codes "this")
constant_value c.Arguments locals = value_in locals (codes "arguments")

-- what a host's name stands for: `undefined`, or the host's thing
abbrev pub host_value : List ℕ → Value
host_value name = if is_same_text name (codes "undefined") then Undefined else Itself (OfHost name)

-- ---- operators

-- of one operand that is a value; `++` and `--` write theirs, and have no value here
abbrev pub one_of : UnaryOperator → Value → Value
one_of u.Not v = Truth (not (is_true v))
one_of u.BitNot v = complement_of v
one_of u.TypeOf v = type_of v
one_of u.Increment v = Undefined
one_of u.Decrement v = Undefined

-- whether an operator of two operands evaluates its second, by the value of its first: `&&`, `||` and `??` may not
abbrev pub takes_second : BinaryOperator → Value → Bool
takes_second b.And v = is_true v
takes_second b.Or v = not (is_true v)
takes_second b.Coalesce v = is_nothing v
takes_second op v = true

-- of two operands that are values; `/` and `%` leave the whole numbers, and no tree has them
abbrev pub value_of_two : BinaryOperator → Value → Value → Value
value_of_two b.Multiply v w = product_of v w
value_of_two b.Divide v w = Undefined
value_of_two b.Remainder v w = Undefined
value_of_two b.Add v w = sum_of v w
value_of_two b.Subtract v w = difference_of v w
value_of_two b.ShiftLeft v w = shifted_left v w
value_of_two b.ShiftRight v w = shifted_right v w
value_of_two b.ShiftUnsigned v w = shifted_unsigned v w
value_of_two b.Less v w = Truth (is_less v w)
value_of_two b.Greater v w = Truth (is_less w v)
value_of_two b.AtMost v w = Truth (is_at_most v w)
value_of_two b.AtLeast v w = Truth (is_at_most w v)
value_of_two b.Equal v w = Truth (is_like v w)
value_of_two b.StrictEqual v w = Truth (is_same v w)
value_of_two b.Unequal v w = Truth (not (is_like v w))
value_of_two b.StrictUnequal v w = Truth (not (is_same v w))
value_of_two b.BitAnd v w = by_bits bit_and v w
value_of_two b.BitXor v w = by_bits bit_xor v w
value_of_two b.BitOr v w = by_bits bit_or v w
value_of_two b.And v w = w
value_of_two b.Or v w = w
value_of_two b.Coalesce v w = w
value_of_two b.InstanceOf v w = Undefined
value_of_two b.In v w = Undefined

-- of two operands: `instanceof` and `in` are outside steps, all others give a value
abbrev pub two_of : BinaryOperator → Value → Value → Act Value
two_of b.InstanceOf v w trace answers = step (TestsClass v w) trace answers
two_of b.In v w trace answers = step (TestsKey v w) trace answers
two_of op v w trace answers = Went (value_of_two op v w) trace answers

-- the first of two where a test holds, else the second
abbrev pub if_true : {A : Type 0} → Bool → A → A → A
if_true true a b = a
if_true false a b = b

module _ (thing_of : List ℕ → Thing) where
  abbrev mutual
    -- the value of an expression, evaluated from left to right; what is called is no step of its own
    pub value_of : Term → Locals → Act Value
    value_of (Lit n) locals trace answers = Went (Number n) trace answers
    value_of (Large n) locals trace answers = Went (BigInt n) trace answers
    value_of (Chars s) locals trace answers = Went (Letters s) trace answers
    value_of (Const word) locals trace answers = Went (constant_value word locals) trace answers
    value_of (Var name) locals trace answers = Went (value_in locals name) trace answers
    value_of (Name name) locals trace answers = step (Reads (thing_of name)) trace answers
    value_of (Outside name) locals trace answers = Went (host_value name) trace answers
    value_of (Export name) locals trace answers = step (Reads (OfExport name)) trace answers
    value_of (Field e key) locals trace answers =
        goes_on (value_of e locals trace answers) (λ v. step (ReadsAt v (Letters key)))
    value_of (Index e i) locals trace answers =
        goes_on (value_of e locals trace answers) (λ v trace answers.
        goes_on (value_of i locals trace answers) (λ k. step (ReadsAt v k)))
    value_of (Apply (Export name) es) locals trace answers =
        goes_on (values_of es locals trace answers) (λ vs. step (Calls (OfExport name) vs))
    value_of (Apply (Name name) es) locals trace answers =
        goes_on (values_of es locals trace answers) (λ vs. step (Calls (thing_of name) vs))
    value_of (Apply (Outside name) es) locals trace answers =
        goes_on (values_of es locals trace answers) (λ vs. step (Calls (OfHost name) vs))
    value_of (Apply (Field e key) es) locals trace answers =
        goes_on (value_of e locals trace answers) (λ v trace answers.
        goes_on (values_of es locals trace answers) (λ vs. step (CallsOn v key vs)))
    value_of (Apply (Index e i) es) locals trace answers =
        goes_on (value_of e locals trace answers) (λ v trace answers.
        goes_on (value_of i locals trace answers) (λ k trace answers.
        goes_on (values_of es locals trace answers) (λ vs. step (CallsAt v k vs))))
    value_of (Apply f es) locals trace answers =
        goes_on (value_of f locals trace answers) (λ v trace answers.
        goes_on (values_of es locals trace answers) (λ vs. step (CallsValue v vs)))
    value_of (Make (Name name) es) locals trace answers =
        goes_on (values_of es locals trace answers) (λ vs. step (News (thing_of name) vs))
    value_of (Make (Outside name) es) locals trace answers =
        goes_on (values_of es locals trace answers) (λ vs. step (News (OfHost name) vs))
    value_of (Make f es) locals trace answers =
        goes_on (value_of f locals trace answers) (λ v trace answers.
        goes_on (values_of es locals trace answers) (λ vs. step (NewsValue v vs)))
    value_of (One u.Increment (Name name)) locals trace answers = bump (thing_of name) trace answers
    value_of (One u.Increment e) locals trace answers = no_meaning trace answers
    value_of (One u.Decrement (Name name)) locals trace answers = lower (thing_of name) trace answers
    value_of (One u.Decrement e) locals trace answers = no_meaning trace answers
    value_of (One op e) locals trace answers =
        goes_on (value_of e locals trace answers) (λ v. Went (one_of op v))
    value_of (Two op a b) locals trace answers =
        goes_on (value_of a locals trace answers) (λ v trace answers.
        if_true (takes_second op v) (goes_on (value_of b locals trace answers) (two_of op v)) (Went v trace answers))
    value_of (Choose c a b) locals trace answers =
        goes_on (value_of c locals trace answers) (λ v trace answers.
        if_true (is_true v) (value_of a locals trace answers) (value_of b locals trace answers))
    value_of (Fields es) locals trace answers =
        goes_on (field_values es locals trace answers) (λ fields. Went (WithFields fields))

    -- the values of expressions, in order
    pub values_of : Terms → Locals → Act (List Value)
    values_of NoTerms locals trace answers = Went [] trace answers
    values_of (AndTerm e es) locals trace answers =
        goes_on (value_of e locals trace answers) (λ v trace answers.
        goes_on (values_of es locals trace answers) (λ vs. Went (v ∷ vs)))

    -- the values of a record's fields, in order
    pub field_values : Keyed → Locals → Act FieldValues
    field_values NoKeys locals trace answers = Went NoFields trace answers
    field_values (AndKey name e es) locals trace answers =
        goes_on (value_of e locals trace answers) (λ v trace answers.
        goes_on (field_values es locals trace answers) (λ fields. Went (AndField name v fields)))

-- a run of statements: nothing where it came to their end, a value where it left the body
abbrev pub unless_left : Ran (Option Value) → Act (Option Value) → Ran (Option Value)
unless_left (Went None trace answers) next = next trace answers
unless_left (Went (Some v) trace answers) next = Went (Some v) trace answers
unless_left (Threw v trace answers) next = Threw v trace answers
unless_left (Ended trace) next = Ended trace

-- `try` and `finally`: how the second block leaves or throws replaces the outcome
abbrev pub and_always : Ran (Option Value) → Act (Option Value) → Ran (Option Value)
and_always (Went o trace answers) last = unless_left (last trace answers) (Went o)
and_always (Threw v trace answers) last = unless_left (last trace answers) (Threw v)
and_always (Ended trace) last = Ended trace

-- `try` and `catch`: the second block runs with what was thrown
abbrev pub and_rescue : Ran (Option Value) → (Value → Act (Option Value)) → Ran (Option Value)
and_rescue (Went o trace answers) last = Went o trace answers
and_rescue (Threw v trace answers) last = last v trace answers
and_rescue (Ended trace) last = Ended trace

-- the value of an expression goes to what comes next, a throw of it to what takes it
abbrev pub caught : {A B : Type 0} → Ran A → (A → Act B) → (Value → Act B) → Ran B
caught (Went a trace answers) next last = next a trace answers
caught (Threw v trace answers) next last = last v trace answers
caught (Ended trace) next last = Ended trace

-- a local more, where it has a name
abbrev pub with_local : Option (List ℕ) → Value → Locals → Locals
with_local None v locals = locals
with_local (Some name) v locals = (name, v) ∷ locals

module _ (thing_of : List ℕ → Thing) where
  -- `target = value;`, where the target's parts go first. A local, and what is no target, has no meaning here.
  abbrev pub put : Term → Term → Locals → Act Value
  put (Name name) e locals trace answers =
      goes_on (value_of thing_of e locals trace answers) (λ v. step (Writes (thing_of name) v))
  put (Field o key) e locals trace answers =
      goes_on (value_of thing_of o locals trace answers) (λ u trace answers.
      goes_on (value_of thing_of e locals trace answers) (λ v. step (WritesAt u (Letters key) v)))
  put (Index o i) e locals trace answers =
      goes_on (value_of thing_of o locals trace answers) (λ u trace answers.
      goes_on (value_of thing_of i locals trace answers) (λ k trace answers.
      goes_on (value_of thing_of e locals trace answers) (λ v. step (WritesAt u k v))))
  put target e locals trace answers = no_meaning trace answers

  abbrev mutual
    -- the run of a list of statements. A local is known to the rest of its own list.
    pub runs : Lines → Locals → Act (Option Value)
    runs NoLines locals trace answers = Went None trace answers
    -- `let x; try { x = e; } catch (error) {..}`: x has the value of e, or is `undefined` where e threw and the second
    -- block came to its end
    runs (AndLine (Hold x) (AndLine (Rescue (AndLine (Put (Var y) e) NoLines) error last) lines)) locals trace answers =
        let held : Locals = (x, Undefined) ∷ locals in
        if_true (is_same_text x y)
        (caught (value_of thing_of e held trace answers) (λ v. runs lines ((x, v) ∷ locals)) (λ w trace answers.
        unless_left (runs last ((error, w) ∷ held) trace answers) (runs lines held)))
        (no_meaning trace answers)
    runs (AndLine line lines) locals trace answers = line_runs line locals (runs lines) trace answers

    -- the run of a statement and of what comes after it, which is handed the locals
    pub line_runs : Line → Locals → (Locals → Act (Option Value)) → Act (Option Value)
    line_runs (Bind name e) locals next trace answers =
        goes_on (value_of thing_of e locals trace answers) (λ v. next ((name, v) ∷ locals))
    line_runs (Hold name) locals next trace answers = next ((name, Undefined) ∷ locals) trace answers
    line_runs (Put target e) locals next trace answers =
        goes_on (put target e locals trace answers) (λ v. next locals)
    line_runs (Run e) locals next trace answers =
        goes_on (value_of thing_of e locals trace answers) (λ v. next locals)
    line_runs (When c body) locals next trace answers =
        goes_on (value_of thing_of c locals trace answers) (λ v trace answers.
        unless_left (if_true (is_true v) (runs body locals trace answers) (Went None trace answers)) (next locals))
    -- the same as `if` with that one statement as its block
    line_runs (Short c line) locals next trace answers =
        goes_on (value_of thing_of c locals trace answers) (λ v trace answers.
        unless_left
        (if_true (is_true v) (line_runs line locals (λ inner. Went None) trace answers) (Went None trace answers))
        (next locals))
    line_runs (Always body last) locals next trace answers =
        unless_left (and_always (runs body locals trace answers) (runs last locals)) (next locals)
    line_runs (Rescue body name last) locals next trace answers =
        unless_left (and_rescue (runs body locals trace answers) (λ v. runs last ((name, v) ∷ locals))) (next locals)
    line_runs (Fail e) locals next trace answers =
        goes_on (value_of thing_of e locals trace answers) Threw
    line_runs (Leave None) locals next trace answers = Went (Some Undefined) trace answers
    line_runs (Leave (Some e)) locals next trace answers =
        goes_on (value_of thing_of e locals trace answers) (λ v. Went (Some v))
    line_runs (Inner adapter es name words) locals next trace answers =
        goes_on (values_of thing_of es locals trace answers) (λ vs trace answers.
        goes_on (step (CallsAdapter adapter vs) trace answers) (λ v. next (with_local name v locals)))

-- the run of a function's body, from its parameters on
abbrev pub tree_meaning : (List ℕ → Thing) → Lines → Locals → List Answer → Ran (Option Value)
tree_meaning thing_of body locals answers = runs thing_of body locals [] answers
