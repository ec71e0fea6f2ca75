-- Which operands stand in parentheses: those that bind more loosely than ECMAScript's grammar allows where they stand
-- (sections 13.3 to 13.14).
use Rattle.std.specs.Prelude.{ℕ, ℤ, pos, Bool, true, false, not, ◌&&◌, ◌==◌, nat_lt, nat_le, if◌then◌else◌}
use Rattle.std.specs.Int.Signed.{lt_z}
use Rattle.glue_tree.specs.declared.operand.Position.{Position}
use Rattle.glue_tree.specs.declared.operand.Position.TheVariants as p
use Rattle.glue_tree.specs.declared.tree.BinaryOperator.{BinaryOperator}
use Rattle.glue_tree.specs.declared.tree.BinaryOperator.TheVariants as b
use Rattle.glue_tree.specs.declared.tree.UnaryOperator.{UnaryOperator}
use Rattle.glue_tree.specs.declared.tree.UnaryOperator.TheVariants as u
use Rattle.glue_tree.specs.Term.{Term, Lit, Large, Field, Index, Apply, One, Two, Choose, Fields}

-- ---- how tightly expressions bind: the places of their forms in the grammar's order, the tightest first

-- names, literals, objects in braces, `new f(..)`, and what is taken of them
abbrev pub place_of_member : ℕ
place_of_member = 0

-- calls, and what is taken of them
abbrev pub place_of_call : ℕ
place_of_call = 1

-- what an operator of one operand makes
abbrev pub place_of_one : UnaryOperator → ℕ
place_of_one u.Increment = 2
place_of_one u.Decrement = 2
place_of_one u.BitNot = 3
place_of_one u.Not = 3
place_of_one u.TypeOf = 3

-- a number: a negative one stands where `-` stands before an operand
abbrev pub place_of_number : ℤ → ℕ
place_of_number n = if lt_z n (pos 0) then 3 else place_of_member

-- what an operator of two operands makes
abbrev pub place_of_two : BinaryOperator → ℕ
place_of_two b.Multiply = 4
place_of_two b.Divide = 4
place_of_two b.Remainder = 4
place_of_two b.Add = 5
place_of_two b.Subtract = 5
place_of_two b.ShiftLeft = 6
place_of_two b.ShiftRight = 6
place_of_two b.ShiftUnsigned = 6
place_of_two b.Less = 7
place_of_two b.Greater = 7
place_of_two b.AtMost = 7
place_of_two b.AtLeast = 7
place_of_two b.InstanceOf = 7
place_of_two b.In = 7
place_of_two b.Equal = 8
place_of_two b.StrictEqual = 8
place_of_two b.Unequal = 8
place_of_two b.StrictUnequal = 8
place_of_two b.BitAnd = 9
place_of_two b.BitXor = 10
place_of_two b.BitOr = 11
place_of_two b.And = 12
place_of_two b.Or = 13
place_of_two b.Coalesce = 14

-- `c ? a : b`
abbrev pub place_of_choice : ℕ
place_of_choice = 15

-- what is taken of an expression at a place: with the calls where that is one, else with the members
abbrev pub place_of_taken : ℕ → ℕ
place_of_taken place = if place == place_of_call then place_of_call else place_of_member

-- the place of an expression
abbrev pub place : Term → ℕ
place (Lit n) = place_of_number n
place (Large n) = place_of_number n
place (Field e name) = place_of_taken (place e)
place (Index e i) = place_of_taken (place e)
place (Apply f es) = place_of_call
place (One op e) = place_of_one op
place (Two op a b) = place_of_two op
place (Choose c a b) = place_of_choice
place e = place_of_member

-- ---- what each position takes without parentheses

-- a number, whose decimal point a dot would be
abbrev pub is_number : Term → Bool
is_number (Lit n) = true
is_number e = false

-- `a && b` or `a || b`
abbrev pub is_logical : Term → Bool
is_logical (Two b.And x y) = true
is_logical (Two b.Or x y) = true
is_logical e = false

-- the operator is `??`, beside which neither of them stands as it is
abbrev pub is_coalesce : BinaryOperator → Bool
is_coalesce b.Coalesce = true
is_coalesce op = false

-- the operand of an operator alone: of `++`, which stands behind it, at most a call, else what binds as tightly
abbrev pub takes_alone : UnaryOperator → ℕ → Bool
takes_alone u.Increment place = nat_le place place_of_call
takes_alone op place = nat_le place (place_of_one op)

-- The position takes the expression as it is: an object or a callee is at most a call, a class is no call, a left operand binds
-- as tightly as its operator, and a right one and each part of a choice more tightly.
abbrev pub takes : Position → Term → Bool
takes p.Object e = not (is_number e) && nat_le (place e) place_of_call
takes p.Callee e = nat_le (place e) place_of_call
takes p.Class e = nat_lt (place e) place_of_call
takes (p.Operand op) e = takes_alone op (place e)
takes (p.Left op) e = nat_le (place e) (place_of_two op) && not (is_coalesce op && is_logical e)
takes (p.Right op) e = nat_lt (place e) (place_of_two op) && not (is_coalesce op && is_logical e)
takes p.Choice e = nat_lt (place e) place_of_choice

-- the words of the expression begin with `{`
abbrev pub begins_with_brace : Term → Bool
begins_with_brace (Fields es) = true
begins_with_brace (Field e name) = begins_with_brace e && takes p.Object e
begins_with_brace (Index e i) = begins_with_brace e && takes p.Callee e
begins_with_brace (Apply f es) = begins_with_brace f && takes p.Callee f
begins_with_brace (One u.Increment e) = begins_with_brace e && takes (p.Operand u.Increment) e
begins_with_brace (Two op x y) = begins_with_brace x && takes (p.Left op) x
begins_with_brace (Choose c x y) = begins_with_brace c && takes p.Choice c
begins_with_brace e = false
