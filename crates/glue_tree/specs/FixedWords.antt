-- The words that stand for themselves, each named once: punctuation and keywords by their places in the tables of
-- words.
use Rattle.glue_words.specs.declared.word.Word.{Word}
use Rattle.glue_words.specs.declared.word.Word.TheVariants as w
use Rattle.glue_tree.specs.declared.tree.BinaryOperator.{BinaryOperator}
use Rattle.glue_tree.specs.declared.tree.BinaryOperator.TheVariants as b
use Rattle.glue_tree.specs.declared.tree.Constant.{Constant}
use Rattle.glue_tree.specs.declared.tree.Constant.TheVariants as c
use Rattle.glue_tree.specs.declared.tree.UnaryOperator.{UnaryOperator}
use Rattle.glue_tree.specs.declared.tree.UnaryOperator.TheVariants as u
use Rattle.glue_words.specs.declared.punct.TheConstants as punct
use Rattle.glue_words.specs.declared.key.TheConstants as key

-- ---- punctuation

-- `{`
abbrev pub open_brace : Word
open_brace = w.Punct punct.OPEN_BRACE

-- `}`
abbrev pub close_brace : Word
close_brace = w.Punct punct.CLOSE_BRACE

-- `(`
abbrev pub open_paren : Word
open_paren = w.Punct punct.OPEN_PAREN

-- `)`
abbrev pub close_paren : Word
close_paren = w.Punct punct.CLOSE_PAREN

-- `[`
abbrev pub open_bracket : Word
open_bracket = w.Punct punct.OPEN_BRACKET

-- `]`
abbrev pub close_bracket : Word
close_bracket = w.Punct punct.CLOSE_BRACKET

-- `.`
abbrev pub dot : Word
dot = w.Punct punct.DOT

-- `,`
abbrev pub comma : Word
comma = w.Punct punct.COMMA

-- `;`
abbrev pub semicolon : Word
semicolon = w.Punct punct.SEMICOLON

-- `:`
abbrev pub colon : Word
colon = w.Punct punct.COLON

-- `?`
abbrev pub question : Word
question = w.Punct punct.QUESTION

-- `=`
abbrev pub equals : Word
equals = w.Punct punct.ASSIGN

-- ---- keywords

-- `catch`
abbrev pub catch_word : Word
catch_word = w.Key key.CATCH

-- `const`
abbrev pub const_word : Word
const_word = w.Key key.CONST

-- `finally`
abbrev pub finally_word : Word
finally_word = w.Key key.FINALLY

-- `if`
abbrev pub if_word : Word
if_word = w.Key key.IF

-- `let`
abbrev pub let_word : Word
let_word = w.Key key.LET

-- the `n` behind a big integer
abbrev pub big_mark : Word
big_mark = w.Key key.N

-- `new`
abbrev pub new_word : Word
new_word = w.Key key.NEW

-- `return`
abbrev pub return_word : Word
return_word = w.Key key.RETURN

-- `throw`
abbrev pub throw_word : Word
throw_word = w.Key key.THROW

-- `try`
abbrev pub try_word : Word
try_word = w.Key key.TRY

-- the word of a keyword that is an expression
abbrev pub constant_word : Constant → Word
constant_word c.Arguments = w.Key key.ARGUMENTS
constant_word c.False = w.Key key.FALSE
constant_word c.Null = w.Key key.NULL
constant_word c.This = w.Key key.THIS
constant_word c.True = w.Key key.TRUE

-- ---- operators

-- the word of an operator of one operand
abbrev pub unary_word : UnaryOperator → Word
unary_word u.Increment = w.Punct punct.INCREMENT
unary_word u.Decrement = w.Punct punct.DECREMENT
unary_word u.BitNot = w.Punct punct.BIT_NOT
unary_word u.Not = w.Punct punct.NOT
unary_word u.TypeOf = w.Key key.TYPEOF

-- the word of an operator of two operands
abbrev pub binary_word : BinaryOperator → Word
binary_word b.Multiply = w.Punct punct.TIMES
binary_word b.Divide = w.Punct punct.DIVIDE
binary_word b.Remainder = w.Punct punct.REMAINDER
binary_word b.Add = w.Punct punct.PLUS
binary_word b.Subtract = w.Punct punct.MINUS
binary_word b.ShiftLeft = w.Punct punct.SHIFT_LEFT
binary_word b.ShiftRight = w.Punct punct.SHIFT_RIGHT
binary_word b.ShiftUnsigned = w.Punct punct.SHIFT_RIGHT_UNSIGNED
binary_word b.Less = w.Punct punct.LESS
binary_word b.Greater = w.Punct punct.GREATER
binary_word b.AtMost = w.Punct punct.AT_MOST
binary_word b.AtLeast = w.Punct punct.AT_LEAST
binary_word b.InstanceOf = w.Key key.INSTANCEOF
binary_word b.In = w.Key key.IN
binary_word b.Equal = w.Punct punct.LOOSE_EQUAL
binary_word b.StrictEqual = w.Punct punct.EQUAL
binary_word b.Unequal = w.Punct punct.LOOSE_UNEQUAL
binary_word b.StrictUnequal = w.Punct punct.UNEQUAL
binary_word b.BitAnd = w.Punct punct.BIT_AND
binary_word b.BitXor = w.Punct punct.BIT_XOR
binary_word b.BitOr = w.Punct punct.BIT_OR
binary_word b.And = w.Punct punct.AND
binary_word b.Or = w.Punct punct.OR
binary_word b.Coalesce = w.Punct punct.COALESCE
