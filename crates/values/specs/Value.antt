-- Values, what operators make of them, outside steps, their answers, and what a run comes to.
--     Value     what an expression comes to; whole numbers alone, since trees compute with no others, and of any size
--               (those of an engine are exact up to 2^53)
--     Entry     one outside step: what a run does to, or asks of, what isn't its own
--     Ran       where a run has come to, with its steps so far and the answers that are left
-- Operators are total functions. On the kinds of values that trees apply them to they are those of ECMAScript
-- (section 13): whole numbers, texts, and for `>>>` truths, which are read as 1 and 0 (section 7.1.4). On other kinds (a
-- sum with an object, say, which would call its `valueOf`) they have a fixed value, `undefined` or false.
use Rattle.std.specs.Prelude.{ℕ, ◌-◌, ◌/◌, ◌*◌, ℤ, pos, negsuc, ◌+ℤ◌, ◌-ℤ◌, ◌*ℤ◌, ◌%◌, ◌^◌, Bool, true, false, ◌==◌, ◌&&◌, ◌||◌, not, List, [], ◌∷◌, ◌++◌, codes, nat_eq, int_lt}
use Rattle.std.specs.Cmp.Lexicographic.{pointwise}
use Rattle.std.specs.Int.{w32, cast_signed, int_shr}

-- what a name or an export stands for: the program's own item, an export of the module, or what the host has by a name
pub data Thing : Type 0 where
  Helper : (key : List ℕ) → Thing
  OfExport : (name : List ℕ) → Thing
  OfHost : (name : List ℕ) → Thing

mutual
  -- a value: `undefined`, `null`, a truth, a whole number, a big integer, a text by its bytes, the thing itself, an
  -- object by its identity, and a record of values with names, in order
  pub data Value : Type 0 where
    Undefined : Value
    Null : Value
    Truth : Bool → Value
    Number : ℤ → Value
    BigInt : ℤ → Value
    Letters : List ℕ → Value
    Itself : Thing → Value
    Object : ℕ → Value
    WithFields : FieldValues → Value

  -- values with their names
  pub data FieldValues : Type 0 where
    NoFields : FieldValues
    AndField : (name : List ℕ) → Value → FieldValues → FieldValues

-- one outside step, with its operands' values: a read or a write of a thing, of a property or of a slot; a test whether
-- an object is of a class, or has a property; a call of a thing, of a value, or of an object's property by its name or
-- its key; `new` of a thing or of a value; the call of an import adapter
pub data Entry : Type 0 where
  Reads : Thing → Entry
  Writes : Thing → Value → Entry
  ReadsAt : (object key : Value) → Entry
  WritesAt : (object key value : Value) → Entry
  TestsClass : (object class : Value) → Entry
  TestsKey : (key object : Value) → Entry
  Calls : Thing → List Value → Entry
  CallsValue : Value → List Value → Entry
  CallsOn : (object : Value) (name : List ℕ) → List Value → Entry
  CallsAt : (object key : Value) → List Value → Entry
  News : Thing → List Value → Entry
  NewsValue : Value → List Value → Entry
  CallsAdapter : ℕ → List Value → Entry

-- what an outside step is answered: a value, or a throw of one
pub data Answer : Type 0 where
  Gives : Value → Answer
  Throws : Value → Answer

-- where a run has come to: a result, a throw, or the end of the answers
pub data Ran (A : Type 0) : Type 0 where
  Went : A → List Entry → List Answer → Ran A
  Threw : Value → List Entry → List Answer → Ran A
  Ended : List Entry → Ran A

-- what goes on from a trace and the answers that are left
abbrev pub Act : Type 0 → Type 0
Act A = List Entry → List Answer → Ran A

-- what comes after a result; a throw and the answers' end stand
abbrev pub goes_on : {A B : Type 0} → Ran A → (A → Act B) → Ran B
goes_on (Went a trace answers) next = next a trace answers
goes_on (Threw v trace answers) next = Threw v trace answers
goes_on (Ended trace) next = Ended trace

-- an outside step joins the trace, and takes the next answer
abbrev pub step : Entry → Act Value
step entry trace [] = Ended (trace ++ entry ∷ [])
step entry trace (Gives v ∷ answers) = Went v (trace ++ entry ∷ []) answers
step entry trace (Throws v ∷ answers) = Threw v (trace ++ entry ∷ []) answers

-- a cleanup after a run: a throw of it replaces the outcome
abbrev pub and_then_cleans : {A : Type 0} → Ran A → Act Value → Ran A
and_then_cleans (Went a trace answers) cleanup = goes_on (cleanup trace answers) (λ v. Went a)
and_then_cleans (Threw v trace answers) cleanup = goes_on (cleanup trace answers) (λ w. Threw v)
and_then_cleans (Ended trace) cleanup = Ended trace

-- ---- which values are true, and which are the same

-- a list is empty
abbrev pub is_empty : List ℕ → Bool
is_empty [] = true
is_empty (x ∷ xs) = false

-- two texts or names are the same
abbrev pub is_same_text : List ℕ → List ℕ → Bool
is_same_text = pointwise nat_eq

-- two whole numbers are the same
abbrev pub is_same_number : ℤ → ℤ → Bool
is_same_number (pos m) (pos n) = m == n
is_same_number (negsuc m) (negsuc n) = m == n
is_same_number m n = false

-- two truths are the same
abbrev pub is_same_truth : Bool → Bool → Bool
is_same_truth true b = b
is_same_truth false b = not b

-- two things are the same
abbrev pub is_same_thing : Thing → Thing → Bool
is_same_thing (Helper k) (Helper l) = is_same_text k l
is_same_thing (OfExport k) (OfExport l) = is_same_text k l
is_same_thing (OfHost k) (OfHost l) = is_same_text k l
is_same_thing t u = false

-- `v === w`: of one kind and the same; two records are two objects. No tree compares a record with itself.
abbrev pub is_same : Value → Value → Bool
is_same Undefined Undefined = true
is_same Null Null = true
is_same (Truth a) (Truth b) = is_same_truth a b
is_same (Number m) (Number n) = is_same_number m n
is_same (BigInt m) (BigInt n) = is_same_number m n
is_same (Letters s) (Letters t) = is_same_text s t
is_same (Itself t) (Itself u) = is_same_thing t u
is_same (Object m) (Object n) = m == n
is_same v w = false

-- `undefined` or `null`
abbrev pub is_nothing : Value → Bool
is_nothing Undefined = true
is_nothing Null = true
is_nothing v = false

-- `v == w`: both `undefined` or `null`, else as `===`
abbrev pub is_like : Value → Value → Bool
is_like v w = (is_nothing v && is_nothing w) || is_same v w

-- what a test takes for true: all but `undefined`, `null`, false, zero and the empty text
abbrev pub is_true : Value → Bool
is_true Undefined = false
is_true Null = false
is_true (Truth b) = b
is_true (Number n) = not (is_same_number n (pos 0))
is_true (BigInt n) = not (is_same_number n (pos 0))
is_true (Letters s) = not (is_empty s)
is_true (Itself t) = true
is_true (Object n) = true
is_true (WithFields record_fields) = true

-- `v < w`, of whole numbers
abbrev pub is_less : Value → Value → Bool
is_less (Number m) (Number n) = int_lt m n
is_less (BigInt m) (BigInt n) = int_lt m n
is_less v w = false

-- `v <= w`, of whole numbers
abbrev pub is_at_most : Value → Value → Bool
is_at_most (Number m) (Number n) = not (int_lt n m)
is_at_most (BigInt m) (BigInt n) = not (int_lt n m)
is_at_most v w = false

-- the text of `typeof v`; a thing is a function, an object none. Of what the host gives an engine may say otherwise; no tree asks.
abbrev pub type_of : Value → Value
type_of Undefined = Letters (codes "undefined")
type_of Null = Letters (codes "object")
type_of (Truth b) = Letters (codes "boolean")
type_of (Number n) = Letters (codes "number")
type_of (BigInt n) = Letters (codes "bigint")
type_of (Letters s) = Letters (codes "string")
type_of (Itself t) = Letters (codes "function")
type_of (Object n) = Letters (codes "object")
type_of (WithFields record_fields) = Letters (codes "object")

-- ---- sums, products and bits

-- `v + w`: of whole numbers the sum, of texts one after the other
abbrev pub sum_of : Value → Value → Value
sum_of (Number m) (Number n) = Number (m +ℤ n)
sum_of (BigInt m) (BigInt n) = BigInt (m +ℤ n)
sum_of (Letters s) (Letters t) = Letters (s ++ t)
sum_of v w = Undefined

-- `v - w`
abbrev pub difference_of : Value → Value → Value
difference_of (Number m) (Number n) = Number (m -ℤ n)
difference_of (BigInt m) (BigInt n) = BigInt (m -ℤ n)
difference_of v w = Undefined

-- `v * w`
abbrev pub product_of : Value → Value → Value
product_of (Number m) (Number n) = Number (m *ℤ n)
product_of (BigInt m) (BigInt n) = BigInt (m *ℤ n)
product_of v w = Undefined

-- a whole number modulo 2^32
abbrev pub low_32 : ℤ → ℕ
low_32 (pos n) = n % 2 ^ 32
low_32 (negsuc n) = 2 ^ 32 - 1 - n % 2 ^ 32

-- the whole number from -2^31 to 2^31 - 1 that is n modulo 2^32
abbrev pub signed_32 : ℕ → ℤ
signed_32 n = cast_signed w32 (n % 2 ^ 32)

-- an operator on the 32 bits of whole numbers
abbrev pub by_bits : (ℕ → ℕ → ℕ) → Value → Value → Value
by_bits f (Number m) (Number n) = Number (signed_32 (f (low_32 m) (low_32 n)))
by_bits f v w = Undefined

-- `~v`
abbrev pub complement_of : Value → Value
complement_of (Number n) = Number (signed_32 (2 ^ 32 - 1 - low_32 n))
complement_of v = Undefined

-- by how many bits a shift goes
abbrev pub shift_of : ℤ → ℕ
shift_of n = low_32 n % 32

-- `v << w`
abbrev pub shifted_left : Value → Value → Value
shifted_left (Number m) (Number n) = Number (signed_32 (low_32 m * 2 ^ shift_of n))
shifted_left v w = Undefined

-- `v >> w`
abbrev pub shifted_right : Value → Value → Value
shifted_right (Number m) (Number n) = Number (int_shr (signed_32 (low_32 m)) (shift_of n))
shifted_right v w = Undefined

-- `v >>> w`, of a whole number, or of a truth, which is read as one
abbrev pub shifted_unsigned : Value → Value → Value
shifted_unsigned (Number m) (Number n) = Number (pos (low_32 m / 2 ^ shift_of n))
shifted_unsigned (Truth true) (Number n) = Number (pos (1 / 2 ^ shift_of n))
shifted_unsigned (Truth false) (Number n) = Number (pos 0)
shifted_unsigned v w = Undefined

-- `v >>> 0`
abbrev pub unsigned : Value → Value
unsigned v = shifted_unsigned v (Number (pos 0))

-- `v !== 0`
abbrev pub is_not_zero : Value → Value
is_not_zero v = Truth (not (is_same v (Number (pos 0))))

-- ---- `++` and `--`

-- what `++` leaves
abbrev pub one_more : Value → Value
one_more v = sum_of v (Number (pos 1))

-- what `--` leaves
abbrev pub one_less : Value → Value
one_less v = difference_of v (Number (pos 1))

-- `name++`: a read, a write, and the value that was read
abbrev pub bump : Thing → Act Value
bump thing trace answers =
    goes_on (step (Reads thing) trace answers) (λ v trace answers.
    goes_on (step (Writes thing (one_more v)) trace answers) (λ w.
    Went v))

-- `--name`: a read, a write, and the value that was written
abbrev pub lower : Thing → Act Value
lower thing trace answers =
    goes_on (step (Reads thing) trace answers) (λ v trace answers.
    goes_on (step (Writes thing (one_less v)) trace answers) (λ w.
    Went (one_less v)))
