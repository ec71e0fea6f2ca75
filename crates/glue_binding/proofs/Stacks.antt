-- Stacks, pieces, and lists that loops go over.
use Rattle.std.proofs.Common.{◌≡◌, ℕ, zero, suc, ◌+◌, ◌-◌, ◌<◌, ◌≤◌, List, [], ◌∷◌, ◌++◌, length, get_or, map, reverse, refl, sym, ap, ◌∙◌, arith, append_assoc}
use Rattle.std.proofs.lemmas.List.{reverse-append, map-append, length-map, length-reverse, get_or-map, get_or-reverse, get_or_past}
use Rattle.glue_tree.specs.Term.{Lines, AndLine}
use Rattle.glue_tree.specs.Plainly.{plain_stmt, plain_stmts}
use Rattle.glue_tree.specs.declared.tree.Stmt.{Stmt}
use Rattle.glue_steps.specs.Stack.{top, below, item_at, last_of, operands, without}
use Rattle.glue_steps.specs.AdapterMeaning.{known}
use Rattle.glue_steps.specs.declared.step.Step.{Step}
use Rattle.glue_operands.specs.Spelling.{Plain, Missing}
use Rattle.glue_binding.specs.Spelling.{Piece, Ahead, Cleanup, row, pieces_of, cleaned_by, nested, wanted_by, counted, wanted_from}
use Rattle.glue_binding.specs.Body.{newest_first, stack_of, plain_piece, plain_pieces, behind}
use Rattle.glue_operands.specs.Plainly.{plain_operand}
use Rattle.glue_operands.specs.declared.operand.Operand.{Operand}
use Rattle.glue_binding.specs.declared.piece.Piece as code

-- ---- lists

pub reverse_last : {A : Type 0} (xs : List A) (x : A) → reverse (xs ++ x ∷ []) ≡ x ∷ reverse xs
reverse_last xs x = reverse-append xs (x ∷ [])

reverse_front : {A : Type 0} (x : A) (xs : List A) → reverse (x ∷ xs) ≡ reverse xs ++ x ∷ []
reverse_front x xs = reverse-append (x ∷ []) xs

pub reverse_twice : {A : Type 0} (xs : List A) → reverse (reverse xs) ≡ xs
reverse_twice [] = refl
reverse_twice (x ∷ xs) = ap reverse (reverse_front x xs) ∙ reverse_last (reverse xs) x
    ∙ ap (λ l. x ∷ l) (reverse_twice xs)

pub newest_first_reverse : {A : Type 0} (xs : List A) → newest_first (reverse xs) ≡ xs
unfolding newest_first
newest_first_reverse xs = reverse_twice xs

-- ---- operands

-- the last one
last_behind : {A : Type 0} (default x : A) (xs : List A) → item_at default (x ∷ xs) (length xs) ≡ last_of x xs
last_behind default x [] = refl
last_behind default x (y ∷ xs) = last_behind default y xs

pub last_found : (known : List Operand) → item_at Missing (map plain_operand known) (length known - 1) ≡ last_of Missing (map plain_operand known)
last_found [] = refl
last_found (x ∷ known) =
    let e : length (x ∷ known) - 1 ≡ length (map plain_operand known) = let same = length-map known plain_operand in omega (arith, same) in
    ap (item_at Missing (map plain_operand (x ∷ known))) e ∙ last_behind Missing (plain_operand x) (map plain_operand known)

operands_next : {A : Type 0} (default : A) (k n : ℕ) (stack taken : List A) → k < n
    → operands default (n - (k + 1)) (below stack) (top default stack ∷ taken) ≡ operands default (n - k) stack taken
operands_next default k n stack taken h = let e : n - k ≡ suc (n - (k + 1)) = omega arith in rw e refl

pub without_next : {A : Type 0} (k n : ℕ) (stack : List A) → k < n
    → without (n - (k + 1)) (below stack) ≡ without (n - k) stack
without_next k n stack h = let e : n - k ≡ suc (n - (k + 1)) = omega arith in rw e refl

-- one operand more is popped
pub popped_operands : (k n : ℕ) (stack stack' : List Plain) (taken taken' : List Operand) (x : Operand) → k < n
    → stack' ≡ below stack → plain_operand x ≡ top Missing stack → taken' ≡ taken ++ x ∷ []
    → operands Missing (n - (k + 1)) stack' (map plain_operand (reverse taken'))
    ≡ operands Missing (n - k) stack (map plain_operand (reverse taken))
popped_operands k n stack stack' taken taken' x h s e t =
    ap (λ l. operands Missing (n - (k + 1)) l (map plain_operand (reverse taken'))) s
    ∙ ap (λ l. operands Missing (n - (k + 1)) (below stack) l)
    (ap (λ l. map plain_operand (reverse l)) t ∙ ap (map plain_operand) (reverse_last taken x)
    ∙ ap (λ y. y ∷ map plain_operand (reverse taken)) e)
    ∙ operands_next Missing k n stack (map plain_operand (reverse taken)) h

-- the operand that so many stand above
top_under : {A : Type 0} (default : A) (n : ℕ) (stack : List A) → top default (without n stack) ≡ get_or stack n default
top_under default zero [] = refl
top_under default zero (x ∷ stack) = refl
top_under default (suc n) [] = top_under default n []
top_under default (suc n) (x ∷ stack) = top_under default n stack

pub operand_under : (operands : List Operand) (n : ℕ) (x : Operand) → n < length operands
    → x ≡ get_or operands (length operands - 1 - n) x → plain_operand x ≡ top Missing (without n (stack_of operands))
unfolding stack_of
operand_under operands n x lt is =
    let plain = map plain_operand operands in
    let count = length-map operands plain_operand in
    ap plain_operand is
    ∙ sym (get_or-map plain_operand operands (length operands - 1 - n) x Missing (omega (arith, lt)))
    ∙ ap (λ k. get_or plain (k - 1 - n) Missing) (sym count)
    ∙ sym (get_or-reverse plain n Missing (omega (arith, lt, count)))
    ∙ sym (top_under Missing n (reverse plain))

pub operand_absent : (operands : List Operand) (n : ℕ) → length operands ≤ n → Missing ≡ top Missing (without n (stack_of operands))
unfolding stack_of
operand_absent operands n le =
    let plain = map plain_operand operands in
    let count : length (reverse plain) ≡ length operands = length-reverse plain ∙ length-map operands plain_operand in
    sym (get_or_past (reverse plain) n Missing (omega (arith, le, count))) ∙ sym (top_under Missing n (reverse plain))

-- ---- pieces

-- one step of the loop over the steps
pub pieces_next : (steps rest : List Step) (s : Step) (params params' stack stack' : List Plain) (names names' : List (List ℕ))
    (old new total : List Piece) → steps ≡ s ∷ rest → params' ≡ known Missing s params (row s params stack names).stack
    → new ≡ old ++ (row s params stack names).pieces
    → stack' ≡ (row s params stack names).stack → names' ≡ (row s params stack names).names
    → old ++ pieces_of steps params stack names ≡ total → new ++ pieces_of rest params' stack' names' ≡ total
pieces_next steps rest s params params' stack stack' names names' old new total e k p q n inv =
    let r = row s params stack names in
    let after = known Missing s params r.stack in
    ap (λ l. l ++ pieces_of rest params' stack' names') p
    ∙ ap (λ ps. (old ++ r.pieces) ++ pieces_of rest ps stack' names') k
    ∙ ap (λ t. (old ++ r.pieces) ++ pieces_of rest after t names') q
    ∙ ap (λ l. (old ++ r.pieces) ++ pieces_of rest after r.stack l) n
    ∙ append_assoc old r.pieces (pieces_of rest after r.stack r.names)
    ∙ ap (λ c. old ++ pieces_of c params stack names) (sym e)
    ∙ inv

pub nested-append : (a b : List Piece) (rest : Lines) → nested (a ++ b) rest ≡ nested a (nested b rest)
nested-append [] b rest = refl
nested-append (Ahead line ∷ a) b rest = ap (AndLine line) (nested-append a b rest)
nested-append (Cleanup line ∷ a) b rest = ap (cleaned_by line) (nested-append a b rest)

-- the last piece goes in front of what stands behind it
pub nested_last : (pieces : List code.Piece) (piece : code.Piece) (rest : Lines)
    → nested (plain_pieces (pieces ++ piece ∷ [])) rest
    ≡ nested (plain_pieces pieces) (nested (plain_piece piece ∷ []) rest)
unfolding plain_pieces
nested_last pieces piece rest = ap (λ l. nested l rest) (map-append plain_piece pieces (piece ∷ []))
    ∙ nested-append (map plain_piece pieces) (plain_piece piece ∷ []) rest

-- one statement more in front
pub behind_more : (lines : List Stmt) (line : Stmt) → behind (lines ++ line ∷ [])
    ≡ AndLine (plain_stmt line) (behind lines)
unfolding behind
behind_more lines line = ap plain_stmts (reverse_last lines line)

-- two pieces that are added one after the other
pub two_pieces : (a b c : List Piece) (x y : Piece) → b ≡ a ++ x ∷ [] → c ≡ b ++ y ∷ [] → c ≡ a ++ x ∷ y ∷ []
two_pieces a b c x y e f = f ∙ ap (λ l. l ++ y ∷ []) e ∙ append_assoc a (x ∷ []) (y ∷ [])

-- ---- temporaries

-- one step of the loop over the steps
pub wanted_next : (steps rest : List Step) (s : Step) (count count' : ℕ) (old new total : List (List ℕ))
    → steps ≡ s ∷ rest → new ≡ old ++ wanted_by s count → count' ≡ counted s count
    → old ++ wanted_from count steps ≡ total → new ++ wanted_from count' rest ≡ total
wanted_next steps rest s count count' old new total e w c inv =
    ap (λ l. l ++ wanted_from count' rest) w
    ∙ ap (λ k. (old ++ wanted_by s count) ++ wanted_from k rest) c
    ∙ append_assoc old (wanted_by s count) (wanted_from (counted s count) rest)
    ∙ ap (λ l. old ++ wanted_from count l) (sym e)
    ∙ inv
