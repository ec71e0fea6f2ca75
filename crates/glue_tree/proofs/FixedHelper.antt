-- What the item of a fixed helper owes, by its tree: that it stands alone, and which names it uses. The helper is
-- `function dropObject(idx) {..}` with `if (idx < 1028) return;`, `heap[idx] = heap_next;` and `heap_next = idx;`.
use Rattle.std.proofs.Common.{◌≡◌, List, [], ◌∷◌, refl, true}
use Rattle.std.specs.Prelude.{None, codes, pos}
use Rattle.glue_words.specs.declared.word.Word.{Word}
use Rattle.glue_words.specs.declared.word.Word.TheVariants as w
use Rattle.glue_words.specs.Names.{used_in, local_in}
use Rattle.glue_words.proofs.Belonging.{StandAlone}
use Rattle.glue_words.proofs.Idents.{ascii_ident}
use Rattle.glue_tree.specs.declared.tree.BinaryOperator.TheVariants.{Less}
use Rattle.glue_tree.specs.Term.{Lit, Var, Name, Index, Two, Put, Short, Leave, Lines, NoLines, AndLine}
use Rattle.glue_tree.proofs.Fit.{lines_fit}
use Rattle.glue_tree.proofs.Functions.{IsFrame, item_words, item_leaves, item_alone}

-- its statements
abbrev body : Lines
body =
    AndLine (Short (Two Less (Var (codes "idx")) (Lit (pos 1028))) (Leave None))
    (AndLine (Put (Index (Name (codes "heap")) (Var (codes "idx"))) (Name (codes "heap_next")))
    (AndLine (Put (Name (codes "heap_next")) (Var (codes "idx"))) NoLines))

-- `function dropObject`
abbrev front : List Word
front = w.Key 18 ∷ w.Gap (codes " ") ∷ w.Bind (codes "dropObject") ∷ []

-- the line feed after it
abbrev back : List Word
back = w.Gap (10 ∷ []) ∷ []

-- its names are identifiers
body_fit : lines_fit body ≡ true
body_fit = rw (ascii_ident (codes "idx") refl, ascii_ident (codes "heap") refl, ascii_ident (codes "heap_next") refl) refl

-- the words round the function let it stand there
frame : IsFrame front back
frame = record { right = (rw (ascii_ident (codes "dropObject") refl) refl, refl); before = refl; behind = refl; after = refl; apart = refl; ends = refl }

-- its words stand alone
alone : StandAlone (item_words front back (codes "idx" ∷ []) body)
alone = item_alone frame (codes "idx" ∷ []) body (rw (ascii_ident (codes "idx") refl) refl) body_fit

-- the names of the module that it uses, and its locals
uses : used_in (item_leaves front back (codes "idx" ∷ []) body) ≡ codes "heap" ∷ codes "heap_next" ∷ codes "heap_next" ∷ []
uses = refl

own : local_in (item_leaves front back (codes "idx" ∷ []) body) ≡ codes "idx" ∷ codes "idx" ∷ codes "idx" ∷ []
own = refl
