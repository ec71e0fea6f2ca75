use Rattle.std.proofs.Common.{◌≡◌, ℕ, ◌++◌, ◌∷◌, [], List, Some, map, ap, ◌∙◌}
use Rattle.glue_imports.specs.declared.part.Expression.{Expression}
use Rattle.glue_binding.specs.Body.{newest_first, stack_of, plain_pieces}
use Rattle.glue_operands.specs.Plainly.{plain_operand}
use Rattle.glue_operands.specs.Spelling.{Plain, Local}
use Rattle.glue_binding.specs.Spelling.{Piece, Ahead, first, import_call}
use Rattle.glue_binding.proofs.calls.call_with.Goals as goal

bound_call : (adapter : ℕ) (e : Expression) (locals : List (List ℕ)) (args ps : List Plain) (bound name : List ℕ) (old older new : List Piece)
    → args ≡ ps → bound ≡ name → older ≡ old
    → new ≡ older ++ Ahead (import_call adapter (Some bound) e locals args) ∷ []
    → new ≡ old ++ Ahead (import_call adapter (Some name) e locals ps) ∷ []
bound_call adapter e locals args ps bound name old older new a b o h =
    h
    ∙ ap (λ l. l ++ Ahead (import_call adapter (Some bound) e locals args) ∷ []) o
    ∙ ap (λ x. old ++ Ahead (import_call adapter (Some x) e locals args) ∷ []) b
    ∙ ap (λ l. old ++ Ahead (import_call adapter (Some name) e locals l) ∷ []) a

pub returns-then-has_result : goal.returns-then-has_result
returns-then-has_result c =
    let body = c.args.body.now in
    let args = ap (map plain_operand) c.deref.ensures.value ∙ c.in_ok-operands.ensures.operands in
    rw c.if-has_result.true (record {
      after = record {
        pieces = bound_call c.args.adapter c.args.expression.now c.args.locals.now _ _ _ _ _ _ _ args
            c.in_ok-bound.ensures.name (ap plain_pieces c.temporary.ensures.pieces) c.in_ok-embed.ensures.pieces;
        stack = ap stack_of c.embed.ensures.stack ∙ c.in_ok-bound.ensures.stack
            ∙ ap (λ stack. Local (first (newest_first body.coming)) ∷ stack) c.in_ok-operands.ensures.left;
        names = ap newest_first c.embed.ensures.names ∙ c.in_ok-bound.ensures.names;
      };
    })
