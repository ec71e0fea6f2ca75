use Rattle.std.proofs.Common.{◌∙◌, ap}
use Rattle.glue_tree.specs.Plainly.{plain_stmts}
use Rattle.glue_operands.specs.Form.{parameters_of, form_words}
use Rattle.glue_binding.specs.Spelling.{tree_of}
use Rattle.glue_binding.proofs.Functions.{bound_function}
use Rattle.glue_binding.proofs.binding.bind.Goals as goal

pub returns-clause-function : goal.returns-clause-function
returns-clause-function g c =
    let steps = c.args.steps.now in
    let form = c.args.form in
    let params = c.in_ok-params.params in
    let temps = c.in_ok-temps.temps in
    let bound = g.N.Names.bound in
    let known = c.in_ok-known.ensures.operands ∙ ap (parameters_of form) c.as_slice-2.ensures in
    let tree = c.in_ok-tree.ensures.tree ∙ ap (λ ps. tree_of steps ps temps) known in
    let words = c.in_ok-words.ensures.words
    ∙ ap (λ ps. form_words form ps (plain_stmts c.as_slice-4.result.now)) c.as_slice-3.ensures
    ∙ ap (λ body. form_words form params (plain_stmts body)) c.as_slice-4.ensures in
    bound_function form steps c.args.wanted.now c.args.around.now _ temps _ (bound c.new-scope.result)
    (bound c.reserve_seed.new.scope) (bound c.reserve_names.new.scope) (bound c.draw.new.scope)
    c.new-scope.ensures.empty c.in_ok-reserve_seed.ensures.bound c.in_ok-reserve_names.ensures.bound c.in_ok-params.ensures.drawn
    c.in_ok-params.ensures.bound
    (c.as_slice.ensures ∙ c.in_ok-others.ensures.wanted) c.in_ok-temps.ensures.drawn tree words
    (c.empty.ensures, c.empty-2.ensures, c.empty-3.ensures)
