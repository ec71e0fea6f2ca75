use Rattle.std.proofs.Common.{◌≡◌, true, false, List, ℕ, [], ◌∷◌, ◌++◌, ◌+◌, length, take, ap, sym, subst, ◌∙◌, arith, length-append}
use Rattle.std.specs.FinSet as set
use Rattle.values.specs.TextSet.{TextSet, with_texts}
use Rattle.glue_words.specs.Ident.{is_ident, to_ident}
use Rattle.glue_scope.specs.Scope.{AreDrawn, IsFirstFree}
use Rattle.glue_scope.proofs.Drawn.{with_texts-append}
use Rattle.glue_naming.specs.Drawing.{AreKept, name_wanted, turn_names}
use Rattle.glue_naming.specs.declared.named.Wanted.{Wanted}
use Rattle.glue_naming.proofs.Draws.{drawn_next, last_name, last_name-push, length-turns, take_next, turn_names-push}
use Rattle.glue_naming.proofs.Kept.{kept-append}
use Rattle.glue_naming.proofs.drawing.draw_list.Goals as goal

pub loop-wanted-preserved : goal.loop-wanted-preserved
loop-wanted-preserved g c =
    let b = g.N.Names.bound c.args.scope.now in
    let list = c.args.list.now in
    let names = c.loop-wanted.names in
    let i = c.loop-wanted.wanted-index in
    let w = c.wanted-item.result in
    let name = c.in_ok-last-2.last in
    let inv = c.loop-wanted.invariant in
    let is : take (i + 1) list ≡ take i list ++ w ∷ [] = take_next list i w c.loop-wanted-test.true c.wanted-item.is in
    let grown : c.push.new.self ≡ names ++ name ∷ [] = c.in_ok-push.ensures.ok ∙ ap (λ (m : List ℕ). names ++ m ∷ []) c.in_ok-copy.ensures.equal in
    let first : IsFirstFree (g.N.Names.bound c.loop-wanted.scope) (to_ident (name_wanted (last_name [] names) w.name)) name =
    subst (λ (l : List ℕ). IsFirstFree (g.N.Names.bound c.loop-wanted.scope) (to_ident (name_wanted l w.name)) name) inv.last c.in_ok-last-2.ensures.first in
    let wanted = name_wanted (last_name [] names) w.name in
    let kept : is_ident wanted ≡ true → set.contains (with_texts b names) wanted ≡ false → name ≡ wanted =
    subst (λ (l : List ℕ). is_ident (name_wanted l w.name) ≡ true → set.contains (with_texts b names) (name_wanted l w.name) ≡ false → name ≡ name_wanted l w.name) inv.last
    (subst (λ (s : TextSet). is_ident (name_wanted c.loop-wanted.last w.name) ≡ true → set.contains s (name_wanted c.loop-wanted.last w.name) ≡ false → name ≡ name_wanted c.loop-wanted.last w.name) inv.bound c.in_ok-last-2.ensures.kept) in
    record {
      count = omega (arith, ap length grown, length-append names (name ∷ []), ap length is, length-append (take i list) (w ∷ []), inv.count);
      last = sym (ap (last_name []) grown ∙ last_name-push [] names name);
      drawn = subst (λ (ns : List (List ℕ)). AreDrawn b (turn_names [] (take (i + 1) list) ns) ns) (sym grown)
          (subst (λ (ws : List Wanted). AreDrawn b (turn_names [] ws (names ++ name ∷ [])) (names ++ name ∷ [])) (sym is)
          (drawn_next b (g.N.Names.bound c.loop-wanted.scope) (take i list) names w name inv.count inv.drawn inv.bound first));
      kept = subst (λ (ns : List (List ℕ)). AreKept b (turn_names [] (take (i + 1) list) ns) ns) (sym grown)
          (subst (λ (ws : List Wanted). AreKept b (turn_names [] ws (names ++ name ∷ [])) (names ++ name ∷ [])) (sym is)
          (subst (λ (ws : List (List ℕ)). AreKept b ws (names ++ name ∷ [])) (sym (turn_names-push [] (take i list) names w name inv.count))
          (kept-append b (turn_names [] (take i list) names) names wanted name (length-turns [] (take i list) names inv.count) inv.kept kept)));
      bound = c.in_ok-last-2.ensures.binds ∙ ap (λ (s : TextSet). set.insert s name) inv.bound ∙ sym (with_texts-append b names (name ∷ [])) ∙ ap (with_texts b) (sym grown);
    }
