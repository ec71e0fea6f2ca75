-- A search that has handled the first things of its list.
use Rattle.std.proofs.Common.{◌≡◌, ℕ, ◌+◌, ◌<◌, ◌≤◌, Bool, true, List, [], ◌++◌, length, take, get_or, Some, sym, ap, subst, ◌∙◌, arith}
use Rattle.std.specs.Prelude.{All, Contains, slice_get}
use Rattle.std.proofs.lemmas.List.{length-append, take_all, take-append-le}
use Rattle.std.proofs.lemmas.List.Elements.{All-nil, All-append, All-weaker, All-more, All-contains, All-get_or}
use Rattle.std.proofs.lemmas.Option.{slice_get_within, get_or_from_slice_get}
use Rattle.wasm_reach.specs.declared.things.Thing.{Thing}
use Rattle.wasm_reach.specs.Marks.{is_marked}
use Rattle.wasm_reach.specs.Found.{Nodes, Adds}
use Rattle.wasm_reach.specs.Reach.{IsClosed, IsLeast}

-- the roots are marked, what the first things refer to is marked, and no more was found than must be
pub record Searched (refs : Thing → List Thing) (roots : List Thing) (next : ℕ) (n : Nodes) : Type 0 where
  pub roots_in : All (λ t. is_marked n.marks t ≡ true) roots
  pub closed : All (λ t. All (λ u. is_marked n.marks u ≡ true) (refs t)) (take next n.found)
  pub handled : next ≤ length n.found
  pub least : (p : Thing → Bool) → All (λ t. p t ≡ true) roots → IsClosed refs p → All (λ t. p t ≡ true) n.found

-- each member of extra is one of xs, which p holds
holds : (p : Thing → Bool) (xs extra : List Thing) → All (λ t. p t ≡ true) xs → All (Contains xs) extra → All (λ t. p t ≡ true) extra
holds p xs extra h only = All-weaker (Contains xs) (λ t. p t ≡ true) (λ t c. All-contains (λ t. p t ≡ true) xs t h c) extra only

pub begins : (refs : Thing → List Thing) (roots : List Thing) (old new : Nodes) → old.found ≡ [] → Adds old new roots → Searched refs roots 0 new
begins refs roots old new none a = record {
  roots_in = a.has;
  closed = All-nil (λ t. All (λ u. is_marked new.marks u ≡ true) (refs t));
  handled = omega arith;
  least = λ p r c.
      let is : new.found ≡ a.extra = a.grown ∙ ap (λ xs. xs ++ a.extra) none in
      rw is (holds p roots a.extra r a.only);
}

pub steps : (refs : Thing → List Thing) (roots : List Thing) (next : ℕ) (t : Thing) (old new : Nodes) → slice_get old.found next ≡ Some t → Adds old new (refs t) → Searched refs roots next old → Searched refs roots (next + 1) new
steps refs roots next t old new at a s =
    let lt : next < length old.found = slice_get_within old.found next t at in
    let is : get_or old.found next t ≡ t = get_or_from_slice_get old.found next t t at in
    let length-is : length new.found ≡ length old.found + length a.extra = ap length a.grown ∙ length-append old.found a.extra in
    let front : take (next + 1) new.found ≡ take (next + 1) old.found = ap (take (next + 1)) a.grown ∙ take-append-le (next + 1) old.found a.extra (omega arith) in
    record {
      roots_in = All-weaker (λ u. is_marked old.marks u ≡ true) (λ u. is_marked new.marks u ≡ true) a.kept roots s.roots_in;
      closed = rw front (All-more (λ v. All (λ u. is_marked new.marks u ≡ true) (refs v)) old.found next t lt
          (All-weaker (λ v. All (λ u. is_marked old.marks u ≡ true) (refs v)) (λ v. All (λ u. is_marked new.marks u ≡ true) (refs v)) (λ v h. All-weaker (λ u. is_marked old.marks u ≡ true) (λ u. is_marked new.marks u ≡ true) a.kept (refs v) h) (take next old.found) s.closed)
          (subst (λ v. All (λ u. is_marked new.marks u ≡ true) (refs v)) (sym is) a.has));
      handled = omega (arith, length-is);
      least = λ p r c.
          let before : All (λ v. p v ≡ true) old.found = s.least p r c in
          let here : p t ≡ true = subst (λ v. p v ≡ true) is (All-get_or (λ v. p v ≡ true) old.found next t lt before) in
          subst (λ xs. All (λ v. p v ≡ true) xs) (sym a.grown) (All-append (λ v. p v ≡ true) old.found a.extra before (holds p (refs t) a.extra (c t here) a.only));
    }

pub is_done : (refs : Thing → List Thing) (roots : List Thing) (next : ℕ) (n : Nodes) → length n.found ≤ next → ((t : Thing) → is_marked n.marks t ≡ true → Contains n.found t) → Searched refs roots next n → IsLeast refs roots (is_marked n.marks)
is_done refs roots next n le told s = record {
  roots_in = s.roots_in;
  closed = λ t e. All-contains (λ v. All (λ u. is_marked n.marks u ≡ true) (refs v)) n.found t (subst (λ xs. All (λ v. All (λ u. is_marked n.marks u ≡ true) (refs v)) xs) (take_all next n.found le) s.closed) (told t e);
  least = λ p r c t e. All-contains (λ v. p v ≡ true) n.found t (s.least p r c) (told t e);
}
