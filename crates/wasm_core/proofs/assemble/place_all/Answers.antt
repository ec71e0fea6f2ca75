use Rattle.std.proofs.Common.{◌≡◌, ℕ, List, ◌++◌, map, take, drop, ap, sym, ◌∙◌, append_assoc, take-append-drop}
use Rattle.std.proofs.lemmas.List.{map-append}
use Rattle.std.proofs.lemmas.Result.{on_ok_weaker}
use Rattle.wasm_core.proofs.assemble.place_all.Goals as goal

halves : {A B : Type 0} (f : A → B) (front : List B) (h : ℕ) (xs : List A) → (front ++ map f (take h xs)) ++ map f (drop h xs) ≡ front ++ map f xs
halves f front h xs = append_assoc front (map f (take h xs)) (map f (drop h xs)) ∙ ap (λ l. front ++ l) (sym (map-append f (take h xs) (drop h xs)) ∙ ap (λ l. map f l) (take-append-drop h xs))

placed : {A B : Type 0} (f : A → B) (old mid new : List B) (h : ℕ) (all xs first second : List A) → all ≡ xs → first ≡ take h all → second ≡ drop h all → mid ≡ old ++ map f first → new ≡ mid ++ map f second → new ≡ old ++ map f xs
placed f old mid new h all xs first second same is rest one two = rw (two, one, is, rest, same) (halves f old h xs)

pub returns : goal.returns
returns g c = on_ok_weaker c.place_each-2.result (λ last. placed _ _ _ _ _ _ _ _ _ c.into_vec-first.ensures (c.shrink_to_fit.ensures.items ∙ c.in_ok-second.ensures.items) c.in_ok-second.ensures.tail c.in_ok-place_each.ensures last) c.place_each-2.ensures
