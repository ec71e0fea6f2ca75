-- The module that is left is the one of the least set.
use Rattle.std.proofs.Common.{◌≡◌, ℕ, zero, suc, ◌+◌, List, [], ◌∷◌, ◌++◌, map, Bool, true, true≢false, refl, sym, ap, subst, inl, inr, arith}
use Rattle.std.specs.Prelude.{Option, Some, None, is_some}
use Rattle.std.specs.List.{filter}
use Rattle.values.specs.Lists.{IsIn}
use Rattle.values.proofs.Members.{in_left, in_right}
use Rattle.wasm_file.specs.declared.entries.ExportItem.{ExportItem}
use Rattle.wasm_reach.specs.declared.things.Thing.{Thing}
use Rattle.wasm_reach.specs.declared.things.Thing.TheVariants as things
use Rattle.wasm_reach.specs.Reached.{is_reached}
use Rattle.wasm_reach.proofs.Reached.{reached_least, passes_filter}
use Rattle.wasm_core.specs.Contents.{Contents}
use Rattle.wasm_core.specs.Remainder.{remainder}
use Rattle.wasm_collect.specs.Reach.{entry_at, stands, places, refs, names, root_names, IsReached, IsCollected}
use Rattle.wasm_collect.specs.Collected.{all_things, collected}
use Rattle.wasm_collect.proofs.Kept.{collected_is_one}

-- an entry's place is among the places
place_in : {A : Type 0} (xs : List (Option A)) (from i : ℕ) → is_some (entry_at xs i) ≡ true → IsIn (from + i) (places (λ _. true) from xs)
unfolding places
place_in [] from i h = absurd (true≢false (sym h))
place_in (None ∷ xs) from zero h = absurd (true≢false (sym h))
place_in (Some x ∷ xs) from zero h = let here : from + 0 ≡ from = omega arith in inl here
place_in (None ∷ xs) from (suc i) h =
    let next : from + 1 + i ≡ from + suc i = omega arith in
    subst (λ (k : ℕ). IsIn k (places (λ _. true) (from + 1) xs)) next (place_in xs (from + 1) i h)
place_in (Some x ∷ xs) from (suc i) h =
    let next : from + 1 + i ≡ from + suc i = omega arith in
    inr (subst (λ (k : ℕ). IsIn k (places (λ _. true) (from + 1) xs)) next (place_in xs (from + 1) i h))

mapped_in : (f : ℕ → Thing) (i : ℕ) (xs : List ℕ) → IsIn i xs → IsIn (f i) (map f xs)
mapped_in f i [] h = absurd h
mapped_in f i (x ∷ xs) (inl same) = inl (ap f same)
mapped_in f i (x ∷ xs) (inr h) = inr (mapped_in f i xs h)

thing_in : {A : Type 0} (f : ℕ → Thing) (xs : List (Option A)) (i : ℕ) → is_some (entry_at xs i) ≡ true → IsIn (f i) (map f (places (λ _. true) 0 xs))
thing_in f xs i h =
    let here : 0 + i ≡ i = omega arith in
    mapped_in f i (places (λ _. true) 0 xs) (subst (λ (k : ℕ). IsIn k (places (λ _. true) 0 xs)) here (place_in xs 0 i h))

module _ (m : Contents) where
  abbrev types : List Thing
  types = map things.Type (places (λ _. true) 0 m.types)

  abbrev funcs : List Thing
  funcs = map things.Func (places (λ _. true) 0 m.funcs)

  abbrev tables : List Thing
  tables = map things.Table (places (λ _. true) 0 m.tables)

  abbrev memories : List Thing
  memories = map things.Memory (places (λ _. true) 0 m.memories)

  abbrev globals : List Thing
  globals = map things.Global (places (λ _. true) 0 m.globals)

  abbrev tags : List Thing
  tags = map things.Tag (places (λ _. true) 0 m.tags)

  abbrev elems : List Thing
  elems = map things.Elem (places (λ _. true) 0 m.elems)

  abbrev segments : List Thing
  segments = map things.Segment (places (λ _. true) 0 m.segments)

  -- what stands in its place is among the things
  stands_in : (t : Thing) → stands m t ≡ true → IsIn t (all_things m)
  stands_in (things.Type i) h = in_left (things.Type i) types (funcs ++ (tables ++ (memories ++ (globals ++ (tags ++ (elems ++ segments)))))) (thing_in things.Type m.types i h)
  stands_in (things.Func i) h =
      in_right (things.Func i) types (funcs ++ (tables ++ (memories ++ (globals ++ (tags ++ (elems ++ segments))))))
      (in_left (things.Func i) funcs (tables ++ (memories ++ (globals ++ (tags ++ (elems ++ segments))))) (thing_in things.Func m.funcs i h))
  stands_in (things.Table i) h =
      in_right (things.Table i) types (funcs ++ (tables ++ (memories ++ (globals ++ (tags ++ (elems ++ segments))))))
      (in_right (things.Table i) funcs (tables ++ (memories ++ (globals ++ (tags ++ (elems ++ segments)))))
      (in_left (things.Table i) tables (memories ++ (globals ++ (tags ++ (elems ++ segments)))) (thing_in things.Table m.tables i h)))
  stands_in (things.Memory i) h =
      in_right (things.Memory i) types (funcs ++ (tables ++ (memories ++ (globals ++ (tags ++ (elems ++ segments))))))
      (in_right (things.Memory i) funcs (tables ++ (memories ++ (globals ++ (tags ++ (elems ++ segments)))))
      (in_right (things.Memory i) tables (memories ++ (globals ++ (tags ++ (elems ++ segments))))
      (in_left (things.Memory i) memories (globals ++ (tags ++ (elems ++ segments))) (thing_in things.Memory m.memories i h))))
  stands_in (things.Global i) h =
      in_right (things.Global i) types (funcs ++ (tables ++ (memories ++ (globals ++ (tags ++ (elems ++ segments))))))
      (in_right (things.Global i) funcs (tables ++ (memories ++ (globals ++ (tags ++ (elems ++ segments)))))
      (in_right (things.Global i) tables (memories ++ (globals ++ (tags ++ (elems ++ segments))))
      (in_right (things.Global i) memories (globals ++ (tags ++ (elems ++ segments)))
      (in_left (things.Global i) globals (tags ++ (elems ++ segments)) (thing_in things.Global m.globals i h)))))
  stands_in (things.Tag i) h =
      in_right (things.Tag i) types (funcs ++ (tables ++ (memories ++ (globals ++ (tags ++ (elems ++ segments))))))
      (in_right (things.Tag i) funcs (tables ++ (memories ++ (globals ++ (tags ++ (elems ++ segments)))))
      (in_right (things.Tag i) tables (memories ++ (globals ++ (tags ++ (elems ++ segments))))
      (in_right (things.Tag i) memories (globals ++ (tags ++ (elems ++ segments)))
      (in_right (things.Tag i) globals (tags ++ (elems ++ segments))
      (in_left (things.Tag i) tags (elems ++ segments) (thing_in things.Tag m.tags i h))))))
  stands_in (things.Elem i) h =
      in_right (things.Elem i) types (funcs ++ (tables ++ (memories ++ (globals ++ (tags ++ (elems ++ segments))))))
      (in_right (things.Elem i) funcs (tables ++ (memories ++ (globals ++ (tags ++ (elems ++ segments)))))
      (in_right (things.Elem i) tables (memories ++ (globals ++ (tags ++ (elems ++ segments))))
      (in_right (things.Elem i) memories (globals ++ (tags ++ (elems ++ segments)))
      (in_right (things.Elem i) globals (tags ++ (elems ++ segments))
      (in_right (things.Elem i) tags (elems ++ segments)
      (in_left (things.Elem i) elems segments (thing_in things.Elem m.elems i h)))))))
  stands_in (things.Segment i) h =
      in_right (things.Segment i) types (funcs ++ (tables ++ (memories ++ (globals ++ (tags ++ (elems ++ segments))))))
      (in_right (things.Segment i) funcs (tables ++ (memories ++ (globals ++ (tags ++ (elems ++ segments)))))
      (in_right (things.Segment i) tables (memories ++ (globals ++ (tags ++ (elems ++ segments))))
      (in_right (things.Segment i) memories (globals ++ (tags ++ (elems ++ segments)))
      (in_right (things.Segment i) globals (tags ++ (elems ++ segments))
      (in_right (things.Segment i) tags (elems ++ segments)
      (in_right (things.Segment i) elems segments (thing_in things.Segment m.segments i h)))))))

  -- the module that is left keeps the least set
  pub collected_is : (roots : List ExportItem) → IsCollected m roots (collected roots m)
  unfolding collected
  collected_is roots =
      let from = filter (stands m) (root_names m roots) in record {
        kept = λ t. is_reached (all_things m) (refs m) from t;
        reached = reached_least (all_things m) (refs m) from (λ t i. stands_in t (passes_filter (stands m) t (root_names m roots) i)) (λ t u i. stands_in u (passes_filter (stands m) u (names m t) i));
        is_rest = refl;
      }

-- what is left of the reached things is that module
pub left_is : (m : Contents) (roots : List ExportItem) (kept : Thing → Bool) (left : Contents) → IsReached m roots kept → left ≡ remainder kept m → left ≡ collected roots m
left_is m roots kept left reached is = collected_is_one m roots left (collected roots m) (record { kept = kept; reached = reached; is_rest = is }) (collected_is m roots)
