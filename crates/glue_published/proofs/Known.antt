-- What is known of things as sets, and what a thing more changes.
use Rattle.std.proofs.Common.{◌≡◌, ℕ, ◌+◌, ◌<◌, List, [], ◌∷◌, length, get_or, drop, refl, sym, ap, ◌∙◌, cond, Bool, true, false, not}
use Rattle.std.proofs.lemmas.List.{at_drop_more}
use Rattle.std.specs.Prelude.{◌&&◌, ◌||◌, is_some, Some}
use Rattle.std.specs.List.{list_any}
use Rattle.std.specs.Ordering.{eq_by_cmp}
use Rattle.std.specs.Cmp.Lexicographic.{nat_list_cmp_total}
use Rattle.std.specs.BTreeMap.{insert_entry}
use Rattle.std.specs.Str.{bytes_eq}
use Rattle.values.specs.Map.{look_up}
use Rattle.values.proofs.Maps.{look_up_inserted}
use Rattle.glue_shared.specs.Paths.{Path}
use Rattle.glue_shared.proofs.Texts.{any_alike}
use Rattle.glue_targets.specs.PublicTree as public
use Rattle.glue_targets.specs.PublicTree.{same_path}
use Rattle.glue_faults.specs.Clash.{first_clash_after}
use Rattle.glue_faults.proofs.Clashes.{flip, same_test}
use Rattle.glue_exports.specs.Fronts.{path_order, runs_through, AreAdded}
use Rattle.glue_exports.proofs.Keys.{is_key_added}
use Rattle.glue_published.specs.declared.things.PublishedThing.{PublishedThing}
use Rattle.glue_published.proofs.Lists.{or_swapped, any_both, any_where, any_swapped, some_or}
use Rattle.glue_published.specs.Sets.{name_order, holds}
use Rattle.glue_published.specs.Clash.{blocks, collide, AreKnown, meets, with_declared}

-- ---- paths, as sets

same_flipped : (path other : Path) → same_path path other ≡ same_path other path
same_flipped [] [] = refl
same_flipped [] (b ∷ other) = refl
same_flipped (a ∷ path) [] = refl
same_flipped (a ∷ path) (b ∷ other) =
    ap (λ s. s && same_path path other) (flip a b) ∙ ap (λ s. bytes_eq b a && s) (same_flipped path other)

-- ---- a thing that meets those that are known

blocked : (e t : PublishedThing) → list_any (λ front. not e.is_reexport && same_path front e.path) (public.fronts t.path) ≡ blocks e t
blocked e t =
    sym (any_where (not e.is_reexport) (λ front. same_path front e.path) (public.fronts t.path))
    ∙ ap (λ b. not e.is_reexport && b) (any_alike (λ front. same_path front e.path) (same_path e.path) (public.fronts t.path) (λ front. same_flipped front e.path))

-- ---- a name or a path more

pub is_name_added : (names : List (List ℕ × Bool)) (name key : List ℕ)
    → holds (insert_entry name_order names key true) name ≡ (bytes_eq name key || holds names name)
is_name_added names name key =
    ap is_some (look_up_inserted name_order nat_list_cmp_total names key true name)
    ∙ some_or (eq_by_cmp name_order name key) true (look_up name_order names name)
    ∙ ap (λ b. b || holds names name) (same_test name key)

is_declared_added : (declared : List (Path × Bool)) (path : Path) (t : PublishedThing)
    → is_some (look_up path_order (with_declared declared t) path) ≡ ((not t.is_reexport && same_path path t.path) || is_some (look_up path_order declared path))
is_declared_added declared path t = at t.is_reexport
  where
    at : (b : Bool) → is_some (look_up path_order (cond b declared (insert_entry path_order declared t.path true)) path) ≡ ((not b && same_path path t.path) || is_some (look_up path_order declared path))
    at true = refl
    at false = is_key_added declared path t.path true

module _ (names : List (List ℕ × Bool)) (declared fronts : List (Path × Bool)) (things : List PublishedThing) (known : AreKnown names declared fronts things) where
  any_declared : (t : PublishedThing) → list_any (λ front. is_some (look_up path_order declared front)) (public.fronts t.path) ≡ list_any (λ e. blocks e t) things
  any_declared t =
      any_alike _ _ (public.fronts t.path) known.declared
      ∙ any_swapped (λ e front. not e.is_reexport && same_path front e.path) things (public.fronts t.path)
      ∙ any_alike _ _ things (λ e. blocked e t)

  -- a thing that meets them collides with one of them
  pub found_collision : (t : PublishedThing) → meets names declared fronts t ≡ list_any (λ e. collide e t) things
  found_collision t =
      ap (λ b. b || (list_any (λ front. is_some (look_up path_order declared front)) (public.fronts t.path) || (not t.is_reexport && is_some (look_up path_order fronts t.path))))
      (known.names t.qualified ∙ any_alike _ (λ e. bytes_eq e.qualified t.qualified) things (λ e. flip t.qualified e.qualified))
      ∙ ap (λ b. list_any (λ e. bytes_eq e.qualified t.qualified) things || (b || (not t.is_reexport && is_some (look_up path_order fronts t.path)))) (any_declared t)
      ∙ ap (λ b. list_any (λ e. bytes_eq e.qualified t.qualified) things || (list_any (λ e. blocks e t) things || (not t.is_reexport && b))) (known.fronts t.path)
      ∙ ap (λ b. list_any (λ e. bytes_eq e.qualified t.qualified) things || (list_any (λ e. blocks e t) things || b)) (any_where (not t.is_reexport) (λ e. runs_through e.path t.path) things)
      ∙ ap (λ b. list_any (λ e. bytes_eq e.qualified t.qualified) things || b) (any_both (λ e. blocks e t) (λ e. blocks t e) things)
      ∙ any_both (λ e. bytes_eq e.qualified t.qualified) (λ e. blocks e t || blocks t e) things

  -- what is known of one thing more
  pub known_more : (t : PublishedThing) (more : List (Path × Bool)) (paths : List Path) → AreAdded fronts paths more → paths ≡ public.fronts t.path
      → AreKnown (insert_entry name_order names t.qualified true) (with_declared declared t) more (t ∷ things)
  known_more t more paths added are = record {
    names = λ name. is_name_added names name t.qualified ∙ ap (λ b. bytes_eq name t.qualified || b) (known.names name);
    declared = λ path. is_declared_added declared path t ∙ ap (λ b. (not t.is_reexport && same_path path t.path) || b) (known.declared path);
    fronts = λ path. added path
        ∙ ap (λ ps. is_some (look_up path_order fronts path) || list_any (same_path path) ps) are
        ∙ ap (λ b. b || runs_through t.path path) (known.fronts path)
        ∙ or_swapped (list_any (λ e. runs_through e.path path) things) (runs_through t.path path);
  }

-- ---- one thing and those behind it

-- the first clash from a place on is the thing there, or one behind it
pub next_clash : (things : List PublishedThing) (place : ℕ) (t : PublishedThing) (passed : List PublishedThing) (b : Bool)
    → place < length things → t ≡ get_or things place t → b ≡ list_any (λ e. collide e t) passed
    → first_clash_after collide passed (drop place things) ≡ cond b (Some t) (first_clash_after collide (t ∷ passed) (drop (place + 1) things))
next_clash things place t passed b within here met =
    at_drop_more (first_clash_after collide passed) things place t within
    ∙ ap (λ x. first_clash_after collide passed (x ∷ drop (place + 1) things)) (sym here)
    ∙ ap (λ b. cond b (Some t) (first_clash_after collide (t ∷ passed) (drop (place + 1) things))) (sym met)
