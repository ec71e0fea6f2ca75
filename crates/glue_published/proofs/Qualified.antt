-- Things of one path have one qualified name.
use Rattle.std.proofs.Common.{◌≡◌, ℕ, List, [], ◌∷◌, ◌++◌, map, refl, sym, ap, ◌∙◌, cond, Bool, true, false, not, true≢false}
use Rattle.std.specs.Prelude.{◌||◌, codes, Some}
use Rattle.std.specs.List.{list_any, flat_map, AllByRecursion}
use Rattle.std.specs.Str.{bytes_eq}
use Rattle.std.proofs.lemmas.Slice.Eq.{bytes_eq-Decides}
use Rattle.values.proofs.Same.{texts_decided}
use Rattle.glue_shared.specs.Paths.{Path, qualified_name}
use Rattle.glue_shared.specs.declared.aux.AuxExport.{AuxExport}
use Rattle.glue_shared.specs.declared.aux.WasmBindgenAux.{WasmBindgenAux}
use Rattle.glue_shared.specs.declared.settings.Settings.{Settings}
use Rattle.glue_targets.specs.PublicTree.{same_path}
use Rattle.glue_faults.specs.Clash.{first_clash_after, first_clash}
use Rattle.glue_published.specs.declared.things.PublishedThing.{PublishedThing}
use Rattle.glue_published.specs.Things.{thing_at, stands_alone, export_things, class_thing, enum_thing, reexport_thing, reset_thing, has_reset, reset_things, published_things}
use Rattle.glue_published.specs.Clash.{collide, clash}

-- ---- the qualified name of a path

joined : Path → List ℕ
joined [] = []
joined (segment ∷ []) = segment
joined (segment ∷ next ∷ path) = segment ++ (codes "__" ++ joined (next ∷ path))

name_joined : (namespace : Path) (name : List ℕ) → qualified_name namespace name ≡ joined (namespace ++ name ∷ [])
unfolding joined
name_joined [] name = refl
name_joined (segment ∷ []) name = refl
name_joined (segment ∷ next ∷ namespace) name = ap (λ rest. segment ++ (codes "__" ++ rest)) (name_joined (next ∷ namespace) name)

abbrev IsNamed : PublishedThing → Type 0
IsNamed t = t.qualified ≡ joined t.path

abbrev AreNamed : List PublishedThing → Type 0
AreNamed things = AllByRecursion IsNamed things

named_at : (namespace : Path) (name : List ℕ) (is_reexport is_private : Bool) → IsNamed (thing_at namespace name is_reexport is_private)
named_at namespace name is_reexport is_private = name_joined namespace name

both_named : (xs ys : List PublishedThing) → AreNamed xs → AreNamed ys → AreNamed (xs ++ ys)
both_named [] ys h k = k
both_named (x ∷ xs) ys h k = (h.0, both_named xs ys h.1 k)

map_named : {A : Type 0} (f : A → PublishedThing) → ((x : A) → IsNamed (f x)) → (xs : List A) → AreNamed (map f xs)
map_named f h [] = tt
map_named f h (x ∷ xs) = (h x, map_named f h xs)

export_named : (e : AuxExport) (b : Bool) → AreNamed (cond b (thing_at e.namespace e.name false false ∷ []) [])
export_named e true = (named_at e.namespace e.name false false, tt)
export_named e false = tt

exports_named : (exports : List AuxExport) → AreNamed (flat_map export_things exports)
exports_named [] = tt
exports_named (e ∷ exports) = both_named (export_things e) (flat_map export_things exports) (export_named e (stands_alone e.kind)) (exports_named exports)

reset_named : (settings : Settings) (b : Bool) → AreNamed (cond b (reset_thing settings ∷ []) [])
reset_named settings true = (named_at [] (codes "__wbg_reset_state") false (not settings.reset_state), tt)
reset_named settings false = tt

all_named : (settings : Settings) (aux : WasmBindgenAux) → AreNamed (published_things settings aux)
all_named settings aux =
    both_named (flat_map export_things aux.exports) _ (exports_named aux.exports)
    (both_named (map class_thing aux.structs) _ (map_named class_thing (λ c. named_at c.namespace c.name false c.private) aux.structs)
    (both_named (map enum_thing aux.enums) _ (map_named enum_thing (λ e. named_at e.namespace e.name false e.private) aux.enums)
    (both_named (map reexport_thing aux.reexports) (reset_things settings aux) (map_named reexport_thing (λ r. named_at [] r.0 true false) aux.reexports)
    (reset_named settings (has_reset settings aux)))))

-- ---- clashes

covered : (a b c : Bool) → (a ≡ true → b ≡ true) → (a || (b || c)) ≡ (b || c)
covered true true c h = refl
covered true false c h = absurd (true≢false (sym (h refl)))
covered false b c h = refl

-- what clashes collides
clash_is : (earlier later : PublishedThing) → IsNamed earlier → IsNamed later → collide earlier later ≡ clash earlier later
clash_is earlier later first second =
    sym (covered (same_path earlier.path later.path) (bytes_eq earlier.qualified later.qualified) _ (λ same.
    (bytes_eq-Decides earlier.qualified later.qualified).1 (first ∙ ap joined ((texts_decided earlier.path later.path).0 same) ∙ sym second)))

any_clash : (before : List PublishedThing) (t : PublishedThing) → AreNamed before → IsNamed t
    → list_any (λ earlier. collide earlier t) before ≡ list_any (λ earlier. clash earlier t) before
any_clash [] t h named = refl
any_clash (e ∷ before) t h named =
    ap (λ b. b || list_any (λ earlier. collide earlier t) before) (clash_is e t h.0 named)
    ∙ ap (λ b. clash e t || b) (any_clash before t h.1 named)

first_is : (before things : List PublishedThing) → AreNamed before → AreNamed things → first_clash_after collide before things ≡ first_clash_after clash before things
first_is before [] h k = refl
first_is before (t ∷ things) h k =
    ap (λ b. cond b (Some t) (first_clash_after collide (t ∷ before) things)) (any_clash before t h k.0)
    ∙ ap (λ o. cond (list_any (λ earlier. clash earlier t) before) (Some t) o) (first_is (t ∷ before) things (k.0, h) k.1)

-- the first of the things that collides with an earlier one is the first that clashes with one
pub by_name : (settings : Settings) (aux : WasmBindgenAux) → first_clash collide (published_things settings aux) ≡ first_clash clash (published_things settings aux)
by_name settings aux = first_is [] (published_things settings aux) tt (all_named settings aux)
