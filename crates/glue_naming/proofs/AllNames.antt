-- The maps of names that are drawn, with that of the items of the module.
use Rattle.std.proofs.Common.{◌≡◌, List, [], ◌∷◌, refl, ap, ◌∙◌, subst}
use Rattle.std.specs.Prelude.{ℕ}
use Rattle.values.specs.TextSet.{TextSet}
use Rattle.wasm_core.specs.entries.ExportItem.{ExportItem}
use Rattle.glue_shared.specs.declared.description.Lowered.{Lowered}
use Rattle.glue_shared.specs.declared.name_map.NameMap.{NameMap}
use Rattle.glue_shared.specs.declared.settings.Settings.{Settings}
use Rattle.glue_shared.specs.NameMap.{no_names}
use Rattle.taken_items.specs.ItemNames.{item_map, item_names}
use Rattle.glue_naming.specs.Drawing.{AreGood, IsDrawnMap, map_of, put_name}
use Rattle.glue_naming.specs.Given.{reserved_names}
use Rattle.glue_naming.specs.Naming.{AreNames}
use Rattle.glue_naming.specs.Wanted.{AreWanted}
use Rattle.glue_naming.specs.declared.named.Named.{Named}
use Rattle.glue_naming.specs.declared.named.Named.TheVariants as things
use Rattle.glue_naming.specs.declared.named.Wanted.{Wanted}

-- a name that is drawn is no item's
put_wasm : (m : NameMap) (thing : Named) (name : List ℕ) → (put_name m thing name).wasm ≡ m.wasm
put_wasm m (things.Class key) name = refl
put_wasm m (things.Registry key) name = refl
put_wasm m (things.Enum key) name = refl
put_wasm m (things.Import key) name = refl
put_wasm m (things.Function key) name = refl
put_wasm m (things.Namespace key) name = refl

map_wasm : (m : NameMap) (list : List Wanted) (names : List (List ℕ)) → (map_of m list names).wasm ≡ m.wasm
map_wasm m [] names = refl
map_wasm m (w ∷ list) [] = refl
map_wasm m (w ∷ list) (name ∷ names) = map_wasm (put_name m w.thing name) list names ∙ put_wasm m w.thing name

pub are_names : (s : Settings) (l : Lowered) (list : List Wanted) (bound : TextSet) (drawn_for : List Wanted) (m : NameMap)
    (items : List (ExportItem × List ℕ)) → AreWanted s l list → bound ≡ reserved_names s l → drawn_for ≡ list → IsDrawnMap bound drawn_for m
    → AreGood bound drawn_for m → items ≡ item_map (item_names s l) → AreNames s l (record m { wasm = items })
are_names s l list bound drawn_for m items wanted reserved is drawn good map_is =
    let none : m.wasm ≡ [] = ap (λ (n : NameMap). n.wasm) drawn.filled ∙ map_wasm no_names drawn_for drawn.names in
    let same : m ≡ record m { wasm = [] } = ap (λ (w : List (ExportItem × List ℕ)). record m { wasm = w }) none in record {
      list = list;
      wanted = wanted;
      drawn = subst (λ (b : TextSet). IsDrawnMap b list (record m { wasm = [] })) reserved
          (subst (λ (ws : List Wanted). IsDrawnMap bound ws (record m { wasm = [] })) is (subst (IsDrawnMap bound drawn_for) same drawn));
      good = subst (λ (b : TextSet). AreGood b list (record m { wasm = [] })) reserved
          (subst (λ (ws : List Wanted). AreGood bound ws (record m { wasm = [] })) is (subst (AreGood bound drawn_for) same good));
      items = map_is;
    }
