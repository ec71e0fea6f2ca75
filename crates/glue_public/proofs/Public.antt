-- The items of a description's tree publish exactly the public tree of the description.
use Rattle.std.proofs.Common.{List, [], sym, subst}
use Rattle.std.specs.Prelude.{map}
use Rattle.values.specs.Lists.{IsIn}
use Rattle.glue_words.specs.declared.item.Item.{Item}
use Rattle.glue_shared.specs.declared.aux.WasmBindgenAux.{WasmBindgenAux}
use Rattle.glue_shared.specs.declared.name_map.NameMap.{NameMap}
use Rattle.glue_shared.specs.declared.settings.Settings.{Settings}
use Rattle.glue_targets.specs.PublicTree as public
use Rattle.glue_targets.specs.PublicTree.{PublicPair}
use Rattle.glue_exports.specs.Tree.{Entry}
use Rattle.glue_exports.specs.Sound.{AreSound, ArePublished, own_pairs}
use Rattle.glue_exports.proofs.Pairs.{with_groups, each_with, own_in, group_in}
use Rattle.glue_public.specs.Described.{FunctionItems, described, entry_of, ArePut}
use Rattle.glue_public.specs.Public.{IsCovered, ArePublic}
use Rattle.glue_public.proofs.Put.{all_sound, pairs_among}
use Rattle.glue_public.proofs.Entries.{was_put, is_put}
use Rattle.glue_public.proofs.Pairs.{described_pairs}
use Rattle.glue_public.proofs.Sound.{described_sound, each_sound}

-- the same pairs have the same namespaces
same_groups : (some others : List PublicPair) → ((pair : PublicPair) → IsIn pair some → IsIn pair others)
    → ((pair : PublicPair) → IsIn pair others → IsIn pair some) → (pair : PublicPair) → IsIn pair (with_groups some)
    → IsIn pair (with_groups others)
same_groups some others there back =
    each_with (λ p. IsIn p (with_groups others)) some (λ p i. own_in others p (there p i))
    (λ front g.
    group_in others front (record {
      owner = g.owner;
      owned = there g.owner g.owned;
      runs = g.runs;
      free = λ other i e. g.free other (back other i) e;
    }))

module _ (aux : WasmBindgenAux) (given : NameMap) (functions : List FunctionItems) (tree : List Entry)
    (put : ArePut (described aux given functions) [] tree) (settings : Settings) (covered : IsCovered settings aux functions) where
  -- what stands in the tree is declared
  pub tree_sound : AreSound tree
  tree_sound =
      all_sound tree (λ e i.
      each_sound (map entry_of (described aux given functions)) e (described_sound aux given functions covered.declared) (was_put aux given functions tree put e i))

  there : (pair : PublicPair) → IsIn pair (own_pairs tree) → IsIn pair (public.own_pairs settings aux)
  there pair i =
      subst (IsIn pair) (described_pairs aux given functions settings covered)
      (pairs_among tree (map entry_of (described aux given functions)) (was_put aux given functions tree put) pair i)

  back : (pair : PublicPair) → IsIn pair (public.own_pairs settings aux) → IsIn pair (own_pairs tree)
  back pair i =
      pairs_among (map entry_of (described aux given functions)) tree (is_put aux given functions tree put) pair
      (subst (IsIn pair) (sym (described_pairs aux given functions settings covered)) i)

  -- items that publish the tree publish that of the description
  pub public_items : (items : List Item) → (AreSound tree → ArePublished tree items) → ArePublic settings aux items
  public_items items published =
      let p = published tree_sound in
      record {
        only = λ pair i. same_groups (own_pairs tree) (public.own_pairs settings aux) there back pair (p.only pair i);
        all = λ pair i. p.all pair (same_groups (public.own_pairs settings aux) (own_pairs tree) back there pair i);
        once = p.once;
      }
