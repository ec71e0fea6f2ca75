-- The helpers that make functions of closures, and their names.
use Rattle.std.specs.Prelude.{ℕ, List, [], ◌∷◌, codes}
use Rattle.glue_words.specs.declared.item.Item.{Item}
use Rattle.glue_marked.specs.Reads.{words_in}
use Rattle.glue_marked.specs.StandIns.{Names}
use Rattle.glue_helpers.specs.declared.closures.TheConstants as closures
use Rattle.glue_helpers.specs.declared.closures.ClosureHelper.{ClosureHelper}
use Rattle.glue_helpers.specs.declared.closures.ClosureHelper.TheVariants as helper
use Rattle.glue_helpers.specs.Items.{helper_item, named_words}
use Rattle.glue_helpers.specs.TextNames.{TextNames}

abbrev pub closure_key : ClosureHelper → List ℕ
closure_key helper.ClosureFinalization = codes "closure_finalization"
closure_key helper.MakeClosure = codes "make_closure"
closure_key helper.MakeMutClosure = codes "make_mut_closure"

abbrev pub closure_text : ClosureHelper → List ℕ
closure_text helper.ClosureFinalization = closures.CLOSURE_FINALIZATION.now
closure_text helper.MakeClosure = closures.MAKE_CLOSURE.now
closure_text helper.MakeMutClosure = closures.MAKE_MUT_CLOSURE.now

-- the export that destroys a closure, for its stand-in
abbrev pub destroy_export : List ℕ → Names
destroy_export destroy = (codes "$destroy", destroy) ∷ []

abbrev pub closure_item : ClosureHelper → List ℕ → Item
closure_item h destroy =
    helper_item (closure_key h) (named_words [] (destroy_export destroy) (words_in (closure_text h)))

-- the names of a helper, where this is the export that it takes
abbrev pub closure_names : ClosureHelper → List ℕ → TextNames
closure_names helper.ClosureFinalization destroy = record {
  binds = codes "CLOSURE_DTORS" ∷ [];
  uses = codes "wasm" ∷ [];
  hosts = codes "FinalizationRegistry" ∷ [];
  takes = destroy ∷ [];
}
closure_names helper.MakeClosure destroy = record {
  binds = codes "makeClosure" ∷ [];
  uses = codes "wasm" ∷ codes "CLOSURE_DTORS" ∷ [];
  hosts = [];
  takes = destroy ∷ [];
}
closure_names helper.MakeMutClosure destroy = record {
  binds = codes "makeMutClosure" ∷ [];
  uses = codes "wasm" ∷ codes "CLOSURE_DTORS" ∷ [];
  hosts = [];
  takes = destroy ∷ [];
}
