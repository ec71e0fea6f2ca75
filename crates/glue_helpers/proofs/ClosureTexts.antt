-- The helpers that make functions of closures: their texts are read, their names, and where they fit.
use Rattle.std.proofs.Common.{◌≡◌, ℕ, List, [], refl, true}
use Rattle.std.specs.Prelude.{codes, is_ok}
use Rattle.glue_words.specs.Facts.{facts}
use Rattle.glue_words.specs.Linking.{AreAmong}
use Rattle.glue_words.proofs.Belonging.{Context}
use Rattle.glue_words.proofs.Fitting.{Fits}
use Rattle.glue_marked.specs.Marked.{read_marked}
use Rattle.glue_marked.specs.Reads.{words_in}
use Rattle.glue_marked.proofs.Reading.{reading}
use Rattle.glue_helpers.specs.declared.closures.ClosureHelper.{ClosureHelper}
use Rattle.glue_helpers.specs.declared.closures.ClosureHelper.TheVariants as helper
use Rattle.glue_helpers.specs.Closures.{closure_text, destroy_export, closure_item, closure_names}
use Rattle.glue_helpers.specs.Items.{named_words}
use Rattle.glue_helpers.proofs.Telling.{Tells, Holds, named_holds, named_fits}

pub closure_reads : (h : ClosureHelper) → is_ok (read_marked (closure_text h)) ≡ true
unfolding reading
closure_reads helper.ClosureFinalization = refl
closure_reads helper.MakeClosure = refl
closure_reads helper.MakeMutClosure = refl

closure_tells : (h : ClosureHelper) → Tells (words_in (closure_text h)) (closure_names h (codes "$destroy"))
unfolding reading
closure_tells helper.ClosureFinalization = refl
closure_tells helper.MakeClosure = refl
closure_tells helper.MakeMutClosure = refl

module _ (destroy : List ℕ) where
  pub closure_holds : (h : ClosureHelper) → Holds (closure_item h destroy).words (closure_names h destroy)
  unfolding named_words
  closure_holds helper.ClosureFinalization =
      named_holds (words_in (closure_text helper.ClosureFinalization)) (closure_names helper.ClosureFinalization (codes "$destroy"))
      (closure_tells helper.ClosureFinalization) [] (destroy_export destroy)
  closure_holds helper.MakeClosure =
      named_holds (words_in (closure_text helper.MakeClosure)) (closure_names helper.MakeClosure (codes "$destroy"))
      (closure_tells helper.MakeClosure) [] (destroy_export destroy)
  closure_holds helper.MakeMutClosure =
      named_holds (words_in (closure_text helper.MakeMutClosure)) (closure_names helper.MakeMutClosure (codes "$destroy"))
      (closure_tells helper.MakeMutClosure) [] (destroy_export destroy)

  pub closure_fits : (h : ClosureHelper) (c : Context) → AreAmong (closure_names h destroy).uses c.declared
      → AreAmong (closure_names h destroy).hosts c.hosts → AreAmong (closure_names h destroy).takes c.exports
      → Fits c (facts (closure_item h destroy).words)
  unfolding reading named_words
  closure_fits helper.ClosureFinalization c uses hosts takes =
      named_fits (words_in (closure_text helper.ClosureFinalization)) (closure_names helper.ClosureFinalization (codes "$destroy"))
      (closure_tells helper.ClosureFinalization) [] (destroy_export destroy) c refl refl refl uses hosts takes
  closure_fits helper.MakeClosure c uses hosts takes =
      named_fits (words_in (closure_text helper.MakeClosure)) (closure_names helper.MakeClosure (codes "$destroy"))
      (closure_tells helper.MakeClosure) [] (destroy_export destroy) c refl refl refl uses hosts takes
  closure_fits helper.MakeMutClosure c uses hosts takes =
      named_fits (words_in (closure_text helper.MakeMutClosure)) (closure_names helper.MakeMutClosure (codes "$destroy"))
      (closure_tells helper.MakeMutClosure) [] (destroy_export destroy) c refl refl refl uses hosts takes
