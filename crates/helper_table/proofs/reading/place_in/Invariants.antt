use Rattle.std.proofs.Common.{ℕ, ◌<◌, ◌≢◌, [], map}
use Rattle.std.specs.Prelude.{slice_index_or}
use Rattle.helper_table.proofs.reading.place_in.Given as goal

abbrev pub invariant-loop-place : goal.invariant-loop-place
invariant-loop-place l = (p : ℕ) → p < l.place → l.text ≢ slice_index_or (map (λ t. t.now) l.texts) p []
