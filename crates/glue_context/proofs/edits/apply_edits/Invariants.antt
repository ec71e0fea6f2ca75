use Rattle.glue_context.proofs.Common.{◌≡◌, ℕ, [], take, fold, Contents, IsLive, with_moved, with_added}
use Rattle.glue_context.proofs.edits.apply_edits.Given as goal

-- nothing but imports and exports changes
abbrev IsSame : Contents → Contents → Type 0
IsSame m n = ◌≡◌ {A = Contents} (record m { imports = []; exports = [] }) (record n { imports = []; exports = [] })

abbrev pub invariant-loop-entry : goal.invariant-loop-entry
invariant-loop-entry l = record {
  moved : l.«module» ≡ fold with_moved l.fn.«module» (take l.entry-index l.edits.imports);
  stand : (k : ℕ) → IsLive l.fn.«module».imports k → IsLive l.«module».imports k;
  same : IsSame l.«module» l.fn.«module»;
}

abbrev pub invariant-loop-added : goal.invariant-loop-added
invariant-loop-added l = record {
  added : l.«module» ≡ fold with_added (fold with_moved l.fn.«module» l.edits.imports) (take l.added-index l.edits.exports);
  same : IsSame l.«module» l.fn.«module»;
}
