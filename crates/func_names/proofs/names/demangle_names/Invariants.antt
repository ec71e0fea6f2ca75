use Rattle.std.proofs.Common.{◌≡◌, ◌++◌, [], length, take, drop}
use Rattle.func_names.specs.Numbered.{renamed, without_names}
use Rattle.func_names.proofs.names.demangle_names.Given as goal

abbrev pub invariant-loop-place : goal.invariant-loop-place
invariant-loop-place l = record {
  named : take l.place l.«module».funcs ++ renamed l.uses (drop l.place l.«module».funcs) ≡ renamed [] l.fn.«module».funcs;
  same : l.«module» ≡ record l.fn.«module» { funcs = l.«module».funcs };
  as_long : length l.«module».funcs ≡ length l.fn.«module».funcs;
  left : without_names l.«module» ≡ without_names l.fn.«module»;
}
