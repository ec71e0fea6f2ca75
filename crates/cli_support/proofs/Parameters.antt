-- How setters refuse, and the parameters that they have beside the generator.
use Rattle.std.proofs.Common.{◌≡◌, [], ◌∷◌, ℕ, refl, sym, subst}
use Rattle.std.proofs.alloc.AllocError.TheLaws as memory_laws
use Rattle.std.proofs.alloc.Global.TheLaws as global_laws
use Rattle.std.proofs.vec.Vec.TheLaws as vec_laws
use Rattle.std.specs.contracts.alloc.AllocError as memory
use Rattle.std.specs.contracts.alloc.Global as global
use Rattle.std.specs.contracts.impls.GlobalAllocator.TheImpl as heap
use Rattle.std.specs.contracts.vec.Vec as vec
use Rattle.wasm_core.proofs.module.Module.TheLaws as module_laws
use Rattle.wasm_core.specs.contracts.module.Module as whole
use mir.Syntax.{named}
use base.Fml.{ftrue}
use denote.Builtin.{bool, u8}
use denote.Exit.{yes, Last, left}
use denote.Laws.{Typed}
use denote.Param.{layout}
use denote.Param.Laws.{Laws, of_field}
use denote.Param.Shared.{copy_shared}
use denote.Plain.{bool_Tells}
use denote.RattleType.{RattleType}
use denote.Signature.{plain}
use denote.Struct.Field.{u8-field}
use denote.Struct.Laws.{bool-laws, u8-laws, u8-copy}
use denote.Struct.Members.{Lone}
use denote.Text.{Str, StrRefOf, str-laws}
use Rattle.cli_support.specs.contracts.fault.SetFault as set
use Rattle.cli_support.specs.contracts.held.release_kept as release_kept
use Rattle.cli_support.specs.contracts.held.release_set as release_set
use Rattle.cli_support.proofs.Released.{Given, Refusal, first}
use Rattle.cli_support.proofs.fault.SetFault.TheLaws as set_laws

-- a fault of a setter
abbrev pub set_fault : Refusal
set_fault = record { fault = set.the_row; laws = set_laws.the_row_laws; release = release_set.Key.name }

-- want of memory
abbrev pub want_of_memory : Refusal
want_of_memory = record { fault = memory.the_row; laws = memory_laws.the_row_laws; release = release_kept.Key.name }

-- a value of a type of which nothing is said at the end
abbrev pub value : (n : ℕ) (R : RattleType) → Laws R → ((x : R.Denot) (w : Last (R.exit yes) x) → left (R.exit yes) x w ≡ ftrue) → Given n
value n R laws silent = record {
  slot = plain (λ _. R);
  ty = layout R;
  single = λ κs. laws.single;
  typed = λ 𝓛 κs x v is. (subst (λ τs. Typed τs (v ∷ [])) laws.one ((laws.lawful 𝓛).typed x (v ∷ []) is)).0;
  silent = λ κs. silent;
}

-- an allocator
abbrev pub allocator : (n : ℕ) → Given n
allocator n = value n global.the_row global_laws.the_row_laws (λ x w. refl)

-- a truth
abbrev pub truth : (n : ℕ) → Given n
truth n = record {
  slot = plain (λ _. bool);
  ty = first bool.mir;
  single = λ κs x vs is. subst Lone (sym (bool_Tells x vs is)) tt;
  typed = λ 𝓛 κs x v is. ((bool-laws.lawful 𝓛).typed x (v ∷ []) is).0;
  silent = λ κs x w. refl;
}

-- a text at the second of two lifetimes
abbrev pub text : Given 2
text = record {
  slot = StrRefOf (1 ∷ []) tt;
  ty = first (Str (named 1) []).mir;
  single = λ κs x vs is. subst Lone (sym ((str-laws (record { mir = named 1; lft = κs.1.0 })).tells x vs is)) tt;
  typed = λ 𝓛 κs x v is. (((str-laws (record { mir = named 1; lft = κs.1.0 })).lawful 𝓛).typed x (v ∷ []) is).0;
  silent = λ κs x w. refl;
}

-- a vector of bytes
abbrev pub bytes : (n : ℕ) → Given n
bytes n = value n (vec.the_row u8 global.the_row heap.ghosts)
    (vec_laws.the_row_laws u8 global.the_row heap.ghosts (of_field u8-field u8-laws refl (copy_shared u8-field u8-copy)) global_laws.the_row_laws) (λ x w. refl)

-- a module
abbrev pub handed_module : (n : ℕ) → Given n
handed_module n = value n whole.the_row module_laws.the_row_laws (λ x w. refl)
