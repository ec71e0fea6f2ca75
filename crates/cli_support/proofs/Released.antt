-- What the walks of all setters share: the types that they go through, by the type of the fault, and what a setter ensures by what its step
-- ensures.
use Rattle.std.proofs.Common.{◌≡◌, List, [], ◌∷◌, ℕ, suc, refl, sym, subst, Ok, Err}
use Rattle.std.proofs.result.Result.TheLaws as result_laws
use seplogic.Ra.Ura.{Ura}
use base.Logic.{SProp, ent}
use base.Fml.{Lft, ftrue}
use mir.Syntax.{named, erased, Ty, ty_unit, Local, local, value_local, Callee}
use mir.Val.{Val, WT, has_ty}
use lib.Dec.{T}
use contract.Lifetimes.{Lfts}
use contract.Monad.{Fun}
use contract.Notation.{connectives}
use types.Logic.{Logic}
use denote.Builtin.{RefMutOf}
use denote.Exit.{yes, no, Last, left}
use denote.Laws.{Is}
use denote.Param.Laws.{Laws, of_field, row_shared}
use denote.Param.Shared.{mut_ref_shared}
use denote.RattleType.{RattleType}
use denote.Ref.{NamedLft, MutRef}
use denote.Signature.{Slot, plain, named_lft}
use denote.Struct.Field.{mut_ref_field}
use denote.Struct.Laws.{mut_ref_laws}
use denote.Struct.Members.{Lone}
use denote.Triple.Clauses.{Ended, Clauses, AtExit, closing}
use denote.Triple.End.{Kepts}
use denote.Triple.Spec.{Meets}
use denote.Triple.Entry.{Args, Res}
use Rattle.cli_support.specs.Setting.{released}
use Rattle.std.specs.contracts.result.Result as result_the
use Rattle.cli_support.specs.contracts.bindgen.Bindgen as gen
use Rattle.cli_support.specs.contracts.held.Held as held
use Rattle.cli_support.proofs.bindgen.Bindgen.TheLaws as gen_laws
use Rattle.cli_support.proofs.held.Held.TheLaws as held_laws

-- a parameter of one machine value, of which nothing is said at the end
pub record Given (n : ℕ) : Type 2 where
  pub slot : Slot n
  pub ty : Ty
  pub single : (κs : Lfts n) (x : (slot.row κs).Denot) (vs : List Val) → Is (slot.row κs) x vs → Lone vs
  pub typed : {M : Type 1} {𝓤 : Ura M} (𝓛 : Logic 𝓤) (κs : Lfts n) (x : (slot.row κs).Denot) (v : Val) → Is (slot.row κs) x (v ∷ []) → T (has_ty ty v) × WT v
  pub silent : (κs : Lfts n) (x : (slot.row κs).Denot) (w : Last ((slot.row κs).exit yes) x) → left ((slot.row κs).exit yes) x w ≡ ftrue

-- what holds of each list of one value holds of a list that is one
pub one : (P : List Val → Type 1) (vs : List Val) → Lone vs → ((v : Val) → P (v ∷ [])) → P vs
one P [] l k = absurd l
one P (v ∷ []) l k = k v
one P (v ∷ w ∷ vs) l k = absurd l

-- the local of a type
abbrev pub first : List Ty → Ty
first [] = ty_unit
first (x ∷ xs) = x

abbrev pub held_in : RattleType → Local
held_in R = local (first R.mir) value_local

abbrev pub unnamed : NamedLft
unnamed = record { mir = erased; lft = [] }

-- how a setter refuses: the type of the fault, and the call that lets the generator out
pub record Refusal : Type 2 where
  pub fault : RattleType
  pub laws : Laws fault
  pub release : Callee

-- the generator as a parameter
abbrev pub generator : (m : ℕ) → Slot (suc m)
generator m = RefMutOf (0 ∷ []) tt (plain (λ _. gen.the_row)) (λ _. tt)

module _ (fault : RattleType) where
  abbrev pub held_row : NamedLft → RattleType
  held_row nm = result_the.the_row (held.the_row nm) fault

  abbrev pub answer_row : Lft → RattleType
  answer_row κ = result_the.the_row (MutRef (named 0) κ gen.the_row) fault

  module _ (laws : Laws fault) where
    abbrev pub held_row_laws : (nm : NamedLft) → Laws (held_row nm)
    held_row_laws nm = result_laws.the_row_laws (held.the_row nm) fault (held_laws.the_row_laws nm) laws

    abbrev pub answer_row_laws : (κ : Lft) → Laws (answer_row κ)
    answer_row_laws κ =
        let nm : NamedLft = record { mir = named 0; lft = κ } in
        result_laws.the_row_laws (MutRef (named 0) κ gen.the_row) fault
        (of_field (mut_ref_field nm gen.the_row tt) (mut_ref_laws nm gen.the_row tt) refl (mut_ref_shared nm gen.the_row tt (row_shared gen.the_row gen_laws.the_row_laws))) laws

  -- a call that lets the generator out
  abbrev pub let_out : Ended
  let_out = record {
    signature = record {
      lifetimes = 1;
      outlives = [];
      params = plain (λ κs. held_row (named_lft 1 0 tt κs)) ∷ [];
      result = plain (λ κs. answer_row κs.0);
    };
    kept = (no, tt);
  }

  module _ {M : Type 1} {𝓤 : Ura M} (𝓛 : Logic 𝓤) where
    abbrev pub let_out_clauses : Clauses 𝓤 let_out
    let_out_clauses κs a = record { ghost = Unit {0}; requires = λ _. (connectives 𝓤).⊤ₛ; ensures = λ _ y _. (connectives 𝓤).⌜◌⌝ (y ≡ released a.0) }

    -- what is ensured of an answer that holds the generator is ensured of the generator
    pub passes_on : (κ : Lft) (P : (held_row (record { mir = named 0; lft = κ })).Denot → SProp 𝓤) (Q : (answer_row κ).Denot → SProp 𝓤)
        → ((x : _) → ent 𝓤 (P (Ok x)) (Q (Ok x.at))) → ((e : _) → ent 𝓤 (P (Err e)) (Q (Err e)))
        → (r : (held_row (record { mir = named 0; lft = κ })).Denot) (y : (answer_row κ).Denot) → y ≡ released r → ent 𝓤 (P r) (Q y)
    passes_on κ P Q ok err r y e = subst (λ (z : (answer_row κ).Denot). ent 𝓤 (P r) (Q z)) (sym e) (same r)
      where
        same : (r : (held_row (record { mir = named 0; lft = κ })).Denot) → ent 𝓤 (P r) (Q (released r))
        same (Ok x) = ok x
        same (Err e) = err e

    -- clauses that ask nothing
    abbrev pub Ends : Ended → Type 2
    Ends T = (κs : Lfts T.signature.lifetimes) → Args T.signature κs → Res T.signature κs → AtExit T κs → SProp 𝓤

    abbrev pub asks_none : (T : Ended) → Ends T → Clauses 𝓤 T
    asks_none T e κs a = record { ghost = Unit {0}; requires = λ _. (connectives 𝓤).⊤ₛ; ensures = λ _. e κs a }

  -- a setter with these parameters beside the generator, and its step
  module _ (m : ℕ) (ps : List (Slot (suc m))) (ks : Kepts ps) where
    abbrev pub setter : Ended
    setter = record {
      signature = record { lifetimes = suc m; outlives = []; params = generator m ∷ ps; result = plain (λ κs. answer_row κs.0) };
      kept = (no, ks);
    }

    abbrev pub step_of : Ended
    step_of = record {
      signature = record { lifetimes = suc m; outlives = []; params = generator m ∷ ps; result = plain (λ κs. held_row (named_lft (suc m) 0 tt κs)) };
      kept = (no, ks);
    }

    -- the step meets its contract, what lets out meets its own, and what the step ensures is what the setter ensures
    pub record Known {M : Type 1} {𝓤 : Ura M} (𝓛 : Logic 𝓤) (calls : Callee → Fun 𝓤) (step release : Callee) (fe : Ends 𝓛 setter) (ge : Ends 𝓛 step_of) : Type 2 where
      pub met : Meets 𝓛 step_of.signature (calls step) (closing 𝓛 step_of (asks_none 𝓛 step_of ge))
      pub released_met : Meets 𝓛 let_out.signature (calls release) (closing 𝓛 let_out (let_out_clauses 𝓛))
      pub same_ok : (κs : Lfts (suc m)) (a : Args setter.signature κs) (x : _)
          → ent 𝓤 ((closing 𝓛 step_of (asks_none 𝓛 step_of ge) κs a).ensures tt (Ok x)) ((closing 𝓛 setter (asks_none 𝓛 setter fe) κs a).ensures tt (Ok x.at))
      pub same_err : (κs : Lfts (suc m)) (a : Args setter.signature κs) (e : _)
          → ent 𝓤 ((closing 𝓛 step_of (asks_none 𝓛 step_of ge) κs a).ensures tt (Err e)) ((closing 𝓛 setter (asks_none 𝓛 setter fe) κs a).ensures tt (Err e))
