-- A setter that may refuse lets the generator out of what its step holds, which rests where that says it does: a walk for setters of one
-- parameter beside the generator, one for those of two, and one for those of three, whatever these are and whatever refuses. By hand,
-- since the borrow checker proves no clause on the end of a `&mut` that the answer may be.
use Rattle.std.proofs.Common.{◌≡◌, List, [], ◌∷◌, ℕ, suc, refl, sym, subst}
use Rattle.std.proofs.raw_atomic.Walks.{proved_at, leaves}
use seplogic.Ra.Ura.{Ura}
use base.Logic.{id⊢, ent}
use base.Fml.{ftrue, flft}
use mir.Syntax.{named, erased, local, value_local, assign, addr_of, rv_opd, deref, seq, call, copy, place, return, Fn, Callee}
use mir.Val.{Val}
use prog.Model.{Model}
use prog.Wp.{Closed, WpFn}
use contract.Lifetimes.{Lfts, toks}
use contract.Monad.{fact}
use contract.Running.{Running, MachineTables, tables}
use types.Logic.{Logic}
use types.Kit.{‵, raw, ◌⊛◌, some, later, ◌$◌, ◌∵◌, !, qed, done, move, drop, use1, use2, split, join, pick, await, suffices}
use types.Run.{enter, of_opd, addr, stop, no_more, and_then, returns}
use types.ByLocal.{alloc_all, pass_all, free_all, look_at, get, through, sets, lands_as}
use denote.Exit.{yes, no}
use denote.Laws.{Are, Ises, shows}
use denote.Ref.{MutRef, mut_vals, mut_Tells}
use denote.Signature.{Slot, plain, types_at, named_lft}
use denote.Steps.{nothing, heard, peeks}
use denote.Triple.Call.{calls_at}
use denote.Triple.Clauses.{Ended, Lasts, lasts, at_exit, closing}
use denote.Triple.Spec.{Meets, triple_of}
use denote.Triple.Table.{framed}
use denote.Triple.Walked.{Stays, walk_of, stay_dropped, Goes-dropped, Goes-spent_ref}
use Rattle.cli_support.specs.Setting.{released}
use Rattle.cli_support.specs.contracts.bindgen.Bindgen as gen
use Rattle.cli_support.proofs.Released.{Given, Refusal, one, first, held_in, unnamed, held_row, answer_row, held_row_laws, answer_row_laws, let_out, let_out_clauses, passes_on, Ends, asks_none, generator, setter, step_of, Known}

-- ---- one parameter

module _ (m : ℕ) (refusal : Refusal) (A : Given (suc m)) where
  abbrev single_slots : List (Slot (suc m))
  single_slots = A.slot ∷ []

  abbrev single_setter : Ended
  single_setter = setter refusal.fault m single_slots (yes, tt)

  abbrev single_step : Ended
  single_step = step_of refusal.fault m single_slots (yes, tt)

  abbrev single_stayed : Stays (generator m ∷ single_slots) (no, (yes, tt))
  single_stayed = (stay_dropped (generator m) no, (stay_dropped A.slot yes, tt))

  -- the code of such a setter, by the name of its step
  abbrev single_code : Callee → Fn
  single_code step = record {
    lifetimes = suc m;
    outlives = [];
    ty_params = [];
    givens = 0;
    params = 2;
    locals = held_in (answer_row refusal.fault []) ∷ held_in (MutRef (named 0) [] gen.the_row) ∷ local A.ty value_local
        ∷ held_in (held_row refusal.fault unnamed) ∷ held_in (MutRef erased [] gen.the_row) ∷ [];
    body = seq (assign (place 4 []) (addr_of (place 1 (deref (first gen.the_row.mir) ∷ []))))
        (seq (call step (copy (place 4 []) ∷ copy (place 2 []) ∷ []) (place 3 [])) (seq (call refusal.release (copy (place 3 []) ∷ []) (place 0 [])) return));
  }

  module _ {M : Type 1} {𝓤 : Ura M} (𝓛 : Logic 𝓤) (𝓜 : Model 𝓤 𝓛.H) (𝓡 : Running 𝓤 𝓛.H 𝓜) where
    abbrev single_tables : MachineTables 𝓤 𝓛.H 𝓜
    single_tables = tables 𝓤 𝓛.H 𝓜 𝓡 𝓡.env

    pub single_met : (name step : Callee) (fe : Ends refusal.fault 𝓛 single_setter) (ge : Ends refusal.fault 𝓛 single_step)
        → Closed 𝓤 𝓛.H single_tables.C single_tables.Λ name (single_code step)
        → Known refusal.fault m single_slots (yes, tt) 𝓛 single_tables.C step refusal.release fe ge
        → Meets 𝓛 single_setter.signature (single_tables.C name) (closing 𝓛 single_setter (asks_none refusal.fault 𝓛 single_setter fe))
    single_met name step fe ge closed known =
        let 𝓣 = single_tables in
        let F = single_setter in
        let S = single_step in
        let c = asks_none refusal.fault 𝓛 F fe in
        let gs = closing 𝓛 S (asks_none refusal.fault 𝓛 S ge) in
        let W = walk_of 𝓛 F single_stayed c in
        let code = single_code step in
        proved_at 𝓛 F single_stayed c 𝓜 𝓡
        (Goes-spent_ref 𝓛 (suc m) (0 ∷ []) tt (plain (λ _. gen.the_row)), (Goes-dropped 𝓛 (suc m) A.slot yes A.silent, tt))
        name code closed (λ y.
        let κs = y.0.0 in let qs = y.0.1 in let bounds = y.0.2 in let a = y.0.3 in let vss = y.0.4 in
        let Rs = types_at F.signature.params κs in
        let On : List Val → List Val → Type 1 = λ p k.
        Are Rs (Ises Rs) a (p, (k, tt)) →
        ent 𝓤 (W.pre ((κs, qs, y.0.2, a, (p, (k, tt))), tt)) (WpFn 𝓤 𝓛.H 𝓣.C 𝓣.Λ code (W.args ((κs, qs, y.0.2, a, (p, (k, tt))), tt)) (W.post ((κs, qs, y.0.2, a, (p, (k, tt))), tt))) in
        let walk : (k : Val) → On (mut_vals a.0) (k ∷ []) = λ k are.
        let G = triple_of 𝓛 S.signature gs in
        let z : G.Ghost = ((κs, qs, bounds, a, (mut_vals a.0, (k ∷ [], tt))), tt) in
        qed 𝓛 (raw (G.pre z) ∷ []) ∵ enter ! _ _ _ _ _ $
        let has_k = A.typed 𝓛 κs a.1.0 k are.1.0 in
        alloc_all ! (λ l. pass_all ! refl ((tt, tt), (has_k, tt)) $
        sets ! (addr ! (through ! refl (stop !))) refl (tt, tt) $
        calls_at ! (framed 𝓤 𝓛.H 𝓜 𝓣) G known.met z
        (and_then ! (get ! refl) (and_then ! (get ! refl) (no_more !))) (λ w.
        let HR = held_row refusal.fault (named_lft (suc m) 0 tt κs) in
        use1 𝓛 (later (some (λ (r : HR.Denot). ((‵ (flft κs.0 qs.0) ⊛ raw (toks 𝓛 m κs.1 qs.1)) ⊛ ‵ (HR.own_val r (w ∷ []))) ⊛ raw ((gs κs a).ensures tt r)))) (id⊢ 𝓤 _) $
        await ! tt $ pick ! (λ r. split ! $ split ! $ split ! $
        -- [the token of the generator's lifetime; those of the others; the answer; what the step ensures; the locals]
        move ! (2 ∷ []) $ peeks ! HR _ (shows 𝓛 HR) r (w ∷ []) (λ is.
        lands_as ! refl refl ((((held_row_laws refusal.fault refusal.laws (named_lft (suc m) 0 tt κs)).lawful 𝓛).typed r (w ∷ []) is).0) $
        let U = triple_of 𝓛 (let_out refusal.fault).signature (closing 𝓛 (let_out refusal.fault) (let_out_clauses refusal.fault 𝓛)) in
        let κ : Lfts 1 = (κs.0, tt) in
        let x : U.Ghost = ((κ, (qs.0, tt), tt, (r, tt), (w ∷ [], tt)), tt) in
        nothing ! $ move ! (1 ∷ 0 ∷ []) $ join ! $ nothing ! $ move ! (2 ∷ 0 ∷ []) $ join ! $ join ! $ nothing ! $ move ! (1 ∷ 0 ∷ []) $
        use2 𝓛 (raw (U.pre x)) (id⊢ 𝓤 _) $
        calls_at ! (framed 𝓤 𝓛.H 𝓜 𝓣) U known.released_met x
        (and_then ! (get ! refl) (no_more !)) (λ u.
        let FR = answer_row refusal.fault κs.0 in
        use1 𝓛 (later (some (λ (y : FR.Denot). ((‵ (flft κs.0 qs.0) ⊛ ‵ ftrue) ⊛ ‵ (FR.own_val y (u ∷ [])))
        ⊛ some (λ (ws : Lasts (let_out refusal.fault) κ (r, tt)). ‵ (lasts (let_out refusal.fault) κ (r, tt) ws) ⊛ raw (fact 𝓤 (y ≡ released r)))))) (id⊢ 𝓤 _) $
        await ! tt $ pick ! (λ y. split ! $ split ! $ split ! $ move ! (1 ∷ []) $ drop ! $
        -- [the token of the generator's lifetime; the answer; what is the same; the other tokens; what the step ensures; the locals]
        move ! (2 ∷ []) $ pick ! (λ _. split ! $ drop ! $ heard ! _ (λ e.
        move ! (1 ∷ []) $ peeks ! FR _ (shows 𝓛 FR) y (u ∷ []) (λ ok.
        lands_as ! refl refl ((((answer_row_laws refusal.fault refusal.laws κs.0).lawful 𝓛).typed y (u ∷ []) ok).0) $
        returns ! (look_at ! 0 refl) $ free_all ! refl $
        -- [the answer; the tokens; what the step ensures]
        move ! (3 ∷ []) $ use1 𝓛 (raw ((closing 𝓛 F c κs a).ensures tt y))
        (passes_on refusal.fault 𝓛 κs.0 (λ r. (gs κs a).ensures tt r) (λ y. (closing 𝓛 F c κs a).ensures tt y) (known.same_ok κs a) (known.same_err κs a) r y e) $
        use1 𝓛 (some (λ (ws : Lasts F κs a). ‵ (lasts F κs a ws) ⊛ raw ((c κs a).ensures tt y (at_exit F κs a ws)))) (id⊢ 𝓤 _) $ pick ! (λ ws. split ! $ drop ! $
        move ! (1 ∷ 0 ∷ []) $ join ! $ nothing ! $ nothing ! $ join ! $ nothing ! $ join ! $ join ! $
        move ! (1 ∷ 2 ∷ []) $ join ! $ join ! $
        suffices ! _ (leaves 𝓛 F single_stayed c z u y ws (tt, (tt, tt))) $ done !)))))))))) in
        λ are.
        (subst (λ p. On p vss.1.0) (sym (mut_Tells (named 0) κs.0 gen.the_row a.0 vss.0 are.0))
        (one (λ k. On (mut_vals a.0) k) vss.1.0 (A.single κs a.1.0 vss.1.0 are.1.0) (λ k.
        walk k))) are)

-- ---- two parameters

module _ (m : ℕ) (refusal : Refusal) (A B : Given (suc m)) where
  abbrev pair_slots : List (Slot (suc m))
  pair_slots = A.slot ∷ B.slot ∷ []

  abbrev pair_setter : Ended
  pair_setter = setter refusal.fault m pair_slots (yes, (yes, tt))

  abbrev pair_step : Ended
  pair_step = step_of refusal.fault m pair_slots (yes, (yes, tt))

  abbrev pair_stayed : Stays (generator m ∷ pair_slots) (no, (yes, (yes, tt)))
  pair_stayed = (stay_dropped (generator m) no, (stay_dropped A.slot yes, (stay_dropped B.slot yes, tt)))

  -- the code of such a setter, by the name of its step
  abbrev pair_code : Callee → Fn
  pair_code step = record {
    lifetimes = suc m;
    outlives = [];
    ty_params = [];
    givens = 0;
    params = 3;
    locals = held_in (answer_row refusal.fault []) ∷ held_in (MutRef (named 0) [] gen.the_row) ∷ local A.ty value_local ∷ local B.ty value_local
        ∷ held_in (held_row refusal.fault unnamed) ∷ held_in (MutRef erased [] gen.the_row) ∷ [];
    body = seq (assign (place 5 []) (addr_of (place 1 (deref (first gen.the_row.mir) ∷ []))))
        (seq (call step (copy (place 5 []) ∷ copy (place 2 []) ∷ copy (place 3 []) ∷ []) (place 4 [])) (seq (call refusal.release (copy (place 4 []) ∷ []) (place 0 [])) return));
  }

  module _ {M : Type 1} {𝓤 : Ura M} (𝓛 : Logic 𝓤) (𝓜 : Model 𝓤 𝓛.H) (𝓡 : Running 𝓤 𝓛.H 𝓜) where
    abbrev pair_tables : MachineTables 𝓤 𝓛.H 𝓜
    pair_tables = tables 𝓤 𝓛.H 𝓜 𝓡 𝓡.env

    pub pair_met : (name step : Callee) (fe : Ends refusal.fault 𝓛 pair_setter) (ge : Ends refusal.fault 𝓛 pair_step)
        → Closed 𝓤 𝓛.H pair_tables.C pair_tables.Λ name (pair_code step)
        → Known refusal.fault m pair_slots (yes, (yes, tt)) 𝓛 pair_tables.C step refusal.release fe ge
        → Meets 𝓛 pair_setter.signature (pair_tables.C name) (closing 𝓛 pair_setter (asks_none refusal.fault 𝓛 pair_setter fe))
    pair_met name step fe ge closed known =
        let 𝓣 = pair_tables in
        let F = pair_setter in
        let S = pair_step in
        let c = asks_none refusal.fault 𝓛 F fe in
        let gs = closing 𝓛 S (asks_none refusal.fault 𝓛 S ge) in
        let W = walk_of 𝓛 F pair_stayed c in
        let code = pair_code step in
        proved_at 𝓛 F pair_stayed c 𝓜 𝓡
        (Goes-spent_ref 𝓛 (suc m) (0 ∷ []) tt (plain (λ _. gen.the_row)), (Goes-dropped 𝓛 (suc m) A.slot yes A.silent, (Goes-dropped 𝓛 (suc m) B.slot yes B.silent, tt)))
        name code closed (λ y.
        let κs = y.0.0 in let qs = y.0.1 in let bounds = y.0.2 in let a = y.0.3 in let vss = y.0.4 in
        let Rs = types_at F.signature.params κs in
        let On : List Val → List Val → List Val → Type 1 = λ p k s.
        Are Rs (Ises Rs) a (p, (k, (s, tt))) →
        ent 𝓤 (W.pre ((κs, qs, y.0.2, a, (p, (k, (s, tt)))), tt)) (WpFn 𝓤 𝓛.H 𝓣.C 𝓣.Λ code (W.args ((κs, qs, y.0.2, a, (p, (k, (s, tt)))), tt)) (W.post ((κs, qs, y.0.2, a, (p, (k, (s, tt)))), tt))) in
        let walk : (k s : Val) → On (mut_vals a.0) (k ∷ []) (s ∷ []) = λ k s are.
        let G = triple_of 𝓛 S.signature gs in
        let z : G.Ghost = ((κs, qs, bounds, a, (mut_vals a.0, (k ∷ [], (s ∷ [], tt)))), tt) in
        qed 𝓛 (raw (G.pre z) ∷ []) ∵ enter ! _ _ _ _ _ $
        let has_k = A.typed 𝓛 κs a.1.0 k are.1.0 in
        let has_s = B.typed 𝓛 κs a.1.1.0 s are.1.1.0 in
        alloc_all ! (λ l. pass_all ! refl ((tt, tt), (has_k, (has_s, tt))) $
        sets ! (addr ! (through ! refl (stop !))) refl (tt, tt) $
        calls_at ! (framed 𝓤 𝓛.H 𝓜 𝓣) G known.met z
        (and_then ! (get ! refl) (and_then ! (get ! refl) (and_then ! (get ! refl) (no_more !)))) (λ w.
        let HR = held_row refusal.fault (named_lft (suc m) 0 tt κs) in
        use1 𝓛 (later (some (λ (r : HR.Denot). ((‵ (flft κs.0 qs.0) ⊛ raw (toks 𝓛 m κs.1 qs.1)) ⊛ ‵ (HR.own_val r (w ∷ []))) ⊛ raw ((gs κs a).ensures tt r)))) (id⊢ 𝓤 _) $
        await ! tt $ pick ! (λ r. split ! $ split ! $ split ! $
        -- [the token of the generator's lifetime; those of the others; the answer; what the step ensures; the locals]
        move ! (2 ∷ []) $ peeks ! HR _ (shows 𝓛 HR) r (w ∷ []) (λ is.
        lands_as ! refl refl ((((held_row_laws refusal.fault refusal.laws (named_lft (suc m) 0 tt κs)).lawful 𝓛).typed r (w ∷ []) is).0) $
        let U = triple_of 𝓛 (let_out refusal.fault).signature (closing 𝓛 (let_out refusal.fault) (let_out_clauses refusal.fault 𝓛)) in
        let κ : Lfts 1 = (κs.0, tt) in
        let x : U.Ghost = ((κ, (qs.0, tt), tt, (r, tt), (w ∷ [], tt)), tt) in
        nothing ! $ move ! (1 ∷ 0 ∷ []) $ join ! $ nothing ! $ move ! (2 ∷ 0 ∷ []) $ join ! $ join ! $ nothing ! $ move ! (1 ∷ 0 ∷ []) $
        use2 𝓛 (raw (U.pre x)) (id⊢ 𝓤 _) $
        calls_at ! (framed 𝓤 𝓛.H 𝓜 𝓣) U known.released_met x
        (and_then ! (get ! refl) (no_more !)) (λ u.
        let FR = answer_row refusal.fault κs.0 in
        use1 𝓛 (later (some (λ (y : FR.Denot). ((‵ (flft κs.0 qs.0) ⊛ ‵ ftrue) ⊛ ‵ (FR.own_val y (u ∷ [])))
        ⊛ some (λ (ws : Lasts (let_out refusal.fault) κ (r, tt)). ‵ (lasts (let_out refusal.fault) κ (r, tt) ws) ⊛ raw (fact 𝓤 (y ≡ released r)))))) (id⊢ 𝓤 _) $
        await ! tt $ pick ! (λ y. split ! $ split ! $ split ! $ move ! (1 ∷ []) $ drop ! $
        -- [the token of the generator's lifetime; the answer; what is the same; the other tokens; what the step ensures; the locals]
        move ! (2 ∷ []) $ pick ! (λ _. split ! $ drop ! $ heard ! _ (λ e.
        move ! (1 ∷ []) $ peeks ! FR _ (shows 𝓛 FR) y (u ∷ []) (λ ok.
        lands_as ! refl refl ((((answer_row_laws refusal.fault refusal.laws κs.0).lawful 𝓛).typed y (u ∷ []) ok).0) $
        returns ! (look_at ! 0 refl) $ free_all ! refl $
        -- [the answer; the tokens; what the step ensures]
        move ! (3 ∷ []) $ use1 𝓛 (raw ((closing 𝓛 F c κs a).ensures tt y))
        (passes_on refusal.fault 𝓛 κs.0 (λ r. (gs κs a).ensures tt r) (λ y. (closing 𝓛 F c κs a).ensures tt y) (known.same_ok κs a) (known.same_err κs a) r y e) $
        use1 𝓛 (some (λ (ws : Lasts F κs a). ‵ (lasts F κs a ws) ⊛ raw ((c κs a).ensures tt y (at_exit F κs a ws)))) (id⊢ 𝓤 _) $ pick ! (λ ws. split ! $ drop ! $
        move ! (1 ∷ 0 ∷ []) $ join ! $ nothing ! $ nothing ! $ join ! $ nothing ! $ join ! $ nothing ! $ join ! $ join ! $
        move ! (1 ∷ 2 ∷ []) $ join ! $ join ! $
        suffices ! _ (leaves 𝓛 F pair_stayed c z u y ws (tt, (tt, (tt, tt)))) $ done !)))))))))) in
        λ are.
        (subst (λ p. On p vss.1.0 vss.1.1.0) (sym (mut_Tells (named 0) κs.0 gen.the_row a.0 vss.0 are.0))
        (one (λ k. On (mut_vals a.0) k vss.1.1.0) vss.1.0 (A.single κs a.1.0 vss.1.0 are.1.0) (λ k.
        (one (λ s. On (mut_vals a.0) (k ∷ []) s) vss.1.1.0 (B.single κs a.1.1.0 vss.1.1.0 are.1.1.0) (λ s.
        walk k s))))) are)

-- ---- three parameters, of which the last is moved

module _ (m : ℕ) (refusal : Refusal) (A B C : Given (suc m)) where
  abbrev triple_slots : List (Slot (suc m))
  triple_slots = A.slot ∷ B.slot ∷ C.slot ∷ []

  abbrev triple_setter : Ended
  triple_setter = setter refusal.fault m triple_slots (yes, (yes, (yes, tt)))

  abbrev triple_step : Ended
  triple_step = step_of refusal.fault m triple_slots (yes, (yes, (yes, tt)))

  abbrev triple_stayed : Stays (generator m ∷ triple_slots) (no, (yes, (yes, (yes, tt))))
  triple_stayed = (stay_dropped (generator m) no, (stay_dropped A.slot yes, (stay_dropped B.slot yes, (stay_dropped C.slot yes, tt))))

  -- the code of such a setter, by the name of its step
  abbrev triple_code : Callee → Fn
  triple_code step = record {
    lifetimes = suc m;
    outlives = [];
    ty_params = [];
    givens = 0;
    params = 4;
    locals = held_in (answer_row refusal.fault []) ∷ held_in (MutRef (named 0) [] gen.the_row) ∷ local A.ty value_local ∷ local B.ty value_local ∷ local C.ty value_local
        ∷ held_in (held_row refusal.fault unnamed) ∷ held_in (MutRef erased [] gen.the_row) ∷ local C.ty value_local ∷ [];
    body = seq (assign (place 6 []) (addr_of (place 1 (deref (first gen.the_row.mir) ∷ []))))
        (seq (assign (place 7 []) (rv_opd (copy (place 4 [])))) (seq (call step (copy (place 6 []) ∷ copy (place 2 []) ∷ copy (place 3 []) ∷ copy (place 7 []) ∷ []) (place 5 [])) (seq (call refusal.release (copy (place 5 []) ∷ []) (place 0 [])) return)));
  }

  module _ {M : Type 1} {𝓤 : Ura M} (𝓛 : Logic 𝓤) (𝓜 : Model 𝓤 𝓛.H) (𝓡 : Running 𝓤 𝓛.H 𝓜) where
    abbrev triple_tables : MachineTables 𝓤 𝓛.H 𝓜
    triple_tables = tables 𝓤 𝓛.H 𝓜 𝓡 𝓡.env

    pub triple_met : (name step : Callee) (fe : Ends refusal.fault 𝓛 triple_setter) (ge : Ends refusal.fault 𝓛 triple_step)
        → Closed 𝓤 𝓛.H triple_tables.C triple_tables.Λ name (triple_code step)
        → Known refusal.fault m triple_slots (yes, (yes, (yes, tt))) 𝓛 triple_tables.C step refusal.release fe ge
        → Meets 𝓛 triple_setter.signature (triple_tables.C name) (closing 𝓛 triple_setter (asks_none refusal.fault 𝓛 triple_setter fe))
    triple_met name step fe ge closed known =
        let 𝓣 = triple_tables in
        let F = triple_setter in
        let S = triple_step in
        let c = asks_none refusal.fault 𝓛 F fe in
        let gs = closing 𝓛 S (asks_none refusal.fault 𝓛 S ge) in
        let W = walk_of 𝓛 F triple_stayed c in
        let code = triple_code step in
        proved_at 𝓛 F triple_stayed c 𝓜 𝓡
        (Goes-spent_ref 𝓛 (suc m) (0 ∷ []) tt (plain (λ _. gen.the_row)), (Goes-dropped 𝓛 (suc m) A.slot yes A.silent, (Goes-dropped 𝓛 (suc m) B.slot yes B.silent, (Goes-dropped 𝓛 (suc m) C.slot yes C.silent, tt))))
        name code closed (λ y.
        let κs = y.0.0 in let qs = y.0.1 in let bounds = y.0.2 in let a = y.0.3 in let vss = y.0.4 in
        let Rs = types_at F.signature.params κs in
        let On : List Val → List Val → List Val → List Val → Type 1 = λ p k s v.
        Are Rs (Ises Rs) a (p, (k, (s, (v, tt)))) →
        ent 𝓤 (W.pre ((κs, qs, y.0.2, a, (p, (k, (s, (v, tt))))), tt)) (WpFn 𝓤 𝓛.H 𝓣.C 𝓣.Λ code (W.args ((κs, qs, y.0.2, a, (p, (k, (s, (v, tt))))), tt)) (W.post ((κs, qs, y.0.2, a, (p, (k, (s, (v, tt))))), tt))) in
        let walk : (k s v : Val) → On (mut_vals a.0) (k ∷ []) (s ∷ []) (v ∷ []) = λ k s v are.
        let G = triple_of 𝓛 S.signature gs in
        let z : G.Ghost = ((κs, qs, bounds, a, (mut_vals a.0, (k ∷ [], (s ∷ [], (v ∷ [], tt))))), tt) in
        qed 𝓛 (raw (G.pre z) ∷ []) ∵ enter ! _ _ _ _ _ $
        let has_k = A.typed 𝓛 κs a.1.0 k are.1.0 in
        let has_s = B.typed 𝓛 κs a.1.1.0 s are.1.1.0 in
        let has_v = C.typed 𝓛 κs a.1.1.1.0 v are.1.1.1.0 in
        alloc_all ! (λ l. pass_all ! refl ((tt, tt), (has_k, (has_s, (has_v, tt)))) $
        sets ! (addr ! (through ! refl (stop !))) refl (tt, tt) $
        sets ! (of_opd ! (get ! refl)) refl has_v $
        calls_at ! (framed 𝓤 𝓛.H 𝓜 𝓣) G known.met z
        (and_then ! (get ! refl) (and_then ! (get ! refl) (and_then ! (get ! refl) (and_then ! (get ! refl) (no_more !))))) (λ w.
        let HR = held_row refusal.fault (named_lft (suc m) 0 tt κs) in
        use1 𝓛 (later (some (λ (r : HR.Denot). ((‵ (flft κs.0 qs.0) ⊛ raw (toks 𝓛 m κs.1 qs.1)) ⊛ ‵ (HR.own_val r (w ∷ []))) ⊛ raw ((gs κs a).ensures tt r)))) (id⊢ 𝓤 _) $
        await ! tt $ pick ! (λ r. split ! $ split ! $ split ! $
        -- [the token of the generator's lifetime; those of the others; the answer; what the step ensures; the locals]
        move ! (2 ∷ []) $ peeks ! HR _ (shows 𝓛 HR) r (w ∷ []) (λ is.
        lands_as ! refl refl ((((held_row_laws refusal.fault refusal.laws (named_lft (suc m) 0 tt κs)).lawful 𝓛).typed r (w ∷ []) is).0) $
        let U = triple_of 𝓛 (let_out refusal.fault).signature (closing 𝓛 (let_out refusal.fault) (let_out_clauses refusal.fault 𝓛)) in
        let κ : Lfts 1 = (κs.0, tt) in
        let x : U.Ghost = ((κ, (qs.0, tt), tt, (r, tt), (w ∷ [], tt)), tt) in
        nothing ! $ move ! (1 ∷ 0 ∷ []) $ join ! $ nothing ! $ move ! (2 ∷ 0 ∷ []) $ join ! $ join ! $ nothing ! $ move ! (1 ∷ 0 ∷ []) $
        use2 𝓛 (raw (U.pre x)) (id⊢ 𝓤 _) $
        calls_at ! (framed 𝓤 𝓛.H 𝓜 𝓣) U known.released_met x
        (and_then ! (get ! refl) (no_more !)) (λ u.
        let FR = answer_row refusal.fault κs.0 in
        use1 𝓛 (later (some (λ (y : FR.Denot). ((‵ (flft κs.0 qs.0) ⊛ ‵ ftrue) ⊛ ‵ (FR.own_val y (u ∷ [])))
        ⊛ some (λ (ws : Lasts (let_out refusal.fault) κ (r, tt)). ‵ (lasts (let_out refusal.fault) κ (r, tt) ws) ⊛ raw (fact 𝓤 (y ≡ released r)))))) (id⊢ 𝓤 _) $
        await ! tt $ pick ! (λ y. split ! $ split ! $ split ! $ move ! (1 ∷ []) $ drop ! $
        -- [the token of the generator's lifetime; the answer; what is the same; the other tokens; what the step ensures; the locals]
        move ! (2 ∷ []) $ pick ! (λ _. split ! $ drop ! $ heard ! _ (λ e.
        move ! (1 ∷ []) $ peeks ! FR _ (shows 𝓛 FR) y (u ∷ []) (λ ok.
        lands_as ! refl refl ((((answer_row_laws refusal.fault refusal.laws κs.0).lawful 𝓛).typed y (u ∷ []) ok).0) $
        returns ! (look_at ! 0 refl) $ free_all ! refl $
        -- [the answer; the tokens; what the step ensures]
        move ! (3 ∷ []) $ use1 𝓛 (raw ((closing 𝓛 F c κs a).ensures tt y))
        (passes_on refusal.fault 𝓛 κs.0 (λ r. (gs κs a).ensures tt r) (λ y. (closing 𝓛 F c κs a).ensures tt y) (known.same_ok κs a) (known.same_err κs a) r y e) $
        use1 𝓛 (some (λ (ws : Lasts F κs a). ‵ (lasts F κs a ws) ⊛ raw ((c κs a).ensures tt y (at_exit F κs a ws)))) (id⊢ 𝓤 _) $ pick ! (λ ws. split ! $ drop ! $
        move ! (1 ∷ 0 ∷ []) $ join ! $ nothing ! $ nothing ! $ join ! $ nothing ! $ join ! $ nothing ! $ join ! $ nothing ! $ join ! $ join ! $
        move ! (1 ∷ 2 ∷ []) $ join ! $ join ! $
        suffices ! _ (leaves 𝓛 F triple_stayed c z u y ws (tt, (tt, (tt, (tt, tt))))) $ done !)))))))))) in
        λ are.
        (subst (λ p. On p vss.1.0 vss.1.1.0 vss.1.1.1.0) (sym (mut_Tells (named 0) κs.0 gen.the_row a.0 vss.0 are.0))
        (one (λ k. On (mut_vals a.0) k vss.1.1.0 vss.1.1.1.0) vss.1.0 (A.single κs a.1.0 vss.1.0 are.1.0) (λ k.
        (one (λ s. On (mut_vals a.0) (k ∷ []) s vss.1.1.1.0) vss.1.1.0 (B.single κs a.1.1.0 vss.1.1.0 are.1.1.0) (λ s.
        (one (λ v. On (mut_vals a.0) (k ∷ []) (s ∷ []) v) vss.1.1.1.0 (C.single κs a.1.1.1.0 vss.1.1.1.0 are.1.1.1.0) (λ v.
        walk k s v))))))) are)
