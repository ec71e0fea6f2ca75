-- What a run of some bytes comes to, from the generator's answer.
use Rattle.std.proofs.Common.{◌≡◌, ◌≢◌, ℕ, List, Bool, true, false, true≢false, inl, inr, refl, sym, ap, subst, ◌∙◌, cond, arith}
use Rattle.std.specs.Prelude.{Option, Some, None, Result, Ok, Err, IfOk, IfErr}
use Rattle.cli_support.specs.Contents.{Contents}
use Rattle.cli_support.specs.Emission.{too_large}
use Rattle.cli_support.specs.Parsing.{module_of}
use Rattle.cli_support.specs.faults.ParseFault.{ParseFault}
use Rattle.cli_support.specs.faults.ParseFault.TheVariants as parse
use Rattle.cli_support.specs.settings.Settings.{Settings}
use Rattle.cli_support.specs.description.Lowered.{Lowered}
use Rattle.cli_support.specs.Lowering.{lowered_of}
use Rattle.cli_support.specs.fault.Fault.{Fault}
use Rattle.cli_support.specs.fault.Fault.TheVariants as fault
use Rattle.cli_support.specs.Configured.{Configured, file_flags, reading}
use Rattle.cli_support.specs.prepared.Prepared.{Prepared}
use Rattle.cli_support.specs.Prepared.{prepared}
use Rattle.cli_support.specs.Generating.{Told, parsed, ready, lowered, unless, check_fault, ◌>>=◌, Described, described_by, Made, Answers, CallAnswers, IsFaultOf, answer_of, collected_description, IsMadeOf}
use Rattle.cli_support.specs.Rewritten.{rewritten}
use Rattle.glue_run.specs.Headline.{deno, deno_settings, IsOutputOf}
use Rattle.glue_run.specs.Outcome.{Refused, Oversized, outcome, outcome_of, planning, with_bytes, is_memory, fault_line, ComesTo, IsCut, Wrote, Answered}
use Rattle.cli_support.proofs.Prefixes.{prefix_none}

abbrev told : Settings → Contents → Option (Option Lowered)
told settings m = Some (lowered_of settings m)

-- what a call over these bytes answers
abbrev answer : List ℕ → Told Described
answer bytes = answer_of told (with_bytes bytes)

-- a call over these bytes answers what is told
abbrev ToldOf : List ℕ → Result Made Fault → Told Described → Type 0
ToldOf bytes = Answers (with_bytes bytes)

-- the fault of a description that was lowered, where it has one
abbrev lacking : Prepared → Lowered → Option Fault
lacking p l = check_fault (file_flags deno.flags) p.settings (collected_description l)

-- what stands behind the check, the lowering, the preparation and the reading of the module
abbrev when_checked : Prepared → Lowered → Option Fault → Told Described
when_checked p l f = unless f (described_by p l)

abbrev when_lowered : Prepared → Option Lowered → Told Described
when_lowered p x = lowered (Some x) >>= (λ l. when_checked p l (lacking p l))

abbrev when_ready : Told Prepared → Told Described
when_ready given = given >>= (λ p. when_lowered p (lowered_of p.settings p.«module»))

abbrev when_parsed : Result Contents ParseFault → Told Described
when_parsed r = when_ready (parsed r >>= (λ m. Some (prepared deno.flags.keep_lld_exports deno_settings m)))

answer_is : (bytes : List ℕ) → answer bytes ≡ when_parsed (module_of (reading deno.flags) bytes)
unfolding answer_of ready
answer_is bytes = refl

no_fault : {f : Fault} {d : Described} → ◌≡◌ {A = Result Described Fault} (Err f) (Ok d) → ⊥
no_fault e = cc

alike : {c d : Described} → ◌≡◌ {A = Result Described Fault} (Ok c) (Ok d) → d ≡ c
alike e = cc

module _ (bytes : List ℕ) (o : Made) where
  abbrev Goal : Type 0
  Goal = IsOutputOf bytes o × (outcome bytes ≡ planning (too_large o.«module»))

  checked_is : (m : Contents) (p : Prepared) (l : Lowered) (f : Option Fault) → module_of (reading deno.flags) bytes ≡ Ok m → prepared deno.flags.keep_lld_exports deno_settings m ≡ Ok p → lowered_of p.settings p.«module» ≡ Some l
      → lacking p l ≡ f → ToldOf bytes (Ok o) (when_checked p l f) → Goal
  checked_is m p l (Some f) read is told h from = absurd (no_fault from.is)
  checked_is m p l None read is told h from =
      let c = collected_description l in
      let same : from.found ≡ described_by p l = alike from.is in
      let made : IsMadeOf p.settings c o = subst (λ (d : Described). IsMadeOf d.settings d.description o) same from.made in
      let comes : outcome bytes ≡ planning (too_large (rewritten p.settings c)) =
      ap outcome_of (answer_is bytes)
      ∙ ap (λ (r : Result Contents ParseFault). outcome_of (when_parsed r)) read
      ∙ ap (λ (r : Result Prepared Fault). outcome_of (when_ready (Some r))) is
      ∙ ap (λ (x : Option Lowered). outcome_of (when_lowered p x)) told
      ∙ ap (λ (f : Option Fault). outcome_of (when_checked p l f)) h in (
        record { «module» = m; read = read; given = p; ready = is; description = l; told = told; passed = h; made = made; features = from.same_features ∙ ap (λ (d : Described). d.features_missing) same },
        comes ∙ ap (λ (x : Contents). planning (too_large x)) (sym made.«module»),
      )

  lowered_is : (m : Contents) (p : Prepared) (x : Option Lowered) → module_of (reading deno.flags) bytes ≡ Ok m → prepared deno.flags.keep_lld_exports deno_settings m ≡ Ok p → lowered_of p.settings p.«module» ≡ x
      → ToldOf bytes (Ok o) (when_lowered p x) → Goal
  lowered_is m p None read is told h = absurd (no_fault h.is)
  lowered_is m p (Some l) read is told h = checked_is m p l (lacking p l) read is told refl h

  ready_is : (m : Contents) (r : Result Prepared Fault) → module_of (reading deno.flags) bytes ≡ Ok m → prepared deno.flags.keep_lld_exports deno_settings m ≡ r → ToldOf bytes (Ok o) (when_ready (Some r)) → Goal
  ready_is m (Err f) read is h = absurd (no_fault h.is)
  ready_is m (Ok p) read is h = lowered_is m p (lowered_of p.settings p.«module») read is refl h

  parsed_is : (r : Result Contents ParseFault) → module_of (reading deno.flags) bytes ≡ r → ToldOf bytes (Ok o) (when_parsed r) → Goal
  parsed_is (Ok m) is h = ready_is m (prepared deno.flags.keep_lld_exports deno_settings m) is refl h
  parsed_is (Err (parse.Parse place)) is h = absurd (no_fault h.is)
  parsed_is (Err parse.OutOfMemory) is h = absurd (no_fault h.is)

  -- what was made is made of the bytes
  made_of : ToldOf bytes (Ok o) (answer bytes) → Goal
  made_of h = parsed_is (module_of (reading deno.flags) bytes) refl (subst (ToldOf bytes (Ok o)) (answer_is bytes) h)

refused_by : (f : Fault) (r : Result Described Fault) → IsFaultOf f r → f ≢ fault.OutOfMemory → outcome_of (Some r) ≡ Some (Refused f)
refused_by f r h other = ap (λ (r : Result Described Fault). outcome_of (Some r)) (h other)

refused_after : (bytes : List ℕ) (f : Fault) (a : Told Described) (r : Result Described Fault) → a ≡ Some r → ToldOf bytes (Err f) a → f ≢ fault.OutOfMemory → outcome_of a ≡ Some (Refused f)
refused_after bytes f a r is h other = ap outcome_of is ∙ refused_by f r (subst (ToldOf bytes (Err f)) is h) other

-- each answer is told
record IsTold (a : Told Described) : Type 0 where
  answer : Result Described Fault
  is : a ≡ Some answer

checking_told : (p : Prepared) (l : Lowered) (f : Option Fault) → IsTold (when_checked p l f)
checking_told p l None = record { answer = Ok (described_by p l); is = refl }
checking_told p l (Some f) = record { answer = Err f; is = refl }

lowering_told : (p : Prepared) (x : Option Lowered) → IsTold (when_lowered p x)
lowering_told p None = record { answer = Err fault.Lower; is = refl }
lowering_told p (Some l) = checking_told p l (lacking p l)

preparing_told : (r : Result Prepared Fault) → IsTold (when_ready (Some r))
preparing_told (Ok p) = lowering_told p (lowered_of p.settings p.«module»)
preparing_told (Err f) = record { answer = Err f; is = refl }

parsing_told : (r : Result Contents ParseFault) → IsTold (when_parsed r)
parsing_told (Ok m) = preparing_told (prepared deno.flags.keep_lld_exports deno_settings m)
parsing_told (Err (parse.Parse place)) = record { answer = Err (fault.Parse place); is = refl }
parsing_told (Err parse.OutOfMemory) = record { answer = Err fault.OutOfMemory; is = refl }

-- a fault is the one that the bytes come to
refused_of : (bytes : List ℕ) (f : Fault) → ToldOf bytes (Err f) (answer bytes) → f ≢ fault.OutOfMemory → outcome bytes ≡ Some (Refused f)
refused_of bytes f h other =
    let t = parsing_told (module_of (reading deno.flags) bytes) in
    refused_after bytes f (answer bytes) t.answer (answer_is bytes ∙ t.is) h other

pub made_from : (bytes : List ℕ) (c : Configured) (r : Result Made Fault) → c ≡ with_bytes bytes → IfOk r (λ o. CallAnswers told c (Ok o))
    → IfOk r (λ o. IsOutputOf bytes o × (outcome bytes ≡ planning (too_large o.«module»)))
made_from bytes c (Ok o) is h = made_of bytes o (subst (λ (c : Configured). CallAnswers told c (Ok o)) is h)
made_from bytes c (Err f) is h = tt

pub refused_from : (bytes : List ℕ) (c : Configured) (r : Result Made Fault) → c ≡ with_bytes bytes → IfErr r (λ f. CallAnswers told c (Err f))
    → IfErr r (λ f. f ≢ fault.OutOfMemory → outcome bytes ≡ Some (Refused f))
refused_from bytes c (Ok o) is h = tt
refused_from bytes c (Err f) is h = refused_of bytes f (subst (λ (c : Configured). CallAnswers told c (Err f)) is h)

-- another fault than want of memory
other_fault : (f : Fault) → is_memory f ≡ false → f ≢ fault.OutOfMemory
other_fault f h is = absurd (true≢false (ap is_memory (sym is) ∙ h))

zero_one : ◌≡◌ {A = ℕ} 0 1 → ⊥
zero_one e = omega (arith, e)

zero_four : ◌≡◌ {A = ℕ} 0 4 → ⊥
zero_four e = omega (arith, e)

zero_five : ◌≡◌ {A = ℕ} 0 5 → ⊥
zero_five e = omega (arith, e)

-- nothing of what was made is written yet
pub unwritten : (bytes : List ℕ) (made : Made) (x : Option ℕ) (old : Option (List ℕ)) → IsOutputOf bytes made → outcome bytes ≡ planning x → IsCut bytes (Some made) old old
unwritten bytes made None old is comes = record { cause = None; comes = (comes, is); written = prefix_none old _ }
unwritten bytes made (Some section) old is comes = record { cause = Some Oversized; comes = (comes, is); written = prefix_none old _ }

-- there was no memory for the listing of what was made
pub unlisted : (bytes : List ℕ) (made : Made) (x : Option ℕ) (old : Option (List ℕ)) (before : ℕ) → IsOutputOf bytes made → outcome bytes ≡ planning x → Answered bytes 5 (Some made) old old before before
unlisted bytes made x old before is comes = record {
  known = inr (inr (inr refl));
  done = λ zero. absurd (omega (arith, zero));
  refused = λ one. absurd (omega (arith, one));
  failed = λ four. absurd (omega (arith, four));
  short = λ five. inr (unwritten bytes made x old is comes);
  kept = λ other short. refl;
  later = omega arith;
}

-- a fault's line was to be written
pub refused_answer : (bytes : List ℕ) (f : Fault) (status : ℕ) (old new : Option (List ℕ)) (before now : ℕ) → is_memory f ≡ false → (f ≢ fault.OutOfMemory → outcome bytes ≡ Some (Refused f))
    → Wrote 1 (fault_line (Refused f)) status old new before now → Answered bytes status None old new before now
refused_answer bytes f status old new before now h known w =
    let comes : ComesTo bytes None (Some (Refused f)) = (known (other_fault f h), refl) in
    let cut : IsCut bytes None old new = record { cause = Some (Refused f); comes = comes; written = w.prefix } in record {
      known = inr (elim w.known [ inl one ↦ inl one | inr later ↦ inr later ]);
      done = λ zero. absurd (elim w.known [ inl one ↦ zero_one (sym zero ∙ one) | inr later ↦ elim later [ inl four ↦ zero_four (sym zero ∙ four) | inr five ↦ zero_five (sym zero ∙ five) ] ]);
      refused = λ one. (Refused f, record { comes = comes; written = w.all one });
      failed = λ four. (w.failed four, cut);
      short = λ five. inr cut;
      kept = w.kept;
      later = w.later;
    }
