-- What a call answers, step by step.
use Rattle.std.proofs.Common.{◌≡◌, ◌≢◌, ◌⊎◌, inl, inr, ℕ, Bool, List, true≢false, refl, sym, ap, subst, ◌∙◌}
use Rattle.std.specs.Prelude.{true, false, not, ◌&&◌, codes, Option, Some, None, Result, Ok, Err, IfSome, IfErr, IsErrAnd}
use Rattle.wasm_core.specs.Contents.{Contents}
use Rattle.wasm_core.specs.Edits.{without_custom}
use Rattle.glue_words.specs.declared.item.Item.{Item}
use Rattle.glue_words.specs.Words.{printed}
use Rattle.glue_shared.specs.declared.settings.Settings.{Settings}
use Rattle.glue_shared.specs.declared.description.Lowered.{Lowered}
use Rattle.glue_shared.specs.Names.{host_names}
use Rattle.glue_faults.specs.declared.fault.Fault.{Fault}
use Rattle.glue_faults.specs.declared.fault.Fault.TheVariants as fault
use Rattle.glue_check.specs.declared.files.FileFlags.{FileFlags}
use Rattle.glue_check.specs.FaultKinds.{is_of_check}
use Rattle.glue_check.specs.declared.verdict.Checked.{Checked}
use Rattle.glue_check.proofs.FaultKinds.{first_kind}
use Rattle.glue_context.specs.Edits.{has_start}
use Rattle.glue_context.specs.Keys.{described_keys}
use Rattle.glue_context.specs.Linked.{IsLinked}
use Rattle.glue_context.specs.Defined.{IsDefined}
use Rattle.glue_context.specs.Rewritten.{rewritten}
use Rattle.glue_context.proofs.Made.{sound}
use Rattle.glue_prepare.specs.declared.prepared.Prepared.{Prepared}
use Rattle.glue_prepare.specs.Prepared.{prepared, finished, marker, with_marked_target, with_features, target_tests, refuse_where, is_web, can_reset, has_export, ◌>>◌}
use Rattle.cli_support.specs.Configured.{Configured, call_settings, file_flags}
use Rattle.cli_support.specs.declared.bindgen.Flags.{Flags}
use Rattle.cli_support.specs.Listed.{IsSortedSet}
use Rattle.cli_support.specs.Generating.{Told, pure, refuse, ready, lowered, unless, answer_of, checked, taken, ◌>>=◌, check_fault, Described, described_by, Made, AreItemsOf, IsMadeOf, IsLate, Answers, CallAnswers, collected_description}

-- ---- what is made

-- what is checked has no fault
no_fault : (checked : Checked) → check_fault checked.files checked.settings checked.lowered ≡ None
no_fault checked = rw (checked.built, checked.passed) refl

-- the output of items and of the module that goes with them
made_of : (checked : Checked) (s : Settings) (hosts keys : List (List ℕ)) (items : List Item) (written : Contents) (missing : Bool) (o : Made) → checked.settings ≡ s
    → IsSortedSet (host_names checked.settings checked.lowered.aux) hosts → IsSortedSet (described_keys checked.lowered.aux) keys → AreItemsOf checked.settings checked.lowered items
    → written ≡ rewritten checked.settings checked.lowered → o ≡ record { settings = s; hosts = hosts; keys = keys; items = items; js = printed items; «module» = written; features_missing = missing }
    → IsMadeOf checked.settings checked.lowered o
made_of checked s hosts keys items written missing o of_settings of_hosts of_keys g w is_made =
    let own = checked.settings in
    let l = checked.lowered in
    let k = sound checked.files own g.names l items checked.built checked.passed g.drawn g.glue in
    subst (IsMadeOf own l) (sym is_made) (record {
      same_settings = sym of_settings;
      hosts = of_hosts;
      keys = of_keys;
      glue = g;
      js = refl;
      «module» = w;
      linked = subst (λ (m : Contents). IsLinked own (host_names own l.aux) (described_keys l.aux) m items (has_start l.«module»)) (sym w) k.linked;
      defined = subst (λ (m : Contents). IsDefined own g.names l m items) (sym w) k.defined;
      published = k.published;
    })

-- ---- a call that refuses

-- want of memory, or another fault
memory_or : (f : Fault) → (f ≡ fault.OutOfMemory) ⊎ (f ≢ fault.OutOfMemory)
memory_or fault.OutOfMemory = inl refl
memory_or f = inr (λ e. cc)

module _ (c : Configured) (f : Fault) where
  -- the answer that a fault is, where the call is told it
  refused : (a : Told Described) → (f ≢ fault.OutOfMemory → a ≡ refuse f) → Answers c (Err f) a
  refused a h = elim (memory_or f) [
    | inl e ↦ memory a e
    | inr other ↦ subst (Answers c (Err f)) (sym (h other)) (λ _. refl)
  ]
    where
      memory : (a : Told Described) → f ≡ fault.OutOfMemory → Answers c (Err f) a
      memory None e = inl e
      memory (Some told) e = λ other. absurd (other e)

  -- the same, where it is also a fault that may come behind the lowering
  late : (t : Option (Option Lowered)) (x : Option Lowered) (next : Lowered → Told Described) → IfSome t (λ y. y ≡ x) → IsLate c f → (f ≢ fault.OutOfMemory → (lowered (Some x) >>= next) ≡ refuse f)
      → Answers c (Err f) (lowered t >>= next)
  late None x next is may h = may
  late (Some y) x next is may h = refused (lowered (Some y) >>= next) (λ other. ap (λ (x : Option Lowered). lowered (Some x) >>= next) is ∙ h other)

  -- a fault that the check answers may come there
  checked_late : (p : Prepared) (l : Lowered) → ready c ≡ pure p → (f ≢ fault.OutOfMemory → check_fault (file_flags c.flags) p.settings (collected_description l) ≡ Some f) → IsLate c f
  checked_late p l given h = elim (memory_or f) [
    | inl e ↦ inl e
    | inr other ↦ inr (inr (record { given = p; is = given; description = l; refused = h other; kind = first_kind (file_flags c.flags) p.settings (collected_description l) f (h other) }))
  ]

-- ---- what the lowering is handed

module _ (c : Configured) where
  abbrev after_taken : Contents → Told Prepared
  after_taken m = Some (prepared c.flags.keep_lld_exports (call_settings c) m)

  abbrev after_tests : Told (Unit {0}) → Told Prepared
  after_tests tests = tests >>= (λ _. taken c >>= after_taken)

  ready_is : ready c ≡ after_tests (checked c)
  unfolding ready
  ready_is = refl

-- the settings of a call, whether the linker's exports stay, and the module that was handed in
pub record IsHanded (c : Configured) (keep : Bool) (s : Settings) (m : Contents) : Type 0 where
  pub keeps : keep ≡ c.flags.keep_lld_exports
  pub settings : s ≡ call_settings c
  pub took : taken c ≡ pure m

pub handed : (c after : Configured) (keep : Bool) (s : Settings) (m n : Contents) → taken c ≡ pure n → (call_settings after ≡ call_settings c) × (after.flags ≡ c.flags) → keep ≡ after.flags.keep_lld_exports
    → ◌≡◌ {A = Settings × Contents} (s, m) (call_settings after, n) → IsHanded c keep s m
handed c after keep s m n took kept keeps both = record {
  keeps = keeps ∙ ap (λ (f : Flags). f.keep_lld_exports) kept.1;
  settings = ap (λ (x : Settings × Contents). x.0) both ∙ kept.0;
  took = took ∙ ap (λ (x : Settings × Contents). pure x.1) (sym both);
}

pub handed_flags : (c after : Configured) (files : FileFlags) → files ≡ file_flags after.flags → (call_settings after ≡ call_settings c) × (after.flags ≡ c.flags) → files ≡ file_flags c.flags
handed_flags c after files is kept = is ∙ ap file_flags kept.1

-- what is made of them is what the lowering is handed
pub ready_of : (c : Configured) (keep : Bool) (s : Settings) (m : Contents) (r : Result Prepared Fault) → checked c ≡ pure tt → IsHanded c keep s m → prepared keep s m ≡ r → ready c ≡ Some r
ready_of c keep s m r tests h is =
    ready_is c ∙ ap (after_tests c) tests ∙ ap (λ (t : Told Contents). t >>= after_taken c) h.took
    ∙ ap (λ (x : Settings). Some (prepared c.flags.keep_lld_exports x m)) (sym h.settings)
    ∙ ap (λ (k : Bool). Some (prepared k s m)) (sym h.keeps)
    ∙ ap (λ (x : Result Prepared Fault). Some x) is

-- ---- from the start

module _ (told : Settings → Contents → Option (Option Lowered)) (c : Configured) where
  abbrev judged : Prepared → Lowered → Told Described
  judged p l = unless (check_fault (file_flags c.flags) p.settings (collected_description l)) (described_by p l)

  abbrev after_lowered : Prepared → Option (Option Lowered) → Told Described
  after_lowered p t = lowered t >>= judged p

  abbrev after_ready : Told Prepared → Told Described
  after_ready given = given >>= (λ p. after_lowered p (told p.settings p.«module»))

  answer_is : answer_of told c ≡ after_ready (ready c)
  unfolding answer_of
  answer_is = refl

  -- an error that is handed on
  pub handed_on : (r : Result Made Fault) (f : Fault) → IsErrAnd r (λ e. e ≡ f) → CallAnswers told c (Err f) → IfErr r (λ e. CallAnswers told c (Err e))
  handed_on (Ok o) f h answer = tt
  handed_on (Err e) f h answer = subst (λ (x : Fault). CallAnswers told c (Err x)) (sym h) answer

  pub memory_out : (r : Result Made Fault) → IsErrAnd r (λ e. e ≡ fault.OutOfMemory) → IfErr r (λ e. CallAnswers told c (Err e))
  memory_out r h = handed_on r fault.OutOfMemory h (refused c fault.OutOfMemory (answer_of told c) (λ other. absurd (other refl)))

  -- a fault before the lowering
  pub ready_refused : (f : Fault) → (f ≢ fault.OutOfMemory → ready c ≡ refuse f) → CallAnswers told c (Err f)
  ready_refused f h = refused c f (answer_of told c) (λ other. answer_is ∙ ap after_ready (h other))

  pub tests_refused : (f : Fault) → checked c ≡ refuse f → CallAnswers told c (Err f)
  tests_refused f h = ready_refused f (λ other. ready_is c ∙ ap (after_tests c) h)

  pub taken_refused : (f : Fault) → checked c ≡ pure tt → (f ≢ fault.OutOfMemory → taken c ≡ refuse f) → CallAnswers told c (Err f)
  taken_refused f tests h = ready_refused f (λ other. ready_is c ∙ ap (after_tests c) tests ∙ ap (λ (t : Told Contents). t >>= after_taken c) (h other))

  module _ (p : Prepared) (given : ready c ≡ pure p) where
    -- the answer is what the lowering leads to
    reached : (r : Result Made Fault) → Answers c r (after_lowered p (told p.settings p.«module»)) → CallAnswers told c r
    reached r a = subst (Answers c r) (sym (answer_is ∙ ap after_ready given)) a

    pub lower_refused : (f : Fault) → (f ≡ fault.OutOfMemory) ⊎ ((f ≡ fault.Lower) × IfSome (told p.settings p.«module») (λ t. t ≡ None)) → CallAnswers told c (Err f)
    lower_refused f (inl e) = reached (Err f) (refused c f (after_lowered p (told p.settings p.«module»)) (λ other. absurd (other e)))
    lower_refused f (inr k) = reached (Err f) (late c f (told p.settings p.«module») None (judged p) k.1 (inr (inl k.0)) (λ other. ap refuse (sym k.0)))

    module _ (l kept : Lowered) (is : IfSome (told p.settings p.«module») (λ t. t ≡ Some l)) (collected : kept ≡ collected_description l) (files : FileFlags) (of_files : files ≡ file_flags c.flags) where
      pub check_refused : (f : Fault) → (f ≢ fault.OutOfMemory → check_fault files p.settings kept ≡ Some f) → CallAnswers told c (Err f)
      check_refused f h =
          let k : f ≢ fault.OutOfMemory → check_fault (file_flags c.flags) p.settings (collected_description l) ≡ Some f =
          λ other. ap (λ (x : FileFlags). check_fault x p.settings (collected_description l)) (sym of_files) ∙ ap (check_fault files p.settings) (sym collected) ∙ h other in
          reached (Err f) (late c f (told p.settings p.«module») (Some l) (judged p) is (checked_late c f p l given k)
          (λ other. ap (λ (o : Option Fault). unless o (described_by p l)) (k other)))

      made_answer : (t : Option (Option Lowered)) (o : Made) → IfSome t (λ x. x ≡ Some l) → check_fault (file_flags c.flags) p.settings (collected_description l) ≡ None
          → IsMadeOf p.settings (collected_description l) o → o.features_missing ≡ p.features_missing → Answers c (Ok o) (after_lowered p t)
      made_answer None o is none made features = record { given = p; is = given; description = l; passed = none; made = made; same_features = features }
      made_answer (Some x) o is none made features =
          subst (λ (x : Option Lowered). Answers c (Ok o) (after_lowered p (Some x))) (sym is)
          (subst (λ (f : Option Fault). Answers c (Ok o) (unless f (described_by p l))) (sym none) (record { found = described_by p l; is = refl; made = made; same_features = features }))

      pub output_made : (checked : Checked) (hosts keys : List (List ℕ)) (items : List Item) (written : Contents) (o : Made) → checked.files ≡ files → checked.settings ≡ p.settings
          → checked.lowered ≡ kept → IsSortedSet (host_names checked.settings checked.lowered.aux) hosts → IsSortedSet (described_keys checked.lowered.aux) keys
          → AreItemsOf checked.settings checked.lowered items → written ≡ rewritten checked.settings checked.lowered
          → o ≡ record { settings = p.settings; hosts = hosts; keys = keys; items = items; js = printed items; «module» = written; features_missing = p.features_missing } → CallAnswers told c (Ok o)
      output_made checked hosts keys items written o same_files same_settings same_lowered of_hosts of_keys g w is_made =
          let made = subst (λ (x : Settings). IsMadeOf x checked.lowered o) same_settings (made_of checked p.settings hosts keys items written p.features_missing o same_settings of_hosts of_keys g w is_made) in
          let none_files = subst (λ (x : FileFlags). check_fault x checked.settings checked.lowered ≡ None) (same_files ∙ of_files) (no_fault checked) in
          let none_settings = subst (λ (x : Settings). check_fault (file_flags c.flags) x checked.lowered ≡ None) same_settings none_files in
          let same = same_lowered ∙ collected in
          reached (Ok o)
          (made_answer (told p.settings p.«module») o is (subst (λ (x : Lowered). check_fault (file_flags c.flags) p.settings x ≡ None) same none_settings)
          (subst (λ (x : Lowered). IsMadeOf p.settings x o) same made) (ap (λ (x : Made). x.features_missing) is_made))

-- ---- no fault of the lowering comes from elsewhere

apart : (f : Fault) → f ≡ fault.Lower → f ≢ fault.OutOfMemory
apart f low e = let same : fault.Lower ≡ fault.OutOfMemory = sym low ∙ e in cc

pub check_lowers_none : (files : FileFlags) (s : Settings) (l : Lowered) (f : Fault) → (f ≢ fault.OutOfMemory → check_fault files s l ≡ Some f) → f ≢ fault.Lower
check_lowers_none files s l f h low = true≢false (sym (first_kind files s l f (h (apart f low))) ∙ ap is_of_check low)

abbrev LowersNone : {A : Type 0} → Result A Fault → Type 0
LowersNone r = IfErr r (λ f. f ≢ fault.Lower)

target_lowers_none : (a b : Bool) → LowersNone (refuse_where a fault.DefaultExport >> refuse_where b fault.ResetStateTarget)
target_lowers_none true b = λ e. cc
target_lowers_none false true = λ e. cc
target_lowers_none false false = tt

tests_lower_none : (s : Settings) (m : Contents) → LowersNone (target_tests s m)
unfolding target_tests
tests_lower_none s m = target_lowers_none (is_web s.target && has_export (codes "default") m) (s.reset_state && not (can_reset s.target))

finished_lowers_none : (r : Result (Unit {0}) Fault) (p : Prepared) → LowersNone r → LowersNone (r >> Ok p)
finished_lowers_none (Ok u) p h = tt
finished_lowers_none (Err f) p h = h

prepared_lowers_none : (keep : Bool) (s : Settings) (m : Contents) → LowersNone (prepared keep s m)
unfolding prepared
prepared_lowers_none keep s m =
    let unmarked = without_custom marker m in
    let featured = with_features unmarked (with_marked_target m s) in
    finished_lowers_none (target_tests featured unmarked) (finished keep featured unmarked) (tests_lower_none featured unmarked)

pub prepare_lowers_none : (keep : Bool) (s : Settings) (m : Contents) (f : Fault) → (f ≢ fault.OutOfMemory → prepared keep s m ≡ Err f) → f ≢ fault.Lower
prepare_lowers_none keep s m f h low = subst (λ (r : Result Prepared Fault). LowersNone r) (h (apart f low)) (prepared_lowers_none keep s m) low

-- a fault that is handed on and isn't the lowering's
pub not_lower : (r : Result Made Fault) (f : Fault) → IsErrAnd r (λ e. e ≡ f) → f ≢ fault.Lower → r ≢ Err fault.Lower
not_lower (Ok o) f h other e = absurd h
not_lower (Err x) f h other e = let same : ◌≡◌ {A = Result Made Fault} (Err x) (Err fault.Lower) = e in let low : x ≡ fault.Lower = cc in other (sym h ∙ low)
