-- The names and producers that are read fit.
use Rattle.std.proofs.Common.{◌≡◌, ℕ, ◌+◌, true, List, Some, None, Result, Ok, Err, refl, subst, ap, ◌∙◌, arith, leb, eqb}
use Rattle.std.specs.List.{AllByRecursion}
use Rattle.wasm_bytes.specs.Reading.{Input, followed, ◌>>=◌, pure, frame, within, entries}
use Rattle.wasm_bytes.specs.Numbers.{number32}
use Rattle.wasm_bytes.specs.Reads.{AreBytes, Finds}
use Rattle.wasm_bytes.proofs.ReadFinds.{finds_pure, finds_bind, finds_if, finds_weaker, finds_byte, finds_allowed, finds_framed, finds_number32, finds_index}
use Rattle.wasm_file.specs.Customs.{value_in, used_up, held_by, func_name, rise_from, func_names, subsection_names, subsection, no_names, all_names, names_of, producer_value, producer_field, producers, producers_of}
use Rattle.wasm_file.specs.declared.entries.Names.{Names}
use Rattle.wasm_file.specs.declared.entries.ProducerField.{ProducerField}
use Rattle.wasm_file_laws.specs.CustomFits.{FitsFuncName, FitsNames, FitsValue, FitsField, FitsFields}
use Rattle.wasm_file_laws.proofs.EntriesFit.{finds_nothing_left, finds_remaining, finds_to_end, finds_counted, name_found}

-- ---- what a custom section holds

-- what stands behind a value
input_in : {A : Type 0} (r : Result (A × Input) ℕ) (x : A) → value_in r ≡ Some x → (t : Input) × (r ≡ Ok (x, t))
input_in {A} (Ok p) x is = (p.1, ap (λ o. elim o as (λ _. Result (A × Input) ℕ) [ Some y ↦ Ok (y, p.1) | None ↦ Err 0 ]) is)
input_in (Err place) x is = absurd (grind (arith, is))

-- what bytes hold has what the content has that is read
held_fits : {A : Type 0} {P : A → Type 0} {content : Input → Result (A × Input) ℕ} → Finds content P → (bytes : List ℕ) (x : A) → AreBytes bytes → held_by content bytes ≡ Some x → P x
held_fits {A} {P} {content} h bytes x all is =
    let s : Input = record { place = 0; bytes = bytes } in
    let r = input_in (used_up content s) x is in
    let used : Finds (used_up content) P = finds_bind h (λ x p. finds_bind finds_nothing_left (λ _ _. finds_pure x p)) in
    (used.found s r.0 x all r.1).0

-- ---- names

func_name_found : (funcs : ℕ) → Finds (func_name funcs) (FitsFuncName funcs)
unfolding func_name
func_name_found funcs = finds_bind (finds_index funcs) (λ i h. finds_bind name_found (λ n f. finds_pure (record { 0 = i }, n) (h, f)))

func_names_found : (funcs : ℕ) → Finds (func_names funcs) (λ xs. AllByRecursion (FitsFuncName funcs) xs × (rise_from 0 xs ≡ true))
unfolding func_names
func_names_found funcs = finds_weaker (finds_allowed (rise_from 0) (finds_counted (func_name_found funcs))) (λ xs h. (h.0.1, h.1))

subsection_names_found : (id funcs : ℕ) (names : Names) → FitsNames funcs names → Finds (subsection_names id funcs names) (FitsNames funcs)
unfolding subsection_names
subsection_names_found id funcs names h =
    finds_if (eqb id 0) (λ _. finds_bind name_found (λ n f. finds_pure (record names { «module» = Some n }) (record { module_fits = f; funcs_fit = h.funcs_fit; funcs_rise = h.funcs_rise }))) (λ _.
    finds_if (eqb id 1) (λ _. finds_bind (func_names_found funcs) (λ xs f. finds_pure (record names { funcs = xs }) (record { module_fits = h.module_fits; funcs_fit = f.0; funcs_rise = f.1 }))) (λ _.
    finds_bind finds_remaining (λ _ _. finds_pure names h)))

-- three steps may be taken two at first or two at last
regrouped : {A B C : Type 0} (r : Result (A × Input) ℕ) (f : A → Input → Result (B × Input) ℕ) (g : B → Input → Result (C × Input) ℕ) → followed (followed r f) g ≡ followed r (λ x rest. followed (f x rest) g)
regrouped (Ok p) f g = refl
regrouped (Err place) f g = refl

-- so what they find is the same
finds_regrouped : {A B C : Type 0} (r : Input → Result (A × Input) ℕ) (f : A → Input → Result (B × Input) ℕ) (g : B → Input → Result (C × Input) ℕ) {P : C → Type 0} → Finds ((r >>= f) >>= g) P → Finds (r >>= (λ x. f x >>= g)) P
finds_regrouped r f g h = record { found = λ s t x bytes is. h.found s t x bytes (regrouped (r s) f g ∙ is) }

-- the names so far fit, in a file of so many functions
abbrev AreNamesSoFar : ℕ → ℕ → Names → Type 0
AreNamesSoFar funcs limit names = FitsNames limit names × (limit ≡ funcs)

all_names_found : (funcs : ℕ) → Finds (all_names funcs) (FitsNames funcs)
unfolding all_names subsection
all_names_found funcs = finds_bind
    (finds_to_end (λ m. AreNamesSoFar funcs m.limit m.names)
    (λ m h. finds_bind (finds_allowed (λ id. leb m.next id) finds_byte) (λ id _. finds_bind finds_number32 (λ len _.
    finds_regrouped (frame len) (λ inside. within inside (subsection_names id m.limit m.names)) (λ names. pure (record m { next = id + 1; names = names }))
    (finds_bind (finds_framed len (subsection_names_found id m.limit m.names h.0)) (λ names fit. finds_pure (record m { next = id + 1; names = names }) (fit, h.1))))))
    (record { limit = funcs; next = 0; names = no_names }) (record { module_fits = tt; funcs_fit = tt; funcs_rise = refl }, refl))
    (λ m h. finds_pure m.names (subst (λ n. FitsNames n m.names) h.1 h.0))

pub names_fit : (funcs : ℕ) (bytes : List ℕ) (n : Names) → AreBytes bytes → names_of funcs bytes ≡ Some n → FitsNames funcs n
unfolding names_of
names_fit funcs bytes n all is = held_fits (all_names_found funcs) bytes n all is

-- ---- producers

producer_value_found : Finds producer_value FitsValue
unfolding producer_value
producer_value_found = finds_bind name_found (λ n f. finds_bind name_found (λ version v. finds_pure (record { name = n; version = version }) (record { name_fits = f; version_fits = v })))

producer_field_found : Finds producer_field FitsField
unfolding producer_field
producer_field_found = finds_bind name_found (λ n f. finds_regrouped number32 (λ count. entries count producer_value) (λ xs. pure (record { name = n; values = xs }))
    (finds_bind (finds_counted producer_value_found) (λ xs all. finds_pure (record { name = n; values = xs }) (record { name_fits = f; values_fit = all.1 }))))

producers_found : Finds producers FitsFields
unfolding producers
producers_found = finds_weaker (finds_counted producer_field_found) (λ xs all. all.1)

pub producers_fit : (bytes : List ℕ) (fields : List ProducerField) → AreBytes bytes → producers_of bytes ≡ Some fields → FitsFields fields
unfolding producers_of
producers_fit bytes fields all is = held_fits producers_found bytes fields all is
