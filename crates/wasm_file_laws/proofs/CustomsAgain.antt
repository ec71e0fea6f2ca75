-- Names and producers that are written are read again.
use Rattle.std.proofs.Common.{◌≡◌, ℕ, zero, suc, ◌+◌, ◌^◌, ◌<◌, ◌≤◌, true, false, List, [], ◌∷◌, ◌++◌, length, Option, Some, None, Result, Ok, refl, subst, append-nil, arith, inl, inr, ltb, leb, eqb}
use Rattle.std.specs.List.{flat_map, AllByRecursion}
use Rattle.std.proofs.lemmas.Bool.{lt-ltb, le-ltb, le-leb, ne_eqb, cases_lt}
use Rattle.std.proofs.lemmas.List.{length-append, take_at, drop_at}
use Rattle.wasm_bytes.specs.Reading.{Input, ◌>>=◌, pure, frame, within, until_end}
use Rattle.wasm_bytes.specs.Numbers.{shortest, number_bytes}
use Rattle.wasm_bytes.specs.Items.{index}
use Rattle.wasm_bytes.specs.Spelling.{list_bytes, name_bytes, framed_bytes}
use Rattle.wasm_bytes.specs.Reads.{Reads}
use Rattle.wasm_bytes.proofs.ReadAgain.{reads_bind, reads_end, reads_byte, reads_allowed, reads_entries, reads_list, number32_again}
use Rattle.wasm_types.specs.declared.ids.FuncId.{FuncId}
use Rattle.wasm_ops_laws.specs.Fits.{IsIndex}
use Rattle.wasm_file.specs.Customs.{func_name, rise_from, func_names, subsection_names, subsection, no_names, all_names, names_of, producer_value, producer_field, producers, producers_of}
use Rattle.wasm_file.specs.Spelling.{section_bytes, func_name_bytes, module_name_bytes, func_names_bytes, names_bytes, value_bytes, field_bytes}
use Rattle.wasm_file.specs.declared.entries.Names.{Names}
use Rattle.wasm_file.specs.declared.entries.ProducerField.{ProducerField}
use Rattle.wasm_file.specs.declared.entries.ProducerValue.{ProducerValue}
use Rattle.wasm_file_laws.specs.CustomFits.{IsName, FitsFuncName, FitsNames, FitsValue, FitsField, FitsFields}
use Rattle.wasm_file_laws.specs.FileFits.{FitsName}
use Rattle.wasm_file_laws.proofs.EntriesAgain.{name_again}

-- ---- how many entries bytes spell

-- a number has a byte
some_number : (n : ℕ) → 0 < length (number_bytes n)
unfolding number_bytes shortest
some_number n = elim (cases_lt n 128) [
  | inl small ↦ rw (lt-ltb n 128 small) (omega arith)
  | inr big ↦ rw (le-ltb n 128 big) (omega arith)
]

-- there are no more entries than bytes
few_entries : {A : Type 0} (spell : A → List ℕ) → ((x : A) → 0 < length (spell x)) → (xs : List A) → length xs ≤ length (flat_map spell xs)
few_entries spell some [] = omega arith
few_entries spell some (x ∷ xs) = omega (arith, some x, few_entries spell some xs, length-append (spell x) (flat_map spell xs))

-- no more items than bytes, where each has some
few_listed : {A : Type 0} (spell : A → List ℕ) → ((x : A) → 0 < length (spell x)) → (xs : List A) → length xs ≤ length (list_bytes spell xs)
unfolding list_bytes
few_listed spell some xs = omega (arith, few_entries spell some xs, length-append (number_bytes (length xs)) (flat_map spell xs))

-- ---- steps up to the end

-- Step by step, up to the end, the bytes take one value to another.
record AreSteps {S : Type 0} (step : S → Input → Result (S × Input) ℕ) (x : S) (bytes : List ℕ) (y : S) : Type 0 where
  stepped : (n : ℕ) → length bytes ≤ n → (place : ℕ) → (after : ℕ) × (until_end n step x (record { place = place; bytes = bytes }) ≡ Ok (y, record { place = after; bytes = [] }))

-- at the end no step is taken
ended : {S : Type 0} (step : S → Input → Result (S × Input) ℕ) (x : S) (n : ℕ) → 0 ≤ n → (place : ℕ) → (after : ℕ) × (until_end n step x (record { place = place; bytes = [] }) ≡ Ok (x, record { place = after; bytes = [] }))
unfolding until_end
ended step x zero few place = (place, refl)
ended step x (suc n) few place = (place, refl)

-- one step before others
step_more : {S : Type 0} (step : S → Input → Result (S × Input) ℕ) {x y z : S} {first others : List ℕ} → 0 < length first → Reads (step x) first y → AreSteps step y others z → (n : ℕ) → length (first ++ others) ≤ n → (place : ℕ) → (after : ℕ) × (until_end n step x (record { place = place; bytes = first ++ others }) ≡ Ok (z, record { place = after; bytes = [] }))
unfolding until_end
step_more step {x} {y} {z} {first} {others} some h more zero few place = absurd (omega (arith, some, few, length-append first others))
step_more step {x} {y} {z} {first} {others} some h more (suc n) few place =
    let left : eqb (length (first ++ others)) 0 ≡ false = ne_eqb (length (first ++ others)) 0 (omega (arith, some, length-append first others)) in
    let p = h.again place others in
    let q = more.stepped n (omega (arith, some, few, length-append first others)) p.0 in
    (q.0, rw (left, p.1) q.1)

-- no step, at the end
steps_none : {S : Type 0} (step : S → Input → Result (S × Input) ℕ) (x : S) → AreSteps step x [] x
steps_none step x = record { stepped = ended step x }

-- one step more in front
steps_more : {S : Type 0} (step : S → Input → Result (S × Input) ℕ) {x y z : S} {first others : List ℕ} → 0 < length first → Reads (step x) first y → AreSteps step y others z → AreSteps step x (first ++ others) z
steps_more step some h more = record { stepped = λ n few place. step_more step some h more n few place }

-- one step alone
steps_last : {S : Type 0} (step : S → Input → Result (S × Input) ℕ) {x y : S} {first : List ℕ} → 0 < length first → Reads (step x) first y → AreSteps step x first y
steps_last step {x} {y} {first} some h = subst (λ bytes. AreSteps step x bytes y) (append-nil first) (steps_more step some h (steps_none step y))

-- ---- names

-- the content of a frame, and what is made of it
reads_frame : {A B : Type 0} {content : Input → Result (A × Input) ℕ} (g : A → B) {a : List ℕ} {x : A} → Reads content a x → Reads (frame (length a) >>= (λ inside. within inside content >>= (λ x. pure (g x)))) a (g x)
reads_frame {content} g {a} {x} h = record {
  again = λ place rest.
      let p = h.again place [] in
      let inner : content (record { place = place; bytes = a }) ≡ Ok (x, record { place = p.0; bytes = [] }) = rw append-nil at p.1 in
      let long : ltb (length (a ++ rest)) (length a) ≡ false = le-ltb _ _ (omega (arith, length-append a rest)) in
      (place + length a, rw (long, take_at a rest (length a) refl, drop_at a rest (length a) refl, inner) refl);
}

-- a subsection, whose id is none of those before it
subsection_again : (limit next id : ℕ) (names after : Names) (content : List ℕ) → next ≤ id → length content < 2 ^ 32 → Reads (subsection_names id limit names) content after → Reads (subsection (record { limit = limit; next = next; names = names })) (section_bytes (id, content)) (record { limit = limit; next = id + 1; names = after })
unfolding subsection section_bytes framed_bytes
subsection_again limit next id names after content le few h =
    reads_bind _ (reads_allowed (λ id. leb next id) (reads_byte id) (le-leb next id le))
    (reads_bind _ (number32_again (length content) few)
    (reads_frame (λ names. record { limit = limit; next = id + 1; names = names }) h))

-- a section has some bytes
some_section : (id : ℕ) (content : List ℕ) → 0 < length (section_bytes (id, content))
unfolding section_bytes
some_section id content = omega arith

-- an index is read again
index_at : (n i : ℕ) → IsIndex n i → Reads (index n) (number_bytes i) i
unfolding index
index_at n i h = reads_allowed (λ i. ltb i n) (number32_again i h.1) (lt-ltb i n h.0)

func_name_again : (funcs : ℕ) (n : FuncId × List ℕ) → FitsFuncName funcs n → Reads (func_name funcs) (func_name_bytes n) n
unfolding func_name func_name_bytes
func_name_again funcs n h = reads_bind _ (index_at funcs n.0.0 h.0) (reads_end (λ text. (record { 0 = n.0.0 }, text)) (name_again n.1 h.1))

func_names_again : (funcs : ℕ) (xs : List (FuncId × List ℕ)) → length xs < 2 ^ 32 → AllByRecursion (FitsFuncName funcs) xs → rise_from 0 xs ≡ true → Reads (func_names funcs) (list_bytes func_name_bytes xs) xs
unfolding func_names
func_names_again funcs xs few all rise = reads_allowed (rise_from 0) (reads_list (FitsFuncName funcs) (func_name_again funcs) xs few all) rise

some_func_name : (n : FuncId × List ℕ) → 0 < length (func_name_bytes n)
unfolding func_name_bytes
some_func_name n = omega (arith, some_number n.0.0, length-append (number_bytes n.0.0) (name_bytes n.1))

-- how long the content of a subsection is
section_length : (id : ℕ) (content : List ℕ) → length content ≤ length (section_bytes (id, content))
unfolding section_bytes framed_bytes
section_length id content = omega (arith, length-append (number_bytes (length content)) content)

-- what a subsection of each kind gives
module_part : (funcs : ℕ) (text : List ℕ) → FitsName text → Reads (subsection_names 0 funcs no_names) (name_bytes text) (record { «module» = Some text; funcs = [] })
unfolding subsection_names
module_part funcs text h = reads_end (λ n. record { «module» = Some n; funcs = [] }) (name_again text h)

func_part : (funcs : ℕ) (title : Option (List ℕ)) (xs : List (FuncId × List ℕ)) (content : List ℕ) → Reads (func_names funcs) content xs → Reads (subsection_names 1 funcs (record { «module» = title; funcs = [] })) content (record { «module» = title; funcs = xs })
unfolding subsection_names
func_part funcs title xs content h = reads_end (λ xs. record { «module» = title; funcs = xs }) h

-- the names of functions, behind a module's name
func_steps : (funcs next : ℕ) (title : Option (List ℕ)) (xs : List (FuncId × List ℕ)) → next ≤ 1 → AllByRecursion (FitsFuncName funcs) xs → rise_from 0 xs ≡ true → length (func_names_bytes xs) < 2 ^ 32 → (after : ℕ) × AreSteps subsection (record { limit = funcs; next = next; names = record { «module» = title; funcs = [] } }) (func_names_bytes xs) (record { limit = funcs; next = after; names = record { «module» = title; funcs = xs } })
func_steps funcs next title [] le all rise few = (next, steps_none subsection _)
func_steps funcs next title (x ∷ xs) le all rise few =
    let some : eqb (length (x ∷ xs)) 0 ≡ false = ne_eqb (length (x ∷ xs)) 0 (omega arith) in
    let content : List ℕ = list_bytes func_name_bytes (x ∷ xs) in
    let short : length (section_bytes (1, content)) < 2 ^ 32 = rw some at few in
    let fits : length content < 2 ^ 32 = omega (arith, short, section_length 1 content) in
    let read = func_names_again funcs (x ∷ xs) (omega (arith, fits, few_listed func_name_bytes some_func_name (x ∷ xs))) all rise in
    (2, rw some (steps_last subsection (some_section 1 content) (subsection_again funcs next 1 (record { «module» = title; funcs = [] }) (record { «module» = title; funcs = x ∷ xs }) content le fits (func_part funcs title (x ∷ xs) content read))))

-- the module's name, if any, and those of functions
name_steps : (funcs : ℕ) (title : Option (List ℕ)) (xs : List (FuncId × List ℕ)) → IsName title → AllByRecursion (FitsFuncName funcs) xs → rise_from 0 xs ≡ true → length (module_name_bytes title ++ func_names_bytes xs) < 2 ^ 32 → (after : ℕ) × AreSteps subsection (record { limit = funcs; next = 0; names = no_names }) (module_name_bytes title ++ func_names_bytes xs) (record { limit = funcs; next = after; names = record { «module» = title; funcs = xs } })
name_steps funcs None xs named all rise few = func_steps funcs 0 None xs (omega arith) all rise few
name_steps funcs (Some text) xs named all rise few =
    let content : List ℕ = name_bytes text in
    let lengths : length (section_bytes (0, content) ++ func_names_bytes xs) ≡ length (section_bytes (0, content)) + length (func_names_bytes xs) = length-append (section_bytes (0, content)) (func_names_bytes xs) in
    let fits : length content < 2 ^ 32 = omega (arith, few, lengths, section_length 0 content) in
    let others = func_steps funcs 1 (Some text) xs (omega arith) all rise (omega (arith, few, lengths)) in
    (others.0, steps_more subsection (some_section 0 content) (subsection_again funcs 0 0 no_names (record { «module» = Some text; funcs = [] }) content (omega arith) fits (module_part funcs text named)) others.1)

pub names_again : (funcs : ℕ) (n : Names) → FitsNames funcs n → length (names_bytes n) < 2 ^ 32 → names_of funcs (names_bytes n) ≡ Some n
unfolding names_of all_names names_bytes
names_again funcs n h few =
    let steps = name_steps funcs n.«module» n.funcs h.module_fits h.funcs_fit h.funcs_rise few in
    let bytes : List ℕ = module_name_bytes n.«module» ++ func_names_bytes n.funcs in
    let p = steps.1.stepped (length bytes) (omega arith) 0 in
    rw p.1 refl

-- ---- producers

value_again : (v : ProducerValue) → FitsValue v → Reads producer_value (value_bytes v) v
unfolding producer_value value_bytes
value_again v h = reads_bind _ (name_again v.name h.name_fits) (reads_end (λ version. record { name = v.name; version = version }) (name_again v.version h.version_fits))

-- the field fits, and 32 bits count its values
record IsFewField (f : ProducerField) : Type 0 where
  fits : FitsField f
  few : length f.values < 2 ^ 32

field_again : (f : ProducerField) → IsFewField f → Reads producer_field (field_bytes f) f
unfolding producer_field field_bytes list_bytes
field_again f h =
    reads_bind _ (name_again f.name h.fits.name_fits)
    (reads_bind _ (number32_again (length f.values) h.few)
    (reads_end (λ values. record { name = f.name; values = values }) (reads_entries FitsValue value_again f.values h.fits.values_fit)))

some_name : (text : List ℕ) → 0 < length (name_bytes text)
unfolding name_bytes
some_name text = omega (arith, some_number (length text), length-append (number_bytes (length text)) text)

some_value : (v : ProducerValue) → 0 < length (value_bytes v)
unfolding value_bytes
some_value v = omega (arith, some_name v.name, length-append (name_bytes v.name) (name_bytes v.version))

-- a field has no more values than bytes, and a byte besides
few_values : (f : ProducerField) → length f.values < length (field_bytes f)
unfolding field_bytes
few_values f = omega (arith, some_name f.name, few_listed value_bytes some_value f.values, length-append (name_bytes f.name) (list_bytes value_bytes f.values))

some_field : (f : ProducerField) → 0 < length (field_bytes f)
some_field f = omega (arith, few_values f)

-- the values of each field are few, where the bytes of all are
few_fields : (fs : List ProducerField) → FitsFields fs → length (flat_map field_bytes fs) < 2 ^ 32 → AllByRecursion IsFewField fs
few_fields [] all few = tt
few_fields (f ∷ fs) all few =
    let lengths : length (field_bytes f ++ flat_map field_bytes fs) ≡ length (field_bytes f) + length (flat_map field_bytes fs) = length-append (field_bytes f) (flat_map field_bytes fs) in
    (record { fits = all.0; few = omega (arith, few, lengths, few_values f) }, few_fields fs all.1 (omega (arith, few, lengths)))

-- the bytes of the entries are among those of the list
entries_within : {A : Type 0} (spell : A → List ℕ) (xs : List A) → length (flat_map spell xs) ≤ length (list_bytes spell xs)
unfolding list_bytes
entries_within spell xs = omega (arith, length-append (number_bytes (length xs)) (flat_map spell xs))

producers_read : (fs : List ProducerField) → FitsFields fs → length (list_bytes field_bytes fs) < 2 ^ 32 → Reads producers (list_bytes field_bytes fs) fs
unfolding producers
producers_read fs all few =
    reads_list IsFewField field_again fs (omega (arith, few, few_listed field_bytes some_field fs)) (few_fields fs all (omega (arith, few, entries_within field_bytes fs)))

pub producers_again : (fs : List ProducerField) → FitsFields fs → length (list_bytes field_bytes fs) < 2 ^ 32 → producers_of (list_bytes field_bytes fs) ≡ Some fs
unfolding producers_of
producers_again fs all few =
    let p = (producers_read fs all few).again 0 [] in
    let read : producers (record { place = 0; bytes = list_bytes field_bytes fs }) ≡ Ok (fs, record { place = p.0; bytes = [] }) = rw append-nil at p.1 in
    rw read refl
