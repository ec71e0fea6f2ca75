-- Custom sections that are written for names and producers are read again, and the module's own ones stay.
use Rattle.std.proofs.Common.{◌≡◌, ℕ, ◌<◌, ◌^◌, Bool, true, false, not, ◌&&◌, ◌==◌, List, [], ◌∷◌, ◌++◌, map, length, fold, codes, filter, filter_map, flat_map, Option, Some, None, is_some, if◌then◌else◌, refl, sym, ap, ap₂, ◌∙◌, arith, inl, inr, length-append, append-nil, lt-ltb, le-ltb, eqb-true}
use Rattle.std.specs.List.{AllByRecursion}
use Rattle.std.proofs.lemmas.Bool.{cases_Bool, cases_lt, not-true, not-false, and_parts, or_parts}
use Rattle.std.proofs.lemmas.List.{nil_from_length}
use Rattle.std.proofs.lemmas.List.Elements.{filter-append, filter_map-append}
use Rattle.std.proofs.lemmas.Option.{none-some}
use Rattle.wasm_bytes.specs.Spelling.{list_bytes, name_bytes}
use Rattle.wasm_file.specs.Customs.{names_of, producers_of}
use Rattle.wasm_file.specs.Spelling.{field_bytes, names_bytes, custom_bytes, custom_section, first_sections, middle_sections, last_sections, part_sections}
use Rattle.wasm_file.specs.declared.entries.Custom.{Custom}
use Rattle.wasm_file.specs.declared.entries.Names.{Names}
use Rattle.wasm_file.specs.declared.entries.ProducerField.{ProducerField}
use Rattle.wasm_file_laws.specs.FileFits.{AreShortSections}
use Rattle.wasm_file_laws.proofs.CustomsAgain.{names_again as names_read, producers_again as producers_read}
use Rattle.wasm_file_laws.proofs.EachItem.{all_apart}
use Rattle.wasm_core.specs.Contents.{Contents}
use Rattle.wasm_core.specs.Edits.{is_named}
use Rattle.wasm_emission.specs.Emission.{file_names, has_names, name_customs, producer_customs, file_customs, filed, filed_by, section_contents, first_too_large, longest_content, too_large}
use Rattle.wasm_core.specs.Parsing.{names_in, merged, no_names, all_names, producers_in, all_producers, is_kept}
use Rattle.wasm_emission.specs.Renumbering.{numbering}
use Rattle.wasm_core_laws.specs.Again.{IsWithinLimits, in_order}
use Rattle.wasm_core_laws.specs.ModuleFits.{FitsCustomEntry, IsModule, func_imported}
use Rattle.wasm_core_laws.proofs.NamesAgain.{names_fit, later-none}

-- ---- short sections

-- where none of these sections is too long, 32 bits count the bytes of each
none_large : (ss : List (ℕ × List ℕ)) → first_too_large longest_content ss ≡ None → AllByRecursion (λ s. length s.1 < 2 ^ 32) ss
unfolding first_too_large
none_large [] none = tt
none_large (s ∷ ss) none = elim (cases_lt longest_content (length s.1)) [
  | inl large ↦ let found = rw (lt-ltb longest_content (length s.1) large) at none in absurd (none-some s.0 (sym found))
  | inr short ↦ let later_none = rw (le-ltb longest_content (length s.1) short) at none in (omega arith, none_large ss later_none)
]

-- Where no section of a module's file is too long, 32 bits count the bytes of each.
pub sections_short : (m : Contents) → too_large m ≡ None → AreShortSections (filed m)
unfolding too_large section_contents
sections_short m none = none_large (part_sections (filed m)) none

-- 32 bits count the bytes of a section's content
abbrev IsShort : Custom → Type 0
IsShort c = length c.bytes < 2 ^ 32

-- the content behind a section's name is no longer
contents_short : (cs : List Custom) → AllByRecursion (λ (s : ℕ × List ℕ). length s.1 < 2 ^ 32) (map custom_section cs) → AllByRecursion IsShort cs
unfolding custom_bytes
contents_short [] short = tt
contents_short (c ∷ cs) short = (omega (arith, short.0, length-append (name_bytes c.name) c.bytes), contents_short cs short.1)

-- so they do of each custom section's content
customs_short : (m : Contents) → too_large m ≡ None → AllByRecursion IsShort (filed m).customs
unfolding part_sections
customs_short m none =
    let p = filed m in
    let P : ℕ × List ℕ → Type 0 = λ s. length s.1 < 2 ^ 32 in
    let after_first = (all_apart P (first_sections p) _ (sections_short m none)).1 in
    let after_middle = (all_apart P (middle_sections p) _ after_first).1 in
    contents_short p.customs ((all_apart P (last_sections p) (map custom_section p.customs) after_middle).1)

-- ---- what the module's own sections give

-- no names
own_names : (funcs : ℕ) (cs : List Custom) → AllByRecursion FitsCustomEntry cs → filter_map (names_in funcs) cs ≡ []
own_names funcs [] own = refl
own_names funcs (c ∷ cs) own =
    let other = not-true (is_named (codes "name") c) (and_parts _ _ own.0.kept).0 in
    rw other (own_names funcs cs own.1)

-- no fields
own_producers : (cs : List Custom) → AllByRecursion FitsCustomEntry cs → filter_map producers_in cs ≡ []
own_producers [] own = refl
own_producers (c ∷ cs) own =
    let other = not-true (is_named (codes "producers") c) (and_parts _ _ (and_parts _ _ own.0.kept).1).0 in
    rw other (own_producers cs own.1)

-- ---- names

-- a list without items
no_item : {A : Type 0} (xs : List A) → not (length xs == 0) ≡ false → xs ≡ []
no_item xs none = nil_from_length xs (eqb-true (length xs) 0 (not-false (length xs == 0) none))

-- an option without a value
nothing : {A : Type 0} (o : Option A) → is_some o ≡ false → o ≡ None
nothing None none = refl
nothing (Some x) none = absurd cc

-- names of which there are none
without_names : (n : Names) → has_names n ≡ false → no_names ≡ n
without_names n none =
    let parts = or_parts (is_some n.«module») (not (length n.funcs == 0)) none in
    ap₂ (λ (o : Option (List ℕ)) fs. record { «module» = o; funcs = fs }) (sym (nothing n.«module» parts.0)) (sym (no_item n.funcs parts.1))

-- names behind none
merged-none : (n : Names) → merged no_names n ≡ n
merged-none n = ap (λ (o : Option (List ℕ)). record { «module» = o; funcs = n.funcs }) (later-none n.«module»)

-- the names that the name section gives, where it is written
section_names : (funcs : ℕ) (wanted : Bool) (n : Names) → (length (names_bytes n) < 2 ^ 32 → names_of funcs (names_bytes n) ≡ Some n) → AllByRecursion IsShort (name_customs wanted n) → fold merged no_names (filter_map (names_in funcs) (name_customs wanted n)) ≡ (if wanted then n else no_names)
unfolding name_customs
section_names funcs false n reads short = refl
section_names funcs true n reads short = elim (cases_Bool (has_names n)) [
  | inl there ↦
      let content = rw there at short in
      rw (there, reads content.0) (merged-none n)
  | inr absent ↦ rw absent (without_names n absent)
]

-- ---- producers

-- the producers section of fields, where it is wanted and there is one
abbrev section_of : Bool → List ProducerField → List Custom
section_of wanted fs = if wanted && not (length fs == 0) then record { name = codes "producers"; bytes = list_bytes field_bytes fs } ∷ [] else []

-- the fields that the producers section gives, where it is written
section_fields : (wanted : Bool) (fs : List ProducerField) → (length (list_bytes field_bytes fs) < 2 ^ 32 → producers_of (list_bytes field_bytes fs) ≡ Some fs) → AllByRecursion IsShort (section_of wanted fs) → flat_map (λ fields. fields) (filter_map producers_in (section_of wanted fs)) ≡ (if wanted then fs else [])
section_fields false fs reads short = refl
section_fields true fs reads short = elim (cases_Bool (not (length fs == 0))) [
  | inl there ↦
      let content = rw there at short in
      rw (there, reads content.0) (append-nil fs)
  | inr absent ↦ rw absent (sym (no_item fs absent))
]

-- ---- what another section doesn't give

-- the producers section gives no names
fields_no_names : (funcs : ℕ) (wanted : Bool) (fs : List ProducerField) → filter_map (names_in funcs) (section_of wanted fs) ≡ []
fields_no_names funcs false fs = refl
fields_no_names funcs true fs = elim (cases_Bool (not (length fs == 0))) [ inl there ↦ rw there refl | inr absent ↦ rw absent refl ]

-- the name section gives no fields
names_no_fields : (wanted : Bool) (n : Names) → filter_map producers_in (name_customs wanted n) ≡ []
unfolding name_customs
names_no_fields false n = refl
names_no_fields true n = elim (cases_Bool (has_names n)) [ inl there ↦ rw there refl | inr absent ↦ rw absent refl ]

-- the producers section doesn't stay
fields_dropped : (debug wanted : Bool) (fs : List ProducerField) → filter (is_kept debug) (section_of wanted fs) ≡ []
fields_dropped debug false fs = refl
fields_dropped debug true fs = elim (cases_Bool (not (length fs == 0))) [ inl there ↦ rw there refl | inr absent ↦ rw absent refl ]

-- the name section doesn't stay
names_dropped : (debug wanted : Bool) (n : Names) → filter (is_kept debug) (name_customs wanted n) ≡ []
unfolding name_customs
names_dropped debug false n = refl
names_dropped debug true n = elim (cases_Bool (has_names n)) [ inl there ↦ rw there refl | inr absent ↦ rw absent refl ]

-- ---- all sections of a file

-- The names that all name sections of the file give, among as many functions as there are.
pub names_again : (m : Contents) → IsModule m → IsWithinLimits m → all_names (length (in_order func_imported m.funcs)) (filed m).customs ≡ (if m.config.names then file_names m (numbering m) else no_names)
unfolding all_names filed_by file_customs producer_customs
names_again m is within =
    let n = file_names m (numbering m) in
    let first = name_customs m.config.names n in
    let second = section_of m.config.producers m.producers in
    let funcs = length (in_order func_imported m.funcs) in
    let given = names_in funcs in
    let parts : filter_map given (first ++ (second ++ m.customs)) ≡ filter_map given first =
    filter_map-append given first (second ++ m.customs)
    ∙ ap (λ ns. filter_map given first ++ ns) (filter_map-append given second m.customs ∙ ap₂ (λ a b. a ++ b) (fields_no_names funcs m.config.producers m.producers) (own_names funcs m.customs is.customs))
    ∙ append-nil (filter_map given first) in
    let short = (all_apart IsShort first (second ++ m.customs) (customs_short m within.short)).0 in
    ap (fold merged no_names) parts ∙ section_names funcs m.config.names n (names_read funcs n (names_fit m is within)) short

-- The fields that all producers sections of the file give.
pub producers_again : (m : Contents) → IsModule m → IsWithinLimits m → all_producers (filed m).customs ≡ (if m.config.producers then m.producers else [])
unfolding all_producers filed_by file_customs producer_customs
producers_again m is within =
    let first = name_customs m.config.names (file_names m (numbering m)) in
    let second = section_of m.config.producers m.producers in
    let parts : filter_map producers_in (first ++ (second ++ m.customs)) ≡ filter_map producers_in second =
    filter_map-append producers_in first (second ++ m.customs)
    ∙ ap₂ (λ a b. a ++ b) (names_no_fields m.config.names (file_names m (numbering m))) (filter_map-append producers_in second m.customs)
    ∙ ap (λ fs. filter_map producers_in second ++ fs) (own_producers m.customs is.customs)
    ∙ append-nil (filter_map producers_in second) in
    let behind_first = (all_apart IsShort first (second ++ m.customs) (customs_short m within.short)).1 in
    let short = (all_apart IsShort second m.customs behind_first).0 in
    ap (flat_map (λ fields. fields)) parts ∙ section_fields m.config.producers m.producers (producers_read m.producers is.producers) short

-- The sections that stay are the module's own.
pub customs_again : (m : Contents) (debug : Bool) → filter (is_kept debug) (filed m).customs ≡ filter (is_kept debug) m.customs
unfolding filed_by file_customs producer_customs
customs_again m debug =
    let first = name_customs m.config.names (file_names m (numbering m)) in
    let second = section_of m.config.producers m.producers in
    filter-append (is_kept debug) first (second ++ m.customs)
    ∙ ap₂ (λ a b. a ++ b) (names_dropped debug m.config.names (file_names m (numbering m))) (filter-append (is_kept debug) second m.customs ∙ ap (λ cs. cs ++ filter (is_kept debug) m.customs) (fields_dropped debug m.config.producers m.producers))
