-- The bytes of a module are framed sections.
use Rattle.std.proofs.Common.{◌≡◌, ℕ, zero, suc, ◌^◌, ◌<◌, Bool, true, false, not, List, [], ◌∷◌, ◌++◌, map, length, Option, Some, None, Result, Ok, Err, refl, sym, ap, subst, ◌∙◌, append_assoc, append-nil, arith, inl, inr, ltb, leb, eqb, codes, ◌&&◌}
use Rattle.std.specs.List.{All, flat_map, filter, AllByRecursion}
use Rattle.std.specs.Str.{IsAscii, is_utf8}
use Rattle.std.proofs.lemmas.Bool.{cases_Bool, ltb-false}
use Rattle.std.proofs.lemmas.List.{map-append}
use Rattle.std.proofs.lemmas.List.Concat.{flat_map-append}
use Rattle.std.proofs.lemmas.List.Elements.{recursion_from_All}
use Rattle.std.proofs.lemmas.Str.{is_utf8-from_IsUtf8, IsUtf8-from_ascii}
use Rattle.wasm_bytes.specs.Spelling.{name_bytes}
use Rattle.wasm_types.specs.declared.ids.FuncId.{FuncId}
use Rattle.wasm_file.specs.Frames.{preamble_bytes, frames_of}
use Rattle.wasm_file.specs.Spelling.{section_bytes, custom_section, counted_section, list_section, start_section, data_count_section, first_sections, middle_sections, last_sections, part_sections}
use Rattle.wasm_file.specs.declared.entries.Custom.{Custom}
use Rattle.wasm_file.specs.declared.entries.Names.{Names}
use Rattle.wasm_file.specs.declared.entries.Parts.{Parts}
use Rattle.wasm_core.specs.Contents.{Contents}
use Rattle.wasm_core.specs.Parsing.{read_fault}
use Rattle.wasm_core.specs.declared.faults.ParseFault.{ParseFault}
use Rattle.wasm_core.specs.declared.faults.ParseFault.TheVariants as faults
use Rattle.wasm_emission.specs.Emission.{filed_by, filed, section_contents, bytes_of, first_too_large, too_large, longest_content, has_names, name_customs, producer_customs, file_customs, file_names}
use Rattle.wasm_emission.specs.Renumbering.{numbering}
use Rattle.wasm_sections.specs.Replaced.{is_debug_name, kept_frame, put_section, replaced_frames, replaced, split_debug_info}
use Rattle.wasm_sections_laws.specs.Framed.{without_name, with_name, named_bytes}
use Rattle.wasm_sections_laws.specs.Written.{IsWritable, core_sections, named_sections, module_frames, linked, split_sections, split_bytes}
use Rattle.wasm_sections_laws.proofs.FramesAgain.{IsFramed, core_framed, custom_framed, frames_again, kept_named, kept_again, kept_core, kept_customs, core_bytes, customs_bytes}

-- ---- what holds of each section

all_joined : {A : Type 0} (P : A → Type 0) (xs ys : List A) → AllByRecursion P xs → AllByRecursion P ys → AllByRecursion P (xs ++ ys)
all_joined P [] ys first second = second
all_joined P (x ∷ xs) ys first second = (first.0, all_joined P xs ys first.1 second)

all_left : {A : Type 0} (P : A → Type 0) (xs ys : List A) → AllByRecursion P (xs ++ ys) → AllByRecursion P xs
all_left P [] ys all = tt
all_left P (x ∷ xs) ys all = (all.0, all_left P xs ys all.1)

all_right : {A : Type 0} (P : A → Type 0) (xs ys : List A) → AllByRecursion P (xs ++ ys) → AllByRecursion P ys
all_right P [] ys all = all
all_right P (x ∷ xs) ys all = all_right P xs ys all.1

-- ---- sections that aren't custom

-- the id of such a section
abbrev IsCore : ℕ × List ℕ → Type 0
IsCore s = (eqb s.0 0 ≡ false) × (leb s.0 13 ≡ true)

core_counted : (id count : ℕ) (bytes : List ℕ) → eqb id 0 ≡ false → leb id 13 ≡ true → AllByRecursion IsCore (counted_section id count bytes)
core_counted id count bytes core allowed =
    elim (cases_Bool (eqb count 0)) [
      | inl none ↦ rw none tt
      | inr some ↦ rw some ((core, allowed), tt)
    ]

core_list : {A : Type 0} (id : ℕ) (spell : A → List ℕ) (xs : List A) → eqb id 0 ≡ false → leb id 13 ≡ true → AllByRecursion IsCore (list_section id spell xs)
unfolding list_section
core_list id spell xs core allowed = core_counted id (length xs) (flat_map spell xs) core allowed

core_start : (start : Option FuncId) → AllByRecursion IsCore (start_section start)
core_start (Some func) = ((refl, refl), tt)
core_start None = tt

core_data_count : (count : Option ℕ) → AllByRecursion IsCore (data_count_section count)
core_data_count (Some n) = ((refl, refl), tt)
core_data_count None = tt

core_first : (p : Parts) → AllByRecursion IsCore (first_sections p)
unfolding first_sections
core_first p = all_joined IsCore _ _ (core_list 1 _ p.types refl refl) (all_joined IsCore _ _ (core_list 2 _ p.imports refl refl) (all_joined IsCore _ _ (core_list 3 _ p.functions refl refl) (core_list 4 _ p.tables refl refl)))

core_middle : (p : Parts) → AllByRecursion IsCore (middle_sections p)
unfolding middle_sections
core_middle p = all_joined IsCore _ _ (core_list 5 _ p.memories refl refl) (all_joined IsCore _ _ (core_list 13 _ p.tags refl refl) (all_joined IsCore _ _ (core_list 6 _ p.globals refl refl) (core_list 7 _ p.exports refl refl)))

core_last : (p : Parts) → AllByRecursion IsCore (last_sections p)
unfolding last_sections
core_last p = all_joined IsCore _ _ (core_start p.start) (all_joined IsCore _ _ (core_list 9 _ p.elems refl refl) (all_joined IsCore _ _ (core_data_count p.data_count) (all_joined IsCore _ _ (core_list 10 _ p.bodies refl refl) (core_list 11 _ p.segments refl refl))))

all_core : (p : Parts) → AllByRecursion IsCore (core_sections p)
all_core p = all_joined IsCore _ _ (core_first p) (all_joined IsCore _ _ (core_middle p) (core_last p))

-- ---- lengths

-- 32 bits count the content
abbrev IsShort : ℕ × List ℕ → Type 0
IsShort s = length s.1 < 2 ^ 32

all_short : (ss : List (ℕ × List ℕ)) → first_too_large longest_content ss ≡ None → AllByRecursion IsShort ss
unfolding first_too_large
all_short [] none = tt
all_short (s ∷ ss) none =
    elim (cases_Bool (ltb longest_content (length s.1))) [
      | inl long ↦ let lost : ◌≡◌ {A = Option ℕ} (Some s.0) None = rw long at none in absurd (grind (arith, lost))
      | inr short ↦ let rest : first_too_large longest_content ss ≡ None = rw short at none in let few = ltb-false longest_content (length s.1) short in (omega (arith, few), all_short ss rest)
    ]

-- ---- names of custom sections

-- a name in UTF-8
abbrev IsText : Custom → Type 0
IsText c = is_utf8 c.name ≡ true

below_128 : (bytes : List ℕ) → AllByRecursion (λ b. b < 128) bytes → IsAscii bytes
below_128 [] all i = omega arith
below_128 (b ∷ bs) all zero = all.0
below_128 (b ∷ bs) all (suc i) = below_128 bs all.1 i

ascii_text : (bytes : List ℕ) → AllByRecursion (λ b. b < 128) bytes → is_utf8 bytes ≡ true
ascii_text bytes all = is_utf8-from_IsUtf8 bytes (IsUtf8-from_ascii bytes (below_128 bytes all))

name_is_text : is_utf8 (codes "name") ≡ true
name_is_text = ascii_text (codes "name") (omega arith, (omega arith, (omega arith, (omega arith, tt))))

producers_is_text : is_utf8 (codes "producers") ≡ true
producers_is_text = ascii_text (codes "producers") (omega arith, (omega arith, (omega arith, (omega arith, (omega arith, (omega arith, (omega arith, (omega arith, (omega arith, tt)))))))))

name_texts : (wanted : Bool) (n : Names) → AllByRecursion IsText (name_customs wanted n)
unfolding name_customs
name_texts wanted n =
    elim (cases_Bool (wanted && has_names n)) [
      | inl some ↦ rw some (name_is_text, tt)
      | inr none ↦ rw none tt
    ]

producer_texts : (m : Contents) → AllByRecursion IsText (producer_customs m)
unfolding producer_customs
producer_texts m =
    elim (cases_Bool (m.config.producers && not (eqb (length m.producers) 0))) [
      | inl some ↦ rw some (producers_is_text, tt)
      | inr none ↦ rw none tt
    ]

file_texts : (m : Contents) → IsWritable m → AllByRecursion IsText (filed m).customs
unfolding filed_by file_customs
file_texts m h = all_joined IsText _ _ (name_texts m.config.names (file_names m (numbering m))) (all_joined IsText _ _ (producer_texts m) (recursion_from_All IsText m.customs h.texts))

-- ---- all sections of a module's file

core_all_framed : (ss : List (ℕ × List ℕ)) → AllByRecursion IsCore ss → AllByRecursion IsShort ss → AllByRecursion IsFramed (map without_name ss)
core_all_framed [] core short = tt
core_all_framed (s ∷ ss) core short = (core_framed s.0 s.1 core.0.0 core.0.1 short.0, core_all_framed ss core.1 short.1)

customs_all_framed : (cs : List Custom) → AllByRecursion IsText cs → AllByRecursion IsShort (map custom_section cs) → AllByRecursion IsFramed (map with_name cs)
customs_all_framed [] texts short = tt
customs_all_framed (c ∷ cs) texts short = (custom_framed c texts.0 short.0, customs_all_framed cs texts.1 short.1)

-- the sections in their order, by the three runs and the custom ones
apart : (p : Parts) → part_sections p ≡ core_sections p ++ map custom_section p.customs
unfolding part_sections
apart p =
    let customs : List (ℕ × List ℕ) = map custom_section p.customs in
    sym (append_assoc (first_sections p) (middle_sections p ++ last_sections p) customs ∙ ap (λ ss. first_sections p ++ ss) (append_assoc (middle_sections p) (last_sections p) customs))

all_framed : (m : Contents) → IsWritable m → AllByRecursion IsFramed (named_sections m)
unfolding too_large section_contents
all_framed m h =
    let p : Parts = filed m in
    let customs : List (ℕ × List ℕ) = map custom_section p.customs in
    let short : AllByRecursion IsShort (core_sections p ++ customs) = subst (AllByRecursion IsShort) (apart p) (all_short (part_sections p) h.short) in
    all_joined IsFramed _ _
    (core_all_framed (core_sections p) (all_core p) (all_left IsShort (core_sections p) customs short))
    (customs_all_framed p.customs (file_texts m h) (all_right IsShort (core_sections p) customs short))

named_are_written : (m : Contents) → flat_map section_bytes (section_contents m) ≡ flat_map named_bytes (named_sections m)
unfolding section_contents
named_are_written m =
    let p : Parts = filed m in
    let core : List (ℕ × List ℕ) = core_sections p in
    let customs : List (ℕ × List ℕ) = map custom_section p.customs in
    let spelled : flat_map section_bytes (part_sections p) ≡ flat_map section_bytes core ++ flat_map section_bytes customs = ap (flat_map section_bytes) (apart p) ∙ flat_map-append section_bytes core customs in
    let named : flat_map named_bytes (named_sections m) ≡ flat_map section_bytes core ++ flat_map section_bytes customs = rw (flat_map-append named_bytes (map without_name core) (map with_name p.customs), core_bytes core, customs_bytes p.customs) refl in
    spelled ∙ sym named

written_bytes : (m : Contents) → bytes_of m ≡ preamble_bytes ++ flat_map named_bytes (named_sections m)
unfolding bytes_of
written_bytes m = ap (λ bytes. preamble_bytes ++ bytes) (named_are_written m)

pub written_frames : (m : Contents) → IsWritable m → frames_of (bytes_of m) ≡ Ok (module_frames m)
unfolding module_frames
written_frames m h = ap frames_of (written_bytes m) ∙ frames_again (named_sections m) (all_framed m h)

-- ---- what is left

-- the sections that are kept
kept_sections : (goes : List ℕ → Bool) (p : Parts) → flat_map (kept_named goes) (map without_name (core_sections p) ++ map with_name p.customs) ≡ flat_map section_bytes (core_sections p) ++ flat_map section_bytes (map custom_section (filter (λ c. not (goes c.name)) p.customs))
kept_sections goes p = rw (flat_map-append (kept_named goes) (map without_name (core_sections p)) (map with_name p.customs), kept_core goes (core_sections p), kept_customs goes p.customs) refl

kept_at_places : (goes : List ℕ → Bool) (m : Contents) → flat_map (kept_frame goes (bytes_of m)) (module_frames m) ≡ flat_map section_bytes (core_sections (filed m)) ++ flat_map section_bytes (map custom_section (filter (λ c. not (goes c.name)) (filed m).customs))
unfolding module_frames
kept_at_places goes m = kept_again goes (named_sections m) preamble_bytes (bytes_of m) (written_bytes m) ∙ kept_sections goes (filed m)

-- the kept sections and one more, as sections of a file
rejoined : (core : List (ℕ × List ℕ)) (cs : List Custom) (c : Custom) → (flat_map section_bytes core ++ flat_map section_bytes (map custom_section cs)) ++ section_bytes (custom_section c) ≡ flat_map section_bytes (core ++ map custom_section (cs ++ c ∷ []))
rejoined core cs c =
    let last : List (ℕ × List ℕ) = custom_section c ∷ [] in
    let one : flat_map section_bytes last ≡ section_bytes (custom_section c) = append-nil (section_bytes (custom_section c)) in
    rw (map-append custom_section cs (c ∷ []), flat_map-append section_bytes core (map custom_section cs ++ last), flat_map-append section_bytes (map custom_section cs) last, one) (append_assoc (flat_map section_bytes core) (flat_map section_bytes (map custom_section cs)) (section_bytes (custom_section c)))

left_bytes : (m : Contents) (url : List ℕ) → replaced_frames is_debug_name (codes "external_debug_info") (name_bytes url) (bytes_of m) (module_frames m) ≡ split_bytes url m
unfolding replaced_frames put_section split_bytes split_sections
left_bytes m url =
    let goes : List ℕ → Bool = is_debug_name in
    let cs : List Custom = filter (λ c. not (goes c.name)) (filed m).customs in
    ap (λ bytes. preamble_bytes ++ bytes) (ap (λ bytes. bytes ++ section_bytes (custom_section (linked url))) (kept_at_places goes m) ∙ rejoined (core_sections (filed m)) cs (linked url))

pub written_split : (m : Contents) (url : List ℕ) → IsWritable m → split_debug_info url (bytes_of m) ≡ Ok (split_bytes url m)
unfolding split_debug_info replaced
written_split m url h = rw (written_frames m h) (ap (λ v. Ok v) (left_bytes m url))

-- ---- the same of bytes that are a module's

split_of : (m : Contents) (url wasm : List ℕ) → wasm ≡ bytes_of m → too_large m ≡ None → All IsText m.customs → split_debug_info url wasm ≡ Ok (split_bytes url m)
split_of m url wasm is short texts = rw is (written_split m url (record { short = short; texts = texts }))

value_or : List ℕ → Result (List ℕ) ℕ → List ℕ
value_or d (Ok bytes) = bytes
value_or d (Err place) = d

-- what splitting gives
pub split_gives : (m : Contents) (url wasm bytes : List ℕ) → wasm ≡ bytes_of m → too_large m ≡ None → All IsText m.customs → split_debug_info url wasm ≡ Ok bytes → bytes ≡ split_bytes url m
unfolding value_or
split_gives m url wasm bytes is short texts given = ap (value_or bytes) (sym given ∙ split_of m url wasm is short texts)

-- splitting isn't refused
pub split_takes : (m : Contents) (url wasm : List ℕ) (f : ParseFault) → wasm ≡ bytes_of m → too_large m ≡ None → All IsText m.customs → read_fault (split_debug_info url wasm) ≡ Some f → ⊥
split_takes m url wasm f is short texts fails =
    let lost : ◌≡◌ {A = Option ParseFault} None (Some f) = rw (split_of m url wasm is short texts) at fails in
    absurd (grind (arith, lost))

-- a place is told where memory doesn't run out
pub not_memory : (f : ParseFault) (place : ℕ) → f ≡ faults.Parse place → f ≡ faults.OutOfMemory → ⊥
not_memory f place told lost =
    let both : faults.Parse place ≡ faults.OutOfMemory = sym told ∙ lost in
    absurd (grind (arith, both))
