-- Sections that stand one behind another are read as their frames, and what is kept of them is found at their places.
use Rattle.std.proofs.Common.{◌≡◌, ℕ, zero, suc, ◌+◌, ◌^◌, ◌<◌, ◌≤◌, Bool, true, false, not, List, [], ◌∷◌, ◌++◌, map, length, Ok, refl, sym, ap, ◌∙◌, append_assoc, append-nil, arith, inl, inr, ltb, leb, eqb, if◌then◌else◌}
use Rattle.std.specs.List.{flat_map, filter, between, AllByRecursion}
use Rattle.std.specs.Str.{is_utf8}
use Rattle.std.proofs.lemmas.Bool.{le-ltb, ne_eqb, cases_Bool}
use Rattle.std.proofs.lemmas.List.{length-append, take_at, drop_at}
use Rattle.std.proofs.lemmas.Slice.{between_is}
use Rattle.wasm_bytes.specs.Reading.{Input, until_end}
use Rattle.wasm_bytes.specs.Numbers.{number_bytes}
use Rattle.wasm_bytes.specs.Items.{name, exactly}
use Rattle.wasm_bytes.specs.Spelling.{name_bytes, framed_bytes}
use Rattle.wasm_bytes.specs.Reads.{Reads}
use Rattle.wasm_bytes.proofs.ReadAgain.{reads_bind, reads_raw, reads_allowed, number32_again}
use Rattle.wasm_file.specs.Frames.{preamble_of, preamble, preamble_bytes, frame_name, section_frame, next_frame, all_frames, frames_of}
use Rattle.wasm_file.specs.Spelling.{custom_bytes, custom_section, section_bytes}
use Rattle.wasm_file.specs.declared.entries.Custom.{Custom}
use Rattle.wasm_file.specs.declared.entries.Section.{Section}
use Rattle.wasm_sections.specs.Replaced.{passes, kept_frame}
use Rattle.wasm_sections.proofs.Places.{goes_number32}
use Rattle.wasm_sections_laws.specs.Framed.{NamedSection, without_name, with_name, named_bytes, frame_at, frames_from}

-- ---- one section

-- It is framed: its id is allowed, 32 bits count its content, and its name is read from there.
pub record IsFramed (x : NamedSection) : Type 0 where
  pub allowed : leb x.0.0 13 ≡ true
  pub short : length x.0.1 < 2 ^ 32
  pub named : (place : ℕ) → (after : Input) × (frame_name x.0.0 (record { place = place; bytes = x.0.1 }) ≡ Ok (x.1, after))

pub core_framed : (id : ℕ) (content : List ℕ) → eqb id 0 ≡ false → leb id 13 ≡ true → length content < 2 ^ 32 → IsFramed (without_name (id, content))
unfolding frame_name
core_framed id content core allowed short = record {
  allowed = allowed;
  short = short;
  named = λ place. (record { place = place; bytes = content }, rw core refl);
}

name_again : (text : List ℕ) → is_utf8 text ≡ true → length text < 2 ^ 32 → Reads name (name_bytes text) text
unfolding name name_bytes framed_bytes
name_again text utf8 short = reads_allowed is_utf8 (reads_bind _ (number32_again (length text) short) (reads_raw (length text) text refl)) utf8

-- a name is no longer than the content that it is part of
short_name : (c : Custom) → length (custom_bytes c) < 2 ^ 32 → length c.name < 2 ^ 32
unfolding custom_bytes name_bytes framed_bytes
short_name c short =
    let whole = length-append (number_bytes (length c.name) ++ c.name) c.bytes in
    let front = length-append (number_bytes (length c.name)) c.name in
    omega (arith, short, whole, front)

pub custom_framed : (c : Custom) → is_utf8 c.name ≡ true → length (custom_bytes c) < 2 ^ 32 → IsFramed (with_name c)
unfolding frame_name custom_bytes
custom_framed c utf8 short = record {
  allowed = refl;
  short = short;
  named = λ place.
      let p = (name_again c.name utf8 (short_name c short)).again place c.bytes in
      (record { place = p.0; bytes = c.bytes }, rw (p.1) refl);
}

section_again : (x : NamedSection) → IsFramed x → (place : ℕ) (rest : List ℕ) → section_frame (record { place = place; bytes = named_bytes x ++ rest }) ≡ Ok (frame_at place x, record { place = place + length (named_bytes x); bytes = rest })
unfolding section_frame section_bytes framed_bytes
section_again x h place rest =
    let content : List ℕ = x.0.1 in
    let count : List ℕ = number_bytes (length content) in
    let q = (number32_again (length content) h.short).again (place + 1) (content ++ rest) in
    let inside = h.named q.0 in
    let moved = goes_number32.on (record { place = place + 1; bytes = count ++ (content ++ rest) }) (record { place = q.0; bytes = content ++ rest }) (length content) q.1 in
    let ends : q.0 + length content ≡ place + length (x.0.0 ∷ (count ++ content)) = omega (arith, moved.1, length-append count (content ++ rest), length-append content rest, length-append count content) in
    let long : ltb (length (content ++ rest)) (length content) ≡ false = le-ltb _ _ (omega (arith, length-append content rest)) in
    rw (h.allowed, append_assoc count content rest, q.1, long, take_at content rest (length content) refl, drop_at content rest (length content) refl, inside.1, ends) refl

-- ---- sections one behind another

some_bytes : (x : NamedSection) → 0 < length (named_bytes x)
unfolding section_bytes
some_bytes x = omega arith

until_again : (xs : List NamedSection) → AllByRecursion IsFramed xs → (n place : ℕ) (found : List Section) → length (flat_map named_bytes xs) ≤ n
    → (after : Input) × (until_end n next_frame found (record { place = place; bytes = flat_map named_bytes xs }) ≡ Ok (found ++ frames_from place xs, after))
unfolding until_end next_frame frames_from
until_again [] all zero place found le = (record { place = place; bytes = [] }, rw (append-nil found) refl)
until_again [] all (suc n) place found le = (record { place = place; bytes = [] }, rw (append-nil found) refl)
until_again (x ∷ xs) all zero place found le = absurd (omega (arith, le, some_bytes x, length-append (named_bytes x) (flat_map named_bytes xs)))
until_again (x ∷ xs) all (suc n) place found le =
    let others : List ℕ = flat_map named_bytes xs in
    let long = length-append (named_bytes x) others in
    let one = section_again x all.0 place others in
    let more = until_again xs all.1 n (place + length (named_bytes x)) (found ++ frame_at place x ∷ []) (omega (arith, le, long, some_bytes x)) in
    let joined : (found ++ frame_at place x ∷ []) ++ frames_from (place + length (named_bytes x)) xs ≡ found ++ (frame_at place x ∷ frames_from (place + length (named_bytes x)) xs) = append_assoc found (frame_at place x ∷ []) (frames_from (place + length (named_bytes x)) xs) in
    (more.0, rw (ne_eqb (length (named_bytes x ++ others)) 0 (omega (arith, long, some_bytes x)), one) (more.1 ∙ ap (λ fs. Ok (fs, more.0)) joined))

preamble_again : (rest : List ℕ) → preamble (record { place = 0; bytes = preamble_bytes ++ rest }) ≡ Ok (tt, record { place = 8; bytes = rest })
unfolding preamble preamble_of exactly
preamble_again rest = refl

pub frames_again : (xs : List NamedSection) → AllByRecursion IsFramed xs → frames_of (preamble_bytes ++ flat_map named_bytes xs) ≡ Ok (frames_from 8 xs)
unfolding frames_of all_frames
frames_again xs all =
    let found = until_again xs all (length (flat_map named_bytes xs)) 8 [] (omega arith) in
    rw (preamble_again (flat_map named_bytes xs), found.1) refl

-- ---- what is kept

-- the bytes of a section, none where it goes
abbrev pub kept_named : (List ℕ → Bool) → NamedSection → List ℕ
kept_named goes x = if passes goes x.1 then [] else named_bytes x

pub kept_again : (goes : List ℕ → Bool) (xs : List NamedSection) (front wasm : List ℕ) → wasm ≡ front ++ flat_map named_bytes xs → flat_map (kept_frame goes wasm) (frames_from (length front) xs) ≡ flat_map (kept_named goes) xs
unfolding frames_from
kept_again goes [] front wasm is = refl
kept_again goes (x ∷ xs) front wasm is =
    let own : List ℕ = named_bytes x in
    let others : List ℕ = flat_map named_bytes xs in
    let apart : wasm ≡ (front ++ own) ++ others = is ∙ sym (append_assoc front own others) in
    let end : length front + length own ≡ length (front ++ own) = sym (length-append front own) in
    let one : between (length front) (length front + length own) wasm ≡ own = rw (apart, end, between_is ((front ++ own) ++ others) (length front) (length (front ++ own)), take_at (front ++ own) others (length (front ++ own)) refl, drop_at front own (length front) refl) refl in
    let rest : flat_map (kept_frame goes wasm) (frames_from (length front + length own) xs) ≡ flat_map (kept_named goes) xs = rw end (kept_again goes xs (front ++ own) wasm apart) in
    rw (one, rest) refl

-- sections without a name are all kept
pub kept_core : (goes : List ℕ → Bool) (xs : List (ℕ × List ℕ)) → flat_map (kept_named goes) (map without_name xs) ≡ flat_map section_bytes xs
kept_core goes [] = refl
kept_core goes (x ∷ xs) = ap (λ bytes. section_bytes x ++ bytes) (kept_core goes xs)

-- custom sections are kept by their names
pub kept_customs : (goes : List ℕ → Bool) (cs : List Custom) → flat_map (kept_named goes) (map with_name cs) ≡ flat_map section_bytes (map custom_section (filter (λ c. not (goes c.name)) cs))
kept_customs goes [] = refl
kept_customs goes (c ∷ cs) =
    elim (cases_Bool (goes c.name)) [
      | inl go ↦ rw go (kept_customs goes cs)
      | inr stay ↦ rw stay (ap (λ bytes. section_bytes (custom_section c) ++ bytes) (kept_customs goes cs))
    ]

-- their bytes are those of sections
pub core_bytes : (xs : List (ℕ × List ℕ)) → flat_map named_bytes (map without_name xs) ≡ flat_map section_bytes xs
core_bytes [] = refl
core_bytes (x ∷ xs) = ap (λ bytes. section_bytes x ++ bytes) (core_bytes xs)

pub customs_bytes : (cs : List Custom) → flat_map named_bytes (map with_name cs) ≡ flat_map section_bytes (map custom_section cs)
customs_bytes [] = refl
customs_bytes (c ∷ cs) = ap (λ bytes. section_bytes (custom_section c) ++ bytes) (customs_bytes cs)
