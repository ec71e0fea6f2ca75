-- Sections that are written are read again: each behind its frame, and one after another.
use Rattle.std.proofs.Common.{◌≡◌, ℕ, zero, suc, ◌+◌, ◌<◌, ◌≤◌, ◌^◌, true, false, List, [], ◌∷◌, ◌++◌, length, Result, Ok, refl, sym, ap, subst, ◌∙◌, append_assoc, append-nil, arith, ltb, leb, eqb}
use Rattle.std.specs.List.{flat_map, AllByRecursion}
use Rattle.std.proofs.lemmas.Bool.{le-ltb, lt-ltb, le-leb, ne_eqb}
use Rattle.std.proofs.lemmas.List.{length-append, take_at, drop_at}
use Rattle.std.proofs.lemmas.List.Concat.{flat_map-append}
use Rattle.wasm_bytes.specs.Reading.{Input, filled, entries, until_end}
use Rattle.wasm_bytes.specs.Items.{listed}
use Rattle.wasm_bytes.specs.Spelling.{list_bytes, framed_bytes}
use Rattle.wasm_bytes.specs.Reads.{Reads}
use Rattle.wasm_bytes.proofs.ReadAgain.{reads_bind, reads_end, reads_byte, reads_allowed, reads_entries, number32_again}
use Rattle.wasm_file.specs.Sections.{content}
use Rattle.wasm_file.specs.Grammar.{Progress, rank_of, may_come, rank_after, «section»}
use Rattle.wasm_file.specs.Spelling.{section_bytes, list_section}
use Rattle.wasm_file.specs.declared.entries.Parts.{Parts}

-- ---- content that is read to its end

-- Where nothing stands behind them, the bytes are read as x, up to their end.
pub record ReadsWhole {A : Type 0} (reader : Input → Result (A × Input) ℕ) (bytes : List ℕ) (x : A) : Type 0 where
  pub again : (place : ℕ) → (after : ℕ) × (reader (record { place = place; bytes = bytes }) ≡ Ok (x, record { place = after; bytes = [] }))

-- what is read wherever it stands is read to its end
pub reads_whole : {A : Type 0} {reader : Input → Result (A × Input) ℕ} {bytes : List ℕ} {x : A} → Reads reader bytes x → ReadsWhole reader bytes x
reads_whole {reader} {bytes} {x} h = record { again = λ place. let p = h.again place [] in (p.0, rw append-nil at p.1) }

-- content behind its length
reads_filled : {A : Type 0} {content : Input → Result (A × Input) ℕ} {a : List ℕ} {x : A} → ReadsWhole content a x → Reads (filled (length a) content) a x
reads_filled {content} {a} {x} h = record {
  again = λ place rest.
      let p = h.again place in
      let long : ltb (length (a ++ rest)) (length a) ≡ false = le-ltb _ _ (omega (arith, length-append a rest)) in
      (place + length a, rw (take_at a rest (length a) refl, p.1, long, drop_at a rest (length a) refl) refl);
}

-- a list that has room
pub reads_listed : {A : Type 0} (P : A → Type 0) {entry : Input → Result (A × Input) ℕ} {spell : A → List ℕ} (room : ℕ) → ((x : A) → P x → Reads entry (spell x) x) → (xs : List A) → length xs ≤ room → length xs < 2 ^ 32 → AllByRecursion P xs → Reads (listed room entry) (list_bytes spell xs) xs
unfolding listed list_bytes
reads_listed P {entry} room again xs fits few all = reads_bind (λ n. entries n entry) (reads_allowed (λ n. leb n room) (number32_again (length xs) few) (le-leb (length xs) room fits)) (reads_entries P again xs all)

-- ---- one section

-- a section in its place is read as the lists with its content
section_again : (m : Progress) (id : ℕ) (bytes : List ℕ) (r : Parts) → may_come m.rank id ≡ true → length bytes < 2 ^ 32 → ReadsWhole (content id m.parts) bytes r → Reads («section» m) (section_bytes (id, bytes)) (record { rank = rank_after m.rank id; parts = r })
unfolding «section» section_bytes framed_bytes
section_again m id bytes r comes short h =
    reads_bind _ (reads_allowed (may_come m.rank) (reads_byte id) comes)
    (reads_bind _ (number32_again (length bytes) short)
    (reads_end (λ (p : Parts). record { rank = rank_after m.rank id; parts = p }) (reads_filled h)))

-- ---- sections up to the end

-- The bytes are read, section by section up to their end, from this progress to these lists.
pub record Ends (m : Progress) (bytes : List ℕ) (p : Parts) : Type 0 where
  pub ends : (n place : ℕ) → length bytes ≤ n → (rank : ℕ) × (after : ℕ) × (until_end n «section» m (record { place = place; bytes = bytes }) ≡ Ok (record { rank = rank; parts = p }, record { place = after; bytes = [] }))

-- no bytes, no step
none_at : (m : Progress) (n place : ℕ) → until_end n «section» m (record { place = place; bytes = [] }) ≡ Ok (m, record { place = place; bytes = [] })
unfolding until_end
none_at m zero place = refl
none_at m (suc n) place = refl

-- no section is left
pub ends_none : (rank : ℕ) (p : Parts) → Ends (record { rank = rank; parts = p }) [] p
ends_none rank p = record { ends = λ n place le. (rank, place, none_at (record { rank = rank; parts = p }) n place) }

-- a step and those behind it
more_at : (m l : Progress) (a b : List ℕ) (p : Parts) → 0 < length a → Reads («section» m) a l → Ends l b p → (n place : ℕ) → length (a ++ b) ≤ n → (rank : ℕ) × (after : ℕ) × (until_end n «section» m (record { place = place; bytes = a ++ b }) ≡ Ok (record { rank = rank; parts = p }, record { place = after; bytes = [] }))
unfolding until_end
more_at m l a b p some first others zero place le = absurd (omega (arith, length-append a b))
more_at m l a b p some first others (suc n) place le =
    let q = first.again place b in
    let o = others.ends n q.0 (omega (arith, length-append a b)) in
    (o.0, o.1, rw (ne_eqb (length (a ++ b)) 0 (omega (arith, length-append a b)), q.1) o.2)

-- a section and those behind it
ends_more : {m l : Progress} {a b : List ℕ} {p : Parts} → 0 < length a → Reads («section» m) a l → Ends l b p → Ends m (a ++ b) p
ends_more {m} {l} {a} {b} {p} some first others = record { ends = more_at m l a b p some first others }

-- ---- some of a file's sections

-- The sections are read from these lists to those, at any rank up to one, and the rank is then at most another.
pub record Leads (before : ℕ) (q : Parts) (sections : List (ℕ × List ℕ)) (behind : ℕ) (r : Parts) : Type 0 where
  pub leads : (rank : ℕ) → rank ≤ before → (bytes : List ℕ) (p : Parts) → ((last : ℕ) → last ≤ behind → Ends (record { rank = last; parts = r }) bytes p) → Ends (record { rank = rank; parts = q }) (flat_map section_bytes sections ++ bytes) p

-- no section
pub leads_none : {before behind : ℕ} {q : Parts} → before ≤ behind → Leads before q [] behind q
leads_none {before} {behind} {q} le = record { leads = λ rank few bytes p ends. ends rank (omega arith) }

-- some, and some behind them
pub leads_both : {before behind : ℕ} (middle : ℕ) {q r u : Parts} {a b : List (ℕ × List ℕ)} → Leads before q a middle r → Leads middle r b behind u → Leads before q (a ++ b) behind u
leads_both {before} {behind} middle {q} {r} {u} {a} {b} first others = record {
  leads = λ rank few bytes p ends.
      let shape : flat_map section_bytes (a ++ b) ++ bytes ≡ flat_map section_bytes a ++ (flat_map section_bytes b ++ bytes) = ap (λ c. c ++ bytes) (flat_map-append section_bytes a b) ∙ append_assoc (flat_map section_bytes a) (flat_map section_bytes b) bytes in
      subst (λ c. Ends (record { rank = rank; parts = q }) c p) (sym shape)
      (first.leads rank few (flat_map section_bytes b ++ bytes) p (λ last le. others.leads last le bytes p ends));
}

-- a section's bytes, which are some
section_is_some : (s : ℕ × List ℕ) → 0 < length (section_bytes s)
unfolding section_bytes
section_is_some s = omega arith

-- one section, at most at this rank behind it
pub leads_at : {before behind : ℕ} {q r : Parts} (id : ℕ) (bytes : List ℕ) → ((rank : ℕ) → rank ≤ before → (may_come rank id ≡ true) × (rank_after rank id ≤ behind)) → length bytes < 2 ^ 32 → ReadsWhole (content id q) bytes r → Leads before q ((id, bytes) ∷ []) behind r
leads_at {before} {behind} {q} {r} id bytes comes short h = record {
  leads = λ rank few rest p ends.
      let c = comes rank few in
      let read = section_again (record { rank = rank; parts = q }) id bytes r c.0 short h in
      subst (λ b. Ends (record { rank = rank; parts = q }) (b ++ rest) p) (sym (append-nil (section_bytes (id, bytes))))
      (ends_more (section_is_some (id, bytes)) read (ends (rank_after rank id) c.1));
}

-- a section of a rank of its own
pub leads_one : {before behind : ℕ} {q r : Parts} (id : ℕ) (bytes : List ℕ) → eqb id 0 ≡ false → before < rank_of id → rank_of id ≤ behind → length bytes < 2 ^ 32 → ReadsWhole (content id q) bytes r → Leads before q ((id, bytes) ∷ []) behind r
leads_one {before} {behind} {q} {r} id bytes plain low high short h = leads_at id bytes (λ rank few. (comes rank few, stays rank)) short h
  where
    comes : (rank : ℕ) → rank ≤ before → may_come rank id ≡ true
    comes rank few = rw (plain, lt-ltb rank (rank_of id) (omega arith)) refl

    stays : (rank : ℕ) → rank_after rank id ≤ behind
    stays rank = rw plain high

-- 32 bits count a section's bytes
abbrev pub IsShortSection : ℕ × List ℕ → Type 0
IsShortSection s = length s.1 < 2 ^ 32

-- a list that isn't empty has a section
section_of_some : {A : Type 0} (id : ℕ) (spell : A → List ℕ) (x : A) (xs : List A) → list_section id spell (x ∷ xs) ≡ (id, list_bytes spell (x ∷ xs)) ∷ []
unfolding list_section list_bytes
section_of_some id spell x xs = rw (ne_eqb (length (x ∷ xs)) 0 (omega arith)) refl

-- an empty list has none
no_section : {A : Type 0} (id : ℕ) (spell : A → List ℕ) → list_section id spell [] ≡ []
unfolding list_section
no_section id spell = refl

-- a section of a list, which is left out where the list is empty
pub leads_list : {A : Type 0} {before behind : ℕ} (id : ℕ) (spell : A → List ℕ) (fill : List A → Parts) (xs : List A) → eqb id 0 ≡ false → before < rank_of id → rank_of id ≤ behind → AllByRecursion IsShortSection (list_section id spell xs) → (length (list_bytes spell xs) < 2 ^ 32 → ReadsWhole (content id (fill [])) (list_bytes spell xs) (fill xs)) → Leads before (fill []) (list_section id spell xs) behind (fill xs)
leads_list {A} {before} {behind} id spell fill [] plain low high short h = subst (λ s. Leads before (fill []) s behind (fill [])) (sym (no_section id spell)) (leads_none (omega arith))
leads_list {A} {before} {behind} id spell fill (x ∷ xs) plain low high short h =
    let is : list_section id spell (x ∷ xs) ≡ (id, list_bytes spell (x ∷ xs)) ∷ [] = section_of_some id spell x xs in
    let all : AllByRecursion IsShortSection ((id, list_bytes spell (x ∷ xs)) ∷ []) = subst (λ s. AllByRecursion IsShortSection s) is short in
    subst (λ s. Leads before (fill []) s behind (fill (x ∷ xs))) (sym is) (leads_one id (list_bytes spell (x ∷ xs)) plain low high all.0 (h all.0))
