-- The custom sections of the description's name.
use Rattle.std.proofs.Common.{◌≡◌, ℕ, ◌<◌, List, ◌∷◌, ◌++◌, length, get_or, take, drop, suc, true, Option, Some, None, option_map, Bor, refl, ap, ◌∙◌}
use Rattle.std.specs.Option.{is_some}
use Rattle.std.proofs.Math.Seq.{split_at}
use Rattle.std.proofs.lemmas.List.Elements.{filter-append}
use Rattle.wasm_core.specs.entries.Custom.{Custom}
use Rattle.wasm_core.specs.Edits.{is_named}
use Rattle.glue_json.specs.declared.counts.Counts.{Counts}
use Rattle.glue_lower.specs.Lowering.{section_name, glue_sections, listed, described_by}

-- a section of the name at the front
one_more : (x : Custom) (xs : List Custom) → is_named section_name x ≡ true → glue_sections (x ∷ xs) ≡ x ∷ glue_sections xs
one_more x xs named = rw named refl

-- a section of the name after another is a second one
pub two_found : (xs : List Custom) (i : ℕ) (o : Option (Bor Custom)) (x : Custom) → glue_sections (take i xs) ≡ listed (option_map (λ c. c.now) o) → is_some o ≡ true
    → x ≡ get_or xs i x → i < length xs → is_named section_name x ≡ true → (k : Counts) → described_by k (glue_sections xs) ≡ None
two_found xs i None x found some here within named k = cc
two_found xs i (Some s) x found some here within named k =
    let split : xs ≡ take i xs ++ x ∷ drop (suc i) xs = rw here (split_at xs i x within) in
    let cut : glue_sections (take i xs ++ x ∷ drop (suc i) xs) ≡ glue_sections (take i xs) ++ glue_sections (x ∷ drop (suc i) xs) =
    filter-append (is_named section_name) (take i xs) (x ∷ drop (suc i) xs) in
    let joined : glue_sections xs ≡ s.now ∷ x ∷ glue_sections (drop (suc i) xs) =
    ap glue_sections split ∙ cut ∙ ap (λ l. l ++ glue_sections (x ∷ drop (suc i) xs)) found ∙ ap (λ l. s.now ∷ l) (one_more x (drop (suc i) xs) named) in
    ap (described_by k) joined
