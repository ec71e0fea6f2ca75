-- The lists of a file that is read fit, and its custom sections hold bytes.
use Rattle.std.proofs.Common.{◌≡◌, ℕ, true, List, [], ◌∷◌, length, Result, Ok, Err, refl, ap, arith, inl, inr, eqb, if◌then◌else◌}
use Rattle.std.specs.List.{AllByRecursion}
use Rattle.std.proofs.lemmas.Bool.{eqb-true, cases_Bool, and_parts}
use Rattle.wasm_bytes.specs.declared.counts.Counts.{Counts}
use Rattle.wasm_bytes.specs.Reading.{Input, end_of, value_of}
use Rattle.wasm_bytes.specs.Reads.{AreBytes, Finds}
use Rattle.wasm_bytes.proofs.ReadFinds.{finds_pure, finds_fault, finds_bind}
use Rattle.wasm_types.specs.declared.ids.TypeId.{TypeId}
use Rattle.wasm_code.specs.declared.body.Body.{Body}
use Rattle.wasm_types.specs.declared.types.FuncType.{FuncType}
use Rattle.wasm_file.specs.Frames.{preamble_of, preamble_bytes, preamble}
use Rattle.wasm_file.specs.Grammar.{Progress, at_start, all_sections, is_complete, whole, parts_of}
use Rattle.wasm_file.specs.Parts.{no_parts, is_func, is_table, is_memory, is_global, is_tag, counts_of}
use Rattle.wasm_file.specs.Sections.{is_told}
use Rattle.wasm_file.specs.declared.entries.Parts.{Parts}
use Rattle.wasm_file_laws.specs.FileFits.{FitsCustom, FitBodies, FitsFile, AreJoined}
use Rattle.wasm_file_laws.proofs.EachItem.{all_weaker}
use Rattle.wasm_file_laws.proofs.EntriesFit.{HasBytes, exactly_found, finds_nothing_left, finds_to_end}
use Rattle.wasm_file_laws.proofs.SectionsFit.{number_none, IsSoFar, IsProgress, section_found}

-- ---- the end

-- no body for no function
no_bodies : (counts : Counts) (types : List FuncType) (functions : List TypeId) (bodies : List Body) → bodies ≡ [] → length functions ≡ length bodies → FitBodies counts types functions bodies
no_bodies counts types [] [] none same = tt
no_bodies counts types (ty ∷ functions) [] none same = absurd (omega (arith, same))
no_bodies counts types functions (b ∷ bodies) none same = absurd (let some : length (b ∷ bodies) ≡ 0 = ap length none in omega (arith, some))

-- what is known of the lists of a file that is read
pub record IsFound (p : Parts) : Type 0 where
  pub fits : FitsFile p
  pub joined : AreJoined p
  pub customs_have_bytes : AllByRecursion HasBytes p.customs

-- lists that are complete
complete_fits : (rank : ℕ) (p : Parts) → IsSoFar rank p → is_complete p ≡ true → IsFound p
complete_fits rank p h complete =
    let a = and_parts (eqb (length p.functions) (length p.bodies)) (is_told p.data_count (length p.segments)) complete in
    let same = eqb-true (length p.functions) (length p.bodies) a.0 in record {
      fits = record {
        few = h.few;
        types_fit = h.lists.types;
        imports_fit = h.lists.imports;
        functions_fit = h.lists.functions;
        tables_fit = h.lists.tables;
        memories_fit = h.lists.memories;
        tags_fit = h.lists.tags;
        globals_fit = h.lists.globals;
        exports_fit = h.lists.exports;
        start_fits = h.start;
        elems_fit = h.lists.elems;
        count_told = a.1;
        bodies_fit = elim h.bodies [
          | inl none ↦ no_bodies (counts_of p) p.types p.functions p.bodies none same
          | inr fit ↦ fit
        ];
        segments_fit = h.lists.segments;
        customs_fit = all_weaker (λ c. FitsCustom c × HasBytes c) FitsCustom (λ c k. k.0) p.customs h.lists.customs;
      };
      joined = h.lists.joined;
      customs_have_bytes = all_weaker (λ c. FitsCustom c × HasBytes c) HasBytes (λ c k. k.1) p.customs h.lists.customs;
    }

-- ---- the whole

-- before the first section
none_so_far : IsSoFar 0 no_parts
none_so_far = record {
  ahead = record {
    types = λ _. refl;
    imports = λ _. refl;
    functions = λ _. refl;
    tables = λ _. refl;
    memories = λ _. refl;
    tags = λ _. refl;
    globals = λ _. refl;
    start = λ _. refl;
    elems = λ _. refl;
    data_count = λ _. refl;
    bodies = λ _. refl;
  };
  few = record {
    types_few = omega arith;
    imports_few = omega arith;
    funcs_few = omega (arith, number_none is_func [] refl);
    tables_few = omega (arith, number_none is_table [] refl);
    memories_few = omega (arith, number_none is_memory [] refl);
    globals_few = omega (arith, number_none is_global [] refl);
    tags_few = omega (arith, number_none is_tag [] refl);
    exports_few = omega arith;
    elems_few = omega arith;
    segments_few = omega arith;
  };
  lists = record {
    types = tt;
    imports = tt;
    functions = tt;
    tables = tt;
    memories = tt;
    tags = tt;
    globals = tt;
    exports = tt;
    elems = tt;
    segments = tt;
    customs = tt;
    joined = tt;
  };
  start = tt;
  bodies = inl refl;
}

preamble_of_found : (bytes : List ℕ) → Finds (preamble_of bytes) (λ _. Unit {0})
unfolding preamble_of
preamble_of_found [] = finds_pure tt tt
preamble_of_found (b ∷ bytes) = finds_bind (exactly_found b) (λ _ _. preamble_of_found bytes)

all_sections_found : Finds all_sections IsProgress
unfolding all_sections
all_sections_found = finds_to_end IsProgress section_found at_start none_so_far

end_found : (m : Progress) → IsProgress m → Finds (λ s. if is_complete m.parts then Ok (m.parts, s) else Err (end_of s)) IsFound
end_found m h = record {
  found = λ s t p bytes is. elim (cases_Bool (is_complete m.parts)) [
    | inl complete ↦ (finds_pure {P = IsFound} m.parts (complete_fits m.rank m.parts h complete)).found s t p bytes (rw complete at is)
    | inr lacks ↦ (finds_fault {P = IsFound} (end_of s)).found s t p bytes (rw lacks at is)
  ];
}

whole_found : Finds whole IsFound
unfolding whole preamble
whole_found = finds_bind (preamble_of_found preamble_bytes) (λ _ _. finds_bind all_sections_found (λ m h. finds_bind finds_nothing_left (λ _ _. end_found m h)))

-- what stands behind a value
input_of : {A : Type 0} (r : Result (A × Input) ℕ) (x : A) → value_of r ≡ Ok x → (t : Input) × (r ≡ Ok (x, t))
input_of {A} (Ok p) x is = (p.1, ap (λ v. elim v as (λ _. Result (A × Input) ℕ) [ Ok y ↦ Ok (y, p.1) | Err place ↦ Err place ]) is)
input_of (Err place) x is = absurd (grind (arith, is))

-- what bytes are read as is found
pub file_found : (bytes : List ℕ) (p : Parts) → AreBytes bytes → parts_of bytes ≡ Ok p → IsFound p
unfolding parts_of
file_found bytes p all is =
    let s : Input = record { place = 0; bytes = bytes } in
    let r = input_of (whole s) p is in
    (whole_found.found s r.0 p all r.1).0

-- The lists of a file that is read fit, and its custom sections hold bytes.
pub file_fits : (bytes : List ℕ) (p : Parts) → AreBytes bytes → parts_of bytes ≡ Ok p → FitsFile p × AreJoined p
file_fits bytes p all is = let f = file_found bytes p all is in (f.fits, f.joined)
