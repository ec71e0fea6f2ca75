-- An operator with new numbers fits, where it fitted and the numbers are indices.
use Rattle.std.proofs.Common.{◌≡◌, ℕ, ◌<◌, ◌^◌, Bool, List, [], ◌∷◌, length, map, refl, sym, subst}
use Rattle.std.specs.List.{AllByRecursion, flat_map}
use Rattle.std.proofs.lemmas.List.{length-map}
use Rattle.wasm_bytes.specs.declared.counts.Counts.{Counts}
use Rattle.wasm_ops.specs.Numbers.{renumbered_block_type, renumbered_catch, renumbered_op}
use Rattle.wasm_code.specs.Numbers.{renumbered_ops, renumbered_body}
use Rattle.wasm_code.specs.Code.{labels_after}
use Rattle.wasm_ops.specs.declared.ops.Op.{Op}
use Rattle.wasm_ops.specs.declared.ops.Op.TheVariants as ops
use Rattle.wasm_ops.specs.declared.ops.Catch.{Catch}
use Rattle.wasm_ops.specs.declared.ops.Catch.TheVariants as catches
use Rattle.wasm_code.specs.declared.body.Body.{Body}
use Rattle.wasm_ops.specs.declared.ops.Numbering.{Numbering}
use Rattle.wasm_ops.specs.declared.ops.BlockType.{BlockType}
use Rattle.wasm_ops.specs.declared.ops.BlockType.TheVariants as blocks
use Rattle.wasm_ops_laws.specs.Fits.{IsIndex, FitsBlockType, FitsCatch, FitsOp, FitsOps, FitsInitial, FitsBody}
use Rattle.wasm_file_laws.proofs.EachItem.{all_apart}
use Rattle.wasm_collect.specs.Reach.{block_names, catch_names, op_names, ops_names}
use Rattle.wasm_core_laws.specs.Renumbered.{IsNumber, TagFits, NumbersFit}

-- a clause fits
catch_fits : (numbers : Numbering) (counts after : Counts) (blocks : ℕ) (c : Catch) → FitsCatch counts blocks c → TagFits numbers after c → FitsCatch after blocks (renumbered_catch numbers c)
catch_fits numbers counts after blocks (catches.Tag code tag label) h k = (h.0, k, h.2)
catch_fits numbers counts after blocks (catches.All code label) h k = h

-- clauses fit
catches_fit : (numbers : Numbering) (counts after : Counts) (blocks : ℕ) (cs : List Catch) → AllByRecursion (FitsCatch counts blocks) cs → AllByRecursion (TagFits numbers after) cs → AllByRecursion (FitsCatch after blocks) (map (renumbered_catch numbers) cs)
catches_fit numbers counts after blocks [] h k = tt
catches_fit numbers counts after blocks (c ∷ cs) h k = (catch_fits numbers counts after blocks c h.0 k.0, catches_fit numbers counts after blocks cs h.1 k.1)

-- an operator fits
op_fits : (numbers : Numbering) (counts after : Counts) (labels : List Bool) (x : Op) → after.locals ≡ counts.locals → FitsOp counts labels x → NumbersFit numbers after x → FitsOp after labels (renumbered_op numbers x)
unfolding renumbered_op
op_fits numbers counts after labels (ops.Plain code) same h k = h
op_fits numbers counts after labels (ops.Block code ty) same h k = (h.0, k)
op_fits numbers counts after labels (ops.Tag code tag) same h k = (h.0, k)
op_fits numbers counts after labels (ops.Label code label) same h k = h
op_fits numbers counts after labels (ops.BrTable table label) same h k = h
op_fits numbers counts after labels (ops.Func code func) same h k = (h.0, k)
op_fits numbers counts after labels (ops.Indirect code ty table) same h k = (h.0, k.0, k.1)
op_fits numbers counts after labels (ops.Select types) same h k = h
op_fits numbers counts after labels (ops.TryTable ty clauses) same h k = (k.0, subst (λ n. n < 2 ^ 32) (sym (length-map clauses (renumbered_catch numbers))) h.1, catches_fit numbers counts after (length labels) clauses h.2 k.1)
op_fits numbers counts after labels (ops.Local code local) same h k = (h.0, subst (λ n. IsIndex n local) (sym same) h.1)
op_fits numbers counts after labels (ops.Global code global) same h k = (h.0, k)
op_fits numbers counts after labels (ops.Table code table) same h k = (h.0, k)
op_fits numbers counts after labels (ops.Mem code arg) same h k = (h.0, (h.1.0, h.1.1, k, h.1.3))
op_fits numbers counts after labels (ops.Memory code memory) same h k = (h.0, k)
op_fits numbers counts after labels (ops.Const32 n) same h k = h
op_fits numbers counts after labels (ops.Const64 n) same h k = h
op_fits numbers counts after labels (ops.Raw4 bytes) same h k = h
op_fits numbers counts after labels (ops.Raw8 bytes) same h k = h
op_fits numbers counts after labels (ops.RefNull ty) same h k = h
op_fits numbers counts after labels (ops.FcPlain code) same h k = h
op_fits numbers counts after labels (ops.MemoryInit segment memory) same h k = k
op_fits numbers counts after labels (ops.DataDrop segment) same h k = k
op_fits numbers counts after labels (ops.MemoryCopy to from) same h k = k
op_fits numbers counts after labels (ops.MemoryFill memory) same h k = k
op_fits numbers counts after labels (ops.TableInit elem table) same h k = k
op_fits numbers counts after labels (ops.ElemDrop elem) same h k = k
op_fits numbers counts after labels (ops.TableCopy to from) same h k = k
op_fits numbers counts after labels (ops.FcTable code table) same h k = (h.0, h.1, k)
op_fits numbers counts after labels (ops.Simd code) same h k = h
op_fits numbers counts after labels (ops.SimdMem code arg) same h k = (h.0, h.1, (h.2.0, h.2.1, k, h.2.3))
op_fits numbers counts after labels (ops.SimdMemLane code arg lane) same h k = (h.0, h.1, (h.2.0, h.2.1, k, h.2.3))
op_fits numbers counts after labels (ops.SimdBytes code bytes) same h k = h
op_fits numbers counts after labels (ops.SimdLane code lane) same h k = h

-- it leaves the same blocks open
same_labels : (numbers : Numbering) (x : Op) (labels : List Bool) → labels_after (renumbered_op numbers x) labels ≡ labels_after x labels
unfolding renumbered_op
same_labels numbers (ops.Plain code) labels = refl
same_labels numbers (ops.Block code ty) labels = refl
same_labels numbers (ops.Label code label) labels = refl
same_labels numbers (ops.TryTable ty clauses) labels = refl
same_labels numbers _ labels = refl

-- operators of a body fit
ops_fit : (numbers : Numbering) (counts after : Counts) (labels : List Bool) (xs : List Op) → after.locals ≡ counts.locals → FitsOps counts labels xs → AllByRecursion (NumbersFit numbers after) xs → FitsOps after labels (renumbered_ops numbers xs)
ops_fit numbers counts after labels [] same h k = h
ops_fit numbers counts after labels (x ∷ xs) same h k =
    let blocks = sym (same_labels numbers x labels) in (
      op_fits numbers counts after labels x same h.0 k.0,
      subst (λ blocks. 0 < length blocks) blocks h.1,
      subst (λ blocks. FitsOps after blocks (renumbered_ops numbers xs)) blocks (ops_fit numbers counts after (labels_after x labels) xs same h.2 k.1),
    )

-- an operator of an initial expression fits
initial_fits : (numbers : Numbering) (counts after : Counts) (x : Op) → FitsInitial counts x → NumbersFit numbers after x → FitsInitial after (renumbered_op numbers x)
unfolding renumbered_op
initial_fits numbers counts after (ops.Plain code) h k = h
initial_fits numbers counts after (ops.Func code func) h k = (h.0, k)
initial_fits numbers counts after (ops.Global code global) h k = (h.0, k)
initial_fits numbers counts after (ops.Const32 n) h k = h
initial_fits numbers counts after (ops.Const64 n) h k = h
initial_fits numbers counts after (ops.Raw4 bytes) h k = h
initial_fits numbers counts after (ops.Raw8 bytes) h k = h
initial_fits numbers counts after (ops.RefNull ty) h k = h
initial_fits numbers counts after (ops.SimdBytes code bytes) h k = h
initial_fits numbers counts after _ h k = absurd h

-- an initial expression fits
pub initials_fit : (numbers : Numbering) (counts after : Counts) (xs : List Op) → AllByRecursion (FitsInitial counts) xs → AllByRecursion (NumbersFit numbers after) xs → AllByRecursion (FitsInitial after) (renumbered_ops numbers xs)
initials_fit numbers counts after [] h k = tt
initials_fit numbers counts after (x ∷ xs) h k = (initial_fits numbers counts after x h.0 k.0, initials_fit numbers counts after xs h.1 k.1)

-- a body fits
pub body_fits : (numbers : Numbering) (counts after : Counts) (params : ℕ) (b : Body) → FitsBody counts params b → AllByRecursion (NumbersFit numbers after) b.ops → FitsBody after params (renumbered_body numbers b)
body_fits numbers counts after params b h k = record {
  few = h.few;
  code = ops_fit numbers (record counts { locals = _ }) (record after { locals = _ }) _ b.ops refl h.code k;
}

-- ---- where what is named has numbers

module _ (numbers : Numbering) (counts : Counts) where
  -- the number of the type of a block fits
  block_numbers : (ty : BlockType) → AllByRecursion (IsNumber numbers counts) (block_names ty) → FitsBlockType counts (renumbered_block_type numbers ty)
  block_numbers blocks.Empty h = tt
  block_numbers (blocks.Value ty) h = tt
  block_numbers (blocks.Index ty) h = h.0

  -- the number of the tag of a clause fits
  catch_numbers : (c : Catch) → AllByRecursion (IsNumber numbers counts) (catch_names c) → TagFits numbers counts c
  catch_numbers (catches.Tag code tag label) h = h.0
  catch_numbers (catches.All code label) h = tt

  -- the numbers of the tags of clauses fit
  clause_numbers : (cs : List Catch) → AllByRecursion (IsNumber numbers counts) (flat_map catch_names cs) → AllByRecursion (TagFits numbers counts) cs
  clause_numbers [] h = tt
  clause_numbers (c ∷ cs) h = (
    catch_numbers c ((all_apart (IsNumber numbers counts) (catch_names c) (flat_map catch_names cs) h).0),
    clause_numbers cs ((all_apart (IsNumber numbers counts) (catch_names c) (flat_map catch_names cs) h).1),
  )

  -- the numbers of what an operator names fit, where each of these has one
  op_numbers : (x : Op) → AllByRecursion (IsNumber numbers counts) (op_names x) → NumbersFit numbers counts x
  op_numbers (ops.Plain code) h = tt
  op_numbers (ops.Block code ty) h = block_numbers ty h
  op_numbers (ops.Tag code tag) h = h.0
  op_numbers (ops.Label code label) h = tt
  op_numbers (ops.BrTable table label) h = tt
  op_numbers (ops.Func code func) h = h.0
  op_numbers (ops.Indirect code ty table) h = (h.0, h.1.0)
  op_numbers (ops.Select types) h = tt
  op_numbers (ops.TryTable ty clauses) h = (
    block_numbers ty ((all_apart (IsNumber numbers counts) (block_names ty) (flat_map catch_names clauses) h).0),
    clause_numbers clauses ((all_apart (IsNumber numbers counts) (block_names ty) (flat_map catch_names clauses) h).1),
  )
  op_numbers (ops.Local code local) h = tt
  op_numbers (ops.Global code global) h = h.0
  op_numbers (ops.Table code table) h = h.0
  op_numbers (ops.Mem code arg) h = h.0
  op_numbers (ops.Memory code memory) h = h.0
  op_numbers (ops.Const32 n) h = tt
  op_numbers (ops.Const64 n) h = tt
  op_numbers (ops.Raw4 bytes) h = tt
  op_numbers (ops.Raw8 bytes) h = tt
  op_numbers (ops.RefNull ty) h = tt
  op_numbers (ops.FcPlain code) h = tt
  op_numbers (ops.MemoryInit segment memory) h = (h.0, h.1.0)
  op_numbers (ops.DataDrop segment) h = h.0
  op_numbers (ops.MemoryCopy to from) h = (h.0, h.1.0)
  op_numbers (ops.MemoryFill memory) h = h.0
  op_numbers (ops.TableInit elem table) h = (h.0, h.1.0)
  op_numbers (ops.ElemDrop elem) h = h.0
  op_numbers (ops.TableCopy to from) h = (h.0, h.1.0)
  op_numbers (ops.FcTable code table) h = h.0
  op_numbers (ops.Simd code) h = tt
  op_numbers (ops.SimdMem code arg) h = h.0
  op_numbers (ops.SimdMemLane code arg lane) h = h.0
  op_numbers (ops.SimdBytes code bytes) h = tt
  op_numbers (ops.SimdLane code lane) h = tt

  -- so do those of what operators name
  pub ops_numbers : (xs : List Op) → AllByRecursion (IsNumber numbers counts) (ops_names xs) → AllByRecursion (NumbersFit numbers counts) xs
  ops_numbers [] h = tt
  ops_numbers (x ∷ xs) h = (
    op_numbers x ((all_apart (IsNumber numbers counts) (op_names x) (ops_names xs) h).0),
    ops_numbers xs ((all_apart (IsNumber numbers counts) (op_names x) (ops_names xs) h).1),
  )
