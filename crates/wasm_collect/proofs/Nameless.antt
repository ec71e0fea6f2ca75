-- Operators that are kept as they are written name no entry.
use Rattle.std.proofs.Common.{◌≡◌, true, [], refl}
use Rattle.wasm_ops.specs.declared.ops.Op.{Op}
use Rattle.packed_ops.specs.Packed.{is_spelled}
use Rattle.packed_ops.proofs.Spelled.{by_spelled}
use Rattle.wasm_core.specs.Contents.{Contents}
use Rattle.wasm_collect.specs.Reach.{op_names, body_op_names}

pub op_names_none : (x : Op) → is_spelled x ≡ true → op_names x ≡ []
op_names_none = by_spelled (λ x. op_names x ≡ []) (record {
  plain = λ code. refl;
  label = λ code label. refl;
  local = λ code local. refl;
  const32 = λ n. refl;
  const64 = λ n. refl;
  raw4 = λ bytes. refl;
  raw8 = λ bytes. refl;
  ref_null = λ ty. refl;
  fc_plain = λ code. refl;
  simd = λ code. refl;
  simd_bytes = λ code bytes. refl;
  simd_lane = λ code lane. refl;
})

pub body_op_names_none : (m : Contents) (x : Op) → is_spelled x ≡ true → body_op_names m x ≡ []
body_op_names_none m = by_spelled (λ x. body_op_names m x ≡ []) (record {
  plain = λ code. refl;
  label = λ code label. refl;
  local = λ code local. refl;
  const32 = λ n. refl;
  const64 = λ n. refl;
  raw4 = λ bytes. refl;
  raw8 = λ bytes. refl;
  ref_null = λ ty. refl;
  fc_plain = λ code. refl;
  simd = λ code. refl;
  simd_bytes = λ code bytes. refl;
  simd_lane = λ code lane. refl;
})
