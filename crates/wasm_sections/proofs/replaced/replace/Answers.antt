use Rattle.wasm_sections.proofs.FramesInside.{frames_inside}
use Rattle.wasm_sections.proofs.replaced.replace.Goals as goal

pub replaced_of-requires : goal.replaced_of-requires
replaced_of-requires c = record { inside = rw c.deref.ensures.value (frames_inside c.args.wasm.now c.in_ok-frames.frames.items c.in_ok-frames.ensures.ok) }
