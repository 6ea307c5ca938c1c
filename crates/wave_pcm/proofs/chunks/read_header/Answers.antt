use Rattle.std.proofs.Common.{arith, refl}
use Rattle.wave_pcm.proofs.ChunkLemmas.{ok_is_no_read, onward_data, onward_end, onward_fault, onward_more, same_fault}
use Rattle.wave_pcm.proofs.chunks.read_header.Goals as goal

pub returns-in-Ok-Data-clause-opens : goal.returns-in-Ok-Data-clause-opens
returns-in-Ok-Data-clause-opens g c =
    let told = rw c.in-Ok-Data.field-0-is at c.in-Ok-Data.ensures.step in
    let taken = rw c.in-Ok-Data.field-0-is at c.in-Ok-Data.ensures.taken in
    onward_data _ _ _ c.chunks.read c.chunks.passed c.in-Ok-Data.size c.chunks.found c.in-Ok-Data.format c.chunks-test.true c.chunks.invariant.onward (told (λ e. ok_is_no_read _ _ refl e)) taken

pub chunks-preserved : goal.chunks-preserved
chunks-preserved g c =
    let told = rw c.in-Ok-Chunk.field-0-is at c.in-Ok-Chunk.ensures.step in
    let taken = rw c.in-Ok-Chunk.field-0-is at c.in-Ok-Chunk.ensures.taken in
    let small = rw c.in-Ok-Chunk.field-0-is at c.in-Ok-Chunk.ensures.small in
    let readable = rw c.in-Ok-Chunk.field-0-is at c.in-Ok-Chunk.ensures.readable in
    record {
      onward = onward_more _ _ _ c.chunks.read c.chunks.passed c.in-Ok-Chunk.total c.chunks.found c.in-Ok-Chunk.now c.chunks-test.true c.chunks.invariant.onward (told (λ e. ok_is_no_read _ _ refl e)) taken;
      short = omega (arith, small, c.chunks.invariant.short);
      few = omega (arith, c.chunks-test.true);
      readable = readable;
      kept = omega (arith, c.chunks.invariant.kept, c.in-Ok-Chunk.ensures.kept);
    }

pub returns-in-Err-clause-fails : goal.returns-in-Err-clause-fails
returns-in-Err-clause-fails g c =
    λ other. onward_fault _ _ c.chunks.read c.chunks.passed c.chunks.found c.in-Err.fault c.chunks-test.true c.chunks.invariant.onward (c.in-Err.ensures.step (λ e. other (same_fault _ _ _ refl e)))

pub returns-clause-fails : goal.returns-clause-fails
returns-clause-fails g c =
    λ _. onward_end _ _ c.chunks.read c.chunks.passed c.chunks.found c.chunks-test.false c.chunks.invariant.onward
