use Rattle.std.proofs.Common.{◌∙◌, ap, map, take, drop, ◌∷◌, []}
use Rattle.std.proofs.lemmas.List.{map-append}
use Rattle.flac_wave.proofs.Formats.{walked_range}
use Rattle.flac_wave.proofs.Walks.{walked_next}
use Rattle.flac_wave.proofs.waves.wave_of.Goals as goal

pub chunks-preserved : goal.chunks-preserved
chunks-preserved c =
    let e = rw c.in-Ok-Chunk.field-0-is at c.in-Ok-Chunk.ensures.found in
    let copy = c.in_ok-from_slice-in-Ok-Chunk.field-0 in
    let cut = c.split_at-in-Ok-Chunk.ensures in
    walked_next c.args.to_end c.args.bytes.now (map (λ p. p.items) c.chunks.pieces.items) _ c.chunks.rest.now c.split_at-in-Ok-Chunk.result.1.now copy.items c.chunks.seen c.in-Ok-Chunk.known c.chunks.count c.chunks.invariant
    e.0 e.1 e.2 (c.in_ok-from_slice-in-Ok-Chunk.ensures.items ∙ (cut.front ∙ ap (λ n. take n c.chunks.rest.now) c.chunk_len.ensures.value)) (cut.back ∙ ap (λ n. drop n c.chunks.rest.now) c.chunk_len.ensures.value)
    (ap (map (λ p. p.items)) c.in_ok-push-in-Ok-Chunk.ensures.items ∙ map-append (λ p. p.items) c.chunks.pieces.items (copy ∷ []))

pub returns-in-Ok-Samples-clause-range : goal.returns-in-Ok-Samples-clause-range
returns-in-Ok-Samples-clause-range c =
    let e = rw c.in-Ok-Samples.field-0-is at c.in-Ok-Samples.ensures.found in
    walked_range c.args.to_end c.args.bytes.now _ c.chunks.rest.now c.chunks.seen c.chunks.count c.in-Ok-Samples.format c.chunks.invariant e.2
