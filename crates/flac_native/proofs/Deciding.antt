-- An input has one answer.
use Rattle.std.proofs.Common.{◌≡◌, ◌<◌, true, false, [], length, Option, Some, None, inl, arith}
use Rattle.flac_bits.specs.Meaning.{Spells, IsCut}
use Rattle.flac_bits.specs.inner.Items.{NeedsBits}
use Rattle.flac_bits.specs.Handing.{OneReading, SomeReading}
use Rattle.flac_bits.proofs.Handing.{HasBits, one_reading, some_reading}
use Rattle.flac_bits.proofs.Items.{spelled_some}
use Rattle.flac_frame.specs.Frame.{frame, stream_header}
use Rattle.flac_header.specs.Header.{header}
use Rattle.flac_info.specs.Info.{Info}
use Rattle.flac_meta.specs.Header.{block_header}
use Rattle.flac_meta.specs.Block.{block as block_layout}
use Rattle.flac_native.specs.Stream.{grammar, marker, layout, layout_in, frame_after, may_end_in}
use Rattle.flac_native.specs.declared.track.Phase.{Phase}
use Rattle.flac_native.specs.declared.track.Phase.TheVariants.{Opening, Blocks, Frames}

two : false ≡ true → ⊥
two e = absurd cc

pub needs_bits : NeedsBits grammar
unfolding layout frame_after frame stream_header header
needs_bits p m e = go p.stand.phase p.stand.info e
  where
    go : (phase : Phase) (info : Option Info) → may_end_in phase info ≡ true → IsCut (layout_in phase (record p.stand { info = info })) m []
    go Opening info e = absurd (two e)
    go Blocks info e = absurd (two e)
    go Frames None e = absurd (two e)
    go Frames (Some i) e = inl (inl (inl (inl (omega arith))))

pub one_answer : OneReading grammar
one_answer = one_reading grammar needs_bits

-- no part is spelled by no bit
pub has_bits : HasBits grammar
unfolding layout frame_after frame stream_header header marker block_layout block_header
has_bits p m text x s = go p.stand.phase p.stand.info s
  where
    go : (phase : Phase) (info : Option Info) → Spells (layout_in phase (record p.stand { info = info })) m text x → 0 < length text
    go Opening info s = spelled_some (layout_in Opening (record p.stand { info = info })) m text x s (inl (inl (omega arith)))
    go Blocks info s = spelled_some (layout_in Blocks (record p.stand { info = info })) m text x s (inl (inl (inl (omega arith))))
    go Frames None s = absurd s.4
    go Frames (Some i) s = spelled_some (layout_in Frames (record p.stand { info = Some i })) m text x s (inl (inl (inl (inl (omega arith)))))

pub some_answer : SomeReading grammar
some_answer = some_reading grammar has_bits
