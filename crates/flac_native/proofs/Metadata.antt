-- The marker and the blocks of a stream, one after another.
use Rattle.std.proofs.Common.{◌≡◌, ℕ, Bool, true, false, List, Option, None, Ok, Err, refl, sym, ap, ◌∙◌}
use Rattle.flac_bits.specs.State.{State, started}
use Rattle.flac_bits.specs.Layout.{because, run}
use Rattle.flac_bits.specs.Items.{item, refused}
use Rattle.flac_bits.specs.inner.Items.{step_at, stepped}
use Rattle.flac_bits.specs.declared.why.Why.{Why}
use Rattle.flac_info.specs.Info.{Info}
use Rattle.flac_meta.specs.declared.block.Block.{Block}
use Rattle.flac_native.specs.Stream.{Progress, Stand, grammar, layout, may_end_in, place_in, room_in}
use Rattle.flac_native.specs.Track.{is_after_blocks, position_of}
use Rattle.flac_native.specs.Retag.{is_before_frames}
use Rattle.flac_native.specs.inner.Retag.{stand_at, piece_in}
use Rattle.flac_native.specs.declared.position.Position.{Position}
use Rattle.flac_native.specs.declared.fault.Place.{Place}
use Rattle.flac_native.specs.declared.fault.Place.TheVariants as place
use Rattle.flac_native.specs.declared.track.Phase.{Phase}
use Rattle.flac_native.specs.declared.track.Phase.TheVariants.{Opening, Blocks, Frames}

ends_not : (phase : Phase) (info : Option Info) → is_after_blocks phase ≡ false → may_end_in phase info ≡ false
ends_not Opening info e = refl
ends_not Blocks info e = refl
ends_not Frames info e = absurd cc

pub before_frames : (phase : Phase) (index : ℕ) → is_after_blocks phase ≡ false → is_before_frames (place_in phase index) ≡ true
before_frames Opening index e = refl
before_frames Blocks index e = refl
before_frames Frames index e = absurd cc

-- only the marker is at the place of the marker
pub at_the_marker : (phase : Phase) (index : ℕ) → place_in phase index ≡ place.Marker → phase ≡ Opening
at_the_marker Opening index e = refl
at_the_marker Blocks index e = absurd cc
at_the_marker Frames index e = absurd cc

-- ---- and how they are read

no_room : (phase : Phase) → is_after_blocks phase ≡ false → room_in phase ≡ None
no_room Opening e = refl
no_room Blocks e = refl
no_room Frames e = absurd cc

-- no stream ends before them, and they have no limit of bytes
part_step : (p : Progress) (s : State) → is_after_blocks p.stand.phase ≡ false → step_at grammar p s.cursor ≡ stepped (place_in p.stand.phase p.stand.index) (run (layout p.stand) (started s).cursor)
part_step p s early = rw (ends_not p.stand.phase p.stand.info early, no_room p.stand.phase early) refl

-- the same stand at its own position
pub own_stand : (q : Position) (s : Stand) → position_of s ≡ q → stand_at q s ≡ s
own_stand q s at = sym (ap (λ k. stand_at k s) at)

-- what was read is the next step
pub part_read : (p : Progress) (q : Position) (s t : State) (part : Option (Bool × Block)) → position_of p.stand ≡ q → is_after_blocks q.phase ≡ false
    → run (layout (stand_at q p.stand)) (started s).cursor ≡ Ok (piece_in part, t.cursor) → step_at grammar p s.cursor ≡ item (piece_in part) t.cursor
part_read p q s t part at early read =
    let same = own_stand q p.stand at in
    part_step p s (ap (λ (k : Position). is_after_blocks k.phase) at ∙ early)
    ∙ ap (λ k. stepped (place_in p.stand.phase p.stand.index) (run (layout k) (started s).cursor)) (sym same) ∙ ap (stepped (place_in p.stand.phase p.stand.index)) read

-- and so is a refusal, at the place of the part
pub part_refused : (p : Progress) (q : Position) (s : State) (at : Place) (why : Why) → position_of p.stand ≡ q → is_after_blocks q.phase ≡ false → at ≡ place_in q.phase q.index
    → run (layout (stand_at q p.stand)) (started s).cursor ≡ Err (because why) → step_at grammar p s.cursor ≡ refused at why
part_refused p q s at why stands early place read =
    let same = own_stand q p.stand stands in
    part_step p s (ap (λ (k : Position). is_after_blocks k.phase) stands ∙ early)
    ∙ ap (λ k. stepped (place_in p.stand.phase p.stand.index) (run (layout k) (started s).cursor)) (sym same) ∙ ap (stepped (place_in p.stand.phase p.stand.index)) read
    ∙ ap (λ to. refused to why) (ap (λ (k : Position). place_in k.phase k.index) stands ∙ sym place)

-- keeping blocks has no errors of its own
abbrev pub no_errors : List Block → ℕ
no_errors kept = 0
