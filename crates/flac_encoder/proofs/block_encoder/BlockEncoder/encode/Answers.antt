use Rattle.std.specs.Prelude.{⊤}
use Rattle.std.proofs.Common.{◌≤◌, map, sym, subst, refl, List}
use Rattle.flac_bits.specs.Bits.{bits_of}
use Rattle.flac_subframe.specs.format.Handed.{AreWithin}
use Rattle.flac_subframe.specs.search.Capacity.{Capacity}
use Rattle.flac_subframe.specs.declared.format.linear.LinearPredictor.{LinearPredictor}
use Rattle.flac_frame.specs.Audio.{Sound, samples_each}
use Rattle.flac_frame.specs.Frame.{limits_at}
use Rattle.flac_native.specs.Writing.{SpellsFrame}
use Rattle.flac_native.proofs.Predictors.{within}
use Rattle.flac_encoder.specs.Pushing.{Pushed, shape_of, sound_of, frame_with, after_block, SpellsLeastFound}
use Rattle.flac_encoder.specs.inner.Searching.{effort_of}
use Rattle.flac_encoder.proofs.Pushing.{never_write, not_refused, is_next}
use Rattle.flac_encoder.proofs.Searching.{room_in}
use Rattle.flac_encoder.proofs.block_encoder.BlockEncoder.encode.Goals as goal

pub returns-in-Some-clause-unsent : goal.returns-in-Some-clause-unsent
returns-in-Some-clause-unsent c = λ w. never_write _ _ _ _ c.push_fault.ensures c.in-Some.is w

pub audio-requires-clause-block : goal.audio-requires-clause-block
audio-requires-clause-block c = let a = not_refused _ _ _ _ c.self.view_is c.self.invariant.shape c.push_fault.ensures c.in_default.is in a.fits

pub audio-requires-clause-size : goal.audio-requires-clause-size
audio-requires-clause-size c = let a = not_refused _ _ _ _ c.self.view_is c.self.invariant.shape c.push_fault.ensures c.in_default.is in a.most

pub audio-requires-clause-format : goal.audio-requires-clause-format
audio-requires-clause-format c = c.self.invariant.shape

pub searched_frame-requires-clause-some : goal.searched_frame-requires-clause-some
searched_frame-requires-clause-some c =
    let a = not_refused _ _ _ _ c.self.view_is c.self.invariant.shape c.push_fault.ensures c.in_default.is in
    rw c.in-Ok.ensures.samples a.some

pub searched_frame-requires-clause-searched : goal.searched_frame-requires-clause-searched
searched_frame-requires-clause-searched c =
    let a = not_refused _ _ _ _ c.self.view_is c.self.invariant.shape c.push_fault.ensures c.in_default.is in
    room_in c.self.inside.search (samples_each c.in-Ok.audio.channels) c.self.inside.format.block_size c.self.invariant.search (rw c.in-Ok.ensures.samples a.most)

pub searched_frame-requires-clause-room : goal.searched_frame-requires-clause-room
searched_frame-requires-clause-room c =
    let a = not_refused _ _ _ _ c.self.view_is c.self.invariant.shape c.push_fault.ensures c.in_default.is in
    subst (λ (r : Capacity). samples_each c.in-Ok.audio.channels ≤ r.block) (sym c.self.invariant.buffers) (rw c.in-Ok.ensures.samples a.most)

pub searched_frame-requires-clause-orders : goal.searched_frame-requires-clause-orders
searched_frame-requires-clause-orders c =
    let f = c.self.inside.format in
    let ps = c.self.inside.predictors.items in
    let few : AreWithin (limits_at c.in-Ok.audio.profile c.in-Ok.audio.rate).linear ps =
    subst (λ (s : Sound). AreWithin (limits_at s.profile s.rate).linear ps) (sym c.in-Ok.ensures.samples) (within f.profile f.rate ps c.self.invariant.predictors) in
    subst (λ (l : List LinearPredictor). AreWithin (limits_at c.in-Ok.audio.profile c.in-Ok.audio.rate).linear l) (sym c.as_slice.ensures.value) few

pub searched_frame-requires-clause-number : goal.searched_frame-requires-clause-number
searched_frame-requires-clause-number c = let a = not_refused _ _ _ _ c.self.view_is c.self.invariant.shape c.push_fault.ensures c.in_default.is in a.number

pub returns-clause-next : goal.returns-clause-next
returns-clause-next c =
    let a = not_refused _ _ _ _ c.self.view_is c.self.invariant.shape c.push_fault.ensures c.in_default.is in
    let old : Pushed ⊤ = record {
      shape = shape_of c.self.inside.format;
      predictors = c.self.inside.predictors.items;
      search = effort_of c.self.inside.search;
      number = c.self.inside.number;
      samples = c.self.inside.samples;
      ended = c.self.inside.ended;
      spent = c.self.inside.spent;
      target = tt;
    } in
    let block = map (λ b. b.now) c.args.block.now in
    let text = bits_of c.in-Ok-searched_frame.frame.items in
    let sound = c.in-Ok.audio in
    let made = c.in-Ok-searched_frame.ensures in
    let frame : SpellsFrame (sound_of old.shape block) (frame_with old.number block) text =
    subst (λ (s : Sound). SpellsFrame s (frame_with old.number s.channels) text) c.in-Ok.ensures.samples made.frame in
    let tried : SpellsLeastFound old.search old.predictors sound (frame_with old.number sound.channels) text =
    subst (λ (ps : List LinearPredictor). SpellsLeastFound old.search ps sound (frame_with old.number sound.channels) text) c.as_slice.ensures.value made.least in
    let least : SpellsLeastFound old.search old.predictors (sound_of old.shape block) (frame_with old.number block) text =
    subst (λ (s : Sound). SpellsLeastFound old.search old.predictors s (frame_with old.number s.channels) text) c.in-Ok.ensures.samples tried in
    rw (← c.self.view_is) (is_next old (after_block old (samples_each block) tt) block text c.self.invariant.shape a frame least refl)
