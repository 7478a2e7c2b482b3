use Rattle.std.proofs.Common.{◌≡◌, ◌∙◌, ◌*◌, ap, sym, subst, length}
use Rattle.flac_subframe.specs.search.Capacity.{Capacity}
use Rattle.flac_frame.specs.Audio.{Sound}
use Rattle.flac_frame.specs.Chosen.{HasPlaces}
use Rattle.flac_frame.specs.Pair.{HaveCodings}
use Rattle.flac_frame.proofs.Capacities.{as_few}
use Rattle.flac_frame.proofs.Subjects.{few_in, size_in, two_in, chosen_in, wrote_in}
use Rattle.flac_frame.proofs.encode.write_frame_by_plane.Goals as goal

pub of-frame-requires : goal.of-frame-requires
of-frame-requires g c = record { some = c.requires.some; few = few_in _ _ _ c.requires.room (ap (λ (r : Capacity). r.block) c.buffers.view_is) c.buffers.invariant.block; within = c.requires.within }

pub write_first-requires : goal.write_first-requires
write_first-requires g c =
    let s = c.of-frame.result in
    let is = c.of-frame.ensures in
    let block = ap (λ (r : Capacity). r.block) c.buffers.view_is in
    record {
      places = two_in _ _ _ _ _ _ is.size c.requires.room block c.deref_mut.ensures.len c.buffers.invariant.places;
      block = size_in _ _ _ _ is.size c.requires.room block;
      choices = as_few _ _ _ (ap (λ (a : Sound). length a.channels) is.audio) c.requires.places;
      chosen = chosen_in _ _ c.args.audio.now s.audio.now _ _ _ _ _ _ c.args.choice.now (sym is.predictors) (sym is.audio) (sym is.start) (sym is.size) (sym is.number) c.requires.chosen;
      whole = c.requires.whole;
    }

pub invariant_of-buffers : goal.invariant_of-buffers
invariant_of-buffers g c =
    let same : c.write_first.new.workspace ≡ c.buffers.inside.workspace = c.write_first.ensures.room in
    let inv = c.buffers.invariant in
    record {
      places = inv.places ∙ ap (λ (r : Capacity). 4 * r.block) (sym same);
      choices = subst (λ (r : Capacity). HaveCodings r.most c.buffers.inside.choices) (sym same) inv.choices;
      choice = subst (λ (r : Capacity). HasPlaces 8 r.most c.buffers.inside.choice) (sym same) inv.choice;
      block = as_few _ _ _ (ap (λ (r : Capacity). r.block) same) inv.block;
    }

pub returns : goal.returns
returns g c =
    let s = c.of-frame.result in
    let is = c.of-frame.ensures in
    record {
      kept = c.write_first.ensures.room ∙ c.buffers.view_is;
      wrote = wrote_in _ _ s.audio.now c.args.audio.now _ _ _ _ _ _ c.args.writer.now c.write_first.new.writer c.write_first.result is.predictors is.audio is.start is.size is.number c.write_first.ensures.wrote;
    }
