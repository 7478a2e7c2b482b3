use Rattle.std.proofs.Common.{◌≡◌, ◌∙◌, ◌*◌, ◌<◌, ◌^◌, ap, sym, subst, length}
use Rattle.flac_subframe.specs.search.Capacity.{Capacity}
use Rattle.flac_frame.specs.Audio.{Sound}
use Rattle.flac_frame.specs.Chosen.{AllHaveCodings, HasPlaces}
use Rattle.flac_frame.specs.Pair.{HaveCodings}
use Rattle.flac_frame.proofs.Capacities.{as_few}
use Rattle.flac_frame.proofs.Subjects.{few_in, size_in, four_in, partition_in, orders_in, chosen_in}
use Rattle.flac_frame.proofs.encode.choose_frame_by_plane.Goals as goal

pub of-block-requires : goal.of-block-requires
of-block-requires c = record { some = c.requires.some; few = few_in _ _ _ c.requires.room (ap (λ (r : Capacity). r.block) c.buffers.view_is) c.buffers.invariant.block; within = c.requires.within }

pub choose_first-requires : goal.choose_first-requires
choose_first-requires c =
    let s = c.of-block.result in
    let is = c.of-block.ensures in
    let block = ap (λ (r : Capacity). r.block) c.buffers.view_is in
    let most = ap (λ (r : Capacity). r.most) c.buffers.view_is in
    record {
      places = four_in _ _ _ _ _ _ is.size c.requires.room block c.deref_mut.ensures.len c.buffers.invariant.places;
      block = size_in _ _ _ _ is.size c.requires.room block;
      partition = partition_in s.audio.now c.args.audio.now _ _ is.audio c.requires.partition most;
      codings = c.buffers.invariant.choices;
      choices = record {
        many = as_few _ _ _ (ap (λ (a : Sound). length a.channels) is.audio) c.requires.places.many;
        codings = subst (λ m. AllHaveCodings m c.args.choice.now.subframes.items) (sym most) c.requires.places.codings;
      };
      number = subst (λ n. n < 2 ^ 31) (sym is.number) c.requires.number;
      orders = orders_in s.audio.now c.args.audio.now s.predictors.now c.args.predictors.now is.audio is.predictors c.requires.orders;
    }

pub invariant_of-buffers : goal.invariant_of-buffers
invariant_of-buffers c =
    let same : c.choose_first.new.workspace ≡ c.buffers.inside.workspace = c.choose_first.ensures.room in
    let inv = c.buffers.invariant in
    record {
      places = inv.places ∙ ap (λ (r : Capacity). 4 * r.block) (sym same);
      choices = subst (λ (r : Capacity). HaveCodings r.most c.choose_first.new.choices) (sym same) c.choose_first.ensures.codings;
      choice = subst (λ (r : Capacity). HasPlaces 8 r.most c.buffers.inside.choice) (sym same) inv.choice;
      block = as_few _ _ _ (ap (λ (r : Capacity). r.block) same) inv.block;
    }

pub returns : goal.returns
returns c =
    let s = c.of-block.result in
    let is = c.of-block.ensures in
    let chosen = c.choose_first.ensures in
    record {
      kept = chosen.room ∙ c.buffers.view_is;
      chosen = chosen_in _ _ s.audio.now c.args.audio.now _ _ _ _ _ _ c.choose_first.new.choice is.predictors is.audio is.start is.size is.number chosen.chosen;
      places = record {
        many = as_few _ _ _ (ap (λ (a : Sound). length a.channels) (sym is.audio)) chosen.choices.many;
        codings = subst (λ m. AllHaveCodings m c.choose_first.new.choice.subframes.items) (ap (λ (r : Capacity). r.most) c.buffers.view_is) chosen.choices.codings;
      };
      many = chosen.many;
    }
