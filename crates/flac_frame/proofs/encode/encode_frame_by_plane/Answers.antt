use Rattle.std.proofs.Common.{◌≡◌, ◌<◌, ◌≤◌, ◌-◌, ◌+◌, ◌*◌, ◌^◌, ◌∙◌, ℕ, length, Result, Ok, ap, subst, sym, arith}
use Rattle.std.proofs.lemmas.Result.{err_from_is_err_and}
use Rattle.flac_bits.specs.declared.why.Why.{Why}
use Rattle.flac_subframe.specs.search.Capacity.{Capacity}
use Rattle.flac_frame.specs.Audio.{Sound}
use Rattle.flac_frame.specs.Chosen.{AllHaveCodings}
use Rattle.flac_frame.specs.Pair.{HaveCodings}
use Rattle.flac_frame.specs.Spelling.{frame_spelling}
use Rattle.flac_frame.proofs.Encoded.{failed}
use Rattle.flac_frame.proofs.FrameTie.{frames_bytes}
use Rattle.flac_frame.proofs.Capacities.{as_few, few_of}
use Rattle.flac_frame.proofs.Sizes.{bytes_grow, bits_more}
use Rattle.flac_frame.proofs.Subjects.{few_in, size_in, four_in, two_in, partition_in, orders_in, wrote_in}
use Rattle.flac_frame.proofs.encode.encode_frame_by_plane.Goals as goal

-- how many bytes more were written
no_fewer : (before after old new : ℕ) → before ≡ old → after ≡ new → old ≤ new → before ≤ after
no_fewer before after old new is now le = omega arith

more_bytes : (before after old new : ℕ) → before ≡ old → after ≡ new → old ≤ new → new ≡ old + (after - before)
more_bytes before after old new is now le = omega arith

-- the result of a call that returned no error
abbrev done : Result (Unit {0}) Why
done = Ok tt

pub overflow_sub-result : goal.overflow_sub-result
overflow_sub-result g c =
    let wrote = c.in_ok-write_first.ensures.wrote in
    let few : c.args.writer.now.mark.bytes < 2 ^ 64 = subst (λ n. n < 2 ^ 64) c.bytes_written-before.ensures c.bytes_written-before.type_inv in
    let grows = bytes_grow (frame_spelling c.of-subject.result.audio.now.bits wrote.0) c.args.writer.now c.write_first.new.writer c.requires.whole few wrote.3 in
    no_fewer _ _ _ _ c.bytes_written-before.ensures c.bytes_written.ensures grows

pub of-subject-requires : goal.of-subject-requires
of-subject-requires g c = record { some = c.requires.some; few = few_in _ _ _ c.requires.room (ap (λ (r : Capacity). r.block) c.buffers.view_is) c.buffers.invariant.block; within = c.requires.within }

pub choose_first-requires : goal.choose_first-requires
choose_first-requires g c =
    let s = c.of-subject.result in
    let is = c.of-subject.ensures in
    let inv = c.buffers.invariant in
    let block = ap (λ (r : Capacity). r.block) c.buffers.view_is in
    record {
      places = four_in _ _ _ _ _ _ is.size c.requires.room block c.deref_mut.ensures.len inv.places;
      block = size_in _ _ _ _ is.size c.requires.room block;
      partition = partition_in s.audio.now c.args.audio.now _ _ is.audio c.requires.partition (ap (λ (r : Capacity). r.most) c.buffers.view_is);
      codings = inv.choices;
      choices = record { many = few_of _ _ _ (as_few _ _ _ (ap (λ (a : Sound). length a.channels) is.audio) c.channels-channels.ensures.sound.few) inv.choice.many; codings = inv.choice.codings };
      number = subst (λ n. n < 2 ^ 31) (sym is.number) c.requires.number;
      orders = orders_in s.audio.now c.args.audio.now s.predictors.now c.args.predictors.now is.audio is.predictors c.requires.orders;
    }

pub write_first-requires : goal.write_first-requires
write_first-requires g c =
    let chosen = c.choose_first.ensures in
    let block = ap (λ (r : Capacity). r.block) c.buffers.view_is in
    record {
      places = two_in _ _ _ _ _ _ c.of-subject.ensures.size c.requires.room block c.deref_mut-2.ensures.len c.buffers.invariant.places;
      block = size_in _ _ _ _ c.of-subject.ensures.size c.requires.room (ap (λ (r : Capacity). r.block) chosen.room ∙ block);
      choices = chosen.choices.many;
      chosen = chosen.chosen;
      whole = c.requires.whole;
    }

pub returns-in_err-write_first : goal.returns-in_err-write_first
returns-in_err-write_first g c =
    let p = err_from_is_err_and c.from_residual.result c.from_residual.ensures.1 in
    let s = c.of-subject.result in
    let is = c.of-subject.ensures in
    let wrote = wrote_in _ _ s.audio.now c.args.audio.now _ _ _ _ _ _ c.args.writer.now c.write_first.new.writer (failed c.in_err-write_first.field-0.0) is.predictors is.audio is.start is.size is.number c.in_err-write_first.ensures.wrote in
    rw (p.1, p.2) (record { kept = c.in_err-write_first.ensures.room ∙ c.choose_first.ensures.room ∙ c.buffers.view_is; wrote = wrote; counted = tt; bytes = tt })

pub returns-clause-kept : goal.returns-clause-kept
returns-clause-kept g c = c.in_ok-write_first.ensures.room ∙ c.choose_first.ensures.room ∙ c.buffers.view_is

pub returns-clause-wrote : goal.returns-clause-wrote
returns-clause-wrote g c =
    let s = c.of-subject.result in
    let is = c.of-subject.ensures in
    wrote_in _ _ s.audio.now c.args.audio.now _ _ _ _ _ _ c.args.writer.now c.write_first.new.writer done is.predictors is.audio is.start is.size is.number c.in_ok-write_first.ensures.wrote

pub returns-clause-counted : goal.returns-clause-counted
returns-clause-counted g c =
    let wrote = c.in_ok-write_first.ensures.wrote in
    let few : c.args.writer.now.mark.bytes < 2 ^ 64 = subst (λ n. n < 2 ^ 64) c.bytes_written-before.ensures c.bytes_written-before.type_inv in
    let grows = bytes_grow (frame_spelling c.of-subject.result.audio.now.bits wrote.0) c.args.writer.now c.write_first.new.writer c.requires.whole few wrote.3 in
    more_bytes _ _ _ _ c.bytes_written-before.ensures c.bytes_written.ensures grows

pub returns-clause-bytes : goal.returns-clause-bytes
returns-clause-bytes g c known exact =
    let wrote = c.in_ok-write_first.ensures.wrote in
    let bytes = c.bytes_written.result - c.bytes_written-before.result in
    let few : c.args.writer.now.mark.bytes < 2 ^ 64 = subst (λ n. n < 2 ^ 64) c.bytes_written-before.ensures c.bytes_written-before.type_inv in
    let grows = bytes_grow (frame_spelling c.of-subject.result.audio.now.bits wrote.0) c.args.writer.now c.write_first.new.writer c.requires.whole few wrote.3 in
    let more : c.write_first.new.writer.mark.bytes ≡ c.args.writer.now.mark.bytes + bytes = more_bytes _ _ _ _ c.bytes_written-before.ensures c.bytes_written.ensures grows in
    bits_more (frame_spelling c.of-subject.result.audio.now.bits wrote.0) c.args.writer.now c.write_first.new.writer bytes c.requires.whole few (frames_bytes c.of-subject.result.audio.now.bits wrote.0) wrote.3 more known exact

pub invariant_of-buffers : goal.invariant_of-buffers
invariant_of-buffers g c =
    let same : c.write_first.new.workspace ≡ c.buffers.inside.workspace = c.in_err-write_first.ensures.room ∙ c.choose_first.ensures.room in
    record {
      places = c.buffers.invariant.places ∙ ap (λ (r : Capacity). 4 * r.block) (sym same);
      choices = subst (λ (r : Capacity). HaveCodings r.most c.choose_first.new.choices) (sym same) c.choose_first.ensures.codings;
      choice = record {
        many = subst (λ n. 8 ≤ n) (sym c.choose_first.ensures.many) c.buffers.invariant.choice.many;
        codings = subst (λ (r : Capacity). AllHaveCodings r.most c.choose_first.new.choice.subframes.items) (sym same) c.choose_first.ensures.choices.codings;
      };
      block = as_few _ _ _ (ap (λ (r : Capacity). r.block) same) c.buffers.invariant.block;
    }

pub invariant_of-buffers-2 : goal.invariant_of-buffers-2
invariant_of-buffers-2 g c =
    let same : c.write_first.new.workspace ≡ c.buffers.inside.workspace = c.in_ok-write_first.ensures.room ∙ c.choose_first.ensures.room in
    record {
      places = c.buffers.invariant.places ∙ ap (λ (r : Capacity). 4 * r.block) (sym same);
      choices = subst (λ (r : Capacity). HaveCodings r.most c.choose_first.new.choices) (sym same) c.choose_first.ensures.codings;
      choice = record {
        many = subst (λ n. 8 ≤ n) (sym c.choose_first.ensures.many) c.buffers.invariant.choice.many;
        codings = subst (λ (r : Capacity). AllHaveCodings r.most c.choose_first.new.choice.subframes.items) (sym same) c.choose_first.ensures.choices.codings;
      };
      block = as_few _ _ _ (ap (λ (r : Capacity). r.block) same) c.buffers.invariant.block;
    }
