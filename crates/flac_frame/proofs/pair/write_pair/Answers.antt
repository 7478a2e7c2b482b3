use Rattle.std.proofs.Common.{◌≡◌, ◌∙◌, ◌+◌, ◌≤◌, ap, sym, subst, length, All}
use Rattle.std.proofs.lemmas.List.{length-take-le}
use Rattle.flac_bits.specs.Signed.{FitsBits}
use Rattle.flac_bits.specs.Written.{Writes}
use Rattle.flac_header.specs.Assignment.{code_of}
use Rattle.flac_frame.specs.Audio.{samples_each}
use Rattle.flac_frame.specs.Chosen.{forms_by_plane, AreMadeByPlane}
use Rattle.flac_frame.specs.PlaneLists.{lists_of, lists_kept}
use Rattle.flac_frame.specs.Encoding.{block_of}
use Rattle.flac_frame.specs.Frame.{side_bit}
use Rattle.flac_frame.specs.Spelling.{subframes_spelling}
use Rattle.flac_frame.specs.Stereo.{kept_as}
use Rattle.flac_frame.proofs.Capacities.{as_few, some_of, half_of, other_half}
use Rattle.flac_frame.proofs.pair.write_pair.Goals as goal

pub split_at_mut-first-requires : goal.split_at_mut-first-requires
split_at_mut-first-requires g c = half_of _ _ c.requires.places

pub slice_bounds-second-end : goal.slice_bounds-second-end
slice_bounds-second-end g c = other_half _ _ _ c.requires.places c.split_at_mut-first.ensures.back_len

pub slice_bounds-second-end-2 : goal.slice_bounds-second-end-2
slice_bounds-second-end-2 g c = sym (length-take-le c.args.subject.now.size c.split_at_mut-first.result.1.now (other_half _ _ _ c.requires.places c.split_at_mut-first.ensures.back_len))

pub keep_pair-requires : goal.keep_pair-requires
keep_pair-requires g c =
    let s = c.args.subject.now in
    let front = c.split_at_mut-first.ensures.front_len in
    record {
      valid = c.assignment-assignment.ensures.valid;
      two = c.requires.two;
      within = subst (λ n. s.start + n ≤ samples_each s.audio.now.channels) (sym front) s.within;
      second = length-take-le s.size c.split_at_mut-first.result.1.now (other_half _ _ _ c.requires.places c.split_at_mut-first.ensures.back_len) ∙ sym front;
    }

pub write_two-requires : goal.write_two-requires
write_two-requires g c =
    let s = c.args.subject.now in
    let front = c.split_at_mut-first.ensures.front_len in
    let same = c.assignment-assignment.ensures.code in
    let channels = s.audio.now.channels in
    let kept = ap (λ k. kept_as k (block_of s.start s.size channels)) (sym same) ∙ ap (λ n. kept_as (code_of c.assignment-assignment.result) (block_of s.start n channels)) (sym front) ∙ c.keep_pair.ensures.kept in
    let long : length c.keep_pair.new.first ≡ s.size = c.keep_pair.auto.first ∙ front in
    let places = length-take-le s.size c.split_at_mut-first.result.1.now (other_half _ _ _ c.requires.places c.split_at_mut-first.ensures.back_len) in
    record {
      code = c.requires.code;
      some = some_of _ _ long s.some;
      block = as_few _ _ _ long c.requires.block;
      second = c.keep_pair.auto.second ∙ places ∙ sym long;
      first_fits = subst (λ k. All (FitsBits (s.audio.now.bits + side_bit k 0)) c.keep_pair.new.first) same c.keep_pair.ensures.first_fits;
      second_fits = subst (λ k. All (FitsBits (s.audio.now.bits + side_bit k 1)) c.keep_pair.new.second) same c.keep_pair.ensures.second_fits;
      made = subst (AreMadeByPlane (lists_kept c.args.choice.now.code (lists_of s.predictors.now)) c.args.choice.now.subframes.items) kept c.requires.made;
      choices = c.requires.choices;
    }

pub returns : goal.returns
returns g c =
    let s = c.args.subject.now in
    let front = c.split_at_mut-first.ensures.front_len in
    let same = c.assignment-assignment.ensures.code in
    let channels = s.audio.now.channels in
    let kept = ap (λ k. kept_as k (block_of s.start s.size channels)) (sym same) ∙ ap (λ n. kept_as (code_of c.assignment-assignment.result) (block_of s.start n channels)) (sym front) ∙ c.keep_pair.ensures.kept in
    record {
      text = subst (λ b. Writes (subframes_spelling s.audio.now.bits c.args.choice.now.code 0 (forms_by_plane (lists_kept c.args.choice.now.code (lists_of s.predictors.now)) c.args.choice.now.subframes.items b)) c.args.writer.now c.write_two.new.writer c.write_two.result) (sym kept) c.write_two.ensures.text;
      room = c.write_two.ensures.room;
    }
