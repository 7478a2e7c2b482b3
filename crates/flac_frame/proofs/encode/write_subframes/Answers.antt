use Rattle.std.proofs.Common.{◌≡◌, ◌∙◌, ◌≤◌, ap, subst, sym, length, take, drop, map, List, ℕ, ℤ}
use Rattle.std.proofs.lemmas.List.{length-map, length-take-le}
use Rattle.flac_bits.specs.Written.{Writes}
use Rattle.flac_frame.specs.Encoding.{block_of}
use Rattle.flac_frame.specs.PlaneLists.{lists_of}
use Rattle.flac_frame.proofs.Frames.{many_channels, few_channels}
use Rattle.flac_frame.proofs.Capacities.{as_few, half_of}
use Rattle.flac_frame.proofs.Written.{pair_code, apart_made, apart_parts}
use Rattle.flac_frame.proofs.encode.write_subframes.Goals as goal

-- a block has as many channels
block_many : {V : Type 0} (items : V → List ℤ) (start size : ℕ) (xs : List V) (channels : List (List ℤ)) → map items xs ≡ channels → length (block_of start size channels) ≡ length xs
block_many items start size xs channels are = length-map channels (λ c. take size (drop start c)) ∙ ap (λ (l : List (List ℤ)). length l) (sym are) ∙ length-map xs items

pub write_pair-requires : goal.write_pair-requires
write_pair-requires g c =
    let e = c.channels-channels.ensures in
    let s = c.args.subject.now in
    let a = s.audio.now in
    let many = block_many (λ v. v.items) s.start s.size c.channels-channels.result.now a.channels e.items in
    let two : length a.channels ≡ 2 = sym (many_channels (λ v. v.items) c.channels-channels.result.now a e.sound e.items) ∙ c.if-channels-eq2.true in
    record {
      two = two;
      places = c.requires.places;
      block = c.requires.block;
      code = pair_code (lists_of s.predictors.now) a s.size s.number (block_of s.start s.size a.channels) c.args.choice.now c.requires.chosen (many ∙ c.if-channels-eq2.true);
      made = c.requires.chosen.made;
      choices = subst (λ n. n ≤ length c.args.choice.now.subframes.items) two c.requires.choices;
    }

pub returns-then-channels-eq2 : goal.returns-then-channels-eq2
returns-then-channels-eq2 g c = record { text = c.write_pair.ensures.text; room = c.write_pair.ensures.room }

pub slice_bounds-write_channels-end : goal.slice_bounds-write_channels-end
slice_bounds-write_channels-end g c = half_of _ _ c.requires.places

pub slice_bounds-write_channels-end-2 : goal.slice_bounds-write_channels-end-2
slice_bounds-write_channels-end-2 g c = sym (length-take-le c.args.subject.now.size c.args.places.now (half_of _ _ c.requires.places))

pub write_channels-requires : goal.write_channels-requires
write_channels-requires g c =
    let e = c.channels-channels.ensures in
    let s = c.args.subject.now in
    let a = s.audio.now in
    let many = block_many (λ v. v.items) s.start s.size c.channels-channels.result.now a.channels e.items in
    let few = few_channels (λ v. v.items) c.channels-channels.result.now a e.sound e.items in
    record {
      size = length-take-le s.size c.args.places.now (half_of _ _ c.requires.places);
      block = c.requires.block;
      choices = c.requires.choices;
      made = apart_made (lists_of s.predictors.now) a s.size s.number (block_of s.start s.size a.channels) c.args.choice.now c.requires.chosen (λ two. c.if-channels-eq2.false (sym many ∙ two)) (as_few _ _ _ many few.1);
    }

pub returns : goal.returns
returns g c =
    let e = c.channels-channels.ensures in
    let s = c.args.subject.now in
    let a = s.audio.now in
    let many = block_many (λ v. v.items) s.start s.size c.channels-channels.result.now a.channels e.items in
    let few = few_channels (λ v. v.items) c.channels-channels.result.now a e.sound e.items in
    let parts = apart_parts (lists_of s.predictors.now) a s.size s.number (block_of s.start s.size a.channels) c.args.choice.now c.requires.chosen (λ two. c.if-channels-eq2.false (sym many ∙ two)) (as_few _ _ _ many few.1) in
    record {
      text = subst (λ t. Writes t c.args.writer.now c.write_channels.new.writer c.write_channels.result) parts c.write_channels.ensures.text;
      room = c.write_channels.ensures.room;
    }
