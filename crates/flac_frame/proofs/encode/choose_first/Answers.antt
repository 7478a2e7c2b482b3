use Rattle.std.proofs.Common.{◌≡◌, ◌∙◌, sym, subst, length}
use Rattle.std.proofs.lemmas.List.{length-take-le}
use Rattle.flac_frame.specs.Chosen.{HasPlaces}
use Rattle.flac_frame.proofs.Frames.{many_channels}
use Rattle.flac_frame.proofs.Capacities.{quarter}
use Rattle.flac_frame.proofs.encode.choose_first.Goals as goal

pub choose_pair-requires : goal.choose_pair-requires
choose_pair-requires c =
    let e = c.channels-channels.ensures in
    let a = c.args.subject.now.audio.now in
    let two : length a.channels ≡ 2 = sym (many_channels (λ v. v.items) c.channels-channels.result.now a e.sound e.items) ∙ c.if-channels-eq2.true in
    record {
      two = two;
      places = c.requires.places;
      block = c.requires.block;
      partition = c.requires.partition;
      codings = c.requires.codings;
      choices = subst (λ n. HasPlaces n c.args.workspace.now.most c.args.choice.now) two c.requires.choices;
      number = c.requires.number;
      orders = c.requires.orders;
    }

pub returns-then-channels-eq2 : goal.returns-then-channels-eq2
returns-then-channels-eq2 c =
    let e = c.channels-channels.ensures in
    let a = c.args.subject.now.audio.now in
    let two : length a.channels ≡ 2 = sym (many_channels (λ v. v.items) c.channels-channels.result.now a e.sound e.items) ∙ c.if-channels-eq2.true in
    let k = c.choose_pair.ensures in
    record { chosen = k.chosen; codings = k.codings; choices = subst (λ n. HasPlaces n c.args.workspace.now.most c.choose_pair.new.choice) (sym two) k.choices; many = k.many; room = k.room }

pub slice_bounds-choose_apart-end : goal.slice_bounds-choose_apart-end
slice_bounds-choose_apart-end c = quarter _ _ c.requires.places

pub slice_bounds-choose_apart-end-2 : goal.slice_bounds-choose_apart-end-2
slice_bounds-choose_apart-end-2 c = sym (length-take-le c.args.subject.now.size c.args.places.now (quarter _ _ c.requires.places))

pub choose_apart-requires : goal.choose_apart-requires
choose_apart-requires c =
    let e = c.channels-channels.ensures in
    let s = c.args.subject.now in
    record {
      other = λ two. c.if-channels-eq2.false (many_channels (λ v. v.items) c.channels-channels.result.now s.audio.now e.sound e.items ∙ two);
      size = length-take-le s.size c.args.places.now (quarter _ _ c.requires.places);
      block = c.requires.block;
      partition = c.requires.partition;
      choices = c.requires.choices;
      number = c.requires.number;
      orders = c.requires.orders;
    }

pub returns : goal.returns
returns c = let k = c.choose_apart.ensures in record { chosen = k.chosen; codings = c.requires.codings; choices = k.choices; many = k.many; room = k.room }
