use Rattle.std.proofs.Common.{◌-◌, inl, inr, sym, ap, arith}
use Rattle.flac_frame.specs.Viewed.{frame_of}
use Rattle.flac_reader.specs.Giving.{last_frame}
use Rattle.flac_compare.proofs.Samples.{found_difference, found_nothing, sized}
use Rattle.flac_compare.proofs.comparing.held_difference.Goals as goal

pub first_difference-requires : goal.first_difference-requires
first_difference-requires g c =
    let one = sized (last_frame c.args.first.now) (frame_of c.in-Some.a) c.args.left (sym c.in-Some.ensures) c.requires.first in
    let two = sized (last_frame c.args.second.now) (frame_of c.in-Some-frame.b) c.args.other (sym c.in-Some-frame.ensures) c.requires.second in
    record {
      first = omega (arith, one, c.len.ensures, c.requires.n.0);
      second = omega (arith, two, c.len-in-Some-frame.ensures, c.requires.n.1);
    }

pub returns-in-Some-frame : goal.returns-in-Some-frame
returns-in-Some-frame g c =
    found_difference (last_frame c.args.first.now) (last_frame c.args.second.now) (frame_of c.in-Some.a) (frame_of c.in-Some-frame.b) c.args.left c.args.other c.args.n _ _ (sym c.in-Some.ensures) (sym c.in-Some-frame.ensures)
    c.requires.first c.requires.second c.requires.n.0 c.requires.n.1 (ap (λ k. k - c.args.left) c.len.ensures) (ap (λ k. k - c.args.other) c.len-in-Some-frame.ensures) c.first_difference.result c.first_difference.ensures

pub returns-in-None-frame : goal.returns-in-None-frame
returns-in-None-frame g c =
    found_nothing (last_frame c.args.first.now) (last_frame c.args.second.now) c.args.left c.args.other c.args.n (inr (sym c.in-None-frame.ensures)) c.requires.first c.requires.second c.requires.n.0 c.requires.n.1

pub returns-in-None : goal.returns-in-None
returns-in-None g c =
    found_nothing (last_frame c.args.first.now) (last_frame c.args.second.now) c.args.left c.args.other c.args.n (inl (sym c.in-None.ensures)) c.requires.first c.requires.second c.requires.n.0 c.requires.n.1
