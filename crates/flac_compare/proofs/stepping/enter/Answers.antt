use Rattle.std.proofs.Common.{◌≡◌, sym, ap, ◌∙◌, arith}
use Rattle.flac_frame.specs.Viewed.{frame_of}
use Rattle.flac_reader.specs.Coming.{size_of}
use Rattle.flac_reader.specs.Giving.{last_frame}
use Rattle.flac_compare.proofs.Onwards.{stays_same, met_same, step_stays, enters_none, enters_frame, enters_end, enters_refusal}
use Rattle.flac_compare.proofs.stepping.enter.Goals as goal

pub returns-then-left-gt0 : goal.returns-then-left-gt0
returns-then-left-gt0 g c = record {
  within = c.requires;
  stays = stays_same c.args.reader.now;
  met = met_same c.args.reader.now;
  enters = enters_none c.args.reader.now c.args.left.now;
}

pub returns-in-Some : goal.returns-in-Some
returns-in-Some g c =
    let old = c.args.reader.now in
    let new = c.step.new.self in
    let zero : c.args.left.now ≡ 0 = omega (arith, c.if-left-gt0.false) in
    let size : c.len.result ≡ size_of (last_frame new) = c.len.ensures ∙ ap size_of c.in-Some.ensures in
    record {
      within = omega (arith, size);
      stays = step_stays old new _ c.in-Ok.ensures;
      met = c.in-Ok.ensures.counts.met;
      enters = enters_frame old new c.args.left.now c.len.result _ (frame_of c.in-Some.frame) zero size (sym c.in-Some.ensures) c.in-Ok.ensures;
    }

pub returns-in-None : goal.returns-in-None
returns-in-None g c =
    let old = c.args.reader.now in
    let new = c.step.new.self in
    let zero : c.args.left.now ≡ 0 = omega (arith, c.if-left-gt0.false) in
    record {
      within = omega (arith, zero);
      stays = step_stays old new _ c.in-Ok.ensures;
      met = c.in-Ok.ensures.counts.met;
      enters = enters_end old new c.args.left.now c.args.left.now _ zero (sym c.in-None.ensures) c.in-Ok.ensures;
    }

pub returns-in-Err : goal.returns-in-Err
returns-in-Err g c =
    let old = c.args.reader.now in
    let new = c.step.new.self in
    let zero : c.args.left.now ≡ 0 = omega (arith, c.if-left-gt0.false) in
    record {
      within = tt;
      stays = step_stays old new _ c.in-Err.ensures;
      met = tt;
      enters = enters_refusal old new c.args.left.now c.args.left.now c.in-Err.fault zero c.in-Err.ensures;
    }
