use Rattle.std.proofs.Common.{◌≡◌, ◌-◌, ◌<◌, ◌≤◌, length, drop, ◌∙◌, arith}
use Rattle.std.proofs.lemmas.List.{length-take, length-drop}
use Rattle.flac_bits.proofs.Copied.{put_taken, put_long}
use Rattle.flac_pages.proofs.Stepping.{copies_still, copies_more}
use Rattle.flac_pages.proofs.pages.Pages.copy_in_page.Goals as goal

pub loop-done-preserved : goal.loop-done-preserved
loop-done-preserved g c =
    let inv = c.loop-done.invariant in
    let done = c.loop-done.done in
    let xs = c.loop-done.out in
    let ys = c.copy-done.new.out in
    let n = c.copy-done.result in
    let got = c.copy-done.ensures in
    let long : length ys ≡ length xs - done = c.copy-done.auto.out ∙ omega (arith, length-take (length xs - done) (drop done xs), length-drop done xs) in
    let few : n ≤ length ys = omega (arith, got.few, c.copy-done.auto.out) in
    let here = copies_still c.args.self.now c.loop-done.self c.has_byte.new.self xs done inv.copies c.has_byte.ensures.same in
    let more : 0 < n = got.some (omega (arith, c.loop-done-test.true, long, c.copy-done.auto.out)) (c.has_byte.ensures.byte c.if-has_byte.true) in
    record {
      within = omega (arith, put_long done xs ys inv.within long, few, long, inv.within);
      some = λ _. omega (arith, more);
      copies = copies_more c.args.self.now c.has_byte.new.self c.copy-done.new.self xs ys _ done n (put_taken done (length xs - done) n xs ys inv.within few) here got.copies;
    }
