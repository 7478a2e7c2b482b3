use Rattle.std.proofs.Common.{arith, ap, length, length-drop}
use Rattle.flac_report.proofs.Escapes.{letter_more, letter_none, letters_end}
use Rattle.flac_report.proofs.texts.unescaped.Goals as goal

pub loop-place-preserved : goal.loop-place-preserved
loop-place-preserved c = record {
  within = omega (arith, c.in-Some.ensures.inside, ap length c.after.ensures, length-drop c.loop-place.place c.args.text.now, c.loop-place-test.true);
  taken = letter_more c.args.text.now c.loop-place.bytes.items c.push.new.self.items c.after.result.now _ c.loop-place.place c.in-Some.byte c.in-Some.count
      c.loop-place-test.true c.after.ensures c.in-Some.ensures.some c.in-Some.ensures.value c.in_ok-push-in-Some.ensures.items c.loop-place.invariant.taken;
}

pub returns-in-None : goal.returns-in-None
returns-in-None c = letter_none c.args.text.now c.loop-place.bytes.items c.after.result.now _ c.loop-place.place c.loop-place-test.true c.after.ensures c.in-None.ensures.value c.loop-place.invariant.taken

pub returns : goal.returns
returns c = letters_end c.args.text.now c.loop-place.bytes.items _ c.loop-place.place c.loop-place-test.false c.loop-place.invariant.taken
