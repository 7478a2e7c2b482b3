use Rattle.std.proofs.Common.{◌≡◌, refl, sym, ◌∙◌, arith, rules, SFits, to_z, of_z, w32}
use Rattle.std.proofs.lemmas.Int.{to_z-of_z}
use Rattle.flac_reader.proofs.Sampling.{samples_start, turn, give_over, give_sample, give_end, give_refusal, give_no_more}
use Rattle.flac_reader.proofs.samples.Samples.give.Goals as goal

pub returns-then-is_over : goal.returns-then-is_over
returns-then-is_over g c = give_over c.args.self.now (sym c.is_over.ensures ∙ c.if-is_over.true)

pub loop-self-init : goal.loop-self-init
loop-self-init g c =
    let going = sym c.is_over.ensures ∙ c.if-is_over.false in
    (going, samples_start c.args.self.now going)

pub returns-in-Some : goal.returns-in-Some
returns-in-Some g c =
    let far = c.loop-self.invariant in
    let told = c.in-Some.ensures in
    let fits : SFits w32 c.in-Some.sample = search rules in
    let same : to_z w32 (of_z w32 c.in-Some.sample) ≡ c.in-Some.sample = to_z-of_z w32 c.in-Some.sample fits in
    rw same (give_sample c.args.self.now c.loop-self.self c.take.new.self c.in-Some.sample far.0 far.1 told.reader (omega (arith, told.left, c.loop-self-test.true)) told.sample)

pub returns-in-Ok-false : goal.returns-in-Ok-false
returns-in-Ok-false g c =
    let far = c.loop-self.invariant in
    let none = c.in-None.ensures in
    let told = rw c.in-Ok-false.field-0-test at c.in-Ok-false.ensures in
    give_end c.args.self.now c.loop-self.self c.take.new.self c.enter.new.self far.0 far.1 none.reader (omega (arith, told.left, none.left, c.loop-self-test.true)) none.sample told.gives told.spot

pub returns-in-Err : goal.returns-in-Err
returns-in-Err g c =
    let far = c.loop-self.invariant in
    let none = c.in-None.ensures in
    let told = c.in-Err.ensures in
    give_refusal c.args.self.now c.loop-self.self c.take.new.self c.enter.new.self c.in-Err.fault far.0 far.1 none.reader none.sample told.gives told.spot

pub loop-self-preserved : goal.loop-self-preserved
loop-self-preserved g c =
    let far = c.loop-self.invariant in
    let none = c.in-None.ensures in
    let told = rw c.in-Ok-true.field-0-test at c.in-Ok-true.ensures in
    (far.0, turn c.args.self.now c.loop-self.self c.take.new.self c.enter.new.self far.1 none.reader (omega (arith, none.left, c.loop-self-test.true)) none.sample told.gives told.left told.spot)

pub returns : goal.returns
returns g c =
    let far = c.loop-self.invariant in
    give_no_more c.args.self.now c.loop-self.self _ far.0 far.1 refl refl refl (omega (arith, c.loop-self-test.false))
