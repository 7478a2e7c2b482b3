use Rattle.std.proofs.Common.{◌≡◌, ◌∙◌, sym, ◌<◌, false, nat_eq, arith}
use Rattle.std.proofs.lemmas.Bool.Decides.{nat_tests}
use Rattle.flac_frame.specs.Audio.{samples_each}
use Rattle.flac_native.proofs.Gathered.{still_some}
use Rattle.flac_native.proofs.Planned.{planned}
use Rattle.test_native.proofs.chosen.chosen.Goals as goal

pub write-room-requires-clause-few : goal.write-room-requires-clause-few
write-room-requires-clause-few c =
    let total = samples_each c.args.audio.now.channels in
    let is : nat_eq total 0 ≡ false = sym c.is_empty.ensures ∙ c.if-not-is_empty.true in
    let some : 0 < total = grind (arith, nat_tests, is) in
    still_some c.args.plan.now.block_size total 0 (planned c.args.plan.now c.block_size-size.ensures.good).least (omega (arith, some))
