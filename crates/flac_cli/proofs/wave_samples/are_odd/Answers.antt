use Rattle.std.proofs.Common.{ℤ, Vec, Global, map}
use Rattle.flac_frame.specs.Audio.{samples_each}
use Rattle.flac_cli.proofs.TakenWaves.{rows_in, odd_then, odd_else}
use Rattle.flac_cli.proofs.wave_samples.are_odd.Goals as goal

pub returns-then-len-eq1 : goal.returns-then-len-eq1
returns-then-len-eq1 c =
    let v = c.in-Some.first.now in
    let item = c.in-Some.ensures.item in
    odd_then (samples_each (map (λ (x : Vec ℤ Global). x.items) c.args.channels.now)) c.len.result c.args.row (rows_in c.args.channels.now v c.len.result item.1 item.3.0 c.len.ensures v.ok.0) c.if-len-eq1.true

pub returns-else-len-eq1 : goal.returns-else-len-eq1
returns-else-len-eq1 c =
    let v = c.in-Some.first.now in
    let item = c.in-Some.ensures.item in
    odd_else (samples_each (map (λ (x : Vec ℤ Global). x.items) c.args.channels.now)) c.len.result c.args.row (rows_in c.args.channels.now v c.len.result item.1 item.3.0 c.len.ensures v.ok.0) c.if-len-eq1.false
