use Rattle.std.proofs.Common.{◌≡◌, ◌≤◌, ℕ, ℤ, List, [], Vec, Global, map, ap, subst, arith}
use Rattle.std.specs.Prelude.{replicate}
use Rattle.flac_rescue.proofs.Extending.{one_empty}
use Rattle.flac_rescue.proofs.channels.empty_channels.Goals as goal

counted : (n k : ℕ) → n ≤ k → k ≤ n → n ≡ k
counted n k le ge = omega (arith, le, ge)

pub loop-channel-init : goal.loop-channel-init
loop-channel-init c = ap (map (λ (v : Vec ℤ Global). v.items)) c.in_ok-channels.ensures.items

pub loop-channel-preserved : goal.loop-channel-preserved
loop-channel-preserved c = one_empty (λ (v : Vec ℤ Global). v.items) c.loop-channel.channels.items c.push.new.self.items _ c.loop-channel.channel c.in_ok-push.ensures.items c.new.ensures.items c.loop-channel.invariant

pub returns : goal.returns
returns c =
    let all : c.loop-channel.channel ≡ c.args.count = counted _ _ c.loop-channel.auto.channel-end c.loop-channel-test.false in
    subst (λ n. map (λ (v : Vec ℤ Global). v.items) c.loop-channel.channels.items ≡ replicate n []) all c.loop-channel.invariant
