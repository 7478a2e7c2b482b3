use Rattle.std.proofs.Common.{◌≡◌, ℕ, ◌+◌, ◌*◌, ◌%◌, ◌^◌, ◌<◌, ◌≤◌, ap, ◌∙◌, arith}
use Rattle.std.proofs.lemmas.Nat.{pow_pos}
use Rattle.std.proofs.Math.Pow.{pow_mono}
use Rattle.flac_bits.specs.Rice.{folded}
use Rattle.flac_bits.proofs.Codes.{one_shifted, rice_fits}
use Rattle.flac_bits.proofs.Runs.{pair_number}
use Rattle.flac_bits.proofs.Signs.{residual_kept}
use Rattle.flac_bits.proofs.run.pair_of.Goals as goal

few : (k : ℕ) → k ≤ 32 → k < 64
few k le = omega (arith, le)

nonzero : (k : ℕ) → k ≤ 32 → 0 < 1 * 2 ^ k % 18446744073709551616
nonzero k le = rw (one_shifted k le) (pow_pos k)

high_fits : (k v : ℕ) → k ≤ 32 → 1 * 2 ^ k % 18446744073709551616 + v % (1 * 2 ^ k % 18446744073709551616) < 2 ^ 64
high_fits k v le =
    let most : 2 ^ (0 + 1 + k) ≤ 2 ^ 64 = pow_mono {i = 0 + 1 + k} {j = 64} (omega (arith, le)) in
    omega (arith, rice_fits k v 0 le, most)

pub folded-one-requires : goal.folded-one-requires
folded-one-requires c = rw (residual_kept _ c.requires.first) c.requires.first

pub folded-two-requires : goal.folded-two-requires
folded-two-requires c = rw (residual_kept _ c.requires.second) c.requires.second

pub overflow_shr-n : goal.overflow_shr-n
overflow_shr-n c = few _ c.requires.k

pub overflow_shr-m : goal.overflow_shr-m
overflow_shr-m c = few _ c.requires.k

pub overflow_shl-high : goal.overflow_shl-high
overflow_shl-high c = few _ c.requires.k

pub overflow_shl-high-2 : goal.overflow_shl-high-2
overflow_shl-high-2 c = few _ c.requires.k

pub overflow_shl-low : goal.overflow_shl-low
overflow_shl-low c = few _ c.requires.k

pub overflow_shl-low-2 : goal.overflow_shl-low-2
overflow_shl-low-2 c = few _ c.requires.k

pub nonzero_rem-high : goal.nonzero_rem-high
nonzero_rem-high c = nonzero _ c.requires.k

pub nonzero_rem-low : goal.nonzero_rem-low
nonzero_rem-low c = nonzero _ c.requires.k

pub overflow_add-high : goal.overflow_add-high
overflow_add-high c = record { fits = high_fits c.args.k c.folded-one.result c.requires.k }

pub overflow_add-low : goal.overflow_add-low
overflow_add-low c = record { fits = high_fits c.args.k c.folded-two.result c.requires.k }

pub overflow_add-result-2 : goal.overflow_add-result-2
overflow_add-result-2 c =
    let k = c.args.k in
    let is = c.folded-one.ensures ∙ ap folded (residual_kept c.args.first c.requires.first) in
    let is' = c.folded-two.ensures ∙ ap folded (residual_kept c.args.second c.requires.second) in
    let p = pair_number k c.folded-one.result c.folded-two.result c.args.first c.args.second c.requires.k is is' (omega (arith, c.if-n-m-gt64.false, c.from.ensures, c.from-2.ensures)) in
    let e : c.from-2.result ≡ k = c.from-2.ensures in
    rw e (record { fits = p.0 })

pub returns : goal.returns
returns c =
    let k = c.args.k in
    let is = c.folded-one.ensures ∙ ap folded (residual_kept c.args.first c.requires.first) in
    let is' = c.folded-two.ensures ∙ ap folded (residual_kept c.args.second c.requires.second) in
    let p = pair_number k c.folded-one.result c.folded-two.result c.args.first c.args.second c.requires.k is is' (omega (arith, c.if-n-m-gt64.false, c.from.ensures, c.from-2.ensures)) in
    let e : c.from.result ≡ k = c.from.ensures in
    let e' : c.from-2.result ≡ k = c.from-2.ensures in
    rw (e, e') (omega (arith, c.if-n-m-gt64.false, c.from.ensures, c.from-2.ensures), p.1, p.2)
