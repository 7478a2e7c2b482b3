use Rattle.std.proofs.Common.{◌≡◌, ℕ, ◌*◌, ◌≤◌, Fits, w64, sym, rules, arith}
use Rattle.std.proofs.lemmas.List.{length-take-le}
use Rattle.std.proofs.lemmas.Nat.{mul-le}
use Rattle.flac_frame.proofs.Capacities.{few_of}
use Rattle.flac_frame.proofs.buffers.FrameBuffers.view.Goals as goal

places_fit : (used block channels most : ℕ) → used ≤ channels → channels ≤ 8 → block ≤ most → most ≤ 65535 → Fits w64 (used * block)
places_fit used block channels most few eight short small =
    let le : used ≤ 8 = omega arith in
    let size : block ≤ 65535 = omega arith in
    omega (arith, mul-le used block 8 65535 le size)

places_within : (used block channels most long own : ℕ) → used ≤ channels → block ≤ most → own ≡ channels * most → long ≡ own → used * block ≤ long
places_within used block channels most long own few short all same = omega (arith, mul-le used block channels most few short, all, same)

pub overflow_mul-places : goal.overflow_mul-places
overflow_mul-places c = let inv = c.self.invariant in places_fit _ _ _ _ inv.used inv.channels inv.block inv.max_block

pub slice_bounds-result-end : goal.slice_bounds-result-end
slice_bounds-result-end c =
    let inv = c.self.invariant in
    sym (length-take-le _ c.deref.result.now (places_within _ _ _ _ _ _ inv.used inv.block inv.narrow c.deref.ensures.len))

pub invariant_of-result : goal.invariant_of-result
invariant_of-result c =
    let inv = c.self.invariant in
    record {
      whole = length-take-le _ c.deref.result.now (places_within _ _ _ _ _ _ inv.used inv.block inv.narrow c.deref.ensures.len);
      few = few_of _ _ _ inv.used inv.channels;
      short = few_of _ _ _ inv.block inv.max_block;
      numbered = inv.number;
    }

pub returns : goal.returns
returns c = search rules
