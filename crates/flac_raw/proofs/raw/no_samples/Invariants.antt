use Rattle.std.proofs.Common.{◌≡◌, ℕ, [], length, map, get_or}
use Rattle.flac_raw.proofs.raw.no_samples.Given as goal

abbrev pub invariant-loop-channel : goal.invariant-loop-channel
invariant-loop-channel l = record {
  many : length l.lists.items ≡ l.channel;
  none : (c : ℕ) → get_or (map (λ v. v.items) l.lists.items) c [] ≡ [];
}
