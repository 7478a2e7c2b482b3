use Rattle.std.proofs.Common.{◌≡◌, ◌≢◌, ◌≤◌, ℕ, [], ◌∷◌}
use Rattle.flac_native.specs.declared.fault.Place.TheVariants.{Marker, Block, Frame, Page, End}
use Rattle.flac_c.proofs.fault.kind_name.Given as goal

abbrev pub invariant-loop-place : goal.invariant-loop-place
invariant-loop-place l = record {
  items : l.place-items ≡ Marker ∷ Block 0 ∷ Frame 0 ∷ Page 0 ∷ End ∷ [];
  none : (k : ℕ) → 1 ≤ k → k ≤ l.place-index → l.kind ≢ k;
}
