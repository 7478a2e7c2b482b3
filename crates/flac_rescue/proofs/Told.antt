-- A target that was sent a text, if none of its errors was counted.
use Rattle.std.proofs.Common.{◌≡◌, ◌<◌, ℕ, true, List, ◌++◌, Result, Ok, Err, arith}
use Rattle.flac_bits.specs.Sending.{Sends}
use Rattle.flac_bits.specs.declared.target.Target as target

pub told : {S X E : Type 0} (g : target.Ghosts S) (text : List ℕ) (old new : S) (r : Result X E) → Sends g text old new r → g.known old ≡ true → g.errors new ≡ g.errors old → g.sent new ≡ g.sent old ++ text
told g text old new (Ok x) s known same = s.sent known
told g text old new (Err e) s known same = let less = s.rises known in absurd (omega (arith, less, same))
