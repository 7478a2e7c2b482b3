use Rattle.std.proofs.Common.{◌≡◌, ◌*◌, ℕ, List, length, map}
use Rattle.flac_raw.specs.Reading.{AreParts}
use Rattle.flac_raw.proofs.Rows.{HalfMore}
use Rattle.flac_raw.proofs.raw.push_piece.Given as goal

abbrev pub invariant-loop-channel : goal.invariant-loop-channel
invariant-loop-channel l = (bytes : List ℕ) (before : ℕ) → length bytes ≡ before * (l.channels * l.width) → AreParts l.channels l.width bytes before (map (λ c. c.items) l.fn.lists)
    → HalfMore bytes l.piece before l.count l.channels l.width l.channel (map (λ c. c.items) l.lists)
