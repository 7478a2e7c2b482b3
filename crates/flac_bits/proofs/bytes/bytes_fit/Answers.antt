use Rattle.std.proofs.Common.{ℕ, suc, ◌<◌, ◌^◌, List, [], ◌∷◌, length, get_or, arith}
use Rattle.flac_bits.specs.Forms.{AreBytes}
use Rattle.flac_bits.proofs.bytes.bytes_fit.Goals as goal

are_bytes : (xs : List ℕ) → ((k : ℕ) → k < length xs → get_or xs k 0 < 2 ^ 8) → AreBytes xs
are_bytes [] small = tt
are_bytes (x ∷ xs) small = (small 0 (omega arith), are_bytes xs (λ k within. small (suc k) (omega arith)))

pub returns : goal.returns
returns c = are_bytes c.args.bytes.now (λ k within. omega (arith, c.type_inv.bytes k))
