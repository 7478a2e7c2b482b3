-- How many bytes a frame has, by the count of the writer.
use Rattle.std.proofs.Common.{◌≡◌, ℕ, ◌+◌, ◌-◌, ◌*◌, ◌/◌, ◌%◌, ◌^◌, ◌<◌, ◌≤◌, min, Bool, true, List, length, length-append, refl, ap, ◌∙◌, arith}
use Rattle.flac_bits.specs.State.{Mark, fresh}
use Rattle.flac_bits.specs.Written.{Written, Adds}
use Rattle.flac_bits.proofs.ItemSpellings.{fresh_unread}
use Rattle.flac_bits.proofs.Marks.{past-bytes}
use Rattle.flac_header.specs.Spelling.{restarted}

pub fresh_bytes : (m : Mark) → m.unread ≡ 0 → (fresh m).bytes ≡ m.bytes
fresh_bytes m z = rw z refl

-- the count after bits that begin at a whole byte
pub bytes_after : (t : List Bool) (w v : Written) → w.mark.unread ≡ 0 → w.mark.bytes < 2 ^ 64 → Adds t (restarted w) v → v.mark.bytes ≡ min (w.mark.bytes + (length t + 7 - 0) / 8) (2 ^ 64 - 1)
bytes_after t w v z small adds =
    ap (λ (m : Mark). m.bytes) adds.mark ∙ past-bytes t 0 w.mark.bytes (fresh w.mark) (fresh_unread w.mark z) (omega arith) (fresh_bytes w.mark z) (omega (arith, small))

pub bytes_grow : (t : List Bool) (w v : Written) → w.mark.unread ≡ 0 → w.mark.bytes < 2 ^ 64 → Adds t (restarted w) v → w.mark.bytes ≤ v.mark.bytes
bytes_grow t w v z small adds = omega (arith, bytes_after t w v z small adds, small)

whole_bytes : (n long after bytes : ℕ) → long % 8 ≡ 0 → after ≡ min (n + (long + 7 - 0) / 8) (2 ^ 64 - 1) → after < 2 ^ 64 - 1 → after ≡ n + bytes → long ≡ 8 * bytes
whole_bytes n long after bytes whole e few is = omega (arith, whole, e, few, is)

-- the bits of n bytes more, where the count is exact
pub bits_more : (t : List Bool) (w v : Written) (bytes : ℕ) → w.mark.unread ≡ 0 → w.mark.bytes < 2 ^ 64 → length t % 8 ≡ 0 → Adds t (restarted w) v → v.mark.bytes ≡ w.mark.bytes + bytes
    → w.known ≡ true → v.mark.bytes < 2 ^ 64 - 1 → length v.bits ≡ length w.bits + 8 * bytes
bits_more t w v bytes z small whole adds is known few =
    let long = whole_bytes w.mark.bytes (length t) v.mark.bytes bytes whole (bytes_after t w v z small adds) few is in
    omega (arith, ap (λ (k : List Bool). length k) (adds.bits known), length-append w.bits t, long)
