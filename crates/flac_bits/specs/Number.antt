-- The coded number (RFC 9639, section 9.1.5): a lead byte, which says how many bytes follow, and six bits in each of
-- these.
use Rattle.std.specs.Prelude.{ℕ, zero, suc, ◌+◌, ◌-◌, ◌*◌, ◌/◌, ◌%◌, ◌^◌, ◌&&◌, Option, Some, None, nat_lt, nat_eq, cond}
use Rattle.flac_bits.specs.Layout.{Layout, done, bits, refuse, ◌>>=◌, choose}
use Rattle.flac_bits.specs.declared.why.Why.TheVariants.{BadNumber}

-- how many bytes follow the lead byte, its own bits of the number, and the smallest number that needs these bytes
unfoldable pub lead_form : ℕ → ℕ → Option (ℕ × ℕ × ℕ)
lead_form max_bits lead =
    cond (nat_lt lead 192) None
    (cond (nat_lt lead 224) (Some (1, lead - 192, 2 ^ 7))
    (cond (nat_lt lead 240) (Some (2, lead - 224, 2 ^ 11))
    (cond (nat_lt lead 248) (Some (3, lead - 240, 2 ^ 16))
    (cond (nat_lt lead 252) (Some (4, lead - 248, 2 ^ 21))
    (cond (nat_lt lead 254) (Some (5, lead - 252, 2 ^ 26))
    (cond (nat_eq lead 254 && nat_lt 31 max_bits) (Some (6, 0, 2 ^ 31)) None))))))

-- n bytes of six bits each, after the bits of the number that were read before
unfoldable pub continued : ℕ → ℕ → Layout ℕ
continued zero value = done value
continued (suc n) value = do
  byte ← bits 8
  choose (nat_eq (byte / 64) 2) (continued n (64 * value + byte % 64)) (refuse BadNumber)

abbrev pub some_or_bad : {A : Type 0} → Option A → Layout A
some_or_bad (Some x) = done x
some_or_bad None = refuse BadNumber

-- the number in the shortest of its forms
unfoldable pub number : ℕ → Layout ℕ
number max_bits = do
  lead ← bits 8
  choose (nat_lt lead 128) (done lead) (do
    form ← some_or_bad (lead_form max_bits lead)
    value ← continued form.0 form.1
    choose (nat_lt value form.2) (refuse BadNumber) (done value))
