-- In what the formats of two streams differ, as STREAMINFO states them (RFC 9639, section 8.2).
use Rattle.std.specs.Prelude.{◌≡◌, ◌≢◌, Bool, true, false, Option, Some}
use Rattle.flac_info.specs.Info.{Info}
use Rattle.flac_compare.specs.declared.difference.Difference.{Difference}
use Rattle.flac_compare.specs.declared.difference.Difference.TheVariants.{Rate, Channels, Depth}

-- the same sample rate, channels and bits per sample
pub record AreOfOneFormat (i k : Info) : Type 0 where
  pub rate : i.rate ≡ k.rate
  pub channels : i.channels ≡ k.channels
  pub depth : i.depth ≡ k.depth

-- What a comparison says of the formats: the values of the first kind in which they differ; if it says anything else,
-- the formats are the same.
abbrev pub SaysFormat : Info → Info → Option Difference → Type 0
SaysFormat i k (Some (Rate a b)) = (a ≡ i.rate) × (b ≡ k.rate) × (a ≢ b)
SaysFormat i k (Some (Channels a b)) = (i.rate ≡ k.rate) × (a ≡ i.channels) × (b ≡ k.channels) × (a ≢ b)
SaysFormat i k (Some (Depth a b)) = (i.rate ≡ k.rate) × (i.channels ≡ k.channels) × (a ≡ i.depth) × (b ≡ k.depth) × (a ≢ b)
SaysFormat i k other = AreOfOneFormat i k

-- the difference is one of the formats
abbrev pub is_of_format : Difference → Bool
is_of_format (Rate a b) = true
is_of_format (Channels a b) = true
is_of_format (Depth a b) = true
is_of_format other = false
