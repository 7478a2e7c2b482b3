-- The seek table (RFC 9639, section 8.5).
use Rattle.std.specs.Prelude.{ℕ, Bool, true, not, ◌&&◌, ◌||◌, cond, List, [], ◌∷◌, nat_eq, nat_lt, nat_le, Option, Some, None}
use Rattle.std.specs.List.{fold}
use Rattle.flac_bits.specs.Layout.{Layout, done, judge, ◌>>=◌, bits}
use Rattle.flac_meta.specs.Fields.{in_turn}
use Rattle.flac_bits.specs.declared.why.Why.TheVariants.{SeekOrder}
use Rattle.flac_meta.specs.declared.seek_table.SeekPoint.{SeekPoint}

-- the sample number of a placeholder: 64 ones
abbrev pub placeholder : ℕ
placeholder = 18446744073709551615

-- After a point of this sample number, if there was one: sample numbers rise, and after a placeholder are placeholders.
abbrev pub follows : Option ℕ → ℕ → Bool
follows None sample = true
follows (Some before) sample = nat_lt before sample || nat_eq sample placeholder

-- points in their order
abbrev pub in_order : Option ℕ → List SeekPoint → Bool
in_order before [] = true
in_order before (point ∷ points) = follows before point.sample && in_order (Some point.sample) points

-- a point, refused after its last field if it does not follow (section 8.5.1)
unfoldable pub seek_point : Option ℕ → Layout SeekPoint
seek_point before = do
  sample ← bits 64
  offset ← bits 64
  size ← bits 16
  _ ← judge (record { broken = not (follows before sample); why = SeekOrder } ∷ [])
  done (record { sample = sample; offset = offset; length = size })

-- n points, after a point of this sample number
unfoldable pub seek_points : ℕ → Option ℕ → Layout (List SeekPoint)
seek_points = in_turn seek_point (λ before point. Some point.sample) (λ before. done tt)

-- the point names a frame whose first sample is at or before the one of this number (section 8.5.1)
abbrev pub is_before : ℕ → SeekPoint → Bool
is_before sample point = nat_le point.sample sample && not (nat_eq point.sample placeholder)

-- the last point that names a frame at or before a sample
abbrev pub last_before : ℕ → List SeekPoint → Option SeekPoint
last_before sample points = fold (λ found point. cond (is_before sample point) (Some point) found) None points
