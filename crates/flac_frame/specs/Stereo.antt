-- Inter-channel decorrelation: two channels stored as one and a difference, or as a middle and a difference (RFC 9639,
-- section 4.2).
use Rattle.std.specs.Prelude.{◌≡◌, ℕ, ◌<◌, ℤ, pos, ◌+ℤ◌, ◌-ℤ◌, cond, nat_eq, nat_lt, List, [], ◌∷◌, length, slice_index_or, ◌↔◌}
use Rattle.std.specs.Int.{int_shr}
use Rattle.std.specs.Simd.Lanes.{zip2}

abbrev pub sample_at : List ℤ → ℕ → ℤ
sample_at s i = slice_index_or s i (pos 0)

-- Left minus right is the side, and half their sum, rounded down, the middle.
abbrev pub IsSide : ℤ → ℤ → ℤ → Type 0
IsSide side left right = side ≡ left -ℤ right

abbrev pub IsMiddle : ℤ → ℤ → ℤ → Type 0
IsMiddle middle left right = middle ≡ int_shr (left +ℤ right) 1

-- two samples as code 8 stores left and right: left and side; as code 9 does: side and right; as code 10 does: middle
-- and side (section 9.1.3)
pub record KeptAs (code : ℕ) (first second left right : ℤ) : Type 0 where
  pub left_side : code ≡ 8 → (first ≡ left) × IsSide second left right
  pub side_right : code ≡ 9 → IsSide first left right × (second ≡ right)
  pub middle_side : code ≡ 10 → IsMiddle first left right × IsSide second left right

-- this holds at each index
pub record Joined (code : ℕ) (first second left right : List ℤ) : Type 0 where
  pub left_long : length left ≡ length first
  pub right_long : length right ≡ length first
  pub each : (i : ℕ) → i < length first → KeptAs code (sample_at first i) (sample_at second i) (sample_at left i) (sample_at right i)

-- the only left and right sample that are stored as two samples
unfoldable pub right_of : ℕ → ℤ → ℤ → ℤ
right_of code first second = cond (nat_eq code 8) (first -ℤ second) (cond (nat_eq code 9) second (first -ℤ int_shr second 1))

unfoldable pub left_of : ℕ → ℤ → ℤ → ℤ
left_of code first second = cond (nat_eq code 8) first (cond (nat_eq code 9) (first +ℤ second) (first -ℤ int_shr second 1 +ℤ second))

abbrev pub joined_pair : ℕ → List (List ℤ) → List (List ℤ)
joined_pair code (first ∷ second ∷ []) = zip2 (left_of code) first second ∷ zip2 (right_of code) first second ∷ []
joined_pair code channels = channels

-- The channels that are stored as these: under the codes below 8 they are the same.
unfoldable pub joined : ℕ → List (List ℤ) → List (List ℤ)
joined code channels = cond (nat_lt code 8) channels (joined_pair code channels)

-- they are the channels that satisfy the equations, and there are no others
abbrev pub ChannelsAreJoined : Type 0
ChannelsAreJoined = (code : ℕ) (first second left right : List ℤ) → 7 < code → code < 11 → length second ≡ length first
    → Joined code first second left right ↔ (joined code (first ∷ second ∷ []) ≡ left ∷ right ∷ [])

-- ---- how a code stores channels

-- the side of two channels, and their middle (section 4.2)
abbrev pub side_of : List ℤ → List ℤ → List ℤ
side_of left right = zip2 (λ l r. l -ℤ r) left right

abbrev pub middle_of : List ℤ → List ℤ → List ℤ
middle_of left right = zip2 (λ l r. int_shr (l +ℤ r) 1) left right

abbrev pub kept_pair : ℕ → List (List ℤ) → List (List ℤ)
kept_pair code (left ∷ right ∷ []) =
    cond (nat_eq code 8) (left ∷ side_of left right ∷ []) (cond (nat_eq code 9) (side_of left right ∷ right ∷ []) (middle_of left right ∷ side_of left right ∷ []))
kept_pair code channels = channels

-- How a code stores channels: the codes below 8 store them as they are (section 9.1.3).
unfoldable pub kept_as : ℕ → List (List ℤ) → List (List ℤ)
kept_as code channels = cond (nat_lt code 8) channels (kept_pair code channels)

-- restoring two channels from how they are stored gives them back
abbrev pub ChannelsAreKept : Type 0
ChannelsAreKept = (code : ℕ) (left right : List ℤ) → code < 11 → length right ≡ length left → joined code (kept_as code (left ∷ right ∷ [])) ≡ left ∷ right ∷ []
