-- For proofs of reading many values at once: values off the bits that come next.
use Rattle.std.specs.Prelude.{◌≡◌, ℕ, ℤ, ◌++◌, ◌+◌, ◌-◌, ◌*◌, ◌/◌, ◌%◌, ◌^◌, ◌<◌, ◌≤◌, length, take, drop, Bool, List}
use Rattle.flac_bits.specs.Bits.{unsigned, bits_of}
use Rattle.flac_bits.specs.State.{Mark, past}
use Rattle.flac_bits.specs.Layout.{run, and_then}
use Rattle.flac_bits.specs.Meaning.{IsCut, unary_bits}
use Rattle.flac_bits.specs.Lists.{list_of, after}
use Rattle.flac_bits.specs.Rice.{rice_value, unfolded}

-- A text, whatever comes after it, is read as the values from one index up to another under the Rice parameter k
-- (RFC 9639, section 9.2.7.3).
pub record IsRead (k : ℕ) (text : List Bool) (old : List ℤ) (from : ℕ) (new : List ℤ) (to : ℕ) : Type 0 where
  pub reads : (rest : List Bool) → (m : Mark) → and_then (run (list_of (length old - from) (rice_value k)) (record { left = text ++ rest; mark = m })) (after (take from old))
      ≡ and_then (run (list_of (length old - to) (rice_value k)) (record { left = rest; mark = past text m })) (after (take to new))
  -- and bits after it that end inside the other values end inside all of them
  pub ends : (rest : List Bool) → (m : Mark) → IsCut (list_of (length old - to) (rice_value k)) (past text m) rest → IsCut (list_of (length old - from) (rice_value k)) m (text ++ rest)

-- the first bits of a word of 64
abbrev pub top_bits : ℕ → ℕ → List Bool
top_bits word count = unsigned count (word / 2 ^ (64 - count))

-- What is below the first bits of a word is the first bits of eight bytes that come next, with zeros in place of the
-- last of them.
abbrev pub Agrees : ℕ → ℕ → ℕ → Type 0
Agrees word count eight = (zeros : ℕ) × (word % 2 ^ (64 - count) ≡ eight / 2 ^ count / 2 ^ zeros * 2 ^ zeros)

-- the same of the bytes from an index on, if they are eight
abbrev pub AgreesAt : List ℕ → ℕ → ℕ → ℕ → Type 0
AgreesAt bytes used word count = (eight : ℕ) → eight < 2 ^ 64 → unsigned 64 eight ≡ bits_of (take 8 (drop used bytes)) → Agrees word count eight

-- and what is below those of one word is below those of the next too
abbrev pub KeepsNext : (word count word' count' : ℕ) → Type 0
KeepsNext word count word' count' = (eight : ℕ) → Agrees word count eight → Agrees word' count' eight

-- the same if bits are taken off the front of a word, as many as it has or fewer
abbrev pub KeepsNextAfter : (bits word word' : ℕ) → Type 0
KeepsNextAfter bits word word' = (count eight : ℕ) → count ≤ 63 → bits ≤ count → Agrees word count eight → Agrees word' (count - bits) eight

-- the first n of eight bytes, and eight bytes of which the first come after these
abbrev pub first_bytes : ℕ → ℕ → List Bool
first_bytes n eight = unsigned (8 * n) (eight / 2 ^ (64 - 8 * n))

abbrev pub ComesAfter : ℕ → ℕ → ℕ → Type 0
ComesAfter n eight after = eight % 2 ^ (64 - 8 * n) ≡ after / 2 ^ (8 * n)

-- ---- codes at the front of bits

-- the number has a Rice code of the parameter k with at most `limit` zeros, of which P holds (RFC 9639,
-- section 9.2.7.2)
abbrev pub HasRice : (k limit : ℕ) → (List Bool → Type 0) → ℕ → Type 0
HasRice k limit P v = (q : ℕ) × (low : ℕ) × (q ≤ limit) × (low < 2 ^ k) × (v ≡ q * 2 ^ k + low) × P (unary_bits q ++ unsigned k low)

-- the code of a residual value is at the front of the first bits of a word, and these are the bits after it
abbrev pub HasValue : ℕ → ℤ → (word count word' count' : ℕ) → Type 0
HasValue k v word count word' count' =
    (q : ℕ) × (low : ℕ) × (q ≤ 62) × (low < 2 ^ k) × (v ≡ unfolded (q * 2 ^ k + low)) × (top_bits word count ≡ (unary_bits q ++ unsigned k low) ++ top_bits word' count')

-- the same of a word whatever number of its bits count, at most 63, if the code has no more than those
abbrev pub IsValueAt : (k word bits : ℕ) → ℤ → (word' : ℕ) → Type 0
IsValueAt k word bits v word' = (count : ℕ) → count ≤ 63 → bits ≤ count → HasValue k v word count word' (count - bits)

-- values were read off the front of bits, of which these are left
abbrev pub ReadsOff : ℕ → List Bool → List Bool → List ℤ → ℕ → List ℤ → ℕ → Type 0
ReadsOff k bits bits' old from new to = (text : List Bool) × (bits ≡ text ++ bits') × IsRead k text old from new to

-- values were read off the front of bits and bytes: how many bytes were used, and the index up to which values were read
abbrev pub ReadsOffBytes : ℕ → List Bool → List ℕ → List Bool → List ℤ → ℕ → List ℤ → ℕ × ℕ → Type 0
ReadsOffBytes k bits bytes bits' old from new used_to = ReadsOff k (bits ++ bits_of (take used_to.0 bytes)) bits' old from new used_to.1

-- the signed number of a Rice code whose one and lowest k bits are one number
abbrev pub value_of : ℕ → (zeros one_and_low : ℕ) → ℤ
value_of k zeros one_and_low = unfolded (zeros * 2 ^ k + (one_and_low - 2 ^ k))
