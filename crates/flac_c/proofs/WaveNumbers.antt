-- The samples of a WAV file and their numbers.
use Rattle.std.proofs.Common.{◌≡◌, ◌≤◌, ◌<◌, ◌+◌, ◌*◌, ◌-◌, ◌^◌, ℕ, suc, ℤ, pos, negsuc, List, [], ◌∷◌, ◌++◌, length, take, drop, true, get_or, of_z, to_z, w32, w64, refl, ap, sym, ◌∙◌, arith, add-one, inl, inr, FitsSigned}
use Rattle.std.proofs.Math.Nat.{pow-le-pow_right, pow-succ'}
use Rattle.std.proofs.lemmas.Int.{ints}
use Rattle.std.proofs.lemmas.Bool.{cases_lt, le-ltb, lt-ltb, and_parts, ltb-true}
use Rattle.std.specs.Int.{bytes_low_first}
use Rattle.std.specs.Prelude.{nat_lt}
use Rattle.byteorder.specs.Endian.{twos_complement, little_number, little_bytes}
use Rattle.flac_wave.proofs.Shifts.{low_bytes_of}
use Rattle.flac_wave.specs.Reasons.{number_of}
use Rattle.flac_wave.specs.declared.why.WaveWhy.{WaveWhy}
use Rattle.flac_wave.specs.declared.why.WaveWhy.TheVariants.{NotWave, ChunkCut, ChunkLength, NoFormat, RepeatedFormat, FormatLength, Coding, FormatFields, NoData, DataCut, PartSample, DataUnstated}
use Rattle.flac_c.specs.Waves.{is_form, wave_number, wave_numbers, high_number, sample_of}

-- no reason has the number 0
pub some_why : (w : WaveWhy) → 1 ≤ number_of w
some_why NotWave = omega arith
some_why ChunkCut = omega arith
some_why ChunkLength = omega arith
some_why NoFormat = omega arith
some_why RepeatedFormat = omega arith
some_why FormatLength = omega arith
some_why Coding = omega arith
some_why FormatFields = omega arith
some_why NoData = omega arith
some_why DataCut = omega arith
some_why PartSample = omega arith
some_why DataUnstated = omega arith

-- ---- two's complement

-- its sign is not set
positive : (n x : ℕ) → x < 2 ^ (8 * n - 1) → twos_complement n x ≡ pos x
positive n x lt = rw (lt-ltb x (2 ^ (8 * n - 1)) lt) refl

-- its sign is set
negative : (n x : ℕ) → 2 ^ (8 * n - 1) ≤ x → x < 2 ^ (8 * n) → twos_complement n x ≡ negsuc (2 ^ (8 * n) - 1 - x)
negative n x le lt = rw (le-ltb x (2 ^ (8 * n - 1)) le) (omega (arith, ints))

-- the bytes say a number below what they reach
little_small : (bs : List ℕ) → length bs ≤ 4 → ((i : ℕ) → get_or bs i 0 < 256) → little_number (length bs) bs < 2 ^ (8 * length bs)
little_small [] few small = omega arith
little_small (a ∷ []) few small = let p : a < 256 = small 0 in omega arith
little_small (a ∷ b ∷ []) few small = let p : a < 256 = small 0 in let q : b < 256 = small 1 in omega arith
little_small (a ∷ b ∷ c ∷ []) few small = let p : a < 256 = small 0 in let q : b < 256 = small 1 in let r : c < 256 = small 2 in omega arith
little_small (a ∷ b ∷ c ∷ d ∷ []) few small = let p : a < 256 = small 0 in let q : b < 256 = small 1 in let r : c < 256 = small 2 in let s : d < 256 = small 3 in omega arith
little_small (a ∷ b ∷ c ∷ d ∷ e ∷ bs) few small = absurd (omega arith)

-- a number of so many bytes fits 32 bits
pub twos_word : (bs : List ℕ) → 1 ≤ length bs → length bs ≤ 4 → ((i : ℕ) → get_or bs i 0 < 256) → FitsSigned w32 (twos_complement (length bs) (little_number (length bs) bs))
twos_word bs some few small =
    let n = length bs in
    let x : ℕ = little_number n bs in
    let lt : x < 2 ^ (8 * n) = little_small bs few small in
    let whole : 8 * n ≡ suc (8 * n - 1) = omega arith in
    let twice : 2 ^ (8 * n) ≡ 2 * 2 ^ (8 * n - 1) = ap (λ (e : ℕ). 2 ^ e) whole ∙ pow-succ' 2 (8 * n - 1) in
    let top : 2 ^ (8 * n - 1) ≤ 2 ^ 31 = pow-le-pow_right {n = 2} (omega arith) {i = 8 * n - 1} {j = 31} (omega arith) in
    elim (cases_lt x (2 ^ (8 * n - 1))) [
      | inl below ↦ rw (positive n x below) (omega (arith, ints))
      | inr above ↦ rw (negative n x above lt) (omega (arith, ints))
    ]

-- and a cast to 32 bits keeps it
pub narrowed : (z : ℤ) → FitsSigned w32 z → to_z w32 (of_z w32 (to_z w64 (of_z w64 z))) ≡ z
narrowed z fits = omega (arith, ints)

-- ---- all samples

-- one sample more
pub numbers_next : (width bits i : ℕ) (bytes : List ℕ) (old new : List ℤ) (z r : ℤ) → old ≡ wave_numbers width bits bytes i → new ≡ old ++ z ∷ [] → z ≡ r
    → r ≡ wave_number bits (take (i * width + width - i * width) (drop (i * width) bytes)) → new ≡ wave_numbers width bits bytes (i + 1)
unfolding wave_numbers
numbers_next width bits i bytes old new z r before push same is =
    let long : i * width + width - i * width ≡ width = omega arith in
    let part : r ≡ wave_number bits (take width (drop (i * width) bytes)) = is ∙ ap (λ (n : ℕ). wave_number bits (take n (drop (i * width) bytes))) long in
    let more : new ≡ wave_numbers width bits bytes (suc i) = push ∙ (ap (λ (l : List ℤ). l ++ z ∷ []) before ∙ ap (λ (x : ℤ). wave_numbers width bits bytes i ++ x ∷ []) (same ∙ part)) in
    more ∙ ap (λ (n : ℕ). wave_numbers width bits bytes n) (sym (add-one i))

-- samples have 4 bytes at most
pub form_few : (width bits : ℕ) → is_form width bits ≡ true → width ≤ 4
form_few width bits e =
    let some = and_parts (nat_lt 0 width) _ e in
    let few = and_parts (nat_lt width 5) _ some.1 in
    let less = ltb-true width 5 few.0 in
    omega (arith, less)

-- the bytes of a number of so many bytes
pub sample_is : (width bits x : ℕ) (z r : ℤ) (bytes : List ℕ) → width ≤ 4 → bytes ≡ bytes_low_first 0 8 x → x ≡ high_number width bits z → z ≡ r → take width bytes ≡ sample_of width bits r
sample_is width bits x z r bytes few eight is same =
    ap (λ (l : List ℕ). take width l) eight ∙ (low_bytes_of width x few ∙ ap (λ (n : ℕ). little_bytes width n) (is ∙ ap (λ (y : ℤ). high_number width bits y) same))
