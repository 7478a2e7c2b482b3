-- A word below whose first bits are some of those that come next.
use Rattle.std.proofs.Common.{◌≡◌, ℕ, ◌+◌, ◌-◌, ◌*◌, ◌/◌, ◌%◌, ◌^◌, ◌<◌, ◌≤◌, List, Bool, [], ◌++◌, length, take, drop, bit_or, Result, Ok, Err, sym, ap, ◌∙◌, arith}
use Rattle.std.specs.Int.Bits.{or_self, or_zero_l, or_zero_r}
use Rattle.std.proofs.lemmas.List.{length-take, length-drop, drop-take, drop-drop}
use Rattle.std.proofs.lemmas.Nat.{pow_pos, pow-add, shr-shr, shr_split, mod-pow-add, field_of, shl_below, shr_below, shr_high, mod_low, mod_below, or_block}
use Rattle.flac_bits.specs.Bits.{unsigned, bits_of}
use Rattle.flac_bits.specs.State.{Cursor, Mark}
use Rattle.flac_bits.specs.declared.why.Why.TheVariants.{Truncated}
use Rattle.flac_bits.specs.Layout.{Reason, number_at}
use Rattle.flac_bits.specs.inner.Stretches.{top_bits, Agrees}
use Rattle.flac_bits.proofs.Holding.{length-bits_of}
use Rattle.flac_bits.proofs.Readings.{at_, number_again, unsigned_low}
use Rattle.flac_bits.proofs.Stretches.{first_bytes, last_bytes}
use Rattle.flac_bits.proofs.Words.{split, length-unsigned, unsigned-mod, last_bits, last_small}

zero_shifted : (n : ℕ) → 0 / 2 ^ n ≡ 0
zero_shifted n = let lt : 0 < 2 ^ (0 + n) = pow_pos (0 + n) in let small : 0 / 2 ^ n < 2 ^ 0 = shr_below 0 0 n lt in omega (arith, small)

-- zeros agree with what comes
pub clean_agrees : (w c e : ℕ) → e < 2 ^ 64 → w % 2 ^ (64 - c) ≡ 0 → Agrees w c e
clean_agrees w c e lt clean =
    let order : c + 64 ≡ 64 + c = omega arith in
    let none : e / 2 ^ 64 ≡ 0 = let lt' : e < 2 ^ (0 + 64) = lt in let small : e / 2 ^ 64 < 2 ^ 0 = shr_below e 0 64 lt' in omega (arith, small) in
    let all : e / 2 ^ c / 2 ^ 64 ≡ 0 = shr-shr e c 64 ∙ ap (λ j. e / 2 ^ j) order ∙ sym (shr-shr e 64 c) ∙ ap (λ v. v / 2 ^ c) none ∙ zero_shifted c in
    (64, clean ∙ sym (ap (λ v. v * 2 ^ 64) all))

-- bits are taken off
pub shifted_agrees : (w u c e : ℕ) → u ≤ c → c ≤ 63 → Agrees w c e → Agrees (w * 2 ^ u % 2 ^ 64) (c - u) e
shifted_agrees w u c e le few a =
    let s = 64 - c in
    let k = 64 - (c - u) in
    let h = w / 2 ^ s in
    let g = w % 2 ^ s in
    let z = a.0 in
    let whole : 64 ≡ (c - u) + k = omega (arith, le, few) in
    let sum : k ≡ s + u = omega (arith, le, few) in
    let small : g * 2 ^ u < 2 ^ k = rw sum (shl_below g s u (mod_below w (2 ^ s) (pow_pos s))) in
    let parts : w * 2 ^ u ≡ h * 2 ^ k + g * 2 ^ u =
    let p : 2 ^ (s + u) ≡ 2 ^ s * 2 ^ u = pow-add 2 s u in
    let both : (a b c d : ℕ) → (a * b + c) * d ≡ a * (b * d) + c * d = λ a b c d. grind arith in
    ap (λ v. v * 2 ^ u) (sym (shr_split w s)) ∙ both h (2 ^ s) g (2 ^ u) ∙ ap (λ v. h * v + g * 2 ^ u) (sym p ∙ ap (λ j. 2 ^ j) (sym sum)) in
    let inner : w * 2 ^ u % 2 ^ 64 % 2 ^ k ≡ w * 2 ^ u % 2 ^ k =
    ap (λ j. w * 2 ^ u % 2 ^ j % 2 ^ k) whole ∙ ap (λ j. j % 2 ^ k) (mod-pow-add (w * 2 ^ u) (c - u) k) ∙ mod_low (w * 2 ^ u / 2 ^ k % 2 ^ (c - u)) k (w * 2 ^ u % 2 ^ k) (mod_below (w * 2 ^ u) (2 ^ k) (pow_pos k)) in
    let same : e / 2 ^ c / 2 ^ z ≡ e / 2 ^ (c - u) / 2 ^ (z + u) =
    let far : c + z ≡ (c - u) + (z + u) = omega (arith, le) in
    shr-shr e c z ∙ ap (λ j. e / 2 ^ j) far ∙ sym (shr-shr e (c - u) (z + u)) in
    let last : g * 2 ^ u ≡ e / 2 ^ (c - u) / 2 ^ (z + u) * 2 ^ (z + u) =
    let p : 2 ^ (z + u) ≡ 2 ^ z * 2 ^ u = pow-add 2 z u in
    let assoc : (a b c : ℕ) → a * b * c ≡ a * (b * c) = λ a b c. grind arith in
    ap (λ v. v * 2 ^ u) a.1 ∙ assoc (e / 2 ^ c / 2 ^ z) (2 ^ z) (2 ^ u) ∙ ap (λ v. e / 2 ^ c / 2 ^ z * v) (sym p) ∙ ap (λ v. v * 2 ^ (z + u)) same in
    (z + u, inner ∙ ap (λ v. v % 2 ^ k) parts ∙ mod_low h k (g * 2 ^ u) small ∙ last)

-- eight bytes are put below
module _ (w c e : ℕ) (wide : e < 2 ^ 64) (few : c ≤ 63) (a : Agrees w c e) where
  abbrev s : ℕ
  s = 64 - c

  abbrev x : ℕ
  x = e / 2 ^ c

  x_small : x < 2 ^ s
  x_small =
      let whole : 64 ≡ s + c = omega (arith, few) in
      let lt : e < 2 ^ (s + c) = rw (← whole) wide in
      shr_below e s c lt

  below : bit_or (w % 2 ^ s) x ≡ x
  below =
      let z = a.0 in
      let y = x / 2 ^ z in
      let t = x % 2 ^ z in
      let parts : x ≡ y * 2 ^ z + t = sym (shr_split x z) in
      let first : w % 2 ^ s ≡ y * 2 ^ z + 0 = a.1 ∙ omega arith in
      ap (λ v. bit_or v x) first ∙ ap (λ v. bit_or (y * 2 ^ z + 0) v) parts ∙ or_block z y y 0 t (pow_pos z) (mod_below x (2 ^ z) (pow_pos z))
      ∙ ap (λ v. v * 2 ^ z + bit_or 0 t) (or_self y) ∙ ap (λ v. y * 2 ^ z + v) (or_zero_l t) ∙ sym parts

  pub filled : bit_or w x ≡ w / 2 ^ s * 2 ^ s + x
  filled =
      let h = w / 2 ^ s in
      let alone : x ≡ 0 * 2 ^ s + x = omega arith in
      ap (λ v. bit_or v x) (sym (shr_split w s)) ∙ ap (λ v. bit_or (h * 2 ^ s + w % 2 ^ s) v) alone ∙ or_block s h 0 (w % 2 ^ s) x (mod_below w (2 ^ s) (pow_pos s)) x_small
      ∙ ap (λ v. v * 2 ^ s + bit_or (w % 2 ^ s) x) (or_zero_r h) ∙ ap (λ v. h * 2 ^ s + v) below

  module _ (n : ℕ) (room : c + n ≤ 63) where
    abbrev r : ℕ
    r = 64 - (c + n)

    abbrev y : ℕ
    y = x / 2 ^ r

    filled_is : bit_or w x ≡ (w / 2 ^ s * 2 ^ n + y) * 2 ^ r + x % 2 ^ r
    filled_is =
        let h = w / 2 ^ s in
        let sum : s ≡ n + r = omega (arith, room) in
        let p : 2 ^ s ≡ 2 ^ n * 2 ^ r = ap (λ j. 2 ^ j) sum ∙ pow-add 2 n r in
        let both : (h n r y t : ℕ) → h * (n * r) + (y * r + t) ≡ (h * n + y) * r + t = λ h n r y t. grind arith in
        filled ∙ ap (λ v. h * v + x) p ∙ ap (λ v. h * (2 ^ n * 2 ^ r) + v) (sym (shr_split x r)) ∙ both h (2 ^ n) (2 ^ r) y (x % 2 ^ r)

    y_is : y ≡ e / 2 ^ (64 - n)
    y_is = last_bits e c r n (omega (arith, room))

    y_small : y < 2 ^ n
    y_small = last_small e c r n wide (omega (arith, room)) (omega (arith, room))

    pub filled_bits : top_bits (bit_or w x) (c + n) ≡ top_bits w c ++ unsigned n (e / 2 ^ (64 - n))
    filled_bits =
        let h = w / 2 ^ s in
        ap (λ v. unsigned (c + n) (v / 2 ^ r)) filled_is ∙ ap (unsigned (c + n)) (shr_high (h * 2 ^ n + y) r (x % 2 ^ r) (mod_below x (2 ^ r) (pow_pos r)))
        ∙ split c n (h * 2 ^ n + y) ∙ ap (λ k. unsigned c k ++ unsigned n (h * 2 ^ n + y)) (shr_high h n y y_small)
        ∙ ap (λ bs. unsigned c h ++ bs) (unsigned_low n h n y (omega arith)) ∙ ap (λ v. unsigned c h ++ unsigned n v) y_is

    pub filled_agrees : (f : ℕ) → e % 2 ^ (64 - n) ≡ f / 2 ^ n → Agrees (bit_or w x) (c + n) f
    filled_agrees f is =
        let sum : r + c ≡ 64 - n = omega (arith, room) in
        let order : n + c ≡ c + n = omega arith in
        let rest : x % 2 ^ r ≡ f / 2 ^ (c + n) =
        sym (field_of e r c) ∙ ap (λ j. e % 2 ^ j / 2 ^ c) sum ∙ ap (λ v. v / 2 ^ c) is ∙ shr-shr f n c ∙ ap (λ j. f / 2 ^ j) order in
        let whole : f / 2 ^ (c + n) ≡ f / 2 ^ (c + n) / 1 * 1 = omega arith in
        (0, ap (λ v. v % 2 ^ r) filled_is ∙ mod_low (w / 2 ^ s * 2 ^ n + y) r (x % 2 ^ r) (mod_below x (2 ^ r) (pow_pos r)) ∙ rest ∙ whole)

-- ---- bytes

got : Result (ℕ × Cursor) Reason → ℕ
got (Ok p) = p.0
got (Err e) = 0

same_number : (n a b : ℕ) → a < 2 ^ n → b < 2 ^ n → unsigned n a ≡ unsigned n b → a ≡ b
unfolding got
same_number n a b lt lt' same =
    let m : Mark = record { unread = 0; bytes = 0; check8 = 0; check16 = 0; short = Truncated } in
    ap got (sym (number_again n a [] m lt) ∙ ap (λ bs. number_at n (at_ (bs ++ []) m)) same ∙ number_again n b [] m lt')

-- eight bytes, and the eight from a later one of them on
pub next_eight : (x f n : ℕ) (xs : List ℕ) → n ≤ 7 → n + 8 ≤ length xs → f < 2 ^ 64 → unsigned 64 x ≡ bits_of (take 8 xs) → unsigned 64 f ≡ bits_of (take 8 (drop n xs)) → x % 2 ^ (64 - 8 * n) ≡ f / 2 ^ (8 * n)
next_eight x f n xs few long wide is next =
    let k = 64 - 8 * n in
    let left = 8 - n in
    let sum : n + left ≡ 8 = omega (arith, few) in
    let bits : 8 * left ≡ k = omega (arith, few) in
    let over : 64 - 8 * left ≡ 8 * n = omega (arith, few) in
    let small : f / 2 ^ (8 * n) < 2 ^ k = let whole : 64 ≡ k + 8 * n = omega (arith, few) in let lt : f < 2 ^ (k + 8 * n) = rw (← whole) wide in shr_below f k (8 * n) lt in
    let rest : drop n (take 8 xs) ≡ take left (drop n xs) = ap (λ j. drop n (take j xs)) (sym sum) ∙ drop-take n left xs in
    let first : unsigned k x ≡ bits_of (take left (drop n xs)) = last_bytes x n xs few (omega (arith, long)) is ∙ ap bits_of rest in
    let second : unsigned k (f / 2 ^ (8 * n)) ≡ bits_of (take left (drop n xs)) =
    ap (λ j. unsigned j (f / 2 ^ (8 * n))) (sym bits) ∙ ap (λ j. unsigned (8 * left) (f / 2 ^ j)) (sym over) ∙ first_bytes f left (drop n xs) (omega arith) (omega (arith, length-drop n xs, long)) next in
    same_number k (x % 2 ^ k) (f / 2 ^ (8 * n)) (mod_below x (2 ^ k) (pow_pos k)) small (unsigned-mod k x ∙ first ∙ sym second)

-- the same in an array of bytes, n after the first
pub next_at : (bytes : List ℕ) (used n x f : ℕ) → n ≤ 7 → used + 8 ≤ length bytes → f < 2 ^ 64 → unsigned 64 x ≡ bits_of (take 8 (drop used bytes)) → unsigned 64 f ≡ bits_of (take 8 (drop (used + n) bytes)) → x % 2 ^ (64 - 8 * n) ≡ f / 2 ^ (8 * n)
next_at bytes used n x f few room wide is next =
    let far : drop (used + n) bytes ≡ drop n (drop used bytes) = sym (drop-drop n used bytes) in
    let long = length-take 8 (drop (used + n) bytes) in
    let there : n + 8 ≤ length (drop used bytes) =
    omega (arith, room, length-drop used bytes, length-drop (used + n) bytes, long, length-unsigned 64 f, length-bits_of (take 8 (drop (used + n) bytes)), ap (λ (bs : List Bool). length bs) next) in
    next_eight x f n (drop used bytes) few there wide is (next ∙ ap (λ xs. bits_of (take 8 xs)) far)
