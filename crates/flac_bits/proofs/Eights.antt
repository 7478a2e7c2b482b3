-- The remainder after eight bytes, and after one, by the tables.
use Rattle.std.proofs.Common.{◌≡◌, ℕ, ◌+◌, ◌-◌, ◌*◌, ◌/◌, ◌%◌, ◌^◌, ◌<◌, ◌≤◌, List, [], ◌∷◌, ◌++◌, length, take, drop, get_or, bit_xor, refl, sym, ap, ◌∙◌, arith}
use Rattle.std.specs.List.{slice_range}
use Rattle.std.specs.Int.Bits.{xor_zero_l}
use Rattle.std.proofs.lemmas.Nat.{xor_lt, xor_shr, xor_mod}
use Rattle.std.proofs.lemmas.List.{take-append-drop, length-drop, take_all}
use Rattle.std.proofs.Math.Seq.{take-add}
use Rattle.flac_bits.specs.Bits.{unsigned, bits_of}
use Rattle.flac_bits.specs.Check.{remainder, fed}
use Rattle.flac_bits.proofs.Check.{times, fed-append}
use Rattle.flac_bits.proofs.Words.{split, unsigned-mod}
use Rattle.flac_bits.proofs.Holding.{bits_of-append}
use Rattle.flac_bits.proofs.Slicing.{entry, eight_is, fed_mixed, times_is, byte_step}
use Rattle.flac_bits.proofs.Entries.{after_0, after_1, after_2, after_3, after_4, after_5, after_6, after_7, low_0, low_1, low_2, low_3, low_4, low_5, low_6, low_7, high_0, high_1, high_2, high_3, high_4, high_5, high_6, high_7}
use Rattle.flac_bits.proofs.Entries32.{after32_0, after32_1, after32_2, after32_3, after32_4, after32_5, after32_6, after32_7, is32_0, is32_1, is32_2, is32_3, is32_4, is32_5, is32_6, is32_7}

-- the loops over parts of k bytes
pub fed_part : (w g c k i : ℕ) (bytes : List ℕ) → k * (i + 1) ≡ k * i + k → k * i + k ≤ length bytes → fed w g c (bits_of (take (k * (i + 1)) bytes)) ≡ fed w g (fed w g c (bits_of (take (k * i) bytes))) (bits_of (slice_range bytes (k * i) (k * i + k)))
fed_part w g c k i bytes more le =
    let m = k * i in
    let n : m + k - m ≡ k = omega arith in
    ap (λ j. fed w g c (bits_of (take j bytes))) more ∙ ap (λ xs. fed w g c (bits_of xs)) (take-add m k bytes) ∙ ap (fed w g c) (bits_of-append (take m bytes) (take k (drop m bytes)))
    ∙ fed-append w g c (bits_of (take m bytes)) (bits_of (take k (drop m bytes))) ∙ ap (λ j. fed w g (fed w g c (bits_of (take m bytes))) (bits_of (take j (drop m bytes)))) (sym n)

pub fed_two_parts : (w g c n : ℕ) (bytes : List ℕ) → n ≤ length bytes → fed w g (fed w g c (bits_of (take n bytes))) (bits_of (slice_range bytes n (length bytes))) ≡ fed w g c (bits_of bytes)
fed_two_parts w g c n bytes le =
    let all : take (length bytes - n) (drop n bytes) ≡ drop n bytes = take_all (length bytes - n) (drop n bytes) (omega (arith, length-drop n bytes)) in
    rw all (sym (fed-append w g c (bits_of (take n bytes)) (bits_of (drop n bytes))) ∙ ap (fed w g c) (sym (bits_of-append (take n bytes) (drop n bytes)) ∙ ap bits_of (take-append-drop n bytes)))

pub fed_rest : (w g c k i : ℕ) (bytes : List ℕ) → i ≡ length bytes / k → fed w g (fed w g c (bits_of (take (k * i) bytes))) (bits_of (slice_range bytes (k * (length bytes / k)) (length bytes))) ≡ fed w g c (bits_of bytes)
fed_rest w g c k i bytes e =
    let m = k * i in
    let all : take (length bytes - m) (drop m bytes) ≡ drop m bytes = take_all (length bytes - m) (drop m bytes) (omega (arith, length-drop m bytes)) in
    rw (← e, all) (sym (fed-append w g c (bits_of (take m bytes)) (bits_of (drop m bytes))) ∙ ap (fed w g c) (sym (bits_of-append (take m bytes) (drop m bytes)) ∙ ap bits_of (take-append-drop m bytes)))

-- eight numbers are a list of them
eight_list : (xs : List ℕ) → length xs ≡ 8 → xs ≡ get_or xs 0 0 ∷ get_or xs 1 0 ∷ get_or xs 2 0 ∷ get_or xs 3 0 ∷ get_or xs 4 0 ∷ get_or xs 5 0 ∷ get_or xs 6 0 ∷ get_or xs 7 0 ∷ []
eight_list [] e = absurd (omega (arith, e))
eight_list (a ∷ []) e = absurd (omega (arith, e))
eight_list (a ∷ b ∷ []) e = absurd (omega (arith, e))
eight_list (a ∷ b ∷ c ∷ []) e = absurd (omega (arith, e))
eight_list (a ∷ b ∷ c ∷ d ∷ []) e = absurd (omega (arith, e))
eight_list (a ∷ b ∷ c ∷ d ∷ f ∷ []) e = absurd (omega (arith, e))
eight_list (a ∷ b ∷ c ∷ d ∷ f ∷ g ∷ []) e = absurd (omega (arith, e))
eight_list (a ∷ b ∷ c ∷ d ∷ f ∷ g ∷ h ∷ []) e = absurd (omega (arith, e))
eight_list (a ∷ b ∷ c ∷ d ∷ f ∷ g ∷ h ∷ i ∷ []) e = refl
eight_list (a ∷ b ∷ c ∷ d ∷ f ∷ g ∷ h ∷ i ∷ j ∷ xs) e = absurd (omega (arith, e))

-- the parts of eight numbers that are mixed
mod_eight : (k a b c d e f g h : ℕ) → bit_xor a (bit_xor b (bit_xor c (bit_xor d (bit_xor e (bit_xor f (bit_xor g h)))))) % 2 ^ k
    ≡ bit_xor (a % 2 ^ k) (bit_xor (b % 2 ^ k) (bit_xor (c % 2 ^ k) (bit_xor (d % 2 ^ k) (bit_xor (e % 2 ^ k) (bit_xor (f % 2 ^ k) (bit_xor (g % 2 ^ k) (h % 2 ^ k)))))))
mod_eight k a b c d e f g h = simp xor_mod

shr_eight : (k a b c d e f g h : ℕ) → bit_xor a (bit_xor b (bit_xor c (bit_xor d (bit_xor e (bit_xor f (bit_xor g h)))))) / 2 ^ k
    ≡ bit_xor (a / 2 ^ k) (bit_xor (b / 2 ^ k) (bit_xor (c / 2 ^ k) (bit_xor (d / 2 ^ k) (bit_xor (e / 2 ^ k) (bit_xor (f / 2 ^ k) (bit_xor (g / 2 ^ k) (h / 2 ^ k)))))))
shr_eight k a b c d e f g h = simp xor_shr

pub eight8 : (c : ℕ) (xs : List ℕ) → length xs ≡ 8 → c < 2 ^ 8 → ((k : ℕ) → get_or xs k 0 < 2 ^ 8)
    → bit_xor (get_or after_7 (bit_xor c (get_or xs 0 0)) 0) (bit_xor (get_or after_6 (get_or xs 1 0) 0) (bit_xor (get_or after_5 (get_or xs 2 0) 0) (bit_xor (get_or after_4 (get_or xs 3 0) 0) (bit_xor (get_or after_3 (get_or xs 4 0) 0) (bit_xor (get_or after_2 (get_or xs 5 0) 0) (bit_xor (get_or after_1 (get_or xs 6 0) 0) (get_or after_0 (get_or xs 7 0) 0))))))) % 256 ≡ fed 8 7 c (bits_of xs)
eight8 c xs long fits small =
    let mixed_is = fed_mixed 8 7 c (c ∷ []) (get_or xs 0 0 ∷ []) (get_or xs 1 0 ∷ get_or xs 2 0 ∷ get_or xs 3 0 ∷ get_or xs 4 0 ∷ get_or xs 5 0 ∷ get_or xs 6 0 ∷ get_or xs 7 0 ∷ []) refl refl (times_is 8 7 8 c (omega arith) fits) in
    mod_eight 8 (get_or after_7 (bit_xor c (get_or xs 0 0)) 0) (get_or after_6 (get_or xs 1 0) 0) (get_or after_5 (get_or xs 2 0) 0) (get_or after_4 (get_or xs 3 0) 0) (get_or after_3 (get_or xs 4 0) 0) (get_or after_2 (get_or xs 5 0) 0) (get_or after_1 (get_or xs 6 0) 0) (get_or after_0 (get_or xs 7 0) 0)
    ∙ rw (low_7 (bit_xor c (get_or xs 0 0)) (xor_lt 8 c (get_or xs 0 0) fits (small 0)), low_6 (get_or xs 1 0) (small 1), low_5 (get_or xs 2 0) (small 2), low_4 (get_or xs 3 0) (small 3), low_3 (get_or xs 4 0) (small 4), low_2 (get_or xs 5 0) (small 5), low_1 (get_or xs 6 0) (small 6), low_0 (get_or xs 7 0) (small 7))
    (sym (ap (λ ys. fed 8 7 c (bits_of ys)) (eight_list xs long) ∙ mixed_is ∙ eight_is 8 7 (bit_xor c (get_or xs 0 0)) (get_or xs 1 0) (get_or xs 2 0) (get_or xs 3 0) (get_or xs 4 0) (get_or xs 5 0) (get_or xs 6 0) (get_or xs 7 0)))

pub byte8 : (c b : ℕ) → c < 2 ^ 8 → b < 2 ^ 8 → get_or after_0 (bit_xor c b) 0 % 256 ≡ fed 8 7 c (unsigned 8 b)
unfolding times
byte8 c b fits small =
    let look = low_0 (bit_xor c b) (xor_lt 8 c b fits small) in
    let low : c % 2 ^ 0 * 2 ^ 8 ≡ 0 = omega arith in
    let high : c / 2 ^ 0 ≡ c = omega arith in
    look ∙ sym (xor_zero_l (remainder 8 7 (unsigned 8 (bit_xor c b)))) ∙ ap (λ k. bit_xor k (remainder 8 7 (unsigned 8 (bit_xor c b)))) (sym low) ∙ ap (λ k. bit_xor (c % 2 ^ 0 * 2 ^ 8) (remainder 8 7 (unsigned 8 (bit_xor k b)))) (sym high) ∙ sym (byte_step 0 7 c b fits)

pub eight16 : (c : ℕ) (xs : List ℕ) → length xs ≡ 8 → c < 2 ^ 16 → ((k : ℕ) → get_or xs k 0 < 2 ^ 8)
    → bit_xor (get_or after_7 (bit_xor (c / 256) (get_or xs 0 0)) 0) (bit_xor (get_or after_6 (bit_xor (c % 256) (get_or xs 1 0)) 0) (bit_xor (get_or after_5 (get_or xs 2 0) 0) (bit_xor (get_or after_4 (get_or xs 3 0) 0) (bit_xor (get_or after_3 (get_or xs 4 0) 0) (bit_xor (get_or after_2 (get_or xs 5 0) 0) (bit_xor (get_or after_1 (get_or xs 6 0) 0) (get_or after_0 (get_or xs 7 0) 0))))))) / 65536 ≡ fed 16 32773 c (bits_of xs)
eight16 c xs long fits small =
    let held : times 16 32773 16 c ≡ remainder 16 32773 (bits_of ((c / 256) ∷ (c % 256) ∷ [])) = times_is 16 32773 16 c (omega arith) fits ∙ ap (remainder 16 32773) (split 8 8 c ∙ ap (λ bs. unsigned 8 (c / 256) ++ bs) (sym (unsigned-mod 8 c))) in
    let mixed_is = fed_mixed 16 32773 c ((c / 256) ∷ (c % 256) ∷ []) (get_or xs 0 0 ∷ get_or xs 1 0 ∷ []) (get_or xs 2 0 ∷ get_or xs 3 0 ∷ get_or xs 4 0 ∷ get_or xs 5 0 ∷ get_or xs 6 0 ∷ get_or xs 7 0 ∷ []) refl refl held in
    shr_eight 16 (get_or after_7 (bit_xor (c / 256) (get_or xs 0 0)) 0) (get_or after_6 (bit_xor (c % 256) (get_or xs 1 0)) 0) (get_or after_5 (get_or xs 2 0) 0) (get_or after_4 (get_or xs 3 0) 0) (get_or after_3 (get_or xs 4 0) 0) (get_or after_2 (get_or xs 5 0) 0) (get_or after_1 (get_or xs 6 0) 0) (get_or after_0 (get_or xs 7 0) 0)
    ∙ rw (high_7 (bit_xor (c / 256) (get_or xs 0 0)) (xor_lt 8 (c / 256) (get_or xs 0 0) (omega (arith, fits)) (small 0)), high_6 (bit_xor (c % 256) (get_or xs 1 0)) (xor_lt 8 (c % 256) (get_or xs 1 0) (omega arith) (small 1)), high_5 (get_or xs 2 0) (small 2), high_4 (get_or xs 3 0) (small 3), high_3 (get_or xs 4 0) (small 4), high_2 (get_or xs 5 0) (small 5), high_1 (get_or xs 6 0) (small 6), high_0 (get_or xs 7 0) (small 7))
    (sym (ap (λ ys. fed 16 32773 c (bits_of ys)) (eight_list xs long) ∙ mixed_is ∙ eight_is 16 32773 (bit_xor (c / 256) (get_or xs 0 0)) (bit_xor (c % 256) (get_or xs 1 0)) (get_or xs 2 0) (get_or xs 3 0) (get_or xs 4 0) (get_or xs 5 0) (get_or xs 6 0) (get_or xs 7 0)))

pub byte16 : (c b : ℕ) → c < 2 ^ 16 → b < 2 ^ 8 → bit_xor (c * 256 % 65536) (get_or after_0 (bit_xor (c / 256) b) 0 / 65536) ≡ fed 16 32773 c (unsigned 8 b)
unfolding times
byte16 c b fits small =
    let look = high_0 (bit_xor (c / 256) b) (xor_lt 8 (c / 256) b (omega (arith, fits)) small) in
    let low : c * 256 % 65536 ≡ c % 256 * 256 = omega arith in
    ap (λ k. bit_xor k (get_or after_0 (bit_xor (c / 256) b) 0 / 65536)) low ∙ ap (bit_xor (c % 256 * 256)) look ∙ sym (byte_step 8 32773 c b fits)

pub eight32 : (c : ℕ) (xs : List ℕ) → length xs ≡ 8 → c < 2 ^ 32 → ((k : ℕ) → get_or xs k 0 < 2 ^ 8)
    → bit_xor (get_or after32_7 (bit_xor (c / 16777216) (get_or xs 0 0)) 0) (bit_xor (get_or after32_6 (bit_xor (c / 65536 % 256) (get_or xs 1 0)) 0) (bit_xor (get_or after32_5 (bit_xor (c / 256 % 256) (get_or xs 2 0)) 0) (bit_xor (get_or after32_4 (bit_xor (c % 256) (get_or xs 3 0)) 0) (bit_xor (get_or after32_3 (get_or xs 4 0) 0) (bit_xor (get_or after32_2 (get_or xs 5 0) 0) (bit_xor (get_or after32_1 (get_or xs 6 0) 0) (get_or after32_0 (get_or xs 7 0) 0))))))) ≡ fed 32 79764919 c (bits_of xs)
eight32 c xs long fits small =
    let e = λ (j i : ℕ). entry 32 79764919 j i in
    let at0 : get_or after32_7 (bit_xor (c / 16777216) (get_or xs 0 0)) 0 ≡ e 7 (bit_xor (c / 16777216) (get_or xs 0 0)) = is32_7 (bit_xor (c / 16777216) (get_or xs 0 0)) (xor_lt 8 (c / 16777216) (get_or xs 0 0) (omega (arith, fits)) (small 0)) in
    let at1 : get_or after32_6 (bit_xor (c / 65536 % 256) (get_or xs 1 0)) 0 ≡ e 6 (bit_xor (c / 65536 % 256) (get_or xs 1 0)) = is32_6 (bit_xor (c / 65536 % 256) (get_or xs 1 0)) (xor_lt 8 (c / 65536 % 256) (get_or xs 1 0) (omega arith) (small 1)) in
    let at2 : get_or after32_5 (bit_xor (c / 256 % 256) (get_or xs 2 0)) 0 ≡ e 5 (bit_xor (c / 256 % 256) (get_or xs 2 0)) = is32_5 (bit_xor (c / 256 % 256) (get_or xs 2 0)) (xor_lt 8 (c / 256 % 256) (get_or xs 2 0) (omega arith) (small 2)) in
    let at3 : get_or after32_4 (bit_xor (c % 256) (get_or xs 3 0)) 0 ≡ e 4 (bit_xor (c % 256) (get_or xs 3 0)) = is32_4 (bit_xor (c % 256) (get_or xs 3 0)) (xor_lt 8 (c % 256) (get_or xs 3 0) (omega arith) (small 3)) in
    let at4 : get_or after32_3 (get_or xs 4 0) 0 ≡ e 3 (get_or xs 4 0) = is32_3 (get_or xs 4 0) (small 4) in
    let at5 : get_or after32_2 (get_or xs 5 0) 0 ≡ e 2 (get_or xs 5 0) = is32_2 (get_or xs 5 0) (small 5) in
    let at6 : get_or after32_1 (get_or xs 6 0) 0 ≡ e 1 (get_or xs 6 0) = is32_1 (get_or xs 6 0) (small 6) in
    let at7 : get_or after32_0 (get_or xs 7 0) 0 ≡ e 0 (get_or xs 7 0) = is32_0 (get_or xs 7 0) (small 7) in
    let held : times 32 79764919 32 c ≡ remainder 32 79764919 (bits_of ((c / 16777216) ∷ (c / 65536 % 256) ∷ (c / 256 % 256) ∷ (c % 256) ∷ [])) = times_is 32 79764919 32 c (omega arith) fits
    ∙ ap (remainder 32 79764919) (split 8 24 c ∙ ap (λ bs. unsigned 8 (c / 16777216) ++ bs) (split 8 16 c ∙ ap (λ bs. bs ++ unsigned 16 c) (sym (unsigned-mod 8 (c / 65536))) ∙ ap (λ bs. unsigned 8 (c / 65536 % 256) ++ bs) (split 8 8 c ∙ ap (λ bs. bs ++ unsigned 8 c) (sym (unsigned-mod 8 (c / 256))) ∙ ap (λ bs. unsigned 8 (c / 256 % 256) ++ bs) (sym (unsigned-mod 8 c))))) in
    let sums : fed 32 79764919 c (bits_of xs) ≡ remainder 32 79764919 (bits_of ((bit_xor (c / 16777216) (get_or xs 0 0)) ∷ (bit_xor (c / 65536 % 256) (get_or xs 1 0)) ∷ (bit_xor (c / 256 % 256) (get_or xs 2 0)) ∷ (bit_xor (c % 256) (get_or xs 3 0)) ∷ (get_or xs 4 0) ∷ (get_or xs 5 0) ∷ (get_or xs 6 0) ∷ (get_or xs 7 0) ∷ [])) =
    ap (λ ys. fed 32 79764919 c (bits_of ys)) (eight_list xs long) ∙ fed_mixed 32 79764919 c ((c / 16777216) ∷ (c / 65536 % 256) ∷ (c / 256 % 256) ∷ (c % 256) ∷ []) (get_or xs 0 0 ∷ get_or xs 1 0 ∷ get_or xs 2 0 ∷ get_or xs 3 0 ∷ []) (get_or xs 4 0 ∷ get_or xs 5 0 ∷ get_or xs 6 0 ∷ get_or xs 7 0 ∷ []) refl refl held in
    rw (at0, at1, at2, at3, at4, at5, at6, at7) (sym (eight_is 32 79764919 (bit_xor (c / 16777216) (get_or xs 0 0)) (bit_xor (c / 65536 % 256) (get_or xs 1 0)) (bit_xor (c / 256 % 256) (get_or xs 2 0)) (bit_xor (c % 256) (get_or xs 3 0)) (get_or xs 4 0) (get_or xs 5 0) (get_or xs 6 0) (get_or xs 7 0))) ∙ sym sums

pub byte32 : (c b : ℕ) → c < 2 ^ 32 → b < 2 ^ 8 → bit_xor (c * 256 % 4294967296) (get_or after32_0 (bit_xor (c / 16777216) b) 0) ≡ fed 32 79764919 c (unsigned 8 b)
unfolding times
byte32 c b fits small =
    let look = is32_0 (bit_xor (c / 16777216) b) (xor_lt 8 (c / 16777216) b (omega (arith, fits)) small) in
    let low : c * 256 % 4294967296 ≡ c % 16777216 * 256 = omega arith in
    ap (λ k. bit_xor k (get_or after32_0 (bit_xor (c / 16777216) b) 0)) low ∙ ap (bit_xor (c % 16777216 * 256)) look ∙ sym (byte_step 24 79764919 c b fits)
