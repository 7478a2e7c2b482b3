-- The bytes of a page before its lacing values, and its checksum.
use Rattle.std.proofs.Common.{◌≡◌, ◌≤◌, ◌-◌, ℕ, ◌∷◌, [], ◌++◌, append_assoc, List, length, take, drop, refl, sym, ap, ◌∙◌, arith}
use Rattle.std.specs.Int.{to_le_bytes, w32}
use Rattle.std.proofs.lemmas.List.{take_at, drop_at, append-nil, length-append, length-take-le, length-drop}
use Rattle.std.proofs.Math.Seq.{take-length}
use borrow.Rule.Slice.PartMut.{put_mid}
use Rattle.flac_bits.specs.Bits.{bits_of}
use Rattle.flac_bits.specs.Check.{fed, remainder}
use Rattle.flac_bits.proofs.Check.{fed-append, fed_from_zero}
use Rattle.flac_bits.proofs.Holding.{bits_of-append}
use Rattle.flac_around.specs.EmptyPackets.{check_of, page_bytes, checked}
use Rattle.flac_around.specs.inner.Pages.{page_of}

abbrev five : List ℕ
five = 0 ∷ 0 ∷ 0 ∷ 0 ∷ 0 ∷ []

-- fields, and then five bytes
pub laid : (front back fields tail : List ℕ) → length fields ≡ 22 → front ≡ fields → back ≡ tail → put_mid 22 5 (front ++ five) back ≡ fields ++ tail
laid front back fields tail long same is =
    let len = ap length same ∙ long in
    ap (λ l. l ++ (back ++ drop 5 (drop 22 (front ++ five)))) (take_at front five 22 len) ∙ ap (λ l. front ++ (back ++ drop 5 l)) (drop_at front five 22 len)
    ∙ ap (λ l. front ++ l) (append-nil back) ∙ ap (λ l. l ++ back) same ∙ ap (λ l. fields ++ l) is

-- all that follows the first bytes
pub all_taken : (k : ℕ) (xs : List ℕ) → take (length xs - k) (drop k xs) ≡ drop k xs
all_taken k xs = ap (λ n. take n (drop k xs)) (sym (length-drop k xs)) ∙ take-length (drop k xs)

-- a checksum and a number after fields
pub head_long : (lead : List ℕ) (sum count : ℕ) → 27 ≤ length lead → length (take 22 lead ++ (to_le_bytes w32 sum ++ count ∷ [])) ≡ 27
head_long lead sum count le = omega (arith, length-append (take 22 lead) (to_le_bytes w32 sum ++ count ∷ []), length-take-le 22 lead (omega (arith, le)))

-- part by part
chained : (a b c : List ℕ) (c1 c2 c3 : ℕ) → c1 ≡ fed 32 79764919 0 (bits_of a) → c2 ≡ fed 32 79764919 c1 (bits_of b) → c3 ≡ fed 32 79764919 c2 (bits_of c) → c3 ≡ remainder 32 79764919 (bits_of (a ++ (b ++ c)))
chained a b c c1 c2 c3 e1 e2 e3 =
    let step = λ (n : ℕ) (l : List ℕ). fed 32 79764919 n (bits_of l) in
    e3 ∙ ap (λ n. step n c) (e2 ∙ ap (λ n. step n b) e1)
    ∙ sym (ap (fed 32 79764919 0) (bits_of-append a (b ++ c)) ∙ fed-append 32 79764919 0 (bits_of a) (bits_of (b ++ c)) ∙ ap (fed 32 79764919 (step 0 a)) (bits_of-append b c) ∙ fed-append 32 79764919 (step 0 a) (bits_of b) (bits_of c))
    ∙ fed_from_zero 32 79764919 (bits_of (a ++ (b ++ c)))

-- the parts are the page's bytes
parts_are : (fields check lacing body : List ℕ) → (fields ++ (check ++ length lacing ∷ [])) ++ (lacing ++ body) ≡ fields ++ (check ++ (length lacing ∷ (lacing ++ body)))
parts_are fields check lacing body =
    append_assoc fields (check ++ length lacing ∷ []) (lacing ++ body) ∙ ap (λ l. fields ++ l) (append_assoc check (length lacing ∷ []) (lacing ++ body))

pub check_is : (lead body head : List ℕ) (c1 c2 c3 : ℕ) → head ≡ take 22 lead ++ (to_le_bytes w32 0 ++ length (drop 27 lead) ∷ []) → c1 ≡ fed 32 79764919 0 (bits_of head) → c2 ≡ fed 32 79764919 c1 (bits_of (drop 27 lead)) → c3 ≡ fed 32 79764919 c2 (bits_of body)
    → to_le_bytes w32 c3 ≡ check_of (page_of lead body)
unfolding check_of
check_is lead body head c1 c2 c3 is e1 e2 e3 =
    let lacing = drop 27 lead in
    ap (to_le_bytes w32) (chained head lacing body c1 c2 c3 e1 e2 e3
    ∙ ap (λ l. remainder 32 79764919 (bits_of l)) (ap (λ l. l ++ (lacing ++ body)) is ∙ parts_are (take 22 lead) (to_le_bytes w32 0) lacing body))

-- a page with its checksum
check_alone : (lead body check : List ℕ) → check_of (record (page_of lead body) { check = check }) ≡ check_of (page_of lead body)
unfolding check_of
check_alone lead body check = refl

pub completed : (lead body head : List ℕ) (sum : ℕ) → head ≡ take 22 lead ++ (to_le_bytes w32 sum ++ length (drop 27 lead) ∷ []) → to_le_bytes w32 sum ≡ check_of (page_of lead body) → (head ++ drop 27 lead) ++ body ≡ page_bytes (checked (page_of lead body))
completed lead body head sum is check =
    let lacing = drop 27 lead in
    append_assoc head lacing body ∙ ap (λ l. l ++ (lacing ++ body)) is ∙ parts_are (take 22 lead) (to_le_bytes w32 sum) lacing body
    ∙ ap (λ l. take 22 lead ++ (l ++ (length lacing ∷ (lacing ++ body)))) check
