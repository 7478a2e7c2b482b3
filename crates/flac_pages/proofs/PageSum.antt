-- A page in three parts, and its sum part by part.
use Rattle.std.proofs.Common.{◌≡◌, ℕ, List, [], ◌∷◌, ◌++◌, Bool, length, refl, sym, ap, append_assoc, ◌∙◌}
use Rattle.std.specs.Int.{to_le_bytes, w32, w64}
use Rattle.flac_bits.specs.Bits.{bits_of}
use Rattle.flac_bits.specs.Check.{fed, remainder}
use Rattle.flac_bits.specs.Forms.{joined}
use Rattle.flac_bits.proofs.Check.{fed-append, fed_from_zero}
use Rattle.flac_bits.proofs.Holding.{bits_of-append}
use Rattle.flac_pages.specs.declared.page.Head.{Head}
use Rattle.flac_pages.specs.Page.{Page, page_sum, page_spelling, with_sum}
use Rattle.flac_pages.specs.Written.{summed}
use Rattle.flac_pages.specs.inner.Heads.{head_bytes}

-- ---- the parts

two : (x y : List ℕ) (rest : List Bool) → bits_of x ++ (bits_of y ++ rest) ≡ bits_of (x ++ y) ++ rest
two x y rest = sym (append_assoc (bits_of x) (bits_of y) rest) ∙ ap (λ bits. bits ++ rest) (sym (bits_of-append x y))

six : (a b c d e f : List ℕ) (rest : List Bool) → bits_of a ++ (bits_of b ++ (bits_of c ++ (bits_of d ++ (bits_of e ++ (bits_of f ++ rest))))) ≡ bits_of (a ++ (b ++ (c ++ (d ++ (e ++ f))))) ++ rest
six a b c d e f rest =
    ap (λ bits. bits_of a ++ (bits_of b ++ (bits_of c ++ (bits_of d ++ bits)))) (two e f rest)
    ∙ ap (λ bits. bits_of a ++ (bits_of b ++ (bits_of c ++ bits))) (two d (e ++ f) rest)
    ∙ ap (λ bits. bits_of a ++ (bits_of b ++ bits)) (two c (d ++ (e ++ f)) rest)
    ∙ ap (λ bits. bits_of a ++ bits) (two b (c ++ (d ++ (e ++ f))) rest)
    ∙ two a (b ++ (c ++ (d ++ (e ++ f)))) rest

-- what is before the lacing values, they, and the segments
pub page_parts : (p : Page) → page_spelling p ≡ bits_of (head_bytes p.head p.head.sum (length p.lacing)) ++ (bits_of p.lacing ++ (bits_of p.body ++ []))
unfolding page_spelling
page_parts p = six (0x4F ∷ 0x67 ∷ 0x67 ∷ 0x53 ∷ 0 ∷ p.head.flags ∷ []) (to_le_bytes w64 p.head.granule) (to_le_bytes w32 p.head.serial) (to_le_bytes w32 p.head.sequence) (to_le_bytes w32 p.head.sum) (length p.lacing ∷ []) (bits_of p.lacing ++ (bits_of p.body ++ []))

-- so it is of a page with its sum
pub written_parts : (h : Head) (lacing body bytes : List ℕ) (sum : ℕ) → bytes ≡ head_bytes h sum (length lacing) → sum ≡ page_sum (record { head = h; lacing = lacing; body = body })
    → page_spelling (summed (record { head = h; lacing = lacing; body = body })) ≡ bits_of bytes ++ (bits_of lacing ++ (bits_of body ++ []))
written_parts h lacing body bytes sum is stated =
    let rest : List Bool = bits_of lacing ++ (bits_of body ++ []) in
    page_parts (summed (record { head = h; lacing = lacing; body = body })) ∙ ap (λ n. bits_of (head_bytes h n (length lacing)) ++ rest) (sym stated) ∙ ap (λ b. bits_of b ++ rest) (sym is)

-- ---- the sum

abbrev pub step : ℕ → List Bool → ℕ
step c part = fed 32 79764919 c part

-- parts fed one after another
abbrev pub fed_each : ℕ → List (List Bool) → ℕ
fed_each c [] = c
fed_each c (part ∷ parts) = fed_each (step c part) parts

pub fed_joined : (c : ℕ) (parts : List (List Bool)) → step c (joined parts) ≡ fed_each c parts
unfolding fed
fed_joined c [] = refl
fed_joined c (part ∷ parts) = fed-append 32 79764919 c part (joined parts) ∙ fed_joined (step c part) parts

pub sum_is : (p1 p2 p3 : List Bool) (c1 c2 c3 : ℕ) → c1 ≡ step 0 p1 → c2 ≡ step c1 p2 → c3 ≡ step c2 p3 → c3 ≡ remainder 32 79764919 (joined (p1 ∷ p2 ∷ p3 ∷ []))
sum_is p1 p2 p3 c1 c2 c3 e1 e2 e3 = rw (e3, e2, e1) (sym (fed_joined 0 (p1 ∷ p2 ∷ p3 ∷ [])) ∙ fed_from_zero 32 79764919 (joined (p1 ∷ p2 ∷ p3 ∷ [])))

pub page_sum_is : (p : Page) (c1 c2 c3 : ℕ) → c1 ≡ step 0 (bits_of (head_bytes p.head 0 (length p.lacing))) → c2 ≡ step c1 (bits_of p.lacing) → c3 ≡ step c2 (bits_of p.body) → c3 ≡ page_sum p
unfolding page_sum
page_sum_is p c1 c2 c3 e1 e2 e3 =
    sum_is (bits_of (head_bytes p.head 0 (length p.lacing))) (bits_of p.lacing) (bits_of p.body) c1 c2 c3 e1 e2 e3 ∙ ap (λ bits. remainder 32 79764919 bits) (sym (page_parts (with_sum 0 p)))
