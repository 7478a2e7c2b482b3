-- One page more.
use Rattle.std.proofs.Common.{◌≡◌, ℕ, zero, suc, ◌+◌, ◌<◌, Bool, true, false, cond, List, ◌++◌, length, Option, Some, Result, Ok, Err, refl, ap, ◌∙◌, arith}
use Rattle.std.proofs.lemmas.List.{length-append}
use Rattle.flac_bits.specs.Bits.{unsigned}
use Rattle.flac_bits.specs.State.{Cursor}
use Rattle.flac_bits.specs.Layout.{run, number_at, and_then, Reason}
use Rattle.flac_bits.proofs.Meaning.{takes}
use Rattle.flac_pages.specs.declared.page.Before.{Before}
use Rattle.flac_pages.specs.Page.{Page, page, page_after, is_last, after_page}
use Rattle.flac_pages.specs.Pages.{closed, broken, one, none, page_or_end, next_page, went_on, pages_in, pages_of, pages_after}

-- a good next page is a page
pub is_page : (before : Option Before) (c : Cursor) (p : Page) (d : Cursor) → next_page before c ≡ Ok (p, d) → run (page before) c ≡ Ok (p, d)
unfolding next_page page
is_page before c p d e = go (number_at 8 c) e
  where
    go : (r : Result (ℕ × Cursor) Reason) → page_or_end before r ≡ Ok (p, d) → and_then r (λ x k. run (page_after before x) k) ≡ Ok (p, d)
    go (Ok x) e = e
    go (Err w) e = absurd cc

byte_long : (v : ℕ) (front rest : List Bool) → front ≡ unsigned 8 v → 0 < length (front ++ rest)
byte_long v front rest e = omega (arith, length-append front rest, ap length e)

pub shorter : (before : Option Before) (c : Cursor) (p : Page) (d : Cursor) → next_page before c ≡ Ok (p, d) → length d.left < length c.left
unfolding page
shorter before c p d e =
    let t = takes (page before) c.left c.mark p d (is_page before c p d e) in
    let s = t.2 in
    let long : 0 < length (s.1 ++ s.2) = byte_long s.0 s.1 s.2 s.4.1 in
    let same : length t.0 ≡ length (s.1 ++ s.2) = ap length s.3 in
    omega (arith, length-append t.0 d.left, ap length t.1, long, same)

enough : (n m : ℕ) (before : Option Before) (c : Cursor) → length c.left < n → length c.left < m → pages_in n before c ≡ pages_in m before c
unfolding pages_in
enough zero m before c a b = absurd (omega arith)
enough (suc n) zero before c a b = absurd (omega arith)
enough (suc n) (suc m) before c a b = go (next_page before c) refl (λ (x : Page × Cursor) (l : length x.1.left < length c.left). enough n m (Some (after_page before x.0)) x.1 (omega arith) (omega arith))
  where
    go : (r : Result (Page × Cursor) Reason) → next_page before c ≡ r
        → ((x : Page × Cursor) → length x.1.left < length c.left → pages_in n (Some (after_page before x.0)) x.1 ≡ pages_in m (Some (after_page before x.0)) x.1)
        → went_on r (λ p d. cond (is_last p.head.flags) (none (closed d)) (pages_in n (Some (after_page before p)) d)) ≡ went_on r (λ p d. cond (is_last p.head.flags) (none (closed d)) (pages_in m (Some (after_page before p)) d))
    go (Ok x) e same = ap (λ k. one x.0 (cond (is_last x.0.head.flags) (none (closed x.1)) k)) (same x (shorter before c x.0 x.1 e))
    go (Err w) e same = refl

choice : (b : Bool) (before : Option Before) (d : Cursor) → cond b (none (closed d)) (pages_of before d) ≡ pages_after b before d
choice true before d = refl
choice false before d = refl

-- a good page, and those after it
pub good_turn : (before : Option Before) (c : Cursor) (p : Page) (d : Cursor) → next_page before c ≡ Ok (p, d) → pages_of before c ≡ one p (pages_after (is_last p.head.flags) (Some (after_page before p)) d)
unfolding pages_of pages_in
good_turn before c p d e =
    let n : length c.left + 1 ≡ suc (length c.left) = omega arith in
    let l : length d.left < length c.left = shorter before c p d e in
    ap (λ k. pages_in k before c) n ∙ ap (λ r. went_on r (λ q f. cond (is_last q.head.flags) (none (closed f)) (pages_in (length c.left) (Some (after_page before q)) f))) e
    ∙ ap (λ k. one p (cond (is_last p.head.flags) (none (closed d)) k)) (enough (length c.left) (length d.left + 1) (Some (after_page before p)) d l (omega arith))
    ∙ ap (λ k. one p k) (choice (is_last p.head.flags) (Some (after_page before p)) d)

-- a page that is refused
pub bad_turn : (before : Option Before) (c : Cursor) (e : Reason) → next_page before c ≡ Err e → pages_of before c ≡ none (broken e.why)
unfolding pages_of pages_in
bad_turn before c e r =
    let n : length c.left + 1 ≡ suc (length c.left) = omega arith in
    ap (λ k. pages_in k before c) n ∙ ap (λ x. went_on x (λ q f. cond (is_last q.head.flags) (none (closed f)) (pages_in (length c.left) (Some (after_page before q)) f))) r
