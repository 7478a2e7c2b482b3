-- Good pages have whole packets and the bytes of one that goes on, whatever their lacing values are.
use Rattle.std.proofs.Common.{◌≡◌, ℕ, suc, ◌+◌, ◌*◌, ◌/◌, ◌%◌, ◌<◌, ◌≤◌, ◌^◌, Bool, true, false, nat_eq, List, [], ◌∷◌, ◌++◌, length, take, drop, replicate, Option, Some, refl, sym, ap, subst, ◌∙◌, arith, append_assoc, length-append, length-drop}
use Rattle.std.specs.List.{flat_map, sum}
use Rattle.std.proofs.lemmas.Bool.Decides.{nat_tests}
use Rattle.std.proofs.lemmas.List.{take-append-drop, length-take-le}
use Rattle.flac_bits.specs.State.{Mark, past}
use Rattle.flac_bits.specs.Forms.{AreBytes}
use Rattle.flac_pages.specs.declared.page.Before.{Before}
use Rattle.flac_pages.specs.Page.{Page, after_page}
use Rattle.flac_pages.specs.Pages.{GoodPages}
use Rattle.flac_pages.specs.Packets.{lacing_of}
use Rattle.flac_pages.proofs.Stepping.{sum_more}
use Rattle.flac_pages.proofs.PageTie.{pages_spelled}

abbrev pub lacing_in : List Page → List ℕ
lacing_in pages = flat_map (λ (p : Page). p.lacing) pages

abbrev pub bytes_in : List Page → List ℕ
bytes_in pages = flat_map (λ (p : Page). p.body) pages

abbrev pub bytes_of : List (List ℕ) → List ℕ
bytes_of packets = flat_map (λ (packet : List ℕ). packet) packets

-- ---- the bytes are as many as the lacing values say

pub record Laced (ls bs : List ℕ) : Type 0 where
  pub small : AreBytes ls
  pub many : length bs ≡ sum ls

bytes_append : (xs ys : List ℕ) → AreBytes xs → AreBytes ys → AreBytes (xs ++ ys)
bytes_append [] ys h k = k
bytes_append (x ∷ xs) ys h k = (h.0, bytes_append xs ys h.1 k)

sum_append : (xs ys : List ℕ) → sum (xs ++ ys) ≡ sum xs + sum ys
sum_append [] ys = omega arith
sum_append (x ∷ xs) ys = omega (arith, sum_more x (xs ++ ys), sum_more x xs, sum_append xs ys)

pub good_laced : (before : Option Before) (m : Mark) (pages : List Page) (text : List Bool) → GoodPages before m pages text → Laced (lacing_in pages) (bytes_in pages)
good_laced before m [] text good = record { small = tt; many = refl }
good_laced before m (p ∷ ps) text (front, rest, split, spelled, good) =
    let is = (pages_spelled before m front p).0 spelled in
    let more = good_laced (Some (after_page before p)) (past front m) ps rest good in
    record { small = bytes_append p.lacing (lacing_in ps) is.0.lacing more.small; many = omega (arith, length-append p.body (bytes_in ps), is.0.whole, more.many, sum_append p.lacing (lacing_in ps)) }

-- ---- and so they are packets

pub record Cut (ls bs : List ℕ) : Type 0 where
  pub packets : List (List ℕ)
  pub begun : List ℕ
  pub full : ℕ
  pub lacing : ls ≡ flat_map lacing_of packets ++ replicate full 255
  pub bytes : bs ≡ bytes_of packets ++ begun
  pub part : length begun ≡ 255 * full

longer_lacing : (front x : List ℕ) → length front ≡ 255 → lacing_of (front ++ x) ≡ 255 ∷ lacing_of x
unfolding lacing_of
longer_lacing front x long =
    let q : length (front ++ x) / 255 ≡ suc (length x / 255) = omega (arith, length-append front x, long) in
    let r : length (front ++ x) % 255 ≡ length x % 255 = omega (arith, length-append front x, long) in
    rw (q, r) refl

short_lacing : (v : ℕ) (front : List ℕ) → v < 255 → length front ≡ v → lacing_of front ≡ v ∷ []
unfolding lacing_of
short_lacing v front small long =
    let q : length front / 255 ≡ 0 = omega (arith, small, long) in
    let r : length front % 255 ≡ v = omega (arith, small, long) in
    rw (q, r) refl

-- a full segment before what comes
full_before : (front vs bs : List ℕ) → length front ≡ 255 → (packets : List (List ℕ)) (begun : List ℕ) (full : ℕ) → vs ≡ flat_map lacing_of packets ++ replicate full 255 → bs ≡ bytes_of packets ++ begun → length begun ≡ 255 * full
    → Cut (255 ∷ vs) (front ++ bs)
full_before front vs bs long [] begun full l b part = record {
  packets = [];
  begun = front ++ begun;
  full = suc full;
  lacing = ap (λ k. 255 ∷ k) l;
  bytes = ap (λ k. front ++ k) b;
  part = omega (arith, length-append front begun, long, part);
}
full_before front vs bs long (x ∷ xs) begun full l b part = record {
  packets = (front ++ x) ∷ xs;
  begun = begun;
  full = full;
  lacing = ap (λ k. 255 ∷ k) l ∙ ap (λ (k : List ℕ). (k ++ flat_map lacing_of xs) ++ replicate full 255) (sym (longer_lacing front x long));
  bytes = ap (λ k. front ++ k) b ∙ sym (ap (λ k. k ++ begun) (append_assoc front x (bytes_of xs)) ∙ append_assoc front (x ++ bytes_of xs) begun);
  part = part;
}

-- a packet's last segment before it
last_before : (v : ℕ) (front vs bs : List ℕ) → v < 255 → length front ≡ v → Cut vs bs → Cut (v ∷ vs) (front ++ bs)
last_before v front vs bs small long c = record {
  packets = front ∷ c.packets;
  begun = c.begun;
  full = c.full;
  lacing = ap (λ k. v ∷ k) c.lacing ∙ ap (λ (k : List ℕ). (k ++ flat_map lacing_of c.packets) ++ replicate c.full 255) (sym (short_lacing v front small long));
  bytes = ap (λ k. front ++ k) c.bytes ∙ sym (append_assoc front (bytes_of c.packets) c.begun);
  part = c.part;
}

one_before : (v : ℕ) (front vs bs : List ℕ) → v < 2 ^ 8 → length front ≡ v → Cut vs bs → (b : Bool) → nat_eq v 255 ≡ b → Cut (v ∷ vs) (front ++ bs)
one_before v front vs bs small long c true e =
    let is : v ≡ 255 = grind (arith, nat_tests) in
    subst (λ (k : ℕ). Cut (k ∷ vs) (front ++ bs)) (sym is) (full_before front vs bs (long ∙ is) c.packets c.begun c.full c.lacing c.bytes c.part)
one_before v front vs bs small long c false e =
    let is : v < 255 = grind (arith, nat_tests) in
    last_before v front vs bs is long c

pub cut : (ls bs : List ℕ) → Laced ls bs → Cut ls bs
cut [] bs h = record { packets = []; begun = bs; full = 0; lacing = refl; bytes = refl; part = omega (arith, h.many) }
cut (v ∷ vs) bs h =
    let few : v ≤ length bs = omega (arith, h.many, sum_more v vs) in
    let long : length (take v bs) ≡ v = length-take-le v bs few in
    let rest : Laced vs (drop v bs) = record { small = h.small.1; many = omega (arith, h.many, sum_more v vs, length-drop v bs) } in
    subst (λ (k : List ℕ). Cut (v ∷ vs) k) (take-append-drop v bs) (one_before v (take v bs) vs (drop v bs) h.small.0 long (cut vs (drop v bs) rest) (nat_eq v 255) refl)
