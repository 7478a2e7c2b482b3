-- On which page a reader of packets stands, by its steps.
use Rattle.std.proofs.Common.{◌≡◌, ℕ, zero, suc, ◌+◌, ◌-◌, ◌<◌, ◌≤◌, ◌^◌, Bool, true, false, cond, List, [], ◌∷◌, ◌++◌, length, drop, map, Option, Some, None, refl, sym, ap, subst, ◌∙◌, arith, append_assoc}
use Rattle.std.specs.Prelude.{IfSome, not}
use Rattle.std.specs.List.{flat_map}
use Rattle.std.proofs.lemmas.List.{drop_all}
use Rattle.std.proofs.lemmas.List.Folds.{flat_map-map}
use Rattle.flac_bits.specs.Bits.{bit_value}
use Rattle.flac_bits.specs.State.{After}
use Rattle.flac_bits.specs.declared.why.Why.{Why}
use Rattle.flac_pages.specs.Page.{Page}
use Rattle.flac_pages.specs.Packets.{Place, OnPage, on_page, coming, read_since, ReadsPages, PassesPacket, open_in, BreaksAt, to_come, ahead, ends, past_packet, after_in, after_of, page_index}
use Rattle.flac_pages.specs.inner.Packets.{next_segment, Follows}
use Rattle.flac_pages.specs.Items.{whole, end_in, end_of, counted, numbers_of}

-- ---- further pages

abbrev nothing : {A : Type 0} → List A
nothing = []

drop_more : {A : Type 0} (xs : List A) (a n : ℕ) → drop (a + n) xs ≡ drop n (drop a xs)
drop_more xs zero n = let e : 0 + n ≡ n = omega arith in ap (λ k. drop k xs) e
drop_more {A} [] (suc a) n = let e : suc a + n ≡ suc (a + n) = omega arith in ap (λ k. drop k (nothing {A = A})) e ∙ sym (drop_all n nothing (omega arith))
drop_more (x ∷ xs) (suc a) n = let e : suc a + n ≡ suc (a + n) = omega arith in ap (λ k. drop k (x ∷ xs)) e ∙ drop_more xs a n

since_self : (p : OnPage) → read_since p p ≡ 0
since_self p = omega arith

pub reads_none : (p : OnPage) → ReadsPages p p
reads_none p = record {
  fewer = omega arith;
  after = ap (λ k. drop k p.after) (sym (since_self p));
  count = let plain : p.count + read_since p p ≡ p.count = omega arith in ap page_index (sym plain);
}

since_then : (old mid new : OnPage) → length mid.after ≤ length old.after → length new.after ≤ length mid.after → read_since old new ≡ read_since old mid + read_since mid new
since_then old mid new a b = omega (arith, a, b)

joins : (a m n i j k : ℕ) → k ≡ i + j → page_index m ≡ page_index (a + i) → page_index n ≡ page_index (m + j) → page_index n ≡ page_index (a + k)
joins a m n i j k s e f = omega (arith, s, e, f)

pub reads_then : (old mid new : OnPage) → ReadsPages old mid → ReadsPages mid new → ReadsPages old new
reads_then old mid new a b =
    let since = since_then old mid new a.fewer b.fewer in
    record {
      fewer = omega (arith, a.fewer, b.fewer);
      after = b.after ∙ ap (drop (read_since mid new)) a.after ∙ sym (drop_more old.after (read_since old mid) (read_since mid new)) ∙ ap (λ k. drop k old.after) (sym since);
      count = joins old.count mid.count new.count (read_since old mid) (read_since mid new) (read_since old new) since a.count b.count;
    }

abbrev lacing_each : List Page → List (List ℕ)
lacing_each ps = map (λ (q : Page). q.lacing) ps

one_more : (xs ys : List (List ℕ)) (x : List ℕ) → xs ≡ x ∷ ys → (length ys ≤ length xs) × (length xs - length ys ≡ 1) × (ys ≡ drop (length xs - length ys) xs)
one_more xs ys x e =
    let long : length xs ≡ suc (length ys) = ap length e in
    let one : length xs - length ys ≡ 1 = omega (arith, long) in
    (omega (arith, long), one, ap (drop 1) (sym e) ∙ ap (λ k. drop k xs) (sym one))

next_count : (c n k : ℕ) → k ≡ 1 → n ≡ page_index (c + 1) → page_index n ≡ page_index (c + k)
next_count c n k one e = omega (arith, one, e)

-- the next page was read
pub turned_pages : (old new : Place) (p : Page) → (to_come old).pages ≡ p ∷ (to_come new).pages → new.count ≡ page_index (old.count + 1) → ReadsPages (on_page old) (on_page new)
unfolding on_page
turned_pages old new p after count =
    let more = one_more (on_page old).after (on_page new).after p.lacing (ap lacing_each after) in
    record { fewer = more.0; after = more.2; count = next_count old.count new.count (read_since (on_page old) (on_page new)) more.1 count }

open_more : (l : List ℕ) (ls : List (List ℕ)) → l ≡ [] → open_in (l ∷ ls) ≡ suc (open_in ls)
open_more l ls none = ap (λ k. open_in (k ∷ ls)) none

within : (c k n i j : ℕ) → c < 2 ^ 64 → k ≡ page_index (c + 1) → j ≡ suc i → k ≤ n → n < k + i → (c ≤ n) × (n < c + j)
within c k n i j small e s from below = (omega (arith, small, e, from), omega (arith, small, e, s, below))

pub turned_breaks : (old new : Place) (p : Page) → old.count < 2 ^ 64 → old.lacing ≡ [] → (to_come old).pages ≡ p ∷ (to_come new).pages → new.lacing ≡ p.lacing → new.count ≡ page_index (old.count + 1) → (n : ℕ) → BreaksAt (on_page new) n → BreaksAt (on_page old) n
unfolding on_page
turned_breaks old new p small none after lacing count n b =
    let those : (on_page old).after ≡ new.lacing ∷ (on_page new).after = ap lacing_each after ∙ ap (λ l. l ∷ (on_page new).after) (sym lacing) in
    let more : open_in (old.lacing ∷ (on_page old).after) ≡ suc (open_in (new.lacing ∷ (on_page new).after)) = open_more old.lacing (on_page old).after none ∙ ap (λ ls. suc (open_in ls)) those in
    let at = within old.count new.count n (open_in (new.lacing ∷ (on_page new).after)) (open_in (old.lacing ∷ (on_page old).after)) small count more b.from b.below in
    record { index = b.index; from = at.0; below = at.1 }

-- no further page was read
pub none_read : (p : Place) (n : ℕ) → p.count < 2 ^ 64 → p.lacing ≡ [] → n ≡ p.count → BreaksAt (on_page p) n
unfolding on_page
none_read p n small none same = let more = open_more p.lacing (on_page p).after none in record { index = omega (arith, small, same); from = omega (arith, same); below = omega (arith, same, more) }

-- ---- within a packet

pub follows_none : (p : Place) → Follows p p
follows_none p = record { known = λ known. known; more = λ more. more; pages = λ known. reads_none (on_page p); breaks = λ known more n b. b }

pub follows_then : (old mid new : Place) → Follows old mid → Follows mid new → Follows old new
follows_then old mid new a b = record {
  known = λ known. b.known (a.known known);
  more = λ more. a.more (b.more more);
  pages = λ known. reads_then (on_page old) (on_page mid) (on_page new) (a.pages known) (b.pages (a.known known));
  breaks = λ known more n at. a.breaks known (b.more more) n (b.breaks (a.known known) more n at);
}

-- the next segment of the page was entered
pub follows_segment : (old : Place) (v : ℕ) (vs : List ℕ) → old.more ≡ true → old.lacing ≡ v ∷ vs → Follows old (next_segment old (v ∷ vs))
unfolding on_page
follows_segment old v vs more lacing =
    let after = (on_page old).after in
    let none = since_self (on_page old) in
    record {
      known = λ known. known;
      more = λ goes. more;
      pages = λ known. record { fewer = omega arith; after = ap (λ k. drop k after) (sym none); count = let plain : old.count + (length after - length after) ≡ old.count = omega arith in ap page_index (sym plain) };
      breaks = λ known goes n b.
          let same : open_in (old.lacing ∷ after) ≡ open_in (vs ∷ after) = ap (λ l. open_in (l ∷ after)) lacing ∙ ap (λ k. cond (cond k (ends vs) true) 0 (suc (open_in after))) goes in
          record { index = b.index; from = b.from; below = omega (arith, b.below, same) };
    }

-- bytes of the page were taken
pub follows_same : (old new : Place) → new.known ≡ old.known → new.more ≡ old.more → new.lacing ≡ old.lacing → new.last ≡ old.last → new.before ≡ old.before → new.count ≡ old.count → new.cursor ≡ old.cursor → Follows old new
unfolding on_page
follows_same old new known more lacing last before count cursor =
    let same : on_page old ≡ on_page new = rw (known, more, lacing, last, before, count, cursor) refl in
    record {
      known = λ k. known ∙ k;
      more = λ goes. sym more ∙ goes;
      pages = λ k. subst (λ (p : OnPage). ReadsPages (on_page old) p) same (reads_none (on_page old));
      breaks = λ k goes n b. subst (λ (p : OnPage). BreaksAt p n) (sym same) b;
    }

-- the packet's end was passed, after which the next one is to be begun
pub coming_ahead : (p : Place) → coming (on_page p) ≡ (ahead p).lacing
unfolding on_page ahead
coming_ahead p = ap (λ k. p.lacing ++ k) (flat_map-map (λ (l : List ℕ). l) (λ (q : Page). q.lacing) (to_come p).pages)

more_there : (p : Place) → (on_page p).more ≡ p.more
unfolding on_page
more_there p = refl

ended_ahead : (p : Place) → p.more ≡ true → end_of (after_of p) ≡ whole → ends (ahead p).lacing ≡ true
unfolding after_of
ended_ahead p more is = go (ends (ahead p).lacing) refl (ap (λ m. end_of (after_in p.rest m (ahead p))) (sym more) ∙ is)
  where
    unended_is : (o : Option (ℕ × Why)) → end_in o true ≡ whole → ⊥
    unended_is None e = absurd cc
    unended_is (Some f) e = absurd cc

    go : (b : Bool) → ends (ahead p).lacing ≡ b → end_of (after_in p.rest true (ahead p)) ≡ whole → ends (ahead p).lacing ≡ true
    go true e is = e
    go false e is = absurd (unended_is (ahead p).fault (ap (λ b. end_in (cond (not b) (ahead p).fault None) (not b)) (sym e) ∙ is))

pieces_there : (p : Place) (m : Bool) → p.more ≡ m → (after_of p).pieces ≡ cond m (past_packet (ahead p).lacing) (ahead p).lacing
unfolding after_of
pieces_there p m e = ap (λ b. cond b (past_packet (ahead p).lacing) (ahead p).lacing) e

pub passes_there : (old new : Place) → ReadsPages (on_page old) (on_page new) → (on_page old).more ≡ true → new.more ≡ false → end_of (after_of old) ≡ whole → after_of new ≡ after_of old → PassesPacket (on_page old) (on_page new)
passes_there old new pages goes_on over ended after =
    let more : old.more ≡ true = sym (more_there old) ∙ goes_on in
    record {
      pages = pages;
      ended = ap ends (coming_ahead old) ∙ ended_ahead old more ended;
      passed = coming_ahead new ∙ sym (pieces_there new false over) ∙ ap (λ (b : After). b.pieces) after ∙ pieces_there old true more ∙ ap past_packet (sym (coming_ahead old));
    }

-- ---- as numbers

pub parted : (xs ys r s : List ℕ) → length xs ≡ length ys → xs ++ r ≡ ys ++ s → (xs ≡ ys) × (r ≡ s)
parted [] [] r s long e = (refl, e)
parted [] (y ∷ ys) r s long e = absurd (omega (arith, long))
parted (x ∷ xs) [] r s long e = absurd (omega (arith, long))
parted (x ∷ xs) (y ∷ ys) r s long e =
    let more = parted xs ys r s (omega (arith, long)) (same_rest x y (xs ++ r) (ys ++ s) e) in
    (ap (λ k. k ∷ xs) (same_first x y (xs ++ r) (ys ++ s) e) ∙ ap (λ k. y ∷ k) more.0, more.1)
  where
    same_first : (a b : ℕ) (xs ys : List ℕ) → a ∷ xs ≡ b ∷ ys → a ≡ b
    same_first a b xs ys e = cc

    same_rest : (a b : ℕ) (xs ys : List ℕ) → a ∷ xs ≡ b ∷ ys → xs ≡ ys
    same_rest a b xs ys e = cc

heads : (a b : ℕ) (xs ys : List ℕ) → a ∷ xs ≡ b ∷ ys → (a ≡ b) × (xs ≡ ys)
heads a b xs ys e = (cc, cc)

counted_same : (xs ys r s : List ℕ) → counted xs ++ r ≡ counted ys ++ s → (xs ≡ ys) × (r ≡ s)
counted_same xs ys r s e = let h = heads (length xs) (length ys) (xs ++ r) (ys ++ s) e in parted xs ys r s h.0 h.1

lists_same : (xs ys : List (List ℕ)) (r s : List ℕ) → length xs ≡ length ys → flat_map counted xs ++ r ≡ flat_map counted ys ++ s → (xs ≡ ys) × (r ≡ s)
lists_same [] [] r s long e = (refl, e)
lists_same [] (y ∷ ys) r s long e = absurd (omega (arith, long))
lists_same (x ∷ xs) [] r s long e = absurd (omega (arith, long))
lists_same (x ∷ xs) (y ∷ ys) r s long e =
    let first = counted_same x y (flat_map counted xs ++ r) (flat_map counted ys ++ s) (sym (append_assoc (counted x) (flat_map counted xs) r) ∙ e ∙ append_assoc (counted y) (flat_map counted ys) s) in
    let more = lists_same xs ys r s (omega (arith, long)) first.1 in
    (ap (λ k. k ∷ xs) first.0 ∙ ap (λ ks. y ∷ ks) more.0, more.1)

same_flag : (a b : Bool) → bit_value a ≡ bit_value b → a ≡ b
same_flag true true e = refl
same_flag false false e = refl
same_flag true false e = absurd (omega (arith, e))
same_flag false true e = absurd (omega (arith, e))

abbrev the_page : Bool → Bool → ℕ → List ℕ → List (List ℕ) → OnPage
the_page known more count lacing after = record { known = known; more = more; count = count; lacing = lacing; after = after }

page_is : (k k' m m' : Bool) (n n' : ℕ) (l l' : List ℕ) (b b' : List (List ℕ)) → k ≡ k' → m ≡ m' → n ≡ n' → l ≡ l' → b ≡ b' → the_page k m n l b ≡ the_page k' m' n' l' b'
page_is k k' m m' n n' l l' b b' e1 e2 e3 e4 e5 = rw (e1, e2, e3, e4, e5) refl

-- the numbers tell the page, and what stands after them
pub numbers_same : (p q : OnPage) (r s : List ℕ) → numbers_of p ++ r ≡ numbers_of q ++ s → (p ≡ q) × (r ≡ s)
unfolding numbers_of
numbers_same p q r s e =
    let first = heads (bit_value p.known) (bit_value q.known) _ _ e in
    let goes_on = heads (bit_value p.more) (bit_value q.more) _ _ first.1 in
    let second = heads p.count q.count _ _ goes_on.1 in
    let pages = λ (x : OnPage). length x.after ∷ flat_map counted x.after in
    let third = counted_same p.lacing q.lacing (pages p ++ r) (pages q ++ s) (sym (append_assoc (counted p.lacing) (pages p) r) ∙ second.1 ∙ append_assoc (counted q.lacing) (pages q) s) in
    let fourth = heads (length p.after) (length q.after) (flat_map counted p.after ++ r) (flat_map counted q.after ++ s) third.1 in
    let fifth = lists_same p.after q.after r s fourth.0 fourth.1 in
    (page_is p.known q.known p.more q.more p.count q.count p.lacing q.lacing p.after q.after (same_flag p.known q.known first.0) (same_flag p.more q.more goes_on.0) second.0 third.0 fifth.0, fifth.1)

-- ---- what was answered of a packet

-- what breaks the packet off after the calls that followed does so from the start
pub broke_since : (start old : Place) (page : Option ℕ) → Follows start old → start.known ≡ true → IfSome page (λ n. (old.more ≡ true) × BreaksAt (on_page old) n) → IfSome page (λ n. BreaksAt (on_page start) n)
broke_since start old None follows known broke = tt
broke_since start old (Some n) follows known broke = follows.breaks known broke.0 n broke.1
