-- What a step of a reader of packets keeps.
use Rattle.std.proofs.Common.{◌≡◌, ℕ, zero, suc, ◌+◌, ◌<◌, ◌≤◌, Bool, true, false, cond, nat_eq, List, [], ◌∷◌, ◌++◌, length, take, drop, get_or, Option, Some, None, Ok, Err, refl, sym, ap, subst, ◌∙◌, arith, ◌^◌, ◌-◌, add-one, append_assoc, length-drop}
use Rattle.std.specs.Prelude.{◌&&◌, not}
use Rattle.std.specs.List.{sum, fold, flat_map}
use Rattle.std.proofs.Math.Seq.{take-suc, drop-cons, take-append-add, drop-append_seam}
use Rattle.std.proofs.lemmas.List.{drop_all, length-take, take-append-drop}
use Rattle.flac_bits.specs.State.{After}
use Rattle.flac_bits.specs.Layout.{because}
use Rattle.flac_bits.specs.declared.why.Why.{Why}
use Rattle.flac_pages.specs.Page.{Page, is_last, after_page, goes_on_after}
use Rattle.flac_pages.specs.Pages.{Stop, closed, broken, one, next_page, pages_of, pages_after, end_fault}
use Rattle.flac_pages.specs.Packets.{Place, Ahead, Met, ahead, size, ends, past_packet, to_come, rest_of, after_of, rest_in, after_in, broken_off, fault_of, stop_of, at_page, page_index, on_page, ReadsPages, BreaksAt}
use Rattle.flac_pages.specs.inner.Packets.{only_fault, next_segment, Follows, Copies}
use Rattle.flac_pages.proofs.Paged.{follows_none, follows_then, follows_segment, follows_same}
use Rattle.flac_pages.proofs.Turns.{good_turn, bad_turn}

-- what a step keeps
pub record Same (old new : Place) : Type 0 where
  pub bytes : rest_of new ≡ rest_of old
  pub after : after_of new ≡ after_of old

-- nothing is left of the packet, and no fault is after it
pub record Over (old : Place) : Type 0 where
  pub bytes : rest_of old ≡ []
  pub fault : (after_of old).fails ≡ None

-- a page's fault breaks the packet off
pub record Broken (old : Place) (at : ℕ × Why) : Type 0 where
  pub bytes : rest_of old ≡ []
  pub after : after_of old ≡ broken_off at

-- ---- segments

abbrev pub the_ahead : List ℕ → List ℕ → Option (ℕ × Why) → Option (ℕ × Why) → Ahead
the_ahead lacing bytes fault stop = record { lacing = lacing; bytes = bytes; fault = fault; stop = stop }

abbrev pub the_after : Option (ℕ × Why) → Bool → List ℕ → List ℕ → Option (ℕ × Why) → Option (ℕ × Why) → After
the_after fails cut pieces bytes fault stop = record { fails = fails; cut = cut; pieces = pieces; bytes = bytes; fault = fault; stop = stop; fenced = [] }

pub after_is : (f f' : Option (ℕ × Why)) (cut cut' : Bool) (pieces pieces' bytes bytes' : List ℕ) (g g' s s' : Option (ℕ × Why)) → f ≡ f' → cut ≡ cut' → pieces ≡ pieces' → bytes ≡ bytes' → g ≡ g' → s ≡ s' → the_after f cut pieces bytes g s ≡ the_after f' cut' pieces' bytes' g' s'
after_is f f' cut cut' pieces pieces' bytes bytes' g g' s s' e1 e2 e3 e4 e5 e6 = rw (e1, e2, e3, e4, e5, e6) refl

-- within a packet the next lacing value takes the place of what it says
taken_bytes : (v : ℕ) (vs bs : List ℕ) (b : Bool) → take (v + cond b (size vs) 0) bs ≡ take (0 + (v + cond b (size vs) 0)) bs
taken_bytes v vs bs b = let plain : 0 + (v + cond b (size vs) 0) ≡ v + cond b (size vs) 0 = omega arith in ap (λ k. take k bs) (sym plain)

taken_after : (v : ℕ) (vs bs : List ℕ) (f s : Option (ℕ × Why)) (b : Bool) → the_after (cond (b && not (ends vs)) f None) (b && not (ends vs)) (cond b (past_packet vs) vs) (drop (v + cond b (size vs) 0) bs) f s
    ≡ the_after (cond (not (cond b (ends vs) true)) f None) (not (cond b (ends vs) true)) (cond b (past_packet vs) vs) (drop (0 + (v + cond b (size vs) 0)) bs) f s
taken_after v vs bs f s true = let plain : v + size vs ≡ 0 + (v + size vs) = omega arith in after_is _ _ _ _ _ _ _ _ _ _ _ _ refl refl refl (ap (λ k. drop k bs) plain) refl refl
taken_after v vs bs f s false = let plain : v + 0 ≡ 0 + (v + 0) = omega arith in after_is _ _ _ _ _ _ _ _ _ _ _ _ refl refl refl (ap (λ k. drop k bs) plain) refl refl

pub segment_same : (old : Place) (v : ℕ) (vs : List ℕ) → old.rest ≡ 0 → old.more ≡ true → old.lacing ≡ v ∷ vs → Same old (next_segment old (v ∷ vs))
unfolding rest_of after_of ahead
segment_same old v vs r m l =
    let run = to_come old in
    let lacing = vs ++ flat_map (λ (q : Page). q.lacing) run.pages in
    let bytes = old.body ++ flat_map (λ (q : Page). q.body) run.pages in
    record {
      bytes = taken_bytes v lacing bytes (nat_eq v 255) ∙ rw (r, m, l) refl;
      after = taken_after v lacing bytes (fault_of (old.count + length run.pages) run.stop) (stop_of (old.count + length run.pages) run.stop) (nat_eq v 255) ∙ rw (r, m, l) refl;
    }

pub segment_is : (p : Place) (v : ℕ) (vs : List ℕ) → p.lacing ≡ v ∷ vs → next_segment p p.lacing ≡ record p { rest = v; more = nat_eq v 255; lacing = vs }
segment_is p v vs e = ap (next_segment p) e

fold_from : (a : ℕ) (vs : List ℕ) → fold ◌+◌ a vs ≡ a + fold ◌+◌ 0 vs
fold_from a [] = omega arith
fold_from a (v ∷ vs) = fold_from (a + v) vs ∙ omega (arith, fold_from (0 + v) vs)

pub sum_more : (v : ℕ) (vs : List ℕ) → sum (v ∷ vs) ≡ v + sum vs
sum_more v vs = fold_from (0 + v) vs ∙ omega arith

-- the next of the lacing values that are left
pub next_value : (xs : List ℕ) (i v : ℕ) → i < length xs → v ≡ get_or xs i 0 → drop i xs ≡ v ∷ drop (i + 1) xs
next_value xs i v below e = drop-cons xs i 0 below ∙ ap (λ k. get_or xs i 0 ∷ drop k xs) (sym (add-one i)) ∙ ap (λ k. k ∷ drop (i + 1) xs) (sym e)

-- ---- pages

many : (c n : ℕ) → page_index (page_index (c + 1) + n) ≡ page_index (c + suc n)
many c n = omega arith

at_again : (c n : ℕ) (o : Option Why) → at_page (page_index (c + 1) + n) o ≡ at_page (c + suc n) o
at_again c n None = refl
at_again c n (Some why) = ap (λ k. some (k, why)) (many c n)
  where
    some : ℕ × Why → Option (ℕ × Why)
    some f = Some f

fault_again : (c n : ℕ) (s : Stop) → fault_of (page_index (c + 1) + n) s ≡ fault_of (c + suc n) s
fault_again c n (closed d) = refl
fault_again c n (broken why) = at_again c n (Some why)

stop_again : (c n : ℕ) (s : Stop) → stop_of (page_index (c + 1) + n) s ≡ stop_of (c + suc n) s
stop_again c n (closed d) = at_again c n (end_fault d)
stop_again c n (broken why) = at_again c n (Some why)

pub ahead_is : (l l' b b' : List ℕ) (f f' s s' : Option (ℕ × Why)) → l ≡ l' → b ≡ b' → f ≡ f' → s ≡ s' → the_ahead l b f s ≡ the_ahead l' b' f' s'
ahead_is l l' b b' f f' s s' e1 e2 e3 e4 = rw (e1, e2, e3, e4) refl

-- the next page: what good pages give stays
pub turned : (old new : Place) (p : Page) → old.lacing ≡ [] → old.body ≡ [] → old.last ≡ false → next_page old.before old.cursor ≡ Ok (p, new.cursor)
    → new.lacing ≡ p.lacing → new.body ≡ p.body → new.last ≡ is_last p.head.flags → new.before ≡ Some (after_page old.before p) → new.count ≡ page_index (old.count + 1) → ahead new ≡ ahead old
unfolding ahead
turned old new p l b la next nl nb nla nf nc =
    let turn : pages_of old.before old.cursor ≡ one p (pages_after new.last new.before new.cursor) = good_turn old.before old.cursor p new.cursor next ∙ rw (nla, nf) refl in
    ahead_is _ _ _ _ _ _ _ _ (rw (nl, l, la, turn) refl) (rw (nb, b, la, turn) refl) (rw (nc, la, turn) (fault_again old.count (length (to_come new).pages) (to_come new).stop))
    (rw (nc, la, turn) (stop_again old.count (length (to_come new).pages) (to_come new).stop))

-- a page that is refused
pub refused : (old : Place) (why : Why) → old.count < 2 ^ 64 → old.lacing ≡ [] → old.body ≡ [] → old.last ≡ false → next_page old.before old.cursor ≡ Err (because why) → ahead old ≡ only_fault (old.count, why)
unfolding ahead
refused old why small l b la next =
    let turn = bad_turn old.before old.cursor (because why) next in
    let index : page_index (old.count + 0) ≡ old.count = omega arith in
    rw (l, b, la, turn, index) refl

-- a fault at a page of this index
abbrev pub found : ℕ → Option Why → Option (ℕ × Why)
found n None = None
found n (Some why) = Some (n, why)

-- after the last page
pub closed_ahead : (old : Place) (o : Option Why) → old.count < 2 ^ 64 → old.lacing ≡ [] → old.last ≡ true → end_fault old.cursor ≡ o → ((ahead old).lacing ≡ []) × ((ahead old).stop ≡ found old.count o)
unfolding ahead
closed_ahead old o small l la e = (rw (l, la) refl, rw (la, e) (go o))
  where
    go : (o : Option Why) → at_page (old.count + 0) o ≡ found old.count o
    go None = refl
    go (Some why) = let plain : page_index (old.count + 0) ≡ old.count = omega (arith, small) in rw plain refl

-- ---- the packet's bytes, by what good pages give

pub rest_same : (r r' : ℕ) (m m' : Bool) (a a' : Ahead) → r ≡ r' → m ≡ m' → a ≡ a' → rest_in r m a ≡ rest_in r' m' a'
rest_same r r' m m' a a' e1 e2 e3 = ap (λ k. rest_in k m a) e1 ∙ ap (λ k. rest_in r' k a) e2 ∙ ap (λ k. rest_in r' m' k) e3

pub after_same : (r r' : ℕ) (m m' : Bool) (a a' : Ahead) → r ≡ r' → m ≡ m' → a ≡ a' → after_in r m a ≡ after_in r' m' a'
after_same r r' m m' a a' e1 e2 e3 = ap (λ k. after_in k m a) e1 ∙ ap (λ k. after_in r' k a) e2 ∙ ap (λ k. after_in r' m' k) e3

pub same_ahead : (old new : Place) → new.rest ≡ old.rest → new.more ≡ old.more → ahead new ≡ ahead old → Same old new
unfolding rest_of after_of
same_ahead old new r m a = record { bytes = rest_same _ _ _ _ _ _ r m a; after = after_same _ _ _ _ _ _ r m a }

-- after the packet's end
pub packet_over : (old : Place) → old.rest ≡ 0 → old.more ≡ false → Over old
unfolding rest_of after_of
packet_over old r m = record { bytes = rw (r, m) refl; fault = rw m refl }

-- after the last page
pub pages_over : (old : Place) → old.rest ≡ 0 → old.lacing ≡ [] → old.last ≡ true → Over old
unfolding rest_of after_of ahead
pages_over old r l la = go old.more refl
  where
    go : (b : Bool) → old.more ≡ b → Over old
    go true e = record { bytes = rw (r, l, la, e) refl; fault = rw (l, la, e) refl }
    go false e = packet_over old r e

-- where nothing is ahead
pub none_ahead : (old : Place) → old.lacing ≡ [] → old.last ≡ true → (ahead old).lacing ≡ []
unfolding ahead
none_ahead old l la = rw (l, la) refl

pub broken_ahead : (old : Place) (f : ℕ × Why) → old.rest ≡ 0 → old.more ≡ true → ahead old ≡ only_fault f → Broken old f
unfolding rest_of after_of
broken_ahead old f r m a = record { bytes = rest_same old.rest 0 old.more true (ahead old) (only_fault f) r m a; after = after_same old.rest 0 old.more true (ahead old) (only_fault f) r m a }

-- a refusal after calls that kept the count of the device's errors
pub met_then : (why : Why) (old mid new : ℕ) → mid ≡ old → Met why mid new → Met why old new
met_then why old mid new same met = subst (λ n. Met why n new) same met

-- what a loop of steps keeps
pub record Kept (old new : Place) : Type 0 where
  pub known : old.known ≡ true → new.known ≡ true
  pub errors : new.errors ≡ old.errors
  pub raised : new.raised ≡ old.raised
  pub names : new.names ≡ old.names
  pub room : new.most + length new.body ≤ old.most + length old.body
  pub bytes : old.known ≡ true → rest_of new ≡ rest_of old
  pub after : old.known ≡ true → after_of new ≡ after_of old
  pub follows : Follows old new

-- what a loop over pages keeps
pub record Waits (old new : Place) : Type 0 where
  pub known : old.known ≡ true → new.known ≡ true
  pub errors : new.errors ≡ old.errors
  pub raised : new.raised ≡ old.raised
  pub names : new.names ≡ old.names
  pub rest : new.rest ≡ 0
  pub more : new.more ≡ false
  pub room : new.most + length new.body ≤ old.most + length old.body
  pub ahead : old.known ≡ true → ahead new ≡ ahead old
  pub pages : old.known ≡ true → ReadsPages (on_page old) (on_page new)
  pub breaks : old.known ≡ true → (n : ℕ) → BreaksAt (on_page new) n → BreaksAt (on_page old) n

-- ---- copies

shortened : (xs : List ℕ) (n m : ℕ) → n ≤ m → take n (take m xs) ≡ take n xs
shortened xs zero m le = refl
shortened xs (suc n) zero le = absurd (omega arith)
shortened [] (suc n) (suc m) le = refl
shortened (x ∷ xs) (suc n) (suc m) le = ap (λ k. x ∷ k) (shortened xs n m (omega arith))

abbrev nothing : List ℕ
nothing = []

pub drop_more : (xs : List ℕ) (a n : ℕ) → drop (a + n) xs ≡ drop n (drop a xs)
drop_more xs zero n = let e : 0 + n ≡ n = omega arith in ap (λ k. drop k xs) e
drop_more [] (suc a) n = let e : suc a + n ≡ suc (a + n) = omega arith in ap (λ k. drop k nothing) e ∙ sym (drop_all n [] (omega arith))
drop_more (x ∷ xs) (suc a) n = let e : suc a + n ≡ suc (a + n) = omega arith in ap (λ k. drop k (x ∷ xs)) e ∙ drop_more xs a n

pub copied : (old new : Place) (out : List ℕ) (n : ℕ) → n ≤ old.rest → n ≤ length old.body → take n out ≡ take n old.body → new.known ≡ old.known → new.errors ≡ old.errors → new.raised ≡ old.raised → new.names ≡ old.names → new.most ≡ old.most
    → new.rest ≡ old.rest - n → new.more ≡ old.more → new.lacing ≡ old.lacing → new.body ≡ drop n old.body → new.last ≡ old.last → new.before ≡ old.before → new.count ≡ old.count → new.cursor ≡ old.cursor
    → Copies old new out n
unfolding rest_of after_of ahead
copied old new out n a b o nk ne ns nn nmo nr nm nl nb nla nf nc nd =
    let front = take n old.body in
    let rest = drop n old.body in
    let after = flat_map (λ (q : Page). q.body) (to_come old).pages in
    let more = cond old.more (size (old.lacing ++ flat_map (λ (q : Page). q.lacing) (to_come old).pages)) 0 in
    let long : length front ≡ n = omega (arith, length-take n old.body) in
    let split : old.body ++ after ≡ front ++ (rest ++ after) = ap (λ k. k ++ after) (sym (take-append-drop n old.body)) ∙ append_assoc front rest after in
    let count : old.rest + more ≡ length front + (old.rest - n + more) = omega arith in
    let count' : old.rest + more ≡ n + (old.rest - n + more) = omega arith in
    let seam : drop n (old.body ++ after) ≡ rest ++ after = ap (drop n) split ∙ ap (λ k. drop k (front ++ (rest ++ after))) (sym long) ∙ drop-append_seam front (rest ++ after) in
    record {
      known = nk;
      errors = ne;
      raised = ns;
      names = nn;
      room = omega (arith, ap length nb, length-drop n old.body);
      bytes = ap (take (old.rest + more)) split ∙ ap (λ k. take k (front ++ (rest ++ after))) count ∙ take-append-add front (rest ++ after) (old.rest - n + more) ∙ rw (o, nr, nm, nl, nb, nla, nf, nd) refl;
      after = after_is _ _ _ _ _ _ _ _ _ _ _ _ (rw (nm, nl, nla, nf, nc, nd) refl) (rw (nm, nl, nla, nf, nd) refl) (rw (nm, nl, nla, nf, nd) refl)
          (rw (nr, nm, nl, nb, nla, nf, nd) (sym (ap (λ k. drop k (old.body ++ after)) count' ∙ drop_more (old.body ++ after) n (old.rest - n + more) ∙ ap (drop (old.rest - n + more)) seam))) (rw (nla, nf, nc, nd) refl) (rw (nla, nf, nc, nd) refl);
      follows = follows_same old new nk nm nl nla nf nc nd;
    }

-- nothing is copied
pub copies_none : (p : Place) (out : List ℕ) → Copies p p out 0
copies_none p out = record { known = refl; errors = refl; raised = refl; names = refl; room = omega arith; bytes = refl; after = refl; follows = follows_none p }

-- the packet's next segment is entered, and nothing copied
pub copies_entered : (old new : Place) (l : List ℕ) → old.rest ≡ 0 → old.more ≡ true → 0 < length old.lacing → old.lacing ≡ l → new ≡ next_segment old l → Copies old new [] 0
copies_entered old new [] r m some eq e = absurd (omega (arith, ap length eq, some))
copies_entered old new (v ∷ vs) r m some eq e =
    let same = segment_same old v vs r m eq in
    subst (λ (p : Place). Copies old p [] 0) (sym e) (record { known = refl; errors = refl; raised = refl; names = refl; room = omega arith; bytes = sym same.bytes; after = same.after; follows = follows_segment old v vs m eq })

-- none more
pub copies_still : (old mid new : Place) (xs : List ℕ) (n : ℕ) → Copies old mid xs n → Copies mid new [] 0 → Copies old new xs n
copies_still old mid new xs n a b = record {
  known = b.known ∙ a.known;
  errors = b.errors ∙ a.errors;
  raised = b.raised ∙ a.raised;
  names = b.names ∙ a.names;
  room = omega (arith, a.room, b.room);
  bytes = a.bytes ∙ ap (λ r. take n xs ++ r) b.bytes;
  after = b.after ∙ a.after;
  follows = follows_then old mid new a.follows b.follows;
}

-- more bytes after those that were copied
pub copies_more : (old mid new : Place) (xs ys zs : List ℕ) (n m : ℕ) → take (n + m) zs ≡ take n xs ++ take m ys → Copies old mid xs n → Copies mid new ys m → Copies old new zs (n + m)
copies_more old mid new xs ys zs n m e a b = record {
  known = b.known ∙ a.known;
  errors = b.errors ∙ a.errors;
  raised = b.raised ∙ a.raised;
  names = b.names ∙ a.names;
  room = omega (arith, a.room, b.room);
  bytes = a.bytes ∙ ap (λ r. take n xs ++ r) b.bytes ∙ sym (append_assoc (take n xs) (take m ys) (rest_of new)) ∙ ap (λ k. k ++ rest_of new) (sym e);
  after = b.after ∙ a.after;
  follows = follows_then old mid new a.follows b.follows;
}

-- ---- whether a packet goes on

after_snoc : (b : Bool) (xs : List ℕ) (v : ℕ) → goes_on_after b (xs ++ v ∷ []) ≡ nat_eq v 255
after_snoc b [] v = refl
after_snoc b (x ∷ xs) v = after_snoc (nat_eq x 255) xs v

pub goes_on_more : (b : Bool) (xs : List ℕ) (i : ℕ) → i < length xs → nat_eq (get_or xs i 0) 255 ≡ goes_on_after b (take (i + 1) xs)
goes_on_more b xs i below = sym (after_snoc b (take i xs) (get_or xs i 0)) ∙ ap (goes_on_after b) (sym (take-suc xs i 0 below)) ∙ ap (λ k. goes_on_after b (take k xs)) (sym (add-one i))
