-- Frames that are written and sent one after another.
use Rattle.std.proofs.Common.{◌≡◌, ◌∙◌, refl, sym, ap, subst, ℕ, zero, suc, ◌+◌, ◌-◌, ◌*◌, ◌/◌, ◌<◌, ◌≤◌, arith, Bool, true, false, List, [], ◌∷◌, ◌++◌, append_assoc, length, drop, Result, Ok, Err}
use Rattle.std.proofs.lemmas.List.{append-nil, length-drop, get_or-drop}
use Rattle.flac_bits.specs.Bits.{bits_of}
use Rattle.flac_bits.specs.Sending.{Sends}
use Rattle.flac_bits.specs.Written.{Written, begins}
use Rattle.flac_bits.specs.declared.why.Why.{Why}
use Rattle.flac_bits.specs.declared.target.Target as target
use Rattle.flac_bits.proofs.Counting.{rises_then}
use Rattle.flac_bits.proofs.Holding.{bits_of-append}
use Rattle.flac_frame.specs.Audio.{Sound, samples_each}
use Rattle.flac_frame.specs.Encoding.{block_of, IsEncoding, IsLeastByPlane, IsShort, WritesFrameByPlane}
use Rattle.flac_frame.specs.Frame.{Frame}
use Rattle.flac_frame.specs.PlaneLists.{Lists}
use Rattle.flac_frame.specs.Spelling.{FrameForm, frame_spelling}
use Rattle.flac_native.specs.Given.{Cut, tried, IsRange, size_of, frame_of}
use Rattle.flac_native.specs.Seeking.{points_from, points_of, point_at}
use Rattle.flac_native.specs.Writing.{SpellsLeastByPlane, AreFrames, AreLeastFrames, AreSizes, IsSpelled}
use Rattle.flac_native.specs.inner.Writing.{WritesChosen}
use Rattle.flac_native.proofs.Gathered.{nth}
use Rattle.flac_native.specs.Sent.{SendsBits}

-- ---- least frames of a block are as long

pub as_long : (lists : Lists) (a : Sound) (f : Frame) (t u : List Bool) → SpellsLeastByPlane lists a f t → SpellsLeastByPlane lists a f u → length t ≡ length u
as_long lists a f t u x y =
    let p : length (frame_spelling a.bits x.form) ≤ length (frame_spelling a.bits y.form) = x.least.least.least y.form y.least.least.member in
    let q : length (frame_spelling a.bits y.form) ≤ length (frame_spelling a.bits x.form) = y.least.least.least x.form x.least.least.member in
    omega (arith, p, q, ap (λ (k : List Bool). length k) x.spelling, ap (λ (k : List Bool). length k) y.spelling)

-- what is written of a block is the frame of its number
pub spelled_of : (p : Cut) (a : Sound) (number start n : ℕ) (f : FrameForm) → start ≡ p.block_size * number → n ≡ size_of p.block_size (samples_each a.channels) number → IsEncoding a n number (block_of start n a.channels) f
    → IsLeastByPlane (tried p number) a n number (block_of start n a.channels) f → IsShort a.bits f → IsSpelled p a number (frame_spelling a.bits f)
spelled_of p a number start n f start_is n_is encoding least short =
    let size = size_of p.block_size (samples_each a.channels) number in
    let e : IsEncoding a size number (block_of (p.block_size * number) size a.channels) f = subst (λ k. IsEncoding a k number (block_of (p.block_size * number) k a.channels) f) n_is (subst (λ k. IsEncoding a n number (block_of k n a.channels) f) start_is encoding) in
    let l : IsLeastByPlane (tried p number) a size number (block_of (p.block_size * number) size a.channels) f = subst (λ k. IsLeastByPlane (tried p number) a k number (block_of (p.block_size * number) k a.channels) f) n_is (subst (λ k. IsLeastByPlane (tried p number) a n number (block_of k n a.channels) f) start_is least) in
    record { frame = record { form = f; encoding = e; spelling = refl; short = short }; least = record { form = f; least = l; spelling = refl } }

-- so it was written
pub chosen_of : (p : Cut) (a : Sound) (number start end : ℕ) (lists : Lists) (old new : Written) (r : Result (Unit {0}) Why) → IsRange p a number start end → lists ≡ tried p number
    → WritesFrameByPlane lists a (end - start) number (block_of start (end - start) a.channels) old new r → WritesChosen p a number old new r
chosen_of p a number start end lists old new r k tried w =
    let least = subst (λ (l : Lists). IsLeastByPlane l a (end - start) number (block_of start (end - start) a.channels) w.0) tried w.2.0 in
    (w.0, spelled_of p a number start (end - start) w.0 k.start k.size w.1 least w.2.1, w.3)

-- ---- a beginning is no longer

pub begins_long : (front whole : List Bool) → begins front whole ≡ true → length front ≤ length whole
unfolding begins
begins_long [] whole e = omega arith
begins_long (b ∷ front) [] e = absurd cc
begins_long (true ∷ front) (true ∷ whole) e = let h = begins_long front whole e in omega (arith, h)
begins_long (true ∷ front) (false ∷ whole) e = absurd cc
begins_long (false ∷ front) (false ∷ whole) e = let h = begins_long front whole e in omega (arith, h)
begins_long (false ∷ front) (true ∷ whole) e = absurd cc

-- ---- one sending after another, by bits

abbrev pub came_out : Result (Unit {0}) Why
came_out = Ok tt

module _ {S : Type 0} (g : target.Ghosts S) where
  pub sends_bits : {X E : Type 0} (bytes : List ℕ) (old new : S) (r : Result X E) → Sends g bytes old new r → SendsBits g (bits_of bytes) old new r
  sends_bits bytes old new (Ok x) s = record {
    known = s.known;
    sent = λ k. ap bits_of (s.sent k) ∙ bits_of-append (g.sent old) bytes;
    begun = tt;
    names = s.names;
    counted = s.counted;
    kept = s.kept;
    rises = tt;
    risen = tt;
  }
  sends_bits bytes old new (Err e) s = record {
    known = tt;
    sent = tt;
    begun = λ k. let h = s.begun k in (bits_of h.0, bits_of h.1, ap bits_of h.2 ∙ bits_of-append h.0 h.1, ap bits_of h.3 ∙ bits_of-append (g.sent old) h.0);
    names = s.names;
    counted = tt;
    kept = s.kept;
    rises = s.rises;
    risen = s.risen;
  }

  pub bits_none : (w : S) → SendsBits g [] w w came_out
  bits_none w = record { known = λ k. k; sent = λ _. sym (append-nil (bits_of (g.sent w))); begun = tt; names = refl; counted = refl; kept = omega arith; rises = tt; risen = tt }

  -- a sending that came out, and what came of the next
  pub bits_then : {X Y E F : Type 0} {a b : List Bool} {old mid new : S} {x : X} (r : Result Y F) → SendsBits {E = E} g a old mid (Ok x) → SendsBits g b mid new r → SendsBits g (a ++ b) old new r
  bits_then {a = a} {b = b} {old = old} (Ok y) p q = record {
    known = λ k. q.known (p.known k);
    sent = λ k. q.sent (p.known k) ∙ ap (λ l. l ++ b) (p.sent k) ∙ append_assoc (bits_of (g.sent old)) a b;
    begun = tt;
    names = q.names ∙ p.names;
    counted = q.counted ∙ p.counted;
    kept = omega (arith, p.kept, q.kept);
    rises = tt;
    risen = tt;
  }
  bits_then {a = a} {b = b} {old = old} {mid = mid} {new = new} (Err e) p q = record {
    known = tt;
    sent = tt;
    begun = λ k.
        let h = q.begun (p.known k) in
        (a ++ h.0, h.1, ap (λ l. a ++ l) h.2 ∙ sym (append_assoc a h.0 h.1), h.3 ∙ ap (λ l. l ++ h.0) (p.sent k) ∙ append_assoc (bits_of (g.sent old)) a h.0);
    names = q.names ∙ p.names;
    counted = tt;
    kept = omega (arith, p.kept, q.kept);
    rises = λ k. omega (arith, q.rises (p.known k), p.counted);
    risen = rises_then (g.errors old) (g.errors mid) (g.errors new) p.counted q.risen;
  }

  -- a sending that failed, of more
  pub bits_fault : {X Y E F : Type 0} {a : List Bool} (b : List Bool) {old new : S} {e : E} {f : F} → SendsBits {X = X} g a old new (Err e) → SendsBits {X = Y} g (a ++ b) old new (Err f)
  bits_fault b p = record {
    known = tt;
    sent = tt;
    begun = λ k. let h = p.begun k in (h.0, h.1 ++ b, ap (λ l. l ++ b) h.2 ∙ append_assoc h.0 h.1 b, h.3);
    names = p.names;
    counted = tt;
    kept = p.kept;
    rises = p.rises;
    risen = p.risen;
  }

-- ---- what holds of each

pub each_append : (P : ℕ → List Bool → Type 0) (xs ys : List (List Bool)) → ((i : ℕ) → i < length xs → P i (nth xs i)) → ((j : ℕ) → j < length ys → P (length xs + j) (nth ys j)) → (i : ℕ) → i < length (xs ++ ys) → P i (nth (xs ++ ys) i)
each_append P [] ys left right i lt = let e : zero + i ≡ i = omega arith in subst (λ k. P k (nth ys i)) e (right i lt)
each_append P (x ∷ xs) ys left right zero lt = left zero (omega arith)
each_append P (x ∷ xs) ys left right (suc i) lt =
    each_append (λ k. P (suc k)) xs ys (λ j h. left (suc j) (omega (arith, h))) (λ j h. let e : suc (length xs) + j ≡ suc (length xs + j) = omega arith in subst (λ k. P k (nth ys j)) e (right j h)) i (omega (arith, lt))

pub each_drop : (P : ℕ → List Bool → Type 0) (n : ℕ) (xs : List (List Bool)) → ((i : ℕ) → i < length xs → P i (nth xs i)) → (j : ℕ) → j < length (drop n xs) → P (n + j) (nth (drop n xs) j)
each_drop P n xs all j lt = subst (P (n + j)) (sym (get_or-drop n xs j [])) (all (n + j) (let h = length-drop n xs in omega (arith, h, lt)))

-- ---- the same sizes and points

-- two lists of texts, each as long as that of the other
abbrev AsLong : List (List Bool) → List (List Bool) → Type 0
AsLong ts us = (length ts ≡ length us) × ((i : ℕ) → i < length ts → length (nth ts i) ≡ length (nth us i))

same_points : (p : Cut) (number offset : ℕ) (ts us : List (List Bool)) → AsLong ts us → points_from p number offset ts ≡ points_from p number offset us
same_points p number offset [] [] h = refl
same_points p number offset [] (u ∷ us) h = absurd (omega (arith, h.0))
same_points p number offset (t ∷ ts) [] h = absurd (omega (arith, h.0))
same_points p number offset (t ∷ ts) (u ∷ us) h =
    let first : length t ≡ length u = h.1 zero (omega arith) in
    let rest = same_points p (number + 1) (offset + length u / 8) ts us (omega (arith, h.0), λ i lt. h.1 (suc i) (omega (arith, lt))) in
    ap (λ n. point_at p number offset ++ points_from p (number + 1) (offset + n / 8) ts) first ∙ ap (λ l. point_at p number offset ++ l) rest

same_sizes : (ts us : List (List Bool)) (least greatest : ℕ) → AsLong ts us → AreSizes us least greatest → AreSizes ts least greatest
same_sizes ts us least greatest h s = record {
  none = λ e. s.none (sym h.0 ∙ e);
  least_is = λ some. let k = s.least_is (omega (arith, some, h.0)) in (k.0, omega (arith, k.1, h.0), h.1 k.0 (omega (arith, k.1, h.0)) ∙ k.2);
  greatest_is = λ some. let k = s.greatest_is (omega (arith, some, h.0)) in (k.0, omega (arith, k.1, h.0), h.1 k.0 (omega (arith, k.1, h.0)) ∙ k.2);
  within = λ i lt. let k = s.within i (omega (arith, lt, h.0)) in let e = h.1 i lt in (omega (arith, k.0, e), omega (arith, k.1, e));
}

-- the frames that are sent have the sizes and the points of those that were counted
pub alike : (p : Cut) (a : Sound) (ts us : List (List Bool)) (least greatest : ℕ) → AreFrames p a ts → AreLeastFrames p a ts → AreFrames p a us → AreLeastFrames p a us → AreSizes us least greatest → AreSizes ts least greatest × (points_of p ts ≡ points_of p us)
alike p a ts us least greatest are least_ts others least_us sizes =
    let long : AsLong ts us = (are.many ∙ sym others.many, λ i lt. as_long (tried p i) a (frame_of p.block_size a i) (nth ts i) (nth us i) (least_ts i lt) (least_us i (omega (arith, lt, are.many, others.many)))) in
    (same_sizes ts us least greatest long sizes, same_points p 0 0 ts us long)
