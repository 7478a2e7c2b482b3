-- The frame that a place in memory was sent.
use Rattle.std.proofs.Common.{◌≡◌, ◌∙◌, refl, sym, ap, subst, ℕ, zero, suc, ◌*◌, ◌<◌, ◌≤◌, arith, Bool, true, List, [], ◌∷◌, ◌++◌, drop, length, length-append, Result, Ok, Err, OnOk}
use Rattle.std.proofs.lemmas.List.{append-nil}
use Rattle.flac_bits.specs.Bits.{unsigned, bits_of}
use Rattle.flac_bits.specs.State.{Mark, fresh}
use Rattle.flac_bits.specs.Written.{Written, Adds, Fails, Writes, begins}
use Rattle.flac_bits.specs.declared.why.Why.{Why}
use Rattle.flac_bits.proofs.ItemSpellings.{fresh_unread, after_whole}
use Rattle.flac_bits.proofs.Words.{length-unsigned}
use Rattle.flac_bits.proofs.Writing.{fails_then}
use Rattle.flac_header.specs.Spelling.{restarted}
use Rattle.flac_meta.specs.declared.seek_table.SeekPoint.{SeekPoint}
use Rattle.flac_frame.specs.Audio.{Sound}
use Rattle.flac_frame.specs.Spelling.{FrameForm, frame_spelling}
use Rattle.flac_frame.proofs.FrameTie.{frames_bytes}
use Rattle.flac_native.specs.Given.{Cut, tried, frame_of}
use Rattle.flac_native.specs.FixedBuffer.{placed}
use Rattle.flac_native.specs.Writing.{AreCounted, IsSpelled, HasRoom}
use Rattle.flac_native.specs.inner.Writing.{WritesAll, WritesNext}
use Rattle.flac_native.proofs.Spelled.{as_long, begins_long}

-- ---- bits, and the rest that is held

pub all_failed : (X : Type 0) (text : List Bool) (old new : Written) (e : Why) → Fails (old.bits ++ text) old new e → WritesAll {X = X} text old new (Err e)
all_failed X text old new e fails = record { failed = fails; known = tt; counted = tt; names = fails.names; sent = tt }

pub all_written : {X : Type 0} (text : List Bool) (old mid new : Written) (r : Result X Why) → Adds text old mid → mid.mark.unread ≡ 0 → Writes [] mid new r → OnOk r (mid.known ≡ true → mid.mark.unread ≡ 0 → bits_of new.sent ≡ mid.bits)
    → WritesAll text old new r
all_written text old mid new (Ok x) adds unread last sent = record {
  failed = tt;
  known = λ known. last.known (adds.known known);
  counted = last.errors ∙ adds.errors;
  names = last.names ∙ adds.names;
  sent = λ known. sent (adds.known known) unread ∙ adds.bits known;
}
all_written text old mid new (Err e) adds unread last sent = record {
  failed = subst (λ k. Fails (old.bits ++ k) old new e) (append-nil text) (fails_then [] adds last);
  known = tt;
  counted = tt;
  names = last.names ∙ adds.names;
  sent = tt;
}

-- ---- a frame

pub unstarted : (bits : List Bool) (old new : Written) (e : Why) → Fails bits (restarted old) new e → Fails bits old new e
unstarted bits old new e f = record { reason = f.reason; kept = f.kept; names = f.names; rises = f.rises; begun = f.begun; risen = f.risen }

all_unstarted : {X : Type 0} (text : List Bool) (old new : Written) (r : Result X Why) → WritesAll text (restarted old) new r → WritesAll text old new r
all_unstarted text old new (Ok x) w = record { failed = tt; known = w.known; counted = w.counted; names = w.names; sent = w.sent }
all_unstarted text old new (Err e) w = record { failed = unstarted (old.bits ++ text) old new e w.failed; known = tt; counted = tt; names = w.names; sent = tt }

pub next_failed : (X : Type 0) (p : Cut) (a : Sound) (number : ℕ) (old new : Written) (f : FrameForm) (e : Why) → IsSpelled p a number (frame_spelling a.bits f) → Fails (old.bits ++ frame_spelling a.bits f) (restarted old) new e → WritesNext {X = X} p a number old new (Err e)
next_failed X p a number old new f e is fails = (frame_spelling a.bits f, is, all_failed X (frame_spelling a.bits f) old new e (unstarted (old.bits ++ frame_spelling a.bits f) old new e fails))

pub next_written : {X : Type 0} (p : Cut) (a : Sound) (number : ℕ) (old mid new : Written) (f : FrameForm) (r : Result X Why) → IsSpelled p a number (frame_spelling a.bits f) → old.mark.unread ≡ 0 → Adds (frame_spelling a.bits f) (restarted old) mid
    → Writes [] mid new r → OnOk r (mid.known ≡ true → mid.mark.unread ≡ 0 → bits_of new.sent ≡ mid.bits) → WritesNext p a number old new r
next_written p a number old mid new f r is whole adds last sent =
    let t = frame_spelling a.bits f in
    let unread : mid.mark.unread ≡ 0 = ap (λ (m : Mark). m.unread) adds.mark ∙ after_whole t (fresh old.mark) (fresh_unread old.mark whole) (frames_bytes a.bits f) in
    (t, is, all_unstarted t old new r (all_written t (restarted old) mid new r adds unread last sent))

-- ---- what a place was sent

pub placed_more : (n : ℕ) (xs ys : List ℕ) → placed n (xs ++ ys) ≡ placed n xs ++ ys
placed_more zero xs ys = refl
placed_more (suc n) xs ys = ap (λ l. 1 ∷ l) (placed_more n xs ys)

-- all of it
pub placed_same : (m n : ℕ) (s : List ℕ) (text : List Bool) → bits_of (placed m s) ≡ bits_of (placed n []) ++ text → (m ≡ n) × (bits_of s ≡ text)
placed_same zero zero s text e = (refl, ap (drop 8) e)
placed_same zero (suc n) s text e = absurd cc
placed_same (suc m) zero s text e = absurd cc
placed_same (suc m) (suc n) s text e =
    let inner : bits_of (placed m s) ≡ bits_of (placed n []) ++ text = ap (drop 8) e in
    let h = placed_same m n s text inner in (ap suc h.0, h.1)

-- a beginning of it
pub placed_begins : (m n : ℕ) (s : List ℕ) (text : List Bool) → begins (bits_of (placed m s)) (bits_of (placed n []) ++ text) ≡ true → (m ≡ n) × (begins (bits_of s) text ≡ true)
unfolding begins
placed_begins zero zero s text e = (refl, e)
placed_begins zero (suc n) s text e = absurd cc
placed_begins (suc m) zero s text e = absurd cc
placed_begins (suc m) (suc n) s text e = let h = placed_begins m n s text e in (ap suc h.0, h.1)

bytes_long : (bytes : List ℕ) → length (bits_of bytes) ≡ 8 * length bytes
bytes_long [] = refl
bytes_long (b ∷ bs) = omega (arith, length-append (unsigned 8 b) (bits_of bs), length-unsigned 8 b, bytes_long bs)

-- so the place has just what was written
pub filled : {X : Type 0} (x : X) (text : List Bool) (places more : ℕ) (s : List ℕ) (old new : Written) → old.known ≡ true → old.bits ≡ bits_of (placed places []) → new.sent ≡ placed more s → WritesAll text old new (Ok x)
    → (more ≡ places) × (bits_of s ≡ text)
filled x text places more s old new known blank sent w = placed_same more places s text (ap bits_of (sym sent) ∙ w.sent known ∙ ap (λ k. k ++ text) blank)

-- and it takes what is not longer than it
pub never_full : {X : Type 0} (e : Why) (text : List Bool) (places more : ℕ) (s : List ℕ) (old new : Written) → old.known ≡ true → old.bits ≡ bits_of (placed places []) → new.sent ≡ placed more s → length text ≤ 8 * places
    → (1 ≤ new.errors → more < length s) → WritesAll {X = X} text old new (Err e) → ⊥
never_full e text places more s old new known blank sent long full w =
    let f = w.failed in
    let some : 1 ≤ new.errors = let r = f.rises known in omega (arith, r) in
    let begun = subst (λ k. begins (bits_of k) (bits_of (placed places []) ++ text) ≡ true) sent (subst (λ k. begins (bits_of new.sent) (k ++ text) ≡ true) blank (f.begun known)) in
    let k = placed_begins more places s text begun in
    let few = begins_long (bits_of s) text k.1 in
    absurd (omega (arith, few, bytes_long s, long, full some, k.0))

pub spell_ok : (X : Type 0) (x : X) (p : Cut) (a : Sound) (number places more : ℕ) (s : List ℕ) (old new : Written) → old.known ≡ true → old.bits ≡ bits_of (placed places []) → new.sent ≡ placed more s → WritesNext p a number old new (Ok x)
    → (more ≡ places) × IsSpelled p a number (bits_of s)
spell_ok X x p a number places more s old new known blank sent w =
    let k = filled x w.0 places more s old new known blank sent w.2 in
    (k.0, subst (IsSpelled p a number) (sym k.1) w.1)

pub spell_err : (X : Type 0) (e : Why) (p : Cut) (a : Sound) (number places more : ℕ) (s : List ℕ) (old new : Written) → old.known ≡ true → old.bits ≡ bits_of (placed places []) → new.sent ≡ placed more s → (h : HasRoom p a places)
    → number < length h.frames → (1 ≤ new.errors → more < length s) → WritesNext {X = X} p a number old new (Err e) → ⊥
spell_err X e p a number places more s old new known blank sent h lt full w =
    let same = as_long (tried p number) a (frame_of p.block_size a number) w.0 _ w.1.least (h.are_least number lt) in
    never_full e w.0 places more s old new known blank sent (omega (arith, same, h.within number lt)) full w.2

-- ---- a place for each frame

-- the longest frame
pub room_of : (p : Cut) (a : Sound) (least greatest places : ℕ) (points : List SeekPoint) → AreCounted p a least greatest points → places ≡ greatest → HasRoom p a places
room_of p a least greatest places points e is = record { frames = e.frames; are = e.are; are_least = e.are_least; within = λ i lt. let w = e.sizes.within i lt in omega (arith, w.1, is) }
