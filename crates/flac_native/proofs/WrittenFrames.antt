-- Frames that are written one after another.
use Rattle.std.proofs.Common.{◌≡◌, ◌∙◌, refl, sym, ap, subst, ℕ, ◌+◌, ◌%◌, ◌<◌, arith, Bool, true, List, [], ◌∷◌, ◌++◌, append_assoc, length, length-append, drop, Result, Ok, Err, OnOk}
use Rattle.std.proofs.lemmas.List.{append-nil, length-drop}
use Rattle.flac_bits.specs.Forms.{joined}
use Rattle.flac_bits.specs.State.{Mark}
use Rattle.flac_bits.specs.Bits.{bits_of}
use Rattle.flac_bits.specs.Written.{Written, Adds, Writes, Fails}
use Rattle.flac_bits.specs.declared.why.Why.{Why}
use Rattle.flac_bits.proofs.ItemSpellings.{fresh_unread, after_whole}
use Rattle.flac_bits.proofs.Writing.{fails_later, fails_more}
use Rattle.flac_header.specs.Spelling.{restarted}
use Rattle.flac_meta.proofs.Tied.{joined_append}
use Rattle.flac_frame.specs.Audio.{Sound, samples_each}
use Rattle.flac_frame.specs.Spelling.{FrameForm, frame_spelling}
use Rattle.flac_frame.proofs.FrameTie.{frames_bytes}
use Rattle.flac_meta.specs.declared.seek_table.SeekPoint.{SeekPoint}
use Rattle.flac_native.specs.Given.{Cut, tried, blocks_in, frame_of}
use Rattle.flac_native.specs.Writing.{SpellsFrame, SpellsLeastByPlane, AreFrames, AreLeastFrames, AreCounted, IsSpelled}
use Rattle.flac_native.specs.inner.Writing.{HaveFrames, WritesOn, WritesAll, WritesFrames}
use Rattle.flac_native.proofs.Gathered.{nth, snoc, length-snoc, each_more}
use Rattle.flac_native.proofs.FixedBuffers.{unstarted}
use Rattle.flac_native.proofs.Spelled.{came_out, each_append, each_drop}

-- ---- one after another, whether the checks begin anew or not

pub on_none : (w : Written) → w.mark.unread ≡ 0 → WritesOn [] w w came_out
on_none w unread = record { failed = tt; known = λ k. k; counted = refl; names = refl; bits = λ _. sym (append-nil w.bits); whole = unread }

abbrev pub gave_out : Why → Result (Unit {0}) Why
gave_out e = Err e

-- bits of whole bytes
pub on_added : (text : List Bool) (old new : Written) → old.mark.unread ≡ 0 → length text % 8 ≡ 0 → Adds text old new → WritesOn text old new came_out
on_added text old new unread whole adds =
    record { failed = tt; known = adds.known; counted = adds.errors; names = adds.names; bits = adds.bits; whole = ap (λ (m : Mark). m.unread) adds.mark ∙ after_whole text old.mark unread whole }

pub on_failed : (text : List Bool) (old new : Written) (e : Why) → Fails (old.bits ++ text) old new e → WritesOn text old new (gave_out e)
on_failed text old new e fails = record { failed = fails; known = tt; counted = tt; names = fails.names; bits = tt; whole = tt }

-- a frame, whose checks begin anew
pub frame_added : (depth : ℕ) (f : FrameForm) (old new : Written) → old.mark.unread ≡ 0 → Adds (frame_spelling depth f) (restarted old) new → WritesOn (frame_spelling depth f) old new came_out
frame_added depth f old new unread adds =
    let w = on_added (frame_spelling depth f) (restarted old) new (fresh_unread old.mark unread) (frames_bytes depth f) adds in
    record { failed = tt; known = w.known; counted = w.counted; names = w.names; bits = w.bits; whole = w.whole }

pub frame_failed : (depth : ℕ) (f : FrameForm) (old new : Written) (e : Why) → Fails (old.bits ++ frame_spelling depth f) (restarted old) new e → WritesOn (frame_spelling depth f) old new (gave_out e)
frame_failed depth f old new e fails = on_failed (frame_spelling depth f) old new e (unstarted (old.bits ++ frame_spelling depth f) old new e fails)

-- bits that were written, and what came of the next
pub on_then : {a b : List Bool} {old mid new : Written} (r : Result (Unit {0}) Why) → WritesOn a old mid came_out → WritesOn b mid new r → WritesOn (a ++ b) old new r
on_then {a = a} {b = b} {old = old} (Ok y) p q = record {
  failed = tt;
  known = λ k. q.known (p.known k);
  counted = q.counted ∙ p.counted;
  names = q.names ∙ p.names;
  bits = λ k. q.bits (p.known k) ∙ ap (λ l. l ++ b) (p.bits k) ∙ append_assoc old.bits a b;
  whole = q.whole;
}
on_then {a = a} {b = b} {old = old} {mid = mid} (Err e) p q = record {
  failed = fails_later (old.bits ++ (a ++ b)) p.known p.counted p.names [] (λ k. sym (append_assoc old.bits a b) ∙ ap (λ l. l ++ b) (sym (p.bits k)) ∙ sym (append-nil (mid.bits ++ b))) q.failed;
  known = tt;
  counted = tt;
  names = q.names ∙ p.names;
  bits = tt;
  whole = tt;
}

-- bits that were not written whole, of more
pub on_fault : {a : List Bool} (b : List Bool) {old new : Written} {e : Why} → WritesOn a old new (gave_out e) → WritesOn (a ++ b) old new (gave_out e)
on_fault {a = a} b {old = old} {new = new} {e = e} p =
    record { failed = subst (λ k. Fails k old new e) (append_assoc old.bits a b) (fails_more b p.failed); known = tt; counted = tt; names = p.names; bits = tt; whole = tt }

-- what was written is then sent
pub on_sent : {text : List Bool} {old mid : Written} (new : Written) (r : Result (Unit {0}) Why) → WritesOn text old mid came_out → Writes [] mid new r → OnOk r (mid.known ≡ true → mid.mark.unread ≡ 0 → bits_of new.sent ≡ mid.bits)
    → WritesAll text old new r
on_sent {text = text} {old = old} {mid = mid} new (Ok y) w last sent = record {
  failed = tt;
  known = λ k. last.known (w.known k);
  counted = last.errors ∙ w.counted;
  names = last.names ∙ w.names;
  sent = λ k. sent (w.known k) w.whole ∙ w.bits k;
}
on_sent {text = text} {old = old} {mid = mid} new (Err e) w last sent = record {
  failed = fails_later (old.bits ++ text) w.known w.counted w.names [] (λ k. sym (w.bits k) ∙ sym (append-nil mid.bits) ∙ sym (append-nil (mid.bits ++ []))) last;
  known = tt;
  counted = tt;
  names = last.names ∙ w.names;
  sent = tt;
}

pub fault_sent : {text : List Bool} {old new : Written} {e : Why} → WritesOn text old new (gave_out e) → WritesAll text old new (gave_out e)
fault_sent w = record { failed = w.failed; known = tt; counted = tt; names = w.names; sent = tt }

-- ---- frames so far

pub have_frames : (p : Cut) (a : Sound) (least greatest : ℕ) (points : List SeekPoint) → AreCounted p a least greatest points → HaveFrames p a
have_frames p a least greatest points e = record { frames = e.frames; are = e.are; are_least = e.are_least }

-- n frames were written
pub record WrittenFrames (p : Cut) (a : Sound) (number : ℕ) (old now : Written) : Type 0 where
  pub frames : List (List Bool)
  pub many : length frames ≡ number
  pub each : (i : ℕ) → i < length frames → SpellsFrame a (frame_of p.block_size a i) (nth frames i)
  pub each_least : (i : ℕ) → i < length frames → SpellsLeastByPlane (tried p i) a (frame_of p.block_size a i) (nth frames i)
  pub wrote : WritesOn (joined frames) old now came_out

module _ (p : Cut) (a : Sound) where
  pub frames_none : (w : Written) → w.mark.unread ≡ 0 → WrittenFrames p a 0 w w
  frames_none w unread = record { frames = []; many = refl; each = λ i h. absurd (omega arith); each_least = λ i h. absurd (omega arith); wrote = on_none w unread }

  one_more : (frames : List (List Bool)) (t : List Bool) → joined frames ++ t ≡ joined (snoc frames t)
  one_more frames t = ap (λ k. joined frames ++ k) (sym (append-nil t)) ∙ joined_append frames (t ∷ [])

  pub frames_more : (number : ℕ) (old mid new : Written) (t : List Bool) → WrittenFrames p a number old mid → IsSpelled p a number t → WritesOn t mid new came_out → WrittenFrames p a (number + 1) old new
  frames_more number old mid new t s is wrote = record {
    frames = snoc s.frames t;
    many = omega (arith, length-snoc s.frames t, s.many);
    each = each_more (λ i k. SpellsFrame a (frame_of p.block_size a i) k) s.frames t s.each (subst (λ n. SpellsFrame a (frame_of p.block_size a n) t) (sym s.many) is.frame);
    each_least = each_more (λ i k. SpellsLeastByPlane (tried p i) a (frame_of p.block_size a i) k) s.frames t s.each_least (subst (λ n. SpellsLeastByPlane (tried p n) a (frame_of p.block_size a n) t) (sym s.many) is.least);
    wrote = subst (λ k. WritesOn k old new came_out) (one_more s.frames t) (on_then came_out s.wrote wrote);
  }

  -- the frames that were written, the one that was not written whole, and those after it
  pub frames_fail : (number : ℕ) (old mid new : Written) (t : List Bool) (e : Why) (others : List (List Bool)) → number < length others → AreFrames p a others → AreLeastFrames p a others → WrittenFrames p a number old mid
      → IsSpelled p a number t → WritesOn t mid new (gave_out e) → WritesFrames p a old new (gave_out e)
  frames_fail number old mid new t e others lt are least s is wrote =
      let front = snoc s.frames t in
      let rest = drop (number + 1) others in
      let long : length front ≡ number + 1 = omega (arith, length-snoc s.frames t, s.many) in
      let each_front = each_more (λ i k. SpellsFrame a (frame_of p.block_size a i) k) s.frames t s.each (subst (λ n. SpellsFrame a (frame_of p.block_size a n) t) (sym s.many) is.frame) in
      let least_front = each_more (λ i k. SpellsLeastByPlane (tried p i) a (frame_of p.block_size a i) k) s.frames t s.each_least (subst (λ n. SpellsLeastByPlane (tried p n) a (frame_of p.block_size a n) t) (sym s.many) is.least) in
      let each_rest = each_drop (λ i k. SpellsFrame a (frame_of p.block_size a i) k) (number + 1) others are.each in
      let least_rest = each_drop (λ i k. SpellsLeastByPlane (tried p i) a (frame_of p.block_size a i) k) (number + 1) others least in
      let stopped : WritesOn (joined s.frames ++ t) old new (gave_out e) = on_then (gave_out e) s.wrote wrote in
      let failed : WritesOn ((joined s.frames ++ t) ++ joined rest) old new (gave_out e) = on_fault (joined rest) stopped in (
        front ++ rest,
        record {
          many = omega (arith, length-append front rest, length-drop (number + 1) others, long, lt, are.many);
          each = each_append (λ i k. SpellsFrame a (frame_of p.block_size a i) k) front rest each_front (λ j h. subst (λ n. SpellsFrame a (frame_of p.block_size a (n + j)) (nth rest j)) (sym long) (each_rest j h));
        },
        each_append (λ i k. SpellsLeastByPlane (tried p i) a (frame_of p.block_size a i) k) front rest least_front (λ j h. subst (λ n. SpellsLeastByPlane (tried p (n + j)) a (frame_of p.block_size a (n + j)) (nth rest j)) (sym long) (least_rest j h)),
        subst (λ k. WritesOn k old new (gave_out e)) (ap (λ k. k ++ joined rest) (one_more s.frames t) ∙ joined_append front rest) failed,
      )

  pub frames_all : (number : ℕ) (old new : Written) → WrittenFrames p a number old new → number ≡ blocks_in p.block_size (samples_each a.channels) → WritesFrames p a old new came_out
  frames_all number old new s all = (s.frames, record { many = s.many ∙ all; each = s.each }, s.each_least, s.wrote)
