-- A frame that was read, and its bytes.
use Rattle.std.proofs.Common.{◌≡◌, ℕ, ◌+◌, ◌-◌, ◌*◌, ◌/◌, ◌%◌, ◌^◌, ◌≤◌, min, Bool, true, false, not, ◌&&◌, cond, List, [], ◌∷◌, ◌++◌, length, length-append, take, drop, Option, Some, None, is_some, refl, sym, ap, subst, ◌∙◌, add-zero, arith}
use Rattle.std.proofs.lemmas.List.{take_at, length-take-le, append-nil}
use Rattle.std.proofs.lemmas.Bool.{and_from}
use Rattle.std.specs.Borrow.{GName}
use Rattle.flac_bits.specs.Bits.{bits_of}
use Rattle.flac_bits.specs.State.{State, After, past, without_fence, short_of}
use Rattle.flac_bits.specs.Meaning.{Spells}
use Rattle.flac_bits.specs.declared.source.Source as source
use Rattle.flac_bits.specs.declared.why.Why.{Why}
use Rattle.flac_bits.proofs.Fencing.{take_bits}
use Rattle.flac_bits.proofs.Holding.{length-bits_of}
use Rattle.flac_bits.proofs.Marks.{past-unread, past-bytes}
use Rattle.flac_frame.specs.Frame.{Frame}
use Rattle.flac_native.specs.Decoding.{beginning}
use Rattle.flac_native.specs.Stream.{Stand, frame_after}
use Rattle.flac_copy.specs.Again.{errors_of, raised_of, failed, known_of, all_of, after_of, Holds}
use Rattle.flac_copy.specs.Frames.{TakesFrame, PassesFrame}
use Rattle.flac_copy.specs.declared.again.Again.{Again}

-- ---- the bytes of a text

-- a text that ends at a whole byte is the first n bytes, of which so many were counted
pub record FrontBytes (all : List ℕ) (text : List Bool) (n : ℕ) : Type 0 where
  pub text_is : text ≡ bits_of (take n all)
  pub few : n ≤ length all
  pub room : length (take n all) ≤ 16777215

pub front_bytes : (all : List ℕ) (text left : List Bool) (n : ℕ) (short : Why) → bits_of all ≡ text ++ left → length text ≤ 0 + 8 * 16777215
    → n ≡ (past text (beginning short)).bytes → (past text (beginning short)).unread ≡ 0 → FrontBytes all text n
front_bytes all text left n short split room count whole =
    let unread : (past text (beginning short)).unread ≡ (0 + 7 * length text) % 8 = past-unread text 0 (beginning short) refl (omega arith) in
    let bytes : (past text (beginning short)).bytes ≡ min (0 + (length text + 7 - 0) / 8) (2 ^ 64 - 1) = past-bytes text 0 0 (beginning short) refl (omega arith) refl (omega arith) in
    let eights : (7 * length text) % 8 ≡ 0 = omega (arith, unread, whole) in
    let even : length text % 8 ≡ 0 = omega (arith, eights) in
    let long : length text ≡ 8 * n = omega (arith, bytes, count, even, room) in
    let total : 8 * length all ≡ length text + length left = sym (length-bits_of all) ∙ ap (λ (l : List Bool). length l) split ∙ length-append text left in
    let few : n ≤ length all = omega (arith, long, total) in
    record {
      text_is = sym (take_at text left (8 * n) long) ∙ ap (λ t. take (8 * n) t) (sym split) ∙ take_bits n all;
      few = few;
      room = omega (arith, length-take-le n all few, long, room);
    }

-- the names after the first
tails : List GName → List GName
tails [] = []
tails (x ∷ xs) = xs

pub tail_is : (x y : GName) (xs ys : List GName) → (x ∷ xs) ≡ (y ∷ ys) → xs ≡ ys
unfolding tails
tail_is x y xs ys e = ap tails e

-- ---- counts without a fault

no_error : (n : ℕ) (o : Option Why) → o ≡ None → n + cond (is_some o) 1 0 ≡ n
no_error n None e = add-zero n
no_error n (Some w) e = absurd cc

none_failed : (n : ℕ) (o : Option Why) → o ≡ None → n + failed o ≡ n
none_failed n None e = add-zero n
none_failed n (Some w) e = absurd cc

-- what is known is known, and had no fault
both : (b : Bool) (o : Option Why) → (b && not (is_some o)) ≡ true → (b ≡ true) × (o ≡ None)
both true None e = (refl, refl)
both true (Some w) e = absurd cc
both false o e = absurd cc

pub calm_is : (o : Option Why) → o ≡ None → not (is_some o) ≡ true
calm_is None e = refl
calm_is (Some w) e = absurd cc

-- ---- a frame that was read from a source whose bytes come again

-- a reader that was just made over it
abbrev pub reader_over : {S : Type 0} → source.Ghosts S → Again S → (most : ℕ) → List GName → State
reader_over g a most names = record {
  known = known_of g.known a;
  errors = errors_of g.errors a;
  raised = raised_of g.raised a;
  after = without_fence (after_of g.coming g.after a);
  most = most;
  held = 0;
  names = names;
  cursor = record { left = bits_of (drop a.given a.held.items ++ g.coming a.source); mark = record { unread = 0; bytes = 0; check8 = 0; check16 = 0; short = short_of ((after_of g.coming g.after a).fails) } };
}

-- the source is got back from the reader
pub record GotBack {S : Type 0} (g : source.Ghosts S) (new : Again S) (end : State) : Type 0 where
  pub told : end.known ≡ true → known_of g.known new ≡ true
  pub errors : errors_of g.errors new ≡ end.errors
  pub raised : raised_of g.raised new ≡ end.raised
  pub after : without_fence (after_of g.coming g.after new) ≡ without_fence end.after

-- what is held of a source whose bytes are known, after a reader over it that met no error
pub holds_of : {S : Type 0} (g : source.Ghosts S) (old new : Again S) (end : State) → g.names new.source ≡ g.names old.source → (known_of g.known old ≡ true → end.known ≡ true) → end.errors ≡ errors_of g.errors old → end.raised ≡ raised_of g.raised old
    → (known_of g.known old ≡ true → end.after ≡ without_fence (after_of g.coming g.after old)) → GotBack g new end → old.fault ≡ None → g.known old.source ≡ true → Holds g old new
holds_of g old new end same known_end errors_end raised_end after_end back calm known =
    let known_is : known_of g.known old ≡ true = and_from (g.known old.source) (not (is_some old.fault)) known (calm_is old.fault calm) in
    let now = both (g.known new.source) new.fault (back.told (known_end known_is)) in
    let after : without_fence (after_of g.coming g.after new) ≡ without_fence (after_of g.coming g.after old) = back.after ∙ ap without_fence (after_end known_is) in
    record {
      all = λ k. ap (λ (a : After). a.bytes) after;
      known = λ k. now.0;
      fails = λ k. ap (λ (a : After). a.fails) after;
      errors = sym (no_error (g.errors new.source) new.fault now.1) ∙ back.errors ∙ errors_end ∙ no_error (g.errors old.source) old.fault calm;
      raised = sym (none_failed (g.raised new.source) new.fault now.1) ∙ back.raised ∙ raised_end ∙ none_failed (g.raised old.source) old.fault calm;
      calm = calm;
      fault = now.1;
      names = same;
    }

pub passed : {S : Type 0} (g : source.Ghosts S) (s : Stand) (f : Frame) (old new : Again S) (most n : ℕ) (names : List GName) (end : State)
    → old.given ≡ 0 → g.names new.source ≡ g.names old.source → TakesFrame s f (reader_over g old most names) end n → GotBack g new end → PassesFrame g s f old new n
passed g s f old new most n names end given same t back calm known =
    let known_is : known_of g.known old ≡ true = and_from (g.known old.source) (not (is_some old.fault)) known (calm_is old.fault calm) in
    let text = t.taken known_is in
    let short = short_of ((g.after old.source).fails) in
    let left : List Bool = end.cursor.left in
    let start : bits_of (drop 0 old.held.items ++ g.coming old.source) ++ [] ≡ text.text ++ left = subst (λ k. bits_of (drop k old.held.items ++ g.coming old.source) ++ [] ≡ text.text ++ left) given text.split in
    let split : bits_of (all_of g.coming old) ≡ text.text ++ left = sym (append-nil (bits_of (all_of g.coming old))) ∙ start in
    let front = front_bytes (all_of g.coming old) text.text left n short split text.room text.count text.whole in
    record {
      holds = holds_of g old new end same t.known t.errors t.raised t.after back calm known;
      few = front.few;
      is = record {
        spelled = subst (λ (b : List Bool). Spells (frame_after s.profile s.info s.before) (beginning short) b f) front.text_is text.spelled;
        room = front.room;
      };
    }
