-- Frames that are read one after another, and their bytes.
use Rattle.std.proofs.Common.{None, ◌≡◌, ℕ, Bool, true, false, List, [], ◌∷◌, ◌++◌, take, drop, map, refl, sym, ap, subst, ◌∙◌}
use Rattle.std.proofs.lemmas.List.{take-append-le, drop-append-le, take-append-drop}
use Rattle.flac_bits.specs.Bits.{bits_of}
use Rattle.flac_bits.specs.State.{short_of}
use Rattle.flac_bits.specs.declared.source.Source as source
use Rattle.flac_bits.specs.declared.why.Why.{Why}
use Rattle.flac_bits.specs.declared.why.Why.TheVariants.{Truncated}
use Rattle.flac_bits.proofs.Fences.{spells_short}
use Rattle.flac_frame.specs.Frame.{Frame}
use Rattle.flac_native.specs.Decoding.{beginning}
use Rattle.flac_native.specs.Stream.{Stand, frame_after}
use Rattle.flac_native.specs.declared.track.Track.{Track}
use Rattle.flac_pages.specs.Packets.{Place}
use Rattle.flac_pages.specs.Given.{Takes}
use Rattle.flac_copy.specs.Again.{all_of, SaysOver}
use Rattle.flac_copy.specs.Frames.{Copied, IsFrameOf, GivesFrame}
use Rattle.flac_copy.specs.Inputs.{Gives, IsOver, HasFrames, IsGiven, NextNative, NextInOgg, NextFrame}
use Rattle.flac_copy.specs.declared.again.Again.{Again}
use Rattle.flac_copy.specs.declared.input.Input.{Input}
use Rattle.flac_copy.specs.declared.input.Input.TheVariants.{Native, Ogg}

abbrev Given : {S : Type 0} → source.Ghosts S → Stand → Frame → (old new : Again S) → List ℕ → Type 0
Given g s f old new bytes = old.fault ≡ None → g.known old.source ≡ true → IsGiven g s f old new bytes

-- whatever the reason if bits run short
truncated : (short : Why) (s : Stand) (bytes : List ℕ) (f : Frame) → IsFrameOf short s bytes f → IsFrameOf Truncated s bytes f
truncated short s bytes f h = record { spelled = spells_short (frame_after s.profile s.info s.before) Truncated (beginning short) (bits_of bytes) f h.spelled; room = h.room }

-- the bytes of a frame were held, taken, and dropped
pub native_given : {S : Type 0} (g : source.Ghosts S) (s : Stand) (f : Frame) (a0 a1 a2 : Again S) (n : ℕ) (bytes : List ℕ) → GivesFrame g s f a0 a1 n → a2.held.items ≡ drop n a1.held.items → a2.source ≡ a1.source → a2.fault ≡ a1.fault → bytes ≡ take n a1.held.items
    → Given g s f a0 a2 bytes
native_given g s f a0 a1 a2 n bytes gives dropped source_is fault_is bytes_are calm known =
    let few = gives.0 in
    let first = gives.1 calm known in
    let held = first.holds in
    let all : all_of g.coming a1 ≡ all_of g.coming a0 = held.all known in
    let left : all_of g.coming a2 ≡ drop n (all_of g.coming a0) =
    ap (λ b. b ++ g.coming a2.source) dropped ∙ ap (λ r. drop n a1.held.items ++ g.coming r) source_is ∙ sym (drop-append-le n a1.held.items (g.coming a1.source) few) ∙ ap (drop n) all in
    let front : bytes ≡ take n (all_of g.coming a0) = bytes_are ∙ sym (take-append-le n a1.held.items (g.coming a1.source) few) ∙ ap (take n) all in
    record {
      split = sym (take-append-drop n (all_of g.coming a0)) ∙ ap (λ b. b ++ drop n (all_of g.coming a0)) (sym front) ∙ ap (λ b. bytes ++ b) (sym left);
      fault = fault_is ∙ held.fault;
      known = ap g.known source_is ∙ held.known known;
      is = truncated (short_of ((g.after a0.source).fails)) s bytes f (subst (λ (b : List ℕ). IsFrameOf (short_of ((g.after a0.source).fails)) s b f) (sym front) first.is);
    }

-- some bytes were left before
pub native_next : {S : Type 0} (g : source.Ghosts S) (s : Stand) (f : Frame) (a0 r a1 a2 : Again S) (over : Bool) (bytes : List ℕ) → r ≡ record a0 { given = 0 } → SaysOver g r a1 over → Given g s f a1 a2 bytes → Given g s f a0 a2 bytes
native_next g s f a0 r a1 a2 over bytes is says gives calm known =
    let held = (subst (λ k. SaysOver g k a1 over) is says).0 in
    let one = gives held.fault (held.known known) in
    record { split = sym (held.all known) ∙ one.split; fault = one.fault; known = one.known; is = one.is }

-- none was left
pub native_over : {S : Type 0} (g : source.Ghosts S) (a0 r a1 : Again S) (over : Bool) → r ≡ record a0 { given = 0 } → SaysOver g r a1 over → over ≡ true → g.known a0.source ≡ true → all_of g.coming a0 ≡ []
native_over g a0 r a1 over is says ended known = (subst (λ k. SaysOver g k a1 over) is says).2 ended known

-- ---- of either container

pub from_native : {S : Type 0} (g : source.Ghosts S) (t0 t1 : Track) (a b : Again S) (bytes : List ℕ) (more : Bool) → NextNative g t0 t1 a b bytes more → NextFrame g t0 t1 (Native a) (Native b) bytes more
from_native g t0 t1 a b bytes true h = (h.0, λ known. let one = h.1 known.0 known.1 in record { gives = one.split; known = (one.fault, one.known); is = one.is })
from_native g t0 t1 a b bytes false h = (h.0, λ known. h.1 known.0 known.1)

pub from_ogg : {S : Type 0} (g : source.Ghosts S) (t0 t1 : Track) (p q : Place) (bytes : List ℕ) (more : Bool) → NextInOgg t0 t1 p q bytes more → NextFrame g t0 t1 (Ogg p) (Ogg q) bytes more
from_ogg g t0 t1 p q bytes true h = (h.0, λ known. let one = h.1 known in record { gives = one; known = one.known; is = h.2 })
from_ogg g t0 t1 p q bytes false h = (h.0, λ known. h.1 known)

-- ---- what is left

-- a packet was taken, and then others
pub takes_then : (p q r : Place) (packet : List ℕ) (packets : List (List ℕ)) → Takes p (packet ∷ []) q → Takes q packets r → Takes p (packet ∷ packets) r
takes_then p q r packet packets (b, n, begins, rest, ended, after, same) more = (b, n, begins, rest, ended, after, subst (λ k. Takes k packets r) (sym same) more)

-- the bytes of a frame were given, and then those of the others
pub gives_more : {S : Type 0} (g : source.Ghosts S) (a b : Input S) (bytes : List ℕ) (f : Frame) (frames : List Copied) → Gives g a bytes b → HasFrames g b frames → HasFrames g a (record { bytes = bytes; frame = f } ∷ frames)
gives_more g (Native a) (Native b) bytes f frames gives has = gives ∙ ap (λ l. bytes ++ l) has
gives_more g (Ogg p) (Ogg q) bytes f frames one end = record {
  packets = one.packet ∷ end.packets;
  bits = ap (λ x. x ∷ map bits_of end.packets) one.bits ∙ ap (λ xs. bits_of bytes ∷ xs) end.bits;
  last = end.last;
  taken = takes_then p q end.last one.packet end.packets one.taken end.taken;
  ends = end.ends;
}
gives_more g (Native a) (Ogg q) bytes f frames gives has = absurd gives
gives_more g (Ogg p) (Native b) bytes f frames gives has = absurd gives

-- nothing is left
pub over_has : {S : Type 0} (g : source.Ghosts S) (a : Input S) → IsOver g a → HasFrames g a []
over_has g (Native a) over = over
over_has g (Ogg p) over = record { packets = []; bits = refl; last = p; taken = refl; ends = over }
