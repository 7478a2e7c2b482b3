-- A frame begins with the sync code.
use Rattle.std.proofs.Common.{◌≡◌, ℕ, ◌+◌, ◌-◌, ◌/◌, ◌%◌, ◌<◌, ◌≤◌, Bool, true, false, None, List, [], ◌∷◌, ◌++◌, length, drop, get_or, refl, sym, ap, subst, ◌∙◌, append_assoc, length-append, arith}
use Rattle.std.specs.Int.{bit_at}
use Rattle.std.specs.Prelude.{nat_eq}
use Rattle.std.proofs.lemmas.Bool.Decides.{nat_tests}
use Rattle.flac_bits.specs.Bits.{bits_of, unsigned}
use Rattle.flac_bits.specs.declared.why.Why.TheVariants.{Truncated}
use Rattle.flac_bits.specs.Check.{remainder}
use Rattle.flac_bits.specs.Forms.{joined}
use Rattle.flac_bits.specs.Coded.{number_spelling}
use Rattle.flac_bits.proofs.Holding.{length-bits_of}
use Rattle.flac_bits.specs.Bits.{bit_value}
use Rattle.flac_bits.proofs.Codes.{byte_step}
use Rattle.std.proofs.lemmas.List.{length-drop}
use Rattle.std.proofs.lemmas.Nat.Bits.{bit_at-lt}
use Rattle.flac_info.specs.Info.{Info, KeepsRules}
use Rattle.flac_header.specs.Header.{Header}
use Rattle.flac_header.specs.Spelling.{header_spelling, header_parts, header_front, size_spelling, rate_spelling}
use Rattle.flac_header.specs.declared.subset.Profile.{Profile}
use Rattle.flac_frame.specs.Frame.{Frame}
use Rattle.flac_frame.specs.Spelling.{FrameForm, frame_spelling, subframes_spelling, filled}
use Rattle.flac_frame.proofs.FrameTie.{frames_spelled}
use Rattle.flac_native.specs.Decoding.{beginning}
use Rattle.flac_salvage.specs.Standing.{Stands, NoneAt}
use Rattle.flac_native.specs.FrameAt.{IsFrameAt}
use Rattle.flac_salvage.specs.inner.Syncs.{IsSync}

-- the first bits of a header
record Begins (text : List Bool) : Type 0 where
  rest : List Bool
  is : text ≡ unsigned 15 0x7FFC ++ rest

more : (text after : List Bool) → Begins text → Begins (text ++ after)
more text after b = record { rest = b.rest ++ after; is = ap (λ (t : List Bool). t ++ after) b.is ∙ append_assoc (unsigned 15 0x7FFC) b.rest after }

parts_begin : (h : Header) → Begins (joined (header_parts h))
unfolding header_parts
parts_begin h = record {
  rest = joined (unsigned 1 (bit_value h.variable) ∷ unsigned 4 h.size_code ∷ unsigned 4 h.rate_code ∷ unsigned 4 h.channel_code ∷ unsigned 3 h.depth_code ∷ unsigned 1 0 ∷ number_spelling h.number ∷ size_spelling h.size_code h.size ∷ rate_spelling h.rate_code h.rate ∷ []);
  is = refl;
}

header_begins : (h : Header) → Begins (header_spelling h)
header_begins h = more (header_front h) (unsigned 8 (remainder 8 7 (header_front h))) (parts_begin h)

form_begins : (depth : ℕ) (f : FrameForm) → Begins (frame_spelling depth f)
unfolding frame_spelling
form_begins depth f =
    let body : List Bool = header_spelling f.header ++ subframes_spelling depth f.header.channel_code 0 f.subframes in
    let inner : Begins body = more (header_spelling f.header) (subframes_spelling depth f.header.channel_code 0 f.subframes) (header_begins f.header) in
    let full : Begins (filled body) = more body (unsigned ((8 - length body % 8) % 8) 0) inner in
    more (filled body) (unsigned 16 (remainder 16 32773 (filled body))) full

frame_begins : (profile : Profile) (i : Info) (bytes : List ℕ) (f : Frame) (n : ℕ) → KeepsRules i → IsFrameAt profile i bytes f n → Begins (bits_of bytes)
frame_begins profile i bytes f n rules at =
    let s = (frames_spelled profile i None (beginning Truncated) at.text f rules refl refl refl).0 at.spelled in
    let b : Begins at.text = subst (λ (t : List Bool). Begins t) (sym s.spelling) (form_begins i.depth s.form) in
    subst (λ (t : List Bool). Begins t) (sym at.split) (more at.text (bits_of (drop n bytes)) b)

-- ---- and so do its bytes

one_bit : (x k : ℕ) → nat_eq (bit_at x k) 1 ≡ true → bit_at x k ≡ 1
one_bit x k e = grind (arith, nat_tests)

not_one : (v : ℕ) → v < 2 → nat_eq v 1 ≡ false → v ≡ 0
not_one v small e = grind (arith, nat_tests)

no_bit : (x k : ℕ) → nat_eq (bit_at x k) 1 ≡ false → bit_at x k ≡ 0
no_bit x k e = not_one (bit_at x k) (bit_at-lt x k) e

record Bits (x y : ℕ) : Type 0 where
  a7 : nat_eq (bit_at x 7) 1 ≡ true
  a6 : nat_eq (bit_at x 6) 1 ≡ true
  a5 : nat_eq (bit_at x 5) 1 ≡ true
  a4 : nat_eq (bit_at x 4) 1 ≡ true
  a3 : nat_eq (bit_at x 3) 1 ≡ true
  a2 : nat_eq (bit_at x 2) 1 ≡ true
  a1 : nat_eq (bit_at x 1) 1 ≡ true
  a0 : nat_eq (bit_at x 0) 1 ≡ true
  b7 : nat_eq (bit_at y 7) 1 ≡ true
  b6 : nat_eq (bit_at y 6) 1 ≡ true
  b5 : nat_eq (bit_at y 5) 1 ≡ true
  b4 : nat_eq (bit_at y 4) 1 ≡ true
  b3 : nat_eq (bit_at y 3) 1 ≡ true
  b2 : nat_eq (bit_at y 2) 1 ≡ false
  b1 : nat_eq (bit_at y 1) 1 ≡ false

bits_here : (x y : ℕ) (bytes : List ℕ) (rest : List Bool) → unsigned 8 x ++ (unsigned 8 y ++ bits_of bytes) ≡ unsigned 15 0x7FFC ++ rest → Bits x y
bits_here x y bytes rest e = record { a7 = cc; a6 = cc; a5 = cc; a4 = cc; a3 = cc; a2 = cc; a1 = cc; a0 = cc; b7 = cc; b6 = cc; b5 = cc; b4 = cc; b3 = cc; b2 = cc; b1 = cc }

first_is : (x y : ℕ) → x < 256 → Bits x y → x ≡ 255
first_is x y small b =
    let a7 : x / 128 % 2 ≡ 1 = one_bit x 7 b.a7 in
    let a6 : x / 64 % 2 ≡ 1 = one_bit x 6 b.a6 in
    let a5 : x / 32 % 2 ≡ 1 = one_bit x 5 b.a5 in
    let a4 : x / 16 % 2 ≡ 1 = one_bit x 4 b.a4 in
    let a3 : x / 8 % 2 ≡ 1 = one_bit x 3 b.a3 in
    let a2 : x / 4 % 2 ≡ 1 = one_bit x 2 b.a2 in
    let a1 : x / 2 % 2 ≡ 1 = one_bit x 1 b.a1 in
    let a0 : x / 1 % 2 ≡ 1 = one_bit x 0 b.a0 in
    bits_eight x small a7 a6 a5 a4 a3 a2 a1 a0
  where
    bits_eight : (x : ℕ) → x < 256 → x / 128 % 2 ≡ 1 → x / 64 % 2 ≡ 1 → x / 32 % 2 ≡ 1 → x / 16 % 2 ≡ 1 → x / 8 % 2 ≡ 1 → x / 4 % 2 ≡ 1 → x / 2 % 2 ≡ 1 → x / 1 % 2 ≡ 1 → x ≡ 255
    bits_eight x small a7 a6 a5 a4 a3 a2 a1 a0 =
        let h7 : 128 ≤ x = omega (arith, small, a7) in
        let h6 : 192 ≤ x = omega (arith, small, h7, a6) in
        let h5 : 224 ≤ x = omega (arith, small, h6, a5) in
        let h4 : 240 ≤ x = omega (arith, small, h5, a4) in
        let h3 : 248 ≤ x = omega (arith, small, h4, a3) in
        let h2 : 252 ≤ x = omega (arith, small, h3, a2) in
        let h1 : 254 ≤ x = omega (arith, small, h2, a1) in
        omega (arith, small, h1, a0)

second_least : (x y : ℕ) → y < 256 → Bits x y → 248 ≤ y
second_least x y small b =
    let a7 : y / 128 % 2 ≡ 1 = one_bit y 7 b.b7 in
    let a6 : y / 64 % 2 ≡ 1 = one_bit y 6 b.b6 in
    let a5 : y / 32 % 2 ≡ 1 = one_bit y 5 b.b5 in
    let a4 : y / 16 % 2 ≡ 1 = one_bit y 4 b.b4 in
    let a3 : y / 8 % 2 ≡ 1 = one_bit y 3 b.b3 in
    bits_five y small a7 a6 a5 a4 a3
  where
    bits_five : (x : ℕ) → x < 256 → x / 128 % 2 ≡ 1 → x / 64 % 2 ≡ 1 → x / 32 % 2 ≡ 1 → x / 16 % 2 ≡ 1 → x / 8 % 2 ≡ 1 → 248 ≤ x
    bits_five x small a7 a6 a5 a4 a3 =
        let h7 : 128 ≤ x = omega (arith, small, a7) in
        let h6 : 192 ≤ x = omega (arith, small, h7, a6) in
        let h5 : 224 ≤ x = omega (arith, small, h6, a5) in
        let h4 : 240 ≤ x = omega (arith, small, h5, a4) in
        omega (arith, small, h4, a3)

second_most : (x y : ℕ) → y < 256 → Bits x y → y ≤ 249
second_most x y small b =
    let least : 248 ≤ y = second_least x y small b in
    let a2 : y / 4 % 2 ≡ 0 = no_bit y 2 b.b2 in
    let a1 : y / 2 % 2 ≡ 0 = no_bit y 1 b.b1 in
    low y small least a2 a1
  where
    low : (y : ℕ) → y < 256 → 248 ≤ y → y / 4 % 2 ≡ 0 → y / 2 % 2 ≡ 0 → y ≤ 249
    low y small least a2 a1 =
        let h : y ≤ 251 = omega (arith, small, least, a2) in
        omega (arith, h, least, a1)

-- ---- an offset

two_bytes : (bytes : List ℕ) (at : ℕ) → Begins (bits_of (drop at bytes)) → at + 1 < length bytes
two_bytes bytes at b =
    let long : length (bits_of (drop at bytes)) ≡ 15 + length b.rest = ap (λ (l : List Bool). length l) b.is ∙ length-append (unsigned 15 0x7FFC) b.rest in
    omega (arith, long, length-bits_of (drop at bytes), length-drop at bytes)

pub sync_at : (profile : Profile) (i : Info) (bytes : List ℕ) (at : ℕ) (f : Frame) (n : ℕ) → KeepsRules i → get_or bytes at 0 < 256 → get_or bytes (at + 1) 0 < 256 → Stands profile i bytes at f n → IsSync bytes at
sync_at profile i bytes at f n rules first second there =
    let b = frame_begins profile i (drop at bytes) f n rules there in
    let some : at + 1 < length bytes = two_bytes bytes at b in
    let split : bits_of (drop at bytes) ≡ unsigned 8 (get_or bytes at 0) ++ (unsigned 8 (get_or bytes (at + 1) 0) ++ bits_of (drop (at + 1 + 1) bytes)) =
    byte_step bytes at (omega (arith, some)) ∙ ap (λ l. unsigned 8 (get_or bytes at 0) ++ l) (byte_step bytes (at + 1) some) in
    let bits = bits_here (get_or bytes at 0) (get_or bytes (at + 1) 0) (drop (at + 1 + 1) bytes) b.rest (sym split ∙ b.is) in
    record { some = some; first = first_is (get_or bytes at 0) (get_or bytes (at + 1) 0) first bits; least = second_least (get_or bytes at 0) (get_or bytes (at + 1) 0) second bits; most = second_most (get_or bytes at 0) (get_or bytes (at + 1) 0) second bits }

-- without the sync code none is there
pub no_sync : (profile : Profile) (i : Info) (bytes : List ℕ) (at : ℕ) → KeepsRules i → get_or bytes at 0 < 256 → get_or bytes (at + 1) 0 < 256 → (IsSync bytes at → ⊥) → NoneAt profile i bytes at
no_sync profile i bytes at rules first second none = λ f n there. none (sync_at profile i bytes at f n rules first second there)
