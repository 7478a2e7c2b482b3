-- A frame of the streamable subset is a frame without the subset's limits.
use Rattle.std.proofs.Common.{◌≡◌, ℕ, ◌+◌, ◌-◌, ◌≤◌, Bool, true, false, not, cond, ◌&&◌, nat_eq, nat_le, List, [], ◌∷◌, length, Option, refl, arith}
use Rattle.std.proofs.lemmas.Bool.{not-false}
use Rattle.flac_bits.specs.State.{Mark}
use Rattle.flac_bits.specs.Meaning.{Spells, AllKept}
use Rattle.flac_info.specs.Info.{Info, KeepsRules}
use Rattle.flac_header.specs.Header.{Header, allowed, greatest_block}
use Rattle.flac_header.specs.declared.subset.Profile.TheVariants.{Subset, Lax}
use Rattle.flac_subframe.specs.format.Residual.{Residual}
use Rattle.flac_subframe.specs.format.Spelling.{MayLeave, MayHold}
use Rattle.flac_subframe.specs.format.Subframe.{Form, Content, Constant, Verbatim, Fixed, Linear}
use Rattle.flac_frame.specs.Frame.{Frame, frame, header_rules, differs, limits_at, side_bit}
use Rattle.flac_frame.specs.Spelling.{AreSubframes, IsSpelled}
use Rattle.flac_frame.specs.declared.before.Before.{Before}
use Rattle.flac_frame.proofs.FrameTie.{frames_spelled}

-- ---- subframes

within : (b : Bool) (n : ℕ) → n ≤ cond b 12 32 → n ≤ 32
within true n h = omega (arith, h)
within false n h = h

leaves : (order block : ℕ) (r : Residual) → MayLeave 8 order block r → MayLeave 15 order block r
leaves order block r m = record { method = m.method; field = m.field; allowed = omega (arith, m.allowed); halves = m.halves; many = m.many; each = m.each }

holds : (depth block rate : ℕ) (c : Content) → MayHold depth block (limits_at Subset rate) c → MayHold depth block (limits_at Lax rate) c
holds depth block rate (Constant sample) h = h
holds depth block rate (Verbatim samples) h = h
holds depth block rate (Fixed warm_up rest) (few, short, are, left) = (few, short, are, leaves (length warm_up) block rest left)
holds depth block rate (Linear warm_up chosen rest) (some, few, short, are, predicts, left) =
    (some, within (nat_le rate 48000) (length warm_up) few, short, are, predicts, leaves (length warm_up) block rest left)

each_holds : (depth code block rate channel : ℕ) (fs : List Form) → AreSubframes depth code block (limits_at Subset rate) channel fs → AreSubframes depth code block (limits_at Lax rate) channel fs
each_holds depth code block rate channel [] are = tt
each_holds depth code block rate channel (f ∷ fs) (is, are) =
    (record { left = is.left; content = holds (depth + side_bit code channel - f.wasted) block rate f.content is.content }, each_holds depth code block rate (channel + 1) fs are)

-- ---- the rules of a header

stated : (a b c : Bool) → (not a && not b && c) ≡ true → (a ≡ false) × (b ≡ false)
stated false false c e = (refl, refl)
stated false true c e = absurd cc
stated true b c e = absurd cc

-- a header that states rate and depth says the same with and without the subset
rules : (info : Info) (before : Option Before) (h : Header) → AllKept (header_rules Subset info before h) → AllKept (header_rules Lax info before h)
unfolding allowed
rules info before h kept =
    let codes = stated (nat_eq h.rate_code 0) (nat_eq h.depth_code 0) (nat_le h.size (greatest_block h.rate)) (not-false _ kept.0) in
    let same : differs Lax info h ≡ false = rw (codes.0, codes.1) kept.1.0 in
    (refl, (same, kept.1.1))

-- ---- a frame

in_lax : (info : Info) (before : Option Before) (x : Frame) (text : List Bool) → IsSpelled Subset info before x text → IsSpelled Lax info before x text
in_lax info before x text s =
    let v = s.valid in
    let h = s.form.header in
    record {
      form = s.form;
      valid = record { header = v.header; follows = rules info before h v.follows; many = v.many; subframes = each_holds info.depth h.channel_code h.size info.rate 0 s.form.subframes v.subframes };
      spelling = s.spelling;
      frame = s.frame;
      samples = s.samples;
    }

pub frame_in_lax : (info : Info) (before : Option Before) (m : Mark) (text : List Bool) (x : Frame) → KeepsRules info → m.unread ≡ 0 → m.check8 ≡ 0 → m.check16 ≡ 0
    → Spells (frame Subset info before) m text x → Spells (frame Lax info before) m text x
frame_in_lax info before m text x keeps whole begun8 begun16 h =
    (frames_spelled Lax info before m text x keeps whole begun8 begun16).1 (in_lax info before x text ((frames_spelled Subset info before m text x keeps whole begun8 begun16).0 h))
