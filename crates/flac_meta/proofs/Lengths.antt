-- How long contents are.
use Rattle.std.proofs.Common.{◌≡◌, ℕ, ◌+◌, ◌*◌, ◌<◌, ◌≤◌, ◌^◌, Bool, true, false, cond, nat_lt, nat_eq, ◌||◌, Some, None, List, [], ◌∷◌, length, min, drop, get_or, refl, sym, ap, ◌∙◌, arith}
use Rattle.std.proofs.lemmas.List.{at_drop_more, drop_more}
use Rattle.std.proofs.lemmas.Bool.Decides.{nat_tests}
use Rattle.flac_bits.specs.declared.why.Why.{Why}
use Rattle.flac_meta.specs.Spelling.{texts_length, tracks_length, length_of, kind_of}
use Rattle.flac_meta.specs.Listed.{overflows, is_forbidden, is_out_of_order, has_bad_sheet, block_fault}
use Rattle.flac_meta.specs.declared.block.Block.{Block}
use Rattle.flac_meta.specs.declared.block.Block.TheVariants as block_of
use Rattle.flac_meta.specs.declared.cue_sheet.CueTrack.{CueTrack}

-- each text has at least the 4 bytes of its length
pub texts_many : (texts : List (List ℕ)) → 4 * length texts ≤ texts_length texts
texts_many [] = omega arith
texts_many (text ∷ texts) = let h = texts_many texts in omega (arith, h)

-- the text at an index and those after it
pub texts_step : (texts : List (List ℕ)) (i : ℕ) (text : List ℕ) → i < length texts → text ≡ get_or texts i text → texts_length (drop i texts) ≡ 4 + length text + texts_length (drop (i + 1) texts)
texts_step texts i text lt is = at_drop_more texts_length texts i text lt ∙ ap (λ t. 4 + length t + texts_length (drop (i + 1) texts)) (sym is)

or_false : (a b : Bool) → (a || b) ≡ false → (a ≡ false) × (b ≡ false)
or_false true b h = absurd cc
or_false false b h = (refl, h)

few_enough : (n : ℕ) → nat_lt 255 n ≡ false → n ≤ 255
few_enough n h = grind (arith, nat_tests)

-- no track has too many index points, neither that at an index nor one after it
pub tracks_step : (tracks : List CueTrack) (i : ℕ) (track : CueTrack) → i < length tracks → track ≡ get_or tracks i track → overflows (drop i tracks) ≡ false
    → (length track.indices ≤ 255) × (overflows (drop (i + 1) tracks) ≡ false)
tracks_step tracks i track lt is h =
    let e = sym (ap overflows (drop_more tracks i track lt) ∙ ap (λ t. overflows (t ∷ drop (i + 1) tracks)) (sym is)) ∙ h in
    let k = or_false (nat_lt 255 (length track.indices)) (overflows (drop (i + 1) tracks)) e in
    (few_enough (length track.indices) k.0, k.1)

good_sheet : (a b : ℕ) (c : Bool) → (nat_eq a 0 || nat_lt 255 b || c) ≡ false → (b ≤ 255) × (c ≡ false)
good_sheet a b c h =
    let k = or_false (nat_eq a 0 || nat_lt 255 b) c h in
    (few_enough b (or_false (nat_eq a 0) (nat_lt 255 b) k.0).1, k.1)

pub sheet_fits : (tracks : List CueTrack) → (nat_eq (length tracks) 0 || nat_lt 255 (length tracks) || overflows tracks) ≡ false → (length tracks ≤ 255) × (overflows tracks ≡ false)
sheet_fits tracks h = good_sheet (length tracks) (length tracks) (overflows tracks) h

pub tracks_length_step : (tracks : List CueTrack) (i : ℕ) (track : CueTrack) → i < length tracks → track ≡ get_or tracks i track → tracks_length (drop i tracks) ≡ 36 + 12 * length track.indices + tracks_length (drop (i + 1) tracks)
tracks_length_step tracks i track lt is = at_drop_more tracks_length tracks i track lt ∙ ap (λ t. 36 + 12 * length t.indices + tracks_length (drop (i + 1) tracks)) (sym is)

short_enough : (n : ℕ) → nat_lt 16777215 n ≡ false → n < 16777216
short_enough n h = grind (arith, nat_tests)

none_of : (a b c d : Bool) (v w x y : Why) → cond a (Some v) (cond b (Some w) (cond c (Some x) (cond d (Some y) None))) ≡ None → (a ≡ false) × (b ≡ false) × (c ≡ false) × (d ≡ false)
none_of true b c d v w x y h = absurd cc
none_of false true c d v w x y h = absurd cc
none_of false false true d v w x y h = absurd cc
none_of false false false true v w x y h = absurd cc
none_of false false false false v w x y h = (refl, refl, refl, refl)

pub record Faultless (b : Block) : Type 0 where
  pub kind : is_forbidden b ≡ false
  pub small : length_of b < 2 ^ 24
  pub order : is_out_of_order b ≡ false
  pub sheet : has_bad_sheet b ≡ false

pub faultless : (b : Block) → block_fault b ≡ None → Faultless b
faultless b h =
    let k = none_of (is_forbidden b) (nat_lt 16777215 (length_of b)) (is_out_of_order b) (has_bad_sheet b) _ _ _ _ h in
    record { kind = k.0; small = short_enough (length_of b) k.1; order = k.2; sheet = k.3 }

allowed : (n : ℕ) → (nat_lt n 7 || nat_lt 126 n) ≡ false → n < 128
allowed n h = grind (arith, nat_tests)

pub kind_small : (b : Block) → is_forbidden b ≡ false → kind_of b < 128
kind_small (block_of.StreamInfo info) h = omega arith
kind_small (block_of.Padding n) h = omega arith
kind_small (block_of.Application id bytes) h = omega arith
kind_small (block_of.SeekTable points) h = omega arith
kind_small (block_of.VorbisComment found) h = omega arith
kind_small (block_of.CueSheet sheet) h = omega arith
kind_small (block_of.Picture found) h = omega arith
kind_small (block_of.Other kind bytes) h = allowed kind h

pub short_is : (n : ℕ) → n < 2 ^ 24 → min n 16777216 ≡ n
short_is n h = omega arith
