-- The bytes that are planned.
use Rattle.std.proofs.Common.{◌≡◌, ℕ, ◌+◌, ◌-◌, ◌≤◌, Bool, false, List, ◌++◌, length, take, drop, sym, ◌∙◌, ap, arith, length-append, length-drop, take-append-drop, append_assoc}
use Rattle.std.proofs.lemmas.List.{length-take-le, take_all}
use Rattle.flac_bits.specs.Bits.{bits_of}
use Rattle.flac_bits.proofs.Holding.{bits_of-append}
use Rattle.flac_meta.specs.Spelling.{block_spelling, header_spelling, comments_length}
use Rattle.flac_meta.specs.declared.comments.Comments.{Comments}
use Rattle.flac_meta.specs.declared.block.Block.TheVariants as block_of
use Rattle.flac_edit.specs.inner.Planned.{IsBefore, IsAfter}
use Rattle.flac_edit.specs.declared.flipping.Change.{Change}

pub is_before : (at padding following count : ℕ) (last : Bool) (new : Comments) (plan : Change) (block tail : List ℕ)
    → bits_of block ≡ block_spelling false (block_of.VorbisComment new) → length block ≡ 4 + comments_length new → count ≡ length block
    → bits_of tail ≡ header_spelling last 1 (padding - count + following) → length tail ≡ 4
    → plan.header.items ≡ take 4 block → plan.bytes.items ≡ drop 4 block ++ tail → length plan.zeros.items ≡ padding - count + following
    → plan.at ≡ at + 4 → plan.header_at ≡ at → plan.zeros_at ≡ at + 4 + count
    → comments_length new + 4 ≤ padding → padding + following ≤ comments_length new + 4 + 16777215 → padding ≤ 16777215
    → IsBefore at padding following last new plan
is_before at padding following count last new plan block tail spelled long counted tailed tail_long header bytes zeros plan_at header_at zeros_at room short small =
    let left : padding - count + following ≡ padding + following - (comments_length new + 4) = omega (arith, counted, long, room) in
    let bytes_long : length plan.bytes.items ≡ count =
    ap length bytes ∙ length-append (drop 4 block) tail ∙ omega (arith, length-drop 4 block, long, counted, tail_long) in
    let whole : plan.header.items ++ plan.bytes.items ≡ block ++ tail =
    ap (λ (l : List ℕ). l ++ plan.bytes.items) header ∙ ap (λ (l : List ℕ). take 4 block ++ l) bytes ∙ sym (append_assoc (take 4 block) (drop 4 block) tail) ∙ ap (λ (l : List ℕ). l ++ tail) (take-append-drop 4 block) in
    record {
      spelled = ap bits_of whole ∙ bits_of-append block tail ∙ ap (λ (l : List Bool). l ++ bits_of tail) spelled ∙ ap (λ (l : List Bool). block_spelling false (block_of.VorbisComment new) ++ l) (tailed ∙ ap (λ n. header_spelling last 1 n) left);
      header = ap length header ∙ length-take-le 4 block (omega (arith, long));
      header_at = header_at;
      bytes_at = plan_at;
      zeros_at = zeros_at ∙ ap (λ n. at + 4 + n) (sym bytes_long);
      fits = omega (arith, bytes_long, counted, long, room);
      long = omega (arith, bytes_long, counted, long);
      zeros = zeros ∙ left;
      small = short;
      short = omega (arith, room, small);
    }

pub is_after : (at preceding padding count : ℕ) (last : Bool) (new : Comments) (plan : Change) (block tail : List ℕ)
    → bits_of block ≡ block_spelling false (block_of.VorbisComment new) → length block ≡ 4 + comments_length new → count ≡ length block
    → bits_of tail ≡ header_spelling last 1 (padding - (count + 4)) → length tail ≡ 4
    → plan.bytes.items ≡ block ++ tail → bits_of plan.header.items ≡ header_spelling false 1 preceding → length plan.header.items ≡ 4 → length plan.zeros.items ≡ preceding
    → plan.at ≡ at + preceding + 4 → plan.header_at ≡ at → plan.zeros_at ≡ at + 4
    → comments_length new + 8 ≤ padding → 4 ≤ preceding → preceding ≤ 16777215 → padding ≤ 16777215
    → IsAfter at preceding padding last new plan
is_after at preceding padding count last new plan block tail spelled long counted tailed tail_long bytes header header_long zeros plan_at header_at zeros_at room some short small =
    let left : padding - (count + 4) ≡ padding - (comments_length new + 8) = omega (arith, counted, long) in
    record {
      spelled = ap bits_of bytes ∙ bits_of-append block tail ∙ ap (λ (l : List Bool). l ++ bits_of tail) spelled ∙ ap (λ (l : List Bool). block_spelling false (block_of.VorbisComment new) ++ l) (tailed ∙ ap (λ n. header_spelling last 1 n) left);
      header_is = header;
      header = header_long;
      header_at = header_at;
      bytes_at = plan_at;
      zeros_at = zeros_at;
      zeros = zeros;
      long = ap length bytes ∙ length-append block tail ∙ omega (arith, long, tail_long);
      fits = room;
      some = some;
      small = short;
      short = omega (arith, room, small);
    }

-- a slice from the fifth byte on
pub from_fifth : (l m : List ℕ) → l ≡ m → take (length l - 4) (drop 4 l) ≡ drop 4 m
from_fifth l m same = take_all (length l - 4) (drop 4 l) (omega (arith, length-drop 4 l)) ∙ ap (drop 4) same
