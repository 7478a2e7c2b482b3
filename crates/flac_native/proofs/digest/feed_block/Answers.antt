use Rattle.std.proofs.Common.{◌≡◌, ◌∙◌, ◌+◌, ◌++◌, [], ◌∷◌, List, ℕ, ℤ, ap, sym, subst, refl, length, take, drop, arith}
use Rattle.std.specs.Prelude.{slice_index_or}
use Rattle.std.proofs.lemmas.List.{length-map}
use Rattle.flac_frame.specs.Encoding.{block_of}
use Rattle.flac_frame.proofs.Frames.{few_channels, bits_small}
use Rattle.flac_native.specs.Message.{sample_width, rows_bytes}
use Rattle.flac_native.proofs.Encoded.{part_rows}
use Rattle.flac_native.proofs.Messages.{two_parts}
use Rattle.md5.specs.Md5.{Holds}
use Rattle.flac_native.proofs.digest.feed_block.Goals as goal

pub part-left-requires-clause-channel : goal.part-left-requires-clause-channel
part-left-requires-clause-channel c = omega (arith, length-map c.channels-channels.result.now (λ v. v.items), ap length c.channels-channels.ensures.items, c.if-channels-eq2.true)

pub part-right-requires-clause-channel : goal.part-right-requires-clause-channel
part-right-requires-clause-channel c = omega (arith, length-map c.channels-channels.result.now (λ v. v.items), ap length c.channels-channels.ensures.items, c.if-channels-eq2.true)

pub feed_rows-requires-clause-rows : goal.feed_rows-requires-clause-rows
feed_rows-requires-clause-rows c = omega (arith, c.part-left.ensures.long)

pub feed_rows-requires-clause-width : goal.feed_rows-requires-clause-width
feed_rows-requires-clause-width c =
    let e = c.channels-channels.ensures in
    let deep = bits_small c.args.audio.now e.sound c.args.audio.now.bits refl in
    omega (arith, deep.1, c.bits.ensures, c.sample_width-width.ensures)

pub returns-then-channels-eq2 : goal.returns-then-channels-eq2
returns-then-channels-eq2 c = λ m holds.
    let e = c.channels-channels.ensures in
    let a = c.args.audio.now in
    let n = c.args.size in
    let start = c.args.start in
    let width : ℕ = sample_width a.bits in
    let l : List ℤ = c.part-left.result.now in
    let r : List ℤ = c.part-right.result.now in
    let many : length a.channels ≡ 2 = ap length (sym e.items) ∙ length-map c.channels-channels.result.now (λ v. v.items) ∙ c.if-channels-eq2.true in
    let left : l ≡ take n (drop start (slice_index_or a.channels 0 [])) = c.part-left.ensures.part in
    let right : r ≡ take n (drop start (slice_index_or a.channels 1 [])) = c.part-right.ensures.part in
    let both : l ∷ r ∷ [] ≡ block_of start n a.channels = ap (λ (k : List ℤ). k ∷ r ∷ []) left ∙ ap (λ (k : List ℤ). take n (drop start (slice_index_or a.channels 0 [])) ∷ k ∷ []) right ∙ two_parts start n a.channels many in
    let w : c.sample_width-width.result ≡ width = c.sample_width-width.ensures ∙ ap sample_width c.bits.ensures in
    let z : start + 0 ≡ start = omega arith in
    let rows : rows_bytes c.sample_width-width.result (l ∷ r ∷ []) n 0 ≡ rows_bytes width a.channels n start =
    ap (λ k. rows_bytes k (l ∷ r ∷ []) n 0) w ∙ ap (λ k. rows_bytes width k n 0) both ∙ part_rows width start n n 0 a.channels (omega arith) ∙ ap (λ k. rows_bytes width a.channels n k) z in
    subst (λ k. Holds c.feed_rows.new.hasher (m ++ k)) rows (c.feed_rows.ensures m holds)

pub feed_rows-requires-2-clause-channels : goal.feed_rows-requires-2-clause-channels
feed_rows-requires-2-clause-channels c = sym (length-map c.channels-channels.result.now (λ v. v.items)) ∙ ap length c.channels-channels.ensures.items

pub feed_rows-requires-2-clause-few : goal.feed_rows-requires-2-clause-few
feed_rows-requires-2-clause-few c = let e = c.channels-channels.ensures in (few_channels (λ v. v.items) c.channels-channels.result.now c.args.audio.now e.sound e.items).1

pub feed_rows-requires-2-clause-width : goal.feed_rows-requires-2-clause-width
feed_rows-requires-2-clause-width c =
    let e = c.channels-channels.ensures in
    let deep = bits_small c.args.audio.now e.sound c.args.audio.now.bits refl in
    omega (arith, deep.1, c.bits.ensures, c.sample_width-width.ensures)

pub feed_rows-requires-2-clause-end : goal.feed_rows-requires-2-clause-end
feed_rows-requires-2-clause-end c = omega (arith, c.requires, c.channels-channels.ensures.sound.short)

pub returns : goal.returns
returns c = λ m holds.
    subst (λ k. Holds c.feed_rows-2.new.hasher (m ++ rows_bytes k c.args.audio.now.channels c.args.size c.args.start)) (c.sample_width-width.ensures ∙ ap sample_width c.bits.ensures) (c.feed_rows-2.ensures m holds)
