-- How long a native stream is at most (RFC 9639, sections 6 to 9).
use Rattle.std.proofs.Common.{◌≡◌, ◌∙◌, refl, ap, subst, ℕ, zero, suc, ◌+◌, ◌*◌, ◌/◌, ◌≤◌, ◌<◌, min, max, arith, mul_comm, mul_assoc, mul-le-mul_right, div-add-mod', ℤ, pos, Bool, false, List, [], ◌∷◌, ◌++◌, length, length-append, get_or, None}
use Rattle.std.proofs.Math.ListN.{get_or-append}
use Rattle.std.proofs.lemmas.Nat.{mul-le}
use Rattle.flac_bits.specs.Bits.{unsigned, is_nil}
use Rattle.flac_bits.specs.Forms.{IsBytes, joined}
use Rattle.flac_info.specs.Info.{Info}
use Rattle.flac_meta.specs.Listed.{list_fault, info_seen}
use Rattle.flac_meta.specs.Spelling.{block_spelling, comments_length}
use Rattle.flac_meta.specs.declared.comments.Comments.{Comments}
use Rattle.flac_meta.specs.declared.block.Block.{Block}
use Rattle.flac_meta.specs.declared.block.Block.TheVariants.{StreamInfo, VorbisComment}
use Rattle.flac_frame.specs.Audio.{Sound, samples_each}
use Rattle.flac_header.specs.declared.subset.Profile.{Profile}
use Rattle.flac_frame.proofs.Sounds.{depth_small}
use Rattle.flac_native.specs.Message.{sample_width}
use Rattle.flac_subframe.specs.declared.format.linear.LinearPredictor.{LinearPredictor}
use Rattle.flac_native.specs.Given.{Cut, blocks_in, info_of, sound_message, with_found}
use Rattle.flac_native.specs.Seeking.{points_of, table_of}
use Rattle.flac_native.specs.Writing.{AreFrames, AreLeastFrames, blocks_spelling, stream_spelling}
use Rattle.flac_native.proofs.Digests.{digest_is_bytes}
use Rattle.flac_ogg.proofs.Whole.{block_long}
use Rattle.flac_c.specs.Bound.{raw_bytes, most_parts, table_bytes, native_bound}
use Rattle.flac_c.specs.Encoded.{sound_of, plan_of, comments_of, blocks_of, CanBeEncoded}
use Rattle.flac_c.specs.Interleaved.{channel_at, channels_at}
use Rattle.flac_c.specs.declared.tags.FlacProvedTags.{FlacProvedTags}
use Rattle.flac_c.specs.declared.encoding.FlacProvedSettings.{FlacProvedSettings}
use Rattle.flac_c.proofs.LongestFrames.{frames_long}
use Rattle.flac_c.proofs.LongestHeads.{comment_long, comments_counted, parts_few, parts_are, table_long}

-- ---- how many samples there are

module _ (samples : List ℤ) (count : ℕ) where
  channel_long : (channel n : ℕ) → length (channel_at samples count channel n) ≡ n
  unfolding channel_at
  channel_long channel zero = refl
  channel_long channel (suc n) = omega (arith, length-append (channel_at samples count channel n) (get_or samples (n * count + channel) (pos 0) ∷ []), channel_long channel n)

  channels_long : (each n : ℕ) → length (channels_at samples count each n) ≡ n
  unfolding channels_at
  channels_long each zero = refl
  channels_long each (suc n) = omega (arith, length-append (channels_at samples count each n) (channel_at samples count n each ∷ []), channels_long each n)

  first_long : (each n : ℕ) → length (get_or (channels_at samples count each (suc n)) 0 []) ≡ each
  unfolding channels_at
  first_long each zero = channel_long 0 each
  first_long each (suc n) =
      let more : 0 < length (channels_at samples count each (suc n)) = omega (arith, channels_long each (suc n)) in
      ap (λ (c : List ℤ). length c) (get_or-append (channels_at samples count each (suc n)) (channel_at samples count (suc n) each ∷ []) [] 0 more) ∙ first_long each n

  each_long : (each n : ℕ) → 1 ≤ n → samples_each (channels_at samples count each n) ≡ each
  each_long each zero some = absurd (omega (arith, some))
  each_long each (suc n) some = first_long each n

-- ---- how many bytes they have

raw_enough : (bits count : ℕ) → bits ≤ 32 → bits * count ≤ 8 * raw_bytes bits count
raw_enough bits count few =
    let width : ℕ = sample_width (max 1 (min bits 32)) in
    let wide : bits ≤ 8 * width = omega arith in
    omega (arith, mul-le-mul_right count wide, mul_assoc 8 width count)

turned : (n bits total count : ℕ) → total * n ≡ count → n * bits * total ≡ bits * count
turned n bits total count e = ap (λ k. k * total) (mul_comm n bits) ∙ mul_assoc bits n total ∙ ap (λ k. bits * k) (mul_comm n total ∙ e)

-- ---- the frames

module _ (profile : Profile) (s : FlacProvedSettings) (samples : List ℤ) (can : CanBeEncoded profile s samples) where
  abbrev sound : Sound
  sound = sound_of profile s samples

  abbrev each : ℕ
  each = length samples / s.channels

  pub many_channels : length sound.channels ≡ s.channels
  many_channels = channels_long samples s.channels each s.channels

  pub some_channels : (1 ≤ s.channels) × (s.channels ≤ 8)
  some_channels = let good = can.sound in (omega (arith, many_channels, good.some), omega (arith, many_channels, good.few))

  pub each_is : samples_each sound.channels ≡ each
  each_is = each_long samples s.channels each s.channels some_channels.0

  pub all_are : each * s.channels ≡ length samples
  all_are = omega (arith, div-add-mod' (length samples) s.channels, can.whole)

  -- 215 bits of each frame are beside its samples
  pub frames_few : (found : List (List (List LinearPredictor))) (frames : List (List Bool)) → 16 ≤ s.block_size → AreFrames (with_found (plan_of s sound) found) sound frames → AreLeastFrames (with_found (plan_of s sound) found) sound frames
      → length (joined frames) ≤ 215 * most_parts each s.block_size + 8 * raw_bytes s.bits (length samples)
  frames_few found frames some are least =
      let good = can.sound in
      let n : ℕ = length sound.channels in
      let total : ℕ = samples_each sound.channels in
      let all = frames_long (with_found (plan_of s sound) found) sound frames good some are least in
      let blocks : blocks_in s.block_size total ≤ most_parts each s.block_size = omega (arith, parts_few s.block_size total (omega (arith, some)), parts_are s.block_size each (omega (arith, some)), ap (λ k. k / s.block_size) each_is) in
      let around = mul-le (151 + 8 * n) (blocks_in s.block_size total) 215 (most_parts each s.block_size) (omega (arith, good.few)) blocks in
      let product : total * n ≡ length samples = ap (λ k. k * n) each_is ∙ ap (λ k. each * k) many_channels ∙ all_are in
      let same : n * s.bits * total ≡ s.bits * length samples = turned n s.bits total (length samples) product in
      omega (arith, all, around, same, raw_enough s.bits (length samples) (depth_small profile s.bits good.bits).1)

-- ---- the stream

head_long : (i : Info) (c : Comments) (more : List Block) (rest : List Bool) → IsBytes 16 i.digest
    → length (unsigned 32 0x664C6143 ++ (blocks_spelling (StreamInfo i ∷ VorbisComment c ∷ more) ++ rest)) ≡ 368 + 8 * comments_length c + length (blocks_spelling more) + length rest
head_long i c more rest digest =
    omega (
      arith,
      length-append (unsigned 32 0x664C6143) (blocks_spelling (StreamInfo i ∷ VorbisComment c ∷ more) ++ rest),
      length-append (blocks_spelling (StreamInfo i ∷ VorbisComment c ∷ more)) rest,
      length-append (block_spelling false (StreamInfo i)) (blocks_spelling (VorbisComment c ∷ more)),
      length-append (block_spelling (is_nil more) (VorbisComment c)) (blocks_spelling more),
      block_long false i digest,
      comment_long (is_nil more) c,
    )

pub native_few : (profile : Profile) (found : List (List (List LinearPredictor))) (s : FlacProvedSettings) (t : FlacProvedTags) (samples : List ℤ) (can : CanBeEncoded profile s samples) → 16 ≤ s.block_size → list_fault info_seen (blocks_of t) ≡ None
    → (least greatest : ℕ) (frames : List (List Bool)) → AreFrames (with_found (plan_of s (sound_of profile s samples)) found) (sound_of profile s samples) frames → AreLeastFrames (with_found (plan_of s (sound_of profile s samples)) found) (sound_of profile s samples) frames
    → length (stream_spelling (with_found (plan_of s (sound_of profile s samples)) found) (blocks_of t ++ table_of (points_of (with_found (plan_of s (sound_of profile s samples)) found) frames)) (sound_of profile s samples) least greatest frames)
    ≤ 8 * native_bound s (length samples) (length samples / s.channels) t
native_few profile found s t samples can some none least greatest frames are are_least =
    let a : Sound = sound_of profile s samples in
    let p : Cut = with_found (plan_of s a) found in
    let each : ℕ = length samples / s.channels in
    let comments = comments_counted t none in
    let table : length (blocks_spelling (table_of (points_of p frames))) ≤ 8 * table_bytes each s.seek_every = subst (λ n. length (blocks_spelling (table_of (points_of p frames))) ≤ 8 * table_bytes n s.seek_every) (each_is profile s samples can) (table_long p frames) in
    let head = head_long (info_of p a least greatest) (comments_of t) (table_of (points_of p frames)) (joined frames) (digest_is_bytes (sound_message a)) in
    omega (arith, head, comments.1, table, frames_few profile s samples can found frames some are are_least)
