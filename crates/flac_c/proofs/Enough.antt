-- No stream is longer than the bound.
use Rattle.std.proofs.Common.{◌≡◌, ◌∙◌, refl, sym, ap, subst, ℕ, ◌+◌, ◌*◌, ◌/◌, ◌^◌, ◌≤◌, ◌<◌, min, max, arith, mul-le-mul_right, div-le_self, ℤ, Bool, true, false, cond, nat_eq, List, length, Option, Some, None}
use Rattle.std.specs.Prelude.{option_map}
use Rattle.std.specs.Option.{option_or}
use Rattle.std.proofs.lemmas.Nat.{mul-le}
use Rattle.flac_bits.specs.Reasons as reasons
use Rattle.flac_bits.proofs.Holding.{length-bits_of}
use Rattle.flac_meta.specs.Listed.{list_fault, info_seen}
use Rattle.flac_frame.specs.Audio.{Sound}
use Rattle.flac_frame.specs.Setup as setup
use Rattle.flac_subframe.specs.declared.format.linear.LinearPredictor.{LinearPredictor}
use Rattle.flac_native.specs.Given.{Cut, plan_fault, with_found}
use Rattle.flac_native.specs.Message.{sample_width}
use Rattle.flac_native.proofs.Planned.{planned}
use Rattle.flac_ogg.specs.RoundTrip.{EncodedBytes}
use Rattle.flac_c.specs.Bound.{text_bytes, texts_bytes, raw_bytes, most_parts, table_bytes, native_bound, bytes_among, bound_of, IsEnough}
use Rattle.flac_c.specs.Encoded.{sound_of, plan_of, serial_of, blocks_of, stream_fault, IsEncoded}
use Rattle.flac_c.specs.declared.tags.FlacProvedTags.{FlacProvedTags}
use Rattle.flac_c.specs.declared.encoding.FlacProvedSettings.{FlacProvedSettings}
use Rattle.flac_c.proofs.LongestHeads.{comments_counted}
use Rattle.flac_c.proofs.LongestStreams.{some_channels, each_is, all_are, native_few}
use Rattle.flac_c.proofs.LongestPages.{ogg_few}
use Rattle.flac_header.specs.declared.subset.Profile.{Profile}

-- ---- nothing is refused

none_first : {A : Type 0} (f : A → ℕ) (o : Option A) (rest : Option ℕ) → option_or (option_map f o) rest ≡ None → (o ≡ None) × (rest ≡ None)
none_first f None rest e = (refl, e)
none_first f (Some x) rest e = absurd cc

no_fault : (s : FlacProvedSettings) (t : FlacProvedTags) (a : Sound) → stream_fault s t a ≡ None → (plan_fault (plan_of s a) ≡ None) × (list_fault info_seen (blocks_of t) ≡ None)
unfolding stream_fault
no_fault s t a e =
    let x = none_first setup.number_of (plan_fault (plan_of s a)) _ e in
    let y = none_first reasons.number_of (list_fault info_seen (blocks_of t)) _ x.1 in
    (x.0, y.0)

-- ---- the stream

module _ (profile : Profile) (effort : ℕ) (s : FlacProvedSettings) (t : FlacProvedTags) (samples : List ℤ) (stream : List ℕ) (is : IsEncoded profile effort s samples t stream) where
  abbrev each : ℕ
  each = length samples / s.channels

  abbrev native : ℕ
  native = native_bound s (length samples) each t

  block_some : 16 ≤ s.block_size
  block_some = (planned (plan_of s (sound_of profile s samples)) (no_fault s t (sound_of profile s samples) is.none).0).least

  by_container : (b : Bool) (found : List (List (List LinearPredictor))) → EncodedBytes (cond b None (Some s.serial)) (with_found (plan_of s (sound_of profile s samples)) found) (blocks_of t) (sound_of profile s samples) stream
      → length stream ≤ native + cond b 0 (native / 200 + 64 * (most_parts each s.block_size + 2))
  by_container true found e =
      let few = native_few profile found s t samples is.can block_some (no_fault s t (sound_of profile s samples) is.none).1 e.encodes.least e.encodes.greatest e.encodes.frames e.encodes.are e.encodes.are_least in
      let long = ap (λ (b : List Bool). length b) e.encodes.written in
      omega (arith, few, long, length-bits_of stream)
  by_container false found e =
      let long = ap (λ (b : List Bool). length b) e.encodes.written in
      ogg_few profile found s t samples is.can block_some (no_fault s t (sound_of profile s samples) is.none).1 s.serial e.encodes.packets e.encodes.are (length stream) (sym (length-bits_of stream) ∙ long)

  stream_few : length stream ≤ bytes_among s (length samples) each t
  stream_few =
      let b = is.bytes in
      by_container (nat_eq s.ogg 0) b.1.found (subst (λ (p : Cut). EncodedBytes (serial_of s) p (blocks_of t) (sound_of profile s samples) stream) b.1.is b.2)

-- ---- the bound is a number of 64 bits

raw_most : (bits count : ℕ) → raw_bytes bits count ≤ 4 * count
raw_most bits count = let narrow : sample_width (max 1 (min bits 32)) ≤ 4 = omega arith in mul-le-mul_right count narrow

either : (b : Bool) (n : ℕ) → cond b 0 n ≤ n
either true n = omega arith
either false n = omega arith

bytes_most : (native texts table raw parts each count pages : ℕ) → native ≡ 58 + texts + table + raw + 28 * parts → texts < 2 ^ 24 → table ≤ 4 + 18 * (each + 1) → raw ≤ 4 * count → count ≤ 8 * each → parts ≤ each + 1
    → pages ≤ native / 200 + 64 * (parts + 2) → each < 2 ^ 36 → native + pages ≤ 18446744073709551615
bytes_most native texts table raw parts each count pages is few_texts few_points few_bytes few_samples few_parts few_pages short = omega (arith, is, few_texts, few_points, few_bytes, few_samples, few_parts, few_pages, short)

among_most : (profile : Profile) (effort : ℕ) (s : FlacProvedSettings) (t : FlacProvedTags) (samples : List ℤ) (stream : List ℕ) → IsEncoded profile effort s samples t stream → bytes_among s (length samples) (length samples / s.channels) t ≤ 18446744073709551615
among_most profile effort s t samples stream is =
    let each : ℕ = length samples / s.channels in
    let count : ℕ = length samples in
    let parts : ℕ = most_parts each s.block_size in
    let native : ℕ = native_bound s count each t in
    let comments = comments_counted t (no_fault s t (sound_of profile s samples) is.none).1 in
    let short : each < 2 ^ 36 = let k = is.can.sound.short in omega (arith, k, each_is profile s samples is.can) in
    let rows : each * s.channels ≤ each * 8 = let k = mul-le each s.channels each 8 (omega arith) (some_channels profile s samples is.can).1 in k in
    let samples_few : count ≤ 8 * each = omega (arith, all_are profile s samples is.can, rows) in
    let parts_few : (size : ℕ) → most_parts each size ≤ each + 1 = λ size. omega (arith, mul-le-mul_right, div-le_self each (max size 1)) in
    let table : table_bytes each s.seek_every ≤ 4 + 18 * (each + 1) = omega (arith, either (nat_eq s.seek_every 0) (4 + 18 * most_parts each s.seek_every), parts_few s.seek_every) in
    let raw : raw_bytes s.bits count ≤ 4 * count = raw_most s.bits count in
    bytes_most native (text_bytes t.vendor + texts_bytes t.list.now) (table_bytes each s.seek_every) (raw_bytes s.bits count) parts each count (cond (nat_eq s.ogg 0) 0 (native / 200 + 64 * (parts + 2)))
    (omega arith) (omega (arith, comments.0, comments.1)) table raw samples_few (parts_few s.block_size) (either (nat_eq s.ogg 0) (native / 200 + 64 * (parts + 2))) short

-- ---- so it is enough

pub enough : (s : FlacProvedSettings) (count : ℕ) (t : FlacProvedTags) → IsEnough s count t (bound_of s count t)
enough s count t = λ profile effort samples stream many is.
    let some = (some_channels profile s samples is.can).0 in
    let one : max s.channels 1 ≡ s.channels = omega (arith, some) in
    let few = stream_few profile effort s t samples stream is in
    let most = among_most profile effort s t samples stream is in
    let here : length stream ≤ min (bytes_among s (length samples) (length samples / s.channels) t) 18446744073709551615 = omega (arith, few, most) in
    let there : length stream ≤ min (bytes_among s (length samples) (length samples / max s.channels 1) t) 18446744073709551615 =
    subst (λ n. length stream ≤ min (bytes_among s (length samples) (length samples / n) t) 18446744073709551615) (sym one) here in
    subst (λ n. length stream ≤ bound_of s n t) many there
