-- How long the least frame of a block is at most: that of the channels each by itself and verbatim is no shorter (RFC
-- 9639, sections 9.1.3, 9.2.1 and 9.2.4).
use Rattle.std.proofs.Common.{◌≡◌, ◌∙◌, refl, sym, ap, subst, ℕ, suc, ◌+◌, ◌-◌, ◌*◌, ◌^◌, ◌≤◌, ◌<◌, arith, mul-add, mul_assoc, mul-le-mul_left, mul-suc, ℤ, Bool, true, false, cond, ◌||◌, nat_lt, nat_le, List, [], ◌∷◌, ◌++◌, length, length-append, get_or, take, drop, Option, Some, None, All}
use Rattle.std.proofs.lemmas.Bool.Decides.{nat_tests}
use Rattle.std.proofs.lemmas.List.{length-map}
use Rattle.flac_bits.specs.Forms.{joined}
use Rattle.flac_bits.specs.Signed.{FitsBits}
use Rattle.flac_header.specs.Header.{Header, IsHeader, channels_of}
use Rattle.flac_header.specs.Choice.{size_choice, rate_choice_in, depth_choice_in, stated_rate, with_codes, chosen_header}
use Rattle.flac_header.specs.Spelling.{header_spelling}
use Rattle.flac_header.specs.declared.subset.Profile.{Profile}
use Rattle.flac_header.specs.declared.subset.Profile.TheVariants.{Subset, Lax}
use Rattle.flac_subframe.specs.declared.format.limits.Limits.{Limits}
use Rattle.flac_subframe.proofs.lemmas.search.Family.{none_within}
use Rattle.flac_frame.specs.Audio.{Sound, IsSound, samples_each}
use Rattle.flac_frame.specs.Encoding.{block_of, EachStandsByPlane, IsEncoding, IsOfPlanes, IsLeastByPlane, partition_limit, subframes_cost}
use Rattle.flac_frame.specs.Frame.{limits_at}
use Rattle.flac_frame.specs.PlaneLists.{Lists, lists_kept}
use Rattle.flac_frame.specs.Spelling.{FrameForm, frame_spelling, subframes_spelling, HaveSamples}
use Rattle.flac_frame.proofs.Encoded.{is_block}
use Rattle.flac_frame.proofs.Family.{coded_as, kept_same}
use Rattle.flac_header.proofs.Lengths.{header_few}
use Rattle.flac_frame.proofs.Short.{whole_long}
use Rattle.flac_frame.proofs.Sounds.{depth_small}
use Rattle.flac_frame.proofs.Wholes.{texts_are, subframes_are, samples_are, as_many, not_joined, all_fit_in}
use Rattle.flac_native.specs.Given.{Cut, tried, blocks_in, size_of, frame_of}
use Rattle.flac_native.specs.Writing.{AreFrames, AreLeastFrames, SpellsLeastByPlane}
use Rattle.flac_native.proofs.Encoded.{least_part}
use Rattle.flac_native.proofs.Planned.{either_false}
use Rattle.flac_c.proofs.Verbatims.{Plain, plain_block}

-- ---- a header with another channel code

abbrev some_of : Header → Option Header
some_of h = Some h

inner : (a b : Header) → some_of a ≡ some_of b → a ≡ b
inner a b e = cc

with_code : (s r d : Option ℕ) (size rate a b number : ℕ) (h : Header) → with_codes s r d size rate a number ≡ Some h → with_codes s r d size rate b number ≡ Some (record h { channel_code = b })
with_code (Some s) (Some r) (Some d) size rate a b number h e =
    let x : Header = record { variable = false; size_code = s; size = size; rate_code = r; rate = stated_rate r rate; channel_code = a; depth_code = d; number = number } in
    ap (λ (k : Header). some_of (record k { channel_code = b })) (inner x h e)
with_code None r d size rate a b number h e = absurd cc
with_code (Some s) None d size rate a b number h e = absurd cc
with_code (Some s) (Some r) None size rate a b number h e = absurd cc

not_none : (b : Bool) (o : Option Header) (h : Header) → cond b None o ≡ some_of h → (b ≡ false) × (o ≡ some_of h)
not_none true o h e = absurd cc
not_none false o h e = (refl, e)

recoded : (profile : Profile) (size rate a b bits number : ℕ) (h : Header) → b ≤ 10 → chosen_header profile size rate a bits number ≡ Some h → chosen_header profile size rate b bits number ≡ Some (record h { channel_code = b })
unfolding chosen_header
recoded profile size rate a b bits number h few e =
    let p = not_none (nat_lt 10 a || nat_le (2 ^ 31) number) (with_codes (size_choice size) (rate_choice_in profile rate) (depth_choice_in profile bits) size rate a number) h e in
    let low : nat_lt 10 b ≡ false = grind (arith, nat_tests) in
    let small : nat_le (2 ^ 31) number ≡ false = (either_false (nat_lt 10 a) (nat_le (2 ^ 31) number) p.0).1 in
    rw (low, small) (with_code (size_choice size) (rate_choice_in profile rate) (depth_choice_in profile bits) size rate a b number h p.1)

still_header : (h : Header) (b : ℕ) → b < 11 → IsHeader h → IsHeader (record h { channel_code = b })
still_header h b few v = record {
  some_size = v.some_size;
  size_code = v.size_code;
  size = v.size;
  rate_code = v.rate_code;
  rate = v.rate;
  channel_code = few;
  depth_code = v.depth_code;
  no_depth = v.no_depth;
  number = v.number;
}

-- ---- the frame of channels each by itself

limit_some : (profile : Profile) (rate : ℕ) → 8 ≤ (limits_at profile rate).partition
limit_some Subset rate = omega arith
limit_some Lax rate = omega arith

as_coded : (code : ℕ) → code ≤ 7 → channels_of code ≡ code + 1
as_coded code few = let a : nat_lt code 8 ≡ true = grind (arith, nat_tests) in rw a refl

module _ (lists : Lists) (sound : Sound) (size number : ℕ) (block : List (List ℤ)) (f : FrameForm) (deep : 1 ≤ sound.bits) (some : 1 ≤ size) (one : 1 ≤ length block) (few : length block ≤ 8)
    (long : All (λ s. length s ≡ size) block) (fits : All (λ s. All (FitsBits sound.bits) s) block) (least : IsLeastByPlane lists sound size number block f) where
  plain : Plain sound.bits size block
  plain = plain_block sound.bits size deep some block long fits

  plain_cost : (c : ℕ) → c + 1 ≡ length block → (g : FrameForm) → g ≡ record { header = record f.header { channel_code = c }; subframes = plain.forms } → IsOfPlanes lists sound size number block g × (subframes_cost sound.bits g ≤ length block * (8 + sound.bits * size))
  plain_cost c each g is =
      let depth : ℕ = sound.bits in
      let low : c ≤ 7 = omega (arith, each, few) in
      let own : IsEncoding sound size number block f = least.least.member.encoding in
      let h : Header = record f.header { channel_code = c } in
      let chosen : chosen_header sound.profile size sound.rate c depth number ≡ Some h = recoded sound.profile size sound.rate own.code c depth number f.header (omega (arith, low)) own.header in
      let sized : f.header.size ≡ size = (coded_as sound.profile size sound.rate own.code depth number f.header own.header).1 in
      let have : HaveSamples depth c f.header.size 0 plain.forms block = subst (λ n. HaveSamples depth c n 0 plain.forms block) (sym sized) (samples_are depth c size low 8 [] 0 plain.forms block plain.are) in
      let limits : Limits = limits_at sound.profile sound.rate in
      let cost : length (subframes_spelling depth c 0 plain.forms) ≤ length block * (8 + depth * size) = omega (arith, ap (λ (t : List Bool). length t) (texts_are depth c size low 0 plain.forms), plain.few) in
      let encoding : IsEncoding sound size number block (record { header = h; subframes = plain.forms }) =
      record {
        code = c;
        header = chosen;
        valid = still_header f.header c (omega (arith, low)) own.valid;
        channels = as_coded c low ∙ each;
        many = as_many depth c size low 8 [] plain.forms block plain.are;
        subframes = subframes_are depth c size low 8 [] limits (limit_some sound.profile sound.rate) (none_within limits.linear) 0 plain.forms block plain.are;
        samples = record { kept = block; subframes = have; joined = not_joined depth c size low block; fit = all_fit_in depth c size low block fits };
      } in
      rw is (record { encoding = encoding; stand = subst (EachStandsByPlane (partition_limit sound) (lists_kept c lists) plain.forms) (sym (kept_same c block low)) (plain.stand (partition_limit sound) (lists_kept c lists)) }, cost)

  pub least_cost : subframes_cost sound.bits f ≤ length block * (8 + sound.bits * size)
  least_cost =
      let c : ℕ = length block - 1 in
      let g : FrameForm = record { header = record f.header { channel_code = c }; subframes = plain.forms } in
      let p = plain_cost c (omega (arith, one)) g refl in
      omega (arith, least.fewest g p.0, p.1)

-- its header and the check have 18 bytes at most, and the zeros that fill the last byte are 7 at most
pub frame_long : (depth : ℕ) (f : FrameForm) (n : ℕ) → subframes_cost depth f ≤ n → length (frame_spelling depth f) ≤ 151 + n
unfolding frame_spelling
frame_long depth f n few =
    let parts = subframes_spelling depth f.header.channel_code 0 f.subframes in
    let text = header_spelling f.header ++ parts in
    omega (arith, whole_long text, length-append (header_spelling f.header) parts, header_few f.header, few)

-- ---- the frames of all samples

module _ (p : Cut) (a : Sound) (good : IsSound a) (some : 16 ≤ p.block_size) where
  abbrev total : ℕ
  total = samples_each a.channels

  one_long : (number : ℕ) (text : List Bool) → number < blocks_in p.block_size total → SpellsLeastByPlane (tried p number) a (frame_of p.block_size a number) text
      → length text ≤ 151 + length a.channels * (8 + a.bits * size_of p.block_size total number)
  one_long number text lt spells =
      let start : ℕ = p.block_size * number in
      let size : ℕ = size_of p.block_size total number in
      let deep = depth_small a.profile a.bits good.bits in
      let here : start < total = least_part p.block_size total number some lt in
      let size_some : 1 ≤ size = omega (arith, here, some) in
      let within : start + size ≤ total = omega (arith, here) in
      let reach : All (λ c. start + size ≤ length c) a.channels = λ k d h. omega (arith, good.long k d h, within) in
      let block : List (List ℤ) = block_of start size a.channels in
      let facts = is_block a.bits start size deep.0 size_some a.channels reach good.small in
      let many : length block ≡ length a.channels = length-map a.channels (λ c. take size (drop start c)) in
      let cost = least_cost (tried p number) a size number block spells.form deep.0 size_some (omega (arith, many, good.some)) (omega (arith, many, good.few)) facts.0 facts.1 spells.least in
      let bound : length (frame_spelling a.bits spells.form) ≤ 151 + length block * (8 + a.bits * size) = frame_long a.bits spells.form (length block * (8 + a.bits * size)) cost in
      let bound' : length (frame_spelling a.bits spells.form) ≤ 151 + length a.channels * (8 + a.bits * size) = subst (λ n. length (frame_spelling a.bits spells.form) ≤ 151 + n * (8 + a.bits * size)) many bound in
      subst (λ (t : List Bool). length t ≤ 151 + length a.channels * (8 + a.bits * size)) (sym spells.spelling) bound'

-- the samples of a block and of those after it
parts : (b total number : ℕ) → size_of b total number + (total - b * (number + 1)) ≤ total - b * number
parts b total number =
    let up : b * (number + 1) ≡ b * number + b = omega (arith, mul-suc b number) in
    omega (arith, up)

spread : (w x y z : ℕ) → x + y ≤ z → w * x + w * y ≤ w * z
spread w x y z le = omega (arith, mul-add w x y, mul-le-mul_left w le)

add_up : (most w b total number : ℕ) (ts : List (List Bool)) → ((i : ℕ) → i < length ts → length (get_or ts i []) ≤ most + w * size_of b total (number + i)) → length (joined ts) ≤ most * length ts + w * (total - b * number)
add_up most w b total number [] h = omega arith
add_up most w b total number (t ∷ ts) h =
    let at : number + 0 ≡ number = omega arith in
    let first : length t ≤ most + w * size_of b total number = subst (λ k. length t ≤ most + w * size_of b total k) at (h 0 (omega arith)) in
    let rest = add_up most w b total (number + 1) ts (λ i lt.
    let next : number + suc i ≡ number + 1 + i = omega arith in
    subst (λ k. length (get_or ts i []) ≤ most + w * size_of b total k) next (h (suc i) (omega (arith, lt)))) in
    let sum = spread w (size_of b total number) (total - b * (number + 1)) (total - b * number) (parts b total number) in
    omega (arith, length-append t (joined ts), first, rest, sum, mul-suc most (length ts))

apart : (n bits size : ℕ) → n * (8 + bits * size) ≡ 8 * n + n * bits * size
apart n bits size = omega (arith, mul-add n 8 (bits * size), mul_assoc n bits size)

none_before : (b total : ℕ) → total - b * 0 ≡ total
none_before b total = omega arith

-- Each frame has at most 151 bits and 8 for each channel beside its samples.
pub frames_long : (p : Cut) (a : Sound) (frames : List (List Bool)) → IsSound a → 16 ≤ p.block_size → AreFrames p a frames → AreLeastFrames p a frames
    → length (joined frames) ≤ (151 + 8 * length a.channels) * blocks_in p.block_size (samples_each a.channels) + length a.channels * a.bits * samples_each a.channels
frames_long p a frames good some are least =
    let n : ℕ = length a.channels in
    let total : ℕ = samples_each a.channels in
    let each : (i : ℕ) → i < length frames → length (get_or frames i []) ≤ 151 + 8 * n + n * a.bits * size_of p.block_size total (0 + i) = λ i lt.
    let at : 0 + i ≡ i = omega arith in
    let one = one_long p a good some i (get_or frames i []) (omega (arith, lt, are.many)) (least i lt) in
    subst (λ k. length (get_or frames i []) ≤ 151 + 8 * n + n * a.bits * size_of p.block_size total k) (sym at) (omega (arith, one, apart n a.bits (size_of p.block_size total i))) in
    let all = add_up (151 + 8 * n) (n * a.bits) p.block_size total 0 frames each in
    let all' : length (joined frames) ≤ (151 + 8 * n) * length frames + n * a.bits * total = subst (λ k. length (joined frames) ≤ (151 + 8 * n) * length frames + n * a.bits * k) (none_before p.block_size total) all in
    subst (λ k. length (joined frames) ≤ (151 + 8 * n) * k + n * a.bits * total) are.many all'
