-- Raw samples that are read block by block.
use Rattle.std.proofs.Common.{◌≡◌, ◌≢◌, ◌≤◌, ◌<◌, ◌+◌, ◌*◌, ◌/◌, ◌%◌, ◌&&◌, ℕ, zero, suc, Bool, true, false, ℤ, List, [], ◌∷◌, ◌++◌, length, length-append, append_assoc, map, take, drop, get_or, refl, ap, sym, ◌∙◌, subst, arith}
use Rattle.std.proofs.lemmas.List.{take_all, append-nil}
use Rattle.std.specs.List.{list_all}
use Rattle.std.proofs.lemmas.List.Folds.{list_all-append}
use Rattle.std.proofs.Math.Nat.{mul-pos, mul-div_left, mul-mod_left, mul-add-mod_self_right, mul-add-div_right, mul-le-mul_right}
use Rattle.flac_bits.specs.declared.source.Source as source
use Rattle.flac_subframe.specs.format.Numbers.{fits}
use Rattle.flac_frame.specs.Audio.{samples_each, each_small}
use Rattle.flac_raw.specs.Raw.{samples_at, channels_at, raw_channels}
use Rattle.flac_raw.specs.Reading.{IsChannel, AreParts, AreChannels, IsMore, TakesRows}
use Rattle.flac_raw.specs.inner.Progress.{ReadTo, TakesBytes}
use Rattle.flac_raw.proofs.Rows.{AreFirst, channels_are, channel_more, no_samples, numbers_are}
use Rattle.flac_raw.proofs.Pieces.{samples_long, channels_many, channel_is, channels_between, tests_split}

-- ---- what was read

-- the samples of whole rows are those of the definition
pub parts_numbers : (bytes : List ℕ) (rows count width : ℕ) (channels : List (List ℤ)) → AreParts count width bytes rows channels → channels ≡ channels_at bytes rows (count * width) width count
parts_numbers bytes rows count width channels are =
    sym (take_all count channels (omega (arith, are.many)))
    ∙ numbers_are bytes rows (count * width) width count channels (omega (arith, are.many)) (λ c lt. (are.each c lt).numbers)

all_pass_none : (bits row width n : ℕ) → each_small bits (channels_at [] 0 row width n) ≡ true
unfolding channels_at samples_at
all_pass_none bits row width zero = refl
all_pass_none bits row width (suc n) =
    list_all-append (λ c. list_all (fits bits) c) (channels_at [] 0 row width n) ([] ∷ []) ∙ ap (λ b. b && true) (all_pass_none bits row width n)

samples_none : (row start width : ℕ) → samples_at [] row start width 0 ≡ []
unfolding samples_at
samples_none row start width = refl

pub read_none : (bits count width : ℕ) (all : List ℕ) → ReadTo bits count width all all 0 true
read_none bits count width all = record {
  done = [];
  whole = omega arith;
  are = record {
    many = channels_many [] 0 (count * width) width count;
    each = λ c lt. subst (λ l. IsChannel [] 0 (count * width) (c * width) width l) (sym (channel_is [] 0 (count * width) width count c lt ∙ samples_none (count * width) (c * width) width)) (no_samples [] (count * width) (c * width) width);
  };
  fit = sym (all_pass_none bits (count * width) width count);
  rest = refl;
}

-- one more block
pub read_more : (bits count width : ℕ) (all coming later : List ℕ) (rows n : ℕ) (was is : Bool) (channels : List (List ℤ)) → ReadTo bits count width all coming rows was → TakesBytes count width n coming later channels → is ≡ each_small bits channels
    → ReadTo bits count width all later (rows + n) (was && is)
read_more bits count width all coming later rows n was is channels so took small =
    let row = count * width in
    let piece = took.piece in
    let numbers : channels ≡ channels_at piece n row width count = parts_numbers piece n count width channels took.are in
    let whole : length (so.done ++ piece) ≡ (rows + n) * row = omega (arith, length-append so.done piece, so.whole, took.long) in
    let one : (c : ℕ) → c < count → IsChannel (so.done ++ piece) (rows + n) row (c * width) width (get_or (channels_at (so.done ++ piece) (rows + n) row width count) c []) =
    (λ c lt.
    let within : c * width + width ≤ row = in_row c count width lt in
    let joined = channel_more so.done piece rows n row (c * width) width (get_or (channels_at so.done rows row width count) c []) (get_or channels c []) so.whole within (so.are.each c lt) (took.are.each c lt) in
    subst (λ l. IsChannel (so.done ++ piece) (rows + n) row (c * width) width l) (joined.numbers ∙ sym (channel_is (so.done ++ piece) (rows + n) row width count c lt)) joined) in
    record {
      done = so.done ++ piece;
      whole = whole;
      are = record { many = channels_many (so.done ++ piece) (rows + n) row width count; each = one };
      fit = ap (λ b. b && is) so.fit ∙ ap (λ b. each_small bits (channels_at so.done rows row width count) && b) (small ∙ ap (each_small bits) numbers)
          ∙ sym (tests_split (fits bits) so.done piece rows row width n count so.whole (omega arith));
      rest = so.rest ∙ ap (λ l. so.done ++ l) took.is ∙ sym (append_assoc so.done piece later);
    }
  where
    in_row : (c count width : ℕ) → c < count → c * width + width ≤ count * width
    in_row c count width lt = let h = mul-le-mul_right {m = c + 1} {n = count} width (omega arith) in omega (arith, h)

-- ---- all that was read

pub record ReadAll (bits count width : ℕ) (all : List ℕ) (rows : ℕ) (small : Bool) : Type 0 where
  pub whole : length all % (count * width) ≡ 0
  pub rows_are : rows ≡ length all / (count * width)
  pub are : AreChannels all count width (raw_channels count width all)
  pub fit : small ≡ each_small bits (raw_channels count width all)

pub read_all : (bits count width : ℕ) (all coming : List ℕ) (rows : ℕ) (small : Bool) → ReadTo bits count width all coming rows small → coming ≡ [] → 1 ≤ count → 1 ≤ width → ReadAll bits count width all rows small
read_all bits count width all coming rows small so end some wide =
    let row = count * width in
    let one : 0 < row = mul-pos some wide in
    let is : so.done ≡ all = sym (so.rest ∙ ap (λ l. so.done ++ l) end ∙ append-nil so.done) in
    let long : length all ≡ rows * row = ap length (sym is) ∙ so.whole in
    let many : rows ≡ length all / row = sym (ap (λ n. n / row) long ∙ mul-div_left rows one) in
    let first : AreFirst so.done rows row width count (channels_at so.done rows row width count) = record { many = so.are.many; each = so.are.each; numbers = refl } in
    let same : channels_at so.done rows row width count ≡ raw_channels count width all = ap (λ b. channels_at b rows row width count) is ∙ ap (λ n. channels_at all n row width count) many in
    let listed : AreChannels so.done count width (channels_at so.done rows row width count) = channels_are so.done rows row width count (channels_at so.done rows row width count) first some refl so.whole (many ∙ ap (λ b. length b / row) (sym is)) in
    record {
      whole = ap (λ n. n % row) long ∙ mul-mod_left rows row;
      rows_are = many;
      are = subst (λ l. AreChannels all count width l) same (subst (λ b. AreChannels b count width (channels_at so.done rows row width count)) is listed);
      fit = so.fit ∙ ap (each_small bits) same;
    }

-- what is left ends inside a row
pub read_part : (bits count width : ℕ) (all coming : List ℕ) (rows : ℕ) (small : Bool) → ReadTo bits count width all coming rows small → length coming % (count * width) ≢ 0 → length all % (count * width) ≢ 0
read_part bits count width all coming rows small so part =
    let row = count * width in
    let whole : length all ≡ rows * row + length coming = ap length so.rest ∙ length-append so.done coming ∙ omega (arith, so.whole) in
    λ none. part (sym (mul-add-mod_self_right rows row (length coming)) ∙ ap (λ k. k % row) (sym whole) ∙ none)

-- ---- a block of all samples

pub channels_each : (count width : ℕ) (bytes : List ℕ) → 1 ≤ count → samples_each (raw_channels count width bytes) ≡ length bytes / (count * width)
channels_each count width bytes some =
    let row = count * width in
    ap length (channel_is bytes (length bytes / row) row width count 0 (omega arith)) ∙ samples_long bytes row (0 * width) width (length bytes / row)

-- the rows of three parts
rows_in : (row rows n : ℕ) (done piece later : List ℕ) → 0 < row → length done ≡ rows * row → length piece ≡ n * row → length (done ++ (piece ++ later)) / row ≡ rows + (n + length later / row)
rows_in row rows n done piece later one long wide =
    let all : length (done ++ (piece ++ later)) ≡ (rows + n) * row + length later = omega (arith, length-append done (piece ++ later), length-append piece later, long, wide) in
    ap (λ k. k / row) all ∙ mul-add-div_right one (rows + n) (length later) ∙ omega arith

pub record IsCut (count width : ℕ) (all later : List ℕ) (rows n : ℕ) (channels : List (List ℤ)) : Type 0 where
  pub within : length all / (count * width) ≡ rows + (n + length later / (count * width))
  pub is : channels ≡ map (λ c. take n (drop rows c)) (raw_channels count width all)

-- what was taken is the next block of all samples
pub block_cut : (bits count width : ℕ) (all coming later : List ℕ) (rows n : ℕ) (small : Bool) (channels : List (List ℤ)) → ReadTo bits count width all coming rows small → TakesBytes count width n coming later channels → 1 ≤ count → 1 ≤ width
    → IsCut count width all later rows n channels
block_cut bits count width all coming later rows n small channels so took some wide =
    let row = count * width in
    let one : 0 < row = mul-pos some wide in
    let piece = took.piece in
    let parts : all ≡ so.done ++ (piece ++ later) = so.rest ∙ ap (λ l. so.done ++ l) took.is in
    let many : length all / row ≡ rows + (n + length later / row) = ap (λ b. length b / row) parts ∙ rows_in row rows n so.done piece later one so.whole took.long in
    let cut : List ℤ → List ℤ = λ c. take n (drop rows c) in
    record {
      within = many;
      is = parts_numbers piece n count width channels took.are
          ∙ sym (channels_between so.done piece later rows row width n (length later / row) count so.whole took.long (omega arith))
          ∙ ap (λ b. map cut (channels_at b (rows + (n + length later / row)) row width count)) (sym parts)
          ∙ ap (λ k. map cut (channels_at all k row width count)) (sym many);
    }

-- a taken block has as many samples of each channel, and each channel has as many
pub taken_each : (count width n : ℕ) (coming later : List ℕ) (channels : List (List ℤ)) → TakesBytes count width n coming later channels → 1 ≤ count → samples_each channels ≡ n
taken_each count width n coming later channels took some = (took.are.each 0 (omega (arith, some))).long

-- if all samples fit, so do those of a block
pub block_fits : (bits count width : ℕ) (all coming later : List ℕ) (rows n : ℕ) (small : Bool) (channels : List (List ℤ)) → ReadTo bits count width all coming rows small → TakesBytes count width n coming later channels → 1 ≤ count → 1 ≤ width
    → each_small bits (raw_channels count width all) ≡ true → each_small bits channels ≡ true
block_fits bits count width all coming later rows n small channels so took some wide fit =
    let row = count * width in
    let one : 0 < row = mul-pos some wide in
    let piece = took.piece in
    let m : ℕ = length later / row in
    let within : count * width ≤ row = omega arith in
    let parts : all ≡ so.done ++ (piece ++ later) = so.rest ∙ ap (λ l. so.done ++ l) took.is in
    let many : length all / row ≡ rows + (n + m) = ap (λ b. length b / row) parts ∙ rows_in row rows n so.done piece later one so.whole took.long in
    let here : each_small bits (channels_at (so.done ++ (piece ++ later)) (rows + (n + m)) row width count) ≡ true =
    ap (λ b. each_small bits (channels_at b (rows + (n + m)) row width count)) (sym parts) ∙ ap (λ k. each_small bits (channels_at all k row width count)) (sym many) ∙ fit in
    let first = and_last _ _ (sym (tests_split (fits bits) so.done (piece ++ later) rows row width (n + m) count so.whole within) ∙ here) in
    let second = and_first _ _ (sym (tests_split (fits bits) piece later n row width m count took.long within) ∙ first) in
    ap (each_small bits) (parts_numbers piece n count width channels took.are) ∙ second
  where
    and_first : (a b : Bool) → (a && b) ≡ true → a ≡ true
    and_first true b e = refl
    and_first false b e = absurd cc

    and_last : (a b : Bool) → (a && b) ≡ true → b ≡ true
    and_last true b e = e
    and_last false b e = absurd cc

-- nothing can be taken where nothing is to come
pub none_left : (count width n : ℕ) (coming later : List ℕ) (channels : List (List ℤ)) → TakesBytes count width n coming later channels → coming ≡ [] → 1 ≤ count → 1 ≤ width → n ≡ 0
none_left count width n coming later channels took end some wide =
    let one : 0 < count * width = mul-pos some wide in
    let none : 0 ≡ length took.piece + length later = sym (ap length end) ∙ ap length took.is ∙ length-append took.piece later in
    nothing n (count * width) (omega (arith, took.long, none)) one
  where
    nothing : (n row : ℕ) → n * row ≡ 0 → 0 < row → n ≡ 0
    nothing zero row e some = refl
    nothing (suc n) row e some = absurd (omega (arith, e, some))

-- ---- a block that is read

-- the last bytes are not whole rows
pub not_whole : (all piece later : List ℕ) (n row : ℕ) → all ≡ piece ++ later → later ≡ [] → length piece ≡ n → n % row ≢ 0 → length all % row ≢ 0
not_whole all piece later n row is end long part =
    let same : length all ≡ n = ap length (is ∙ ap (λ l. piece ++ l) end ∙ append-nil piece) ∙ long in
    λ none. part (sym (ap (λ k. k % row) same) ∙ none)

-- lists that were empty have the samples of a piece
pub first_rows : (count was width rows : ℕ) (piece : List ℕ) (old new : List (List ℤ)) → was ≡ count → length old ≡ count → ((c : ℕ) → get_or old c [] ≡ []) → IsMore (AreParts was width) piece (was * width) rows old new
    → AreParts count width piece rows new
first_rows count was width rows piece old new same many none more =
    let here : IsMore (AreParts count width) piece (count * width) rows old new = subst (λ n. IsMore (AreParts n width) piece (n * width) rows old new) same more in
    let first : AreParts count width [] 0 old = record { many = many; each = λ c lt. subst (λ l. IsChannel [] 0 (count * width) (c * width) width l) (sym (none c)) (no_samples [] (count * width) (c * width) width) } in
    let whole : 0 ≡ 0 * (count * width) = omega arith in
    let n : 0 + rows ≡ rows = omega arith in
    subst (λ k. AreParts count width piece k new) n (here [] 0 whole first)

-- what a call took, if the bytes of its source are known
pub taken_bytes : {S : Type 0} (g : source.Ghosts S) (was count wide width n : ℕ) (old new : S) (channels : List (List ℤ)) → was ≡ count → wide ≡ width → TakesRows g was wide n old new channels → g.known old ≡ true
    → TakesBytes count width n (g.coming old) (g.coming new) channels
taken_bytes g was count wide width n old new channels many same took known =
    let here : TakesBytes was wide n (g.coming old) (g.coming new) channels = record { piece = took.piece; is = took.gave known; long = took.long; are = took.are } in
    subst (λ w. TakesBytes count w n (g.coming old) (g.coming new) channels) same (subst (λ k. TakesBytes k wide n (g.coming old) (g.coming new) channels) many here)
