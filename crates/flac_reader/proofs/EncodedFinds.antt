-- What a reader finds in a stream that encoding wrote.
use Rattle.std.proofs.Common.{◌≡◌, ℕ, zero, suc, ◌+◌, ◌-◌, ◌*◌, ◌/◌, ◌<◌, ◌≤◌, min, Bool, true, false, cond, ◌&&◌, nat_le, nat_lt, List, [], ◌∷◌, ◌++◌, length, Option, Some, None, Result, Ok, Err, refl, sym, ap, subst, ◌∙◌, arith}
use Rattle.std.specs.List.{fold, filter}
use Rattle.std.proofs.lemmas.Bool.{and_parts}
use Rattle.std.proofs.lemmas.Bool.Decides.{nat_tests}
use Rattle.std.proofs.lemmas.Nat.{div-mul-add}
use Rattle.std.proofs.Math.Nat.{mul_comm, mul-suc}
use Rattle.flac_bits.specs.Bits.{bits_of}
use Rattle.flac_bits.specs.Handing.{by_grammar}
use Rattle.flac_bits.specs.declared.why.Why.TheVariants.{Truncated}
use Rattle.flac_info.specs.Info.{Info}
use Rattle.flac_meta.specs.SeekTable.{is_before}
use Rattle.flac_meta.specs.Valid.{AllAre}
use Rattle.flac_meta.specs.declared.seek_table.SeekPoint.{SeekPoint}
use Rattle.flac_meta.specs.declared.block.Block.{Block}
use Rattle.flac_meta.specs.declared.block.Block.TheVariants as block_of
use Rattle.flac_frame.specs.Audio.{Sound, samples_each}
use Rattle.flac_frame.specs.Frame.{Frame}
use Rattle.flac_native.specs.Decoding.{beginning}
use Rattle.flac_native.specs.Stream.{grammar, opening}
use Rattle.flac_native.specs.Given.{Cut, size_of, frame_of, frames_from, frames_of, given}
use Rattle.flac_native.specs.Seeking.{points_of, table_of, has_table}
use Rattle.flac_native.specs.Points.{NamesFrame}
use Rattle.flac_native.specs.Giving.{stage_of}
use Rattle.flac_native.specs.declared.fault.Fault.{Fault}
use Rattle.flac_native.specs.declared.container.Container as container
use Rattle.flac_native.proofs.Planned.{either_false, not_less, planned, fit}
use Rattle.flac_native.proofs.Encoded.{all_parts}
use Rattle.flac_native.proofs.Onwards.{same_info}
use Rattle.flac_reader.specs.Kept.{keeps, first_info, first_points}
use Rattle.flac_reader.specs.Starting.{frames_start}
use Rattle.flac_reader.specs.Coming.{FramesCome}
use Rattle.flac_reader.specs.Opening.{IsReadAs, Opens}
use Rattle.flac_reader.specs.Seeking.{offset_of, offset_before, search_start, holds, PassedBy, HoldsFirst, Cuts, SeeksFrames}
use Rattle.flac_reader.specs.Encoded.{IsEncoded, stream_info, all_blocks, frame_count, frames_at, bytes_before, IsSoughtFrom, SearchesAreCut, frames_holding, GivesFrames, SamplesAreFound}
use Rattle.flac_reader.specs.declared.keep.Keep.{Keep}
use Rattle.flac_reader.specs.declared.keep.Keep.TheVariants.{All, Tags}
use Rattle.flac_reader.specs.declared.reader.Reader.{Reader}
use Rattle.flac_reader.proofs.Starts.{parts_handed}
use Rattle.flac_reader.proofs.EncodedCuts.{stream_there, within, cut_here, offset_is, points_named}

-- ---- which frame holds a sample

at_most : (x s : ℕ) → nat_le x s ≡ true → x ≤ s
at_most x s e = grind (arith, nat_tests)

is_at_most : (x s : ℕ) → x ≤ s → nat_le x s ≡ true
is_at_most x s h = grind (arith, nat_tests)

under : (s z : ℕ) → nat_lt s z ≡ true → s < z
under s z e = grind (arith, nat_tests)

held_between : (x s z : ℕ) → (nat_le x s && nat_lt s z) ≡ true → (x ≤ s) × (s < z)
held_between x s z e = let k = and_parts _ _ e in (at_most x s k.0, under s z k.1)

not_between : (x s z : ℕ) → (nat_le x s && nat_lt s z) ≡ false → x ≤ s → z ≤ s
not_between x s z e h = not_less s z (subst (λ k. (k && nat_lt s z) ≡ false) (is_at_most x s h) e)

-- a sample at a place in the block of a number
in_block : (b number sample : ℕ) → b * number ≤ sample → sample < b * number + b → sample / b ≡ number
in_block b number sample from to =
    let rest : sample - b * number < b = omega (arith, from, to) in
    let is : number * b + (sample - b * number) ≡ sample = omega (arith, from, mul_comm number b) in
    ap (λ n. n / b) (sym is) ∙ div-mul-add number b (sample - b * number) rest

full_block : (x b total s : ℕ) → x + min b (total - x) ≤ s → s < total → x + b ≤ s
full_block x b total s h below = omega (arith, h, below)

short_block : (x b total s : ℕ) → x ≤ s → s < x + min b (total - x) → (s < x + b) × (s < total)
short_block x b total s h k = (omega (arith, h, k), omega (arith, h, k))

module _ (p : Cut) (a : Sound) (info : Info) (same : info.greatest_block ≡ p.block_size) (sample : ℕ) where
  abbrev b : ℕ
  b = p.block_size

  abbrev total : ℕ
  total = samples_each a.channels

  abbrev cons : Frame → List Frame → List Frame
  cons f fs = f ∷ fs

  number_is : (j : ℕ) → j * info.greatest_block ≡ b * j
  number_is j = ap (λ n. j * n) same ∙ mul_comm j b

  here : (j : ℕ) → holds info sample (frame_of b a j) ≡ true → (b * j ≤ sample) × (sample < b * j + size_of b total j)
  here j h = subst (λ x. (x ≤ sample) × (sample < x + size_of b total j)) (number_is j) (held_between (j * info.greatest_block) sample (j * info.greatest_block + size_of b total j) h)

  not_here : (j : ℕ) → holds info sample (frame_of b a j) ≡ false → b * j ≤ sample → b * j + size_of b total j ≤ sample
  not_here j h from =
      subst (λ x. x + size_of b total j ≤ sample) (number_is j) (not_between (j * info.greatest_block) sample (j * info.greatest_block + size_of b total j) h (subst (λ x. x ≤ sample) (sym (number_is j)) from))

  next_block : (number : ℕ) → b * number + b ≤ sample → b * (number + 1) ≤ sample
  next_block number h = let up : b * (number + 1) ≡ b * number + b = omega (arith, mul-suc b number) in omega (arith, up, h)

  found_at : (n number : ℕ) (passed left : List Frame) → frames_from b a n number ≡ passed ++ left → PassedBy info sample passed → HoldsFirst info sample left → b * number ≤ sample → sample < total → total ≤ b * (number + n)
      → left ≡ frames_from b a (number + n - sample / b) (sample / b)
  found_at zero number passed left e by first from below all =
      let none : b * (number + 0) ≡ b * number = ap (λ k. b * k) (let z : number + 0 ≡ number = omega arith in z) in
      absurd (omega (arith, none, from, below, all))
  found_at (suc n) number [] left e by first from below all =
      let it = here number (subst (HoldsFirst info sample) (sym e) first) in
      let is : sample / b ≡ number = in_block b number sample it.0 (short_block (b * number) b total sample it.0 it.1).0 in
      let many : suc n ≡ number + suc n - number = omega arith in
      sym e ∙ ap (λ m. frames_from b a m number) many ∙ ap (λ k. frames_from b a (number + suc n - k) k) (sym is)
  found_at (suc n) number (f ∷ ps) left e by first from below all =
      let is : frame_of b a number ≡ f = head_is (frames_from b a n (number + 1)) (ps ++ left) e in
      let more : frames_from b a n (number + 1) ≡ ps ++ left = tail_is (frames_from b a n (number + 1)) (ps ++ left) e in
      let off = either_false _ _ by in
      let past = not_here number (subst (λ x. holds info sample x ≡ false) (sym is) off.0) from in
      let same_sum : number + 1 + n ≡ number + suc n = omega arith in
      let r = found_at n (number + 1) ps left more off.1 first (next_block number (full_block (b * number) b total sample past below)) below (subst (λ k. total ≤ b * k) (sym same_sum) all) in
      r ∙ ap (λ k. frames_from b a (k - sample / b) (sample / b)) same_sum
    where
      head_is : (xs ys : List Frame) → cons (frame_of b a number) xs ≡ f ∷ ys → frame_of b a number ≡ f
      head_is xs ys e = cc

      tail_is : (xs ys : List Frame) → cons (frame_of b a number) xs ≡ f ∷ ys → xs ≡ ys
      tail_is xs ys e = cc

  -- none holds a sample that is not there
  none_found : (n number : ℕ) (passed left : List Frame) → frames_from b a n number ≡ passed ++ left → HoldsFirst info sample left → total ≤ sample → left ≡ []
  none_found n number passed [] e first over = refl
  none_found zero number [] (g ∷ gs) e first over = absurd (nothing gs e)
    where
      nothing : (xs : List Frame) → [] ≡ cons g xs → ⊥
      nothing xs e = absurd cc
  none_found zero number (f ∷ fs) (g ∷ gs) e first over = absurd (nothing (fs ++ g ∷ gs) e)
    where
      nothing : (xs : List Frame) → [] ≡ cons f xs → ⊥
      nothing xs e = absurd cc
  none_found (suc n) number [] (g ∷ gs) e first over =
      let it = here number (subst (HoldsFirst info sample) (sym e) first) in
      let small = (short_block (b * number) b total sample it.0 it.1).1 in
      absurd (omega (arith, small, over))
  none_found (suc n) number (f ∷ fs) (g ∷ gs) e first over = none_found n (number + 1) fs (g ∷ gs) (tail_is (frames_from b a n (number + 1)) (fs ++ g ∷ gs) e) first over
    where
      tail_is : (xs ys : List Frame) → cons (frame_of b a number) xs ≡ f ∷ ys → xs ≡ ys
      tail_is xs ys e = cc

-- ---- where a search begins

-- the offset of a frame that does not begin after the sample
record IsFrameBefore {p : Cut} {list : List Block} {a : Sound} {stream : List ℕ} (e : IsEncoded p list a stream) (sample offset : ℕ) : Type 0 where
  number : ℕ
  among : number ≤ frame_count e
  is : offset ≡ bytes_before e number
  first : p.block_size * number ≤ sample

module _ (p : Cut) (list : List Block) (a : Sound) (stream : List ℕ) (e : IsEncoded p list a stream) (sample : ℕ) where
  point_before : (x : SeekPoint) → NamesFrame p e.written.frames x → is_before sample x ≡ true → IsFrameBefore e sample x.offset
  point_before x n h =
      let low = at_most x.sample sample (and_parts _ _ h).0 in
      record { number = n.number; among = let k = n.among in omega (arith, k); is = offset_is p list a stream e x n; first = subst (λ k. k ≤ sample) n.sample low }

  before_all : (points : List SeekPoint) (found : Option SeekPoint) → AllAre (NamesFrame p e.written.frames) points → IsFrameBefore e sample (offset_of found) → IsFrameBefore e sample (offset_of (fold (λ found x. cond (is_before sample x) (Some x) found) found points))
  before_all [] found all so_far = so_far
  before_all (x ∷ xs) found all so_far = before_all xs (cond (is_before sample x) (Some x) found) all.1 (go (is_before sample x) refl)
    where
      go : (h : Bool) → is_before sample x ≡ h → IsFrameBefore e sample (offset_of (cond (is_before sample x) (Some x) found))
      go true h = subst (λ k. IsFrameBefore e sample (offset_of (cond k (Some x) found))) (sym h) (point_before x all.0 h)
      go false h = subst (λ k. IsFrameBefore e sample (offset_of (cond k (Some x) found))) (sym h) so_far

  from_the_first : IsFrameBefore e sample 0
  from_the_first = record { number = 0; among = omega arith; is = refl; first = omega arith }

  no_limit : (start offset : ℕ) → start + offset ≤ length stream → min (start + offset) 18446744073709551615 ≡ start + offset
  no_limit start offset h = let few = e.few in omega (arith, h, few)

  -- so by points that name frames
  sought_from : (points : List SeekPoint) → AllAre (NamesFrame p e.written.frames) points → IsSoughtFrom e (stream_info e) (frames_start (all_blocks e)) sample points
  sought_from points all =
      let f = before_all points None all from_the_first in
      let start = frames_start (all_blocks e) in
      let at : start + offset_before sample points ≡ start + bytes_before e f.number = ap (λ o. start + o) f.is in
      let in_it : start + offset_before sample points ≤ length stream = subst (λ n. n ≤ length stream) (sym at) (within p list a stream e f.number f.among) in
      let same : start + bytes_before e f.number ≡ search_start start sample points = sym at ∙ sym (no_limit start (offset_before sample points) in_it) in
      record {
        number = f.number;
        among = f.among;
        offset = f.is;
        first = f.first;
        cuts = subst (λ n. Cuts p.profile stream (stream_info e) n (frames_at e f.number)) same (cut_here p list a stream e f.number f.among);
      }

-- ---- what a reader keeps of the blocks

all_kept : (bs : List Block) → filter (keeps All) bs ≡ bs
all_kept [] = refl
all_kept (b ∷ bs) = ap (λ k. b ∷ k) (all_kept bs)

no_points_kept : (bs : List Block) → first_points (filter (keeps Tags) bs) ≡ []
unfolding first_points
no_points_kept [] = refl
no_points_kept (block_of.StreamInfo info ∷ bs) = no_points_kept bs
no_points_kept (block_of.Padding n ∷ bs) = no_points_kept bs
no_points_kept (block_of.Application id bytes ∷ bs) = no_points_kept bs
no_points_kept (block_of.SeekTable points ∷ bs) = no_points_kept bs
no_points_kept (block_of.VorbisComment found ∷ bs) = no_points_kept bs
no_points_kept (block_of.CueSheet found ∷ bs) = no_points_kept bs
no_points_kept (block_of.Picture found ∷ bs) = no_points_kept bs
no_points_kept (block_of.Other kind bytes ∷ bs) = no_points_kept bs

-- after blocks without a table
points_after : (list bs : List Block) → has_table list ≡ false → first_points (list ++ bs) ≡ first_points bs
unfolding first_points
points_after [] bs none = refl
points_after (block_of.StreamInfo info ∷ list) bs none = points_after list bs none
points_after (block_of.Padding n ∷ list) bs none = points_after list bs none
points_after (block_of.Application id bytes ∷ list) bs none = points_after list bs none
points_after (block_of.SeekTable points ∷ list) bs none = absurd cc
points_after (block_of.VorbisComment found ∷ list) bs none = points_after list bs none
points_after (block_of.CueSheet found ∷ list) bs none = points_after list bs none
points_after (block_of.Picture found ∷ list) bs none = points_after list bs none
points_after (block_of.Other kind bytes ∷ list) bs none = points_after list bs none

points_in_table : (points : List SeekPoint) → first_points (table_of points) ≡ points
unfolding first_points
points_in_table [] = refl
points_in_table (x ∷ xs) = refl

info_kept : (keep : Keep) (info : Info) (bs : List Block) → first_info (filter (keeps keep) (block_of.StreamInfo info ∷ bs)) ≡ Some info
unfolding first_info
info_kept All info bs = refl
info_kept Tags info bs = refl

-- so the points that it keeps name frames
points_kept : (p : Cut) (list : List Block) (a : Sound) (stream : List ℕ) (e : IsEncoded p list a stream) (keep : Keep) → has_table list ≡ false → AllAre (NamesFrame p e.written.frames) (first_points (filter (keeps keep) (all_blocks e)))
unfolding first_points
points_kept p list a stream e Tags none = subst (AllAre (NamesFrame p e.written.frames)) (sym (no_points_kept (all_blocks e))) tt
points_kept p list a stream e All none =
    let points = points_of p e.written.frames in
    let is : first_points (filter (keeps All) (all_blocks e)) ≡ points = ap first_points (all_kept (all_blocks e)) ∙ points_after list (table_of points) none ∙ points_in_table points in
    subst (AllAre (NamesFrame p e.written.frames)) (sym is) (points_named p list a stream e)

-- ---- the laws

read_there : (p : Cut) (list : List Block) (a : Sound) (stream : List ℕ) (e : IsEncoded p list a stream) → IsReadAs (by_grammar grammar (opening p.profile) (beginning Truncated) (bits_of stream)) (all_blocks e) (frames_of p.block_size a) None
read_there p list a stream e = record {
  parts = given p (list ++ table_of (points_of p e.written.frames)) a e.written.least e.written.greatest;
  read = stream_there p list a stream e;
  items = parts_handed (all_blocks e) (frames_of p.block_size a);
}

-- the reader knows the STREAMINFO that was written
info_is : {C : Type 0} {g : container.Ghosts C} (p : Cut) (list : List Block) (a : Sound) (stream : List ℕ) (e : IsEncoded p list a stream) (keep : Keep) (reader : Reader C g) → Opens (by_grammar grammar (opening p.profile) (beginning Truncated) (bits_of stream)) keep reader → stream_info e ≡ reader.info
info_is p list a stream e keep reader opens =
    let blocks = opens.blocks (all_blocks e) (frames_of p.block_size a) None (read_there p list a stream e) in
    same_info reader.info (stream_info e) (first_info reader.blocks.items) opens.info (ap first_info blocks ∙ info_kept keep (stream_info e) (list ++ table_of (points_of p e.written.frames)))

pub searches_are_cut : {C : Type 0} (g : container.Ghosts C) → SearchesAreCut g
searches_are_cut g p list a stream e keep reader sample none opens =
    let is = read_there p list a stream e in
    let fs = frames_of p.block_size a in
    let blocks = opens.blocks (all_blocks e) fs None is in
    let start = opens.start (all_blocks e) fs None is in
    let found = sought_from p list a stream e sample (first_points (filter (keeps keep) (all_blocks e))) (points_kept p list a stream e keep none) in
    subst (λ i. IsSoughtFrom e i reader.start sample (first_points reader.blocks.items)) (info_is p list a stream e keep reader opens)
    (subst (λ n. IsSoughtFrom e (stream_info e) n sample (first_points reader.blocks.items)) (sym start) (subst (λ k. IsSoughtFrom e (stream_info e) (frames_start (all_blocks e)) sample (first_points k)) (sym blocks) found))

-- what is left after the frames that were passed by
left_is : (p : Cut) (list : List Block) (a : Sound) (stream : List ℕ) (e : IsEncoded p list a stream) (sample number : ℕ) (passed left : List Frame) → number ≤ frame_count e → p.block_size * number ≤ sample
    → frames_at e number ≡ passed ++ left → PassedBy (stream_info e) sample passed → HoldsFirst (stream_info e) sample left → left ≡ frames_holding e sample
left_is p list a stream e sample number passed left among from split by first = go (nat_lt sample p.total) refl
  where
    total_is : p.total ≡ samples_each a.channels
    total_is = (fit p a e.fits).total

    whole : number + (frame_count e - number) ≡ frame_count e
    whole = omega (arith, among)

    all : samples_each a.channels ≤ p.block_size * (number + (frame_count e - number))
    all = subst (λ n. samples_each a.channels ≤ p.block_size * n) (sym e.written.are.many ∙ sym whole) (all_parts p.block_size (samples_each a.channels) (planned p e.planned).least)

    go : (h : Bool) → nat_lt sample p.total ≡ h → left ≡ cond h (frames_at e (sample / p.block_size)) []
    go true h =
        let below = under sample p.total h in
        found_at p a (stream_info e) refl sample (frame_count e - number) number passed left split by first from (subst (λ n. sample < n) total_is below) all
        ∙ ap (λ n. frames_from p.block_size a (n - sample / p.block_size) (sample / p.block_size)) whole
    go false h =
        let over = not_less sample p.total h in
        none_found p a (stream_info e) refl sample (frame_count e - number) number passed left split first (subst (λ n. n ≤ sample) total_is over)

gives : {D : Type 0} {h : container.Ghosts D} (p : Cut) (list : List Block) (a : Sound) (stream : List ℕ) (e : IsEncoded p list a stream) (sample number : ℕ) (result : Result (Reader D h) Fault) → number ≤ frame_count e → p.block_size * number ≤ sample
    → SeeksFrames (stream_info e) sample (frames_at e number) result → GivesFrames (frames_holding e sample) result
gives {h = h} p list a stream e sample number (Ok reader) among from f =
    subst (λ fs. FramesCome h reader.ahead (stage_of reader.decoder) fs None) (left_is p list a stream e sample number f.passed f.left among from f.split f.by f.holds) f.come
gives p list a stream e sample number (Err x) among from f = f

pub samples_are_found : {C D : Type 0} (g : container.Ghosts C) (h : container.Ghosts D) → SamplesAreFound g h
samples_are_found g h p list a stream e keep reader sample result none opens whole =
    let from = searches_are_cut g p list a stream e keep reader sample none opens in
    let found = whole (frames_at e from.number) from.cuts in
    gives p list a stream e sample from.number result from.among from.first (subst (λ i. SeeksFrames i sample (frames_at e from.number) result) (sym (info_is p list a stream e keep reader opens)) found)
