-- What a program finds that opens a stream, goes to a sample, and reads on.
use Rattle.std.proofs.Common.{◌≡◌, inl, inr, ℕ, ◌<◌, ◌≤◌, ◌^◌, true, List, [], ◌∷◌, filter, map, length, Option, Some, None, Result, Ok, refl, sym, ap, subst, ◌∙◌, arith}
use Rattle.flac_bits.specs.Bits.{bits_of}
use Rattle.flac_bits.specs.Handing.{InputReading, by_grammar}
use Rattle.flac_bits.specs.declared.why.Why.{Why}
use Rattle.flac_bits.specs.declared.why.Why.TheVariants.{Truncated}
use Rattle.flac_info.specs.Info.{Info}
use Rattle.flac_meta.specs.declared.block.Block.{Block}
use Rattle.flac_meta.specs.declared.block.Block.TheVariants as block_of
use Rattle.flac_header.specs.declared.subset.Profile.{Profile}
use Rattle.flac_frame.specs.Frame.{Frame}
use Rattle.flac_native.specs.Decoding.{beginning}
use Rattle.flac_native.specs.Stream.{Piece, grammar, opening}
use Rattle.flac_native.specs.Item.{Item, frame, fault_pair}
use Rattle.flac_native.specs.Giving.{Stage, stage_of, held}
use Rattle.flac_native.specs.declared.fault.Place.{Place}
use Rattle.flac_native.specs.declared.fault.Fault.{Fault}
use Rattle.flac_native.specs.declared.container.Container as container
use Rattle.flac_reader.specs.Kept.{keeps, first_info, first_points}
use Rattle.flac_reader.specs.Starting.{and_block, and_blocks, frames_start}
use Rattle.flac_reader.specs.Coming.{IsFirst, FramesCome, only_frame}
use Rattle.flac_reader.specs.Giving.{last_frame}
use Rattle.flac_reader.specs.Opening.{IsReadAs, Opens}
use Rattle.flac_reader.specs.Refusing.{IsRefusal}
use Rattle.flac_reader.specs.Seeking.{offset_before, search_start, number_of, Finds, FramesStart, Cuts}
use Rattle.flac_reader.specs.declared.keep.Keep.TheVariants.{Tags}
use Rattle.flac_reader.specs.declared.reader.Reader.{Reader}
use Rattle.test_library.specs.Onward.{seen_of, shown, ShowsFrames}

-- ---- the blocks that are kept

no_points : (bs : List Block) → first_points (filter (keeps Tags) bs) ≡ []
unfolding first_points
no_points [] = refl
no_points (block_of.StreamInfo info ∷ bs) = no_points bs
no_points (block_of.Padding n ∷ bs) = no_points bs
no_points (block_of.Application id bytes ∷ bs) = no_points bs
no_points (block_of.SeekTable points ∷ bs) = no_points bs
no_points (block_of.VorbisComment found ∷ bs) = no_points bs
no_points (block_of.CueSheet sheet ∷ bs) = no_points bs
no_points (block_of.Picture found ∷ bs) = no_points bs
no_points (block_of.Other kind bytes ∷ bs) = no_points bs

info_kept : (bs : List Block) → first_info (filter (keeps Tags) bs) ≡ first_info bs
unfolding first_info
info_kept [] = refl
info_kept (block_of.StreamInfo info ∷ bs) = refl
info_kept (block_of.Padding n ∷ bs) = info_kept bs
info_kept (block_of.Application id bytes ∷ bs) = info_kept bs
info_kept (block_of.SeekTable points ∷ bs) = info_kept bs
info_kept (block_of.VorbisComment found ∷ bs) = info_kept bs
info_kept (block_of.CueSheet sheet ∷ bs) = info_kept bs
info_kept (block_of.Picture found ∷ bs) = info_kept bs
info_kept (block_of.Other kind bytes ∷ bs) = info_kept bs

no_offset : (sample : ℕ) (points : List _) → points ≡ [] → offset_before sample points ≡ 0
no_offset sample points none = rw none refl

-- ---- where the frames start

small_start : (n : ℕ) (bs : List Block) → n ≤ 18446744073709551615 → and_blocks n bs ≤ 18446744073709551615
unfolding and_blocks
small_start n [] small = small
small_start n (b ∷ bs) small = small_start (and_block n b) bs (omega arith)

-- ---- what was opened

abbrev some_info : Info → Option Info
some_info i = Some i

same_info : (i j : Info) → some_info i ≡ Some j → i ≡ j
same_info i j e = cc

-- the info of such a reader is that of the stream, and it seeks from the first frame on
pub info_is : {C : Type 0} {g : container.Ghosts C} (r : InputReading Piece Place) (reader : Reader C g) (blocks : List Block) (frames : List Frame) (info : Info) → Opens r Tags reader → IsReadAs r blocks frames None → first_info blocks ≡ Some info → info ≡ reader.info
info_is r reader blocks frames info opens is told =
    same_info info reader.info (sym told ∙ sym (info_kept blocks) ∙ ap first_info (sym (opens.blocks blocks frames None is)) ∙ opens.info)

pub cut_there : {C : Type 0} {g : container.Ghosts C} (profile : Profile) (stream : List ℕ) (reader : Reader C g) (sample : ℕ) (blocks : List Block) (frames : List Frame) (info : Info) → FramesStart → length stream < 2 ^ 64
    → Opens (by_grammar grammar (opening profile) (beginning Truncated) (bits_of stream)) Tags reader → IsReadAs (by_grammar grammar (opening profile) (beginning Truncated) (bits_of stream)) blocks frames None → first_info blocks ≡ Some info
    → Cuts profile stream reader.info (search_start reader.start sample (first_points reader.blocks.items)) frames
cut_there profile stream reader sample blocks frames info law few opens is told =
    let r = by_grammar grammar (opening profile) (beginning Truncated) (bits_of stream) in
    let none : first_points reader.blocks.items ≡ [] = ap first_points (opens.blocks blocks frames None is) ∙ no_points blocks in
    let zero : offset_before sample (first_points reader.blocks.items) ≡ 0 = no_offset sample (first_points reader.blocks.items) none in
    let start = opens.start blocks frames None is in
    let small : frames_start blocks ≤ 18446744073709551615 = small_start 4 blocks (omega arith) in
    let at : frames_start blocks ≡ search_start reader.start sample (first_points reader.blocks.items) = omega (arith, zero, start, small) in
    subst (λ n. Cuts profile stream reader.info n frames) at (subst (λ i. Cuts profile stream i (frames_start blocks) frames) (info_is r reader blocks frames info opens is told) (law profile stream blocks frames info few is told))

abbrev refusal : Place × Why → Option (Place × Why)
refusal x = Some x

-- a stream is opened
pub not_refused : (blocks : List Block) (frames : List Frame) (info : Info) (f : Fault) → first_info blocks ≡ Some info → IsRefusal blocks frames None f → ⊥
not_refused blocks frames info f is (inl (none, end)) = no_end end
  where
    no_end : None ≡ refusal (fault_pair f) → ⊥
    no_end e = absurd cc
not_refused blocks frames info f is (inr (fault, none)) = no_info (sym none ∙ is)
  where
    no_info : None ≡ some_info info → ⊥
    no_info e = absurd cc

-- ---- the frame that was read ahead

abbrev answer : Option Item → Result (Option Item) Fault
answer h = Ok h

shows_first : (info : Info) (frames : List Frame) (h : Option Item) {C : Type 0} (g : container.Ghosts C) (s : Stage C) → IsFirst g (map frame frames) None (Ok h) s → seen_of (number_of info h) (only_frame h) ≡ shown info frames
shows_first info [] h g s first = let is : h ≡ None = none h first.0 in rw is refl
  where
    none : (h : Option Item) → answer h ≡ Ok None → h ≡ None
    none h e = cc
shows_first info (f ∷ fs) h g s first = let is : h ≡ Some (frame f) = same h first.0 in rw is refl
  where
    same : (h : Option Item) → answer h ≡ Ok (Some (frame f)) → h ≡ Some (frame f)
    same h e = cc

pub shows : {D : Type 0} {g : container.Ghosts D} (info : Info) (sample : ℕ) (frames : List Frame) (reader : Reader D g) (result : Result (Option (ℕ × ℕ)) Fault) → Finds g info sample frames None reader.ahead (stage_of reader.decoder)
    → reader.ahead ≡ true → reader.after ≡ number_of info (held (stage_of reader.decoder).course (stage_of reader.decoder).track) → result ≡ Ok (seen_of reader.after (last_frame reader)) → ShowsFrames info sample frames result
shows {g = g} info sample frames reader result finds ahead number is =
    let s = stage_of reader.decoder in
    let first : IsFirst g (map frame finds.left) None (Ok (held s.course s.track)) s = subst (λ b. FramesCome g b s finds.left None) ahead finds.come in
    let seen : seen_of reader.after (last_frame reader) ≡ shown info finds.left = ap (λ n. seen_of n (last_frame reader)) number ∙ shows_first info finds.left (held s.course s.track) g s first in
    subst (ShowsFrames info sample frames) (sym is) (finds.passed, finds.left, finds.split, finds.by, finds.holds, seen)
