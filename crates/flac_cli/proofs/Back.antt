-- The frames of an encoding have just the samples that it was given.
use Rattle.std.proofs.Common.{◌≡◌, ◌≤◌, ◌<◌, ◌+◌, ◌*◌, ◌-◌, ◌/◌, ℕ, zero, suc, ℤ, pos, Bool, List, [], ◌∷◌, ◌++◌, drop, map, min, get_or, None, refl, ap, sym, ◌∙◌, arith}
use Rattle.std.proofs.lemmas.List.{get_or-take, get_or-drop}
use Rattle.std.proofs.Math.Nat.{div-add-mod, mod-lt}
use Rattle.flac_meta.specs.declared.seek_table.SeekPoint.{SeekPoint}
use Rattle.flac_frame.specs.Audio.{Sound, samples_each}
use Rattle.flac_frame.specs.Encoding.{block_of}
use Rattle.flac_native.specs.Message.{sample_width, sample_bytes, row_bytes, rows_bytes}
use Rattle.flac_native.specs.Stream.{Piece, framed}
use Rattle.flac_native.specs.Given.{Cut, plan_fault, sound_message, size_of, frames_from, blocks_in, given}
use Rattle.flac_native.specs.Seeking.{points_of, table_of}
use Rattle.flac_native.proofs.Messages.{rows_split}
use Rattle.flac_native.proofs.Planned.{planned}
use Rattle.flac_cli.specs.Encoded.{comment_list, EncodesIn, parts_in}
use Rattle.flac_jobs.specs.declared.formats.ContainerKind.{ContainerKind}
use Rattle.flac_jobs.specs.declared.formats.ContainerKind.TheVariants as container
use Rattle.flac_cli.specs.Samples.{all_samples}

part_row : (width start size k : ℕ) (channels : List (List ℤ)) → k < size → row_bytes width (block_of start size channels) k ≡ row_bytes width channels (start + k)
unfolding row_bytes
part_row width start size k [] h = refl
part_row width start size k (c ∷ cs) h =
    ap (λ z. sample_bytes width z ++ row_bytes width (block_of start size cs) k) (get_or-take size (drop start c) k (pos 0) h ∙ get_or-drop start c k (pos 0))
    ∙ ap (λ r. sample_bytes width (get_or c (start + k) (pos 0)) ++ r) (part_row width start size k cs h)

-- the rows of a block are those of the channels, from its start on
part_rows : (width start size n k : ℕ) (channels : List (List ℤ)) → k + n ≤ size → rows_bytes width (block_of start size channels) n k ≡ rows_bytes width channels n (start + k)
unfolding rows_bytes
part_rows width start size zero k channels h = refl
part_rows width start size (suc n) k channels h =
    let here = part_row width start size k channels (omega (arith, h)) in
    let more = part_rows width start size n (k + 1) channels (omega (arith, h)) in
    let e : start + (k + 1) ≡ start + k + 1 = omega arith in
    ap (λ r. r ++ rows_bytes width (block_of start size channels) n (k + 1)) here ∙ ap (λ r. row_bytes width channels (start + k) ++ r) (more ∙ ap (λ j. rows_bytes width channels n j) e)

-- after a block stand the rows of the next, where there are any
later_place : (width : ℕ) (channels : List (List ℤ)) (block number total left : ℕ) → left ≤ total - block * (number + 1)
    → rows_bytes width channels left (block * (number + 1)) ≡ rows_bytes width channels left (block * number + min block (total - block * number))
unfolding rows_bytes
later_place width channels block number total zero h = refl
later_place width channels block number total (suc left) h =
    let e : block * (number + 1) ≡ block * number + min block (total - block * number) = omega arith in
    ap (λ j. rows_bytes width channels (suc left) j) e

-- n frames from a number on have the samples of their blocks
frames_back : (block : ℕ) (a : Sound) (n number : ℕ) → all_samples a.bits (map framed (frames_from block a n number))
    ≡ rows_bytes (sample_width a.bits) a.channels (min (block * n) (samples_each a.channels - block * number)) (block * number)
unfolding rows_bytes
frames_back block a zero number =
    let none : min (block * zero) (samples_each a.channels - block * number) ≡ 0 = omega arith in
    ap (λ k. rows_bytes (sample_width a.bits) a.channels k (block * number)) (sym none)
frames_back block a (suc n) number =
    let width = sample_width a.bits in
    let total = samples_each a.channels in
    let start = block * number in
    let size = size_of block total number in
    let left = min (block * n) (total - block * (number + 1)) in
    let here : rows_bytes width (block_of start size a.channels) size 0 ≡ rows_bytes width a.channels size start =
    part_rows width start size size 0 a.channels (omega arith) ∙ ap (λ j. rows_bytes width a.channels size j) (let e : start + 0 ≡ start = omega arith in e) in
    let later = frames_back block a n (number + 1) in
    let place : rows_bytes width a.channels left (block * (number + 1)) ≡ rows_bytes width a.channels left (start + size) = later_place width a.channels block number total left (omega arith) in
    let sum : min (block * suc n) (total - start) ≡ size + left = omega arith in
    ap (λ r. r ++ all_samples a.bits (map framed (frames_from block a n (number + 1)))) here
    ∙ ap (λ r. rows_bytes width a.channels size start ++ r) (later ∙ place)
    ∙ sym (rows_split width a.channels size left start)
    ∙ ap (λ k. rows_bytes width a.channels k start) (sym sum)

-- the blocks hold all samples
all_held : (block total : ℕ) → 1 ≤ block → total ≤ block * ((total + (block - 1)) / block)
all_held block total some =
    let parts = div-add-mod (total + (block - 1)) block in
    let small = mod-lt (total + (block - 1)) {m = block} some in
    omega (arith, parts, small)

-- all of them are the samples of the plan
pub given_back : (p : Cut) (a : Sound) (words : List (List ℕ)) (points : List SeekPoint) (least greatest : ℕ) → plan_fault p ≡ None
    → all_samples 0 (given p (comment_list words ++ table_of points) a least greatest) ≡ sound_message a
unfolding sound_message
given_back p a words points least greatest good =
    let block = p.block_size in
    let held_by = planned p good in
    let total = samples_each a.channels in
    let n = blocks_in block total in
    let held = all_held block total (omega (arith, held_by.least)) in
    let all : min (block * n) (total - block * 0) ≡ total = omega (arith, held) in
    let none : block * 0 ≡ 0 = omega arith in
    go points (frames_back block a n 0 ∙ (ap (λ k. rows_bytes (sample_width a.bits) a.channels k (block * 0)) all ∙ ap (λ j. rows_bytes (sample_width a.bits) a.channels total j) none))
  where
    frames : List Piece
    frames = map framed (frames_from p.block_size a (blocks_in p.block_size (samples_each a.channels)) 0)

    go : (points : List SeekPoint) → all_samples a.bits frames ≡ rows_bytes (sample_width a.bits) a.channels (samples_each a.channels) 0
        → all_samples 0 (given p (comment_list words ++ table_of points) a least greatest) ≡ rows_bytes (sample_width a.bits) a.channels (samples_each a.channels) 0
    go [] e = e
    go (x ∷ xs) e = e

-- they are, native or in Ogg, where no seek table stands
pub parts_back : (c : ContainerKind) (p : Cut) (a : Sound) (words : List (List ℕ)) (before after : List Bool) (e : EncodesIn c p (comment_list words) a before after)
    → plan_fault p ≡ None → all_samples 0 (parts_in c p (comment_list words) a before after e) ≡ sound_message a
parts_back container.Native p a words before after e good = given_back p a words (points_of p e.frames) e.least e.greatest good
parts_back (container.Ogg serial) p a words before after e good = given_back p a words [] e.are.least e.are.greatest good
