-- What encoding wrote is read as just what was given.
use Rattle.std.proofs.Common.{◌≡◌, inl, inr, ℕ, zero, suc, ◌+◌, ◌-◌, ◌*◌, ◌<◌, ◌≤◌, min, ℤ, Bool, List, [], ◌∷◌, ◌++◌, length, map, take, drop, None, refl, sym, ap, ◌∙◌, arith}
use Rattle.std.specs.Prelude.{slice_index_or}
use Rattle.std.proofs.lemmas.Bool.{cases_lt}
use Rattle.std.proofs.lemmas.List.{append-nil, take-append-drop, take_all, drop_all, drop-drop, length-drop, get_or-map}
use Rattle.flac_bits.specs.State.{Mark}
use Rattle.flac_bits.specs.Items.{Stream}
use Rattle.flac_bits.specs.declared.why.Why.TheVariants.{Truncated}
use Rattle.flac_meta.specs.declared.block.Block.{Block}
use Rattle.flac_meta.specs.declared.block.Block.TheVariants as blocks
use Rattle.flac_header.specs.declared.subset.Profile.{Profile}
use Rattle.flac_frame.specs.Audio.{Sound, IsSound, samples_each}
use Rattle.flac_native.specs.Decoding.{beginning}
use Rattle.flac_native.specs.Stream.{Piece, framed, grammar, opening}
use Rattle.flac_native.specs.Given.{Cut, blocks_in, plan_fault, info_of, frames_from, closing}
use Rattle.flac_native.specs.Seeking.{points_of, table_of}
use Rattle.flac_native.specs.Writing.{Encodes, stream_spelling}
use Rattle.flac_native.specs.ReadBack.{IsOnly, channel_in, HaveSamples, parts_of, EncodedAreReadBack}
use Rattle.flac_native.proofs.Planned.{planned}
use Rattle.flac_native.proofs.Encoded.{all_parts}
use Rattle.flac_native.proofs.Deciding.{one_answer}
use Rattle.flac_native.proofs.AnyMark.{stream_any}

only_these : (profile : Profile) (m : Mark) (parts : List Piece) (text : List Bool) → Stream grammar (opening profile) m parts text → IsOnly profile m parts text
only_these profile m parts text s =
    let one = one_answer (opening profile) m text in
    record { stream = s; only = λ items t. one.streams items parts t s; accepted = λ items at why r. one.either parts items at why s r }

-- ---- the samples

-- a block of samples, and those after it
cut_here : (b start : ℕ) (c : List ℤ) → take (min b (length c - start)) (drop start c) ++ drop (start + b) c ≡ drop start c
cut_here b start c = elim (cases_lt b (length c - start)) [
  | inl h ↦
      let e : min b (length c - start) ≡ b = omega (arith, h) in
      ap (λ n. take n (drop start c) ++ drop (start + b) c) e ∙ ap (λ d. take b (drop start c) ++ d) (sym (drop-drop b start c)) ∙ take-append-drop b (drop start c)
  | inr h ↦
      let few : length (drop start c) ≤ min b (length c - start) = omega (arith, h, length-drop start c) in
      let none : length c ≤ start + b = omega (arith, h) in
      ap (λ d. d ++ drop (start + b) c) (take_all (min b (length c - start)) (drop start c) few) ∙ ap (λ d. drop start c ++ d) (drop_all (start + b) c none) ∙ append-nil (drop start c)
]

-- one channel in the frames from one on
channel_from : (b : ℕ) (a : Sound) (k n number : ℕ) → k < length a.channels → length (slice_index_or a.channels k []) ≡ samples_each a.channels → samples_each a.channels ≤ b * (number + n)
    → channel_in k (map framed (frames_from b a n number)) ≡ drop (b * number) (slice_index_or a.channels k [])
channel_from b a k zero number lt long all =
    let none : length (slice_index_or a.channels k []) ≤ b * number = omega (arith, long, all) in
    sym (drop_all (b * number) (slice_index_or a.channels k []) none)
channel_from b a k (suc n) number lt long all =
    let c = slice_index_or a.channels k [] in
    let start = b * number in
    let size = min b (samples_each a.channels - start) in
    let onwards : b * (number + 1) ≡ start + b = omega arith in
    let up : samples_each a.channels ≤ b * (number + 1 + n) = omega (arith, all) in
    let here : slice_index_or (map (λ (d : List ℤ). take size (drop start d)) a.channels) k [] ≡ take size (drop start c) = get_or-map (λ (d : List ℤ). take size (drop start d)) a.channels k [] [] lt in
    let more = channel_from b a k n (number + 1) lt long up in
    ap (λ d. d ++ channel_in k (map framed (frames_from b a n (number + 1)))) here ∙ ap (λ d. take size (drop start c) ++ d) (more ∙ ap (λ s. drop s c) onwards)
    ∙ ap (λ s. take (min b (s - start)) (drop start c) ++ drop (start + b) c) (sym long) ∙ cut_here b start c

-- blocks have no samples
channel_after : (k : ℕ) (bs : List Block) (xs : List Piece) → channel_in k (closing bs ++ xs) ≡ channel_in k xs
channel_after k [] xs = refl
channel_after k (b ∷ bs) xs = channel_after k bs xs

have_samples : (p : Cut) (list : List Block) (a : Sound) (before after : List Bool) (e : Encodes p list a before after) → plan_fault p ≡ None → IsSound a → HaveSamples a (parts_of p list a before after e)
have_samples p list a before after e fault sound k lt =
    let b = p.block_size in
    let total = samples_each a.channels in
    let frames = map framed (frames_from b a (blocks_in b total) 0) in
    let info = blocks.StreamInfo (info_of p a e.least e.greatest) in
    let all : total ≤ b * (0 + blocks_in b total) = omega (arith, all_parts b total (planned p fault).least) in
    let whole : b * 0 ≡ 0 = omega arith in
    channel_after k (info ∷ list ++ table_of (points_of p e.frames)) frames ∙ channel_from b a k (blocks_in b total) 0 lt (sound.long k [] lt) all ∙ ap (λ s. drop s (slice_index_or a.channels k [])) whole

-- ---- the whole

pub encoded_are_read_back : EncodedAreReadBack
encoded_are_read_back m p list a before after z e =
    let text = stream_spelling p (list ++ table_of (points_of p e.frames)) a e.least e.greatest e.frames in
    let parts = parts_of p list a before after e in
    record {
      text = text;
      added = e.written;
      only = only_these p.profile m parts text (stream_any p.profile (beginning Truncated) m parts text refl z e.stream);
      samples = have_samples p list a before after e;
    }
