-- Where the parts of a picture are in a stream.
use Rattle.std.proofs.Common.{◌≡◌, ℕ, ◌+◌, ◌*◌, Bool, true, List, [], ◌∷◌, ◌++◌, length, length-append, take, drop, append_assoc, append-nil, refl, sym, ap, subst, ◌∙◌, arith}
use Rattle.std.proofs.Math.Seq.{take-append_seam, drop-append_seam}
use Rattle.flac_bits.specs.Bits.{bits_of, unsigned}
use Rattle.flac_bits.specs.State.{Mark, past, fresh}
use Rattle.flac_bits.specs.Meaning.{Spells}
use Rattle.flac_bits.specs.Items.{Joined}
use Rattle.flac_bits.proofs.Fencing.{take_bits, drop_bits}
use Rattle.flac_bits.proofs.Holding.{length-bits_of}
use Rattle.flac_bits.proofs.Words.{length-unsigned}
use Rattle.flac_meta.specs.Spelling as s
use Rattle.flac_meta.specs.Valid.{BlockSpelled}
use Rattle.flac_meta.specs.declared.picture.Picture.{Picture}
use Rattle.flac_meta.specs.declared.block.Block.{Block}
use Rattle.flac_meta.specs.declared.block.Block.TheVariants as block_of
use Rattle.flac_native.specs.Stream.{Piece, marked, block, framed, Progress, Stand, grammar, next, layout}
use Rattle.flac_native.specs.declared.track.Phase.{Phase}
use Rattle.flac_native.specs.declared.track.Phase.TheVariants.{Opening, Blocks, Frames}
use Rattle.flac_native.proofs.Blocks.{block_there, marker_there}
use Rattle.flac_native.proofs.Onwards.{frame_there}
use Rattle.flac_native.proofs.WholeBytes.{header_long}
use Rattle.flac_c.specs.Described.{HasPicture, ShowsPicture, HasPictures, picture_at}
use Rattle.flac_c.specs.Starts.{are_metadata}
use Rattle.flac_c.specs.inner.Described.{bytes_in}
use Rattle.flac_c.proofs.Listing.{one_long, first_metadata}
use Rattle.flac_c.proofs.StreamStarts.{fewer_metadata}

-- ---- one part

module _ (stream : List ℕ) where
  -- whole bytes after whole bytes
  part_at : (pre mid post : List Bool) (k n : ℕ) → bits_of stream ≡ pre ++ (mid ++ post) → length pre ≡ 8 * k → length mid ≡ 8 * n → bits_of (take n (drop k stream)) ≡ mid
  part_at pre mid post k n split before long =
      sym (take_bits n (drop k stream))
      ∙ ap (λ (t : List Bool). take (8 * n) t) (sym (drop_bits k stream) ∙ ap (λ (t : List Bool). drop (8 * k) t) split ∙ ap (λ (i : ℕ). drop i (pre ++ (mid ++ post))) (sym before) ∙ drop-append_seam pre (mid ++ post))
      ∙ ap (λ (i : ℕ). take i (mid ++ post)) (sym long)
      ∙ take-append_seam mid post

  -- bytes of this many after bits
  bytes_at : (pre post : List Bool) (content : List ℕ) (k : ℕ) → bits_of stream ≡ pre ++ (bits_of content ++ post) → length pre ≡ 8 * k → bits_of (take (length content) (drop k stream)) ≡ bits_of content
  bytes_at pre post content k split before = part_at pre (bits_of content) post k (length content) split before (length-bits_of content)

  -- ---- a picture

  -- what is before each of its texts, and after it
  media_split : (pre h a b m r rest : List Bool) → pre ++ ((h ++ ((a ++ ((b ++ (m ++ [])) ++ r)) ++ [])) ++ rest) ≡ (pre ++ (h ++ (a ++ b))) ++ (m ++ (r ++ rest))
  media_split pre h a b m r rest = simp (append_assoc, append-nil)

  text_split : (pre h a b m c t r rest : List Bool) → pre ++ ((h ++ ((a ++ ((b ++ (m ++ [])) ++ ((c ++ (t ++ [])) ++ r))) ++ [])) ++ rest) ≡ (pre ++ (h ++ (a ++ (b ++ (m ++ c))))) ++ (t ++ (r ++ rest))
  text_split pre h a b m c t r rest = simp (append_assoc, append-nil)

  data_split : (pre h a b m c t w x y z e d rest : List Bool) → pre ++ ((h ++ ((a ++ ((b ++ (m ++ [])) ++ ((c ++ (t ++ [])) ++ (w ++ (x ++ (y ++ (z ++ ((e ++ (d ++ [])) ++ [])))))))) ++ [])) ++ rest)
      ≡ (pre ++ (h ++ (a ++ (b ++ (m ++ (c ++ (t ++ (w ++ (x ++ (y ++ (z ++ e))))))))))) ++ (d ++ rest)
  data_split pre h a b m c t w x y z e d rest = simp (append_assoc, append-nil)

  picture_there : (pre text rest : List Bool) (at : ℕ) (last : Bool) (p : Picture) → bits_of stream ≡ pre ++ (text ++ rest) → length pre ≡ 8 * at → BlockSpelled last (block_of.Picture p) text → HasPicture stream p (picture_at (at + 4) p)
  unfolding s.content_spelling s.picture_spelling s.sized_bits
  picture_there pre text rest at last p split before (content, spelled, is) =
      let h : List Bool = s.header_spelling last 6 (s.length_of (block_of.Picture p)) in
      let a : List Bool = unsigned 32 p.kind in
      let b : List Bool = unsigned 32 (length p.media) in
      let m : List Bool = bits_of p.media in
      let c : List Bool = unsigned 32 (length p.text) in
      let t : List Bool = bits_of p.text in
      let w : List Bool = unsigned 32 p.width in
      let x : List Bool = unsigned 32 p.height in
      let y : List Bool = unsigned 32 p.depth in
      let z : List Bool = unsigned 32 p.colours in
      let e : List Bool = unsigned 32 (length p.bytes) in
      let d : List Bool = bits_of p.bytes in
      let tail : List Bool = w ++ (x ++ (y ++ (z ++ ((e ++ (d ++ [])) ++ [])))) in
      let whole : bits_of stream ≡ pre ++ ((h ++ ((a ++ ((b ++ (m ++ [])) ++ ((c ++ (t ++ [])) ++ tail))) ++ [])) ++ rest) =
      split ∙ ap (λ (l : List Bool). pre ++ (l ++ rest)) (is ∙ ap (λ (l : List Bool). h ++ (l ++ [])) spelled) in
      let head : length h ≡ 32 = header_long last 6 (s.length_of (block_of.Picture p)) in
      let ma = length-bits_of p.media in
      let ta = length-bits_of p.text in
      let long_media : length (pre ++ (h ++ (a ++ b))) ≡ 8 * (at + 4 + 8) =
      omega (arith, length-append pre (h ++ (a ++ b)), length-append h (a ++ b), length-append a b, before, head, length-unsigned 32 p.kind, length-unsigned 32 (length p.media)) in
      let long_text : length (pre ++ (h ++ (a ++ (b ++ (m ++ c))))) ≡ 8 * (at + 4 + 12 + length p.media) =
      omega (
        arith,
        length-append pre (h ++ (a ++ (b ++ (m ++ c)))),
        length-append h (a ++ (b ++ (m ++ c))),
        length-append a (b ++ (m ++ c)),
        length-append b (m ++ c),
        length-append m c,
        before,
        head,
        ma,
        length-unsigned 32 p.kind,
        length-unsigned 32 (length p.media),
        length-unsigned 32 (length p.text),
      ) in
      let long_data : length (pre ++ (h ++ (a ++ (b ++ (m ++ (c ++ (t ++ (w ++ (x ++ (y ++ (z ++ e))))))))))) ≡ 8 * (at + 4 + 32 + length p.media + length p.text) =
      omega (
        arith,
        length-append pre (h ++ (a ++ (b ++ (m ++ (c ++ (t ++ (w ++ (x ++ (y ++ (z ++ e)))))))))),
        length-append h (a ++ (b ++ (m ++ (c ++ (t ++ (w ++ (x ++ (y ++ (z ++ e))))))))),
        length-append a (b ++ (m ++ (c ++ (t ++ (w ++ (x ++ (y ++ (z ++ e)))))))),
        length-append b (m ++ (c ++ (t ++ (w ++ (x ++ (y ++ (z ++ e))))))),
        length-append m (c ++ (t ++ (w ++ (x ++ (y ++ (z ++ e)))))),
        length-append c (t ++ (w ++ (x ++ (y ++ (z ++ e))))),
        length-append t (w ++ (x ++ (y ++ (z ++ e)))),
        length-append w (x ++ (y ++ (z ++ e))),
        length-append x (y ++ (z ++ e)),
        length-append y (z ++ e),
        length-append z e,
        before,
        head,
        ma,
        ta,
        length-unsigned 32 p.kind,
        length-unsigned 32 (length p.media),
        length-unsigned 32 (length p.text),
        length-unsigned 32 p.width,
        length-unsigned 32 p.height,
        length-unsigned 32 p.depth,
        length-unsigned 32 p.colours,
        length-unsigned 32 (length p.bytes),
      ) in
      record {
        media = bytes_at (pre ++ (h ++ (a ++ b))) (((c ++ (t ++ [])) ++ tail) ++ rest) p.media (at + 4 + 8) (whole ∙ media_split pre h a b m ((c ++ (t ++ [])) ++ tail) rest) long_media;
        text = bytes_at (pre ++ (h ++ (a ++ (b ++ (m ++ c))))) (tail ++ rest) p.text (at + 4 + 12 + length p.media) (whole ∙ text_split pre h a b m c t tail rest) long_text;
        bytes = bytes_at (pre ++ (h ++ (a ++ (b ++ (m ++ (c ++ (t ++ (w ++ (x ++ (y ++ (z ++ e))))))))))) rest p.bytes (at + 4 + 32 + length p.media + length p.text) (whole ∙ data_split pre h a b m c t w x y z e d rest) long_data;
      }

  shown : (pre text rest : List Bool) (at : ℕ) (last : Bool) (b : Block) → bits_of stream ≡ pre ++ (text ++ rest) → length pre ≡ 8 * at → BlockSpelled last b text → ShowsPicture stream (at + 4) b
  shown pre text rest at last (block_of.Picture p) split before spelled = picture_there pre text rest at last p split before spelled
  shown pre text rest at last (block_of.StreamInfo i) split before spelled = tt
  shown pre text rest at last (block_of.Padding n) split before spelled = tt
  shown pre text rest at last (block_of.Application id bytes) split before spelled = tt
  shown pre text rest at last (block_of.SeekTable points) split before spelled = tt
  shown pre text rest at last (block_of.VorbisComment found) split before spelled = tt
  shown pre text rest at last (block_of.CueSheet sheet) split before spelled = tt
  shown pre text rest at last (block_of.Other kind bytes) split before spelled = tt

  -- ---- all parts

  same_block : (l k : Bool) (b c : Block) → block l b ≡ block k c → (k ≡ l) × (c ≡ b)
  same_block l k b c e = (cc, cc)

  spelled_block : (st : Stand) (m : Mark) (text : List Bool) (last : Bool) (b : Block) → Spells (layout st) (fresh m) text (block last b) → BlockSpelled last b text
  spelled_block st m text last b h = go st.phase refl
    where
      go : (k : Phase) → st.phase ≡ k → BlockSpelled last b text
      go Opening e = let g = (marker_there st (fresh m) text (block last b) e h).0 in absurd cc
      go Blocks e =
          let t = block_there st (fresh m) text (block last b) e h in
          let same = same_block last t.last b t.is t.part in
          subst (λ (k : Bool). BlockSpelled k b text) same.0 (subst (λ (c : Block). BlockSpelled t.last c text) same.1 t.spelled)
      go Frames e = let t = frame_there st (fresh m) text (block last b) e h in let g = t.part in absurd cc

  pub pictures_there : (p : Progress) (m : Mark) (items : List Piece) (pre text rest : List Bool) (at : ℕ) → bits_of stream ≡ pre ++ (text ++ rest) → length pre ≡ 8 * at → are_metadata items ≡ true → Joined grammar p m items text → HasPictures stream at items
  pictures_there p m [] pre text rest at split before metadata j = tt
  pictures_there p m (x ∷ xs) pre text rest at split before metadata (front, more, parts, spelled, fits, others) =
      let one = one_long p.stand m front x (first_metadata x xs metadata) spelled in
      let next_split : bits_of stream ≡ (pre ++ front) ++ (more ++ rest) = split ∙ ap (λ (l : List Bool). pre ++ (l ++ rest)) parts ∙ regrouped pre front more rest in
      let long = length-append pre front in
      let first_split : bits_of stream ≡ pre ++ (front ++ (more ++ rest)) = split ∙ ap (λ (l : List Bool). pre ++ (l ++ rest)) parts ∙ ap (λ (l : List Bool). pre ++ l) (append_assoc front more rest) in
      step x (λ (i : ℕ) e. pictures_there (next p x) (past front (fresh m)) xs (pre ++ front) more rest i next_split e (fewer_metadata x xs metadata) others) one long first_split spelled metadata
    where
      regrouped : (a b c d : List Bool) → a ++ ((b ++ c) ++ d) ≡ (a ++ b) ++ (c ++ d)
      regrouped a b c d = simp append_assoc

      step : (y : Piece) → ((i : ℕ) → length (pre ++ front) ≡ 8 * i → HasPictures stream i xs) → length front ≡ 8 * bytes_in (y ∷ []) → length (pre ++ front) ≡ length pre + length front
          → bits_of stream ≡ pre ++ (front ++ (more ++ rest)) → Spells (layout p.stand) (fresh m) front y → are_metadata (y ∷ xs) ≡ true → HasPictures stream at (y ∷ xs)
      step marked others one long cut spelled kind = others (at + 4) (omega (arith, one, long, before))
      step (block last b) others one long cut spelled kind =
          (shown pre front (more ++ rest) at last b cut before (spelled_block p.stand m front last b spelled), others (at + 4 + s.length_of b) (omega (arith, one, long, before)))
      step (framed f) others one long cut spelled kind = absurd cc
