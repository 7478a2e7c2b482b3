-- A stream over more predictors is no longer: its frames are not, and its other parts are as long.
use Rattle.std.proofs.Common.{◌≡◌, ◌∙◌, refl, sym, ap, ℕ, zero, suc, ◌+◌, ◌*◌, ◌/◌, ◌≤◌, ◌<◌, arith, Bool, true, false, cond, List, [], ◌∷◌, ◌++◌, length, length-append, map, All}
use Rattle.std.specs.Prelude.{slice_index_or}
use Rattle.std.proofs.lemmas.List.{append-nil}
use Rattle.flac_bits.specs.Bits.{unsigned, is_nil}
use Rattle.flac_bits.specs.Forms.{joined}
use Rattle.flac_bits.proofs.Words.{length-unsigned}
use Rattle.flac_info.specs.Info.{Info}
use Rattle.flac_meta.specs.Spelling as s
use Rattle.flac_meta.specs.declared.seek_table.SeekPoint.{SeekPoint}
use Rattle.flac_meta.specs.declared.block.Block.{Block}
use Rattle.flac_meta.specs.declared.block.Block.TheVariants as block_of
use Rattle.flac_subframe.specs.declared.format.linear.LinearPredictor.{LinearPredictor}
use Rattle.flac_subframe.specs.format.Handed.{predictor_of}
use Rattle.flac_frame.specs.Audio.{Sound}
use Rattle.flac_frame.specs.Frame.{Frame}
use Rattle.flac_frame.specs.PlaneLists.{Lists, same_list}
use Rattle.flac_native.specs.Given.{Cut, with_found, tried, has_point, info_of, frame_of, sound_message}
use Rattle.flac_native.specs.Seeking.{point_at, points_from, points_of, table_of}
use Rattle.flac_native.specs.Writing.{SpellsLeastByPlane, blocks_spelling, stream_spelling}
use Rattle.flac_native.proofs.Digests.{digest_is_bytes}
use Rattle.flac_native.proofs.WholeBytes.{length-joined, header_long, info_long}
use Rattle.flac_predict.specs.Found.{IsPrefixOf, AllBegin}
use Rattle.flac_predict.specs.Searched.{SearchesShorten}
use Rattle.flac_predict.proofs.Longer.{more_shorten}

-- ---- frames

itself : (ps : List LinearPredictor) → IsPrefixOf ps ps
itself ps = ([], sym (append-nil (map predictor_of ps)))

-- what is tried for each plane of each frame begins with the plan's
begins_at : (ps : List LinearPredictor) (lists : List (List LinearPredictor)) (plane : ℕ) → All (IsPrefixOf ps) lists → IsPrefixOf ps (slice_index_or lists plane ps)
begins_at ps [] plane h = itself ps
begins_at ps (l ∷ lists) zero h = h 0 l (omega arith)
begins_at ps (l ∷ lists) (suc plane) h = begins_at ps lists plane (λ j d lt. h (suc j) d (omega (arith, lt)))

tried_begins : (p : Cut) (found : List (List (List LinearPredictor))) (i plane : ℕ) → AllBegin p.predictors found → IsPrefixOf p.predictors (tried (with_found p found) i plane)
tried_begins p [] i plane h = itself p.predictors
tried_begins p (f ∷ found) zero plane h = begins_at p.predictors f plane (h 0 f (omega arith))
tried_begins p (f ∷ found) (suc i) plane h = tried_begins p found i plane (λ j d lt. h (suc j) d (omega (arith, lt)))

together : (fs gs : List (List Bool)) → length gs ≡ length fs → ((i : ℕ) → i < length fs → length (slice_index_or gs i []) ≤ length (slice_index_or fs i [])) → length (joined gs) ≤ length (joined fs)
together [] [] e h = omega arith
together [] (g ∷ gs) e h = absurd (omega (arith, e))
together (f ∷ fs) [] e h = absurd (omega (arith, e))
together (f ∷ fs) (g ∷ gs) e h =
    omega (arith, length-append f (joined fs), length-append g (joined gs), h 0 (omega arith), together fs gs (omega (arith, e)) (λ i lt. h (suc i) (omega (arith, lt))))

spelled_shorter : (front lists : Lists) (a : Sound) (b : Frame) → ((plane : ℕ) → IsPrefixOf (front plane) (lists plane)) → (f g : List Bool) → SpellsLeastByPlane front a b f → SpellsLeastByPlane lists a b g → length g ≤ length f
spelled_shorter front lists a b begins f g x y =
    let le = more_shorten front lists a b.size b.number b.channels x.form y.form begins x.least y.least in
    omega (arith, le, ap (λ (k : List Bool). length k) x.spelling, ap (λ (k : List Bool). length k) y.spelling)

-- ---- the seek table

one_more : (b : Bool) (x y : SeekPoint) → length (cond b (x ∷ []) []) ≡ length (cond b (y ∷ []) [])
one_more true x y = refl
one_more false x y = refl

-- frames have as many points, whatever their lengths
as_many : (p : Cut) (fs gs : List (List Bool)) (number m n : ℕ) → length gs ≡ length fs → length (points_from p number n gs) ≡ length (points_from p number m fs)
as_many p [] [] number m n e = refl
as_many p [] (g ∷ gs) number m n e = absurd (omega (arith, e))
as_many p (f ∷ fs) [] number m n e = absurd (omega (arith, e))
as_many p (f ∷ fs) (g ∷ gs) number m n e =
    let rest = as_many p fs gs (number + 1) (m + length f / 8) (n + length g / 8) (omega (arith, e)) in
    let first : length (point_at p number n) ≡ length (point_at p number m) = one_more (has_point p.block_size p.total p.seek_every number) _ _ in
    omega (arith, rest, first, length-append (point_at p number n) (points_from p (number + 1) (n + length g / 8) gs), length-append (point_at p number m) (points_from p (number + 1) (m + length f / 8) fs))

point_long : (x : SeekPoint) → length (s.point_spelling x) ≡ 144
unfolding s.point_spelling
point_long x = omega (arith, length-joined (unsigned 64 x.sample ∷ unsigned 64 x.offset ∷ unsigned 16 x.length ∷ []), length-unsigned 64 x.sample, length-unsigned 64 x.offset, length-unsigned 16 x.length)

points_long : (xs : List SeekPoint) → length (s.each_spelled s.point_spelling xs) ≡ 144 * length xs
unfolding s.each_spelled
points_long [] = refl
points_long (x ∷ xs) = omega (arith, length-append (s.point_spelling x) (s.each_spelled s.point_spelling xs), point_long x, points_long xs)

-- ---- blocks

block_size : (last : Bool) (b : Block) → length (s.block_spelling last b) ≡ 32 + length (s.content_spelling b)
unfolding s.block_spelling
block_size last b = omega (arith, length-joined (s.header_spelling last (s.kind_of b) (s.length_of b) ∷ s.content_spelling b ∷ []), header_long last (s.kind_of b) (s.length_of b))

table_size : (last : Bool) (xs : List SeekPoint) → length (s.block_spelling last (block_of.SeekTable xs)) ≡ 32 + 144 * length xs
unfolding s.content_spelling
table_size last xs = block_size last (block_of.SeekTable xs) ∙ ap (λ n. 32 + n) (points_long xs)

same_tables : (xs ys : List SeekPoint) → length ys ≡ length xs → length (blocks_spelling (table_of ys)) ≡ length (blocks_spelling (table_of xs))
same_tables [] [] e = refl
same_tables [] (y ∷ ys) e = absurd (omega (arith, e))
same_tables (x ∷ xs) [] e = absurd (omega (arith, e))
same_tables (x ∷ xs) (y ∷ ys) e =
    let tx = s.block_spelling true (block_of.SeekTable (x ∷ xs)) in
    let ty = s.block_spelling true (block_of.SeekTable (y ∷ ys)) in
    omega (arith, length-append tx [], length-append ty [], table_size true (x ∷ xs), table_size true (y ∷ ys), e)

same_blocks : (list : List Block) (xs ys : List SeekPoint) → length ys ≡ length xs → length (blocks_spelling (list ++ table_of ys)) ≡ length (blocks_spelling (list ++ table_of xs))
same_blocks [] xs ys e = same_tables xs ys e
same_blocks (b ∷ list) xs ys e =
    let lx = list ++ table_of xs in
    let ly = list ++ table_of ys in
    omega (arith, same_blocks list xs ys e, length-append (s.block_spelling (is_nil lx) b) (blocks_spelling lx), length-append (s.block_spelling (is_nil ly) b) (blocks_spelling ly), block_size (is_nil lx) b, block_size (is_nil ly) b)

info_size : (last : Bool) (i : Info) → length i.digest ≡ 16 → length (s.block_spelling last (block_of.StreamInfo i)) ≡ 304
unfolding s.content_spelling
info_size last i digest = omega (arith, block_size last (block_of.StreamInfo i), info_long i digest)

-- ---- the whole

-- how many bits a stream has
stream_size : (p : Cut) (list : List Block) (a : Sound) (least greatest : ℕ) (frames : List (List Bool)) → length (stream_spelling p list a least greatest frames) ≡ 336 + (length (blocks_spelling list) + length (joined frames))
stream_size p list a least greatest frames =
    let info = info_of p a least greatest in
    let head = blocks_spelling (block_of.StreamInfo info ∷ list) in
    let digest = digest_is_bytes (sound_message a) in
    omega (
      arith,
      length-append (unsigned 32 0x664C6143) (head ++ joined frames),
      length-unsigned 32 0x664C6143,
      length-append head (joined frames),
      length-append (s.block_spelling (is_nil list) (block_of.StreamInfo info)) (blocks_spelling list),
      info_size (is_nil list) info digest.many,
    )

pub searches_shorten : SearchesShorten
searches_shorten p found list a before without after begins x y =
    let fs = x.frames in
    let gs = y.frames in
    let many : length gs ≡ length fs = y.are.many ∙ sym x.are.many in
    let least : length (joined gs) ≤ length (joined fs) = together fs gs many (λ i lt.
    spelled_shorter (same_list p.predictors) (tried (with_found p found) i) a (frame_of p.block_size a i) (λ plane. tried_begins p found i plane begins) _ _ (x.are_least i lt) (y.are_least i (omega (arith, lt, many)))) in
    let xs = points_of p fs in
    let ys = points_of p gs in
    let blocks = same_blocks list xs ys (as_many p fs gs 0 0 0 many) in
    omega (
      arith,
      least,
      blocks,
      ap (λ (k : List Bool). length k) x.written,
      ap (λ (k : List Bool). length k) y.written,
      length-append before (stream_spelling (with_found p []) (list ++ table_of xs) a x.least x.greatest fs),
      length-append before (stream_spelling (with_found p found) (list ++ table_of ys) a y.least y.greatest gs),
      stream_size (with_found p []) (list ++ table_of xs) a x.least x.greatest fs,
      stream_size (with_found p found) (list ++ table_of ys) a y.least y.greatest gs,
    )
