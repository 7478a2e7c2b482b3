-- A WAV file that a stream keeps comes back.
use Rattle.std.proofs.Common.{◌≡◌, ◌≤◌, ◌<◌, ◌+◌, ◌-◌, ◌*◌, ◌/◌, ◌%◌, arith, ℕ, Bool, true, false, cond, List, [], ◌∷◌, ◌++◌, map, length, Some, None, refl, ap, sym, subst, ◌∙◌, ◌⊎◌, inl, inr}
use Rattle.std.specs.Prelude.{nat_lt, ◌&&◌, not}
use Rattle.std.proofs.Math.Nat.{mul-div_cancel}
use Rattle.std.proofs.lemmas.Bool.{eq-eqb, ne_eqb, lt-ltb, le-ltb}
use Rattle.std.proofs.lemmas.Nat.{div-add-mod'}
use Rattle.std.specs.Int.Bits.{xor_assoc, xor_zero_r}
use Rattle.std.proofs.lemmas.List.{append-nil}
use Rattle.flac_meta.specs.declared.block.Block.{Block}
use Rattle.flac_meta.specs.declared.seek_table.SeekPoint.{SeekPoint}
use Rattle.flac_frame.specs.Audio.{Sound}
use Rattle.flac_frame.specs.Frame.{Frame}
use Rattle.flac_native.specs.Stream.{Piece, framed}
use Rattle.flac_native.specs.Given.{Cut, plan_fault, sound_message, closing, given, frames_of}
use Rattle.flac_native.specs.Samples.{samples_from}
use Rattle.flac_native.specs.Seeking.{points_of, table_of}
use Rattle.flac_cli.specs.Asked.{Asked}
use Rattle.flac_cli.specs.Encoded.{EncodesIn, BeginsIn, parts_in, cut_as}
use Rattle.flac_cli.specs.Predictors.{AreListed}
use Rattle.flac_cli.specs.inner.Searching.{IsSearched}
use Rattle.flac_cli.specs.Speakers.{words_with}
use Rattle.flac_cli.specs.Waves.{turned, wave_samples, file_samples, low_samples, stream_samples, depth_for, riff_block, pieces_in, depth_of, plain_of, file_pieces, wave_in, kept_list, kept_pieces, no_plain, has_room, piece_fault, kept_fault, wave_width_by, Keeps, BeginsWave}
use Rattle.flac_cli.specs.declared.held_wave.KeptFault.TheVariants as kept
use Rattle.flac_cli.proofs.Back.{given_back}
use Rattle.flac_cli.proofs.Waved.{high_same, high_other}
use Rattle.flac_cli.proofs.Searched.{cut_is, are_found}
use Rattle.flac_jobs.specs.declared.formats.ContainerKind.{ContainerKind}
use Rattle.flac_jobs.specs.declared.formats.ContainerKind.TheVariants as container
use Rattle.flac_jobs.specs.declared.formats.RawFormat.{RawFormat}
use Rattle.flac_subframe.specs.declared.format.linear.LinearPredictor.{LinearPredictor}
use Rattle.flac_wave.specs.Wave.{Parts, restored}
use Rattle.flac_wave.specs.Plain.{other_mask}
use Rattle.flac_wave.specs.Kept.{bits_in, are_file}
use Rattle.flac_wave.proofs.Files.{comes_back}
use Rattle.flac_wave.proofs.Formats.{wave_tells, wave_whole}
use Rattle.flac_wave.proofs.Shifts.{samples_back, lowered_long, depth_cases, stated_some}
use Rattle.flac_wave.specs.Format.{IsInRange}
use Rattle.flac_wave.specs.Shift.{AreBytes, raised, lowered, are_low_zero, wave_width_of, depth_in}
use Rattle.flac_wave.specs.declared.format.WaveFormat.{WaveFormat}
use Rattle.flac_native.specs.Message.{sample_width}

-- ---- samples

turned_twice : (b : ℕ) → turned (turned b) ≡ b
turned_twice b = xor_assoc b 128 128 ∙ xor_zero_r b

all_turned : (xs : List ℕ) → map turned (map turned xs) ≡ xs
all_turned [] = refl
all_turned (x ∷ xs) = ap (λ y. y ∷ map turned (map turned xs)) (turned_twice x) ∙ ap (λ ys. x ∷ ys) (all_turned xs)

turned_by : (b : Bool) (xs : List ℕ) → cond b (map turned (cond b (map turned xs) xs)) (cond b (map turned xs) xs) ≡ xs
turned_by true xs = all_turned xs
turned_by false xs = refl

pub wave_again : (depth : ℕ) (xs : List ℕ) → wave_samples depth (wave_samples depth xs) ≡ xs
wave_again depth xs = turned_by (nat_lt depth 9) xs

-- ---- blocks that keep pieces

no_pieces : (fs : List Frame) → pieces_in (map framed fs) ≡ []
no_pieces [] = refl
no_pieces (f ∷ fs) = no_pieces fs

same_depth : (d : ℕ) (fs : List Frame) → depth_of d (map framed fs) ≡ d
same_depth d [] = refl
same_depth d (f ∷ fs) = same_depth d fs

pieces_kept : (qs : List (List ℕ)) (ts : List Block) (xs : List Piece) → pieces_in (closing (map riff_block qs ++ ts) ++ xs) ≡ qs ++ pieces_in (closing ts ++ xs)
pieces_kept [] ts xs = refl
pieces_kept (q ∷ qs) ts xs = ap (λ l. q ∷ l) (pieces_kept qs ts xs)

depth_kept : (d : ℕ) (qs : List (List ℕ)) (ts : List Block) (xs : List Piece) → depth_of d (closing (map riff_block qs ++ ts) ++ xs) ≡ depth_of d (closing ts ++ xs)
depth_kept d [] ts xs = refl
depth_kept d (q ∷ qs) ts xs = depth_kept d qs ts xs

samples_kept : (d : ℕ) (qs : List (List ℕ)) (ts : List Block) (xs : List Piece) → samples_from 0 d (closing (map riff_block qs ++ ts) ++ xs) ≡ samples_from 0 d (closing ts ++ xs)
samples_kept d [] ts xs = refl
samples_kept d (q ∷ qs) ts xs = samples_kept d qs ts xs

-- ---- the parts of a stream

-- what a seek table changes: nothing
record Quiet (ts : List Block) : Type 0 where
  pieces : (xs : List Piece) → pieces_in (closing ts ++ xs) ≡ pieces_in xs
  depth : (d : ℕ) (xs : List Piece) → depth_of d (closing ts ++ xs) ≡ depth_of d xs
  samples : (d : ℕ) (xs : List Piece) → samples_from 0 d (closing ts ++ xs) ≡ samples_from 0 d xs

quiet : (points : List SeekPoint) → Quiet (table_of points)
quiet [] = record { pieces = λ xs. refl; depth = λ d xs. refl; samples = λ d xs. refl }
quiet (p ∷ ps) = record { pieces = λ xs. refl; depth = λ d xs. refl; samples = λ d xs. refl }

-- the pieces and the depth of what is given
record Told (parts : List Piece) (qs : List (List ℕ)) (bits : ℕ) : Type 0 where
  pieces : pieces_in parts ≡ qs
  depth : depth_of 0 parts ≡ bits

given_told : (p : Cut) (a : Sound) (words qs : List (List ℕ)) (points : List SeekPoint) (least greatest : ℕ) → Told (given p (kept_list words qs ++ table_of points) a least greatest) qs a.bits
given_told p a words qs points least greatest =
    let fs = map framed (frames_of p.block_size a) in
    let ts = table_of points in
    let q = quiet points in
    record {
      pieces = pieces_kept qs ts fs ∙ (ap (λ l. qs ++ l) (q.pieces fs ∙ no_pieces (frames_of p.block_size a)) ∙ append-nil qs);
      depth = depth_kept a.bits qs ts fs ∙ (q.depth a.bits fs ∙ same_depth a.bits (frames_of p.block_size a));
    }

parts_told : (c : ContainerKind) (p : Cut) (a : Sound) (list : List Block) (words qs : List (List ℕ)) → list ≡ kept_list words qs → (before after : List Bool) (e : EncodesIn c p list a before after)
    → Told (parts_in c p list a before after e) qs a.bits
parts_told container.Native p a list words qs h before after e =
    subst (λ l. Told (given p (l ++ table_of (points_of p e.frames)) a e.least e.greatest) qs a.bits) (sym h) (given_told p a words qs (points_of p e.frames) e.least e.greatest)
parts_told (container.Ogg serial) p a list words qs h before after e =
    let t : Told (given p list a e.are.least e.are.greatest) qs a.bits =
    subst (λ l. Told (given p l a e.are.least e.are.greatest) qs a.bits) (append-nil (kept_list words qs) ∙ sym h) (given_told p a words qs [] e.are.least e.are.greatest) in
    record { pieces = t.pieces; depth = t.depth }

-- the file of what is given
given_wave : (p : Cut) (a : Sound) (words qs : List (List ℕ)) (points : List SeekPoint) (least greatest : ℕ) → are_file qs ≡ true → plan_fault p ≡ None
    → wave_in (given p (kept_list words qs ++ table_of points) a least greatest) ≡ restored qs (file_samples ((bits_in 0 qs + 7) / 8) a.bits (sound_message a))
given_wave p a words qs points least greatest head good =
    let fs = map framed (frames_of p.block_size a) in
    let ts = table_of points in
    let q = quiet points in
    let pieces : pieces_in (closing (map riff_block qs ++ ts) ++ fs) ≡ qs = pieces_kept qs ts fs ∙ (ap (λ l. qs ++ l) (q.pieces fs ∙ no_pieces (frames_of p.block_size a)) ∙ append-nil qs) in
    let depth : depth_of a.bits (closing (map riff_block qs ++ ts) ++ fs) ≡ a.bits = depth_kept a.bits qs ts fs ∙ (q.depth a.bits fs ∙ same_depth a.bits (frames_of p.block_size a)) in
    let samples : samples_from 0 a.bits (closing (map riff_block qs ++ ts) ++ fs) ≡ sound_message a = samples_kept a.bits qs ts fs ∙ (q.samples a.bits fs ∙ given_back p a [] [] least greatest good) in
    let plain = (plain_of no_plain (given p (kept_list words qs ++ ts) a least greatest)).made in
    let end = depth_of a.bits (closing (map riff_block qs ++ ts) ++ fs) in
    let text = samples_from 0 a.bits (closing (map riff_block qs ++ ts) ++ fs) in
    ap (λ l. restored (file_pieces l plain) (file_samples (wave_width_by (are_file l) (bits_in 0 l) end) end text)) pieces
    ∙ (ap (λ c. restored (cond c qs plain) (file_samples (wave_width_by c (bits_in 0 qs) end) end text)) head
    ∙ (ap (λ d. restored qs (file_samples ((bits_in 0 qs + 7) / 8) d text)) depth
    ∙ ap (λ l. restored qs (file_samples ((bits_in 0 qs + 7) / 8) a.bits l)) samples))

-- native or in Ogg, where no seek table stands
parts_wave : (c : ContainerKind) (p : Cut) (a : Sound) (list : List Block) (words qs : List (List ℕ)) → list ≡ kept_list words qs → are_file qs ≡ true → (before after : List Bool) (e : EncodesIn c p list a before after)
    → plan_fault p ≡ None → wave_in (parts_in c p list a before after e) ≡ restored qs (file_samples ((bits_in 0 qs + 7) / 8) a.bits (sound_message a))
parts_wave container.Native p a list words qs h head before after e good =
    ap (λ l. wave_in (given p (l ++ table_of (points_of p e.frames)) a e.least e.greatest)) h ∙ given_wave p a words qs (points_of p e.frames) e.least e.greatest head good
parts_wave (container.Ogg serial) p a list words qs h head before after e good =
    ap (λ l. wave_in (given p l a e.are.least e.are.greatest)) (h ∙ sym (append-nil (kept_list words qs))) ∙ given_wave p a words qs [] e.are.least e.are.greatest head good

-- ---- the samples of a file come back

-- how many bits a stream has
depth_some : (f : WaveFormat) (xs : List ℕ) → IsInRange f → (0 < depth_in f xs) × (depth_in f xs ≤ 8 * wave_width_of f)
depth_some f xs r = elim (depth_cases f xs) [
  | inl all ↦ let some = r.bits in (omega (arith, all, some), omega (arith, all))
  | inr n ↦ let some = stated_some (depth_in f xs) n.stated in let few = n.few in (omega (arith, some), omega (arith, few))
]

samples_by : (wide depth : ℕ) (xs : List ℕ) → depth ≡ 8 * wide → file_samples wide depth (stream_samples wide depth xs) ≡ xs
samples_by wide depth xs all =
    let ys = wave_samples (8 * wide) xs in
    let low : low_samples wide depth ys ≡ ys = ap (λ b. cond b ys (lowered wide (sample_width depth) (8 * wide - depth) (length ys / wide) ys)) (eq-eqb depth (8 * wide) all) in
    ap (λ l. file_samples wide depth l) low ∙ (ap (λ l. wave_samples (8 * wide) l) (high_same wide depth ys all) ∙ wave_again (8 * wide) xs)

narrow_by : (wide depth : ℕ) (xs : List ℕ) → AreBytes xs → length xs % wide ≡ 0 → 8 ≤ depth → depth < 8 * wide → are_low_zero wide (8 * wide - depth) (length xs / wide) xs ≡ true
    → file_samples wide depth (stream_samples wide depth xs) ≡ xs
narrow_by wide depth xs small whole some few zeros =
    let v = sample_width depth in
    let gap = 8 * wide - depth in
    let n = length xs / wide in
    let ls = lowered wide v gap n xs in
    let other : depth ≡ 8 * wide → ⊥ = λ e. omega (arith, e, few) in
    let plain : wave_samples (8 * wide) xs ≡ xs = ap (λ b. cond b (map turned xs) xs) (le-ltb (8 * wide) 9 (omega (arith, some, few))) in
    let low : low_samples wide depth xs ≡ ls = ap (λ b. cond b xs ls) (ne_eqb depth (8 * wide) other) in
    let count : length ls / v ≡ n = ap (λ k. k / v) (lowered_long wide v gap n xs) ∙ mul-div_cancel n (width_some depth some) in
    let long : length xs ≡ n * wide = let d = div-add-mod' (length xs) wide in omega (arith, d, whole) in
    ap (λ l. file_samples wide depth (low_samples wide depth l)) plain
    ∙ (ap (λ l. file_samples wide depth l) low
    ∙ (ap (λ l. wave_samples (8 * wide) l) (high_other wide depth ls other ∙ (ap (λ k. raised v wide gap k ls) count ∙ samples_back wide v gap n xs (omega arith) (omega arith) small long zeros))
    ∙ plain))
  where
    width_some : (d : ℕ) → 8 ≤ d → 0 < sample_width d
    width_some d some = omega (arith, some)

samples_again : (f : WaveFormat) (xs : List ℕ) → AreBytes xs → length xs % wave_width_of f ≡ 0 → file_samples (wave_width_of f) (depth_in f xs) (stream_samples (wave_width_of f) (depth_in f xs) xs) ≡ xs
samples_again f xs small whole = elim (depth_cases f xs) [
  | inl all ↦ samples_by (wave_width_of f) (depth_in f xs) xs all
  | inr n ↦ narrow_by (wave_width_of f) (depth_in f xs) xs small whole (stated_some (depth_in f xs) n.stated) n.few n.zeros
]

-- the words of a file's comments, and its pieces
abbrev words_of : Asked → Parts → List (List ℕ)
words_of asked file = words_with asked.words (other_mask file.format)

all_kept : (asked : Asked) (format : RawFormat) (a : Sound) (list : List Block) (bytes : List ℕ) (k : Keeps asked bytes format a list) → asked.keep ≡ true → list ≡ kept_list (words_of asked k.file) (k.file.pieces ++ k.pieces)
all_kept asked format a list bytes k keep = k.blocks ∙ ap (λ b. kept_list (words_of asked k.file) (kept_pieces b (k.file.pieces ++ k.pieces))) keep

-- the file that is kept comes back
pub kept_back : (asked : Asked) (bytes : List ℕ) (format : RawFormat) (a : Sound) (list : List Block) (p : Cut) (before after : List Bool) (k : Keeps asked bytes format a list)
    (e : EncodesIn asked.container p list a before after) → asked.keep ≡ true → plan_fault p ≡ None → wave_in (parts_in asked.container p list a before after e) ≡ bytes
kept_back asked bytes format a list p before after k e keep good =
    let qs = k.file.pieces ++ k.pieces in
    let raw = k.raw in
    let w = wave_tells bytes k.file k.pieces k.wave in
    parts_wave asked.container p a list (words_of asked k.file) qs (all_kept asked format a list bytes k keep) w.file before after e good
    ∙ (ap (λ n. restored qs (file_samples ((n + 7) / 8) a.bits (sound_message a))) w.bits
    ∙ (ap (λ d. restored qs (file_samples (wave_width_of k.file.format) d (sound_message a))) raw.bits
    ∙ (ap (λ l. restored qs (file_samples (wave_width_of k.file.format) (depth_for k.file) l)) raw.samples
    ∙ (ap (λ l. restored qs l) (samples_again k.file.format k.file.samples k.small (wave_whole bytes k.file k.wave))
    ∙ comes_back bytes k.file k.pieces k.wave k.cut))))

room_is : (wide depth : ℕ) → wide ≤ 4 → 0 < depth → depth ≤ 8 * wide → has_room wide depth ≡ true
room_is wide depth few some room =
    ap (λ b. b && (nat_lt 0 depth && not (nat_lt (8 * wide) depth))) (lt-ltb wide 5 (omega (arith, few)))
    ∙ (ap (λ b. b && not (nat_lt (8 * wide) depth)) (lt-ltb 0 depth some) ∙ ap not (le-ltb (8 * wide) depth room))

fits_by : (file : Bool) (bits depth : ℕ) (f : WaveFormat) (xs : List ℕ) → file ≡ true → bits ≡ f.bits → depth ≡ depth_in f xs → IsInRange f → piece_fault file bits depth ≡ None
fits_by file bits depth f xs h b d r =
    let deep = depth_some f xs r in
    let narrow = r.narrow in
    ap (λ c. piece_fault c bits depth) h ∙ (ap (λ n. piece_fault true n depth) b ∙ (ap (λ n. piece_fault true f.bits n) d
    ∙ ap (λ c. cond c None (Some kept.OtherBits)) (room_is (wave_width_of f) (depth_in f xs) (omega (arith, narrow)) deep.0 deep.1)))

-- what is kept is a file of the samples
pub kept_fits : (asked : Asked) (bytes : List ℕ) (format : RawFormat) (a : Sound) (list : List Block) (p : Cut) (before after : List Bool) (k : Keeps asked bytes format a list) (e : EncodesIn asked.container p list a before after)
    → asked.keep ≡ true → kept_fault (parts_in asked.container p list a before after e) ≡ None
kept_fits asked bytes format a list p before after k e keep =
    let qs = k.file.pieces ++ k.pieces in
    let t = parts_told asked.container p a list (words_of asked k.file) qs (all_kept asked format a list bytes k keep) before after e in
    let w = wave_tells bytes k.file k.pieces k.wave in
    ap (λ l. piece_fault (are_file l) (bits_in 0 l) (depth_of 0 (parts_in asked.container p list a before after e))) t.pieces
    ∙ (ap (λ d. piece_fault (are_file qs) (bits_in 0 qs) d) t.depth
    ∙ fits_by (are_file qs) (bits_in 0 qs) a.bits k.file.format k.file.samples w.file w.bits k.raw.bits w.range)

-- what a call that writes a stream has begun, it has begun of the file that these bytes are
pub begun_wave : {X : Type 0} (asked : Asked) (ps : List LinearPredictor) (bytes all : List ℕ) (format : RawFormat) (p q : Cut) (l : List Block) (a : Sound) (before after : List Bool)
    → bytes ≡ all → Keeps asked bytes format a l → AreListed asked.list ps → p ≡ cut_as (record asked { format = format }) a ps → IsSearched asked.effort p q → (X → after ≡ before)
    → X ⊎ BeginsIn asked.container q l a before after → (after ≡ before) ⊎ BeginsWave asked all before after
begun_wave asked ps bytes all format p q l a before after is keeps listed plan tried same (inl x) = inl (same x)
begun_wave asked ps bytes all format p q l a before after is keeps listed plan tried same (inr b) = inr (record {
  format = format;
  audio = a;
  list = l;
  predictors = ps;
  keeps = subst (λ bs. Keeps asked bs format a l) is keeps;
  listed = listed;
  found = tried.found;
  sought = are_found (record asked { format = format }) a ps p q plan tried;
  begins = subst (λ k. BeginsIn asked.container k l a before after) (cut_is (record asked { format = format }) a ps p q plan tried) b;
})
