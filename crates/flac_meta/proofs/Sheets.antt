-- What ties a cue sheet to its spelling.
use Rattle.std.proofs.Common.{◌≡◌, ℕ, zero, suc, ◌+◌, ◌-◌, ◌*◌, ◌^◌, ◌<◌, ◌≤◌, Bool, true, false, not, nat_eq, nat_lt, ◌||◌, List, [], ◌∷◌, ◌++◌, length, refl, sym, ap, ◌∙◌, arith}
use Rattle.flac_bits.specs.Bits.{unsigned, bits_of, bit_value}
use Rattle.flac_bits.specs.State.{Mark}
use Rattle.flac_bits.specs.Layout.{bits}
use Rattle.flac_bits.specs.Lists.{list_of}
use Rattle.flac_bits.specs.Forms.{joined, IsBytes}
use Rattle.flac_bits.specs.inner.Forms.{Ties}
use Rattle.flac_bits.proofs.Ties.{tie, each_tied, some_tied, bytes_tie}
use Rattle.flac_meta.specs.Fields.{nothing_left, reserved}
use Rattle.flac_meta.specs.CueSheet.{cue_index, cue_count, track_front, cue_track, cue_tracks, sheet_front, cue_sheet}
use Rattle.flac_meta.specs.Spelling as s
use Rattle.flac_meta.specs.Listed.{overflows, is_bad_sheet}
use Rattle.flac_meta.specs.Valid.{AllAre, IsIndex, IsTrack, IsSheet}
use Rattle.flac_meta.specs.declared.cue_sheet.CueTrack.{CueTrack}
use Rattle.flac_meta.specs.declared.cue_sheet.CueSheet.{CueSheet}
use Rattle.flac_meta.proofs.Tied.{not_less, less_not, joined_append, part_each, part_some, reserved_tie, nothing_tie, InTurn, turn_tie, AreMany, list_tie}

-- ---- flags

pub one_bit : (v : ℕ) → v < 2 → bit_value (nat_eq v 1) ≡ v
one_bit zero h = refl
one_bit (suc zero) h = refl
one_bit (suc (suc v)) h = absurd (omega arith)

pub bit_one : (b : Bool) → nat_eq (bit_value b) 1 ≡ b
bit_one true = refl
bit_one false = refl

pub bit_less : (b : Bool) → bit_value b < 2
bit_less true = omega arith
bit_less false = omega arith

not_bit : (v : ℕ) → v < 2 → bit_value (not (nat_eq v 0)) ≡ v
not_bit zero h = refl
not_bit (suc zero) h = refl
not_bit (suc (suc v)) h = absurd (omega arith)

bit_not : (b : Bool) → nat_eq (bit_value (not b)) 0 ≡ b
bit_not true = refl
bit_not false = refl

-- ---- places

pub index_tie : (m : Mark) → Ties cue_index m IsIndex s.index_spelling
unfolding cue_index s.index_spelling
index_tie m = tie cue_index m IsIndex s.index_spelling
    (λ offset a number b. each_tied (reserved (8 * 3)) _ (λ _. Unit {0}) (λ _. s.zero_bits (8 * 3)) _ (reserved_tie (8 * 3) _) (λ u h. (record { offset = a; number = b }, refl)))
    (λ x v. (x.offset, v.offset, (x.number, v.number, some_tied (reserved (8 * 3)) _ (λ _. Unit {0}) (λ _. s.zero_bits (8 * 3)) _ tt (reserved_tie (8 * 3) _) tt (refl, refl))))

abbrev In8 : ℕ → ℕ → Type 0
In8 left n = (1 ≤ left) × (n < 2 ^ 8)

count_tie : (left : ℕ) (m : Mark) → Ties (cue_count left) m (In8 left) (unsigned 8)
unfolding cue_count
count_tie left m = tie (cue_count left) m (In8 left) (unsigned 8)
    (part_each 1 left (bits 8) m _ (λ le v lt. ((le, lt), refl)))
    (λ v h. part_some 1 left (bits 8) m _ h.0 (v, h.1, (refl, refl)))

-- ---- tracks

record IsFront (f : ℕ × ℕ × List ℕ × Bool × Bool) : Type 0 where
  offset : f.0 < 2 ^ 64
  number : f.1 < 2 ^ 8
  isrc : IsBytes 12 f.2

abbrev front_parts : ℕ × ℕ × List ℕ × Bool × Bool → List (List Bool)
front_parts f = unsigned 64 f.0 ∷ unsigned 8 f.1 ∷ bits_of f.2 ∷ unsigned 1 (bit_value (not f.3)) ∷ unsigned 1 (bit_value f.4) ∷ s.zero_bits (6 + 8 * 13) ∷ []

front_spelling : ℕ × ℕ × List ℕ × Bool × Bool → List Bool
front_spelling f = joined (front_parts f)

front_tie : (m : Mark) → Ties track_front m IsFront front_spelling
unfolding track_front front_spelling
front_tie m = tie track_front m IsFront front_spelling
    (λ offset a number b.
    each_tied (list_of 12 (bits 8)) _ (IsBytes 12) bits_of _ (bytes_tie 12 _) (λ isrc c kind d emphasis e.
    each_tied (reserved (6 + 8 * 13)) _ (λ _. Unit {0}) (λ _. s.zero_bits (6 + 8 * 13)) _ (reserved_tie (6 + 8 * 13) _) (λ u h.
    (record { offset = a; number = b; isrc = c }, rw (not_bit kind d, one_bit emphasis e) refl))))
    (λ f v. (
      f.0,
      v.offset,
      (
        f.1,
        v.number,
        some_tied (list_of 12 (bits 8)) _ (IsBytes 12) bits_of _ f.2 (bytes_tie 12 _) v.isrc (
          bit_value (not f.3),
          bit_less (not f.3),
          (
            bit_value f.4,
            bit_less f.4,
            some_tied (reserved (6 + 8 * 13)) _ (λ _. Unit {0}) (λ _. s.zero_bits (6 + 8 * 13)) _ tt (reserved_tie (6 + 8 * 13) _) tt
                (refl, rw (bit_not f.3, bit_one f.4) refl),
          ),
        ),
      ),
    ))

record TrackOf (left : ℕ) (t : CueTrack) : Type 0 where
  is : IsTrack t
  few : length t.indices < 2 ^ 8
  fits : 36 + 12 * length t.indices ≤ left

abbrev front_of : CueTrack → ℕ × ℕ × List ℕ × Bool × Bool
front_of t = (t.offset, t.number, t.isrc, t.audio, t.pre_emphasis)

track_is : (t : CueTrack) → front_spelling (front_of t) ++ joined (unsigned 8 (length t.indices) ∷ s.each_spelled s.index_spelling t.indices ∷ []) ≡ s.track_spelling t
unfolding front_spelling s.track_spelling
track_is t = joined_append (front_parts (front_of t)) (unsigned 8 (length t.indices) ∷ s.each_spelled s.index_spelling t.indices ∷ [])

-- what follows the front
after_front : (t : CueTrack) (n : ℕ) → length t.indices ≡ n → front_spelling (front_of t) ++ joined (unsigned 8 n ∷ s.each_spelled s.index_spelling t.indices ∷ []) ≡ s.track_spelling t
after_front t n e = ap (λ k. front_spelling (front_of t) ++ joined (unsigned 8 k ∷ s.each_spelled s.index_spelling t.indices ∷ [])) (sym e) ∙ track_is t

track_tie : (left : ℕ) (m : Mark) → Ties (cue_track left) m (TrackOf left) s.track_spelling
unfolding cue_track
track_tie left m = tie (cue_track left) m (TrackOf left) s.track_spelling
    (part_each 35 left _ m _ (λ le.
    each_tied track_front m IsFront front_spelling _ (front_tie m) (λ f v.
    each_tied (cue_count (left - 35)) _ (In8 (left - 35)) (unsigned 8) _ (count_tie (left - 35) _) (λ count w kept.
    each_tied (list_of count cue_index) _ (AreMany IsIndex count) (s.each_spelled s.index_spelling) _ (list_tie cue_index IsIndex s.index_spelling index_tie count _) (λ indices x.
    let few = w.1 in let room = w.0 in let many = x.many in
    let fits = not_less (left - 36) (12 * count) kept.0 in
    let t : CueTrack = record { offset = f.0; number = f.1; isrc = f.2; audio = f.3; pre_emphasis = f.4; indices = indices } in
    (record { is = record { offset = v.offset; number = v.number; isrc = v.isrc; indices = x.all }; few = omega arith; fits = omega arith }, after_front t count many))))))
    (λ t v.
    let few = v.few in let fits = v.fits in
    part_some 35 left _ m _ (omega arith)
    (some_tied track_front m IsFront front_spelling _ (front_of t) (front_tie m) (record { offset = v.is.offset; number = v.is.number; isrc = v.is.isrc })
    (some_tied (cue_count (left - 35)) _ (In8 (left - 35)) (unsigned 8) _ (length t.indices) (count_tie (left - 35) _) (omega arith, few) (
      (less_not (left - 36) (12 * length t.indices) (omega arith), tt),
      some_tied (list_of (length t.indices) cue_index) _ (AreMany IsIndex (length t.indices)) (s.each_spelled s.index_spelling) _ t.indices (list_tie cue_index IsIndex s.index_spelling index_tie (length t.indices) _) (record { many = refl; all = v.is.indices })
          (after_front t (length t.indices) refl, refl),
    ))))

record AreTracks (n left : ℕ) (ts : List CueTrack) : Type 0 where
  many : length ts ≡ n
  all : AllAre IsTrack ts
  few : overflows ts ≡ false
  size : s.tracks_length ts ≡ left

neither : (a b : Bool) → a ≡ false → b ≡ false → (a || b) ≡ false
neither false b h k = k
neither true b h k = absurd cc

not_either : (a b : Bool) → (a || b) ≡ false → (a ≡ false) × (b ≡ false)
not_either false b h = (refl, h)
not_either true b h = absurd cc

within_255 : (n : ℕ) → n < 2 ^ 8 → nat_lt 255 n ≡ false
within_255 n h = less_not 255 n (omega arith)

byte_counts : (n : ℕ) → nat_lt 255 n ≡ false → n < 2 ^ 8
byte_counts n h = let k = not_less 255 n h in omega arith

abbrev TracksFrom : ℕ → ℕ → List CueTrack → Type 0
TracksFrom = InTurn TrackOf (λ left t. left - (36 + 12 * length t.indices)) (λ left. left ≡ 0)

tracks_are : (n left : ℕ) (ts : List CueTrack) → TracksFrom n left ts → AreTracks n left ts
tracks_are zero left [] h = record { many = refl; all = tt; few = refl; size = sym h }
tracks_are zero left (t ∷ ts) h = absurd h
tracks_are (suc n) left [] h = absurd h
tracks_are (suc n) left (t ∷ ts) h =
    let k = tracks_are n (left - (36 + 12 * length t.indices)) ts h.1 in
    let e = k.many in let f = k.size in let g = h.0.fits in
    record { many = omega arith; all = (h.0.is, k.all); few = neither (nat_lt 255 (length t.indices)) (overflows ts) (within_255 (length t.indices) h.0.few) k.few; size = omega arith }

are_tracks : (n left : ℕ) (ts : List CueTrack) → AreTracks n left ts → TracksFrom n left ts
are_tracks zero left [] h = sym h.size
are_tracks zero left (t ∷ ts) h = let e = h.many in absurd (omega arith)
are_tracks (suc n) left [] h = let e = h.many in absurd (omega arith)
are_tracks (suc n) left (t ∷ ts) h =
    let e = h.many in let f = h.size in
    let k = not_either (nat_lt 255 (length t.indices)) (overflows ts) h.few in (
      record { is = h.all.0; few = byte_counts (length t.indices) k.0; fits = omega arith },
      are_tracks n (left - (36 + 12 * length t.indices)) ts (record { many = omega arith; all = h.all.1; few = k.1; size = omega arith }),
    )

tracks_tie : (n left : ℕ) (m : Mark) → Ties (cue_tracks n left) m (TracksFrom n left) (s.each_spelled s.track_spelling)
unfolding cue_tracks
tracks_tie n left m = turn_tie cue_track (λ left t. left - (36 + 12 * length t.indices)) nothing_left TrackOf (λ left. left ≡ 0) s.track_spelling track_tie nothing_tie n left m

-- ---- the sheet

record IsTop (f : List ℕ × ℕ × Bool) : Type 0 where
  catalogue : IsBytes 128 f.0
  lead_in : f.1 < 2 ^ 64

abbrev top_parts : List ℕ × ℕ × Bool → List (List Bool)
top_parts f = bits_of f.0 ∷ unsigned 64 f.1 ∷ unsigned 1 (bit_value f.2) ∷ s.zero_bits (7 + 8 * 258) ∷ []

top_spelling : List ℕ × ℕ × Bool → List Bool
top_spelling f = joined (top_parts f)

top_tie : (m : Mark) → Ties sheet_front m IsTop top_spelling
unfolding sheet_front top_spelling
top_tie m = tie sheet_front m IsTop top_spelling
    (each_tied (list_of 128 (bits 8)) _ (IsBytes 128) bits_of _ (bytes_tie 128 _) (λ catalogue a lead_in b cd c.
    each_tied (reserved (7 + 8 * 258)) _ (λ _. Unit {0}) (λ _. s.zero_bits (7 + 8 * 258)) _ (reserved_tie (7 + 8 * 258) _) (λ u h.
    (record { catalogue = a; lead_in = b }, rw (one_bit cd c) refl))))
    (λ f v.
    some_tied (list_of 128 (bits 8)) _ (IsBytes 128) bits_of _ f.0 (bytes_tie 128 _) v.catalogue (
      f.1,
      v.lead_in,
      (
        bit_value f.2,
        bit_less f.2,
        some_tied (reserved (7 + 8 * 258)) _ (λ _. Unit {0}) (λ _. s.zero_bits (7 + 8 * 258)) _ tt (reserved_tie (7 + 8 * 258) _) tt
            (refl, rw (bit_one f.2) refl),
      ),
    ))

pub record SheetOf (left : ℕ) (x : CueSheet) : Type 0 where
  pub is : IsSheet x
  pub good : is_bad_sheet x ≡ false
  pub size : 396 + s.tracks_length x.tracks ≡ left

abbrev top_of : CueSheet → List ℕ × ℕ × Bool
top_of x = (x.catalogue, x.lead_in, x.cd)

sheet_is : (x : CueSheet) → top_spelling (top_of x) ++ joined (unsigned 8 (length x.tracks) ∷ s.each_spelled s.track_spelling x.tracks ∷ []) ≡ s.sheet_spelling x
unfolding top_spelling s.sheet_spelling
sheet_is x = joined_append (top_parts (top_of x)) (unsigned 8 (length x.tracks) ∷ s.each_spelled s.track_spelling x.tracks ∷ [])

after_top : (x : CueSheet) (n : ℕ) → length x.tracks ≡ n → top_spelling (top_of x) ++ joined (unsigned 8 n ∷ s.each_spelled s.track_spelling x.tracks ∷ []) ≡ s.sheet_spelling x
after_top x n e = ap (λ k. top_spelling (top_of x) ++ joined (unsigned 8 k ∷ s.each_spelled s.track_spelling x.tracks ∷ [])) (sym e) ∙ sheet_is x

some_tracks : (n : ℕ) (o : Bool) → nat_eq n 0 ≡ false → n < 2 ^ 8 → o ≡ false → (nat_eq n 0 || nat_lt 255 n || o) ≡ false
some_tracks n o h lt k = let l = within_255 n lt in rw (h, l, k) refl

record Counts (n : ℕ) (o : Bool) : Type 0 where
  some : nat_eq n 0 ≡ false
  few : n < 2 ^ 8
  fine : o ≡ false

tracks_some : (a b o : Bool) → (a || b || o) ≡ false → (a ≡ false) × (b ≡ false) × (o ≡ false)
tracks_some false false false h = (refl, refl, refl)
tracks_some true b o h = absurd cc
tracks_some false true o h = absurd cc
tracks_some false false true h = absurd cc

counts_of : (n : ℕ) (o : Bool) → (nat_eq n 0 || nat_lt 255 n || o) ≡ false → Counts n o
counts_of n o h = let k = tracks_some (nat_eq n 0) (nat_lt 255 n) o h in record { some = k.0; few = byte_counts n k.1; fine = k.2 }

-- each track has 36 bytes at least
few_tracks : (ts : List CueTrack) → 36 * length ts ≤ s.tracks_length ts
few_tracks [] = omega arith
few_tracks (t ∷ ts) = let h = few_tracks ts in omega arith

pub sheet_tie : (left : ℕ) (m : Mark) → Ties (cue_sheet left) m (SheetOf left) s.sheet_spelling
unfolding cue_sheet
sheet_tie left m = tie (cue_sheet left) m (SheetOf left) s.sheet_spelling
    (part_each 395 left _ m _ (λ le.
    each_tied sheet_front m IsTop top_spelling _ (top_tie m) (λ f v.
    each_tied (cue_count (left - 395)) _ (In8 (left - 395)) (unsigned 8) _ (count_tie (left - 395) _) (λ count w kept.
    each_tied (cue_tracks count (left - 396)) _ (TracksFrom count (left - 396)) (s.each_spelled s.track_spelling) _ (tracks_tie count (left - 396) _) (λ tracks y.
    let k = tracks_are count (left - 396) tracks y in
    let few = w.1 in let room = w.0 in let many = k.many in let size = k.size in
    let x : CueSheet = record { catalogue = f.0; lead_in = f.1; cd = f.2; tracks = tracks } in
    let some : nat_eq (length tracks) 0 ≡ false = rw many kept.0 in (
      record {
        is = record { catalogue = v.catalogue; lead_in = v.lead_in; tracks = k.all };
        good = some_tracks (length tracks) (overflows tracks) some (omega arith) k.few;
        size = omega arith;
      },
      after_top x count many,
    ))))))
    (λ x v.
    let size = v.size in
    let least = few_tracks x.tracks in
    let k = counts_of (length x.tracks) (overflows x.tracks) v.good in
    part_some 395 left _ m _ (omega arith)
    (some_tied sheet_front m IsTop top_spelling _ (top_of x) (top_tie m) (record { catalogue = v.is.catalogue; lead_in = v.is.lead_in })
    (some_tied (cue_count (left - 395)) _ (In8 (left - 395)) (unsigned 8) _ (length x.tracks) (count_tie (left - 395) _) (omega arith, k.few) (
      (k.some, (less_not (left - 396) (36 * length x.tracks) (omega arith), tt)),
      some_tied (cue_tracks (length x.tracks) (left - 396)) _ (TracksFrom (length x.tracks) (left - 396)) (s.each_spelled s.track_spelling) _ x.tracks (tracks_tie (length x.tracks) (left - 396) _)
          (are_tracks (length x.tracks) (left - 396) x.tracks (record { many = refl; all = v.is.tracks; few = k.fine; size = omega arith }))
          (after_top x (length x.tracks) refl, refl),
    ))))
