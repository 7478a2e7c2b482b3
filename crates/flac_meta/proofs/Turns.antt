-- A loop that reads items in turn.
use Rattle.std.proofs.Common.{◌≡◌, ℕ, suc, ◌+◌, ◌-◌, ◌<◌, ◌≤◌, List, [], ◌∷◌, ◌++◌, Result, Ok, Err, refl, sym, ap, ◌∙◌, arith, append_assoc, Option, Some, length, length-append, ◌*◌}
use Rattle.std.proofs.lemmas.List.{append-nil}
use Rattle.std.specs.Prelude.{⊤}
use Rattle.flac_bits.specs.State.{Cursor}
use Rattle.flac_bits.specs.Layout.{Layout, done, run, and_then, Reason, because}
use Rattle.flac_bits.specs.declared.why.Why.TheVariants.{BlockLength}
use Rattle.flac_bits.specs.Lists.{list_of, after}
use Rattle.flac_bits.proofs.Lists.{list_end}
use Rattle.flac_bits.specs.LittleEndian.{little_32}
use Rattle.flac_meta.specs.Fields.{in_turn, nothing_left, sized}
use Rattle.flac_meta.specs.SeekTable.{seek_point, seek_points}
use Rattle.flac_meta.specs.Comments.{texts}
use Rattle.flac_meta.specs.CueSheet.{cue_track, cue_tracks}
use Rattle.flac_meta.specs.declared.seek_table.SeekPoint.{SeekPoint}
use Rattle.flac_meta.specs.declared.cue_sheet.CueTrack.{CueTrack}
use Rattle.flac_meta.proofs.Exits.{not_same}

and_then_after : {A : Type 0} (r : Result (List A × Cursor) Reason) (front : List A) (x : A) → and_then (and_then r (λ xs d. Ok (x ∷ xs, d))) (after front) ≡ and_then r (after (front ++ x ∷ []))
unfolding after
and_then_after (Ok (xs, d)) front x = ap (λ ys. okay (ys, d)) (sym (append_assoc front (x ∷ []) xs))
  where
    okay : {B : Type 0} → B × Cursor → Result (B × Cursor) Reason
    okay y = Ok y
and_then_after (Err e) front x = refl

nested : {A B C : Type 0} (r : Result (A × Cursor) Reason) (f : A → Cursor → Result (B × Cursor) Reason) (g : B → Cursor → Result (C × Cursor) Reason) → and_then (and_then r f) g ≡ and_then r (λ x d. and_then (f x d) g)
nested (Ok x) f g = refl
nested (Err e) f g = refl

same_then : {A B : Type 0} (r : Result (A × Cursor) Reason) (f g : A → Cursor → Result (B × Cursor) Reason) → ((x : A) (d : Cursor) → f x d ≡ g x d) → and_then r f ≡ and_then r g
same_then (Ok x) f g h = h x.0 x.1
same_then (Err e) f g h = refl

-- one more item
turn_more : {S A : Type 0} (item : S → Layout A) (next : S → A → S) (last : S → Layout ⊤) (n i : ℕ) (s : S) (c : Cursor) (front : List A) → i < n
    → and_then (run (in_turn item next last (n - i) s) c) (after front)
    ≡ and_then (run (item s) c) (λ x d. and_then (run (in_turn item next last (n - (i + 1)) (next s x)) d) (after (front ++ x ∷ [])))
unfolding in_turn
turn_more item next last n i s c front lt =
    let k : n - i ≡ suc (n - (i + 1)) = omega arith in
    rw k (nested (run (item s) c) (λ x d. and_then (run (in_turn item next last (n - (i + 1)) (next s x)) d) (λ xs d'. Ok (x ∷ xs, d'))) (after front)
    ∙ same_then (run (item s) c) _ _ (λ x d. and_then_after (run (in_turn item next last (n - (i + 1)) (next s x)) d) front x))

-- after the last item
turn_end : {S A : Type 0} (item : S → Layout A) (next : S → A → S) (last : S → Layout ⊤) (n i : ℕ) (s : S) (c : Cursor) (front : List A) → n ≤ i
    → and_then (run (in_turn item next last (n - i) s) c) (after front) ≡ and_then (run (last s) c) (λ _ d. Ok (front, d))
unfolding in_turn after
turn_end item next last n i s c front le =
    let k : n - i ≡ 0 = omega arith in
    rw k (nested (run (last s) c) (λ _ d. Ok ([], d)) (after front) ∙ same_then (run (last s) c) _ _ (λ x d. ap (λ ys. okay (ys, d)) (append-nil front)))
  where
    okay : {B : Type 0} → B × Cursor → Result (B × Cursor) Reason
    okay y = Ok y

-- the first item
pub turn_start : {A : Type 0} (r : Result (List A × Cursor) Reason) → and_then r (after []) ≡ r
unfolding after
turn_start (Ok x) = refl
turn_start (Err e) = refl

pub points_more : (n i : ℕ) (before : Option ℕ) (c : Cursor) (front : List SeekPoint) → i < n
    → and_then (run (seek_points (n - i) before) c) (after front) ≡ and_then (run (seek_point before) c) (λ x d. and_then (run (seek_points (n - (i + 1)) (Some x.sample)) d) (after (front ++ x ∷ [])))
unfolding seek_points
points_more = turn_more seek_point (λ before point. Some point.sample) (λ before. done tt)

pub points_end : (n i : ℕ) (before : Option ℕ) (c : Cursor) (front : List SeekPoint) → n ≤ i → and_then (run (seek_points (n - i) before) c) (after front) ≡ Ok (front, c)
unfolding seek_points
points_end = turn_end seek_point (λ before point. Some point.sample) (λ before. done tt)

pub texts_more : (n i left : ℕ) (c : Cursor) (front : List (List ℕ)) → i < n
    → and_then (run (texts (n - i) left) c) (after front) ≡ and_then (run (sized little_32 left) c) (λ x d. and_then (run (texts (n - (i + 1)) (left - (4 + length x))) d) (after (front ++ x ∷ [])))
unfolding texts
texts_more = turn_more (sized little_32) (λ left text. left - (4 + length text)) nothing_left

pub texts_end : (n i left : ℕ) (c : Cursor) (front : List (List ℕ)) → n ≤ i → and_then (run (texts (n - i) left) c) (after front) ≡ and_then (run (nothing_left left) c) (λ _ d. Ok (front, d))
unfolding texts
texts_end = turn_end (sized little_32) (λ left text. left - (4 + length text)) nothing_left

pub tracks_more : (n i left : ℕ) (c : Cursor) (front : List CueTrack) → i < n
    → and_then (run (cue_tracks (n - i) left) c) (after front) ≡ and_then (run (cue_track left) c) (λ x d. and_then (run (cue_tracks (n - (i + 1)) (left - (36 + 12 * length x.indices))) d) (after (front ++ x ∷ [])))
unfolding cue_tracks
tracks_more = turn_more cue_track (λ left track. left - (36 + 12 * length track.indices)) nothing_left

pub tracks_end : (n i left : ℕ) (c : Cursor) (front : List CueTrack) → n ≤ i → and_then (run (cue_tracks (n - i) left) c) (after front) ≡ and_then (run (nothing_left left) c) (λ _ d. Ok (front, d))
unfolding cue_tracks
tracks_end = turn_end cue_track (λ left track. left - (36 + 12 * length track.indices)) nothing_left

-- ---- after the last item

pub points_last : (n i : ℕ) (before : Option ℕ) (c : Cursor) (front points : List SeekPoint) → n ≤ i → points ≡ front → and_then (run (seek_points (n - i) before) c) (after front) ≡ Ok (points, c)
points_last n i before c front points le is = rw is (points_end n i before c front le)

pub texts_last : (n i left : ℕ) (c : Cursor) (front list : List (List ℕ)) → n ≤ i → left ≡ 0 → list ≡ front → and_then (run (texts (n - i) left) c) (after front) ≡ Ok (list, c)
texts_last n i left c front list le none is = texts_end n i left c front le ∙ rw (none, is) refl

pub texts_left : (n i left : ℕ) (c : Cursor) (front : List (List ℕ)) → n ≤ i → (left ≡ 0 → ⊥) → and_then (run (texts (n - i) left) c) (after front) ≡ Err (because BlockLength)
texts_left n i left c front le some = texts_end n i left c front le ∙ rw (not_same left 0 some) refl

pub tracks_last : (n i left : ℕ) (c : Cursor) (front tracks : List CueTrack) → n ≤ i → left ≡ 0 → tracks ≡ front → and_then (run (cue_tracks (n - i) left) c) (after front) ≡ Ok (tracks, c)
tracks_last n i left c front tracks le none is = tracks_end n i left c front le ∙ rw (none, is) refl

pub tracks_left : (n i left : ℕ) (c : Cursor) (front : List CueTrack) → n ≤ i → (left ≡ 0 → ⊥) → and_then (run (cue_tracks (n - i) left) c) (after front) ≡ Err (because BlockLength)
tracks_left n i left c front le some = tracks_end n i left c front le ∙ rw (not_same left 0 some) refl

-- ---- the items after one more

pub points_same : (n sample : ℕ) (c : Cursor) (front points : List SeekPoint) (x : SeekPoint) → points ≡ front ++ x ∷ []
    → and_then (run (seek_points n (Some sample)) c) (after (front ++ x ∷ [])) ≡ and_then (run (seek_points n (Some sample)) c) (after points)
points_same n sample c front points x is = rw is refl

pub texts_same : (n left size : ℕ) (c : Cursor) (front list : List (List ℕ)) (t : List ℕ) → size ≡ length t → list ≡ front ++ t ∷ []
    → and_then (run (texts n (left - (4 + length t))) c) (after (front ++ t ∷ [])) ≡ and_then (run (texts n (left - (4 + size))) c) (after list)
texts_same n left size c front list t many is = rw (many, is) refl

pub tracks_same : (n left size : ℕ) (c : Cursor) (front tracks : List CueTrack) (t : CueTrack) → size ≡ length t.indices → tracks ≡ front ++ t ∷ []
    → and_then (run (cue_tracks n (left - (36 + 12 * length t.indices))) c) (after (front ++ t ∷ [])) ≡ and_then (run (cue_tracks n (left - (36 + 12 * size))) c) (after tracks)
tracks_same n left size c front tracks t many is = rw (many, is) refl

-- ---- a list whose length is known

pub list_same : {A : Type 0} (n : ℕ) (l : Layout A) (c : Cursor) (front list : List A) (x : A) → list ≡ front ++ x ∷ []
    → and_then (run (list_of n l) c) (after (front ++ x ∷ [])) ≡ and_then (run (list_of n l) c) (after list)
list_same n l c front list x is = rw is refl

pub list_last : {A : Type 0} (n i : ℕ) (l : Layout A) (c : Cursor) (front list : List A) → n ≤ i → list ≡ front → and_then (run (list_of (n - i) l) c) (after front) ≡ Ok (list, c)
list_last n i l c front list le is = rw is (list_end n i l c front le)

pub one_more : {A : Type 0} (n : ℕ) (front list : List A) (x : A) → length front ≡ n → list ≡ front ++ x ∷ [] → length list ≡ n + 1
one_more {A = A} n front list x many is = rw is (grind (arith, length-append {A = A}, many))

pub list_counted : {A : Type 0} (n i : ℕ) (front list : List A) → list ≡ front → length front ≡ i → n ≤ i → i ≤ n → length list ≡ n
list_counted n i front list is many le ge = rw is (omega arith)
