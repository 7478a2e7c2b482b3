use Rattle.std.proofs.Common.{◌≡◌, ℕ, ◌+◌, ◌≤◌, true, Option, Some, Result, Ok, Err, refl, sym, ap, ◌∙◌, rules, arith}
use Rattle.std.specs.Prelude.{is_some}
use Rattle.std.proofs.lemmas.Result.{err_from_is_err_and}
use Rattle.flac_bits.specs.State.{Cursor, started}
use Rattle.flac_bits.specs.Layout.{Layout, Reason, run, done, ◌>>=◌}
use Rattle.flac_bits.specs.Fence.{fenced, read_in}
use Rattle.flac_bits.specs.Fencing.{lifted}
use Rattle.flac_bits.specs.declared.why.Why.{Why}
use Rattle.flac_native.specs.Stream.{Progress, framed, marked, frame_after, layout, next}
use Rattle.flac_native.specs.Track.{IsAt, profile_in, info_in, before_in}
use Rattle.flac_native.specs.declared.format.Format.{Format}
use Rattle.flac_native.specs.declared.track.Phase.TheVariants as phase
use Rattle.flac_native.specs.declared.track.Track.{Track}
use Rattle.flac_bits.proofs.Bounds.{refused_within}
use Rattle.flac_native.proofs.Giving.{same_why}
use Rattle.flac_native.proofs.native.read_part.Goals as goal

opening_frames : phase.Opening ≡ phase.Frames → ⊥
opening_frames e = absurd cc

blocks_frames : phase.Blocks ≡ phase.Frames → ⊥
blocks_frames e = absurd cc

blocks_opening : phase.Blocks ≡ phase.Opening → ⊥
blocks_opening e = absurd cc

abbrev answer : {X : Type 0} → X → Result X Why
answer x = Ok x

abbrev wrong : {X : Type 0} → Why → Result X Why
wrong e = Err e

answers : {X : Type 0} (x : X) (e : Why) → answer x ≡ wrong e → ⊥
answers x e is = absurd cc

-- a frame takes more than the least of a part
frame_spends : (m n : ℕ) → m + 40 ≤ n → m + 32 ≤ n
frame_spends m n h = omega arith

-- after the marker
marked_at : (t : Track) (p : Progress) → IsAt t p → IsAt (record t { position = record t.position { phase = phase.Blocks } }) (next p marked)
marked_at t p at = search rules

-- who knows STREAMINFO has room for a frame
info_format : (f : Option Format) → is_some (info_in f) ≡ true → is_some f ≡ true
info_format f e = search rules

abbrev seen_by : {A B : Type 0} → (A → B) → Result (A × Cursor) Reason → Result (B × Cursor) Reason
seen_by f (Ok x) = Ok (f x.0, x.1)
seen_by f (Err e) = Err e

-- what a layout gives within a room, one gives that begins with it
given_within : {A B : Type 0} (n : ℕ) (l : Layout A) (f : A → B) (c d : Cursor) (x : A) → read_in (Some n) l c ≡ Ok (x, d)
    → read_in (Some n) (l >>= λ y. done (f y)) c ≡ Ok (f x, d)
given_within {A} {B} n l f c d x h = go (run l (fenced n c)) refl h
  where
    go : (r : Result (A × Cursor) Reason) → run l (fenced n c) ≡ r → read_in (Some n) l c ≡ Ok (x, d)
        → read_in (Some n) (l >>= λ y. done (f y)) c ≡ Ok (f x, d)
    go (Ok y) is h = let k = rw is at h in rw is (ap (seen_by f) k)
    go (Err e) is h = let k = rw is at h in rw is (ap (seen_by f) k)

pub returns-in_err-read_marker-in-Opening : goal.returns-in_err-read_marker-in-Opening
unfolding layout
returns-in_err-read_marker-in-Opening g c =
    let p = err_from_is_err_and c.from_residual.result c.from_residual.ensures.1 in
    let begins = rw c.lift.ensures at c.start_checks.ensures in
    let e = rw begins at c.in_err-read_marker-in-Opening.ensures.reading in
    rw (p.1, p.2) (record {
      spends = tt;
      counts = e.counts;
      memory = λ is. absurd (opening_frames (sym c.in-Opening.is ∙ is));
      marker = λ is. e.memory;
      reads = rw c.in-Opening.is (λ room known same. rw (e.reads known same) refl);
      made = tt;
      ordered = tt;
      next = tt;
    })

pub returns-in_ok-read_marker-in-Opening : goal.returns-in_ok-read_marker-in-Opening
unfolding layout
returns-in_ok-read_marker-in-Opening g c =
    let begins = rw c.lift.ensures at c.start_checks.ensures in
    let e = rw begins at c.in_ok-read_marker-in-Opening.ensures.reading in
    record {
      spends = e.spends;
      counts = e.counts;
      memory = λ is. tt;
      marker = λ is. tt;
      reads = rw c.in-Opening.is (λ room known same. rw (e.reads known same) refl);
      made = (c.in-Opening.is, refl);
      ordered = rw c.in-Opening.is refl;
      next = λ p at. marked_at c.args.track.now p at;
    }

pub returns-in_err-next_block_by_layout-in-Blocks : goal.returns-in_err-next_block_by_layout-in-Blocks
unfolding layout
returns-in_err-next_block_by_layout-in-Blocks g c =
    let p = err_from_is_err_and c.from_residual-in_err-next_block_by_layout-in-Blocks.result c.from_residual-in_err-next_block_by_layout-in-Blocks.ensures.1 in
    let begins = rw c.lift-in-Blocks.ensures at c.start_checks-in-Blocks.ensures in
    let e = rw begins at c.in_err-next_block_by_layout-in-Blocks.ensures.reading in
    rw (p.1, p.2) (record {
      spends = tt;
      counts = e.counts;
      memory = λ is. absurd (blocks_frames (sym c.in-Blocks.is ∙ is));
      marker = λ is. absurd (blocks_opening (sym c.in-Blocks.is ∙ is));
      reads = rw c.in-Blocks.is (λ room. e.reads (λ is. room (same_why _ _ is)));
      made = tt;
      ordered = tt;
      next = tt;
    })

pub returns-in_ok-next_block_by_layout-in-Blocks : goal.returns-in_ok-next_block_by_layout-in-Blocks
unfolding layout
returns-in_ok-next_block_by_layout-in-Blocks g c =
    let begins = rw c.lift-in-Blocks.ensures at c.start_checks-in-Blocks.ensures in
    let ok = c.in_ok-next_block_by_layout-in-Blocks.ensures in
    let e = rw begins at ok.reading in
    record {
      spends = e.spends;
      counts = e.counts;
      memory = λ is. tt;
      marker = λ is. tt;
      reads = rw c.in-Blocks.is (λ room. e.reads (λ is. absurd (answers _ _ is)));
      made = ok.made;
      ordered = rw c.in-Blocks.is refl;
      next = ok.next;
    }

pub returns-in_err-next_frame_by_layout-in-Frames : goal.returns-in_err-next_frame_by_layout-in-Frames
unfolding layout
returns-in_err-next_frame_by_layout-in-Frames g c =
    let p = err_from_is_err_and c.from_residual-in_err-next_frame_by_layout-in-Frames.result c.from_residual-in_err-next_frame_by_layout-in-Frames.ensures.1 in
    let t = c.args.track.now in
    let e = c.in_err-next_frame_by_layout-in-Frames.ensures.reading in
    rw (p.1, p.2) (record {
      spends = tt;
      counts = e.counts;
      memory = λ is. e.memory;
      marker = λ is. e.memory;
      reads = rw c.in-Frames.is (λ room known same.
          refused_within 16777215 (frame_after (profile_in t.profile t.format) (info_in t.format) (before_in t.format)) framed
          (started (lifted c.args.reader.now)).cursor _ (e.reads known same));
      made = tt;
      ordered = tt;
      next = tt;
    })

pub returns-in_ok-next_frame_by_layout-in-Frames : goal.returns-in_ok-next_frame_by_layout-in-Frames
unfolding layout
returns-in_ok-next_frame_by_layout-in-Frames g c =
    let t = c.args.track.now in
    let ok = c.in_ok-next_frame_by_layout-in-Frames.ensures in
    let e = ok.reading in
    record {
      spends = frame_spends _ _ e.spends;
      counts = e.counts;
      memory = λ is. tt;
      marker = λ is. tt;
      reads = rw c.in-Frames.is (λ room known same.
          given_within 16777215 (frame_after (profile_in t.profile t.format) (info_in t.format) (before_in t.format)) framed
          (started (lifted c.args.reader.now)).cursor _ _ (e.reads known same));
      made = info_format _ ok.made;
      ordered = (c.in-Frames.is, ok.phase ∙ c.in-Frames.is);
      next = ok.next;
    }
