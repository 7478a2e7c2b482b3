use Rattle.std.proofs.Common.{◌≡◌, ℕ, ◌+◌, ◌*◌, ◌<◌, ◌≤◌, true, false, nat_eq, Result, Ok, Err, refl, sym, ap, ◌∙◌, arith}
use Rattle.std.specs.Prelude.{◌/◌, None, MatchResult, IsOkAnd}
use Rattle.std.proofs.lemmas.Result.{err_from_is_err_and}
use Rattle.flac_bits.specs.declared.why.Why.TheVariants.{Memory}
use Rattle.flac_bits.proofs.Telling.{told_then, told_fault}
use Rattle.flac_bits.specs.State.{State, Cursor}
use Rattle.flac_bits.specs.Layout.{Layout, done, ◌>>=◌, run}
use Rattle.flac_bits.specs.Reading.{Reads, ReadsGivenMemory, Call}
use Rattle.flac_bits.specs.declared.why.Why.{Why}
use Rattle.flac_meta.specs.Block.{content, padding, other}
use Rattle.flac_meta.specs.declared.block.Block.{Block}
use Rattle.flac_meta.specs.declared.block.Block.TheVariants as block_of
use Rattle.flac_info.specs.Info.{Info}
use Rattle.flac_meta.specs.Info.{stream_info}
use Rattle.flac_meta.specs.Padding.{skipped}
use Rattle.flac_meta.specs.SeekTable.{seek_points}
use Rattle.flac_meta.specs.Comments.{comments}
use Rattle.flac_meta.specs.CueSheet.{cue_sheet}
use Rattle.flac_meta.specs.Picture.{picture}
use Rattle.flac_meta.proofs.Exits.{had_room, same_room, reason_is, not_same}
use Rattle.flac_meta.proofs.Reasons.{memory_short, info_avoids, skipped_avoids}
use Rattle.flac_meta.proofs.block.read_content.Goals as goal

-- a kind that is neither STREAMINFO nor padding
above_one : (kind n : ℕ) → kind ≡ n + 2 → 1 < kind
above_one kind n is = omega arith

pub returns-in_err-skip_bytes-in-1-clause-spare : goal.returns-in_err-skip_bytes-in-1-clause-spare
returns-in_err-skip_bytes-in-1-clause-spare g c = λ is known same firm.
    let p = err_from_is_err_and c.from_residual.result c.from_residual.ensures.1 in
    let e : c.in_err-skip_bytes-in-1.field-0.0 ≡ Memory = reason_is p.1 p.2 is in
    absurd (firm (memory_short (skipped (8 * c.args.length)) c.args.bits.now.cursor c.in_err-skip_bytes-in-1.field-0.0 (skipped_avoids (8 * c.args.length)) e (c.in_err-skip_bytes-in-1.ensures.reading.reads known same)))

pub returns-in_err-skip_bytes-in-1-clause-reading : goal.returns-in_err-skip_bytes-in-1-clause-reading
unfolding content padding
returns-in_err-skip_bytes-in-1-clause-reading g c =
    let p = err_from_is_err_and c.from_residual.result c.from_residual.ensures.1 in
    let e = c.in_err-skip_bytes-in-1.ensures.reading in
    rw (p.1, p.2, c.in-1.is) (record {
      spends = tt;
      counts = e.counts;
      reads = (λ room. told_fault c.args.bits.now c.skip_bytes.new.bits _ e.reads);
    })

pub returns-in_ok-skip_bytes-in-1-clause-reading : goal.returns-in_ok-skip_bytes-in-1-clause-reading
unfolding content padding
returns-in_ok-skip_bytes-in-1-clause-reading g c =
    let r = c.in_ok-skip_bytes-in-1.ensures.reading in
    record {
      spends = r.spends;
      counts = r.counts;
      reads = rw c.in-1.is (λ room. told_then c.args.bits.now c.skip_bytes.new.bits c.skip_bytes.new.bits _ r.counts r.reads (λ known same. refl));
    }

-- a kind that is reserved
content_other : (kind length : ℕ) (c : Cursor) → 7 ≤ kind → run (content kind length) c ≡ run (other kind length) c
unfolding content
content_other kind length c le =
    let a : nat_eq kind 0 ≡ false = not_same kind 0 (λ e. omega arith) in
    let b : nat_eq kind 1 ≡ false = not_same kind 1 (λ e. omega arith) in
    let d : nat_eq kind 2 ≡ false = not_same kind 2 (λ e. omega arith) in
    let f : nat_eq kind 3 ≡ false = not_same kind 3 (λ e. omega arith) in
    let h : nat_eq kind 4 ≡ false = not_same kind 4 (λ e. omega arith) in
    let i : nat_eq kind 5 ≡ false = not_same kind 5 (λ e. omega arith) in
    let j : nat_eq kind 6 ≡ false = not_same kind 6 (λ e. omega arith) in
    rw (a, b, d, f, h, i, j) refl

pub returns-in_err-bytes-in_default-clause-reading : goal.returns-in_err-bytes-in_default-clause-reading
unfolding other
returns-in_err-bytes-in_default-clause-reading g c =
    let p = err_from_is_err_and c.from_residual-in_err-bytes-in_default.result c.from_residual-in_err-bytes-in_default.ensures.1 in
    let e = c.in_err-bytes-in_default.ensures.reading in
    let le : 7 ≤ c.args.kind = omega arith in
    rw (p.1, p.2) (record {
      spends = tt;
      counts = e.counts;
      reads = (λ room known same. content_other c.args.kind c.args.length c.args.bits.now.cursor le
          ∙ told_fault c.args.bits.now c.read_raw.new.bits (λ bytes d. Ok (block_of.Other c.args.kind bytes, d)) (e.reads (same_room room)) known same);
    })

pub returns-in_ok-bytes-in_default-clause-reading : goal.returns-in_ok-bytes-in_default-clause-reading
unfolding other
returns-in_ok-bytes-in_default-clause-reading g c =
    let r = c.in_ok-bytes-in_default.ensures.reading in
    let le : 7 ≤ c.args.kind = omega arith in
    record {
      spends = r.spends;
      counts = r.counts;
      reads = (λ room known same. content_other c.args.kind c.args.length c.args.bits.now.cursor le
          ∙ told_then c.args.bits.now c.read_raw.new.bits c.read_raw.new.bits (λ bytes d. Ok (block_of.Other c.args.kind bytes, d)) r.counts (r.reads had_room) (λ known same. refl) known same);
    }

pub returns-in-2-clause-reading : goal.returns-in-2-clause-reading
unfolding content
returns-in-2-clause-reading g c = rw c.in-2.is c.read_application.ensures.reading

pub returns-in_ok-skip_bytes-in-1-clause-spare : goal.returns-in_ok-skip_bytes-in-1-clause-spare
returns-in_ok-skip_bytes-in-1-clause-spare g c = λ is. absurd (had_room is)

pub returns-in_ok-bytes-in_default-clause-spare : goal.returns-in_ok-bytes-in_default-clause-spare
returns-in_ok-bytes-in_default-clause-spare g c = λ is. absurd (had_room is)

-- ---- what was read becomes a block

abbrev block_with : {X : Type 0} → (X → Block) → Result X Why → Result Block Why
block_with make (Ok x) = Ok (make x)
block_with make (Err e) = Err e

made_of : {X : Type 0} {P : X → Block → Type 0} (make : X → Block) (read : Result X Why) (result : Result Block Why)
    → ((x : X) (b : Block) → P x b → b ≡ make x) → MatchResult read (λ x. IsOkAnd result (P x)) (λ e. result ≡ Err e) → result ≡ block_with make read
made_of make (Ok x) (Ok b) is h = ap (λ b. Ok b) (is x b h)
made_of make (Ok x) (Err e) is h = absurd h
made_of make (Err e) result is h = h

call_with : {X : Type 0} (make : X → Block) (layout : Layout X) (old new : State) (read : Result X Why)
    → Call 0 (ReadsGivenMemory (λ x. x) layout) old new read → Call 0 (ReadsGivenMemory (λ b. b) (layout >>= λ x. done (make x))) old new (block_with make read)
call_with make layout old new (Ok x) r = record {
  spends = r.spends;
  counts = r.counts;
  reads = λ room. told_then old new new _ r.counts (r.reads had_room) (λ known same. refl);
}
call_with make layout old new (Err e) r = record {
  spends = tt;
  counts = r.counts;
  reads = λ room. told_fault old new _ (r.reads (same_room room));
}

-- where memory cannot run out
in_room : {X : Type 0} (layout : Layout X) (old new : State) (read : Result X Why) → Call 0 (Reads (λ x. x) layout) old new read → Call 0 (ReadsGivenMemory (λ x. x) layout) old new read
in_room layout old new read r = record { spends = r.spends; counts = r.counts; reads = λ room. r.reads }

info_short : (make : Info → Block) (old new : State) (read : Result Info Why) → Reads (λ x. x) stream_info old new read
    → block_with make read ≡ Err Memory → old.known ≡ true → new.errors ≡ old.errors → old.cursor.mark.short ≡ Memory
info_short make old new (Ok x) r is known same = absurd (had_room is)
info_short make old new (Err e) r is known same = memory_short stream_info old.cursor e info_avoids (reason_is refl refl is) (r known same)

pub returns-in-0-clause-spare : goal.returns-in-0-clause-spare
returns-in-0-clause-spare g c = λ is known same firm.
    absurd (firm (info_short block_of.StreamInfo c.args.bits.now c.read_stream_info.new.bits c.read_stream_info.result c.read_stream_info.ensures.reading.reads
    (sym (made_of block_of.StreamInfo _ _ (λ x b q. q) c.map.ensures.cases) ∙ is) known same))

pub returns-in-0-clause-reading : goal.returns-in-0-clause-reading
unfolding content
returns-in-0-clause-reading g c =
    rw (made_of block_of.StreamInfo _ _ (λ x b q. q) c.map.ensures.cases, c.in-0.is) (call_with block_of.StreamInfo stream_info _ _ _ (in_room stream_info _ _ _ c.read_stream_info.ensures.reading))

pub returns-in-3-clause-reading : goal.returns-in-3-clause-reading
unfolding content
returns-in-3-clause-reading g c =
    rw (made_of block_of.SeekTable _ _ (λ x b q. q) c.map-in-3.ensures.cases, c.in-3.is) (call_with block_of.SeekTable (seek_points (c.args.length / 18) None) _ _ _ c.read_seek_table.ensures.reading)

pub returns-in-3-clause-spare : goal.returns-in-3-clause-spare
returns-in-3-clause-spare g c = λ is known same firm. above_one c.args.kind 1 c.in-3.is

pub returns-in-4-clause-reading : goal.returns-in-4-clause-reading
unfolding content
returns-in-4-clause-reading g c =
    rw (made_of block_of.VorbisComment _ _ (λ x b q. q) c.map-in-4.ensures.cases, c.in-4.is) (call_with block_of.VorbisComment (comments c.args.length) _ _ _ c.read_comments.ensures.reading)

pub returns-in-4-clause-spare : goal.returns-in-4-clause-spare
returns-in-4-clause-spare g c = λ is known same firm. above_one c.args.kind 2 c.in-4.is

pub returns-in-5-clause-reading : goal.returns-in-5-clause-reading
unfolding content
returns-in-5-clause-reading g c =
    rw (made_of block_of.CueSheet _ _ (λ x b q. q) c.map-in-5.ensures.cases, c.in-5.is) (call_with block_of.CueSheet (cue_sheet c.args.length) _ _ _ c.read_cue_sheet.ensures.reading)

pub returns-in-5-clause-spare : goal.returns-in-5-clause-spare
returns-in-5-clause-spare g c = λ is known same firm. above_one c.args.kind 3 c.in-5.is

pub returns-in-6-clause-reading : goal.returns-in-6-clause-reading
unfolding content
returns-in-6-clause-reading g c =
    rw (made_of block_of.Picture _ _ (λ x b q. q) c.map-in-6.ensures.cases, c.in-6.is) (call_with block_of.Picture (picture c.args.length) _ _ _ c.read_picture.ensures.reading)

pub returns-in-6-clause-spare : goal.returns-in-6-clause-spare
returns-in-6-clause-spare g c = λ is known same firm. above_one c.args.kind 4 c.in-6.is
