use Rattle.std.specs.Prelude.{OnOk}
use Rattle.std.proofs.Common.{◌≡◌, ◌+◌, ◌<◌, ◌≤◌, true, ℕ, Result, Ok, Err, arith}
use Rattle.std.proofs.lemmas.Result.{err_from_is_err_and}
use Rattle.flac_bits.specs.State.{State, Cursor}
use Rattle.flac_bits.specs.Layout.{Reason, and_then}
use Rattle.flac_bits.specs.Reading.{Counts, Gives}
use Rattle.flac_bits.specs.declared.why.Why.{Why}
use Rattle.flac_bits.proofs.Counting.{Answered, answered_then, failed_then}
use Rattle.flac_bits.proofs.Telling.{told_then, told_fault}
use Rattle.flac_native.specs.Track.{piece_of}
use Rattle.flac_ogg.proofs.mapping.read_first_block.Goals as goal

-- after a call that returned a value, one whose result is returned
fewer : {X : Type 0} (old mid new : ℕ) (r : Result X Why) → mid + 104 ≤ old → OnOk r (new < mid) → OnOk r (new < old)
fewer old mid new (Ok x) h k = omega arith
fewer old mid new (Err e) h k = tt

counts_then : {X : Type 0} (old mid new : State) (r : Result X Why) → Answered old mid → Counts mid new r → Counts old new r
counts_then old mid new (Ok x) a h = answered_then old mid new a h
counts_then old mid new (Err e) a h = failed_then old mid new a h

gives_then : {A X Y : Type 0} {part : Result (A × Cursor) Reason} {x : A} {d : Cursor} (view : X → Y) (old mid new : State) (more : A → Cursor → Result (Y × Cursor) Reason) (r : Result X Why) → Answered old mid
    → (old.known ≡ true → mid.errors ≡ old.errors → part ≡ Ok (x, d)) → Gives view (more x d) mid new r → Gives view (and_then part more) old new r
gives_then view old mid new more (Ok y) a h k = told_then old mid new more a h k
gives_then view old mid new more (Err e) a h k = told_then old mid new more a h k

pub returns-in_err-read_mapping : goal.returns-in_err-read_mapping
returns-in_err-read_mapping g c =
    let p = err_from_is_err_and c.from_residual.result c.from_residual.ensures.1 in
    let reading = c.in_err-read_mapping.ensures.reading in
    rw (p.1, p.2) (record {
      spends = tt;
      counts = reading.counts;
      reads = λ room. told_fault c.args.bits.now c.read_mapping.new.bits _ reading.reads;
      made = tt;
      ordered = tt;
      next = tt;
    })

pub returns : goal.returns
returns g c =
    let old = c.args.bits.now in
    let mid = c.read_mapping.new.bits in
    let read = c.read_block in
    let reading = c.in_ok-read_mapping.ensures.reading in
    record {
      spends = fewer old.most mid.most read.new.bits.most read.result reading.spends read.ensures.spends;
      counts = counts_then old mid read.new.bits read.result reading.counts read.ensures.counts;
      reads = λ room. gives_then (λ part. piece_of read.new.track part) old mid read.new.bits _ read.result reading.counts reading.reads (read.ensures.reads room);
      made = read.ensures.made;
      ordered = read.ensures.ordered;
      next = read.ensures.next;
    }
