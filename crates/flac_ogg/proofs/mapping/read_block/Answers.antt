use Rattle.std.proofs.Common.{◌+◌, ◌<◌, ◌≤◌, ℕ, arith}
use Rattle.std.proofs.lemmas.Result.{err_from_is_err_and}
use Rattle.flac_meta.proofs.Exits.{had_room, same_room}
use Rattle.flac_ogg.proofs.mapping.read_block.Goals as goal

-- the bits that can still come
fewer : (old new : ℕ) → new + 32 ≤ old → new < old
fewer old new h = omega arith

pub returns-in_err-block_by_layout : goal.returns-in_err-block_by_layout
returns-in_err-block_by_layout g c =
    let p = err_from_is_err_and c.from_residual.result c.from_residual.ensures.1 in
    let reading = c.in_err-block_by_layout.ensures.reading in
    rw (p.1, p.2) (record {
      spends = tt;
      counts = reading.counts;
      reads = λ room. reading.reads (same_room room);
      made = tt;
      ordered = tt;
      next = tt;
    })

pub returns : goal.returns
returns g c =
    let ok = c.in_ok-block_by_layout.ensures in
    record {
      spends = fewer _ _ ok.reading.spends;
      counts = ok.reading.counts;
      reads = λ room. ok.reading.reads had_room;
      made = ok.made;
      ordered = λ before. before;
      next = ok.next;
    }
