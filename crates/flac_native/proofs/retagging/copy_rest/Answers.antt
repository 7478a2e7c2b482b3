use Rattle.std.proofs.Common.{◌≡◌, ◌<◌, ◌∙◌, inl, inr, refl, length, take, arith}
use Rattle.flac_native.proofs.Copies.{copied_more, copied_all, copied_part}
use Rattle.flac_native.proofs.RetagFaults.{write_no_read, read_no_write, no_fewer}
use Rattle.flac_native.proofs.SameStart.{less_at, most_at, rises_at}
use Rattle.flac_native.proofs.retagging.copy_rest.Goals as goal

pub returns-in-Err : goal.returns-in-Err
returns-in-Err g c =
    let inv = c.loop-count.invariant in
    let e = c.in-Err.ensures in
    record {
      copied = tt;
      begun = λ known told. let k = inv.copied known told in (k.0, c.loop-count.reader.cursor.left, k.1, k.2);
      fault = inl refl;
      read = λ is known. less_at _ _ _ inv.went.2 (e.counts.2 (inv.went.0 known) e.cut.0);
      write = λ is told. absurd (read_no_write is);
      read_risen = λ is. rises_at _ _ _ inv.went.2 (e.counts.4 e.cut.0);
      write_risen = λ is. absurd (read_no_write is);
      errors = (most_at _ _ _ inv.went.1 e.counts.0, no_fewer _ _ inv.errors);
      names = (e.counts.3 ∙ inv.went.4, inv.names);
    }

pub returns-in-Err-send_all : goal.returns-in-Err-send_all
returns-in-Err-send_all g c =
    let inv = c.loop-count.invariant in
    let got = c.in-Ok.ensures in
    let sends = c.in-Err-send_all.ensures.sends in
    record {
      copied = tt;
      begun = λ known told.
          let begun = sends.begun (inv.known told) in
          let read = got.taken (inv.went.0 known) in
          copied_part _ _ _ (take c.in-Ok.count c.take_bytes.new.out) begun.0 begun.1 _ _ _ (inv.copied known told) read.0 begun.2 begun.3;
      fault = inr refl;
      read = λ is known. absurd (write_no_read is);
      write = λ is told. less_at _ _ _ inv.errors (sends.rises (inv.known told));
      read_risen = λ is. absurd (write_no_read is);
      write_risen = λ is. rises_at _ _ _ inv.errors sends.risen;
      errors = (no_fewer _ _ (got.counts.1 ∙ inv.went.1), most_at _ _ _ inv.errors sends.kept);
      names = (got.counts.4 ∙ inv.went.4, sends.names ∙ inv.names);
    }

pub returns-then-count-lt-PIECE : goal.returns-then-count-lt-PIECE
returns-then-count-lt-PIECE g c =
    let inv = c.loop-count.invariant in
    let got = c.in-Ok.ensures in
    let sends = c.in-Ok-send_all.ensures.sends in
    record {
      copied = λ known told.
          let sent = sends.sent (inv.known told) in
          let read = got.taken (inv.went.0 known) in
          let long : length c.take_bytes.new.out ≡ 4096 = c.take_bytes.auto.out ∙ inv.room in
          let short : c.in-Ok.count < length c.take_bytes.new.out = omega (arith, c.if-count-lt-PIECE.true, long) in
          copied_all _ _ c.take_bytes.new.self.cursor.left _ (copied_more _ _ _ (take c.in-Ok.count c.take_bytes.new.out) _ _ _ (inv.copied known told) read.0 sent) (got.over short (inv.went.0 known)).0;
      begun = tt;
      fault = tt;
      read = tt;
      write = tt;
      read_risen = tt;
      write_risen = tt;
      errors = (no_fewer _ _ (got.counts.1 ∙ inv.went.1), no_fewer _ _ (sends.counted ∙ inv.errors));
      names = (got.counts.4 ∙ inv.went.4, sends.names ∙ inv.names);
    }

pub loop-count-preserved : goal.loop-count-preserved
loop-count-preserved g c =
    let inv = c.loop-count.invariant in
    let got = c.in-Ok.ensures in
    let sent = c.in-Ok-send_all.ensures.sends in
    record {
      whole = got.whole;
      room = c.take_bytes.auto.out ∙ inv.room;
      went = (λ known. got.counts.0 (inv.went.0 known), got.counts.1 ∙ inv.went.1, got.counts.2 ∙ inv.went.2, λ known. got.counts.3 (inv.went.0 known) ∙ inv.went.3 known, got.counts.4 ∙ inv.went.4);
      known = λ told. sent.known (inv.known told);
      errors = sent.counted ∙ inv.errors;
      names = sent.names ∙ inv.names;
      copied = λ known told. copied_more _ _ _ (take c.in-Ok.count c.take_bytes.new.out) _ _ _ (inv.copied known told) (got.taken (inv.went.0 known)).0 (sent.sent (inv.known told));
    }
