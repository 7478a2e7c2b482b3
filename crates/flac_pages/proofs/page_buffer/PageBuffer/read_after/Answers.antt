use Rattle.std.proofs.Common.{◌≡◌, ◌≤◌, ℕ, rules, Option, Some, None, Result, Ok, Err, refl, sym, ◌∙◌, arith}
use Rattle.std.proofs.lemmas.Result.{err_from_is_err_and}
use Rattle.flac_bits.specs.State.{Cursor}
use Rattle.flac_bits.specs.Layout.{bits, run, Reason, because}
use Rattle.flac_bits.specs.Lists.{list_of}
use Rattle.flac_bits.specs.Unchecked.{begun_anew}
use Rattle.flac_bits.specs.declared.why.Why.{Why}
use Rattle.flac_bits.proofs.Counting.{failed_then}
use Rattle.flac_pages.specs.Page.{Page, head_after, page_after}
use Rattle.flac_pages.specs.declared.page.Before.{Before}
use Rattle.flac_pages.specs.declared.page.Head.{Head}
use Rattle.flac_pages.proofs.PageReads.{page_end_anew, page_cut_anew}
use Rattle.flac_pages.proofs.page_buffer.PageBuffer.read_after.Goals as goal

no_fewer : (old new : ℕ) → new ≡ old → old ≤ new
no_fewer old new same = omega arith

abbrev refused : Why → Result (Page × Cursor) Reason
refused why = Err (because why)

head_broken : (before : Option Before) (first : ℕ) (c0 : Cursor) (why : Why) → run (head_after first) c0 ≡ Err (because why) → begun_anew (run (page_after before first) c0) ≡ refused why
unfolding page_after
head_broken before first c0 why a = rw a refl

count_broken : (before : Option Before) (first : ℕ) (c0 c1 : Cursor) (h : Head) (why : Why) → run (head_after first) c0 ≡ Ok (h, c1) → run (bits 8) c1 ≡ Err (because why) → begun_anew (run (page_after before first) c0) ≡ refused why
unfolding page_after
count_broken before first c0 c1 h why a k = rw (a, k) refl

lacing_broken : (before : Option Before) (first : ℕ) (c0 c1 c2 : Cursor) (h : Head) (count : ℕ) (why : Why) → run (head_after first) c0 ≡ Ok (h, c1) → run (bits 8) c1 ≡ Ok (count, c2) → run (list_of count (bits 8)) c2 ≡ Err (because why)
    → begun_anew (run (page_after before first) c0) ≡ refused why
unfolding page_after
lacing_broken before first c0 c1 c2 h count why a k b = rw (a, k, b) refl

pub returns-in-Some-clause-reading : goal.returns-in-Some-clause-reading
returns-in-Some-clause-reading g c = record {
  spends = tt;
  counts = (let head = c.in_ok-self-inside.ensures.reading.counts in
      let count = c.in_ok-self-inside-2.ensures.reading.counts in
      let lacing = c.in_ok-read_some.ensures.reading.counts in
      let body = c.in_ok-read_body.ensures.reading.counts in (
        no_fewer _ _ (body.1 ∙ lacing.1 ∙ count.1 ∙ head.1),
        λ k same. body.3 (lacing.0 (count.0 (head.0 k))) ∙ lacing.3 (count.0 (head.0 k)) ∙ count.3 (head.0 k) ∙ head.3 k,
        λ k read. absurd (c.in-Some.ensures.kind.0 read),
        body.4 ∙ lacing.4 ∙ count.4 ∙ head.4,
        λ read. absurd (c.in-Some.ensures.kind.0 read),
        c.in-Some.ensures.kind.2,
      ));
  memory = c.in-Some.ensures.kind.1;
  reads = (λ known same.
      let head = c.in_ok-self-inside.ensures in
      let count = c.in_ok-self-inside-2.ensures in
      let lacing = c.in_ok-read_some.ensures in
      let body = c.in_ok-read_body.ensures in
      let known1 = head.reading.counts.0 known in
      let known2 = count.reading.counts.0 known1 in
      let known3 = lacing.reading.counts.0 known2 in
      page_end_anew c.args.before c.args.first _ _ _ _ _ _ _ _ _ _ (Some c.in-Some.why) (head.reading.reads known head.reading.counts.1) (count.reading.reads known1 count.reading.counts.1) (lacing.reading.reads known2 lacing.reading.counts.1) c.total-self-inside.ensures.sum (body.reading.reads known3 body.reading.counts.1) (sym c.in-Some.ensures.first));
}

pub returns-in-None-clause-reading : goal.returns-in-None-clause-reading
returns-in-None-clause-reading g c = record {
  spends = search rules;
  counts = (let head = c.in_ok-self-inside.ensures.reading.counts in
      let count = c.in_ok-self-inside-2.ensures.reading.counts in
      let lacing = c.in_ok-read_some.ensures.reading.counts in
      let body = c.in_ok-read_body.ensures.reading.counts in (
        λ k. body.0 (lacing.0 (count.0 (head.0 k))),
        body.1 ∙ lacing.1 ∙ count.1 ∙ head.1,
        body.2 ∙ lacing.2 ∙ count.2 ∙ head.2,
        λ k. body.3 (lacing.0 (count.0 (head.0 k))) ∙ lacing.3 (count.0 (head.0 k)) ∙ count.3 (head.0 k) ∙ head.3 k,
        body.4 ∙ lacing.4 ∙ count.4 ∙ head.4,
      ));
  memory = tt;
  reads = (λ known same.
      let head = c.in_ok-self-inside.ensures in
      let count = c.in_ok-self-inside-2.ensures in
      let lacing = c.in_ok-read_some.ensures in
      let body = c.in_ok-read_body.ensures in
      let known1 = head.reading.counts.0 known in
      let known2 = count.reading.counts.0 known1 in
      let known3 = lacing.reading.counts.0 known2 in
      page_end_anew c.args.before c.args.first _ _ _ _ _ _ _ _ _ _ None (head.reading.reads known head.reading.counts.1) (count.reading.reads known1 count.reading.counts.1) (lacing.reading.reads known2 lacing.reading.counts.1) c.total-self-inside.ensures.sum (body.reading.reads known3 body.reading.counts.1) (sym c.in-None.ensures.first));
}

pub returns-in_err-self-inside : goal.returns-in_err-self-inside
returns-in_err-self-inside g c =
    let p = err_from_is_err_and c.from_residual.result c.from_residual.ensures.1 in
    let e = c.in_err-self-inside.ensures.reading in
    rw (p.1, p.2) (record {
      reading = record { spends = tt; counts = e.counts; memory = e.memory; reads = λ known same. head_broken c.args.before c.args.first _ _ (e.reads known same) };
      whole = tt;
    })

pub returns-in_err-self-inside-2 : goal.returns-in_err-self-inside-2
returns-in_err-self-inside-2 g c =
    let p = err_from_is_err_and c.from_residual-in_err-self-inside-2.result c.from_residual-in_err-self-inside-2.ensures.1 in
    let head = c.in_ok-self-inside.ensures.reading in
    let e = c.in_err-self-inside-2.ensures.reading in
    rw (p.1, p.2) (record {
      reading = record {
        spends = tt;
        counts = failed_then c.args.reader.now c.read_head.new.reader c.take.new.self head.counts e.counts;
        memory = e.memory;
        reads = λ known same. count_broken c.args.before c.args.first _ _ _ _ (head.reads known head.counts.1) (e.reads (head.counts.0 known) (same ∙ sym head.counts.1));
      };
      whole = tt;
    })

pub returns-in_err-read_some : goal.returns-in_err-read_some
returns-in_err-read_some g c =
    let p = err_from_is_err_and c.from_residual-in_err-read_some.result c.from_residual-in_err-read_some.ensures.1 in
    let head = c.in_ok-self-inside.ensures.reading in
    let count = c.in_ok-self-inside-2.ensures.reading in
    let e = c.in_err-read_some.ensures.reading in
    rw (p.1, p.2) (record {
      reading = record {
        spends = tt;
        counts = failed_then c.args.reader.now c.read_head.new.reader c.read_some.new.reader head.counts (failed_then c.read_head.new.reader c.take.new.self c.read_some.new.reader count.counts e.counts);
        memory = e.memory;
        reads = λ known same.
            let known1 = head.counts.0 known in
            lacing_broken c.args.before c.args.first _ _ _ _ _ _ (head.reads known head.counts.1) (count.reads known1 count.counts.1) (e.reads (count.counts.0 known1) (same ∙ sym (count.counts.1 ∙ head.counts.1)));
      };
      whole = tt;
    })

pub returns-in_err-read_body : goal.returns-in_err-read_body
returns-in_err-read_body g c =
    let p = err_from_is_err_and c.from_residual-in_err-read_body.result c.from_residual-in_err-read_body.ensures.1 in
    let head = c.in_ok-self-inside.ensures.reading in
    let count = c.in_ok-self-inside-2.ensures.reading in
    let lacing = c.in_ok-read_some.ensures.reading in
    let e = c.in_err-read_body.ensures.reading in
    rw (p.1, p.2) (record {
      reading = record {
        spends = tt;
        counts = failed_then c.args.reader.now c.read_head.new.reader c.read_body.new.reader head.counts (failed_then c.read_head.new.reader c.take.new.self c.read_body.new.reader count.counts (failed_then c.take.new.self c.read_some.new.reader c.read_body.new.reader lacing.counts e.counts));
        memory = e.memory;
        reads = λ known same.
            let known1 = head.counts.0 known in
            let known2 = count.counts.0 known1 in
            let read = e.reads (lacing.counts.0 known2) (same ∙ sym (lacing.counts.1 ∙ count.counts.1 ∙ head.counts.1)) in
            page_cut_anew c.args.before c.args.first _ _ _ _ _ _ _ _ _ (head.reads known head.counts.1) (count.reads known1 count.counts.1) (lacing.reads known2 lacing.counts.1) c.total-self-inside.ensures.sum read;
      };
      whole = tt;
    })
