use Rattle.std.proofs.Common.{◌≡◌, true, refl, sym, ap, ◌∙◌}
use Rattle.std.proofs.lemmas.Result.{err_from_is_err_and}
use Rattle.flac_bits.specs.State.{State, without_fence}
use Rattle.flac_bits.specs.Fencing.{lifted}
use Rattle.flac_bits.proofs.Handing.{starts, one_more, step_refused}
use Rattle.flac_native.specs.Stream.{Progress, grammar, next, opening, place_in}
use Rattle.flac_native.specs.Track.{is_after_blocks, position_of}
use Rattle.flac_native.specs.inner.Retag.{keeps}
use Rattle.flac_native.specs.declared.position.Position.{Position}
use Rattle.flac_bits.proofs.Bounds.{so_far_lifted, open_on, lifted_open, step_short}
use Rattle.flac_native.proofs.Metadata.{no_errors}
use Rattle.flac_bits.specs.declared.why.Why.TheVariants as why
use Rattle.flac_native.proofs.Blocks.{kept_are, kept_whole}
use Rattle.flac_native.proofs.RetagFaults.{no_fewer}
use Rattle.flac_native.proofs.Broken.{breaks_at}
use Rattle.flac_native.proofs.SameStart.{less_at, most_at, rises_at}
use Rattle.flac_native.proofs.retagging.keep_all.Goals as goal
use Rattle.flac_header.specs.declared.subset.Profile.TheVariants.{Subset}

pub loop-alloc-init : goal.loop-alloc-init
loop-alloc-init g c = record {
  went = (λ k. k, refl, refl, λ k. refl, refl);
  far = (opening Subset, sym c.start-position.ensures, starts grammar (keeps c.args.all) no_errors (opening Subset) (lifted c.args.reader.now) _);
}

pub loop-alloc-preserved : goal.loop-alloc-preserved
loop-alloc-preserved g c =
    let step = c.in_ok-keep_next.ensures in
    let inv = c.loop-alloc.invariant in
    record {
      went = (λ known. step.counts.0 (inv.went.0 known), step.counts.1 ∙ inv.went.1, step.counts.2 ∙ inv.went.2, λ known. ap without_fence (step.counts.3 (inv.went.0 known)) ∙ inv.went.3 known, step.counts.4 ∙ inv.went.4);
      far =
          let far = inv.far in
          let more = step.keeps far.0 far.1 in (
            next far.0 more.0,
            more.1,
            so_far_lifted grammar (keeps c.args.all) no_errors (opening Subset) (next far.0 more.0) (lifted c.args.reader.now) c.keep_next.new.reader c.args.kept.now.items c.keep_next.new.kept.items
                (one_more grammar (keeps c.args.all) no_errors (opening Subset) far.0 (next far.0 more.0) (lifted c.args.reader.now) (lifted c.loop-alloc.reader) c.keep_next.new.reader c.args.kept.now.items c.loop-alloc.kept.items c.keep_next.new.kept.items more.0
                far.2 step.counts (λ told. more.3 told) refl more.2 refl)
                (λ known.
                let told = far.2.known known in
                open_on (lifted c.loop-alloc.reader) c.keep_next.new.reader (lifted_open c.loop-alloc.reader) (step.counts.3 told)
                (step_short grammar far.0 (lifted c.loop-alloc.reader).cursor c.keep_next.new.reader.cursor more.0 (more.3 told))),
          );
    }

over : (q : Position) (p : Progress) → position_of p.stand ≡ q → is_after_blocks q.phase ≡ true → is_after_blocks p.stand.phase ≡ true
over q p at e = ap (λ (k : Position). is_after_blocks k.phase) at ∙ e

truncated_read : why.Truncated ≡ why.Read → ⊥
truncated_read e = absurd cc

truncated_memory : why.Truncated ≡ why.Memory → ⊥
truncated_memory e = absurd cc

pub returns : goal.returns
returns g c =
    let inv = c.loop-alloc.invariant in
    record {
      counts = rw c.lift.ensures inv.went;
      whole = sym c.unread.ensures.0 ∙ c.if-unread-ne0.false;
      kept = λ known.
          let far = inv.far in
          let end = over c.loop-alloc.position far.0 far.1 (sym c.is_past_metadata.ensures ∙ c.loop-alloc-test.false) in
          rw c.lift.ensures (kept_are c.args.all (lifted c.args.reader.now).cursor (lifted c.loop-alloc.reader).cursor far.0 c.args.kept.now.items c.loop-alloc.kept.items c.requires.none (far.2.far known) end);
      refused = tt;
      placed = tt;
      at = tt;
      memory = tt;
    }

pub returns-then-unread-ne0 : goal.returns-then-unread-ne0
returns-then-unread-ne0 g c =
    let inv = c.loop-alloc.invariant in
    let went = inv.went in
    let none = λ (known : c.args.reader.now.known ≡ true).
    let far = inv.far in
    let whole = kept_whole c.args.all (lifted c.args.reader.now).cursor (lifted c.loop-alloc.reader).cursor far.0 c.args.kept.now.items c.loop-alloc.kept.items c.requires.whole (far.2.far known) in
    let zero : c.unread.result ≡ 0 = c.unread.ensures.0 ∙ ap (λ (s : State). s.cursor.mark.unread) c.lift.ensures ∙ whole in
    c.if-unread-ne0.true zero in
    record {
      counts = rw c.lift.ensures (
        no_fewer _ _ went.1,
        λ known same. went.3 known,
        λ known is. absurd (truncated_read is),
        went.4,
        λ is. absurd (truncated_read is),
        refl,
      );
      whole = tt;
      kept = tt;
      refused = λ known same room. absurd (none known);
      placed = λ known. absurd (none known);
      at = λ known. absurd (none known);
      memory = λ is. absurd (truncated_memory is);
    }

pub returns-in_err-keep_next : goal.returns-in_err-keep_next
returns-in_err-keep_next g c =
    let p = err_from_is_err_and c.from_residual.result c.from_residual.ensures.1 in
    let e = c.in_err-keep_next.ensures in
    let went = c.loop-alloc.invariant.went in
    rw (p.1, p.2) (record {
      counts = (
        most_at _ _ _ went.1 e.counts.0,
        λ known same. e.counts.1 (went.0 known) (same ∙ sym went.1) ∙ went.3 known,
        λ known is. less_at _ _ _ went.2 (e.counts.2 (went.0 known) is),
        e.counts.3 ∙ went.4,
        λ is. rises_at _ _ _ went.2 (e.counts.4 is),
        e.counts.5,
      );
      whole = tt;
      kept = tt;
      -- also if an error that is foretold came
      refused = λ known same room.
          let far = c.loop-alloc.invariant.far in
          let end = record c.keep_next.new.reader { raised = c.args.reader.now.raised } in
          let r = step_refused grammar (keeps c.args.all) no_errors (opening Subset) far.0 (lifted c.args.reader.now) (lifted c.loop-alloc.reader) end c.args.kept.now.items c.loop-alloc.kept.items _ _ far.2
          (λ told quiet calm some. e.refused far.0 far.1 told quiet some) known (same, refl) room in
          record { items = r.0; refused = r.1; place = e.at };
      placed = λ known.
          let far = c.loop-alloc.invariant.far in
          breaks_at c.args.all (lifted c.args.reader.now).cursor (lifted c.loop-alloc.reader).cursor far.0 c.args.kept.now.items c.loop-alloc.kept.items _ (far.2.far known) (e.place ∙ ap (λ (k : Position). place_in k.phase k.index) (sym far.1));
      at = λ known. e.at;
      memory = e.memory;
    })
