use Rattle.std.proofs.Common.{◌≡◌, ◌∙◌, refl, sym, ap, subst, inl, inr, Some, None, [], ◌∷◌, ◌++◌}
use Rattle.std.proofs.lemmas.Result.{err_from_is_err_and}
use Rattle.flac_bits.proofs.Handing.{TakesAll-append, state_after-append}
use Rattle.flac_bits.proofs.Counting.{none_of_output}
use Rattle.flac_bits.specs.State.{without_fence}
use Rattle.flac_native.specs.Track.{piece_of}
use Rattle.flac_native.specs.Stream.{Progress, Stand, grammar, next, place_in}
use Rattle.flac_native.specs.Giving.{BreaksAfter}
use Rattle.flac_native.specs.Decoding.{taken}
use Rattle.flac_bits.specs.declared.why.Why.{Why}
use Rattle.flac_bits.specs.declared.why.Why.TheVariants as why
use Rattle.flac_native.proofs.Handed.{one_more, all_done, next_refused, sink_failed, room_for, no_fault}
use Rattle.flac_native.proofs.RetagFaults.{no_fewer}
use Rattle.flac_native.proofs.SameStart.{less_at, most_at, rises_at}
use Rattle.flac_native.proofs.decoding.decode_into.Goals as goal

sink_no_read : (w : Why) → w ≡ why.Sink → w ≡ why.Read → ⊥
sink_no_read w e f = absurd cc

sink_no_write : (w : Why) → w ≡ why.Sink → w ≡ why.Write → ⊥
sink_no_write w e f = absurd cc

sink_no_memory : (w : Why) → w ≡ why.Sink → w ≡ why.Memory → ⊥
sink_no_memory w e f = absurd cc

pub returns-in-Ok-None : goal.returns-in-Ok-None
returns-in-Ok-None g c =
    let C = g.C.Container in
    let inv = c.loop-part.invariant in
    let step = c.in-Ok-None.ensures in
    let gives = rw c.in-Ok-None.field-0-is at step.gives in
    record {
      hands = λ p at known receives parts end come.
          let far = inv.far p at known receives parts end come in
          all_done (C.gives c.loop-part.container) (C.gives c.next.new.self) _ (taken g.S.Sink.takes) g.S.Sink.errors p parts end c.loop-part.track c.args.sink.now c.loop-part.sink (piece_of c.next.new.track) _ (BreaksAfter C p c.args.container.now c.next.new.self) far
          (λ calm. gives far.q far.at (inv.knows known) (calm.0 ∙ sym inv.errors) (calm.1 ∙ sym inv.raised) (no_fault None) far.left end far.comes);
      met = (λ known. step.counts.0 (inv.knows known), step.counts.1 ∙ inv.errors, step.counts.2 ∙ inv.raised, step.counts.3 ∙ inv.met);
      kept = no_fewer _ _ (step.counts.1 ∙ inv.errors);
      read = tt;
      risen = tt;
      sink = tt;
      write = tt;
      broken = λ p at. tt;
      after = λ known same. step.after (inv.knows known) step.counts.1 ∙ inv.after known;
      names = inv.names;
      container_names = step.names ∙ inv.container_names;
    }

pub returns-in-Err : goal.returns-in-Err
returns-in-Err g c =
    let C = g.C.Container in
    let inv = c.loop-part.invariant in
    let e = c.in-Err.ensures in
    record {
      hands = λ p at known receives parts end come.
          let far = inv.far p at known receives parts end come in
          next_refused (C.gives c.loop-part.container) (C.gives c.next.new.self) _ (taken g.S.Sink.takes) g.S.Sink.errors p parts end c.loop-part.track c.args.sink.now c.loop-part.sink (piece_of c.next.new.track) _ (BreaksAfter C p c.args.container.now c.next.new.self) c.in-Err.fault far
          (λ calm room. e.gives far.q far.at (inv.knows known) (calm.0 ∙ sym inv.errors) (calm.1 ∙ sym inv.raised) (room_for c.in-Err.fault room) far.left end far.comes)
          (λ out. (subst (λ (q : Progress). C.breaks c.next.new.self q c.in-Err.fault.at c.in-Err.fault.why) far.state (e.broken far.q far.at out), (c.loop-part.container, far.given, e.broke out)));
      met = tt;
      kept = most_at _ _ _ inv.errors e.kept;
      read = λ known is clear. less_at _ _ _ inv.raised (e.read (inv.knows known) is (inv.clear known clear));
      risen = λ is. rises_at _ _ _ inv.met (e.risen is);
      sink = λ is. absurd (none_of_output e.output refl is);
      write = λ is. none_of_output e.output refl is;
      broken = λ p at out. let there = inv.reached p at in (there.0, e.broken there.0 there.1 out, there.2);
      after = λ known same. e.after (inv.knows known) (same ∙ sym inv.errors) ∙ inv.after known;
      names = inv.names;
      container_names = e.names ∙ inv.container_names;
    }

pub returns-in_err-hand_at : goal.returns-in_err-hand_at
returns-in_err-hand_at g c =
    let p = err_from_is_err_and c.from_residual.result c.from_residual.ensures.1 in
    let C = g.C.Container in
    let inv = c.loop-part.invariant in
    let step = c.in-Ok-Some.ensures in
    let e = c.in_err-hand_at.ensures in
    rw (p.1, p.2) (record {
      hands = λ p at known receives parts end come.
          let far = inv.far p at known receives parts end come in
          sink_failed (C.gives c.loop-part.container) _ (taken g.S.Sink.takes) g.S.Sink.errors p parts end c.loop-part.track c.args.sink.now c.loop-part.sink c.hand_at.new.sink _ (BreaksAfter C p c.args.container.now c.next.new.self) _ _ far
          (e.failed.0 (inv.known receives)) e.failed.1 (λ q there. e.failed.2 ∙ c.place-at.ensures ∙ ap (λ (s : Stand). place_in s.phase s.index) there.stand);
      met = tt;
      kept = no_fewer _ _ (step.counts.1 ∙ inv.errors);
      read = λ known is clear. absurd (sink_no_read _ e.failed.1 is);
      risen = λ is. absurd (sink_no_read _ e.failed.1 is);
      sink = λ is. rises_at _ _ _ inv.received e.risen;
      write = λ is. absurd (sink_no_write _ e.failed.1 is);
      broken = λ p at out. absurd (elim out [ inl is ↦ sink_no_read _ e.failed.1 is | inr is ↦ sink_no_memory _ e.failed.1 is ]);
      after = λ known same. step.after (inv.knows known) step.counts.1 ∙ inv.after known;
      names = c.hand_at.ensures.names ∙ inv.names;
      container_names = step.names ∙ inv.container_names;
    })

pub loop-part-preserved : goal.loop-part-preserved
loop-part-preserved g c =
    let C = g.C.Container in
    let step = rw c.in-Ok-Some.field-0-is at c.in-Ok-Some.ensures in
    let took = c.in_ok-hand_at.ensures in
    let inv = c.loop-part.invariant in
    record {
      stands = step.stands;
      reached = λ p at.
          let there = inv.reached p at in
          let x = piece_of c.next.new.track c.in-Ok-Some.part in (
            next there.0 x,
            step.next there.0 there.1,
            λ receives.
                let parts = there.2 receives in (
                  parts.0 ++ x ∷ [],
                  TakesAll-append (taken g.S.Sink.takes) c.args.sink.now parts.0 c.loop-part.sink x c.hand_at.new.sink parts.1 (took.takes (inv.known receives)),
                  ap (λ (s : Progress). next s x) parts.2 ∙ sym (state_after-append grammar p parts.0 x),
                ),
          );
      knows = λ known. step.counts.0 (inv.knows known);
      errors = step.counts.1 ∙ inv.errors;
      raised = step.counts.2 ∙ inv.raised;
      met = step.counts.3 ∙ inv.met;
      container_names = step.names ∙ inv.container_names;
      names = c.hand_at.ensures.names ∙ inv.names;
      received = took.counted ∙ inv.received;
      known = λ receives. took.known (inv.known receives);
      clear = λ known clear. step.clear (inv.knows known) (inv.clear known clear);
      after = λ known. ap without_fence (step.after (inv.knows known) step.counts.1) ∙ inv.after known;
      far = λ p at known receives parts end come.
          let far = inv.far p at known receives parts end come in
          one_more (C.gives c.loop-part.container) (C.gives c.next.new.self) _ _ (taken g.S.Sink.takes) g.S.Sink.errors p parts end c.loop-part.track c.next.new.track c.args.sink.now c.loop-part.sink c.hand_at.new.sink (piece_of c.next.new.track) c.in-Ok-Some.part far
          (step.gives far.q far.at (inv.knows known) step.counts.1 step.counts.2 (no_fault (Some c.in-Ok-Some.part)) far.left end far.comes) (step.next far.q far.at) took.counted (took.takes (inv.known receives))
          (λ xs z h. TakesAll-append (λ a _ b. C.gave a b) c.args.container.now xs c.loop-part.container z c.next.new.self h step.gave);
    }
