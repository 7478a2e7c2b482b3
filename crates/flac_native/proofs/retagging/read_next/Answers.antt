use Rattle.std.proofs.Common.{◌≡◌, Result, Ok, Err, refl, sym, ◌∙◌, rules}
use Rattle.std.proofs.lemmas.Result.{err_from_is_err_and}
use Rattle.flac_native.specs.Stream.{layout}
use Rattle.flac_native.specs.declared.track.Phase.TheVariants as phase
use Rattle.flac_bits.specs.declared.why.Why.{Why}
use Rattle.flac_native.proofs.Giving.{same_why}
use Rattle.flac_native.proofs.retagging.read_next.Goals as goal

abbrev answer : {X : Type 0} → X → Result X Why
answer x = Ok x

abbrev wrong : {X : Type 0} → Why → Result X Why
wrong e = Err e

answers : {X : Type 0} (x : X) (e : Why) → answer x ≡ wrong e → ⊥
answers x e is = absurd cc

blocks_opening : phase.Blocks ≡ phase.Opening → ⊥
blocks_opening e = absurd cc

pub returns-in_err-read_marker-in-Opening : goal.returns-in_err-read_marker-in-Opening
unfolding layout
returns-in_err-read_marker-in-Opening g c =
    let p = err_from_is_err_and c.from_residual.result c.from_residual.ensures.1 in
    let begins = rw c.lift.ensures at c.start_checks.ensures in
    let e = rw begins at c.in_err-read_marker-in-Opening.ensures.reading in
    rw (p.1, p.2) (record {
      spends = tt;
      counts = e.counts;
      reads = rw c.in-Opening.is (λ s room known same. rw (e.reads known same) refl);
      next = tt;
      first = λ is. tt;
      memory = λ is. e.memory;
    })

pub returns-in_ok-read_marker-in-Opening : goal.returns-in_ok-read_marker-in-Opening
unfolding layout
returns-in_ok-read_marker-in-Opening g c =
    let begins = rw c.lift.ensures at c.start_checks.ensures in
    let e = rw begins at c.in_ok-read_marker-in-Opening.ensures.reading in
    record {
      spends = e.spends;
      counts = e.counts;
      reads = rw c.in-Opening.is (λ s room known same. rw (e.reads known same) refl);
      next = λ s. refl;
      first = λ is. refl;
      memory = λ is. tt;
    }

pub returns-in_err-part-in-Blocks : goal.returns-in_err-part-in-Blocks
unfolding layout
returns-in_err-part-in-Blocks g c =
    let p = err_from_is_err_and c.from_residual-in_err-part-in-Blocks.result c.from_residual-in_err-part-in-Blocks.ensures.1 in
    let begins = rw c.lift.ensures at c.start_checks.ensures in
    let e = rw begins at c.in_err-part-in-Blocks.ensures.reading in
    rw (p.1, p.2) (record {
      spends = tt;
      counts = e.counts;
      reads = rw c.in-Blocks.is (λ s room known same. rw (e.reads (λ is. room (same_why _ _ is)) known same) refl);
      next = tt;
      first = λ is. tt;
      memory = λ is. absurd (blocks_opening (sym c.in-Blocks.is ∙ is));
    })

pub returns-in_ok-part-in-Blocks : goal.returns-in_ok-part-in-Blocks
unfolding layout
returns-in_ok-part-in-Blocks g c =
    let begins = rw c.lift.ensures at c.start_checks.ensures in
    let ok = c.in_ok-part-in-Blocks.ensures in
    let e = rw begins at ok.reading in
    record {
      spends = e.spends;
      counts = e.counts;
      reads = rw c.in-Blocks.is (λ s room known same. rw (e.reads (λ is. absurd (answers _ _ is)) known same) refl);
      next = search rules;
      first = λ is. absurd (blocks_opening (sym c.in-Blocks.is ∙ is));
      memory = λ is. tt;
    }
