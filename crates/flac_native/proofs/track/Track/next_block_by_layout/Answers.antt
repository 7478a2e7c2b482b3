use Rattle.std.proofs.Common.{◌≡◌, Result, Ok, Err, refl}
use Rattle.std.proofs.lemmas.Result.{err_from_is_err_and}
use Rattle.flac_bits.specs.declared.why.Why.{Why}
use Rattle.flac_native.proofs.Giving.{same_why}
use Rattle.flac_native.proofs.track.Track.next_block_by_layout.Goals as goal

abbrev answer : {X : Type 0} → X → Result X Why
answer x = Ok x

abbrev wrong : {X : Type 0} → Why → Result X Why
wrong e = Err e

answers : {X : Type 0} (x : X) (e : Why) → answer x ≡ wrong e → ⊥
answers x e is = absurd cc

pub returns-in_err-last : goal.returns-in_err-last
returns-in_err-last g c =
    let p = err_from_is_err_and c.from_residual.result c.from_residual.ensures.1 in
    let e = c.in_err-last.ensures.reading in
    rw (p.1, p.2) (record {
      reading = record { spends = tt; counts = e.counts; reads = λ room known same. rw (e.reads (λ is. room (same_why _ _ is)) known same) refl };
      next = tt;
      made = tt;
    })

pub returns : goal.returns
returns g c =
    let ok = c.in_ok-last.ensures in
    let e = ok.reading in
    record {
      reading = record { spends = e.spends; counts = e.counts; reads = λ room known same. rw (e.reads (λ is. absurd (answers _ _ is)) known same) refl };
      next = λ p at. let k = ok.next p (record { stand = at.stand; samples = at.samples; digest = at.digest }) in record { stand = k.stand; samples = k.samples; digest = k.digest };
      made = refl;
    }
