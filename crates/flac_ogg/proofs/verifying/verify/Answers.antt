use Rattle.std.proofs.Common.{rules, ◌≡◌, ◌≢◌, arith}
use Rattle.std.proofs.lemmas.Result.{IfErr-weaker}
use Rattle.flac_bits.specs.State.{Rises}
use Rattle.flac_bits.specs.declared.why.Why.TheVariants.{Read, Sink}
use Rattle.flac_ogg.proofs.verifying.verify.Goals as goal

pub returns-clause-verifies : goal.returns-clause-verifies
returns-clause-verifies c = search rules

-- a count that stays at 0 did not rise
stays : Rises 0 0 → ⊥
stays rises = absurd (omega (arith, rises (omega arith)))

pub returns-clause-read : goal.returns-clause-read
returns-clause-read c = IfErr-weaker c.decode_any.result (λ f. f.why ≡ Read → Rises 0 0) (λ f. f.why ≢ Read) (λ f told e. stays (told e)) c.decode_any.ensures.risen

pub returns-clause-sink : goal.returns-clause-sink
returns-clause-sink c = IfErr-weaker c.decode_any.result (λ f. f.why ≡ Sink → Rises 0 0) (λ f. f.why ≢ Sink) (λ f told e. stays (told e)) c.decode_any.ensures.sink
