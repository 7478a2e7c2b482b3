use Rattle.std.proofs.Common.{◌≡◌, Some, refl, subst, inl, inr}
use Rattle.flac_bits.specs.declared.why.Why.TheVariants as why
use Rattle.flac_cli.specs.Outcomes.{IsAnswer, Fits, streamed, ReadsWave, IsWaveOutOfMemory}
use Rattle.flac_cli.specs.inner.WaveOutcomes.{outcome_of_failure, IsOfInput}
use Rattle.flac_cli.proofs.Reported.{of_input}
use Rattle.flac_cli.proofs.NamedLines.{named}
use Rattle.flac_cli.proofs.Jobs.{not_both}
use Rattle.flac_cli.proofs.decode_wave.run_decode_wave.Goals as goal

pub returns-in-Stream-clause-reported : goal.returns-in-Stream-clause-reported
returns-in-Stream-clause-reported g c = λ tells served told.
    let f = c.in-Stream.fault in
    let input : f.why ≡ why.Sink → ⊥ = subst IsOfInput c.in-Stream.is (c.in-Err.ensures.served tells served) in
    let path = of_input c.is_of_samples-is_output.result c.at_fault-path.result.now c.args.paths.now.output.now c.args.paths.now.input.now (λ is. input (c.is_of_samples-is_output.ensures.0 is)) c.at_fault-path.ensures in
    record {
      outcome = streamed (Some (Some f.at, f.why));
      answer = subst (λ p. IsAnswer (Some (Some f.at, f.why)) p c.refuse.result (g.E.Target.sent c.args.err.now) (g.E.Target.sent c.refuse.new.err)) path (c.refuse.ensures.line told.0 told.1);
      fits = subst (λ e. Fits IsWaveOutOfMemory (ReadsWave c.args.profile (g.R.Source.coming c.args.source.now) (g.R.Source.after c.args.source.now)) (outcome_of_failure e)) c.in-Stream.is (c.in-Err.ensures.outcome tells served);
    }

pub returns-in-Ok-clause-named : goal.returns-in-Ok-clause-named
returns-in-Ok-clause-named g c = λ failed known same. not_both _ failed refl

pub returns-in-Stream-clause-named : goal.returns-in-Stream-clause-named
returns-in-Stream-clause-named g c = λ failed known same. inl (
  c.in-Stream.fault.at,
  c.in-Stream.fault.why,
  named _ _ _ _ c.is_of_samples-is_output.result _ c.is_of_samples-is_output.ensures _ c.at_fault-path.ensures _ (c.refuse.ensures.line known same).1,
)

pub returns-in-Kept-clause-named : goal.returns-in-Kept-clause-named
returns-in-Kept-clause-named g c = λ failed known same. inr (inl (c.in-Kept.fault, c.refuse_kept.ensures.line known same))

pub returns-in-Write-clause-named : goal.returns-in-Write-clause-named
returns-in-Write-clause-named g c = λ failed known same. inr (inr (c.refuse-in-Write.ensures.line known same).1)
