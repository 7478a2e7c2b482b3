use Rattle.std.proofs.Common.{◌≡◌, ◌≤◌, ℕ, false, nat_lt, rules, refl, sym, ◌∙◌, arith}
use Rattle.std.proofs.lemmas.Bool.Decides.{nat_tests}
use Rattle.std.proofs.lemmas.Result.{err_from_is_err_and}
use Rattle.flac_bits.specs.declared.why.Why.TheVariants.{BadNumber, Memory, Read}
use Rattle.flac_bits.proofs.Counting.{answered_then, failed_then, refused_then}
use Rattle.flac_bits.proofs.Needing.{bits_held, number_first, number_ends}
use Rattle.flac_bits.proofs.number.number_by_layout.Goals as goal

number_no_memory : BadNumber ≡ Memory → ⊥
number_no_memory q = cc

pub returns-in_default-clause-reading : goal.returns-in_default-clause-reading
unfolding Rattle.flac_bits.specs.Number.number
returns-in_default-clause-reading g c = record {
  spends = tt;
  counts = refused_then c.args.bits.now c.take.new.self c.in_ok-lead.ensures.reading.counts refl;
  memory = number_no_memory;
  reads = search rules;
}

pub returns-in_err-value-clause-reading : goal.returns-in_err-value-clause-reading
unfolding Rattle.flac_bits.specs.Number.number
returns-in_err-value-clause-reading g c =
    let p = err_from_is_err_and c.from_residual-in_err-value.result c.from_residual-in_err-value.ensures.1 in
    rw (p.1, p.2) (record {
      spends = tt;
      counts = failed_then c.args.bits.now c.take.new.self c.continued.new.bits c.in_ok-lead.ensures.reading.counts c.in_err-value.ensures.reading.counts;
      memory = c.in_err-value.ensures.reading.memory;
      reads = search rules;
    })

pub returns-then-value-least-clause-reading : goal.returns-then-value-least-clause-reading
unfolding Rattle.flac_bits.specs.Number.number
returns-then-value-least-clause-reading g c = record {
  spends = tt;
  counts = refused_then c.args.bits.now c.continued.new.bits (answered_then c.args.bits.now c.take.new.self c.continued.new.bits c.in_ok-lead.ensures.reading.counts c.in_ok-value.ensures.reading.counts) refl;
  memory = number_no_memory;
  reads = search rules;
}

pub returns-clause-reading : goal.returns-clause-reading
unfolding Rattle.flac_bits.specs.Number.number
returns-clause-reading g c = record {
  spends = search rules;
  counts = answered_then c.args.bits.now c.take.new.self c.continued.new.bits c.in_ok-lead.ensures.reading.counts c.in_ok-value.ensures.reading.counts;
  memory = tt;
  reads = search rules;
}

number_no_read : BadNumber ≡ Read → ⊥
number_no_read q = cc

pub returns-in_default-clause-needed : goal.returns-in_default-clause-needed
returns-in_default-clause-needed g c = λ e. absurd (number_no_read e)

pub returns-then-value-least-clause-needed : goal.returns-then-value-least-clause-needed
returns-then-value-least-clause-needed g c = λ e. absurd (number_no_read e)

pub returns-in_err-lead-clause-needed : goal.returns-in_err-lead-clause-needed
returns-in_err-lead-clause-needed g c =
    let p = err_from_is_err_and c.from_residual.result c.from_residual.ensures.1 in
    rw (p.1, p.2) (λ read _. number_first c.args.max_bits c.args.bits.now (c.in_err-lead.ensures.needed read))

pub returns-clause-needed : goal.returns-clause-needed
returns-clause-needed g c = λ known.
    let lead = c.in_ok-lead.ensures in
    let value = c.in_ok-value.ensures in
    omega (arith, bits_held 8 c.in_ok-lead.lead c.args.bits.now c.take.new.self lead.needed (λ k. lead.reading.reads k lead.reading.counts.1) known, value.needed (lead.reading.counts.0 known))

not_small : (n : ℕ) → 128 ≤ n → nat_lt n 128 ≡ false
not_small n le = grind (arith, nat_tests)

pub returns-in_err-value-clause-needed : goal.returns-in_err-value-clause-needed
returns-in_err-value-clause-needed g c =
    let p = err_from_is_err_and c.from_residual-in_err-value.result c.from_residual-in_err-value.ensures.1 in
    rw (p.1, p.2) (λ read known.
    let lead = c.in_ok-lead.ensures in
    number_ends c.args.max_bits c.in_ok-lead.lead _ c.args.bits.now c.take.new.self (not_small c.in_ok-lead.lead c.if-lead-lt128.false) (sym c.lead_form.ensures.form ∙ c.in-Some.is)
    (lead.reading.reads known lead.reading.counts.1) (bits_held 8 c.in_ok-lead.lead c.args.bits.now c.take.new.self lead.needed (λ k. lead.reading.reads k lead.reading.counts.1) known)
    (c.in_err-value.ensures.needed read (lead.reading.counts.0 known)))

pub returns-then-lead-lt128-clause-needed : goal.returns-then-lead-lt128-clause-needed
returns-then-lead-lt128-clause-needed g c =
    let lead = c.in_ok-lead.ensures in
    bits_held 8 c.in_ok-lead.lead c.args.bits.now c.take.new.self lead.needed (λ k. lead.reading.reads k lead.reading.counts.1)
