use Rattle.std.proofs.Common.{rules, arith, refl, ◌≡◌, ◌≤◌, ℕ, false, Bool, nat_eq, nat_lt, not, ◌∷◌, [], Result, Ok}
use Rattle.std.proofs.lemmas.Bool.{ne_eqb}
use Rattle.std.proofs.lemmas.Bool.Decides.{nat_tests}
use Rattle.std.proofs.lemmas.Result.{err_from_is_err_and}
use Rattle.flac_bits.specs.State.{Cursor}
use Rattle.flac_bits.specs.Layout.{Reason, unless_broken}
use Rattle.flac_bits.specs.declared.why.Why.{Why}
use Rattle.flac_bits.specs.declared.why.Why.TheVariants.{BadSync, ReservedCode, Memory}
use Rattle.flac_bits.proofs.Counting.{answered_then, failed_then, refused_then}
use Rattle.flac_bits.proofs.Telling.{told_then, told_fault, told_past, told_broken}
use Rattle.flac_header.specs.inner.Codes.{codes}
use Rattle.flac_header.proofs.read.read_codes.Goals as goal

-- one rule at the end of a field
abbrev judged : Bool → Why → Cursor → Result (Unit {0} × Cursor) Reason
judged broken why d = unless_broken (record { broken = broken; why = why } ∷ []) (Ok (tt, d))

at_most_10 : (n : ℕ) → n ≤ 10 → nat_lt 10 n ≡ false
at_most_10 n h = grind (arith, nat_tests)

sync_no_memory : BadSync ≡ Memory → ⊥
sync_no_memory q = cc

code_no_memory : ReservedCode ≡ Memory → ⊥
code_no_memory q = cc

pub returns-in_err-take : goal.returns-in_err-take
unfolding codes
returns-in_err-take g c =
    let p = err_from_is_err_and c.from_residual.result c.from_residual.ensures.1 in
    rw (p.1, p.2) (record { fits = tt; reading = record { spends = tt; counts = c.in_err-take.ensures.reading.counts; memory = c.in_err-take.ensures.reading.memory; reads = told_fault c.args.bits.now c.take.new.self _ c.in_err-take.ensures.reading.reads } })

pub returns-then-branch-ne32764 : goal.returns-then-branch-ne32764
unfolding codes
returns-then-branch-ne32764 g c =
    record { fits = tt; reading = record { spends = tt; counts = refused_then c.args.bits.now c.take.new.self c.in_ok-take.ensures.reading.counts refl; memory = sync_no_memory; reads = told_then c.args.bits.now c.take.new.self c.take.new.self _ c.in_ok-take.ensures.reading.counts c.in_ok-take.ensures.reading.reads (told_broken {read = judged (not (nat_eq c.in_ok-take.field-0 0x7FFC)) BadSync c.take.new.self.cursor} c.take.new.self c.take.new.self _ (rw (ne_eqb c.in_ok-take.field-0 0x7FFC c.if-branch-ne32764.true) refl)) } }

pub returns-in_err-bit : goal.returns-in_err-bit
unfolding codes
returns-in_err-bit g c =
    let p = err_from_is_err_and c.from_residual-in_err-bit.result c.from_residual-in_err-bit.ensures.1 in
    rw (p.1, p.2) (record { fits = tt; reading = record { spends = tt; counts = failed_then c.args.bits.now c.take.new.self c.take-2.new.self c.in_ok-take.ensures.reading.counts c.in_err-bit.ensures.reading.counts; memory = c.in_err-bit.ensures.reading.memory; reads = told_then c.args.bits.now c.take.new.self c.take-2.new.self _ c.in_ok-take.ensures.reading.counts c.in_ok-take.ensures.reading.reads (told_past {read = judged (not (nat_eq c.in_ok-take.field-0 0x7FFC)) BadSync c.take.new.self.cursor} c.take.new.self c.take-2.new.self c.take.new.self.cursor _ (rw c.if-branch-ne32764.false refl) (told_fault c.take.new.self c.take-2.new.self _ c.in_err-bit.ensures.reading.reads)) } })

pub returns-in_err-size_code : goal.returns-in_err-size_code
unfolding codes
returns-in_err-size_code g c =
    let p = err_from_is_err_and c.from_residual-in_err-size_code.result c.from_residual-in_err-size_code.ensures.1 in
    rw (p.1, p.2) (record { fits = tt; reading = record { spends = tt; counts = failed_then c.args.bits.now c.take.new.self c.take-3.new.self c.in_ok-take.ensures.reading.counts (failed_then c.take.new.self c.take-2.new.self c.take-3.new.self c.in_ok-bit.ensures.reading.counts c.in_err-size_code.ensures.reading.counts); memory = c.in_err-size_code.ensures.reading.memory; reads = told_then c.args.bits.now c.take.new.self c.take-3.new.self _ c.in_ok-take.ensures.reading.counts c.in_ok-take.ensures.reading.reads (told_past {read = judged (not (nat_eq c.in_ok-take.field-0 0x7FFC)) BadSync c.take.new.self.cursor} c.take.new.self c.take-3.new.self c.take.new.self.cursor _ (rw c.if-branch-ne32764.false refl) (told_then c.take.new.self c.take-2.new.self c.take-3.new.self _ c.in_ok-bit.ensures.reading.counts c.in_ok-bit.ensures.reading.reads (told_fault c.take-2.new.self c.take-3.new.self _ c.in_err-size_code.ensures.reading.reads))) } })

pub returns-then-size_code-eq0 : goal.returns-then-size_code-eq0
unfolding codes
returns-then-size_code-eq0 g c =
    record { fits = tt; reading = record { spends = tt; counts = refused_then c.args.bits.now c.take-3.new.self (answered_then c.args.bits.now c.take.new.self c.take-3.new.self c.in_ok-take.ensures.reading.counts (answered_then c.take.new.self c.take-2.new.self c.take-3.new.self c.in_ok-bit.ensures.reading.counts c.in_ok-size_code.ensures.reading.counts)) refl; memory = code_no_memory; reads = told_then c.args.bits.now c.take.new.self c.take-3.new.self _ c.in_ok-take.ensures.reading.counts c.in_ok-take.ensures.reading.reads (told_past {read = judged (not (nat_eq c.in_ok-take.field-0 0x7FFC)) BadSync c.take.new.self.cursor} c.take.new.self c.take-3.new.self c.take.new.self.cursor _ (rw c.if-branch-ne32764.false refl) (told_then c.take.new.self c.take-2.new.self c.take-3.new.self _ c.in_ok-bit.ensures.reading.counts c.in_ok-bit.ensures.reading.reads (told_then c.take-2.new.self c.take-3.new.self c.take-3.new.self _ c.in_ok-size_code.ensures.reading.counts c.in_ok-size_code.ensures.reading.reads (told_broken {read = judged (nat_eq c.in_ok-size_code.field-0 0) ReservedCode c.take-3.new.self.cursor} c.take-3.new.self c.take-3.new.self _ (rw c.if-size_code-eq0.true refl))))) } }

pub returns-in_err-rate_code : goal.returns-in_err-rate_code
unfolding codes
returns-in_err-rate_code g c =
    let p = err_from_is_err_and c.from_residual-in_err-rate_code.result c.from_residual-in_err-rate_code.ensures.1 in
    rw (p.1, p.2) (record { fits = tt; reading = record { spends = tt; counts = failed_then c.args.bits.now c.take.new.self c.take-4.new.self c.in_ok-take.ensures.reading.counts (failed_then c.take.new.self c.take-2.new.self c.take-4.new.self c.in_ok-bit.ensures.reading.counts (failed_then c.take-2.new.self c.take-3.new.self c.take-4.new.self c.in_ok-size_code.ensures.reading.counts c.in_err-rate_code.ensures.reading.counts)); memory = c.in_err-rate_code.ensures.reading.memory; reads = told_then c.args.bits.now c.take.new.self c.take-4.new.self _ c.in_ok-take.ensures.reading.counts c.in_ok-take.ensures.reading.reads (told_past {read = judged (not (nat_eq c.in_ok-take.field-0 0x7FFC)) BadSync c.take.new.self.cursor} c.take.new.self c.take-4.new.self c.take.new.self.cursor _ (rw c.if-branch-ne32764.false refl) (told_then c.take.new.self c.take-2.new.self c.take-4.new.self _ c.in_ok-bit.ensures.reading.counts c.in_ok-bit.ensures.reading.reads (told_then c.take-2.new.self c.take-3.new.self c.take-4.new.self _ c.in_ok-size_code.ensures.reading.counts c.in_ok-size_code.ensures.reading.reads (told_past {read = judged (nat_eq c.in_ok-size_code.field-0 0) ReservedCode c.take-3.new.self.cursor} c.take-3.new.self c.take-4.new.self c.take-3.new.self.cursor _ (rw (ne_eqb c.in_ok-size_code.field-0 0 c.if-size_code-eq0.false) refl) (told_fault c.take-3.new.self c.take-4.new.self _ c.in_err-rate_code.ensures.reading.reads))))) } })

pub returns-then-rate_code-eq15 : goal.returns-then-rate_code-eq15
unfolding codes
returns-then-rate_code-eq15 g c =
    record { fits = tt; reading = record { spends = tt; counts = refused_then c.args.bits.now c.take-4.new.self (answered_then c.args.bits.now c.take.new.self c.take-4.new.self c.in_ok-take.ensures.reading.counts (answered_then c.take.new.self c.take-2.new.self c.take-4.new.self c.in_ok-bit.ensures.reading.counts (answered_then c.take-2.new.self c.take-3.new.self c.take-4.new.self c.in_ok-size_code.ensures.reading.counts c.in_ok-rate_code.ensures.reading.counts))) refl; memory = code_no_memory; reads = told_then c.args.bits.now c.take.new.self c.take-4.new.self _ c.in_ok-take.ensures.reading.counts c.in_ok-take.ensures.reading.reads (told_past {read = judged (not (nat_eq c.in_ok-take.field-0 0x7FFC)) BadSync c.take.new.self.cursor} c.take.new.self c.take-4.new.self c.take.new.self.cursor _ (rw c.if-branch-ne32764.false refl) (told_then c.take.new.self c.take-2.new.self c.take-4.new.self _ c.in_ok-bit.ensures.reading.counts c.in_ok-bit.ensures.reading.reads (told_then c.take-2.new.self c.take-3.new.self c.take-4.new.self _ c.in_ok-size_code.ensures.reading.counts c.in_ok-size_code.ensures.reading.reads (told_past {read = judged (nat_eq c.in_ok-size_code.field-0 0) ReservedCode c.take-3.new.self.cursor} c.take-3.new.self c.take-4.new.self c.take-3.new.self.cursor _ (rw (ne_eqb c.in_ok-size_code.field-0 0 c.if-size_code-eq0.false) refl) (told_then c.take-3.new.self c.take-4.new.self c.take-4.new.self _ c.in_ok-rate_code.ensures.reading.counts c.in_ok-rate_code.ensures.reading.reads (told_broken {read = judged (nat_eq c.in_ok-rate_code.field-0 15) ReservedCode c.take-4.new.self.cursor} c.take-4.new.self c.take-4.new.self _ (rw c.if-rate_code-eq15.true refl))))))) } }

pub returns-in_err-channel_code : goal.returns-in_err-channel_code
unfolding codes
returns-in_err-channel_code g c =
    let p = err_from_is_err_and c.from_residual-in_err-channel_code.result c.from_residual-in_err-channel_code.ensures.1 in
    rw (p.1, p.2) (record { fits = tt; reading = record { spends = tt; counts = failed_then c.args.bits.now c.take.new.self c.take-5.new.self c.in_ok-take.ensures.reading.counts (failed_then c.take.new.self c.take-2.new.self c.take-5.new.self c.in_ok-bit.ensures.reading.counts (failed_then c.take-2.new.self c.take-3.new.self c.take-5.new.self c.in_ok-size_code.ensures.reading.counts (failed_then c.take-3.new.self c.take-4.new.self c.take-5.new.self c.in_ok-rate_code.ensures.reading.counts c.in_err-channel_code.ensures.reading.counts))); memory = c.in_err-channel_code.ensures.reading.memory; reads = told_then c.args.bits.now c.take.new.self c.take-5.new.self _ c.in_ok-take.ensures.reading.counts c.in_ok-take.ensures.reading.reads (told_past {read = judged (not (nat_eq c.in_ok-take.field-0 0x7FFC)) BadSync c.take.new.self.cursor} c.take.new.self c.take-5.new.self c.take.new.self.cursor _ (rw c.if-branch-ne32764.false refl) (told_then c.take.new.self c.take-2.new.self c.take-5.new.self _ c.in_ok-bit.ensures.reading.counts c.in_ok-bit.ensures.reading.reads (told_then c.take-2.new.self c.take-3.new.self c.take-5.new.self _ c.in_ok-size_code.ensures.reading.counts c.in_ok-size_code.ensures.reading.reads (told_past {read = judged (nat_eq c.in_ok-size_code.field-0 0) ReservedCode c.take-3.new.self.cursor} c.take-3.new.self c.take-5.new.self c.take-3.new.self.cursor _ (rw (ne_eqb c.in_ok-size_code.field-0 0 c.if-size_code-eq0.false) refl) (told_then c.take-3.new.self c.take-4.new.self c.take-5.new.self _ c.in_ok-rate_code.ensures.reading.counts c.in_ok-rate_code.ensures.reading.reads (told_past {read = judged (nat_eq c.in_ok-rate_code.field-0 15) ReservedCode c.take-4.new.self.cursor} c.take-4.new.self c.take-5.new.self c.take-4.new.self.cursor _ (rw (ne_eqb c.in_ok-rate_code.field-0 15 c.if-rate_code-eq15.false) refl) (told_fault c.take-4.new.self c.take-5.new.self _ c.in_err-channel_code.ensures.reading.reads))))))) } })

pub returns-then-channel_code-gt10 : goal.returns-then-channel_code-gt10
unfolding codes
returns-then-channel_code-gt10 g c =
    record { fits = tt; reading = record { spends = tt; counts = refused_then c.args.bits.now c.take-5.new.self (answered_then c.args.bits.now c.take.new.self c.take-5.new.self c.in_ok-take.ensures.reading.counts (answered_then c.take.new.self c.take-2.new.self c.take-5.new.self c.in_ok-bit.ensures.reading.counts (answered_then c.take-2.new.self c.take-3.new.self c.take-5.new.self c.in_ok-size_code.ensures.reading.counts (answered_then c.take-3.new.self c.take-4.new.self c.take-5.new.self c.in_ok-rate_code.ensures.reading.counts c.in_ok-channel_code.ensures.reading.counts)))) refl; memory = code_no_memory; reads = told_then c.args.bits.now c.take.new.self c.take-5.new.self _ c.in_ok-take.ensures.reading.counts c.in_ok-take.ensures.reading.reads (told_past {read = judged (not (nat_eq c.in_ok-take.field-0 0x7FFC)) BadSync c.take.new.self.cursor} c.take.new.self c.take-5.new.self c.take.new.self.cursor _ (rw c.if-branch-ne32764.false refl) (told_then c.take.new.self c.take-2.new.self c.take-5.new.self _ c.in_ok-bit.ensures.reading.counts c.in_ok-bit.ensures.reading.reads (told_then c.take-2.new.self c.take-3.new.self c.take-5.new.self _ c.in_ok-size_code.ensures.reading.counts c.in_ok-size_code.ensures.reading.reads (told_past {read = judged (nat_eq c.in_ok-size_code.field-0 0) ReservedCode c.take-3.new.self.cursor} c.take-3.new.self c.take-5.new.self c.take-3.new.self.cursor _ (rw (ne_eqb c.in_ok-size_code.field-0 0 c.if-size_code-eq0.false) refl) (told_then c.take-3.new.self c.take-4.new.self c.take-5.new.self _ c.in_ok-rate_code.ensures.reading.counts c.in_ok-rate_code.ensures.reading.reads (told_past {read = judged (nat_eq c.in_ok-rate_code.field-0 15) ReservedCode c.take-4.new.self.cursor} c.take-4.new.self c.take-5.new.self c.take-4.new.self.cursor _ (rw (ne_eqb c.in_ok-rate_code.field-0 15 c.if-rate_code-eq15.false) refl) (told_then c.take-4.new.self c.take-5.new.self c.take-5.new.self _ c.in_ok-channel_code.ensures.reading.counts c.in_ok-channel_code.ensures.reading.reads (told_broken {read = judged (nat_lt 10 c.in_ok-channel_code.field-0) ReservedCode c.take-5.new.self.cursor} c.take-5.new.self c.take-5.new.self _ (search rules))))))))) } }

pub returns-in_err-depth_code : goal.returns-in_err-depth_code
unfolding codes
returns-in_err-depth_code g c =
    let p = err_from_is_err_and c.from_residual-in_err-depth_code.result c.from_residual-in_err-depth_code.ensures.1 in
    rw (p.1, p.2) (record { fits = tt; reading = record { spends = tt; counts = failed_then c.args.bits.now c.take.new.self c.take-6.new.self c.in_ok-take.ensures.reading.counts (failed_then c.take.new.self c.take-2.new.self c.take-6.new.self c.in_ok-bit.ensures.reading.counts (failed_then c.take-2.new.self c.take-3.new.self c.take-6.new.self c.in_ok-size_code.ensures.reading.counts (failed_then c.take-3.new.self c.take-4.new.self c.take-6.new.self c.in_ok-rate_code.ensures.reading.counts (failed_then c.take-4.new.self c.take-5.new.self c.take-6.new.self c.in_ok-channel_code.ensures.reading.counts c.in_err-depth_code.ensures.reading.counts)))); memory = c.in_err-depth_code.ensures.reading.memory; reads = told_then c.args.bits.now c.take.new.self c.take-6.new.self _ c.in_ok-take.ensures.reading.counts c.in_ok-take.ensures.reading.reads (told_past {read = judged (not (nat_eq c.in_ok-take.field-0 0x7FFC)) BadSync c.take.new.self.cursor} c.take.new.self c.take-6.new.self c.take.new.self.cursor _ (rw c.if-branch-ne32764.false refl) (told_then c.take.new.self c.take-2.new.self c.take-6.new.self _ c.in_ok-bit.ensures.reading.counts c.in_ok-bit.ensures.reading.reads (told_then c.take-2.new.self c.take-3.new.self c.take-6.new.self _ c.in_ok-size_code.ensures.reading.counts c.in_ok-size_code.ensures.reading.reads (told_past {read = judged (nat_eq c.in_ok-size_code.field-0 0) ReservedCode c.take-3.new.self.cursor} c.take-3.new.self c.take-6.new.self c.take-3.new.self.cursor _ (rw (ne_eqb c.in_ok-size_code.field-0 0 c.if-size_code-eq0.false) refl) (told_then c.take-3.new.self c.take-4.new.self c.take-6.new.self _ c.in_ok-rate_code.ensures.reading.counts c.in_ok-rate_code.ensures.reading.reads (told_past {read = judged (nat_eq c.in_ok-rate_code.field-0 15) ReservedCode c.take-4.new.self.cursor} c.take-4.new.self c.take-6.new.self c.take-4.new.self.cursor _ (rw (ne_eqb c.in_ok-rate_code.field-0 15 c.if-rate_code-eq15.false) refl) (told_then c.take-4.new.self c.take-5.new.self c.take-6.new.self _ c.in_ok-channel_code.ensures.reading.counts c.in_ok-channel_code.ensures.reading.reads (told_past {read = judged (nat_lt 10 c.in_ok-channel_code.field-0) ReservedCode c.take-5.new.self.cursor} c.take-5.new.self c.take-6.new.self c.take-5.new.self.cursor _ (rw (at_most_10 c.in_ok-channel_code.field-0 c.if-channel_code-gt10.false) refl) (told_fault c.take-5.new.self c.take-6.new.self _ c.in_err-depth_code.ensures.reading.reads))))))))) } })

pub returns-then-depth_code-eq3 : goal.returns-then-depth_code-eq3
unfolding codes
returns-then-depth_code-eq3 g c =
    record { fits = tt; reading = record { spends = tt; counts = refused_then c.args.bits.now c.take-6.new.self (answered_then c.args.bits.now c.take.new.self c.take-6.new.self c.in_ok-take.ensures.reading.counts (answered_then c.take.new.self c.take-2.new.self c.take-6.new.self c.in_ok-bit.ensures.reading.counts (answered_then c.take-2.new.self c.take-3.new.self c.take-6.new.self c.in_ok-size_code.ensures.reading.counts (answered_then c.take-3.new.self c.take-4.new.self c.take-6.new.self c.in_ok-rate_code.ensures.reading.counts (answered_then c.take-4.new.self c.take-5.new.self c.take-6.new.self c.in_ok-channel_code.ensures.reading.counts c.in_ok-depth_code.ensures.reading.counts))))) refl; memory = code_no_memory; reads = told_then c.args.bits.now c.take.new.self c.take-6.new.self _ c.in_ok-take.ensures.reading.counts c.in_ok-take.ensures.reading.reads (told_past {read = judged (not (nat_eq c.in_ok-take.field-0 0x7FFC)) BadSync c.take.new.self.cursor} c.take.new.self c.take-6.new.self c.take.new.self.cursor _ (rw c.if-branch-ne32764.false refl) (told_then c.take.new.self c.take-2.new.self c.take-6.new.self _ c.in_ok-bit.ensures.reading.counts c.in_ok-bit.ensures.reading.reads (told_then c.take-2.new.self c.take-3.new.self c.take-6.new.self _ c.in_ok-size_code.ensures.reading.counts c.in_ok-size_code.ensures.reading.reads (told_past {read = judged (nat_eq c.in_ok-size_code.field-0 0) ReservedCode c.take-3.new.self.cursor} c.take-3.new.self c.take-6.new.self c.take-3.new.self.cursor _ (rw (ne_eqb c.in_ok-size_code.field-0 0 c.if-size_code-eq0.false) refl) (told_then c.take-3.new.self c.take-4.new.self c.take-6.new.self _ c.in_ok-rate_code.ensures.reading.counts c.in_ok-rate_code.ensures.reading.reads (told_past {read = judged (nat_eq c.in_ok-rate_code.field-0 15) ReservedCode c.take-4.new.self.cursor} c.take-4.new.self c.take-6.new.self c.take-4.new.self.cursor _ (rw (ne_eqb c.in_ok-rate_code.field-0 15 c.if-rate_code-eq15.false) refl) (told_then c.take-4.new.self c.take-5.new.self c.take-6.new.self _ c.in_ok-channel_code.ensures.reading.counts c.in_ok-channel_code.ensures.reading.reads (told_past {read = judged (nat_lt 10 c.in_ok-channel_code.field-0) ReservedCode c.take-5.new.self.cursor} c.take-5.new.self c.take-6.new.self c.take-5.new.self.cursor _ (rw (at_most_10 c.in_ok-channel_code.field-0 c.if-channel_code-gt10.false) refl) (told_then c.take-5.new.self c.take-6.new.self c.take-6.new.self _ c.in_ok-depth_code.ensures.reading.counts c.in_ok-depth_code.ensures.reading.reads (told_broken {read = judged (nat_eq c.in_ok-depth_code.field-0 3) ReservedCode c.take-6.new.self.cursor} c.take-6.new.self c.take-6.new.self _ (rw c.if-depth_code-eq3.true refl))))))))))) } }

pub returns-in_err-take-2 : goal.returns-in_err-take-2
unfolding codes
returns-in_err-take-2 g c =
    let p = err_from_is_err_and c.from_residual-in_err-take-2.result c.from_residual-in_err-take-2.ensures.1 in
    rw (p.1, p.2) (record { fits = tt; reading = record { spends = tt; counts = failed_then c.args.bits.now c.take.new.self c.take-7.new.self c.in_ok-take.ensures.reading.counts (failed_then c.take.new.self c.take-2.new.self c.take-7.new.self c.in_ok-bit.ensures.reading.counts (failed_then c.take-2.new.self c.take-3.new.self c.take-7.new.self c.in_ok-size_code.ensures.reading.counts (failed_then c.take-3.new.self c.take-4.new.self c.take-7.new.self c.in_ok-rate_code.ensures.reading.counts (failed_then c.take-4.new.self c.take-5.new.self c.take-7.new.self c.in_ok-channel_code.ensures.reading.counts (failed_then c.take-5.new.self c.take-6.new.self c.take-7.new.self c.in_ok-depth_code.ensures.reading.counts c.in_err-take-2.ensures.reading.counts))))); memory = c.in_err-take-2.ensures.reading.memory; reads = told_then c.args.bits.now c.take.new.self c.take-7.new.self _ c.in_ok-take.ensures.reading.counts c.in_ok-take.ensures.reading.reads (told_past {read = judged (not (nat_eq c.in_ok-take.field-0 0x7FFC)) BadSync c.take.new.self.cursor} c.take.new.self c.take-7.new.self c.take.new.self.cursor _ (rw c.if-branch-ne32764.false refl) (told_then c.take.new.self c.take-2.new.self c.take-7.new.self _ c.in_ok-bit.ensures.reading.counts c.in_ok-bit.ensures.reading.reads (told_then c.take-2.new.self c.take-3.new.self c.take-7.new.self _ c.in_ok-size_code.ensures.reading.counts c.in_ok-size_code.ensures.reading.reads (told_past {read = judged (nat_eq c.in_ok-size_code.field-0 0) ReservedCode c.take-3.new.self.cursor} c.take-3.new.self c.take-7.new.self c.take-3.new.self.cursor _ (rw (ne_eqb c.in_ok-size_code.field-0 0 c.if-size_code-eq0.false) refl) (told_then c.take-3.new.self c.take-4.new.self c.take-7.new.self _ c.in_ok-rate_code.ensures.reading.counts c.in_ok-rate_code.ensures.reading.reads (told_past {read = judged (nat_eq c.in_ok-rate_code.field-0 15) ReservedCode c.take-4.new.self.cursor} c.take-4.new.self c.take-7.new.self c.take-4.new.self.cursor _ (rw (ne_eqb c.in_ok-rate_code.field-0 15 c.if-rate_code-eq15.false) refl) (told_then c.take-4.new.self c.take-5.new.self c.take-7.new.self _ c.in_ok-channel_code.ensures.reading.counts c.in_ok-channel_code.ensures.reading.reads (told_past {read = judged (nat_lt 10 c.in_ok-channel_code.field-0) ReservedCode c.take-5.new.self.cursor} c.take-5.new.self c.take-7.new.self c.take-5.new.self.cursor _ (rw (at_most_10 c.in_ok-channel_code.field-0 c.if-channel_code-gt10.false) refl) (told_then c.take-5.new.self c.take-6.new.self c.take-7.new.self _ c.in_ok-depth_code.ensures.reading.counts c.in_ok-depth_code.ensures.reading.reads (told_past {read = judged (nat_eq c.in_ok-depth_code.field-0 3) ReservedCode c.take-6.new.self.cursor} c.take-6.new.self c.take-7.new.self c.take-6.new.self.cursor _ (rw (ne_eqb c.in_ok-depth_code.field-0 3 c.if-depth_code-eq3.false) refl) (told_fault c.take-6.new.self c.take-7.new.self _ c.in_err-take-2.ensures.reading.reads))))))))))) } })

pub returns-then-branch-ne0 : goal.returns-then-branch-ne0
unfolding codes
returns-then-branch-ne0 g c =
    record { fits = tt; reading = record { spends = tt; counts = refused_then c.args.bits.now c.take-7.new.self (answered_then c.args.bits.now c.take.new.self c.take-7.new.self c.in_ok-take.ensures.reading.counts (answered_then c.take.new.self c.take-2.new.self c.take-7.new.self c.in_ok-bit.ensures.reading.counts (answered_then c.take-2.new.self c.take-3.new.self c.take-7.new.self c.in_ok-size_code.ensures.reading.counts (answered_then c.take-3.new.self c.take-4.new.self c.take-7.new.self c.in_ok-rate_code.ensures.reading.counts (answered_then c.take-4.new.self c.take-5.new.self c.take-7.new.self c.in_ok-channel_code.ensures.reading.counts (answered_then c.take-5.new.self c.take-6.new.self c.take-7.new.self c.in_ok-depth_code.ensures.reading.counts c.in_ok-take-2.ensures.reading.counts)))))) refl; memory = code_no_memory; reads = told_then c.args.bits.now c.take.new.self c.take-7.new.self _ c.in_ok-take.ensures.reading.counts c.in_ok-take.ensures.reading.reads (told_past {read = judged (not (nat_eq c.in_ok-take.field-0 0x7FFC)) BadSync c.take.new.self.cursor} c.take.new.self c.take-7.new.self c.take.new.self.cursor _ (rw c.if-branch-ne32764.false refl) (told_then c.take.new.self c.take-2.new.self c.take-7.new.self _ c.in_ok-bit.ensures.reading.counts c.in_ok-bit.ensures.reading.reads (told_then c.take-2.new.self c.take-3.new.self c.take-7.new.self _ c.in_ok-size_code.ensures.reading.counts c.in_ok-size_code.ensures.reading.reads (told_past {read = judged (nat_eq c.in_ok-size_code.field-0 0) ReservedCode c.take-3.new.self.cursor} c.take-3.new.self c.take-7.new.self c.take-3.new.self.cursor _ (rw (ne_eqb c.in_ok-size_code.field-0 0 c.if-size_code-eq0.false) refl) (told_then c.take-3.new.self c.take-4.new.self c.take-7.new.self _ c.in_ok-rate_code.ensures.reading.counts c.in_ok-rate_code.ensures.reading.reads (told_past {read = judged (nat_eq c.in_ok-rate_code.field-0 15) ReservedCode c.take-4.new.self.cursor} c.take-4.new.self c.take-7.new.self c.take-4.new.self.cursor _ (rw (ne_eqb c.in_ok-rate_code.field-0 15 c.if-rate_code-eq15.false) refl) (told_then c.take-4.new.self c.take-5.new.self c.take-7.new.self _ c.in_ok-channel_code.ensures.reading.counts c.in_ok-channel_code.ensures.reading.reads (told_past {read = judged (nat_lt 10 c.in_ok-channel_code.field-0) ReservedCode c.take-5.new.self.cursor} c.take-5.new.self c.take-7.new.self c.take-5.new.self.cursor _ (rw (at_most_10 c.in_ok-channel_code.field-0 c.if-channel_code-gt10.false) refl) (told_then c.take-5.new.self c.take-6.new.self c.take-7.new.self _ c.in_ok-depth_code.ensures.reading.counts c.in_ok-depth_code.ensures.reading.reads (told_past {read = judged (nat_eq c.in_ok-depth_code.field-0 3) ReservedCode c.take-6.new.self.cursor} c.take-6.new.self c.take-7.new.self c.take-6.new.self.cursor _ (rw (ne_eqb c.in_ok-depth_code.field-0 3 c.if-depth_code-eq3.false) refl) (told_then c.take-6.new.self c.take-7.new.self c.take-7.new.self _ c.in_ok-take-2.ensures.reading.counts c.in_ok-take-2.ensures.reading.reads (told_broken {read = judged (not (nat_eq c.in_ok-take-2.field-0 0)) ReservedCode c.take-7.new.self.cursor} c.take-7.new.self c.take-7.new.self _ (rw (ne_eqb c.in_ok-take-2.field-0 0 c.if-branch-ne0.true) refl))))))))))))) } }

pub returns-clause-reading : goal.returns-clause-reading
unfolding codes
returns-clause-reading g c = record {
  spends = search rules;
  counts = answered_then c.args.bits.now c.take.new.self c.take-7.new.self c.in_ok-take.ensures.reading.counts (answered_then c.take.new.self c.take-2.new.self c.take-7.new.self c.in_ok-bit.ensures.reading.counts (answered_then c.take-2.new.self c.take-3.new.self c.take-7.new.self c.in_ok-size_code.ensures.reading.counts (answered_then c.take-3.new.self c.take-4.new.self c.take-7.new.self c.in_ok-rate_code.ensures.reading.counts (answered_then c.take-4.new.self c.take-5.new.self c.take-7.new.self c.in_ok-channel_code.ensures.reading.counts (answered_then c.take-5.new.self c.take-6.new.self c.take-7.new.self c.in_ok-depth_code.ensures.reading.counts c.in_ok-take-2.ensures.reading.counts)))));
  memory = tt;
  reads = told_then c.args.bits.now c.take.new.self c.take-7.new.self _ c.in_ok-take.ensures.reading.counts c.in_ok-take.ensures.reading.reads (told_past {read = judged (not (nat_eq c.in_ok-take.field-0 0x7FFC)) BadSync c.take.new.self.cursor} c.take.new.self c.take-7.new.self c.take.new.self.cursor _ (rw c.if-branch-ne32764.false refl) (told_then c.take.new.self c.take-2.new.self c.take-7.new.self _ c.in_ok-bit.ensures.reading.counts c.in_ok-bit.ensures.reading.reads (told_then c.take-2.new.self c.take-3.new.self c.take-7.new.self _ c.in_ok-size_code.ensures.reading.counts c.in_ok-size_code.ensures.reading.reads (told_past {read = judged (nat_eq c.in_ok-size_code.field-0 0) ReservedCode c.take-3.new.self.cursor} c.take-3.new.self c.take-7.new.self c.take-3.new.self.cursor _ (rw (ne_eqb c.in_ok-size_code.field-0 0 c.if-size_code-eq0.false) refl) (told_then c.take-3.new.self c.take-4.new.self c.take-7.new.self _ c.in_ok-rate_code.ensures.reading.counts c.in_ok-rate_code.ensures.reading.reads (told_past {read = judged (nat_eq c.in_ok-rate_code.field-0 15) ReservedCode c.take-4.new.self.cursor} c.take-4.new.self c.take-7.new.self c.take-4.new.self.cursor _ (rw (ne_eqb c.in_ok-rate_code.field-0 15 c.if-rate_code-eq15.false) refl) (told_then c.take-4.new.self c.take-5.new.self c.take-7.new.self _ c.in_ok-channel_code.ensures.reading.counts c.in_ok-channel_code.ensures.reading.reads (told_past {read = judged (nat_lt 10 c.in_ok-channel_code.field-0) ReservedCode c.take-5.new.self.cursor} c.take-5.new.self c.take-7.new.self c.take-5.new.self.cursor _ (rw (at_most_10 c.in_ok-channel_code.field-0 c.if-channel_code-gt10.false) refl) (told_then c.take-5.new.self c.take-6.new.self c.take-7.new.self _ c.in_ok-depth_code.ensures.reading.counts c.in_ok-depth_code.ensures.reading.reads (told_past {read = judged (nat_eq c.in_ok-depth_code.field-0 3) ReservedCode c.take-6.new.self.cursor} c.take-6.new.self c.take-7.new.self c.take-6.new.self.cursor _ (rw (ne_eqb c.in_ok-depth_code.field-0 3 c.if-depth_code-eq3.false) refl) (told_then c.take-6.new.self c.take-7.new.self c.take-7.new.self _ c.in_ok-take-2.ensures.reading.counts c.in_ok-take-2.ensures.reading.reads (told_past {read = judged (not (nat_eq c.in_ok-take-2.field-0 0)) ReservedCode c.take-7.new.self.cursor} c.take-7.new.self c.take-7.new.self c.take-7.new.self.cursor _ (rw c.if-branch-ne0.false refl) (λ known same. rw c.from_bit-strategy.ensures refl)))))))))))));
}
