use Rattle.std.proofs.Common.{refl, sym, ◌∙◌, not, nat_eq, ℕ, ◌+◌, ◌<◌, ◌≤◌, Bool, false, ◌≡◌, ◌∷◌, [], Result, Ok, arith}
use Rattle.std.proofs.lemmas.Bool.Decides.{nat_tests}
use Rattle.std.proofs.lemmas.Bool.{ne_eqb}
use Rattle.std.proofs.lemmas.Result.{err_from_is_err_and}
use Rattle.flac_bits.specs.State.{Cursor}
use Rattle.flac_bits.specs.Layout.{Reason, unless_broken}
use Rattle.flac_bits.specs.declared.why.Why.{Why}
use Rattle.flac_bits.specs.declared.why.Why.TheVariants.{HeaderCheck, Memory}
use Rattle.flac_bits.proofs.Counting.{answered_then, failed_then, refused_then}
use Rattle.flac_bits.proofs.Telling.{told_then, told_fault, told_past, told_broken}
use Rattle.flac_header.specs.inner.Codes.{after_codes}
use Rattle.flac_header.proofs.Parted.{after, told_header}
use Rattle.flac_header.proofs.read.read_fields.Goals as goal

-- one rule at the end of a field
abbrev judged : Bool → Why → Cursor → Result (Unit {0} × Cursor) Reason
judged broken why d = unless_broken (record { broken = broken; why = why } ∷ []) (Ok (tt, d))

no_other : (a b : ℕ) → a ≡ b → not (nat_eq a b) ≡ false
no_other a b h = grind (arith, nat_tests)

spent : (a b d e f g : ℕ) → b + 32 ≤ a → d + 8 ≤ b → e + 0 ≤ d → f + 0 ≤ e → g + 8 ≤ f → g + 40 ≤ a
spent a b d e f g h i j k l = omega (arith, h, i, j, k, l)

some : (n : ℕ) → 0 < n → 1 ≤ n
some n h = omega (arith, h)

check_no_memory : HeaderCheck ≡ Memory → ⊥
check_no_memory q = cc

pub returns-in_err-strategy : goal.returns-in_err-strategy
returns-in_err-strategy g c =
    let p = err_from_is_err_and c.from_residual.result c.from_residual.ensures.1 in
    let cut = c.in_err-strategy.ensures.reading in
    rw (p.1, p.2) (record { reading = record { spends = tt; counts = cut.counts; memory = cut.memory; reads = told_header c.args.bits.now c.read_codes.new.bits (told_fault c.args.bits.now c.read_codes.new.bits after cut.reads) } })

pub returns-in_err-number : goal.returns-in_err-number
unfolding after_codes
returns-in_err-number g c =
    let p = err_from_is_err_and c.from_residual-in_err-number.result c.from_residual-in_err-number.ensures.1 in
    let first = c.in_ok-strategy.ensures.reading in
    let cut = c.in_err-number.ensures.reading in
    rw (p.1, p.2) (record {
      reading = record {
        spends = tt;
        counts = failed_then c.args.bits.now c.read_codes.new.bits c.number_by_layout.new.bits first.counts cut.counts;
        memory = cut.memory;
        reads = told_header c.args.bits.now c.number_by_layout.new.bits (told_then c.args.bits.now c.read_codes.new.bits c.number_by_layout.new.bits after first.counts first.reads
            (told_fault c.read_codes.new.bits c.number_by_layout.new.bits _ (rw c.number_bits.ensures at cut.reads)));
      };
    })

pub returns-in_err-size : goal.returns-in_err-size
unfolding after_codes
returns-in_err-size g c =
    let p = err_from_is_err_and c.from_residual-in_err-size.result c.from_residual-in_err-size.ensures.1 in
    let first = c.in_ok-strategy.ensures.reading in
    let number = c.in_ok-number.ensures.reading in
    let cut = c.in_err-size.ensures.reading in
    let last = c.read_size.new.bits in
    rw (p.1, p.2) (record {
      reading = record {
        spends = tt;
        counts = failed_then c.args.bits.now c.read_codes.new.bits last first.counts (failed_then c.read_codes.new.bits c.number_by_layout.new.bits last number.counts cut.counts);
        memory = cut.memory;
        reads = told_header c.args.bits.now last (told_then c.args.bits.now c.read_codes.new.bits last after first.counts first.reads
            (told_then c.read_codes.new.bits c.number_by_layout.new.bits last _ number.counts (rw c.number_bits.ensures at number.reads)
            (told_fault c.number_by_layout.new.bits last _ cut.reads)));
      };
    })

pub returns-in_err-rate : goal.returns-in_err-rate
unfolding after_codes
returns-in_err-rate g c =
    let p = err_from_is_err_and c.from_residual-in_err-rate.result c.from_residual-in_err-rate.ensures.1 in
    let first = c.in_ok-strategy.ensures.reading in
    let number = c.in_ok-number.ensures.reading in
    let size = c.in_ok-size.ensures.reading in
    let cut = c.in_err-rate.ensures.reading in
    let last = c.read_rate.new.bits in
    rw (p.1, p.2) (record {
      reading = record {
        spends = tt;
        counts = failed_then c.args.bits.now c.read_codes.new.bits last first.counts (failed_then c.read_codes.new.bits c.number_by_layout.new.bits last number.counts
            (failed_then c.number_by_layout.new.bits c.read_size.new.bits last size.counts cut.counts));
        memory = cut.memory;
        reads = told_header c.args.bits.now last (told_then c.args.bits.now c.read_codes.new.bits last after first.counts first.reads
            (told_then c.read_codes.new.bits c.number_by_layout.new.bits last _ number.counts (rw c.number_bits.ensures at number.reads)
            (told_then c.number_by_layout.new.bits c.read_size.new.bits last _ size.counts size.reads
            (told_fault c.read_size.new.bits last _ cut.reads))));
      };
    })

pub returns-in_err-take : goal.returns-in_err-take
unfolding after_codes
returns-in_err-take g c =
    let p = err_from_is_err_and c.from_residual-in_err-take.result c.from_residual-in_err-take.ensures.1 in
    let first = c.in_ok-strategy.ensures.reading in
    let number = c.in_ok-number.ensures.reading in
    let size = c.in_ok-size.ensures.reading in
    let rate = c.in_ok-rate.ensures.reading in
    let cut = c.in_err-take.ensures.reading in
    let last = c.take.new.self in
    rw (p.1, p.2) (record {
      reading = record {
        spends = tt;
        counts = failed_then c.args.bits.now c.read_codes.new.bits last first.counts (failed_then c.read_codes.new.bits c.number_by_layout.new.bits last number.counts
            (failed_then c.number_by_layout.new.bits c.read_size.new.bits last size.counts (failed_then c.read_size.new.bits c.read_rate.new.bits last rate.counts cut.counts)));
        memory = cut.memory;
        reads = told_header c.args.bits.now last (told_then c.args.bits.now c.read_codes.new.bits last after first.counts first.reads
            (told_then c.read_codes.new.bits c.number_by_layout.new.bits last _ number.counts (rw c.number_bits.ensures at number.reads)
            (told_then c.number_by_layout.new.bits c.read_size.new.bits last _ size.counts size.reads
            (told_then c.read_size.new.bits c.read_rate.new.bits last _ rate.counts rate.reads
            (told_fault c.read_rate.new.bits last _ cut.reads)))));
      };
    })

pub returns-then-branch-from : goal.returns-then-branch-from
unfolding after_codes
returns-then-branch-from g c =
    let first = c.in_ok-strategy.ensures.reading in
    let number = c.in_ok-number.ensures.reading in
    let size = c.in_ok-size.ensures.reading in
    let rate = c.in_ok-rate.ensures.reading in
    let stored = c.in_ok-take.ensures.reading in
    let check_is = c.from.ensures ∙ c.check8-check.ensures in
    let last = c.take.new.self in
    record {
      reading = record {
        spends = tt;
        counts = refused_then c.args.bits.now last (answered_then c.args.bits.now c.read_codes.new.bits last first.counts (answered_then c.read_codes.new.bits c.number_by_layout.new.bits last number.counts
            (answered_then c.number_by_layout.new.bits c.read_size.new.bits last size.counts (answered_then c.read_size.new.bits c.read_rate.new.bits last rate.counts stored.counts)))) refl;
        memory = check_no_memory;
        reads = told_header c.args.bits.now last (told_then c.args.bits.now c.read_codes.new.bits last after first.counts first.reads
            (told_then c.read_codes.new.bits c.number_by_layout.new.bits last _ number.counts (rw c.number_bits.ensures at number.reads)
            (told_then c.number_by_layout.new.bits c.read_size.new.bits last _ size.counts size.reads
            (told_then c.read_size.new.bits c.read_rate.new.bits last _ rate.counts rate.reads
            (told_then c.read_rate.new.bits last last _ stored.counts stored.reads
            (told_broken {read = judged (not (nat_eq c.in_ok-take.field-0 c.read_rate.new.bits.cursor.mark.check8)) HeaderCheck last.cursor} last last _ (rw (ne_eqb c.in_ok-take.field-0 c.read_rate.new.bits.cursor.mark.check8 (λ q. c.if-branch-from.true (q ∙ sym check_is))) refl)))))));
      };
    }

pub returns : goal.returns
unfolding after_codes
returns g c =
    let first = c.in_ok-strategy.ensures.reading in
    let number = c.in_ok-number.ensures.reading in
    let size = c.in_ok-size.ensures.reading in
    let rate = c.in_ok-rate.ensures.reading in
    let stored = c.in_ok-take.ensures.reading in
    let check_is = c.from.ensures ∙ c.check8-check.ensures in
    let last = c.take.new.self in
    record {
      reading = record {
        spends = spent _ _ _ _ _ _ first.spends number.spends size.spends rate.spends stored.spends;
        counts = answered_then c.args.bits.now c.read_codes.new.bits last first.counts (answered_then c.read_codes.new.bits c.number_by_layout.new.bits last number.counts
            (answered_then c.number_by_layout.new.bits c.read_size.new.bits last size.counts (answered_then c.read_size.new.bits c.read_rate.new.bits last rate.counts stored.counts)));
        memory = tt;
        reads = told_header c.args.bits.now last (told_then c.args.bits.now c.read_codes.new.bits last after first.counts first.reads
            (told_then c.read_codes.new.bits c.number_by_layout.new.bits last _ number.counts (rw c.number_bits.ensures at number.reads)
            (told_then c.number_by_layout.new.bits c.read_size.new.bits last _ size.counts size.reads
            (told_then c.read_size.new.bits c.read_rate.new.bits last _ rate.counts rate.reads
            (told_then c.read_rate.new.bits last last _ stored.counts stored.reads
            (told_past {read = judged (not (nat_eq c.in_ok-take.field-0 c.read_rate.new.bits.cursor.mark.check8)) HeaderCheck last.cursor} last last last.cursor _ (rw (no_other c.in_ok-take.field-0 c.read_rate.new.bits.cursor.mark.check8 (c.if-branch-from.false ∙ check_is)) refl) (λ known same. refl)))))));
      };
    }

pub invariant_of-result : goal.invariant_of-result
invariant_of-result g c =
    let codes = c.in_ok-strategy.ensures.fits in
    record {
      some_size = some _ codes.0;
      size_code = codes.1;
      size = c.in_ok-size.ensures.fits;
      rate_code = codes.2;
      rate = c.in_ok-rate.ensures.fits;
      channel_code = codes.3;
      depth_code = codes.4;
      no_depth = codes.5;
      number = rw c.number_bits.ensures at c.in_ok-number.ensures.fits;
    }
