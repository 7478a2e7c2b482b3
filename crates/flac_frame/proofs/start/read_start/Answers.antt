use Rattle.std.proofs.Common.{◌≡◌, ◌∙◌, refl, sym}
use Rattle.std.proofs.lemmas.Result.{err_from_is_err_and}
use Rattle.flac_bits.specs.State.{started}
use Rattle.flac_bits.specs.declared.why.Why.TheVariants.{Memory, NotSubset, HeaderMismatch, Sequence, BlockSize}
use Rattle.flac_bits.proofs.Counting.{refused_then}
use Rattle.flac_bits.proofs.Telling.{told_then, told_fault}
use Rattle.flac_header.specs.Header.{allowed}
use Rattle.flac_frame.specs.Frame.{stream_header, differs, breaks_sequence, breaks_size}
use Rattle.flac_frame.proofs.Starts.{size_allowed, size_small, channels_same, not_allowed, differing, out_of_sequence, of_wrong_size, accepted}
use Rattle.flac_frame.proofs.start.read_start.Goals as goal

subset_no_memory : NotSubset ≡ Memory → ⊥
subset_no_memory q = cc

mismatch_no_memory : HeaderMismatch ≡ Memory → ⊥
mismatch_no_memory q = cc

sequence_no_memory : Sequence ≡ Memory → ⊥
sequence_no_memory q = cc

size_no_memory : BlockSize ≡ Memory → ⊥
size_no_memory q = cc

pub returns-in_err-header : goal.returns-in_err-header
unfolding stream_header
returns-in_err-header g c =
    let p = err_from_is_err_and c.from_residual.result c.from_residual.ensures.1 in
    rw (p.1, p.2) (record { number = tt; code = tt; channels = tt; size = tt; reading = record { spends = tt; counts = c.in_err-header.ensures.reading.counts; memory = c.in_err-header.ensures.reading.memory; reads = told_fault (started c.args.bits.now) c.header_by_layout.new.bits _ c.in_err-header.ensures.reading.reads } })

pub returns-then-not-allows : goal.returns-then-not-allows
unfolding stream_header
returns-then-not-allows g c =
    let h = c.in_ok-header.header in
    let told = c.in_ok-header.ensures.reading in
    let mid = c.header_by_layout.new.bits in
    record {
      number = tt;
      code = tt;
      channels = tt;
      size = tt;
      reading = record {
        spends = tt;
        counts = refused_then c.args.bits.now mid told.counts refl;
        memory = subset_no_memory;
        reads = told_then (started c.args.bits.now) mid mid _ told.counts told.reads (λ known same. not_allowed (allowed c.args.profile h) (differs c.args.profile c.args.info.now h) (breaks_sequence c.args.before.now h) (breaks_size c.args.info.now c.args.before.now h) h mid.cursor (sym c.allows.ensures ∙ c.if-not-allows.true));
      };
    }

pub returns-then-differs : goal.returns-then-differs
unfolding stream_header
returns-then-differs g c =
    let h = c.in_ok-header.header in
    let told = c.in_ok-header.ensures.reading in
    let mid = c.header_by_layout.new.bits in
    record {
      number = tt;
      code = tt;
      channels = tt;
      size = tt;
      reading = record {
        spends = tt;
        counts = refused_then c.args.bits.now mid told.counts refl;
        memory = mismatch_no_memory;
        reads = told_then (started c.args.bits.now) mid mid _ told.counts told.reads (λ known same. differing (allowed c.args.profile h) (differs c.args.profile c.args.info.now h) (breaks_sequence c.args.before.now h) (breaks_size c.args.info.now c.args.before.now h) h mid.cursor (sym c.allows.ensures ∙ c.if-not-allows.false) (sym c.differs.ensures ∙ c.if-differs.true));
      };
    }

pub returns-then-breaks_sequence : goal.returns-then-breaks_sequence
unfolding stream_header
returns-then-breaks_sequence g c =
    let h = c.in_ok-header.header in
    let told = c.in_ok-header.ensures.reading in
    let mid = c.header_by_layout.new.bits in
    record {
      number = tt;
      code = tt;
      channels = tt;
      size = tt;
      reading = record {
        spends = tt;
        counts = refused_then c.args.bits.now mid told.counts refl;
        memory = sequence_no_memory;
        reads = told_then (started c.args.bits.now) mid mid _ told.counts told.reads (λ known same. out_of_sequence (allowed c.args.profile h) (differs c.args.profile c.args.info.now h) (breaks_sequence c.args.before.now h) (breaks_size c.args.info.now c.args.before.now h) h mid.cursor (sym c.allows.ensures ∙ c.if-not-allows.false) (sym c.differs.ensures ∙ c.if-differs.false) (sym c.breaks_sequence.ensures ∙ c.if-breaks_sequence.true));
      };
    }

pub returns-then-breaks_size : goal.returns-then-breaks_size
unfolding stream_header
returns-then-breaks_size g c =
    let h = c.in_ok-header.header in
    let told = c.in_ok-header.ensures.reading in
    let mid = c.header_by_layout.new.bits in
    record {
      number = tt;
      code = tt;
      channels = tt;
      size = tt;
      reading = record {
        spends = tt;
        counts = refused_then c.args.bits.now mid told.counts refl;
        memory = size_no_memory;
        reads = told_then (started c.args.bits.now) mid mid _ told.counts told.reads (λ known same. of_wrong_size (allowed c.args.profile h) (differs c.args.profile c.args.info.now h) (breaks_sequence c.args.before.now h) (breaks_size c.args.info.now c.args.before.now h) h mid.cursor (sym c.allows.ensures ∙ c.if-not-allows.false) (sym c.differs.ensures ∙ c.if-differs.false) (sym c.breaks_sequence.ensures ∙ c.if-breaks_sequence.false) (sym c.breaks_size.ensures.breaks ∙ c.if-breaks_size.true));
      };
    }

pub returns-clause-channels : goal.returns-clause-channels
returns-clause-channels g c = channels_same c.args.profile c.args.info.now c.in_ok-header.header (sym c.differs.ensures ∙ c.if-differs.false)

pub returns-clause-size : goal.returns-clause-size
returns-clause-size g c =
    let h = c.in_ok-header.header in
    (size_small c.args.info.now c.args.before.now h (sym c.breaks_size.ensures.breaks ∙ c.if-breaks_size.false), size_allowed c.args.profile c.args.info.now h c.breaks_size.ensures.small (sym c.allows.ensures ∙ c.if-not-allows.false) (sym c.differs.ensures ∙ c.if-differs.false))

pub returns-clause-reading : goal.returns-clause-reading
unfolding stream_header
returns-clause-reading g c =
    let h = c.in_ok-header.header in
    let told = c.in_ok-header.ensures.reading in
    let mid = c.header_by_layout.new.bits in
    record {
      spends = told.spends;
      counts = told.counts;
      memory = tt;
      reads = told_then (started c.args.bits.now) mid mid _ told.counts told.reads (λ known same. accepted (allowed c.args.profile h) (differs c.args.profile c.args.info.now h) (breaks_sequence c.args.before.now h) (breaks_size c.args.info.now c.args.before.now h) h mid.cursor (sym c.allows.ensures ∙ c.if-not-allows.false) (sym c.differs.ensures ∙ c.if-differs.false) (sym c.breaks_sequence.ensures ∙ c.if-breaks_sequence.false) (sym c.breaks_size.ensures.breaks ∙ c.if-breaks_size.false));
    }
