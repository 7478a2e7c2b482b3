use Rattle.std.proofs.Common.{◌≡◌, rules, refl}
use Rattle.std.proofs.lemmas.Result.{err_from_is_err_and}
use Rattle.flac_bits.proofs.Counting.{refused_then}
use Rattle.flac_bits.proofs.Rices.{value_read}
use Rattle.flac_bits.proofs.Signs.{residual_kept}
use Rattle.flac_bits.proofs.Values.{value_cut, value_large}
use Rattle.flac_bits.specs.declared.why.Why.TheVariants.{ResidualRange, Read}
use Rattle.flac_bits.proofs.Needing.{value_first}
use Rattle.flac_bits.proofs.reader.BitReader.rice_value.Goals as goal

range_no_read : ResidualRange ≡ Read → ⊥
range_no_read q = cc

pub unfolded-requires : goal.unfolded-requires
unfolded-requires g c = search rules

pub returns : goal.returns
returns g c =
    let fits = c.unfolded.ensures.fits in
    let got = c.in_ok-folded.ensures.reading in
    rw (residual_kept c.unfolded.result fits) (record {
      fits = fits;
      reading = record {
        spends = got.spends;
        counts = got.counts;
        memory = tt;
        reads = λ known same.
            value_read c.args.k c.in_ok-folded.folded c.unfolded.result c.args.self.now.cursor c.folded_value.new.self.cursor
            (got.reads known same) c.if-folded-gt-MOST_FOLDED.false c.unfolded.ensures.value;
      };
      needed = c.in_ok-folded.ensures.needed;
    })

pub returns-in_err-folded : goal.returns-in_err-folded
returns-in_err-folded g c =
    let p = err_from_is_err_and c.from_residual.result c.from_residual.ensures.1 in
    let failed = c.in_err-folded.ensures.reading in
    rw (p.1, p.2) (record {
      fits = tt;
      reading = record {
        spends = tt;
        counts = failed.counts;
        memory = failed.memory;
        reads = λ known same. value_cut c.args.k _ c.args.self.now.cursor (failed.reads known same);
      };
      needed = λ read known. value_first c.args.k c.args.self.now (c.in_err-folded.ensures.needed read known);
    })

pub returns-then-folded-gt-MOST_FOLDED : goal.returns-then-folded-gt-MOST_FOLDED
returns-then-folded-gt-MOST_FOLDED g c =
    let got = c.in_ok-folded.ensures.reading in
    record {
      fits = tt;
      reading = record {
        spends = tt;
        counts = refused_then c.args.self.now c.folded_value.new.self got.counts refl;
        memory = search rules;
        reads = λ known same.
            value_large c.args.k c.in_ok-folded.folded c.args.self.now.cursor c.folded_value.new.self.cursor
            (got.reads known got.counts.1) c.if-folded-gt-MOST_FOLDED.true;
      };
      needed = λ e. absurd (range_no_read e);
    }
