use Rattle.std.proofs.Common.{subst}
use Rattle.flac_bits.specs.State.{State, started}
use Rattle.flac_bits.specs.Reading.{CallInPlace, Reads}
use Rattle.flac_bits.proofs.Meaning.{means}
use Rattle.flac_header.specs.Header.{header}
use Rattle.flac_header.proofs.read.read_header.Goals as goal

pub returns : goal.returns
returns g c =
    let begun : CallInPlace 40 (Reads (λ h. h) header) (started c.args.bits.now) c.read_fields.new.bits c.read_fields.result = subst (λ (s : State). CallInPlace 40 (Reads (λ h. h) header) s c.read_fields.new.bits c.read_fields.result) c.start_checks.ensures c.read_fields.ensures.reading in
    record {
      reading = record {
        spends = begun.spends;
        counts = begun.counts;
        memory = begun.memory;
        reads = means (λ h. h) header (started c.args.bits.now) c.read_fields.new.bits c.read_fields.result begun.reads;
      };
    }
