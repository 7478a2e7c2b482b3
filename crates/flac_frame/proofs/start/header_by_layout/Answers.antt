use Rattle.std.proofs.Common.{rules}
use Rattle.flac_bits.specs.State.{started}
use Rattle.flac_bits.proofs.Meaning.{reads}
use Rattle.flac_header.specs.Header.{header}
use Rattle.flac_frame.proofs.start.header_by_layout.Goals as goal

pub returns : goal.returns
returns g c = record {
  reading = record {
    spends = search rules;
    counts = search rules;
    memory = search rules;
    reads = reads (λ h. h) header (started c.args.bits.now) c.read_header.new.bits c.read_header.result c.read_header.ensures.reading.reads;
  };
}
