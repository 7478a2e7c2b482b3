use Rattle.std.proofs.Common.{ap, ◌∙◌}
use Rattle.flac_bits.specs.Bits.{bits_of}
use Rattle.flac_bits.proofs.Holding.{bits_of-append}
use Rattle.flac_encoder.proofs.ogg_encoder.send_owned.Goals as goal

pub returns-in-Err-clause-failed : goal.returns-in-Err-clause-failed
returns-in-Err-clause-failed g c =
    let sends = c.in-Err.ensures.sends in (
      c.send_all.new.target,
      record {
        fails = record { failed = sends.rises; risen = sends.risen; names = sends.names };
        begun = λ known.
            let b = sends.begun known in
            (bits_of b.0, bits_of b.1, ap bits_of b.2 ∙ bits_of-append b.0 b.1, ap bits_of b.3 ∙ bits_of-append (g.W.Target.sent c.args.target) b.0);
      },
    )
