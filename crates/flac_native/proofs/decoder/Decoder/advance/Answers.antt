use Rattle.std.proofs.Common.{refl}
use Rattle.flac_native.proofs.decoder.Decoder.advance.Goals as goal

pub returns-in-Ok-None : goal.returns-in-Ok-None
returns-in-Ok-None g c =
    let found = rw c.in-Ok-None.field-0-is at c.in-Ok-None.ensures in
    record {
      gives = λ p at known same quiet room items end still. found.gives p at known same quiet (λ e. absurd cc) items end still;
      counts = record { met = found.counts.met; kept = found.counts.kept; read = tt; risen = tt; output = tt; after = found.counts.after; names = found.counts.names };
      passes = λ p at. tt;
      broken = λ p at. tt;
      memory = λ phase. tt;
      ordered = found.ordered;
      going = tt;
      ends = λ e. refl;
      refused = tt;
    }
