use Rattle.std.proofs.Common.{ap, sym, rules, ◌∙◌}
use Rattle.flac_bits.specs.State.{Mark}
use Rattle.flac_copy.proofs.frames.take_frame.Goals as goal

pub returns-clause-taken : goal.returns-clause-taken
returns-clause-taken g c =
    let r = c.in_ok-next_frame.ensures.reading in
    let k = r.counts in
    record {
      errors = k.1;
      raised = k.2;
      names = k.4;
      known = k.0;
      after = k.3;
      taken = λ known.
          let d = (r.reads known k.1).found in
          record {
            text = d.0;
            split = d.1.0;
            spelled = d.2;
            room = d.3;
            count = c.bytes_taken.ensures ∙ ap (λ (m : Mark). m.bytes) d.1.1;
            whole = ap (λ (m : Mark). m.unread) (sym d.1.1) ∙ search rules;
          };
    }
