use Rattle.std.proofs.Common.{ap, drop, ◌∙◌}
use Rattle.flac_copy.proofs.AgainLemmas.{given_again}
use Rattle.flac_copy.proofs.again.Again.give.Goals as goal

pub returns-clause-bytes : goal.returns-clause-bytes
returns-clause-bytes g c =
    given_again c.args.self.now.given c.copy_front-n.result c.args.self.now.held.items c.bytes_from-left.result.now c.copy_front-n.new.buf
    (c.bytes_from-left.ensures ∙ ap (drop c.args.self.now.given) c.as_slice.ensures.value) c.copy_front-n.ensures.bytes
