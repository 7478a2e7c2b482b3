use Rattle.std.proofs.Common.{refl, sym, ◌∙◌, arith}
use Rattle.flac_pages.proofs.Stepping.{copies_entered}
use Rattle.flac_pages.proofs.pages.Pages.has_byte.Goals as goal

pub returns-clause-same : goal.returns-clause-same
returns-clause-same g c =
    copies_entered c.args.self.now c.take_segment.new.self c.args.self.now.lacing (omega (arith, c.if-rest-gt0.false, c.rest.ensures)) (sym c.goes_on.ensures ∙ c.if-not-goes_on.false) (c.is_read.ensures.some c.if-is_read.false) refl c.take_segment.ensures
