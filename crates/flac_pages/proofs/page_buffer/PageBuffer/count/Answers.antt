use Rattle.std.proofs.Common.{length, ap, arith}
use Rattle.std.proofs.lemmas.List.{length-take}
use Rattle.flac_pages.specs.Page.{Page}
use Rattle.flac_pages.proofs.page_buffer.PageBuffer.count.Goals as goal

pub returns : goal.returns
returns c = omega (arith, c.self.invariant.2, length-take c.self.inside.count c.self.inside.lacing, ap (λ (p : Page). length p.lacing) c.self.view_is)
