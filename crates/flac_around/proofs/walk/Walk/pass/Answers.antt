use Rattle.std.proofs.Common.{length}
use Rattle.flac_around.specs.Walks.{seen_by}
use Rattle.flac_around.proofs.ChainWalks.{fits_body, body_passed, was_body}
use Rattle.flac_around.proofs.walk.Walk.pass.Goals as goal

pub returns-in-Body : goal.returns-in-Body
returns-in-Body c = λ coming.
    let w = c.args.self.now in
    let bytes = c.args.bytes.now in
    was_body w.stand c.in-Body.left c.in-Body.is_last (seen_by w) bytes coming _ c.in-Body.is
    (body_passed c.in-Body.left c.in-Body.is_last bytes coming w.lead c.settled-self.result (fits_body w.stand (seen_by w) (length bytes) c.in-Body.left c.in-Body.is_last c.in-Body.is c.requires) (c.settled-self.ensures.stands coming))
