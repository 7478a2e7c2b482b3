use Rattle.std.proofs.Common.{◌++◌, take, ap, ◌∙◌}
use Rattle.flac_draft.proofs.OggDrafting.{page_of_headers}
use Rattle.flac_draft.proofs.ogg_pages.first_page.Goals as goal

pub returns : goal.returns
returns c = page_of_headers c.args.serial c.args.info c.args.list.now c.in-Some.headers _ c.in-Some.ensures.serial c.requires c.in-Some.ensures.made
    (c.truncate.ensures.items ∙ ap (take 79) (c.in-Ok.ensures.items ∙ ap (λ l. c.in-Some.headers.sent.items ++ l) c.as_slice.ensures.value))
