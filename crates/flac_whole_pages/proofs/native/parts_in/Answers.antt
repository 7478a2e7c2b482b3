use Rattle.std.proofs.Common.{◌∙◌, ap, sym, subst, length, List}
use Rattle.flac_whole_pages.specs.Left.{native_parts}
use Rattle.flac_whole_pages.specs.Parts.{AreInside}
use Rattle.flac_whole_pages.specs.inner.Adding.{AreStanding}
use Rattle.flac_whole_pages.specs.declared.page_at.WholePage.{WholePage}
use Rattle.flac_whole_pages.proofs.Natives.{found_stand, parts_inside}
use Rattle.flac_whole_pages.proofs.native.parts_in.Goals as goal

pub parts_of-requires : goal.parts_of-requires
parts_of-requires c =
    let bytes = c.args.bytes.now in
    subst (λ (l : List WholePage). AreStanding bytes l) (sym c.deref.ensures.value) (found_stand bytes 0 c.in_ok-found.found.cut c.in_ok-found.found.pages.items c.in_ok-found.ensures.found)

pub returns-clause-inside : goal.returns-clause-inside
returns-clause-inside c =
    let bytes = c.args.bytes.now in
    let pages = c.in_ok-found.found.pages.items in
    let is = c.in_ok-parts.ensures ∙ ap (λ l. native_parts bytes l) c.deref.ensures.value in
    subst (λ l. AreInside (length bytes) l) (sym is) (parts_inside bytes 0 c.in_ok-found.found.cut pages c.in_ok-found.ensures.found)
