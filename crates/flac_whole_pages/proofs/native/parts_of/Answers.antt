use Rattle.std.proofs.Common.{◌≡◌, ◌≤◌, ◌<◌, ◌+◌, ◌∷◌, ◌∙◌, [], false, List, Result, Ok, Err, IfOk, Vec, Global, length, drop, get_or, refl, sym, ap, subst, arith}
use Rattle.flac_whole_pages.specs.Left.{first_part, parts_after, native_parts}
use Rattle.flac_whole_pages.specs.inner.Adding.{AreStanding, no_page}
use Rattle.flac_whole_pages.specs.declared.page_at.WholePage.{WholePage}
use Rattle.flac_whole_pages.specs.declared.part.Part.{Part}
use Rattle.flac_whole_pages.proofs.Lists.{all_taken}
use Rattle.flac_whole_pages.proofs.Natives.{standing_at, standing_from, first_is, none_first}
use Rattle.flac_whole_pages.proofs.native.parts_of.Goals as goal

-- an equation for what is returned at Ok
ok_is : {E : Type 0} (r : Result (Vec Part Global) E) (one other : List Part) → one ≡ other → IfOk r (λ parts. parts.items ≡ one) → IfOk r (λ parts. parts.items ≡ other)
ok_is (Ok parts) one other same is = is ∙ same
ok_is (Err e) one other same is = tt

pub returns-then-index-pages : goal.returns-then-index-pages
returns-then-index-pages c =
    let past : length c.args.pages.now ≤ c.first_of_flac-index.result = let same = c.if-index-pages.true in omega (arith, same) in
    c.new.ensures.items ∙ none_first c.args.bytes.now c.args.pages.now c.first_of_flac-index.result past c.first_of_flac-index.ensures.same

pub parts_from-requires-clause-first : goal.parts_from-requires-clause-first
parts_from-requires-clause-first c =
    let within = c.first_of_flac-index.ensures.within in
    let differ = c.if-index-pages.false in
    let inside : c.first_of_flac-index.result < length c.args.pages.now = omega (arith, within, differ) in
    (standing_at c.args.bytes.now c.first_of_flac-index.result c.args.pages.now inside (standing_from c.args.bytes.now c.first_of_flac-index.result c.args.pages.now c.requires)).0

pub parts_from-requires-clause-rest : goal.parts_from-requires-clause-rest
parts_from-requires-clause-rest c =
    let pages = c.args.pages.now in
    let index = c.first_of_flac-index.result in
    subst (λ (l : List WholePage). AreStanding c.args.bytes.now l) (sym (all_taken (index + 1) pages)) (standing_from c.args.bytes.now (index + 1) pages c.requires)

pub returns : goal.returns
returns c =
    let bytes = c.args.bytes.now in
    let pages = c.args.pages.now in
    let index = c.first_of_flac-index.result in
    let within = c.first_of_flac-index.ensures.within in
    let differ = c.if-index-pages.false in
    let inside : index < length pages = omega (arith, within, differ) in
    let p : WholePage = get_or pages index no_page in
    ok_is c.parts_from.result _ (native_parts bytes pages)
    (ap (λ (l : List WholePage). first_part p ∷ parts_after bytes p.serial false p.end l) (all_taken (index + 1) pages)
    ∙ first_is bytes pages index inside (c.first_of_flac-index.ensures.first inside) c.first_of_flac-index.ensures.same) c.parts_from.ensures
