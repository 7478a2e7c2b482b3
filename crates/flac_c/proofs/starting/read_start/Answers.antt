use Rattle.std.proofs.Common.{ℕ, None, inr, refl, sym, ap, ◌∙◌}
use Rattle.flac_bits.specs.declared.why.Why.TheVariants.{NotStreamInfoFirst}
use Rattle.flac_native.specs.declared.fault.Place.TheVariants.{Marker}
use Rattle.flac_c.specs.Heads.{comments_from}
use Rattle.flac_c.specs.declared.cursor.FlacProvedCursor.{FlacProvedCursor}
use Rattle.flac_c.specs.declared.info.FlacProvedInfo.{FlacProvedInfo}
use Rattle.flac_c.proofs.starting.read_start.Goals as goal

abbrev cursor_of : ℕ → FlacProvedInfo → FlacProvedCursor
cursor_of offset info = record { offset = offset; frames = 0; sample = 0; info = info }

pub returns-in-Some-clause-read : goal.returns-in-Some-clause-read
returns-in-Some-clause-read c = λ profile.
    let h = c.in-Ok.ensures.read profile in
    let info_is = c.info_counted.ensures (comments_from None h.0) h.2.comments in
    (h.0, c.in-Ok.offset, c.in-Some.info, h.1, sym h.2.info ∙ c.in-Some.is, (ap (λ (i : FlacProvedInfo). cursor_of c.in-Ok.offset i) info_is, h.2.point))

pub returns-in-None-clause-refused : goal.returns-in-None-clause-refused
returns-in-None-clause-refused c = λ profile.
    let h = c.in-Ok.ensures.read profile in
    (Marker, NotStreamInfoFirst, refl, λ other. inr (refl, refl, (h.0, c.in-Ok.offset, h.1, sym h.2.info ∙ c.in-None.is)))
