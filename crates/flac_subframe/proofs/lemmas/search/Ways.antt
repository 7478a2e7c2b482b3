-- What was found for samples without their wasted bits makes the whole subframe the least.
use Rattle.std.proofs.Common.{◌≡◌, sym, ℕ, ◌+◌, ◌-◌, ◌≤◌, ◌<◌, ℤ, List, length, map, Some, All}
use Rattle.flac_bits.specs.Signed.{FitsBits}
use Rattle.flac_subframe.specs.declared.format.limits.Limits.{Limits}
use Rattle.flac_subframe.specs.declared.format.linear.LinearPredictor.{LinearPredictor}
use Rattle.flac_subframe.specs.declared.format.content.SubframeForm.{SubframeForm}
use Rattle.flac_subframe.specs.format.Bodies.{Body, content_of}
use Rattle.flac_subframe.specs.format.Cost.{codings_of}
use Rattle.flac_subframe.specs.format.Chosen.{body_as, offered}
use Rattle.flac_subframe.specs.search.inner.Chosen.{IsBest}
use Rattle.flac_subframe.specs.format.Family.{Stands, IsMadeAs, form_as}
use Rattle.flac_subframe.specs.format.Handed.{AreWithin}
use Rattle.flac_subframe.specs.format.Least.{IsLeast}
use Rattle.flac_subframe.specs.format.Spelling.{subframe_spelling, IsSubframe}
use Rattle.flac_subframe.specs.format.Subframe.{samples_of}
use Rattle.flac_subframe.specs.format.Wasted.{IsWasted, times_power, shortened}
use Rattle.flac_subframe.proofs.lemmas.format.Powers.{shortened_is}
use Rattle.flac_subframe.proofs.lemmas.search.Valid.{may_be, are_samples}
use Rattle.flac_subframe.proofs.lemmas.search.WholeLeast.{whole_least, length-subframe}

module _ (most d : ℕ) (ps : List LinearPredictor) (s t : List ℤ) (c : SubframeForm) (bytes : List ℕ) (bits : ℕ) (wasted : IsWasted c.wasted s) (times : s ≡ map (times_power c.wasted) t)
    (so : IsBest ps most (d - c.wasted) t (offered ps) (record { content = c.content; codings = codings_of c.residual bytes; bits = bits })) where
  same : shortened c.wasted s ≡ t
  same = shortened_is c.wasted s t times

  abbrev body : Body
  body = body_as ps c.content (codings_of c.residual bytes) t

  pub way_least : IsLeast (λ f. Stands most (offered ps) f s) (λ f. length (subframe_spelling d f)) (form_as ps c bytes s)
  way_least = rw same (whole_least most d c.wasted (offered ps) s t body wasted times so.least)

  pub way_bits : 8 + c.wasted + bits ≡ length (subframe_spelling d (form_as ps c bytes s))
  way_bits = rw so.priced (rw same (sym (length-subframe d (record { wasted = c.wasted; content = content_of body }))))

  pub way_made : IsMadeAs most ps c bytes s
  way_made = record { wasted = wasted; times = rw same times; within = so.within; stands = rw same so.least.member }

module _ (most d : ℕ) (ps : List LinearPredictor) (c : SubframeForm) (bytes : List ℕ) (s : List ℤ) (made : IsMadeAs most ps c bytes s) (some : c.wasted < d) (fits : All (FitsBits d) s) where
  abbrev body_made : Body
  body_made = body_as ps c.content (codings_of c.residual bytes) (shortened c.wasted s)

  pub made_valid : most ≤ 15 → 0 < length s → (limits : Limits) → most ≤ limits.partition → AreWithin limits.linear ps → IsSubframe d (length s) limits (form_as ps c bytes s)
  made_valid few any limits le within = may_be most d c.wasted s (shortened c.wasted s) some made.times fits limits ps body_made any le few within made.stands

  pub made_restored : samples_of d (length s) (form_as ps c bytes s) ≡ Some s
  made_restored = are_samples most d c.wasted s (shortened c.wasted s) some made.times fits ps body_made made.stands
