use Rattle.std.proofs.Common.{ℕ, List, inl, inr, refl, sym, ap, subst, ◌∙◌}
use Rattle.flac_bits.specs.State.{State}
use Rattle.flac_bits.specs.declared.why.Why.TheVariants.{BadMapping}
use Rattle.flac_native.specs.declared.fault.Place.{Place}
use Rattle.flac_native.specs.declared.fault.Place.TheVariants.{Marker}
use Rattle.flac_c.specs.Unpacked.{HasMapping, BadPages}
use Rattle.flac_native.proofs.FramesRead.{at_bytes}
use Rattle.flac_c.proofs.NativeInOgg.{packed_is, pages_bad}
use Rattle.flac_c.proofs.unpacking.packed_of.Goals as goal

pub returns-in-Err-clause-refused : goal.returns-in-Err-clause-refused
returns-in-Err-clause-refused c =
    let is = c.new-bits.ensures ∙ ap (λ (l : List ℕ). at_bytes l) c.new.ensures in
    let quiet = sym c.into_source-source.ensures.errors ∙ sym (ap (λ (s : State). s.errors) is) in (
      c.page_place.result,
      c.in-Err.why,
      refl,
      λ other. inl (subst (λ (a : Place). BadPages c.args.bytes.now a c.in-Err.why) (sym c.page_place.ensures) (pages_bad c.args.bytes.now c.new-bits.result is c.in-Err.page c.in-Err.why (c.in-Err.ensures.refused quiet other))),
    )

pub returns-then-has_mapping-clause-read : goal.returns-then-has_mapping-clause-read
returns-then-has_mapping-clause-read c =
    let is = c.new-bits.ensures ∙ ap (λ (l : List ℕ). at_bytes l) c.new.ensures in
    (packed_is c.args.bytes.now c.new-bits.result is c.unpack-outcome.new.list.items c.in-Ok.ensures.read, subst HasMapping c.as_slice.ensures.value (c.has_mapping.ensures.some c.if-has_mapping.true))

pub returns-clause-refused : goal.returns-clause-refused
returns-clause-refused c =
    let is = c.new-bits.ensures ∙ ap (λ (l : List ℕ). at_bytes l) c.new.ensures in
    let packed = packed_is c.args.bytes.now c.new-bits.result is c.unpack-outcome.new.list.items c.in-Ok.ensures.read in (
      Marker,
      BadMapping,
      refl,
      λ other. inr (refl, refl, (c.unpack-outcome.new.list.items, packed, λ h. c.has_mapping.ensures.none c.if-has_mapping.false (subst HasMapping (sym c.as_slice.ensures.value) h))),
    )
