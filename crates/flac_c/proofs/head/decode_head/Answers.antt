use Rattle.std.proofs.Common.{ℕ, List, inl, inr, refl, sym, subst, ◌∙◌}
use Rattle.flac_native.specs.Stream.{Piece}
use Rattle.flac_ogg.specs.Verifying.{bytes_reading}
use Rattle.flac_c.specs.Heads.{EndsBy}
use Rattle.flac_c.proofs.Kept.{can_rise, at_ok, at_err, begun_kept, kept_from_none}
use Rattle.flac_c.proofs.head.decode_head.Goals as goal
use Rattle.flac_header.specs.declared.subset.Profile.TheVariants.{Subset}

pub returns-clause-begun : goal.returns-clause-begun
returns-clause-begun c = λ none.
    let d = (c.decode_any.ensures.hands refl (can_rise _ c.requires.failures)).begun in
    let kept = begun_kept (λ s. s.info) (λ s. s.comments) (λ s. s.is_over) _ d.0 d.1 _ d.3 (d.4 (none ∙ sym c.requires.failures)) c.requires.info c.requires.comments c.requires.over in
    (d.0, subst (λ (l : List ℕ). (bytes_reading Subset l).begins d.0) c.new-source.ensures d.2, kept.2, kept.0, kept.1)

pub returns-clause-ended : goal.returns-clause-ended
returns-clause-ended c = λ none. at_ok c.decode_any.result (λ over.
    let d = (c.decode_any.ensures.hands refl (can_rise _ c.requires.failures)).done (refl, refl) over in
    let kept = kept_from_none (λ s. s.info) (λ s. s.comments) (λ s. s.is_over) _ d.0 _ d.2 c.requires.info c.requires.comments c.requires.over in
    (d.0, inl (subst (λ (l : List ℕ). (bytes_reading Subset l).whole d.0) c.new-source.ensures d.1), kept.0, kept.1))

pub returns-clause-stopped : goal.returns-clause-stopped
returns-clause-stopped c = λ none. at_err (λ at why. EndsBy c.args.bytes.now c.decode_any.new.sink.info c.decode_any.new.sink.comments) c.decode_any.result (λ at why is other.
    let d = (c.decode_any.ensures.hands refl (can_rise _ c.requires.failures)).refused (refl, refl) at why is other (none ∙ sym c.requires.failures) in
    let kept = kept_from_none (λ s. s.info) (λ s. s.comments) (λ s. s.is_over) _ d.0 _ d.2 c.requires.info c.requires.comments c.requires.over in
    (d.0, inr (at, why, subst (λ (l : List ℕ). (bytes_reading Subset l).refused d.0 at why) c.new-source.ensures d.1), kept.0, kept.1))

pub returns-clause-refused : goal.returns-clause-refused
returns-clause-refused c = λ none. at_err (λ at why. (items : List Piece) × (bytes_reading Subset c.args.bytes.now).refused items at why) c.decode_any.result (λ at why is other.
    let d = (c.decode_any.ensures.hands refl (can_rise _ c.requires.failures)).refused (refl, refl) at why is other (none ∙ sym c.requires.failures) in
    (d.0, subst (λ (l : List ℕ). (bytes_reading Subset l).refused d.0 at why) c.new-source.ensures d.1))

pub returns-clause-whole : goal.returns-clause-whole
returns-clause-whole c = at_ok c.decode_any.result (λ none.
    let d = (c.decode_any.ensures.hands refl (can_rise _ c.requires.failures)).done (refl, refl) none in (
      d.0,
      subst (λ (l : List ℕ). (bytes_reading Subset l).whole d.0) c.new-source.ensures d.1,
      (kept_from_none (λ s. s.info) (λ s. s.comments) (λ s. s.is_over) _ d.0 _ d.2 c.requires.info c.requires.comments c.requires.over).0,
    ))
