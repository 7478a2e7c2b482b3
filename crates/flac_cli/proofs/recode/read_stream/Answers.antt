use Rattle.std.proofs.Common.{refl, subst}
use Rattle.flac_header.specs.declared.subset.Profile.TheVariants.{Lax}
use Rattle.flac_ogg.specs.Either.{begins_page}
use Rattle.flac_cli.specs.Outcomes.{input_reading}
use Rattle.flac_cli.specs.inner.Holding.{view_of}
use Rattle.flac_cli.specs.declared.held_stream.StreamHolder.{StreamHolder}
use Rattle.flac_cli.proofs.Holding.{all_held, is_held, parts_of, fault_held}
use Rattle.flac_cli.proofs.Outcomes.{counts_on}
use Rattle.flac_cli.proofs.recode.read_stream.Goals as goal

pub returns-in-Ok-clause-held : goal.returns-in-Ok-clause-held
returns-in-Ok-clause-held g c = λ known.
    let bytes = g.R.Source.coming c.args.source.now in
    let after = g.R.Source.after c.args.source.now in
    let e = c.in-Ok.ensures in
    let old = c.new-holder.result in
    let new = c.decode_any-outcome.new.sink in
    let count = counts_on _ c.new-holder.ensures.failures in
    let d = (e.hands known count).done (e.counted, e.raised) refl in
    let p = parts_of Lax (begins_page bytes) _ d.0 _ d.1 in
    let held = all_held (λ (s : StreamHolder). view_of s.held) old d.0 new d.2 in
    (p.0, p.1, p.2, subst (λ xs. (input_reading Lax bytes after).whole xs) p.3 d.1, is_held (begins_page bytes) p.0 p.1 p.2 _ _ d.0 c.new-holder.ensures.held p.3 held)

pub returns-in-Err-clause-refused : goal.returns-in-Err-clause-refused
returns-in-Err-clause-refused g c = λ tells.
    let bytes = g.R.Source.coming c.args.source.now in
    let after = g.R.Source.after c.args.source.now in
    let count = counts_on _ c.new-holder.ensures.failures in
    rw c.fault_of.ensures (fault_held bytes after _ _ _ _ _ c.in-Err.fault (c.in-Err.ensures.hands tells.0 count) (tells.1, tells.2) c.new-holder.ensures.failures)
