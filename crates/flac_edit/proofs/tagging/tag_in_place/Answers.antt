use Rattle.std.proofs.Common.{refl, rules}
use Rattle.std.proofs.lemmas.List.{append-nil}
use Rattle.flac_bits.specs.Bits.{bits_of}
use Rattle.flac_native.specs.Decoding.{start_mark}
use Rattle.flac_edit.proofs.TaggedFiles.{of_file, fits, moments, readings, untouched, unread, is_tagged, changes_nothing, nothing_changes}
use Rattle.flac_edit.proofs.tagging.tag_in_place.Goals as goal

pub change_comments-outcome-requires-clause-inside : goal.change_comments-outcome-requires-clause-inside
change_comments-outcome-requires-clause-inside g c =
    let m = start_mark (g.R.Source.after c.args.source.now) in
    let coming = g.R.Source.coming c.args.source.now in
    let read = rw c.new-reader.ensures at c.in-Ok.ensures.read in
    let whole = rw (append-nil (bits_of coming)) at read in
    λ k.
    let are = of_file m coming (g.D.Device.seen c.args.device.now) c.in-Ok.blocks.items c.deref.result.now _ (c.requires.same k).1 c.deref.ensures.value (whole (c.requires.same k).0) in
    fits m (g.D.Device.seen c.args.device.now) c.deref.result.now _ are

pub returns-in-Ok-outcome-clause-any_moment : goal.returns-in-Ok-outcome-clause-any_moment
returns-in-Ok-outcome-clause-any_moment g c =
    let m = start_mark (g.R.Source.after c.args.source.now) in
    let coming = g.R.Source.coming c.args.source.now in
    let read = rw c.new-reader.ensures at c.in-Ok.ensures.read in
    let whole = rw (append-nil (bits_of coming)) at read in
    λ k.
    let are = of_file m coming (g.D.Device.seen c.args.device.now) c.in-Ok.blocks.items c.deref.result.now _ (c.requires.same k).1 c.deref.ensures.value (whole (c.requires.same k).0) in
    moments c.args.device.now c.change_comments-outcome.new.device m c.args.edits.now c.deref.result.now _ g.D.Device.time (g.D.Device.seen c.args.device.now) are (c.requires.durable k) (λ x left. g.met.D.Device.only_now c.args.device.now x k left)
    (c.change_comments-outcome.ensures.any_moment k)

pub returns-in-Ok-outcome-clause-reads : goal.returns-in-Ok-outcome-clause-reads
returns-in-Ok-outcome-clause-reads g c =
    let m = start_mark (g.R.Source.after c.args.source.now) in
    let coming = g.R.Source.coming c.args.source.now in
    let read = rw c.new-reader.ensures at c.in-Ok.ensures.read in
    let whole = rw (append-nil (bits_of coming)) at read in
    λ k.
    let are = of_file m coming (g.D.Device.seen c.args.device.now) c.in-Ok.blocks.items c.deref.result.now _ (c.requires.same k).1 c.deref.ensures.value (whole (c.requires.same k).0) in
    readings c.args.device.now c.change_comments-outcome.new.device m c.args.edits.now c.deref.result.now _ g.D.Device.seen are (c.change_comments-outcome.ensures.reads k)

pub returns-in-Err-outcome-clause-any_moment : goal.returns-in-Err-outcome-clause-any_moment
returns-in-Err-outcome-clause-any_moment g c =
    let m = start_mark (g.R.Source.after c.args.source.now) in
    let coming = g.R.Source.coming c.args.source.now in
    let read = rw c.new-reader.ensures at c.in-Ok.ensures.read in
    let whole = rw (append-nil (bits_of coming)) at read in
    λ k.
    let are = of_file m coming (g.D.Device.seen c.args.device.now) c.in-Ok.blocks.items c.deref.result.now _ (c.requires.same k).1 c.deref.ensures.value (whole (c.requires.same k).0) in
    moments c.args.device.now c.change_comments-outcome.new.device m c.args.edits.now c.deref.result.now _ g.D.Device.time (g.D.Device.seen c.args.device.now) are (c.requires.durable k) (λ x left. g.met.D.Device.only_now c.args.device.now x k left)
    (c.change_comments-outcome.ensures.any_moment k)

pub returns-in-Err-outcome-clause-reads : goal.returns-in-Err-outcome-clause-reads
returns-in-Err-outcome-clause-reads g c =
    let m = start_mark (g.R.Source.after c.args.source.now) in
    let coming = g.R.Source.coming c.args.source.now in
    let read = rw c.new-reader.ensures at c.in-Ok.ensures.read in
    let whole = rw (append-nil (bits_of coming)) at read in
    λ k.
    let are = of_file m coming (g.D.Device.seen c.args.device.now) c.in-Ok.blocks.items c.deref.result.now _ (c.requires.same k).1 c.deref.ensures.value (whole (c.requires.same k).0) in
    readings c.args.device.now c.change_comments-outcome.new.device m c.args.edits.now c.deref.result.now _ g.D.Device.seen are (c.change_comments-outcome.ensures.reads k)

pub returns-in-Ok-outcome-clause-flipped : goal.returns-in-Ok-outcome-clause-flipped
returns-in-Ok-outcome-clause-flipped g c =
    let m = start_mark (g.R.Source.after c.args.source.now) in
    let coming = g.R.Source.coming c.args.source.now in
    let read = rw c.new-reader.ensures at c.in-Ok.ensures.read in
    let whole = rw (append-nil (bits_of coming)) at read in
    λ is k.
    let are = of_file m coming (g.D.Device.seen c.args.device.now) c.in-Ok.blocks.items c.deref.result.now _ (c.requires.same k).1 c.deref.ensures.value (whole (c.requires.same k).0) in
    is_tagged m (g.D.Device.seen c.args.device.now) c.deref.result.now _ are c.args.edits.now _ (c.in-Ok-outcome.ensures.flipped is k)

pub returns-in-Ok-outcome-clause-same : goal.returns-in-Ok-outcome-clause-same
returns-in-Ok-outcome-clause-same g c =
    let m = start_mark (g.R.Source.after c.args.source.now) in
    let coming = g.R.Source.coming c.args.source.now in
    let read = rw c.new-reader.ensures at c.in-Ok.ensures.read in
    let whole = rw (append-nil (bits_of coming)) at read in
    λ is known.
    let are = of_file m coming coming c.in-Ok.blocks.items c.deref.result.now _ refl c.deref.ensures.value (whole known) in
    changes_nothing m coming c.deref.result.now _ are c.args.edits.now (c.in-Ok-outcome.ensures.same.0 is)

pub returns-in-Ok-outcome-clause-idle : goal.returns-in-Ok-outcome-clause-idle
returns-in-Ok-outcome-clause-idle g c =
    let m = start_mark (g.R.Source.after c.args.source.now) in
    let coming = g.R.Source.coming c.args.source.now in
    let read = rw c.new-reader.ensures at c.in-Ok.ensures.read in
    let whole = rw (append-nil (bits_of coming)) at read in
    λ known none.
    let are = of_file m coming coming c.in-Ok.blocks.items c.deref.result.now _ refl c.deref.ensures.value (whole known) in
    c.in-Ok-outcome.ensures.same.1 (nothing_changes m coming c.deref.result.now _ are c.args.edits.now none)

pub returns-in-Err-clause-any_moment : goal.returns-in-Err-clause-any_moment
returns-in-Err-clause-any_moment g c =
    λ k. untouched (start_mark (g.R.Source.after c.args.source.now)) c.args.edits.now (g.D.Device.seen c.args.device.now) (g.D.Device.time c.args.device.now) (c.requires.durable k) (λ x left. g.met.D.Device.only_now c.args.device.now x k left)

pub returns-in-Err-clause-reads : goal.returns-in-Err-clause-reads
returns-in-Err-clause-reads g c =
    λ k. unread (start_mark (g.R.Source.after c.args.source.now)) c.args.edits.now (g.D.Device.seen c.args.device.now)

pub returns-in-Err-clause-refused : goal.returns-in-Err-clause-refused
returns-in-Err-clause-refused g c =
    let refused = rw c.new-reader.ensures at c.in-Err.ensures.refused in
    let whole = rw (append-nil (bits_of (g.R.Source.coming c.args.source.now))) at refused in
    λ known same room. whole known (search (rules, same)) room
