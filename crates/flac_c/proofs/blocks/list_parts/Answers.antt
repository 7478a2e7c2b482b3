use Rattle.std.proofs.Common.{sym, subst, ◌∙◌, arith}
use Rattle.flac_header.specs.declared.subset.Profile.TheVariants.{Subset}
use Rattle.flac_meta.specs.declared.block.Seen.{Seen}
use Rattle.flac_c.specs.inner.Blocks.{BlocksCome}
use Rattle.flac_c.specs.inner.Described.{ListOf, Listed}
use Rattle.flac_c.proofs.Heading.{marker_was_read, marker_was_refused, head_read, blocks_come, blocks_refused}
use Rattle.flac_c.proofs.Listing.{place_of, list_more}
use Rattle.flac_c.proofs.blocks.list_parts.Goals as goal

pub returns-in-Err-clause-refused : goal.returns-in-Err-clause-refused
returns-in-Err-clause-refused c = λ profile quiet other. marker_was_refused profile c.args.bits.now c.start_checks.new.self c.read_marker.new.reader c.in-Err.why c.start_checks.ensures c.requires.known c.in-Err.ensures.reading.reads quiet

pub loop-index-init : goal.loop-index-init
loop-index-init c = λ profile.
    let come = marker_was_read profile c.args.bits.now c.start_checks.new.self c.read_marker.new.reader (ListOf c.args.list.now.items) tt c.start_checks.ensures c.requires.known c.in-Ok.ensures.reading.reads c.in-Ok.ensures.reading.counts c.requires.none in
    subst (λ (s : Seen). BlocksCome profile c.args.bits.now c.read_marker.new.reader (ListOf c.args.list.now.items) s 0) (sym c.new-seen.ensures) come

pub list_block-requires-clause-known : goal.list_block-requires-clause-known
list_block-requires-clause-known c = (c.loop-index.invariant Subset).read.known

pub list_block-requires-clause-whole : goal.list_block-requires-clause-whole
list_block-requires-clause-whole c =
    let read = (c.loop-index.invariant Subset).read in
    (place_of Subset c.args.bits.now c.loop-index.bits (ListOf c.loop-index.list.items) read c.requires.whole c.requires.start c.requires.short).whole

pub list_block-requires-clause-short : goal.list_block-requires-clause-short
list_block-requires-clause-short c =
    let read = (c.loop-index.invariant Subset).read in
    let p = place_of Subset c.args.bits.now c.loop-index.bits (ListOf c.loop-index.list.items) read c.requires.whole c.requires.start c.requires.short in
    let short = c.requires.short in
    omega (arith, p.left, short)

pub returns-in-Ok-true-clause-read : goal.returns-in-Ok-true-clause-read
returns-in-Ok-true-clause-read c = λ profile.
    let come = c.loop-index.invariant profile in
    let r = c.in-Ok-true.ensures.read in
    let at = c.loop-index.bits.cursor.mark.bytes in
    let p = place_of profile c.args.bits.now c.loop-index.bits (ListOf c.loop-index.list.items) come.read c.requires.whole c.requires.start c.requires.short in
    let told = list_more come.read.parts c.loop-index.list.items c.list_block.new.list.items at c.in-Ok-true.field-0 r.is come.read.tells p.bytes r.kept in
    head_read profile c.args.bits.now c.loop-index.bits (ListOf c.loop-index.list.items) c.loop-index.seen c.loop-index.index come c.list_block.new.bits (Listed c.loop-index.list.items c.list_block.new.list.items at c.in-Ok-true.field-0)
    c.list_block.new.seen c.in-Ok-true.field-0 r (ListOf c.list_block.new.list.items) told c.in-Ok-true.field-0-test

pub returns-in-Err-list_block-clause-refused : goal.returns-in-Err-list_block-clause-refused
returns-in-Err-list_block-clause-refused c = λ profile quiet other.
    let come = c.loop-index.invariant profile in
    let same = quiet ∙ sym come.read.errors in
    blocks_refused profile c.args.bits.now c.loop-index.bits (ListOf c.loop-index.list.items) c.loop-index.seen c.loop-index.index come c.in-Err-list_block.why (c.in-Err-list_block.ensures.refused same other)

pub loop-index-preserved : goal.loop-index-preserved
loop-index-preserved c = λ profile.
    let come = c.loop-index.invariant profile in
    let r = c.in-Ok-false.ensures.read in
    let at = c.loop-index.bits.cursor.mark.bytes in
    let p = place_of profile c.args.bits.now c.loop-index.bits (ListOf c.loop-index.list.items) come.read c.requires.whole c.requires.start c.requires.short in
    let told = list_more come.read.parts c.loop-index.list.items c.list_block.new.list.items at c.in-Ok-false.field-0 r.is come.read.tells p.bytes r.kept in
    blocks_come profile c.args.bits.now c.loop-index.bits (ListOf c.loop-index.list.items) c.loop-index.seen c.loop-index.index come c.list_block.new.bits (Listed c.loop-index.list.items c.list_block.new.list.items at c.in-Ok-false.field-0)
    c.list_block.new.seen c.in-Ok-false.field-0 r (ListOf c.list_block.new.list.items) told c.in-Ok-false.field-0-test (omega arith)
