use Rattle.std.proofs.Common.{sym, subst, ◌∙◌, arith}
use Rattle.flac_header.specs.declared.subset.Profile.TheVariants.{Subset}
use Rattle.flac_meta.specs.declared.block.Seen.{Seen}
use Rattle.flac_c.specs.inner.Blocks.{BlocksCome, FoundOf, Noted}
use Rattle.flac_c.proofs.Heading.{marker_was_read, marker_was_refused, head_read, blocks_come, blocks_refused, found_more, found_marked}
use Rattle.flac_c.proofs.metadata.read_parts.Goals as goal

pub returns-in-Err-clause-refused : goal.returns-in-Err-clause-refused
returns-in-Err-clause-refused c = λ profile quiet other. marker_was_refused profile c.args.bits.now c.start_checks.new.self c.read_marker.new.reader c.in-Err.why c.start_checks.ensures c.requires.known c.in-Err.ensures.reading.reads quiet

pub loop-index-init : goal.loop-index-init
loop-index-init c = λ profile.
    let sample = c.args.found.now.sample in
    let told = found_marked profile sample c.args.found.now (c.requires.none profile) in
    let come = marker_was_read profile c.args.bits.now c.start_checks.new.self c.read_marker.new.reader (FoundOf profile sample c.args.found.now) tt c.start_checks.ensures c.requires.known c.in-Ok.ensures.reading.reads c.in-Ok.ensures.reading.counts told in
    subst (λ (s : Seen). BlocksCome profile c.args.bits.now c.read_marker.new.reader (FoundOf profile sample c.args.found.now) s 0) (sym c.new-seen.ensures) come

pub next_block-requires : goal.next_block-requires
next_block-requires c = (c.loop-index.invariant Subset).read.known

pub returns-in-Ok-true-clause-read : goal.returns-in-Ok-true-clause-read
returns-in-Ok-true-clause-read c = λ profile.
    let sample = c.args.found.now.sample in
    let come = c.loop-index.invariant profile in
    let r = c.in-Ok-true.ensures.read in
    let told = found_more profile sample come.read.parts c.loop-index.found c.next_block.new.found c.in-Ok-true.field-0 r.is come.read.tells r.kept in
    head_read profile c.args.bits.now c.loop-index.bits (FoundOf profile sample c.loop-index.found) c.loop-index.seen c.loop-index.index come c.next_block.new.bits (λ b. Noted c.loop-index.found b c.next_block.new.found)
    c.next_block.new.seen c.in-Ok-true.field-0 r (FoundOf profile sample c.next_block.new.found) told c.in-Ok-true.field-0-test

pub returns-in-Err-next_block-clause-refused : goal.returns-in-Err-next_block-clause-refused
returns-in-Err-next_block-clause-refused c = λ profile quiet other.
    let come = c.loop-index.invariant profile in
    let same = quiet ∙ sym come.read.errors in
    blocks_refused profile c.args.bits.now c.loop-index.bits (FoundOf profile c.args.found.now.sample c.loop-index.found) c.loop-index.seen c.loop-index.index come c.in-Err-next_block.why (c.in-Err-next_block.ensures.refused same other)

pub loop-index-preserved : goal.loop-index-preserved
loop-index-preserved c = λ profile.
    let sample = c.args.found.now.sample in
    let come = c.loop-index.invariant profile in
    let r = c.in-Ok-false.ensures.read in
    let told = found_more profile sample come.read.parts c.loop-index.found c.next_block.new.found c.in-Ok-false.field-0 r.is come.read.tells r.kept in
    blocks_come profile c.args.bits.now c.loop-index.bits (FoundOf profile sample c.loop-index.found) c.loop-index.seen c.loop-index.index come c.next_block.new.bits (λ b. Noted c.loop-index.found b c.next_block.new.found)
    c.next_block.new.seen c.in-Ok-false.field-0 r (FoundOf profile sample c.next_block.new.found) told c.in-Ok-false.field-0-test (omega arith)
