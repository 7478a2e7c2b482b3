use Rattle.std.proofs.Common.{◌≡◌, ℕ, Ok, Err, List, [], ◌∷◌, ◌++◌, refl, subst, ap, ◌∙◌, arith}
use Rattle.flac_bits.specs.State.{fresh}
use Rattle.flac_bits.proofs.Meaning.{reads}
use Rattle.flac_meta.specs.Block.{block}
use Rattle.flac_meta.specs.declared.block.Block.{Block}
use Rattle.flac_c.specs.Described.{block_at}
use Rattle.flac_c.specs.inner.Described.{Listed}
use Rattle.flac_c.specs.declared.blocks.FlacProvedBlock.{FlacProvedBlock}
use Rattle.flac_c.proofs.Heading.{block_was_read, block_was_refused}
use Rattle.flac_c.proofs.Listing.{Fits, block_fits}
use Rattle.flac_c.proofs.blocks.list_block.Goals as goal

pub block_at-described-requires-clause-small : goal.block_at-described-requires-clause-small
block_at-described-requires-clause-small c =
    let seen = c.args.seen.now in
    let b : Block = c.in-Ok.read.1 in
    let r = block_was_read seen c.read_block.new.seen c.args.bits.now c.start_checks.new.self c.read_block.new.bits (λ x. x ≡ b) c.in-Ok.read.0 b c.requires.known c.start_checks.ensures
    (λ room. reads (λ x. x) (block seen) c.start_checks.new.self c.read_block.new.bits (Ok c.in-Ok.read) (c.in-Ok.ensures.reading.reads room)) c.in-Ok.ensures.reading.counts c.in-Ok.ensures.seen refl in
    let at : ℕ = c.args.bits.now.cursor.mark.bytes in
    let f = block_fits seen (fresh c.args.bits.now.cursor.mark) at c.args.bits.now.cursor.left r.text c.read_block.new.bits.cursor.left c.in-Ok.read.0 r.is r.stands r.spelled c.requires.short in
    (subst (λ (x : Block). Fits at x) r.kept f).small

pub block_at-described-requires-clause-within : goal.block_at-described-requires-clause-within
block_at-described-requires-clause-within c =
    let seen = c.args.seen.now in
    let b : Block = c.in-Ok.read.1 in
    let r = block_was_read seen c.read_block.new.seen c.args.bits.now c.start_checks.new.self c.read_block.new.bits (λ x. x ≡ b) c.in-Ok.read.0 b c.requires.known c.start_checks.ensures
    (λ room. reads (λ x. x) (block seen) c.start_checks.new.self c.read_block.new.bits (Ok c.in-Ok.read) (c.in-Ok.ensures.reading.reads room)) c.in-Ok.ensures.reading.counts c.in-Ok.ensures.seen refl in
    let at : ℕ = c.args.bits.now.cursor.mark.bytes in
    let f = block_fits seen (fresh c.args.bits.now.cursor.mark) at c.args.bits.now.cursor.left r.text c.read_block.new.bits.cursor.left c.in-Ok.read.0 r.is r.stands r.spelled c.requires.short in
    let within = (subst (λ (x : Block). Fits at x) r.kept f).within in
    omega (arith, within, c.bytes_taken-at.ensures)

pub returns-in-Ok-push-clause-read : goal.returns-in-Ok-push-clause-read
returns-in-Ok-push-clause-read c =
    let seen = c.args.seen.now in
    let b : Block = c.in-Ok.read.1 in
    let last = c.in-Ok.read.0 in
    let old : List FlacProvedBlock = c.args.list.now.items in
    let listed : c.push.new.self.items ≡ old ++ block_at c.args.bits.now.cursor.mark.bytes last b ∷ [] =
    c.in-Ok-push.ensures.items ∙ ap (λ (d : FlacProvedBlock). old ++ d ∷ []) (c.block_at-described.ensures ∙ ap (λ (n : ℕ). block_at n last b) c.bytes_taken-at.ensures) in
    block_was_read seen c.read_block.new.seen c.args.bits.now c.start_checks.new.self c.read_block.new.bits (Listed old c.push.new.self.items c.args.bits.now.cursor.mark.bytes last) last b c.requires.known c.start_checks.ensures
    (λ room. reads (λ x. x) (block seen) c.start_checks.new.self c.read_block.new.bits (Ok c.in-Ok.read) (c.in-Ok.ensures.reading.reads room)) c.in-Ok.ensures.reading.counts c.in-Ok.ensures.seen listed

pub returns-clause-refused : goal.returns-clause-refused
returns-clause-refused c = λ quiet other.
    block_was_refused c.args.seen.now c.args.bits.now c.start_checks.new.self c.read_block.new.bits c.in-Err.why c.requires.known c.start_checks.ensures (λ room. reads (λ x. x) (block c.args.seen.now) c.start_checks.new.self c.read_block.new.bits (Err c.in-Err.why) (c.in-Err.ensures.reading.reads room)) quiet other
