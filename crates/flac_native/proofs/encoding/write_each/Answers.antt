use Rattle.std.proofs.Common.{◌≡◌, ◌<◌, ◌+◌, ◌++◌, length, drop, get_or, ap, ◌∙◌, sym, arith, List, ℕ, nat_eq}
use Rattle.std.proofs.lemmas.Result.{err_from_is_err_and}
use Rattle.flac_bits.proofs.Writing.{towards_start, towards_more, towards_fail}
use Rattle.flac_meta.specs.Spelling.{block_spelling}
use Rattle.flac_meta.specs.declared.block.Block.{Block}
use Rattle.flac_native.specs.Writing.{blocks_spelling}
use Rattle.flac_native.proofs.BlocksWritten.{blocks_step, before_table, after_all}
use Rattle.flac_native.proofs.Renewing.{was_written}
use Rattle.flac_native.proofs.Unread.{never_read, never_sink}
use Rattle.flac_native.proofs.encoding.write_each.Goals as goal

-- one block more, of so many
step_of : (bs more : List Block) (i n : ℕ) (b : Block) → n ≡ length (bs ++ more) → i < length bs → b ≡ get_or bs i b
    → blocks_spelling (drop i (bs ++ more)) ≡ block_spelling (nat_eq (i + 1) n) b ++ blocks_spelling (drop (i + 1) (bs ++ more))
step_of bs more i n b is lt at =
    let k = before_table bs more i b lt at in
    blocks_step (bs ++ more) i b k.0 k.1 ∙ ap (λ m. block_spelling (nat_eq (i + 1) m) b ++ blocks_spelling (drop (i + 1) (bs ++ more))) (sym is)

pub loop-i-init : goal.loop-i-init
loop-i-init g c = record { few = omega arith; towards = λ more is. towards_start _ c.args.writer.now }

pub loop-i-preserved : goal.loop-i-preserved
loop-i-preserved g c =
    let bs : List Block = c.args.blocks.now in
    let i = c.loop-i.i in
    let lt : i < length bs = omega (arith, c.loop-i-test.true) in
    record {
      few = omega (arith, lt);
      towards = λ more is. towards_more (blocks_spelling (drop (i + 1) (bs ++ more))) (step_of bs more i c.args.count c.index-blocks-i.result is lt c.index-blocks-i.is) (c.loop-i.invariant.towards more is)
          (was_written _ c.index-blocks-i.result _ _ c.in_ok-write_block.ensures.refused c.in_ok-write_block.ensures.writes);
    }

pub returns-clause-written : goal.returns-clause-written
returns-clause-written g c = λ more is.
    let t = c.loop-i.invariant.towards more is in
    let e = ap blocks_spelling (after_all c.args.blocks.now more c.loop-i.i (omega (arith, c.loop-i-test.false, c.loop-i.invariant.few))) in
    rw (← e) (record { known = t.known; errors = t.errors; names = t.names; mark = t.mark; bits = t.bits })

pub returns-in_err-write_block-clause-failed : goal.returns-in_err-write_block-clause-failed
returns-in_err-write_block-clause-failed g c =
    let p = err_from_is_err_and c.from_residual.result c.from_residual.ensures.1 in
    let bs : List Block = c.args.blocks.now in
    let i = c.loop-i.i in
    let lt : i < length bs = omega (arith, c.loop-i-test.true) in
    rw (p.1, p.2) (λ more is good. towards_fail _ (blocks_spelling (drop (i + 1) (bs ++ more))) (step_of bs more i c.args.count c.index-blocks-i.result is lt c.index-blocks-i.is) (c.loop-i.invariant.towards more is)
    (c.in_err-write_block.ensures.writes (good i c.index-blocks-i.result lt c.index-blocks-i.is)))

pub returns-in_err-write_block-clause-unread : goal.returns-in_err-write_block-clause-unread
returns-in_err-write_block-clause-unread g c =
    let p = err_from_is_err_and c.from_residual.result c.from_residual.ensures.1 in
    rw (p.1, p.2) (never_read _ c.index-blocks-i.result _ _ _ c.in_err-write_block.ensures.refused c.in_err-write_block.ensures.writes (λ f. f.reason))

pub returns-in_err-write_block-clause-sink : goal.returns-in_err-write_block-clause-sink
returns-in_err-write_block-clause-sink g c =
    let p = err_from_is_err_and c.from_residual.result c.from_residual.ensures.1 in
    rw (p.1, p.2) (never_sink _ c.index-blocks-i.result _ _ _ c.in_err-write_block.ensures.refused c.in_err-write_block.ensures.writes (λ f. f.reason))
