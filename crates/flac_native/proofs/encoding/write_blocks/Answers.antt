use Rattle.std.proofs.Common.{◌≡◌, ◌++◌, ◌∷◌, length, [], refl, subst, sym, ap, ◌∙◌, List, None, nat_eq, ℕ}
use Rattle.std.proofs.lemmas.List.{append-nil}
use Rattle.std.proofs.lemmas.Result.{err_from_is_err_and}
use Rattle.flac_bits.proofs.Writing.{Towards, towards_start, towards_more, towards_last, towards_fail}
use Rattle.flac_meta.specs.Listed.{list_fault, info_seen}
use Rattle.flac_meta.specs.Spelling.{block_spelling}
use Rattle.flac_meta.specs.declared.block.Block.{Block}
use Rattle.flac_meta.specs.declared.block.Block.TheVariants as block_of
use Rattle.flac_native.specs.Seeking.{table_of}
use Rattle.flac_native.specs.Writing.{blocks_spelling}
use Rattle.flac_native.proofs.BlocksWritten.{first_step, each_written}
use Rattle.flac_native.proofs.encoding.write_blocks.Goals as goal

-- the first block, where so many stand after it
first_of : (b : Block) (bs : List Block) (n : ℕ) → n ≡ length bs → blocks_spelling (b ∷ bs) ≡ block_spelling (nat_eq n 0) b ++ blocks_spelling bs
first_of b bs n is = first_step b bs ∙ ap (λ k. block_spelling (nat_eq k 0) b ++ blocks_spelling bs) (sym is)

pub returns-in_err-outcome : goal.returns-in_err-outcome
returns-in_err-outcome g c =
    let p = err_from_is_err_and c.from_residual.result c.from_residual.ensures.1 in
    let bs : List Block = c.blocks-blocks.result.now in
    let all : List Block = bs ++ table_of c.args.points.items in
    let many : c.count_with_table-count.result ≡ length all = c.count_with_table-count.ensures ∙ ap (λ l. length (bs ++ table_of l)) c.as_slice.ensures.value in
    rw (p.1, p.2, ← c.blocks-blocks.ensures.items)
    (towards_fail _ (blocks_spelling all) (first_of (block_of.StreamInfo c.args.info) all c.count_with_table-count.result many) (towards_start _ c.args.writer.now) (c.in_err-outcome.ensures.writes refl))

pub returns-in_err-write_each : goal.returns-in_err-write_each
returns-in_err-write_each g c =
    let p = err_from_is_err_and c.from_residual-in_err-write_each.result c.from_residual-in_err-write_each.ensures.1 in
    let bs : List Block = c.blocks-blocks.result.now in
    let more : List Block = table_of c.args.points.items in
    let all : List Block = bs ++ more in
    let many : c.count_with_table-count.result ≡ length all = c.count_with_table-count.ensures ∙ ap (λ l. length (bs ++ table_of l)) c.as_slice.ensures.value in
    let first = towards_more (blocks_spelling all) (first_of (block_of.StreamInfo c.args.info) all c.count_with_table-count.result many) (towards_start _ c.args.writer.now) (c.in_ok-outcome.ensures.writes refl) in
    let good : list_fault info_seen bs ≡ None = subst (λ l. list_fault info_seen l ≡ None) (sym c.blocks-blocks.ensures.items) c.blocks-blocks.ensures.good in
    rw (p.1, p.2, ← c.blocks-blocks.ensures.items)
    (towards_fail (blocks_spelling all) [] (sym (append-nil (blocks_spelling all))) first (c.in_err-write_each.ensures.failed more many (λ i b lt at. each_written bs info_seen i b good lt at)))

pub returns : goal.returns
returns g c =
    let bs : List Block = c.blocks-blocks.result.now in
    let more : List Block = table_of c.args.points.items in
    let all : List Block = bs ++ more in
    let whole = blocks_spelling (block_of.StreamInfo c.args.info ∷ all) in
    let many : c.count_with_table-count.result ≡ length all = c.count_with_table-count.ensures ∙ ap (λ l. length (bs ++ table_of l)) c.as_slice.ensures.value in
    let first = towards_more (blocks_spelling all) (first_of (block_of.StreamInfo c.args.info) all c.count_with_table-count.result many) (towards_start _ c.args.writer.now) (c.in_ok-outcome.ensures.writes refl) in
    let a = c.in_ok-write_each.ensures.written more many in
    let then : Towards (blocks_spelling more) whole c.args.writer.now c.write_each.new.writer = record {
      known = λ k. a.known (first.known k);
      errors = a.errors ∙ first.errors;
      names = a.names ∙ first.names;
      mark = a.mark ∙ first.mark;
      bits = λ k. a.bits (first.known k) ∙ first.bits k;
    } in
    rw (← c.blocks-blocks.ensures.items) (towards_last c.write_table.new.writer c.write_table.result then c.write_table.ensures)
