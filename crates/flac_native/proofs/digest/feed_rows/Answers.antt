use Rattle.std.proofs.Common.{◌≡◌, ◌+◌, ◌++◌, take, append_assoc, ap, sym, ◌∙◌, arith, subst}
use Rattle.md5.specs.Md5.{Holds}
use Rattle.flac_native.specs.Message.{rows_bytes}
use Rattle.flac_native.proofs.Messages.{rows_split}
use Rattle.flac_native.proofs.digest.feed_rows.Goals as goal

pub loop-fed-preserved : goal.loop-fed-preserved
loop-fed-preserved g c =
    let inv = c.loop-fed.invariant in
    let width = c.args.width in
    let channels = g.C.Channels.lists c.args.samples.now in
    let start = c.args.start in
    let n = c.loop-fed.fed in
    let k = c.min-count.result in
    let rows : rows_bytes width channels (n + k) start ≡ rows_bytes width channels n start ++ rows_bytes width channels k (start + n) = rows_split width channels n k start in
    record {
      within = omega (arith, inv.within, c.loop-fed-test.true, c.min-count.ensures);
      fed = λ m holds.
          let before = rows_bytes width channels n start in
          let all : (m ++ before) ++ take c.put_rows_in-end.result c.put_rows_in-end.new.out ≡ m ++ rows_bytes width channels (n + k) start =
          append_assoc m before _ ∙ ap (λ l. m ++ l) (ap (λ l. before ++ l) c.put_rows_in-end.ensures.bytes ∙ sym rows) in
          subst (λ l. Holds c.update.new.self l) all (c.update.ensures (m ++ before) (inv.fed m holds));
    }
