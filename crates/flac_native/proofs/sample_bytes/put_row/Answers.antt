use Rattle.std.proofs.Common.{rules, w32, ◌<◌, ◌++◌, length, take, List, ℕ, ℤ, append_assoc, ap, sym, ◌∙◌, arith}
use Rattle.std.proofs.lemmas.Int.{to_z-of_z}
use Rattle.flac_native.specs.Message.{sample_bytes, row_bytes}
use Rattle.flac_native.proofs.Messages.{row_more}
use Rattle.flac_native.proofs.sample_bytes.put_row.Goals as goal

pub loop-i-preserved : goal.loop-i-preserved
loop-i-preserved g c =
    let inv = c.loop-i.invariant in
    let width = c.args.width in
    let channels = g.C.Channels.lists c.args.samples.now in
    let lt : c.loop-i.i < length channels = omega (arith, c.loop-i-test.true, c.requires.channels) in
    let front = take c.args.at c.args.out.now in
    let rows = row_bytes width (take c.loop-i.i channels) c.args.index in
    let bytes : ℤ → List ℕ = sample_bytes width in
    record {
      end = omega (arith, inv.end, c.requires.width);
      bytes = c.put_sample.ensures ∙ ap (λ z. take c.loop-i.place c.loop-i.out ++ bytes z) (to_z-of_z w32 c.sample.result (search rules)) ∙ ap (λ l. l ++ bytes c.sample.result) inv.bytes ∙ append_assoc front rows (bytes c.sample.result)
          ∙ ap (λ r. front ++ r) (ap (λ z. rows ++ bytes z) c.sample.ensures ∙ sym (row_more width channels c.args.index c.loop-i.i lt));
    }
