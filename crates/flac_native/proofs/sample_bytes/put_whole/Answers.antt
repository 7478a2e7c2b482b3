use Rattle.std.proofs.Common.{rules, ◌≡◌, ◌++◌, length, take, ap, ◌∙◌, arith, SFits, w32, to_z, of_z}
use Rattle.std.proofs.lemmas.Int.{to_z-of_z}
use Rattle.flac_native.specs.Message.{sample_bytes}
use Rattle.flac_native.proofs.Messages.{part_put}
use Rattle.flac_native.proofs.sample_bytes.put_whole.Goals as goal

pub returns : goal.returns
returns c =
    let fits : SFits w32 c.args.sample = search rules in
    let same : to_z w32 (of_z w32 c.args.sample) ≡ c.args.sample = to_z-of_z w32 c.args.sample fits in
    let bytes = c.copy_from_slice.ensures.after ∙ c.to_le_bytes.ensures in
    let long : length c.copy_from_slice.new.self ≡ 4 = search rules in
    part_put c.args.at c.args.width _ c.args.out.now c.copy_from_slice.new.self (omega (arith, c.requires.room)) (omega (arith, c.requires.width, long)) ∙ ap (λ l. take c.args.at c.args.out.now ++ take c.args.width l) bytes ∙ ap (λ z. take c.args.at c.args.out.now ++ sample_bytes c.args.width z) same
