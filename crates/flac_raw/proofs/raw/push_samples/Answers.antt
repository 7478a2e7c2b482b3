use Rattle.std.proofs.Common.{◌≡◌, subst, arith}
use Rattle.std.specs.Prelude.{OnOk}
use Rattle.flac_raw.specs.Reading.{IsPart, IsMore}
use Rattle.flac_raw.proofs.raw.push_samples.Goals as goal

pub returns-in_default-clause-more : goal.returns-in_default-clause-more
returns-in_default-clause-more c =
    let four : 4 ≡ c.args.column.width = omega arith in
    subst (λ w. OnOk c.push_samples_of-in_default.result (IsMore (IsPart c.args.column.stride c.args.column.start w) c.args.piece.now c.args.column.stride c.args.column.count c.args.samples.now.items c.push_samples_of-in_default.new.samples.items)) four
    c.push_samples_of-in_default.ensures.more
