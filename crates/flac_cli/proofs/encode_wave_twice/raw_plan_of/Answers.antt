use Rattle.std.proofs.Common.{rules, ◌∙◌, refl, ap, sym, inl, inr, arith}
use Rattle.flac_raw.specs.Planned.{planned}
use Rattle.flac_cli.proofs.encode_wave_twice.raw_plan_of.Goals as goal

pub returns-in-Some-clause-refused : goal.returns-in-Some-clause-refused
returns-in-Some-clause-refused c = inl (sym c.in-Some.ensures.fault)
