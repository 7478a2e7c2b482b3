use Rattle.std.proofs.Common.{◌≡◌, inl, inr, List, [], Some, None, subst, rules}
use Rattle.flac_native.specs.Giving.{stage_of}
use Rattle.flac_info.specs.Info.{Info}
use Rattle.flac_meta.specs.declared.block.Block.{Block}
use Rattle.flac_reader.specs.Kept.{first_info}
use Rattle.flac_reader.proofs.Refusals.{blocks_refused, no_info_refused}
use Rattle.flac_reader.proofs.head.read_head.Goals as goal

pub returns-in-Err-clause-refused : goal.returns-in-Err-clause-refused
returns-in-Err-clause-refused g c =
    blocks_refused g.C.Container (stage_of c.args.decoder.now) (stage_of c.read_counted.new.decoder) c.args.keep c.read_counted.new.kept.items c.in-Err.fault c.in-Err.ensures.counts c.in-Err.ensures.head

pub returns-in-None-clause-refused : goal.returns-in-None-clause-refused
returns-in-None-clause-refused g c =
    let none : first_info c.read_counted.new.kept.items ≡ None = search rules in
    no_info_refused g.C.Container (stage_of c.args.decoder.now) (stage_of c.read_counted.new.decoder) c.args.keep c.read_counted.new.kept.items c.in-Ok.field-0 c.in-Ok.ensures.counts none c.in-Ok.ensures.head

-- no block is STREAMINFO where there is none
none_first : (kept : List Block) (info : Info) → kept ≡ [] → first_info kept ≡ Some info → ⊥
unfolding first_info
none_first kept info e is = let none : first_info [] ≡ Some info = subst (λ l. first_info l ≡ Some info) e is in absurd cc

pub returns-in-Some-clause-past : goal.returns-in-Some-clause-past
returns-in-Some-clause-past g c =
    let some : first_info c.read_counted.new.kept.items ≡ Some c.in-Some.info = search rules in
    elim c.in-Ok.ensures.past [ inl none ↦ absurd (none_first c.read_counted.new.kept.items c.in-Some.info none some) | inr past ↦ past ]
