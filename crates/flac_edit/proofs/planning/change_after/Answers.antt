use Rattle.std.proofs.Common.{refl, ◌++◌, rules, ◌≡◌, length}
use Rattle.flac_edit.proofs.Planned.{is_after}
use Rattle.flac_edit.proofs.planning.change_after.Goals as goal

pub returns-clause-is : goal.returns-clause-is
returns-clause-is c =
    let bytes : c.extend_from_slice.new.self.items ≡ c.in_ok-bytes.bytes.items ++ c.in_ok-tail.tail.items = search rules in
    let counted : c.len.result ≡ length c.in_ok-bytes.bytes.items = search rules in
    let zeros : length c.in_ok-zeros.zeros.items ≡ c.args.preceding = search rules in
    is_after c.args.at c.args.preceding c.args.padding c.len.result c.args.last c.args.comments.now _ c.in_ok-bytes.bytes.items c.in_ok-tail.tail.items c.in_ok-bytes.ensures.spelled c.in_ok-bytes.ensures.long counted c.in_ok-tail.ensures.spelled c.in_ok-tail.ensures.long bytes c.in_ok-header.ensures.spelled c.in_ok-header.ensures.long zeros refl refl refl c.requires.room c.requires.some c.requires.short c.requires.padding
