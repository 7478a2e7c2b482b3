use Rattle.std.proofs.Common.{refl, ◌∙◌, ap, ◌++◌, ◌-◌, ◌+◌, rules, ◌≡◌, take, drop, length}
use Rattle.flac_edit.proofs.Planned.{is_before, from_fifth}
use Rattle.flac_edit.proofs.planning.change_before.Goals as goal

pub returns-clause-is : goal.returns-clause-is
returns-clause-is c =
    let header : c.in_ok-header.header.items ≡ take 4 c.in_ok-block.block.items = search rules in
    let back : c.in_ok-bytes.bytes.items ≡ drop 4 c.in_ok-block.block.items = c.in_ok-bytes.ensures.items ∙ from_fifth c.deref-2.result.now c.in_ok-block.block.items c.deref-2.ensures.value in
    let tail : c.deref-3.result.now ≡ c.in_ok-tail.tail.items = search rules in
    let bytes : c.extend_from_slice.new.self.items ≡ drop 4 c.in_ok-block.block.items ++ c.in_ok-tail.tail.items = c.in_ok-extend_from_slice.ensures.items ∙ ap (λ l. l ++ c.deref-3.result.now) back ∙ ap (λ l. drop 4 c.in_ok-block.block.items ++ l) tail in
    let counted : c.len-count.result ≡ length c.in_ok-block.block.items = search rules in
    let zeros : length c.in_ok-zeros.zeros.items ≡ c.args.padding - c.len-count.result + c.args.following = search rules in
    is_before c.args.at c.args.padding c.args.following c.len-count.result c.args.last c.args.comments.now _ c.in_ok-block.block.items c.in_ok-tail.tail.items c.in_ok-block.ensures.spelled c.in_ok-block.ensures.long counted c.in_ok-tail.ensures.spelled c.in_ok-tail.ensures.long header bytes zeros refl refl refl c.requires.room c.requires.short c.requires.padding
