use Rattle.std.proofs.Common.{ℕ, List, ◌++◌, ap, ◌∙◌}
use Rattle.flac_c.proofs.NativeInOgg.{page_added, page_refused}
use Rattle.flac_c.proofs.unpacking.add_page.Goals as goal

pub returns-in-Err-clause-refused : goal.returns-in-Err-clause-refused
returns-in-Err-clause-refused c = λ quiet other. page_refused c.args.before c.args.bits.now c.next_page.new.reader c.next_page.new.room c.in-Err.why c.requires c.in-Err.ensures.means quiet

pub returns-in-Ok-extend_from_slice-clause-read : goal.returns-in-Ok-extend_from_slice-clause-read
returns-in-Ok-extend_from_slice-clause-read c =
    let added = c.in-Ok-extend_from_slice.ensures.items ∙ ap (λ (l : List ℕ). c.args.list.now.items ++ l) c.body.ensures.bytes in
    page_added c.args.before c.args.bits.now c.next_page.new.reader c.next_page.new.room c.args.list.now.items c.extend_from_slice.new.self.items c.after_page.result c.requires c.in-Ok.ensures.counts c.in-Ok.ensures.means added c.after_page.ensures
