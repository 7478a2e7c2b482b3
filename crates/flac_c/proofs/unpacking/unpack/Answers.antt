use Rattle.std.proofs.Common.{◌<◌, ◌+◌, None, Option, subst, sym, ◌∙◌, List, ℕ, arith}
use Rattle.flac_pages.specs.declared.page.Before.{Before}
use Rattle.flac_c.specs.inner.Unpacked.{PageAdded, Unpacking}
use Rattle.flac_c.proofs.NativeInOgg.{some_why, at_first, further, ended, refused_here, on_done, on_fault, stopped}
use Rattle.flac_c.proofs.unpacking.unpack.Goals as goal

pub loop-count-init : goal.loop-count-init
loop-count-init c = subst (λ (l : List ℕ). Unpacking c.args.bits.now c.args.bits.now None 0 l) (sym c.requires.none) (at_first c.args.bits.now c.requires.known c.requires.short)

pub loop-count-preserved : goal.loop-count-preserved
loop-count-preserved c =
    let few : c.loop-count.count < 18446744073709551615 = omega arith in
    let a = subst (λ (o : Option Before). PageAdded c.loop-count.before c.loop-count.bits c.add_page.new.bits c.loop-count.list.items c.add_page.new.list.items o) c.in-Ok-Some.field-0-is c.in-Ok-Some.ensures.read in
    further c.args.bits.now c.loop-count.bits c.add_page.new.bits c.loop-count.before c.loop-count.count c.loop-count.list.items c.add_page.new.list.items few c.loop-count.invariant c.in-Ok-Some.after a

pub returns-in-Err-add_page-clause-refused : goal.returns-in-Err-add_page-clause-refused
returns-in-Err-add_page-clause-refused c = λ quiet other.
    let few : c.loop-count.count < 18446744073709551615 = omega arith in
    refused_here c.args.bits.now c.loop-count.bits c.add_page.new.bits c.loop-count.before c.loop-count.count c.loop-count.list.items c.add_page.new.list.items few c.loop-count.invariant c.in-Err-add_page.why (c.in-Err-add_page.ensures.refused (quiet ∙ sym c.loop-count.invariant.errors) other)

pub returns-in-Ok-None-clause-read : goal.returns-in-Ok-None-clause-read
returns-in-Ok-None-clause-read c =
    let few : c.loop-count.count < 18446744073709551615 = omega arith in
    let a = subst (λ (o : Option Before). PageAdded c.loop-count.before c.loop-count.bits c.add_page.new.bits c.loop-count.list.items c.add_page.new.list.items o) c.in-Ok-None.field-0-is c.in-Ok-None.ensures.read in
    let e = ended c.args.bits.now c.loop-count.bits c.add_page.new.bits c.loop-count.before c.loop-count.count c.loop-count.list.items c.add_page.new.list.items few c.loop-count.invariant a in
    on_done c.judge_end.result c.judge_end.ensures.over (λ none. (e.0, e.1 None none))

pub returns-in-Ok-None-clause-refused : goal.returns-in-Ok-None-clause-refused
returns-in-Ok-None-clause-refused c =
    let few : c.loop-count.count < 18446744073709551615 = omega arith in
    let a = subst (λ (o : Option Before). PageAdded c.loop-count.before c.loop-count.bits c.add_page.new.bits c.loop-count.list.items c.add_page.new.list.items o) c.in-Ok-None.field-0-is c.in-Ok-None.ensures.read in
    let e = ended c.args.bits.now c.loop-count.bits c.add_page.new.bits c.loop-count.before c.loop-count.count c.loop-count.list.items c.add_page.new.list.items few c.loop-count.invariant a in
    on_fault c.judge_end.result c.judge_end.ensures.fault (λ f h quiet other.
    let told = h (quiet ∙ sym (a.errors ∙ c.loop-count.invariant.errors)) in
    stopped c.args.bits.now f (c.loop-count.count + 1) (e.1 (some_why f.1) told.1) told.0)
