use Rattle.std.proofs.Common.{◌≡◌, true, Bool, sym, subst}
use Rattle.flac_edit.proofs.SameComments.{comments_decide}
use Rattle.flac_edit.proofs.tagging.are_same.Goals as goal

pub returns : goal.returns
returns c =
    let one = c.args.one.now in
    let other = c.args.other.now in
    subst (λ (b : Bool). (b ≡ true → one ≡ other) × (one ≡ other → b ≡ true)) (sym c.eq.ensures) (comments_decide one other)
