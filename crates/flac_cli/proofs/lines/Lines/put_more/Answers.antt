use Rattle.std.proofs.Common.{None}
use Rattle.std.proofs.lemmas.Result.{err_from_is_err_and}
use Rattle.flac_cli.proofs.Lined.{lost, lost_then, adds_lost}
use Rattle.flac_cli.proofs.Objects.{members_joined, none_joined, one_joined, all_joined, more_of}
use Rattle.flac_cli.proofs.lines.Lines.put_more.Goals as goal

pub loop-member-init : goal.loop-member-init
loop-member-init g c = none_joined g.W.Target members_joined c.args.members.now _ _

pub loop-member-preserved : goal.loop-member-preserved
loop-member-preserved g c = one_joined g.W.Target members_joined c.args.members.now c.loop-member.member-index None c.loop-member-test.true c.loop-member.invariant c.in_ok-put_next.ensures

pub returns-in_err-put_next : goal.returns-in_err-put_next
returns-in_err-put_next g c =
    let p = err_from_is_err_and c.from_residual.result c.from_residual.ensures.1 in
    rw p.1 (adds_lost g.W.Target (lost_then g.W.Target c.loop-member.invariant (lost g.W.Target c.in_err-put_next.ensures)))

pub returns : goal.returns
returns g c = all_joined g.W.Target more_of c.args.members.now c.loop-member.member-index c.loop-member-test.false c.loop-member.invariant
