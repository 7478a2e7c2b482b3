use Rattle.std.proofs.lemmas.Result.{err_from_is_err_and}
use Rattle.flac_json.specs.Texts.{all_digits}
use Rattle.flac_cli.proofs.Lined.{lost, lost_then, adds_lost}
use Rattle.flac_cli.proofs.Objects.{digits_joined, none_joined, one_joined, all_joined}
use Rattle.flac_cli.proofs.lines.Lines.put_all_digits.Goals as goal

pub loop-byte-init : goal.loop-byte-init
loop-byte-init g c = none_joined g.W.Target digits_joined c.args.bytes.now _ _

pub loop-byte-preserved : goal.loop-byte-preserved
loop-byte-preserved g c = one_joined g.W.Target digits_joined c.args.bytes.now c.loop-byte.byte-index 0 c.loop-byte-test.true c.loop-byte.invariant c.in_ok-put_digits.ensures

pub returns-in_err-put_digits : goal.returns-in_err-put_digits
returns-in_err-put_digits g c =
    let p = err_from_is_err_and c.from_residual.result c.from_residual.ensures.1 in
    rw p.1 (adds_lost g.W.Target (lost_then g.W.Target c.loop-byte.invariant (lost g.W.Target c.in_err-put_digits.ensures)))

pub returns : goal.returns
returns g c = all_joined g.W.Target all_digits c.args.bytes.now c.loop-byte.byte-index c.loop-byte-test.false c.loop-byte.invariant
