use Rattle.std.proofs.Common.{arith, ◌<◌, ◌+◌, ◌*◌, ◌-◌}
use Rattle.std.proofs.lemmas.Result.{err_from_is_err_and}
use Rattle.flac_bits.specs.Bits.{unsigned}
use Rattle.flac_bits.specs.Meaning.{unary_bits}
use Rattle.flac_bits.proofs.Writing.{writes_then, fails_first}
use Rattle.flac_subframe.specs.declared.format.subframe_type.SubframeType.{SubframeType}
use Rattle.flac_subframe.specs.declared.format.subframe_type.SubframeType.TheVariants.{Constant, Verbatim, Fixed, Linear}
use Rattle.flac_subframe.specs.format.inner.Codes.{IsType, type_code}
use Rattle.flac_subframe.proofs.lemmas.format.WriteSteps.{header_none, header_more}
use Rattle.flac_subframe.proofs.format.writing.write_header.Goals as goal

-- the code of a type has six bits
type_small : (t : SubframeType) → IsType t → type_code t < 64
type_small Constant is = omega arith
type_small Verbatim is = omega arith
type_small (Fixed order) is = omega (arith, is)
type_small (Linear order) is = omega (arith, is.1)

pub put-requires : goal.put-requires
put-requires g c = rw c.code-code.ensures (omega (arith, type_small c.args.kind c.requires.kind))

pub returns-then-wasted-eq0 : goal.returns-then-wasted-eq0
returns-then-wasted-eq0 g c = rw (c.if-wasted-eq0.true, header_none (type_code c.args.kind) (type_small c.args.kind c.requires.kind)) (rw c.code-code.ensures at c.put.ensures)

pub returns-in_err-put : goal.returns-in_err-put
returns-in_err-put g c =
    let code = type_code c.args.kind in
    let p = err_from_is_err_and c.from_residual.result c.from_residual.ensures.1 in
    rw (p.1, p.2, header_more code c.args.wasted (type_small c.args.kind c.requires.kind) (omega arith)) (fails_first (unsigned 8 (code * 2 + 1)) (unary_bits (c.args.wasted - 1)) (rw c.code-code.ensures at c.in_err-put.ensures))

pub returns : goal.returns
returns g c =
    rw (header_more (type_code c.args.kind) c.args.wasted (type_small c.args.kind c.requires.kind) (omega arith)) (writes_then (unary_bits (c.args.wasted - 1)) c.put_unary.new.self c.put_unary.result (rw c.code-code.ensures at c.in_ok-put.ensures) c.put_unary.ensures)
