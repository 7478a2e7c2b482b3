use Rattle.std.proofs.Common.{[], ◌∷◌, sym}
use Rattle.std.proofs.lemmas.Result.{err_from_is_err_and}
use Rattle.flac_bits.specs.Bits.{unsigned}
use Rattle.flac_bits.proofs.Writing.{wrote_none, wrote_more, wrote_fails}
use Rattle.flac_header.proofs.Writes.{wrote_last}
use Rattle.flac_header.specs.Spelling.{code_parts}
use Rattle.flac_header.proofs.write.put_codes.Goals as goal

pub returns-in_err-put : goal.returns-in_err-put
unfolding code_parts
returns-in_err-put g c =
    let i = c.header.inside in
    let strategy = sym c.bit-strategy.ensures in
    let w0 = wrote_none c.args.writer.now in
    let p = err_from_is_err_and c.from_residual.result c.from_residual.ensures.1 in
    rw (p.1, p.2, ← c.header.view_is, strategy) (wrote_fails (unsigned 15 0x7FFC) (unsigned 1 c.bit-strategy.result ∷ unsigned 4 i.size_code ∷ unsigned 4 i.rate_code ∷ unsigned 4 i.channel_code ∷ unsigned 3 i.depth_code ∷ unsigned 1 0 ∷ []) w0 c.in_err-put.ensures)

pub returns-in_err-put-2 : goal.returns-in_err-put-2
unfolding code_parts
returns-in_err-put-2 g c =
    let i = c.header.inside in
    let strategy = sym c.bit-strategy.ensures in
    let w0 = wrote_none c.args.writer.now in
    let w1 = wrote_more {last = unsigned 15 0x7FFC} w0 c.in_ok-put.ensures in
    let p = err_from_is_err_and c.from_residual-in_err-put-2.result c.from_residual-in_err-put-2.ensures.1 in
    rw (p.1, p.2, ← c.header.view_is, strategy) (wrote_fails (unsigned 1 c.bit-strategy.result) (unsigned 4 i.size_code ∷ unsigned 4 i.rate_code ∷ unsigned 4 i.channel_code ∷ unsigned 3 i.depth_code ∷ unsigned 1 0 ∷ []) w1 c.in_err-put-2.ensures)

pub returns-in_err-put-3 : goal.returns-in_err-put-3
unfolding code_parts
returns-in_err-put-3 g c =
    let i = c.header.inside in
    let strategy = sym c.bit-strategy.ensures in
    let w0 = wrote_none c.args.writer.now in
    let w1 = wrote_more {last = unsigned 15 0x7FFC} w0 c.in_ok-put.ensures in
    let w2 = wrote_more {last = unsigned 1 c.bit-strategy.result} w1 c.in_ok-put-2.ensures in
    let p = err_from_is_err_and c.from_residual-in_err-put-3.result c.from_residual-in_err-put-3.ensures.1 in
    rw (p.1, p.2, ← c.header.view_is, strategy) (wrote_fails (unsigned 4 i.size_code) (unsigned 4 i.rate_code ∷ unsigned 4 i.channel_code ∷ unsigned 3 i.depth_code ∷ unsigned 1 0 ∷ []) w2 c.in_err-put-3.ensures)

pub returns-in_err-put-4 : goal.returns-in_err-put-4
unfolding code_parts
returns-in_err-put-4 g c =
    let i = c.header.inside in
    let strategy = sym c.bit-strategy.ensures in
    let w0 = wrote_none c.args.writer.now in
    let w1 = wrote_more {last = unsigned 15 0x7FFC} w0 c.in_ok-put.ensures in
    let w2 = wrote_more {last = unsigned 1 c.bit-strategy.result} w1 c.in_ok-put-2.ensures in
    let w3 = wrote_more {last = unsigned 4 i.size_code} w2 c.in_ok-put-3.ensures in
    let p = err_from_is_err_and c.from_residual-in_err-put-4.result c.from_residual-in_err-put-4.ensures.1 in
    rw (p.1, p.2, ← c.header.view_is, strategy) (wrote_fails (unsigned 4 i.rate_code) (unsigned 4 i.channel_code ∷ unsigned 3 i.depth_code ∷ unsigned 1 0 ∷ []) w3 c.in_err-put-4.ensures)

pub returns-in_err-put-5 : goal.returns-in_err-put-5
unfolding code_parts
returns-in_err-put-5 g c =
    let i = c.header.inside in
    let strategy = sym c.bit-strategy.ensures in
    let w0 = wrote_none c.args.writer.now in
    let w1 = wrote_more {last = unsigned 15 0x7FFC} w0 c.in_ok-put.ensures in
    let w2 = wrote_more {last = unsigned 1 c.bit-strategy.result} w1 c.in_ok-put-2.ensures in
    let w3 = wrote_more {last = unsigned 4 i.size_code} w2 c.in_ok-put-3.ensures in
    let w4 = wrote_more {last = unsigned 4 i.rate_code} w3 c.in_ok-put-4.ensures in
    let p = err_from_is_err_and c.from_residual-in_err-put-5.result c.from_residual-in_err-put-5.ensures.1 in
    rw (p.1, p.2, ← c.header.view_is, strategy) (wrote_fails (unsigned 4 i.channel_code) (unsigned 3 i.depth_code ∷ unsigned 1 0 ∷ []) w4 c.in_err-put-5.ensures)

pub returns-in_err-put-6 : goal.returns-in_err-put-6
unfolding code_parts
returns-in_err-put-6 g c =
    let i = c.header.inside in
    let strategy = sym c.bit-strategy.ensures in
    let w0 = wrote_none c.args.writer.now in
    let w1 = wrote_more {last = unsigned 15 0x7FFC} w0 c.in_ok-put.ensures in
    let w2 = wrote_more {last = unsigned 1 c.bit-strategy.result} w1 c.in_ok-put-2.ensures in
    let w3 = wrote_more {last = unsigned 4 i.size_code} w2 c.in_ok-put-3.ensures in
    let w4 = wrote_more {last = unsigned 4 i.rate_code} w3 c.in_ok-put-4.ensures in
    let w5 = wrote_more {last = unsigned 4 i.channel_code} w4 c.in_ok-put-5.ensures in
    let p = err_from_is_err_and c.from_residual-in_err-put-6.result c.from_residual-in_err-put-6.ensures.1 in
    rw (p.1, p.2, ← c.header.view_is, strategy) (wrote_fails (unsigned 3 i.depth_code) (unsigned 1 0 ∷ []) w5 c.in_err-put-6.ensures)

pub returns : goal.returns
unfolding code_parts
returns g c =
    let i = c.header.inside in
    let strategy = sym c.bit-strategy.ensures in
    let w0 = wrote_none c.args.writer.now in
    let w1 = wrote_more {last = unsigned 15 0x7FFC} w0 c.in_ok-put.ensures in
    let w2 = wrote_more {last = unsigned 1 c.bit-strategy.result} w1 c.in_ok-put-2.ensures in
    let w3 = wrote_more {last = unsigned 4 i.size_code} w2 c.in_ok-put-3.ensures in
    let w4 = wrote_more {last = unsigned 4 i.rate_code} w3 c.in_ok-put-4.ensures in
    let w5 = wrote_more {last = unsigned 4 i.channel_code} w4 c.in_ok-put-5.ensures in
    let w6 = wrote_more {last = unsigned 3 i.depth_code} w5 c.in_ok-put-6.ensures in
    rw (← c.header.view_is, strategy) (wrote_last (unsigned 1 0) c.put-7.new.self c.put-7.result w6 c.put-7.ensures)
