use Rattle.std.proofs.Common.{◌++◌, refl, ap, ◌∙◌}
use Rattle.flac_bits.specs.Bits.{bits_of}
use Rattle.flac_bits.proofs.Holding.{bits_of-append}
use Rattle.flac_ogg.proofs.Headed.{more_headers}
use Rattle.flac_ogg.proofs.headers.Headers.push.Goals as goal

pub returns-clause-put : goal.returns-clause-put
returns-clause-put c = λ first texts h.
    let old = c.args.self.now in
    more_headers old (record { serial = old.serial; sent = c.extend_from_slice.new.self; held = c.in_ok-held.held }) c.args.packet.now c.bytes_fit.ensures refl
    (ap bits_of (c.in_ok-extend_from_slice.ensures.items ∙ ap (λ b. old.sent.items ++ b) c.as_slice.ensures.value) ∙ bits_of-append old.sent.items old.held.middle.items)
    c.in_ok-held.ensures.middle c.in_ok-held.ensures.last c.in_ok-held.ensures.next first texts h
