use Rattle.std.proofs.Common.{ℕ, List, ap, subst, sym, ◌∙◌, arith}
use Rattle.flac_bits.specs.State.{State}
use Rattle.flac_c.specs.Starts.{IsHead}
use Rattle.flac_c.specs.inner.Blocks.{FoundOf}
use Rattle.flac_native.proofs.FramesRead.{at_bytes}
use Rattle.flac_c.proofs.HeadBytes.{head_is, refused_is}
use Rattle.flac_c.proofs.starting.read_front.Goals as goal

pub returns-in-Ok-clause-read : goal.returns-in-Ok-clause-read
returns-in-Ok-clause-read c = λ profile.
    let is = c.new-bits.ensures ∙ ap (λ (l : List ℕ). at_bytes l) c.new.ensures in
    let h = head_is profile c.args.bytes.now c.new-bits.result c.read_parts-outcome.new.bits (FoundOf profile c.args.found.now.sample c.read_parts-outcome.new.found) (omega arith) is (c.in-Ok.ensures.read profile) in
    (h.0, subst (λ (n : ℕ). IsHead profile c.args.bytes.now n h.0) (sym c.bytes_taken-taken.ensures) h.1, h.2)

pub returns-in-Err-clause-refused : goal.returns-in-Err-clause-refused
returns-in-Err-clause-refused c = λ profile.
    let is = c.new-bits.ensures ∙ ap (λ (l : List ℕ). at_bytes l) c.new.ensures in
    let quiet = sym c.into_source-source.ensures.errors ∙ sym (ap (λ (s : State). s.errors) is) in
    refused_is profile c.args.bytes.now c.new-bits.result c.in-Err.fault is (c.in-Err.ensures.refused profile quiet)
