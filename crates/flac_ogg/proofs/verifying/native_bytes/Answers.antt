use Rattle.std.proofs.Common.{◌≡◌, ℕ, true, List, [], nat_lt, Vec, Global, sym, ap, subst}
use Rattle.flac_bits.specs.Bits.{bits_of}
use Rattle.flac_bits.specs.Forms.{AreBytes}
use Rattle.flac_native.specs.Writing.{Encodes}
use Rattle.flac_ogg.proofs.RoundTrips.{native_bytes}
use Rattle.flac_ogg.proofs.verifying.native_bytes.Goals as goal

pub returns-in-Ok-clause-encoded : goal.returns-in-Ok-clause-encoded
returns-in-Ok-clause-encoded c =
    let p = c.args.plan.now in
    let list = c.args.list.now in
    let a = c.args.audio.now in
    let known : nat_lt c.new-target.result.errors 18446744073709551615 ≡ true = ap (λ e. nat_lt e 18446744073709551615) c.new-target.ensures.errors in
    let written : Encodes p list a (bits_of c.new-target.result.bytes.items) (bits_of c.encode.new.target.bytes.items) = c.in-Ok.ensures.written known in
    let alone : Encodes p list a [] (bits_of c.encode.new.target.bytes.items) = subst (λ (k : List ℕ). Encodes p list a (bits_of k) (bits_of c.encode.new.target.bytes.items)) c.new-target.ensures.sent written in
    let kept : Encodes p list a [] (bits_of c.into_bytes-bytes.result.items) = subst (λ (v : Vec ℕ Global). Encodes p list a [] (bits_of v.items)) (sym c.into_bytes-bytes.ensures) alone in
    native_bytes p list a c.into_bytes-bytes.result.items (subst AreBytes c.as_slice.ensures.value c.bytes_fit.ensures) kept
