use Rattle.std.proofs.Common.{◌≡◌, ◌<◌, ◌^◌, ◌++◌, ℕ, List, [], length, take, drop, ap, sym, ◌∙◌, arith}
use Rattle.std.proofs.lemmas.List.{take-append-drop}
use Rattle.flac_bits.specs.Bits.{bits_of}
use Rattle.flac_bits.specs.State.{State}
use Rattle.flac_bits.specs.declared.why.Why.TheVariants.{Truncated}
use Rattle.flac_bits.proofs.Holding.{length-bits_of, bits_of-append}
use Rattle.flac_native.specs.Decoding.{beginning}
use Rattle.flac_native.specs.Stream.{opening}
use Rattle.flac_c.specs.inner.Described.{ListOf}
use Rattle.flac_native.proofs.FramesRead.{at_bytes}
use Rattle.flac_c.proofs.HeadBytes.{head_is, refused_is}
use Rattle.flac_c.proofs.Places.{pictures_there}
use Rattle.flac_c.proofs.blocks.list_blocks.Goals as goal

pub list_parts-outcome-requires-clause-short : goal.list_parts-outcome-requires-clause-short
list_parts-outcome-requires-clause-short c =
    let is = c.new-bits.ensures ∙ ap (λ (l : List ℕ). at_bytes l) c.new.ensures in
    let few : length c.args.bytes.now < 2 ^ 64 = omega arith in
    omega (arith, few, ap (λ (s : State). length s.cursor.left) is, length-bits_of c.args.bytes.now)

pub returns-in-Ok-clause-read : goal.returns-in-Ok-clause-read
returns-in-Ok-clause-read c = λ profile.
    let bytes : List ℕ = c.args.bytes.now in
    let is = c.new-bits.ensures ∙ ap (λ (l : List ℕ). at_bytes l) c.new.ensures in
    let h = head_is profile bytes c.new-bits.result c.list_parts-outcome.new.bits (ListOf c.list_parts-outcome.new.list.items) (omega arith) is (c.in-Ok.ensures.read profile) in
    let n : ℕ = c.list_parts-outcome.new.bits.cursor.mark.bytes in
    let split : bits_of bytes ≡ [] ++ (bits_of (take n bytes) ++ bits_of (drop n bytes)) = ap (λ (l : List ℕ). bits_of l) (sym (take-append-drop n bytes)) ∙ bits_of-append (take n bytes) (drop n bytes) in
    record {
      parts = h.0;
      n = n;
      head = h.1;
      are = h.2;
      pictures = pictures_there bytes (opening profile) (beginning Truncated) h.0 [] (bits_of (take n bytes)) (bits_of (drop n bytes)) 0 split (omega arith) h.1.metadata h.1.spelled;
    }

pub returns-in-Err-clause-refused : goal.returns-in-Err-clause-refused
returns-in-Err-clause-refused c = λ profile.
    let is = c.new-bits.ensures ∙ ap (λ (l : List ℕ). at_bytes l) c.new.ensures in
    let quiet = sym c.into_source-source.ensures.errors ∙ sym (ap (λ (s : State). s.errors) is) in
    refused_is profile c.args.bytes.now c.new-bits.result c.in-Err.fault is (c.in-Err.ensures.refused profile quiet)
