use Rattle.std.proofs.Common.{ℕ, inl, inr, drop, refl, ap, subst, ◌∙◌, List}
use Rattle.flac_bits.specs.Reasons.{number_of}
use Rattle.flac_bits.specs.declared.why.Why.{Why}
use Rattle.flac_c.specs.Answers.{IsCopied}
use Rattle.flac_c.specs.declared.fault.FlacProvedFault.{FlacProvedFault}
use Rattle.flac_c.proofs.NativeInOgg.{native_items, native_refused}
use Rattle.flac_c.proofs.unpacking.flac_proved_native.Goals as goal

pub returns-in-Ok-clause-native : goal.returns-in-Ok-clause-native
returns-in-Ok-clause-native c = λ zero.
    let packed = c.packed_of.new.list.items in
    let from = c.bytes_from.ensures ∙ ap (λ (l : List ℕ). drop 9 l) c.as_slice.ensures.value in
    (packed, c.in-Ok.ensures.read, subst (λ (l : List ℕ). IsCopied l c.args.out.now c.copy.new.out c.copy.result) from c.copy.ensures)

pub returns-in-Ok-clause-streams : goal.returns-in-Ok-clause-streams
returns-in-Ok-clause-streams c = λ profile items o.
    let packed = c.packed_of.new.list.items in
    let from = c.bytes_from.ensures ∙ ap (λ (l : List ℕ). drop 9 l) c.as_slice.ensures.value in
    let copied = subst (λ (l : List ℕ). IsCopied l c.args.out.now c.copy.new.out c.copy.result) from c.copy.ensures in
    inr (refl, (drop 9 packed, native_items profile c.args.bytes.now items o packed c.in-Ok.ensures.read.0, copied))

pub returns-clause-streams : goal.returns-clause-streams
returns-clause-streams c = λ profile items o.
    inl (ap (λ (r : FlacProvedFault). r.number) c.in_c-in-Err.ensures.value ∙ ap (λ (w : Why). number_of w) (native_refused profile c.args.bytes.now items o c.in-Err.refusal c.in-Err.ensures.refused))
