use Rattle.std.proofs.Common.{rules, ◌≡◌, ◌+◌, ◌<◌, ◌≤◌, ℕ, length, refl, false, ◌++◌, Ok, Err, sym, ap, ◌∙◌, arith}
use Rattle.flac_bits.specs.Bits.{bits_of, unsigned}
use Rattle.flac_bits.specs.Store.{Store, Fence, allowed, most_of}
use Rattle.flac_bits.specs.inner.Store.{Takes}
use Rattle.flac_bits.specs.State.{State}
use Rattle.flac_bits.specs.Layout.{because}
use Rattle.flac_bits.specs.declared.why.Why.{Why}
use Rattle.flac_bits.specs.Reasons.{of_output}
use Rattle.flac_bits.specs.declared.why.Why.TheVariants.{Read, Memory}
use Rattle.flac_bits.proofs.Counting.{is_device, refused_then}
use Rattle.flac_bits.proofs.Pulled.{state, pulled_counts, cut_counts}
use Rattle.flac_bits.proofs.Fields.{bit_read, bit_none, taken_spends}
use Rattle.flac_bits.proofs.Words.{length-unsigned}
use Rattle.flac_bits.proofs.Standing.{short_is, no_bytes, same_reason}
use Rattle.flac_bits.proofs.reader.BitReader.bit.Goals as goal

no_device : (e : Why) → (e ≡ Read → ⊥) → of_output e ≡ false → is_device e ≡ false
no_device Read other none = absurd (other refl)
no_device e other none = none

read_no_memory : (e : Why) → e ≡ Read → e ≡ Memory → ⊥
read_no_memory e is q = cc

none_held : (n m : ℕ) → n ≡ m → n ≡ 0 → m < 1
none_held n m is none = omega (arith, is, none)

spent : (v : ℕ) (old new : Store) → Takes (unsigned 1 v) old new → most_of old ≡ 1 + most_of new
spent v old new takes = omega (arith, taken_spends (unsigned 1 v) old new takes, length-unsigned 1 v, ap (λ (f : Fence). length f.hidden) takes.3)

one_less : (old here mid last : ℕ) → old ≡ here → old ≤ mid → mid ≡ 1 + last → here ≤ last + 1
one_less old here mid last is le spent = omega (arith, is, le, spent)

pub returns-in-Err : goal.returns-in-Err
returns-in-Err g c = record {
  reading = record {
    spends = tt;
    counts = cut_counts g.R.Source c.self.inside.held c.fill.new.held c.self.inside.source c.fill.new.source c.in-Err.why c.args.self.now c.self.view_is c.in-Err.ensures.pulls;
    memory = read_no_memory _ c.in-Err.ensures.pulls.read;
    reads = (λ known same.
        let known_is = ap (λ (s : State). s.known) c.self.view_is in
        let errors_is = ap (λ (s : State). s.errors) c.self.view_is in
        let pulls = c.in-Err.ensures.pulls in
        let ends = pulls.ended (known_is ∙ known) (same ∙ sym errors_is) in
        bit_none c.args.self.now.cursor _ c.self.inside.held (bits_of (allowed c.self.inside.held.fence.room (g.R.Source.coming c.self.inside.source))) (ap (λ (s : State). s.cursor) c.self.view_is) ends.left
        ∙ ap (λ w. Err (because w)) (ends.reason ∙ sym pulls.read));
  };
  needed = λ _. none_held _ _ (ap (λ (s : State). s.held) c.self.view_is) c.in-Err.ensures.pulls.none;
}

pub returns-in-Ok-false : goal.returns-in-Ok-false
returns-in-Ok-false g c = record {
  reading = record {
    spends = tt;
    counts = refused_then c.args.self.now (state g.R.Source c.fill.new.source c.fill.new.held) (pulled_counts g.R.Source c.self.inside.held c.fill.new.held c.fill.new.held c.self.inside.source c.fill.new.source c.in-Ok-false.field-0 c.args.self.now c.self.view_is c.in-Ok-false.ensures.pulls refl) (no_device c.short.result c.short.ensures.device.0 c.short.ensures.device.1);
    memory = c.short.ensures.memory;
    reads = (λ known same.
        let told = ap (λ (s : State). s.known) c.self.view_is ∙ known in
        let ys = g.R.Source.coming c.fill.new.source in
        let room = c.fill.new.held.fence.room in
        let pulls = c.in-Ok-false.ensures.pulls in
        let bits = pulls.moved.same told in
        let over = pulls.over (ap Ok c.in-Ok-false.field-0-test) told in
        let reason = same_reason c.self.inside.held c.fill.new.held (g.R.Source.coming c.self.inside.source) ys _ _ bits (pulls.foretold told pulls.moved.errors) in
        let none = no_bytes (allowed room ys) (c.fill.new.held.word ++ bits_of c.fill.new.held.bytes) (bits.left ∙ over.0) in
        let short = short_is room ys (g.R.Source.after c.fill.new.source) c.short.result c.short.ensures.fence c.short.ensures.over none (λ e. over.1 (sym reason ∙ e)) in
        bit_none c.args.self.now.cursor _ c.self.inside.held (bits_of (allowed c.self.inside.held.fence.room (g.R.Source.coming c.self.inside.source))) (ap (λ (s : State). s.cursor) c.self.view_is) over.0
        ∙ ap (λ w. Err (because w)) (sym (short ∙ reason)));
  };
  needed = λ e. absurd (c.short.ensures.device.0 e);
}

pub returns-in-Ok-true : goal.returns-in-Ok-true
returns-in-Ok-true g c = record {
  reading = record {
    spends = search rules;
    counts = pulled_counts g.R.Source c.self.inside.held c.fill.new.held c.take.new.self c.self.inside.source c.fill.new.source c.in-Ok-true.field-0 c.args.self.now c.self.view_is c.in-Ok-true.ensures.pulls c.take.ensures.0.3;
    memory = tt;
    reads = (λ known same.
        let told = ap (λ (s : State). s.known) c.self.view_is ∙ known in
        let xs = g.R.Source.coming c.self.inside.source in
        let ys = g.R.Source.coming c.fill.new.source in
        let pulls = c.in-Ok-true.ensures.pulls in
        let bits = pulls.moved.same told in
        let reason = same_reason c.self.inside.held c.fill.new.held xs ys _ _ bits (pulls.foretold told pulls.moved.errors) in
        let takes = c.take.ensures.0 in
        rw takes.3 (bit_read c.take.result c.args.self.now.cursor _ _ c.self.inside.held c.fill.new.held c.take.new.self (bits_of (allowed c.fill.new.held.fence.room ys)) (bits_of (allowed c.self.inside.held.fence.room xs))
        reason c.take.ensures.1 (ap (λ (s : State). s.cursor) c.self.view_is) pulls.mark bits.left takes));
  };
  needed = one_less _ _ _ _ (ap (λ (s : State). s.held) c.self.view_is) c.in-Ok-true.ensures.pulls.moved.held (spent c.take.result c.fill.new.held c.take.new.self c.take.ensures.0);
}
