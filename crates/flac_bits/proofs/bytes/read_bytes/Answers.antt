use Rattle.std.proofs.Common.{refl, ◌≡◌, ◌+◌, ◌*◌, ◌<◌, ◌≤◌, ℕ, false, List, length, take, get_or, Fits, w8, Err, subst, sym, ap, ◌∙◌, arith}
use Rattle.std.proofs.lemmas.List.{take_all, length-take}
use Rattle.std.proofs.Math.Facts.{Fits-lt-pow}
use Rattle.flac_bits.specs.Bits.{bits_of}
use Rattle.flac_bits.specs.State.{Consumes}
use Rattle.flac_bits.specs.Layout.{because}
use Rattle.flac_bits.specs.declared.why.Why.{Why}
use Rattle.flac_bits.specs.Reasons.{of_output}
use Rattle.flac_bits.specs.declared.why.Why.TheVariants.{Read, Memory}
use Rattle.flac_bits.proofs.Counting.{is_device, refused_then}
use Rattle.flac_bits.proofs.Copied.{exact, missing, bits_cut}
use Rattle.flac_bits.proofs.bytes.read_bytes.Goals as goal

no_device : (e : Why) → (e ≡ Read → ⊥) → of_output e ≡ false → is_device e ≡ false
no_device Read other none = absurd (other refl)
no_device e other none = none

read_no_memory : (e : Why) → e ≡ Read → e ≡ Memory → ⊥
read_no_memory e is q = cc

all_spent : (n long long' new old : ℕ) → long' ≤ n → long' ≡ long → new + 8 * n ≤ old → new + 8 * long ≤ old
all_spent n long long' new old le is spent = omega (arith, le, is, spent)

all_held : (n long long' new old : ℕ) → long' ≡ long → n ≤ long' → old ≤ new + 8 * n → old ≤ new + 8 * long
all_held n long long' new old is le held = omega (arith, le, is, held)

few_held : (long long' old : ℕ) → long' ≡ long → old < 8 * long' → old < 8 * long
few_held long long' old is few = omega (arith, is, few)

pub returns-then-n-out : goal.returns-then-n-out
returns-then-n-out g c = record {
  reading = record {
    spends = tt;
    counts = refused_then c.args.bits.now c.take_bytes.new.self c.in-Ok.ensures.counts (no_device c.short.result c.short.ensures.device.0 c.short.ensures.device.1);
    memory = c.short.ensures.memory;
    reads = (λ known same.
        let got = c.in-Ok.ensures in
        let n = c.in-Ok.n in
        let lt = c.if-n-out.true in
        let over = got.over (omega (arith, lt, c.take_bytes.auto.out)) known in
        missing (take n c.take_bytes.new.out) (length c.args.out.now) c.short.result c.args.bits.now.cursor c.take_bytes.new.self.cursor (omega (arith, lt, length-take {A = ℕ} n c.take_bytes.new.out, c.take_bytes.auto.out))
        over.0 (c.short.ensures.short (got.counts.0 known) over.0 over.1) (got.taken known));
  };
  needed = λ e. absurd (c.short.ensures.device.0 e);
}

pub returns-else-n-out : goal.returns-else-n-out
returns-else-n-out g c = record {
  reading = record {
    spends = all_spent c.in-Ok.n _ _ _ _ c.if-n-out.false c.take_bytes.auto.out c.in-Ok.ensures.spends;
    counts = c.in-Ok.ensures.counts;
    memory = tt;
    reads = (λ known same.
        let got = c.in-Ok.ensures in
        let xs = c.take_bytes.new.out in
        let all : take c.in-Ok.n xs ≡ xs = take_all c.in-Ok.n xs (omega (arith, c.if-n-out.false, c.take_bytes.auto.out)) in
        exact xs (length c.args.out.now) c.args.bits.now.cursor c.take_bytes.new.self.cursor c.take_bytes.auto.out (λ k lt. let f : Fits w8 (get_or xs k 0) = c.type_inv.out k in Fits-lt-pow f) (let P : List ℕ → Type 0 = λ ys. Consumes (bits_of ys) c.args.bits.now.cursor c.take_bytes.new.self.cursor in subst P all (got.taken known)));
  };
  needed = all_held c.in-Ok.n _ _ _ _ c.take_bytes.auto.out c.in-Ok.ensures.bound c.in-Ok.ensures.needed;
}

pub returns-in-Err : goal.returns-in-Err
returns-in-Err g c = record {
  reading = record {
    spends = tt;
    counts = c.in-Err.ensures.counts;
    memory = read_no_memory _ c.in-Err.ensures.cut.0;
    reads = (λ known same.
        let cut = c.in-Err.ensures.cut in
        let few = cut.1 known same in
        bits_cut (length c.args.out.now) c.args.bits.now.cursor.left c.args.bits.now.cursor.mark (omega (arith, few.0, c.take_bytes.auto.out)) ∙ ap (λ (w : Why). Err (because w)) (few.1 ∙ sym cut.0));
  };
  needed = λ _. few_held _ _ _ c.take_bytes.auto.out c.in-Err.ensures.needed;
}
