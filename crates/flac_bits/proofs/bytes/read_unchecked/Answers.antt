use Rattle.std.proofs.Common.{refl, ◌≡◌, ◌+◌, ◌*◌, ◌<◌, ◌≤◌, ℕ, false, List, length, take, get_or, Fits, w8, subst, sym, ◌∙◌, arith}
use Rattle.std.proofs.lemmas.List.{take_all, length-take}
use Rattle.std.proofs.lemmas.Result.{err_from_is_err_and}
use Rattle.std.proofs.Math.Facts.{Fits-lt-pow}
use Rattle.flac_bits.specs.Bits.{bits_of}
use Rattle.flac_bits.specs.Unchecked.{Passes}
use Rattle.flac_bits.specs.declared.why.Why.{Why}
use Rattle.flac_bits.specs.Reasons.{of_output}
use Rattle.flac_bits.specs.declared.why.Why.TheVariants.{Read, Memory}
use Rattle.flac_bits.proofs.Counting.{is_device, refused_then}
use Rattle.flac_bits.proofs.Unchecked.{exact_anew, missing_anew, cut_anew}
use Rattle.flac_bits.proofs.bytes.read_unchecked.Goals as goal

no_device : (e : Why) → (e ≡ Read → ⊥) → of_output e ≡ false → is_device e ≡ false
no_device Read other none = absurd (other refl)
no_device e other none = none

read_no_memory : (e : Why) → e ≡ Read → e ≡ Memory → ⊥
read_no_memory e is q = cc

all_spent : (n long long' new old : ℕ) → long' ≤ n → long' ≡ long → new + 8 * n ≤ old → new + 8 * long ≤ old
all_spent n long long' new old le is spent = omega (arith, le, is, spent)

all_held : (n long long' new old : ℕ) → long' ≡ long → n ≤ long' → old ≤ new + 8 * n → old ≤ new + 8 * long
all_held n long long' new old is le held = omega (arith, le, is, held)

few_held : (long long' old : ℕ) → long' ≡ long → old < 8 * long' → old < 8 * long
few_held long long' old is few = omega (arith, is, few)

pub returns-then-count-out : goal.returns-then-count-out
returns-then-count-out g c = record {
  reading = record {
    spends = tt;
    counts = refused_then c.args.bits.now c.take_pieces.new.self c.in_ok-count.ensures.counts (no_device c.short.result c.short.ensures.device.0 c.short.ensures.device.1);
    memory = c.short.ensures.memory;
    reads = (λ known same.
        let got = c.in_ok-count.ensures in
        let n = c.in_ok-count.count in
        let lt = c.if-count-out.true in
        let over = got.over (omega (arith, lt, c.take_pieces.auto.out)) known in
        missing_anew (take n c.take_pieces.new.out) (length c.args.out.now) c.short.result c.args.bits.now.cursor c.take_pieces.new.self.cursor (omega (arith, lt, length-take {A = ℕ} n c.take_pieces.new.out, c.take_pieces.auto.out))
        over.0 (c.short.ensures.short (got.counts.0 known) over.0 over.1) (got.taken known));
  };
  needed = λ e. absurd (c.short.ensures.device.0 e);
}

pub returns-else-count-out : goal.returns-else-count-out
returns-else-count-out g c = record {
  reading = record {
    spends = all_spent c.in_ok-count.count _ _ _ _ c.if-count-out.false c.take_pieces.auto.out c.in_ok-count.ensures.spends;
    counts = c.in_ok-count.ensures.counts;
    memory = tt;
    reads = (λ known same.
        let got = c.in_ok-count.ensures in
        let xs = c.take_pieces.new.out in
        let all : take c.in_ok-count.count xs ≡ xs = take_all c.in_ok-count.count xs (omega (arith, c.if-count-out.false, c.take_pieces.auto.out)) in
        exact_anew xs (length c.args.out.now) c.args.bits.now.cursor c.take_pieces.new.self.cursor c.take_pieces.auto.out (λ k lt. let f : Fits w8 (get_or xs k 0) = c.type_inv.out k in Fits-lt-pow f) (let P : List ℕ → Type 0 = λ ys. Passes (bits_of ys) c.args.bits.now.cursor c.take_pieces.new.self.cursor in subst P all (got.taken known)));
  };
  needed = all_held c.in_ok-count.count _ _ _ _ c.take_pieces.auto.out c.in_ok-count.ensures.bound c.in_ok-count.ensures.needed;
}

pub returns-in_err-count : goal.returns-in_err-count
returns-in_err-count g c =
    let p = err_from_is_err_and c.from_residual-in_err-count.result c.from_residual-in_err-count.ensures.1 in
    let cut = c.in_err-count.ensures.cut in
    rw (p.1, p.2) (record {
      reading = record {
        spends = tt;
        counts = c.in_err-count.ensures.counts;
        memory = read_no_memory _ cut.0;
        reads = (λ known same.
            let few = cut.1 known same in
            cut_anew (length c.args.out.now) _ c.args.bits.now.cursor (omega (arith, few.0, c.take_pieces.auto.out)) (cut.0 ∙ sym few.1));
      };
      needed = λ _. few_held _ _ _ c.take_pieces.auto.out c.in_err-count.ensures.needed;
    })
