use Rattle.std.proofs.Common.{arith, ◌≡◌, ◌∙◌, ◌+◌, ◌-◌, ◌^◌, ◌≤◌, ◌<◌, ℕ, IsTrue, nat_lt, min, inl, inr, refl}
use Rattle.flac_subframe.specs.search.inner.Halves.{part, entry, LeastBelow}
use Rattle.flac_subframe.proofs.lemmas.search.Splits.{least_more, part_small}
use Rattle.std.proofs.lemmas.Bool.{cases_lt}
use Rattle.std.proofs.lemmas.Bool.Decides.{nat_tests}
use Rattle.flac_subframe.proofs.lemmas.search.Walks.{settled, kept_by, settled_above}
use Rattle.flac_subframe.proofs.search.halves.compare.Goals as goal

few_values : (n order : ℕ) → n + order ≤ 65535 → n ≤ 65535
few_values n order few = omega arith

sure : (a b : ℕ) → IsTrue (nat_lt a b) → a < b
sure a b h = grind (arith, nat_tests, h)

tested : (a b : ℕ) → a < b → IsTrue (nat_lt a b)
tested a b h = grind (arith, nat_tests, h)

-- a parameter k of those from f to m, of which none is above w
module _ (k f e m w : ℕ) (is : e ≡ min m (w + 1)) where
  below_31 : k < e → m ≤ 31 → k < 31
  below_31 h most = omega arith

  below_most : k < e → k < m
  below_most h = omega arith

  few_first : f ≤ k → k < e → k - f + 1 ≤ m - f
  few_first from h = omega arith

  narrow_first : f ≤ k → k < e → k - f + 1 ≤ w + 1 - f
  narrow_first from h = omega arith

  few_all : e - f ≤ m - f
  few_all = omega arith

  narrow_all : e - f ≤ w + 1 - f
  narrow_all = omega arith

  within_all : (IsTrue (nat_lt e m) → ⊥) → m ≤ w + 1
  within_all f = elim (cases_lt (w + 1) m) [ inl more ↦ absurd (f (tested e m (omega (arith, more)))) | inr less ↦ less ]

  at_end : f ≤ m → f ≤ w + 1 → (f ≤ e → k ≤ e) → e ≤ k → k ≡ e
  at_end h g le over = let from : f ≤ e = omega arith in omega (arith, le from)

  at_width : k ≡ e → w + 1 < m → k ≡ w + 1
  at_width at more = omega arith

  at_most : k ≡ e → m ≤ w + 1 → k ≡ m
  at_most at less = omega arith

past_width : (e m w : ℕ) → e ≡ min m (w + 1) → e < m → w + 1 < m
past_width e m w is h = omega arith

le : (n : ℕ) → n ≤ n
le n = omega arith

past : (k w : ℕ) → k ≡ w + 1 → w < k
past k w at = omega arith

under : (k w m : ℕ) → k ≡ w + 1 → w + 1 < m → k < m
under k w m at more = omega arith

under_31 : (k w m : ℕ) → k ≡ w + 1 → w + 1 < m → m ≤ 31 → k < 31
under_31 k w m at more most = omega arith

pub loop-parameter-init : goal.loop-parameter-init
loop-parameter-init c = record { entries = c.requires.start }

pub price-requires : goal.price-requires
price-requires c = record {
  bounded = c.requires.bounded;
  parameter = below_31 c.loop-parameter.parameter 0 c.min-end.result c.args.parameters c.args.width c.min-end.ensures c.loop-parameter-test.true c.requires.parameters;
  places = c.loop-parameter.auto.sums ∙ c.requires.sums;
}

pub pass-requires : goal.pass-requires
pass-requires c = record {
  parameter = below_31 c.loop-parameter.parameter 0 c.min-end.result c.args.parameters c.args.width c.min-end.ensures c.loop-parameter-test.true c.requires.parameters;
  sums = c.price.auto.sums ∙ c.loop-parameter.auto.sums ∙ c.requires.sums;
  costs = c.price.ensures.costs;
  table = rw c.loop-parameter.auto.table c.requires.table;
}

pub loop-parameter-preserved : goal.loop-parameter-preserved
loop-parameter-preserved c =
    let k = c.loop-parameter.parameter in let r = c.args.residual.now in
    let small = below_31 k 0 c.min-end.result c.args.parameters c.args.width c.min-end.ensures c.loop-parameter-test.true c.requires.parameters in
    record {
      entries = λ p j h b.
          rw (c.pass.ensures.entries c.if-not-pass.false p j h b) (least_more k (part r.order r.values.now p j) _ (part_small r.order k r.values.now p j small (few_values _ _ r.few) r.range) (c.loop-parameter.invariant.entries p j h b));
    }

pub returns-then-not-pass : goal.returns-then-not-pass
returns-then-not-pass c =
    let k : ℕ = c.loop-parameter.parameter in let r = c.args.residual.now in let h = r.partition_order in
    let so = c.loop-parameter.invariant.entries in
    let e = c.min-end.result in let m = c.args.parameters in let w = c.args.width in let is = c.min-end.ensures in
    let small = below_31 k 0 e m w is c.loop-parameter-test.true c.requires.parameters in
    let few = few_values _ _ r.few in
    let leaves : (i : ℕ) → i < 2 ^ h → LeastBelow k (part r.order r.values.now h i) (entry c.loop-parameter.table h i) = λ i d. so h i (le h) d in
    let same = c.if-not-pass.ensures.same refl in
    let none = c.if-not-pass.ensures.none refl in
    record {
      entries = λ p j l b.
          rw same (settled r.order h k r.values.now r.halves few small r.range c.loop-parameter.table none leaves p j _ m l b (below_most k 0 e m w is c.loop-parameter-test.true)
          (kept_by r.order h k r.values.now r.halves few small r.range c.loop-parameter.table none leaves p j l b (so p j l b)));
      settled = λ yes p j l b.
          rw same (settled r.order h k r.values.now r.halves few small r.range c.loop-parameter.table none leaves p j _ 31 l b small
          (kept_by r.order h k r.values.now r.halves few small r.range c.loop-parameter.table none leaves p j l b (so p j l b)));
      long = c.pass.ensures.kept ∙ c.loop-parameter.auto.table;
      within_width = λ f. absurd (f refl);
      few = few_first k c.args.from e m w is c.loop-parameter.auto.parameter c.loop-parameter-test.true;
      narrow = narrow_first k c.args.from e m w is c.loop-parameter.auto.parameter c.loop-parameter-test.true;
    }

pub returns : goal.returns
returns c =
    let r = c.args.residual.now in let k : ℕ = c.loop-parameter.parameter in let so = c.loop-parameter.invariant.entries in
    let e = c.min-end.result in let m = c.args.parameters in let w = c.args.width in let is = c.min-end.ensures in
    let at = at_end k c.args.from e m w is c.requires.from c.requires.within c.loop-parameter.auto.parameter-end c.loop-parameter-test.false in
    let few = few_values _ _ r.few in
    record {
      entries = λ p j h b. elim (cases_lt (w + 1) m) [
        | inl more ↦
            let here = at_width k 0 e m w is at more in
            settled_above r.order r.partition_order w k m r.values.now r.folds.now r.halves few (under_31 k w m here more c.requires.parameters) r.range r.unsigned c.requires.bounded (past k w here) (under k w m here more) c.loop-parameter.table so p j h b
        | inr less ↦ rw (at_most k 0 e m w is at less) at (so p j h b)
      ];
      settled = λ yes p j h b.
          let more = past_width e m w is (sure e m yes) in
          let here = at_width k 0 e m w is at more in
          settled_above r.order r.partition_order w k 31 r.values.now r.folds.now r.halves few (under_31 k w m here more c.requires.parameters) r.range r.unsigned c.requires.bounded (past k w here) (under_31 k w m here more c.requires.parameters) c.loop-parameter.table so p j h b;
      long = c.loop-parameter.auto.table;
      within_width = within_all 0 0 e m w is;
      few = few_all 0 c.args.from e m w is;
      narrow = narrow_all 0 c.args.from e m w is;
    }
