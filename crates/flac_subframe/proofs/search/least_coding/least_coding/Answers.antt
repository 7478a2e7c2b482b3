use Rattle.std.proofs.Common.{arith, ◌≡◌, Bool, false, IsTrue, ℕ, ◌*◌, ◌^◌, ◌≤◌, ◌<◌}
use Rattle.std.proofs.lemmas.Nat.{pow_pos}
use Rattle.flac_subframe.specs.declared.format.coding_method.CodingMethod.{CodingMethod}
use Rattle.flac_subframe.specs.declared.format.coding_method.CodingMethod.TheVariants.{FourBits, FiveBits}
use Rattle.flac_subframe.proofs.lemmas.search.Bounded.{whole_bounded}
use Rattle.flac_subframe.proofs.lemmas.search.Settled.{first_alone, first_least, second_least}
use Rattle.flac_subframe.proofs.lemmas.search.Splits.{halves_at}
use Rattle.flac_subframe.proofs.search.least_coding.least_coding.Goals as goal

still_open : (b : Bool) → b ≡ false → IsTrue b → ⊥
still_open b f t = cc

not_both : (m : CodingMethod) → m ≡ FiveBits → m ≡ FourBits → ⊥
not_both m e f = cc

before : (a b : ℕ) → a < b → a ≤ b
before a b h = omega arith

zero_le : (n : ℕ) → 0 ≤ n
zero_le n = omega arith

one_part : 0 < 2 ^ 0
one_part = omega arith

has_first : (p n : ℕ) → 2 * 2 ^ p ≤ n → 1 < n
has_first p n room = omega (arith, room, pow_pos p)

pub bounds-widths-1 : goal.bounds-widths-1
bounds-widths-1 c = has_first c.args.residual.now.partition_order _ c.requires.places

pub tabulate-tried-requires : goal.tabulate-tried-requires
tabulate-tried-requires c =
    let r = c.args.residual.now in let high = r.partition_order in
    let first = c.requires.widths 0 0 (zero_le 0) (zero_le high) one_part in
    record {
      bounded = whole_bounded r.order r.values.now r.folds.now _ (halves_at r.order r.values.now high 0 (zero_le high) r.halves) r.unsigned first.0;
      small_width = first.1;
      leaves = c.requires.leaves;
      known = c.requires.known;
      sums = c.requires.sums;
      four = c.requires.four;
      five = c.requires.five;
    }

pub best_order-first-requires : goal.best_order-first-requires
best_order-first-requires c = record {
  table = rw c.tabulate-tried.auto.four c.requires.four;
  entries = c.tabulate-tried.ensures.entries;
  widths = c.requires.widths;
  places = c.requires.places;
}

pub best_order-second-requires : goal.best_order-second-requires
best_order-second-requires c = record {
  table = rw c.tabulate-tried.auto.five c.requires.five;
  entries = c.tabulate-tried.ensures.more (λ t. still_open _ c.if-tried.false t);
  widths = c.requires.widths;
  places = c.requires.places;
}

pub returns-then-tried : goal.returns-then-tried
returns-then-tried c =
    let so = c.tabulate-tried.ensures in
    let best = c.best_order-first.ensures in
    record {
      within = best.within;
      least = first_alone c.args.residual.now.order c.args.residual.now.partition_order c.args.residual.now.values.now (λ p j le b. (_, so.entries p j le b, so.same c.if-tried.true p j le b)) c.best_order-first.result.bits best.least;
      here = rw best.method best.here;
      small = best.small;
      entries = so.entries;
      few = so.few;
      narrow = so.narrow;
      more = λ other. absurd (not_both _ other best.method);
    }

pub returns-then-second-first : goal.returns-then-second-first
returns-then-second-first c =
    let so = c.tabulate-tried.ensures in
    let best = c.best_order-second.ensures in
    record {
      within = best.within;
      least = second_least c.args.residual.now.order c.args.residual.now.partition_order c.args.residual.now.values.now _ _ c.best_order-first.ensures.least best.least (before _ _ c.if-second-first.true);
      here = rw best.method best.here;
      small = best.small;
      entries = so.entries;
      few = so.few;
      narrow = so.narrow;
      more = λ _. so.more (λ t. still_open _ c.if-tried.false t);
    }

pub returns-else-second-first : goal.returns-else-second-first
returns-else-second-first c =
    let so = c.tabulate-tried.ensures in
    let best = c.best_order-first.ensures in
    record {
      within = best.within;
      least = first_least c.args.residual.now.order c.args.residual.now.partition_order c.args.residual.now.values.now _ _ best.least c.best_order-second.ensures.least c.if-second-first.false;
      here = rw best.method best.here;
      small = best.small;
      entries = so.entries;
      few = so.few;
      narrow = so.narrow;
      more = λ other. absurd (not_both _ other best.method);
    }
