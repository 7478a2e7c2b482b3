use Rattle.std.proofs.Common.{arith, ◌≡◌, ◌+◌, ◌-◌, ◌*◌, ◌^◌, ◌≤◌, ◌<◌, refl, sym, ℕ, ℤ, List, length}
use Rattle.std.proofs.lemmas.Nat.{pow_pos}
use Rattle.flac_subframe.specs.format.Bodies.{fixed, order_of, fields_cost}
use Rattle.flac_subframe.specs.search.inner.Chosen.{way_of}
use Rattle.flac_subframe.specs.search.inner.Leaves.{left_by_fixed}
use Rattle.flac_subframe.proofs.lemmas.format.Narrow.{narrow_differences}
use Rattle.flac_subframe.proofs.lemmas.format.Predicted.{fixed_length}
use Rattle.flac_subframe.proofs.lemmas.search.Orders.{least_of_all, none_of_all}
use Rattle.flac_subframe.proofs.lemmas.search.Places.{fewer_places}
use Rattle.flac_subframe.proofs.lemmas.search.Searching.{too_dear, no_better, better}
use Rattle.flac_subframe.proofs.search.choice.improve_by_sixteens.Goals as goal

itself : (n : ℕ) → n ≤ n
itself n = omega arith

with_more : (n more : ℕ) → n ≤ n + more
with_more n more = omega arith

still_room : (n new old : ℕ) → new ≡ old → n ≤ old → n ≤ new
still_room n new old e h = rw e h

within_all : (a b n : ℕ) → a ≤ b → b ≤ n → a ≤ n
within_all a b n h g = omega arith

below_all : (best limit before : ℕ) → limit ≤ before → best ≤ limit → best ≤ before
below_all best limit before h g = omega arith

reaches : (best limit before : ℕ) → best ≤ limit → before < limit → best ≤ before + (limit - before)
reaches best limit before h g = omega arith

gains : (best limit before bits : ℕ) → bits < limit - before → limit ≤ best + 1 → before + bits ≤ best
gains best limit before bits h g = omega arith

less_order : (order n m p : ℕ) → order ≤ 4 → m ≡ n → m ≡ 16 * 2 ^ p → 0 < 2 ^ p → order < n
less_order order n m p few e is some = omega arith

before_is : (d o from : ℕ) → o ≤ 4 → from ≡ d → from * o ≡ d * order_of (fixed o) + fields_cost (fixed o)
before_is d o from few e = rw (fixed_length o few, e) (omega arith)

pub returns-then-limit-before : goal.returns-then-limit-before
returns-then-limit-before c = record {
  best = λ tried so.
      let view = c.args.subject.now in let hs = view.predictors.now in let f = c.args.fixed.now in let o = f.order in
      too_dear hs view.most view.bits view.samples.now tried (fixed o) o (c.from.result * o) (sym (fixed_length o f.few)) (before_is view.bits o c.from.result f.few c.from.ensures)
      (way_of c.args.best.now c.args.tables.now.codings.now) so (below_all c.args.best.now.bits c.limit-limit.result _ c.if-limit-before.true c.limit-limit.ensures.0);
  less = itself _;
  within = λ h. h;
  arrays = c.requires.arrays;
  tables = c.requires.tables;
  same = refl;
  priced = with_more _ _;
}

pub least_of_fixed-requires : goal.least_of_fixed-requires
least_of_fixed-requires c = record {
  values = rw c.requires.samples c.requires.arrays.values;
  folds = rw c.requires.samples c.requires.arrays.folds;
  tables = fewer_places c.args.fixed.now.partition_order c.args.subject.now.most c.args.tables.now c.requires.within c.requires.tables;
}

pub returns-in-Some : goal.returns-in-Some
returns-in-Some c =
    let view = c.args.subject.now in let f = c.args.fixed.now in let o = f.order in
    let new = c.in-Some.ensures in let found = c.least_of_fixed in
    record {
      best = λ tried so.
          let hs = view.predictors.now in let s = view.samples.now in let rs : List ℤ = left_by_fixed o s in
          let least = least_of_all o f.partition_order view.most rs c.requires.within c.requires.greatest _ (rw c.requires.samples at new.least) in
          let bits = rw c.requires.samples at new.bits in
          let room = less_order o (length s) (length f.samples.now) f.partition_order f.few (rw c.requires.samples refl) f.sixteens (pow_pos f.partition_order) in
          let range = narrow_differences o s f.few (rw c.requires.samples at f.fits) in
          better hs view.most view.bits s tried (fixed o) o (c.from.result * o) (sym (fixed_length o f.few)) (before_is view.bits o c.from.result f.few c.from.ensures)
          (way_of c.args.best.now c.args.tables.now.codings.now) so _ c.in-Some.residual.bits _ room range least bits new.small refl
          (gains c.args.best.now.bits c.limit-limit.result _ _ new.less c.limit-limit.ensures.1) f.few refl;
      less = gains c.args.best.now.bits c.limit-limit.result _ _ new.less c.limit-limit.ensures.1;
      within = λ h. within_all _ f.partition_order view.most new.within c.requires.within;
      arrays = record {
        wide = c.requires.arrays.wide;
        values = still_room _ _ _ found.auto.values c.requires.arrays.values;
        folds = still_room _ _ _ found.auto.folds c.requires.arrays.folds;
      };
      tables = found.ensures.places view.most c.requires.tables;
      same = found.ensures.same;
      priced = rw c.requires.samples at found.ensures.priced;
    }

pub returns-in_default : goal.returns-in_default
returns-in_default c =
    let view = c.args.subject.now in let f = c.args.fixed.now in let o = f.order in
    let new = c.in_default.ensures in let found = c.least_of_fixed in
    record {
      best = λ tried so.
          let hs = view.predictors.now in let s = view.samples.now in let rs : List ℤ = left_by_fixed o s in
          let none = none_of_all o f.partition_order view.most rs c.requires.within c.requires.greatest (c.limit-limit.result - c.from.result * o) (rw c.requires.samples at new.none) in
          rw new.kept (no_better hs view.most view.bits s tried (fixed o) o (c.from.result * o) (sym (fixed_length o f.few)) (before_is view.bits o c.from.result f.few c.from.ensures)
          (way_of c.args.best.now c.args.tables.now.codings.now) so (c.limit-limit.result - c.from.result * o) (reaches c.args.best.now.bits c.limit-limit.result _ c.limit-limit.ensures.0 c.if-limit-before.false) none);
      less = itself _;
      within = λ h. h;
      arrays = record {
        wide = c.requires.arrays.wide;
        values = still_room _ _ _ found.auto.values c.requires.arrays.values;
        folds = still_room _ _ _ found.auto.folds c.requires.arrays.folds;
      };
      tables = found.ensures.places view.most c.requires.tables;
      same = found.ensures.same;
      priced = rw c.requires.samples at found.ensures.priced;
    }
