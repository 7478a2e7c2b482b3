use Rattle.std.proofs.Common.{arith, ◌≡◌, ◌∙◌, ◌+◌, ◌-◌, ◌*◌, ◌≤◌, ◌<◌, ℕ, Option, Some, None, IfNone, sym, length}
use Rattle.std.proofs.lemmas.List.{length-take-le}
use Rattle.std.proofs.lemmas.Option.{IfSome_then}
use Rattle.flac_subframe.proofs.lemmas.search.Orders.{least_of_all, none_of_all}
use Rattle.flac_subframe.proofs.lemmas.search.Places.{fewer_places}
use Rattle.flac_subframe.proofs.lemmas.search.Residues.{folds_small}
use Rattle.flac_subframe.proofs.search.choice.least_form.Goals as goal

none_then : {X P Q : Type 0} (r : Option X) → IfNone r P → (P → Q) → IfNone r Q
none_then (Some x) none then = tt
none_then None none then = then none

before : (a n : ℕ) → a < n → a ≤ n
before a n h = omega arith

left : (n k m : ℕ) → n ≤ m → n - k ≤ m
left n k m h = omega arith

within : (a b n : ℕ) → a ≤ b → b ≤ n → a ≤ n
within a b n h g = omega arith

few_values : (n k m : ℕ) → k < n → n ≤ 65535 → m ≡ n - k → m + k ≤ 65535
few_values n k m h few is = omega arith

some_values : (n k m : ℕ) → k < n → m ≡ n - k → 0 < m
some_values n k m h is = omega arith

priced_32 : (n k m old new : ℕ) → m ≡ n - k → new ≤ old + 32 * m → new ≤ old + 32 * n
priced_32 n k m old new is so = omega arith

priced_93 : (n k m old new : ℕ) → m ≡ n - k → new ≤ old + 93 * m → new ≤ old + 93 * n
priced_93 n k m old new is so = omega arith

pub overflow_sub-count : goal.overflow_sub-count
overflow_sub-count c = before _ _ c.requires.order

pub slice_bounds-values-end : goal.slice_bounds-values-end
slice_bounds-values-end c = sym (length-take-le (length c.args.subject.now.samples.now - c.args.order) c.args.values.now (left _ c.args.order _ c.requires.values))

pub slice_bounds-folds-end : goal.slice_bounds-folds-end
slice_bounds-folds-end c = sym (length-take-le (length c.args.subject.now.samples.now - c.args.order) c.args.folds.now (left _ c.args.order _ c.requires.folds))

pub greatest_partition_order-partition_order-requires : goal.greatest_partition_order-partition_order-requires
greatest_partition_order-partition_order-requires c =
    let n = length c.args.subject.now.samples.now in let k = c.args.order in
    let long = length-take-le (n - k) c.args.values.now (left n k _ c.requires.values) in
    record {
      few = few_values n k _ c.requires.order c.args.subject.now.few long;
      room = some_values n k _ c.requires.order long;
      most = c.args.subject.now.halved;
    }

pub invariant_of-residual : goal.invariant_of-residual
invariant_of-residual c =
    let n = length c.args.subject.now.samples.now in let k = c.args.order in
    let long = length-take-le (n - k) c.args.values.now (left n k _ c.requires.values) in
    let h = c.greatest_partition_order-partition_order.ensures in
    record {
      few = few_values n k _ c.requires.order c.args.subject.now.few long;
      range = c.requires.residual.range;
      unsigned = rw long at c.requires.residual.unsigned;
      small = folds_small (n - k) c.args.folds.now c.type_inv.folds;
      long = length-take-le (n - k) c.args.folds.now (left n k _ c.requires.folds) ∙ sym long;
      most = within _ _ 15 h.within c.args.subject.now.halved;
      halves = h.halves;
    }

pub least_residual-requires : goal.least_residual-requires
least_residual-requires c = record { places = fewer_places c.greatest_partition_order-partition_order.result c.args.subject.now.most c.args.tables.now c.greatest_partition_order-partition_order.ensures.within c.requires.tables }

pub returns : goal.returns
returns c =
    let n = length c.args.subject.now.samples.now in let k = c.args.order in
    let long = length-take-le (n - k) c.args.values.now (left n k _ c.requires.values) in
    let h = c.greatest_partition_order-partition_order in let found = c.least_residual in let so = found.ensures in
    record {
      least = IfSome_then found.result so.least (λ f so. least_of_all k h.result c.args.subject.now.most _ h.ensures.within h.ensures.greatest _ so);
      bits = so.bits;
      within = IfSome_then found.result so.within (λ f b. within f.partition_order h.result c.args.subject.now.most b h.ensures.within);
      less = so.less;
      small = so.small;
      kept = so.kept;
      none = none_then found.result so.none (λ none. none_of_all k h.result c.args.subject.now.most _ h.ensures.within h.ensures.greatest c.args.below none);
      places = so.places c.args.subject.now.most c.requires.tables;
      same = so.same;
      coarse = λ few. priced_32 n k _ _ _ long (so.coarse (within h.result c.args.subject.now.most 8 h.ensures.within few));
      priced = priced_93 n k _ _ _ long so.priced;
    }
