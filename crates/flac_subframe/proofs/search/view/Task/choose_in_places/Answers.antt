use Rattle.std.proofs.Common.{arith, rules, Fits, w64, ◌≡◌, ◌∙◌, ◌+◌, ◌-◌, ◌*◌, ◌≤◌, ◌<◌, ◌^◌, ℕ, ℤ, List, All, length, map, take, sym}
use Rattle.std.proofs.lemmas.List.{take-append-le, length-take-le, length-map}
use Rattle.flac_subframe.specs.declared.format.content.SubframeForm.{SubframeForm}
use Rattle.flac_subframe.proofs.lemmas.search.Places.{power_le}
use Rattle.flac_subframe.proofs.lemmas.search.Ways.{way_least, way_bits, way_made}
use Rattle.flac_bits.specs.Signed.{FitsBits}
use Rattle.flac_subframe.specs.format.Wasted.{times_power}
use Rattle.flac_subframe.proofs.search.view.Task.choose_in_places.Goals as goal

longer : (n m : ℕ) → 2 * n + 256 ≤ m → n + 256 ≤ m
longer n m h = omega arith

taken : (n : ℕ) (s : List ℤ) → length s ≡ n + 256 → length (take n s) ≡ n
taken n s e = length-take-le n s (omega arith)

same_length : (k : ℕ) (s dropped : List ℤ) → s ≡ map (times_power k) dropped → length dropped ≡ length s
same_length k s dropped e = rw e (sym (length-map dropped (times_power k)))

narrowed_fit : (a b : List ℤ) → a ≡ b → All (FitsBits 27) b → All (FitsBits 27) a
narrowed_fit a b e h = rw e h

some_left : (n m : ℕ) → m ≡ n → 0 < n → 0 < m
some_left n m e h = rw e h

enough_left : (n m more all : ℕ) → m ≡ n → 2 * n + 256 ≤ all → more + (n + 256) ≡ all → m ≤ more
enough_left n m more all e h s = omega arith

depth_left : (depth less : ℕ) → depth ≤ 33 → depth - less ≤ 33
depth_left depth less h = omega arith

before : (a b : ℕ) → a < b → a ≤ b
before a b h = omega arith

as_few : (n m each all priced : ℕ) → m ≡ n → priced ≤ all * (each * m) → priced ≤ all * (each * n)
as_few n m each all priced e h = rw e at h

short_sum : (n : ℕ) → n ≤ 65535 → Fits w64 (n + 256)
short_sum n h = search rules

two_thirds : (p n m more : ℕ) → p ≡ n → 3 * n ≤ m → more + p ≡ m → 2 * n ≤ more
two_thirds p n m more e h s = omega arith

as_long : (p n m : ℕ) → p ≡ n → m ≡ p → n ≤ m
as_long p n m e f = omega arith

up_to : (n m all : ℕ) → m ≡ n → n ≤ all → m ≤ all
up_to n m all e h = rw e h

a_third : (p n m : ℕ) → p ≡ n → 3 * n ≤ m → p ≤ m
a_third p n m e h = omega arith

pub returns-clause-least : goal.returns-clause-least
returns-clause-least c =
    let task = c.args.self.now in let dropped = c.without_wasted-wasted in let best = c.search_within-priced in
    let form : SubframeForm = record { wasted = dropped.result.0; content = best.result.0.content; residual = best.result.0.residual } in
    let same = take-append-le (2 ^ best.result.0.residual.partition_order) best.new.codings best.new.widths (omega (arith, power_le best.result.0.residual.partition_order task.most best.ensures.within, best.auto.codings, c.split_at_mut-codings.ensures.front_len, c.power.ensures)) in
    rw same (way_least task.most task.depth task.predictors.now task.samples.now dropped.result.1.now form (take (2 ^ best.result.0.residual.partition_order) best.new.codings) best.result.0.bits dropped.ensures.wasted dropped.ensures.shortened best.ensures.best)

pub returns-clause-bits : goal.returns-clause-bits
returns-clause-bits c =
    let task = c.args.self.now in let dropped = c.without_wasted-wasted in let best = c.search_within-priced in
    let form : SubframeForm = record { wasted = dropped.result.0; content = best.result.0.content; residual = best.result.0.residual } in
    let same = take-append-le (2 ^ best.result.0.residual.partition_order) best.new.codings best.new.widths (omega (arith, power_le best.result.0.residual.partition_order task.most best.ensures.within, best.auto.codings, c.split_at_mut-codings.ensures.front_len, c.power.ensures)) in
    rw (c.from.ensures, same) (way_bits task.most task.depth task.predictors.now task.samples.now dropped.result.1.now form (take (2 ^ best.result.0.residual.partition_order) best.new.codings) best.result.0.bits dropped.ensures.wasted dropped.ensures.shortened best.ensures.best)

pub returns-clause-made : goal.returns-clause-made
returns-clause-made c =
    let task = c.args.self.now in let dropped = c.without_wasted-wasted in let best = c.search_within-priced in
    let form : SubframeForm = record { wasted = dropped.result.0; content = best.result.0.content; residual = best.result.0.residual } in
    let same = take-append-le (2 ^ best.result.0.residual.partition_order) best.new.codings best.new.widths (omega (arith, power_le best.result.0.residual.partition_order task.most best.ensures.within, best.auto.codings, c.split_at_mut-codings.ensures.front_len, c.power.ensures)) in
    rw same (way_made task.most task.depth task.predictors.now task.samples.now dropped.result.1.now form (take (2 ^ best.result.0.residual.partition_order) best.new.codings) best.result.0.bits dropped.ensures.wasted dropped.ensures.shortened best.ensures.best)

pub split_at_mut-shortened-requires : goal.split_at_mut-shortened-requires
split_at_mut-shortened-requires c = longer _ _ c.requires.longs

pub slice_bounds-shortened-end : goal.slice_bounds-shortened-end
slice_bounds-shortened-end c = sym (taken _ _ c.split_at_mut-shortened.ensures.front_len)

pub without_wasted-wasted-requires : goal.without_wasted-wasted-requires
without_wasted-wasted-requires c = let task = c.args.self.now in record {
  positive = task.positive;
  bits = task.deep;
  fits = task.fits;
  places = taken _ _ c.split_at_mut-shortened.ensures.front_len;
}

pub split_at_mut-narrowed-requires : goal.split_at_mut-narrowed-requires
split_at_mut-narrowed-requires c = longer _ _ c.requires.shorts

pub slice_bounds-narrowed-end : goal.slice_bounds-narrowed-end
slice_bounds-narrowed-end c = sym (taken _ _ c.split_at_mut-narrowed.ensures.front_len)

pub narrow-narrow-requires : goal.narrow-narrow-requires
narrow-narrow-requires c = record {
  places = taken _ _ c.split_at_mut-narrowed.ensures.front_len ∙ sym (same_length _ _ _ c.without_wasted-wasted.ensures.shortened);
}

pub peak-peak-requires : goal.peak-peak-requires
peak-peak-requires c = record { fits = λ t. narrowed_fit _ _ (c.narrow-narrow.ensures.same t) (c.narrow-narrow.ensures.fits t) }

pub overflow_sub-subject : goal.overflow_sub-subject
overflow_sub-subject c = before _ _ c.without_wasted-wasted.ensures.some

pub power-requires : goal.power-requires
power-requires c = c.args.self.now.halved

pub split_at_mut-codings-requires : goal.split_at_mut-codings-requires
split_at_mut-codings-requires c = a_third _ _ _ c.power.ensures c.requires.bytes

pub invariant_of-subject : goal.invariant_of-subject
invariant_of-subject c = let task = c.args.self.now in record {
  few = up_to _ _ _ (same_length _ _ _ c.without_wasted-wasted.ensures.shortened) task.few;
  depth = depth_left task.depth _ task.deep;
  halved = task.halved;
  fits = c.without_wasted-wasted.ensures.fits;
  leaves = c.narrow-narrow.ensures.fits;
  same = c.narrow-narrow.ensures.same;
  peaked = c.peak-peak.ensures;
}

pub search_within-priced-requires-clause-some : goal.search_within-priced-requires-clause-some
search_within-priced-requires-clause-some c = some_left _ _ (same_length _ _ _ c.without_wasted-wasted.ensures.shortened) c.args.self.now.some

pub returns-clause-some : goal.returns-clause-some
returns-clause-some c = c.without_wasted-wasted.ensures.some

pub returns-clause-within : goal.returns-clause-within
returns-clause-within c = c.search_within-priced.ensures.within

pub returns-clause-coarse : goal.returns-clause-coarse
returns-clause-coarse c = λ few. as_few _ _ 32 _ _ (same_length _ _ _ c.without_wasted-wasted.ensures.shortened) (c.search_within-priced.ensures.coarse few)

pub returns-clause-priced : goal.returns-clause-priced
returns-clause-priced c = as_few _ _ 93 _ _ (same_length _ _ _ c.without_wasted-wasted.ensures.shortened) c.search_within-priced.ensures.priced

pub search_within-priced-requires-clause-arrays : goal.search_within-priced-requires-clause-arrays
search_within-priced-requires-clause-arrays c = let same = same_length _ _ _ c.without_wasted-wasted.ensures.shortened in record {
  wide = enough_left _ _ _ _ same c.requires.longs c.split_at_mut-shortened.ensures.back_len;
  values = enough_left _ _ _ _ same c.requires.shorts c.split_at_mut-narrowed.ensures.back_len;
  folds = up_to _ _ _ same c.requires.folds;
}

pub search_within-priced-requires-clause-widths : goal.search_within-priced-requires-clause-widths
search_within-priced-requires-clause-widths c = two_thirds _ _ _ _ c.power.ensures c.requires.bytes c.split_at_mut-codings.ensures.back_len

pub search_within-priced-requires-clause-codings : goal.search_within-priced-requires-clause-codings
search_within-priced-requires-clause-codings c = as_long _ _ _ c.power.ensures c.split_at_mut-codings.ensures.front_len

pub overflow_add-count : goal.overflow_add-count
overflow_add-count c = short_sum _ c.args.self.now.few

pub overflow_add-count-2 : goal.overflow_add-count-2
overflow_add-count-2 c = short_sum _ c.args.self.now.few
