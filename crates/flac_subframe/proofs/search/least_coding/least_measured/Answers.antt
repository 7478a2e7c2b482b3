use Rattle.std.proofs.Common.{arith, ◌≡◌, ◌+◌, ◌-◌, ◌*◌, ◌^◌, ◌≤◌, ◌<◌, min, refl, ℕ, length, Fits, w64}
use Rattle.std.proofs.lemmas.Nat.{mul-le}
use Rattle.flac_subframe.specs.format.Cost.{MayWrite, parameter_bits_of}
use Rattle.flac_subframe.specs.format.inner.Cost.{HalvedTo, residual_cost}
use Rattle.flac_subframe.proofs.lemmas.search.Places.{places_kept}
use Rattle.flac_subframe.proofs.lemmas.search.Searched.{least_found, found_bits, none_below}
use Rattle.flac_subframe.proofs.search.least_coding.least_measured.Goals as goal

saturated : (a b r : ℕ) → r ≡ min (a + b) (2 ^ 64 - 1) → r ≤ a + b
saturated a b r is = omega arith

at_most : (n t k old new : ℕ) → t ≤ k → new ≤ old + t * n → new ≤ old + k * n
at_most n t k old new few so = omega (arith, so, mul-le t n k n few (omega arith))

fits_tried : (n order k t : ℕ) → n + order ≤ 65535 → k ≡ t → t ≤ 30 → Fits w64 (k * n)
fits_tried n order k t few is less = omega (arith, mul-le k n 30 65535 (omega arith) (omega arith))

under : (r n below : ℕ) → r ≤ n → n < below → r < below
under r n below le less = omega arith

small : (r n : ℕ) → r ≤ n → n ≤ 2 ^ 33 * 2 ^ 16 → r ≤ 2 ^ 49
small r n le less = omega arith

pub least_coding-tried-requires : goal.least_coding-tried-requires
least_coding-tried-requires c =
    let places = c.requires.places in
    record {
      leaves = places.leaves;
      known = c.requires.known;
      sums = places.sums;
      four = places.four;
      five = places.five;
      widths = c.requires.widths;
      places = places.widths;
    }

pub overflow_mul-from : goal.overflow_mul-from
overflow_mul-from c = fits_tried (length c.args.residual.now.values.now) c.args.residual.now.order c.from.result _ c.args.residual.now.few c.from.ensures c.least_coding-tried.ensures.few

pub returns-then-form-below : goal.returns-then-form-below
returns-then-form-below c =
    let s = c.least_coding-tried in let r = c.args.residual.now in
    let so = rw c.from.ensures at (saturated _ _ _ c.saturating_add-tables.ensures) in
    record {
      least = tt;
      bits = tt;
      within = tt;
      less = tt;
      small = tt;
      kept = refl;
      none = none_below (MayWrite r.partition_order r.order r.values.now) (residual_cost r.order r.values.now) _ c.args.below s.ensures.least c.if-form-below.true;
      places = λ most h. places_kept most c.args.tables.now _ refl s.auto.sums s.auto.four s.auto.five refl refl h;
      same = refl;
      priced = at_most (length r.values.now) _ 30 _ _ s.ensures.few so;
      narrow = at_most (length r.values.now) _ _ _ _ s.ensures.narrow so;
    }

pub take_found-bits-requires : goal.take_found-bits-requires
take_found-bits-requires c =
    let s = c.least_coding-tried in let places = c.requires.places in
    record {
      within = s.ensures.within;
      four = rw s.auto.four places.four;
      five = rw s.auto.five places.five;
      entries = s.ensures.entries;
      more = s.ensures.more;
      widths = c.requires.widths;
      places = places.widths;
      codings = places.codings;
    }

pub returns : goal.returns
returns c =
    let s = c.least_coding-tried in let r = c.args.residual.now in let found = c.take_found-bits in
    let form = s.result.0 in
    let halved = HalvedTo (parameter_bits_of form.method) form.partition_order r.partition_order r.order r.values.now in
    let cost = residual_cost r.order r.values.now in
    let le : found.result ≤ form.bits = found_bits halved cost form.bits _ found.result s.ensures.here found.ensures.least found.ensures.bits in
    let so = rw c.from.ensures at (saturated _ _ _ c.saturating_add-tables.ensures) in
    record {
      least = least_found halved (MayWrite r.partition_order r.order r.values.now) cost form.bits _ (λ f m. m.2) s.ensures.least s.ensures.here found.ensures.least;
      bits = found.ensures.bits;
      within = s.ensures.within;
      less = under found.result form.bits c.args.below le c.if-form-below.false;
      small = small found.result form.bits le s.ensures.small;
      kept = tt;
      none = tt;
      places = λ most h. places_kept most c.args.tables.now _ refl s.auto.sums s.auto.four s.auto.five refl found.auto.codings h;
      same = refl;
      priced = at_most (length r.values.now) _ 30 _ _ s.ensures.few so;
      narrow = at_most (length r.values.now) _ _ _ _ s.ensures.narrow so;
    }
