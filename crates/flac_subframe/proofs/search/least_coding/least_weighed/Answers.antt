use Rattle.std.proofs.Common.{arith, ◌≡◌, ◌+◌, ◌-◌, ◌*◌, ◌^◌, ◌≤◌, ◌<◌, min, refl, ℕ, length, Fits, w64, Option, Some, None, IfNone}
use Rattle.std.proofs.lemmas.Option.{IfSome_then}
use Rattle.flac_subframe.specs.format.Cost.{Codings, MayWrite}
use Rattle.flac_subframe.specs.format.inner.Cost.{residual_cost}
use Rattle.flac_subframe.specs.declared.format.residual_form.ResidualForm.{ResidualForm}
use Rattle.flac_subframe.proofs.lemmas.search.Counts.{within_limit}
use Rattle.flac_subframe.proofs.lemmas.search.Finer.{found_still, none_after}
use Rattle.flac_subframe.proofs.lemmas.search.Places.{places_kept, fewer_places}
use Rattle.flac_subframe.proofs.search.least_coding.least_weighed.Goals as goal

saturated : (a b r : ℕ) → r ≡ min (a + b) (2 ^ 64 - 1) → r ≤ a + b
saturated a b r is = omega arith

first_within : (n v old mid : ℕ) → v ≤ 2 * n → mid ≤ old + (2 * n + v) → mid ≤ old + 32 * n
first_within n v old mid few so = omega arith

fits_twice : (n order : ℕ) → n + order ≤ 65535 → Fits w64 (2 * n)
fits_twice n order few = omega arith

fits_priced : (n order v : ℕ) → n + order ≤ 65535 → v ≤ 2 * n → Fits w64 (2 * n + v)
fits_priced n order v few less = omega arith

within_all : (a b n : ℕ) → a ≤ b → b ≤ n → a ≤ n
within_all a b n h g = omega arith

less_most : (a b : ℕ) → a < b → a ≤ b
less_most a b h = omega arith

beside : (below bound p cost : ℕ) → below ≤ bound + (6 + 4 * 2 ^ p) → bound + (6 + 4 * 2 ^ p) ≤ cost → below ≤ cost
beside below bound p cost a b = omega arith

itself : (found : Option ResidualForm) (n : ℕ) → IfNone found (n ≡ n)
itself (Some f) n = tt
itself None n = refl

pub is_too_dear-verdict-requires : goal.is_too_dear-verdict-requires
is_too_dear-verdict-requires c = record {
  sums = c.requires.places.leaves;
  places = c.requires.places.widths;
  costs = c.requires.known;
  finest = c.requires.widths;
  beside = c.requires.beside;
}

pub overflow_mul-count : goal.overflow_mul-count
overflow_mul-count c = fits_twice (length c.args.residual.now.values.now) c.args.residual.now.order c.args.residual.now.few

pub overflow_add-count : goal.overflow_add-count
overflow_add-count c =
    fits_priced (length c.args.residual.now.values.now) c.args.residual.now.order _ c.args.residual.now.few c.is_too_dear-verdict.ensures.few

pub returns-then-verdict : goal.returns-then-verdict
returns-then-verdict c =
    let v = c.is_too_dear-verdict in
    record {
      least = tt;
      bits = tt;
      within = tt;
      less = tt;
      small = tt;
      kept = refl;
      none = v.ensures.dear c.if-verdict.true;
      places = λ most h. places_kept most c.args.tables.now _ refl refl refl refl v.ensures.long refl h;
      same = refl;
      priced = first_within (length c.args.residual.now.values.now) _ _ _ v.ensures.few (saturated _ _ _ c.saturating_add-tables.ensures);
    }

pub least_measured-requires-clause-places : goal.least_measured-requires-clause-places
least_measured-requires-clause-places c =
    let r = c.args.residual.now in let v = c.is_too_dear-verdict in let f = c.finest_beside-finest in
    rw c.at.ensures.partition_order
    (fewer_places f.result r.partition_order _ f.ensures.within
    (places_kept r.partition_order c.args.tables.now _ c.coarsen.ensures.long refl refl refl v.ensures.long refl c.requires.places))

pub least_measured-requires-clause-widths : goal.least_measured-requires-clause-widths
least_measured-requires-clause-widths c = λ p j low high b.
    let r = c.args.residual.now in let e = c.at.ensures in let f = c.finest_beside-finest in
    rw (e.values, e.order) (c.is_too_dear-verdict.ensures.widths c.if-verdict.false p j low (within_all p f.result r.partition_order (rw e.partition_order at high) f.ensures.within) b)

pub returns-clause-least : goal.returns-clause-least
returns-clause-least c =
    let r = c.args.residual.now in let f = c.finest_beside-finest in let e = c.at.ensures in let so = c.least_measured.ensures in
    let dear : (g : Codings) → MayWrite r.partition_order r.order r.values.now g → f.result < g.partition_order → c.args.below ≤ residual_cost r.order r.values.now g =
    λ g m b. beside c.args.below c.args.rough g.partition_order _ (f.ensures.dear g.partition_order b m.few) (c.requires.beside g m) in
    found_still r.order f.result r.partition_order r.values.now f.ensures.within c.args.below dear c.least_measured.result _ (rw (e.values, e.order, e.partition_order) at so.least) (rw (e.values, e.order) at so.bits) (IfSome_then c.least_measured.result so.less (λ x b. less_most _ _ b))

pub returns-clause-bits : goal.returns-clause-bits
returns-clause-bits c = let e = c.at.ensures in rw (e.values, e.order) at c.least_measured.ensures.bits

pub returns-clause-within : goal.returns-clause-within
returns-clause-within c =
    let f = c.finest_beside-finest in let e = c.at.ensures in
    IfSome_then c.least_measured.result (rw e.partition_order at c.least_measured.ensures.within) (λ x b. within_all _ _ _ b f.ensures.within)

pub returns-clause-none : goal.returns-clause-none
returns-clause-none c =
    let r = c.args.residual.now in let f = c.finest_beside-finest in let e = c.at.ensures in let so = c.least_measured.ensures in
    let dear : (g : Codings) → MayWrite r.partition_order r.order r.values.now g → f.result < g.partition_order → c.args.below ≤ residual_cost r.order r.values.now g =
    λ g m b. beside c.args.below c.args.rough g.partition_order _ (f.ensures.dear g.partition_order b m.few) (c.requires.beside g m) in
    none_after r.order f.result r.partition_order r.values.now f.ensures.within c.args.below dear c.least_measured.result c.args.below (itself c.least_measured.result c.args.below) (rw (e.values, e.order, e.partition_order) at so.none)

pub returns-clause-places : goal.returns-clause-places
returns-clause-places c = λ most h.
    let v = c.is_too_dear-verdict in
    c.least_measured.ensures.places most (places_kept most c.args.tables.now _ c.coarsen.ensures.long refl refl refl v.ensures.long refl h)

pub returns-clause-priced : goal.returns-clause-priced
returns-clause-priced c =
    let r = c.args.residual.now in let v = c.is_too_dear-verdict in let e = c.at.ensures in let so = c.least_measured.ensures in
    within_limit (length r.values.now) _ v.result.priced c.args.tables.now.priced c.saturating_add-tables.result _ v.ensures.few v.ensures.none
    (saturated _ _ _ c.saturating_add-tables.ensures) (rw e.values at so.priced) (rw e.values at so.narrow)
