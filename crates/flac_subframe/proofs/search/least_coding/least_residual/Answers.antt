use Rattle.std.proofs.Common.{arith, ◌∙◌, ◌+◌, ◌*◌, ◌≤◌, ◌<◌, ℕ, length}
use Rattle.std.proofs.lemmas.Option.{IfSome_then}
use Rattle.flac_subframe.proofs.lemmas.search.Finer.{found_still, none_after}
use Rattle.flac_subframe.proofs.search.least_coding.least_residual.Goals as goal

before : (a b : ℕ) → a < b → a ≤ b
before a b h = omega arith

both : (a b : ℕ) → a < b → b ≤ a → ⊥
both a b h g = omega arith

below_less : (a b n : ℕ) → a < b → b ≤ n → a < n
below_less a b n h g = omega arith

less_within : (a b n : ℕ) → a ≤ b → b ≤ n → a ≤ n
less_within a b n h g = omega arith

once : (n old new : ℕ) → new ≤ old + 32 * n → new ≤ old + 93 * n
once n old new so = omega arith

twice : (n old mid new : ℕ) → mid ≤ old + 32 * n → new ≤ mid + 61 * n → new ≤ old + 93 * n
twice n old mid new a b = omega arith

pub least_at_once-requires : goal.least_at_once-requires
least_at_once-requires c = record { places = c.requires.places }

pub returns-then-residual-le-COARSE : goal.returns-then-residual-le-COARSE
returns-then-residual-le-COARSE c =
    let so = c.least_at_once.ensures in
    record {
      least = so.least;
      bits = so.bits;
      within = so.within;
      less = so.less;
      small = so.small;
      kept = so.kept;
      none = so.none;
      places = so.places;
      same = so.same;
      coarse = λ _. so.priced;
      priced = once (length c.args.residual.now.values.now) _ _ so.priced;
    }

pub least_up_to-first-requires : goal.least_up_to-first-requires
least_up_to-first-requires c = record { within = before _ _ c.if-residual-le-COARSE.false; places = c.requires.places }

pub bits_to_beat-limit-requires : goal.bits_to_beat-limit-requires
bits_to_beat-limit-requires c = record { less = c.least_up_to-first.ensures.less }

pub least_of_finer-requires : goal.least_of_finer-requires
least_of_finer-requires c = record {
  fine = before _ _ c.if-residual-le-COARSE.false;
  places = c.least_up_to-first.ensures.places c.args.residual.now.partition_order c.requires.places;
}

pub returns-in-Some : goal.returns-in-Some
returns-in-Some c =
    let first = c.least_up_to-first.ensures in let so = c.in-Some.ensures in
    record {
      least = so.least;
      bits = so.bits;
      within = so.within;
      less = below_less _ _ _ so.less c.bits_to_beat-limit.ensures.within;
      small = so.small;
      kept = tt;
      none = tt;
      places = λ most h. so.places most (first.places most h);
      same = so.same ∙ first.same;
      coarse = λ le. absurd (both _ _ c.if-residual-le-COARSE.false le);
      priced = twice (length c.args.residual.now.values.now) _ _ _ first.priced so.priced;
    }

pub returns-in-None : goal.returns-in-None
returns-in-None c =
    let r = c.args.residual.now in let first = c.least_up_to-first in let so = c.in-None.ensures in
    let fine = before _ _ c.if-residual-le-COARSE.false in
    record {
      least = rw so.kept (found_still r.order 8 r.partition_order r.values.now fine c.bits_to_beat-limit.result so.none first.result _ first.ensures.least first.ensures.bits c.bits_to_beat-limit.ensures.some);
      bits = rw so.kept first.ensures.bits;
      within = IfSome_then first.result first.ensures.within (λ f b. less_within f.partition_order 8 r.partition_order b fine);
      less = first.ensures.less;
      small = first.ensures.small;
      kept = rw so.kept first.ensures.kept;
      none = none_after r.order 8 r.partition_order r.values.now fine c.bits_to_beat-limit.result so.none first.result c.args.below c.bits_to_beat-limit.ensures.none first.ensures.none;
      places = λ most h. so.places most (first.ensures.places most h);
      same = so.same ∙ first.ensures.same;
      coarse = λ le. absurd (both _ _ c.if-residual-le-COARSE.false le);
      priced = twice (length r.values.now) _ _ _ first.ensures.priced so.priced;
    }
