use Rattle.std.proofs.Common.{refl}
use Rattle.flac_subframe.proofs.lemmas.search.Places.{places_kept}
use Rattle.flac_subframe.proofs.search.least_coding.least_at_once.Goals as goal

pub lowest-rough-requires : goal.lowest-rough-requires
lowest-rough-requires c = record { places = c.requires.places.widths; sums = c.requires.places.leaves }

pub least_weighed-requires : goal.least_weighed-requires
least_weighed-requires c =
    let low = c.lowest-rough in
    record {
      places = places_kept c.args.residual.now.partition_order c.args.tables.now _ low.auto.sums refl refl refl low.ensures.long refl c.requires.places;
      known = low.ensures.costs;
      widths = low.ensures.widths;
      beside = low.ensures.bound;
    }

pub returns : goal.returns
returns c =
    let so = c.least_weighed.ensures in let low = c.lowest-rough in
    record {
      least = so.least;
      bits = so.bits;
      within = so.within;
      less = so.less;
      small = so.small;
      kept = so.kept;
      none = so.none;
      places = λ most h. so.places most (places_kept most c.args.tables.now _ low.auto.sums refl refl refl low.ensures.long refl h);
      same = so.same;
      priced = so.priced;
    }
