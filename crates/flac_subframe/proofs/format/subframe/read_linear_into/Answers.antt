use Rattle.std.proofs.Common.{arith, sym, ◌∙◌, ◌≡◌, length, ◌+◌, ◌-◌, ◌≤◌, ◌<◌, ◌++◌, ℕ, ℤ, List, All, refl}
use Rattle.std.proofs.lemmas.List.{length-append, length-take-le, get_or_append_left, get_or-append-add}
use Rattle.std.specs.List.{AllWithin}
use Rattle.flac_bits.specs.Signed.{FitsBits}
use Rattle.flac_subframe.specs.format.Subframe.{Predictor}
use Rattle.flac_subframe.proofs.lemmas.format.Predicted.{linear_read, linear_fails, linear_fails_first, linear_fails_next, places_are, restored_same, left_over}
use Rattle.std.proofs.lemmas.Result.{err_from_is_err_and}
use Rattle.flac_bits.proofs.Counting.{answered_then, failed_then}
use Rattle.flac_subframe.proofs.format.subframe.read_linear_into.Goals as goal

warm_up_fits : (depth n : ℕ) (made warm_up rest : List ℤ) → made ≡ warm_up ++ rest → n ≡ length warm_up → All (FitsBits depth) warm_up → AllWithin (FitsBits depth) made 0 n
warm_up_fits depth n made warm_up rest e long h = λ k d low high. let here : k < length warm_up = rw long at high in rw (e, get_or_append_left warm_up rest d k here) (h k d here)

rest_fits : (n : ℕ) (made warm_up rest : List ℤ) → made ≡ warm_up ++ rest → n ≡ length warm_up → All (FitsBits 32) rest → AllWithin (FitsBits 32) made n (length made)
rest_fits n made warm_up rest e long h = λ k d low high.
    let j : ℕ = k - length warm_up in
    let is : k ≡ length warm_up + j = omega arith in
    let all : length made ≡ length warm_up + length rest = rw (e, length-append) refl in
    rw (e, is, get_or-append-add warm_up rest j d) (h j d (omega arith))

left_is : (n out taken size : ℕ) → out ≡ taken → taken + n ≡ size → out ≡ size - n
left_is n out taken size e h = omega arith

enough_places : (n : ℕ) (made warm_up rest s : List ℤ) → made ≡ warm_up ++ rest → length warm_up ≡ n → n ≤ length s → n ≤ length made
enough_places n made warm_up rest s e long within = rw (e, length-append) (omega arith)

same_size : (a b n : ℕ) → a ≡ n → b ≡ n → a ≤ b
same_size a b n e f = omega arith

none_less : (a b c d : ℕ) → b + 0 ≤ a → c + 0 ≤ b → d + 0 ≤ c → d + 0 ≤ a
none_less a b c d p q r = omega arith

left_of : (n m : ℕ) → n < m → n ≤ m
left_of n m h = omega arith

pub returns-in_err-signed_partition : goal.returns-in_err-signed_partition
returns-in_err-signed_partition g c =
    let p = err_from_is_err_and c.from_residual.result c.from_residual.ensures.1 in
    rw (p.1, p.2) (record {
      fits = tt;
      reading = record {
        spends = tt;
        counts = c.in_err-signed_partition.ensures.reading.counts;
        memory = c.in_err-signed_partition.ensures.reading.memory;
        reads = λ known same.
            let n = length c.args.coefficients.now in
            let s = c.args.samples.now in
            let within : n ≤ length s = left_of _ _ c.requires.places.0 in
            let front = length-take-le n s within in
            linear_fails_first c.args.depth (length s) c.args.limit n c.args.bits.now.cursor _ (rw front at (c.in_err-signed_partition.ensures.reading.reads known same));
      };
    })

pub returns-in_err-_precision : goal.returns-in_err-_precision
returns-in_err-_precision g c =
    let p = err_from_is_err_and c.from_residual-in_err-_precision.result c.from_residual-in_err-_precision.ensures.1 in
    rw (p.1, p.2) (record {
      fits = tt;
      reading = record {
        spends = tt;
        counts = failed_then c.args.bits.now c.signed_partition.new.self c.read_predictor.new.bits c.in_ok-signed_partition.ensures.reading.counts c.in_err-_precision.ensures.reading.counts;
        memory = c.in_err-_precision.ensures.reading.memory;
        reads = λ known same.
            let n = length c.args.coefficients.now in
            let s = c.args.samples.now in
            let within : n ≤ length s = left_of _ _ c.requires.places.0 in
            let front = length-take-le n s within in
            let counts = c.in_ok-signed_partition.ensures.reading.counts in
            let warm = rw front at (c.in_ok-signed_partition.ensures.reading.reads known counts.1) in
            linear_fails_next c.args.depth (length s) c.args.limit n c.args.bits.now.cursor c.signed_partition.new.self.cursor c.signed_partition.new.values warm _
            (c.in_err-_precision.ensures.reading.reads (counts.0 known) (same ∙ sym counts.1));
      };
    })

pub returns-in_err-read_residual : goal.returns-in_err-read_residual
returns-in_err-read_residual g c =
    let p = err_from_is_err_and c.from_residual-in_err-read_residual.result c.from_residual-in_err-read_residual.ensures.1 in
    rw (p.1, p.2) (record {
      fits = tt;
      reading = record {
        spends = tt;
        counts = failed_then c.args.bits.now c.signed_partition.new.self c.read_residual.new.bits c.in_ok-signed_partition.ensures.reading.counts (failed_then c.signed_partition.new.self c.read_predictor.new.bits c.read_residual.new.bits c.in_ok-_precision.ensures.reading.counts c.in_err-read_residual.ensures.reading.counts);
        memory = c.in_err-read_residual.ensures.reading.memory;
        reads = λ known same.
            let n = length c.args.coefficients.now in
            let s = c.args.samples.now in
            let within : n ≤ length s = left_of _ _ c.requires.places.0 in
            let front = length-take-le n s within in
            let long : length c.signed_partition.new.values ≡ n = c.signed_partition.auto.values ∙ front in
            let size = left_over n c.signed_partition.new.values s long within in
            let counts = c.in_ok-signed_partition.ensures.reading.counts in
            let after = c.in_ok-_precision.ensures.reading.counts in
            let warm = rw front at (c.in_ok-signed_partition.ensures.reading.reads known counts.1) in
            let chosen = c.in_ok-_precision.ensures.reading.reads (counts.0 known) after.1 in
            let q : Predictor = record { precision = c.in_ok-_precision._precision; shift = c.in_ok-_precision.shift; coefficients = c.read_predictor.new.coefficients } in
            let rest = rw size at (c.in_err-read_residual.ensures.reading.reads (after.0 (counts.0 known)) (same ∙ sym (after.1 ∙ counts.1))) in
            linear_fails c.args.depth (length s) c.args.limit n c.args.bits.now.cursor c.signed_partition.new.self.cursor c.signed_partition.new.values warm c.read_predictor.new.bits.cursor q chosen _ rest;
      };
    })

pub returns-clause-reading : goal.returns-clause-reading
returns-clause-reading g c = record {
  spends = none_less _ _ _ _ c.in_ok-signed_partition.ensures.reading.spends c.in_ok-_precision.ensures.reading.spends c.in_ok-read_residual.ensures.reading.spends;
  counts = answered_then c.args.bits.now c.signed_partition.new.self c.read_residual.new.bits c.in_ok-signed_partition.ensures.reading.counts (answered_then c.signed_partition.new.self c.read_predictor.new.bits c.read_residual.new.bits c.in_ok-_precision.ensures.reading.counts c.in_ok-read_residual.ensures.reading.counts);
  memory = tt;
  reads = (λ known same.
      let n = length c.args.coefficients.now in
      let s = c.args.samples.now in
      let within : n ≤ length s = left_of _ _ c.requires.places.0 in
      let front = length-take-le n s within in
      let long : length c.signed_partition.new.values ≡ n = c.signed_partition.auto.values ∙ front in
      let size = left_over n c.signed_partition.new.values s long within in
      let left = left_is n _ _ _ c.read_residual.auto.out size in
      let counts = c.in_ok-signed_partition.ensures.reading.counts in
      let after = c.in_ok-_precision.ensures.reading.counts in
      let same_then = after.1 ∙ counts.1 in
      let warm = rw front at (c.in_ok-signed_partition.ensures.reading.reads known counts.1) in
      let chosen = c.in_ok-_precision.ensures.reading.reads (counts.0 known) after.1 in
      let p : Predictor = record { precision = c.in_ok-_precision._precision; shift = c.in_ok-_precision.shift; coefficients = c.read_predictor.new.coefficients } in
      let rest = rw size at (c.in_ok-read_residual.ensures.reading.reads (after.0 (counts.0 known)) (same ∙ sym same_then)) in
      let whole = places_are n c.signed_partition.new.values c.read_residual.new.out s long within left in
      let fits = restored_same c.in_ok-_precision.shift c.args.depth c.read_predictor.new.coefficients c.read_predictor.new.coefficients c.signed_partition.new.values c.read_residual.new.out _ c.restore_linear.new.samples c.restore_linear.result refl whole
      (same_size _ _ _ c.read_predictor.auto.coefficients long) c.restore_linear.ensures.restored c.restore_linear.ensures.fits c.restore_linear.ensures.only in
      linear_read c.args.depth (length s) c.args.limit n c.args.bits.now.cursor c.signed_partition.new.self.cursor c.signed_partition.new.values warm c.read_predictor.new.bits.cursor p chosen c.read_residual.new.bits.cursor c.read_residual.new.out c.restore_linear.new.samples c.restore_linear.result rest fits);
}

pub slice_bounds-signed_partition-end : goal.slice_bounds-signed_partition-end
slice_bounds-signed_partition-end g c = left_of _ _ c.requires.places.0

pub slice_bounds-signed_partition-end-2 : goal.slice_bounds-signed_partition-end-2
slice_bounds-signed_partition-end-2 g c = sym (length-take-le _ _ (left_of _ _ c.requires.places.0))

pub read_residual-requires-clause-few : goal.read_residual-requires-clause-few
read_residual-requires-clause-few g c =
    let n = length c.args.coefficients.now in
    let s = c.args.samples.now in
    let within = left_of _ _ c.requires.places.0 in
    let long : length c.signed_partition.new.values ≡ n = c.signed_partition.auto.values ∙ length-take-le n s within in
    rw (left_over n c.signed_partition.new.values s long within) c.requires.places.1

pub restore_linear-requires : goal.restore_linear-requires
restore_linear-requires g c =
    let n = length c.args.coefficients.now in
    let s = c.args.samples.now in
    let within = left_of _ _ c.requires.places.0 in
    let long : length c.signed_partition.new.values ≡ n = c.signed_partition.auto.values ∙ length-take-le n s within in
    let size = left_over n c.signed_partition.new.values s long within in
    let left : length c.read_residual.new.out ≡ length s - n = left_is n _ _ _ c.read_residual.auto.out size in
    let whole = places_are n c.signed_partition.new.values c.read_residual.new.out s long within left in
    let same = c.read_predictor.auto.coefficients in
    let count = same ∙ sym long in
    record {
      some = rw same c.requires.order.0;
      few = rw same c.requires.order.1;
      small = c.in_ok-_precision.ensures.fits;
      shift = c.in_ok-_precision.ensures.shift;
      enough = rw same (enough_places n _ _ c.read_residual.new.out s whole long within);
      positive = c.requires.depth.0;
      bits = c.requires.depth.1;
      warm_up = warm_up_fits _ _ _ _ _ whole count c.in_ok-signed_partition.ensures.fits;
      residual = rest_fits _ _ _ _ whole count c.in_ok-read_residual.ensures.fits;
    }

pub returns-clause-fits : goal.returns-clause-fits
returns-clause-fits g c = c.restore_linear.ensures.fits
