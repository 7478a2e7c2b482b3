use Rattle.std.proofs.Common.{◌≡◌, ◌+◌, ◌*◌, ◌≤◌, ◌∙◌, ℕ, Fits, w64, ap, sym, subst, min, length, drop, arith}
use Rattle.std.proofs.lemmas.List.{length-take-le}
use Rattle.std.proofs.lemmas.Nat.{mul-le}
use Rattle.std.proofs.lemmas.Result.{err_from_is_err_and}
use Rattle.flac_bits.specs.State.{started}
use Rattle.flac_bits.proofs.Counting.{answered_then, failed_then}
use Rattle.flac_bits.proofs.Telling.{told_then, told_fault}
use Rattle.flac_header.specs.Header.{greatest_in}
use Rattle.flac_frame.specs.Frame.{frame}
use Rattle.flac_frame.proofs.Bodies.{first_places, first_long, places_within, taken_long}
use Rattle.flac_frame.proofs.frame_reading.read_into.Goals as goal

-- a size that two limits allow
within_both : (n a b : ℕ) → n ≤ a → n ≤ b → n ≤ min a b
within_both n a b p q = omega arith

-- what the header and the rest take of the bits to come
spent : (old mid new : ℕ) → mid + 40 ≤ old → new + 0 ≤ mid → new + 40 ≤ old
spent old mid new p q = omega arith

-- how many places a frame has
product_fits : (c n m : ℕ) → c ≡ m → m ≤ 8 → n ≤ 65535 → Fits w64 (c * n)
product_fits c n m is few small = let le : c ≤ 8 = omega arith in omega (arith, mul-le c n 8 65535 le small)

pub overflow_mul-places : goal.overflow_mul-places
overflow_mul-places g c = product_fits _ _ _ c.channels.ensures.value c.channels.ensures.rules.channels c.size.ensures.greatest

pub slice_bounds-read_body-end-2 : goal.slice_bounds-read_body-end-2
slice_bounds-read_body-end-2 g c =
    let size = c.in_ok-header.ensures.size in
    sym (length-take-le (c.channels.result * c.size.result) c.args.wide.now (rw (c.channels.ensures.value, c.size.ensures.size) (places_within c.args.info.now.channels c.in_ok-header.header.size c.args.info.now.greatest_block (greatest_in c.args.profile c.args.info.now.rate) (length c.args.wide.now) size.0 size.1 c.requires.wide)))

pub slice_bounds-read_body-end-3 : goal.slice_bounds-read_body-end-3
slice_bounds-read_body-end-3 g c =
    let size = c.in_ok-header.ensures.size in
    rw (c.channels.ensures.value, c.size.ensures.size) (places_within c.args.info.now.channels c.in_ok-header.header.size c.args.info.now.greatest_block (greatest_in c.args.profile c.args.info.now.rate) (length c.args.out.now) size.0 size.1 (subst (λ n. c.args.info.now.channels * min c.args.info.now.greatest_block (greatest_in c.args.profile c.args.info.now.rate) ≤ n) (sym c.requires.out) c.requires.wide))

pub slice_bounds-read_body-end-4 : goal.slice_bounds-read_body-end-4
slice_bounds-read_body-end-4 g c =
    let size = c.in_ok-header.ensures.size in
    sym (length-take-le (c.channels.result * c.size.result) c.args.out.now (rw (c.channels.ensures.value, c.size.ensures.size) (places_within c.args.info.now.channels c.in_ok-header.header.size c.args.info.now.greatest_block (greatest_in c.args.profile c.args.info.now.rate) (length c.args.out.now) size.0 size.1 (subst (λ n. c.args.info.now.channels * min c.args.info.now.greatest_block (greatest_in c.args.profile c.args.info.now.rate) ≤ n) (sym c.requires.out) c.requires.wide))))

pub read_body-requires-clause-channels : goal.read_body-requires-clause-channels
read_body-requires-clause-channels g c = c.in_ok-header.ensures.channels

pub returns-in_err-header : goal.returns-in_err-header
unfolding frame
returns-in_err-header g c =
    let p = err_from_is_err_and c.from_residual.result c.from_residual.ensures.1 in
    let told = c.in_err-header.ensures.reading in
    rw (p.1, p.2) (record { size = tt; reading = record { spends = tt; counts = told.counts; memory = told.memory; reads = told_fault (started c.args.bits.now) c.read_start.new.bits _ told.reads } })

pub returns-in_err-read_body : goal.returns-in_err-read_body
unfolding frame
returns-in_err-read_body g c =
    let p = err_from_is_err_and c.from_residual-in_err-read_body.result c.from_residual-in_err-read_body.ensures.1 in
    let first = c.in_ok-header.ensures.reading in
    let told = c.in_err-read_body.ensures.reading in
    rw (p.1, p.2) (record {
      size = tt;
      reading = record {
        spends = tt;
        counts = failed_then c.args.bits.now c.read_start.new.bits c.read_body.new.bits first.counts told.counts;
        memory = told.memory;
        reads = told_then (started c.args.bits.now) c.read_start.new.bits c.read_body.new.bits _ first.counts first.reads told.reads;
      };
    })

pub returns-clause-size : goal.returns-clause-size
returns-clause-size g c = let size = c.in_ok-header.ensures.size in within_both _ _ _ size.0 size.1

pub returns-clause-reading : goal.returns-clause-reading
unfolding frame
returns-clause-reading g c = record {
  spends = spent _ _ _ c.in_ok-header.ensures.reading.spends c.in_ok-read_body.ensures.reading.spends;
  counts = answered_then c.args.bits.now c.read_start.new.bits c.read_body.new.bits c.in_ok-header.ensures.reading.counts c.in_ok-read_body.ensures.reading.counts;
  memory = tt;
  reads = (let size = c.in_ok-header.ensures.size in
      let same : c.args.info.now.channels * c.in_ok-header.header.size ≡ c.channels.result * c.size.result = ap (λ k. k * c.in_ok-header.header.size) (sym c.channels.ensures.value) ∙ ap (λ k. c.channels.result * k) (sym c.size.ensures.size) in
      let within = places_within c.args.info.now.channels c.in_ok-header.header.size c.args.info.now.greatest_block (greatest_in c.args.profile c.args.info.now.rate) (length c.args.out.now) size.0 size.1 (subst (λ n. c.args.info.now.channels * min c.args.info.now.greatest_block (greatest_in c.args.profile c.args.info.now.rate) ≤ n) (sym c.requires.out) c.requires.wide) in
      let long = taken_long (c.args.info.now.channels * c.in_ok-header.header.size) (c.channels.result * c.size.result) c.read_body.new.out c.args.out.now c.read_body.auto.out same within in
      let e = first_places (c.args.info.now.channels * c.in_ok-header.header.size) c.read_body.new.out (drop (c.channels.result * c.size.result) c.args.out.now) long in
      rw e (told_then (started c.args.bits.now) c.read_start.new.bits c.read_body.new.bits _ c.in_ok-header.ensures.reading.counts c.in_ok-header.ensures.reading.reads c.in_ok-read_body.ensures.reading.reads));
}

pub slice_bounds-read_body-end : goal.slice_bounds-read_body-end
slice_bounds-read_body-end g c =
    let size = c.in_ok-header.ensures.size in
    rw (c.channels.ensures.value, c.size.ensures.size) (places_within c.args.info.now.channels c.in_ok-header.header.size c.args.info.now.greatest_block (greatest_in c.args.profile c.args.info.now.rate) (length c.args.wide.now) size.0 size.1 c.requires.wide)

pub read_body-requires-clause-wide : goal.read_body-requires-clause-wide
read_body-requires-clause-wide g c =
    let size = c.in_ok-header.ensures.size in
    let within = places_within c.args.info.now.channels c.in_ok-header.header.size c.args.info.now.greatest_block (greatest_in c.args.profile c.args.info.now.rate) (length c.args.wide.now) size.0 size.1 c.requires.wide in
    first_long (c.args.info.now.channels * c.in_ok-header.header.size) (c.channels.result * c.size.result) c.args.wide.now (ap (λ k. k * c.in_ok-header.header.size) (sym c.channels.ensures.value) ∙ ap (λ k. c.channels.result * k) (sym c.size.ensures.size)) within

pub read_body-requires-clause-out : goal.read_body-requires-clause-out
read_body-requires-clause-out g c =
    let size = c.in_ok-header.ensures.size in
    let within = places_within c.args.info.now.channels c.in_ok-header.header.size c.args.info.now.greatest_block (greatest_in c.args.profile c.args.info.now.rate) (length c.args.out.now) size.0 size.1 (subst (λ n. c.args.info.now.channels * min c.args.info.now.greatest_block (greatest_in c.args.profile c.args.info.now.rate) ≤ n) (sym c.requires.out) c.requires.wide) in
    first_long (c.args.info.now.channels * c.in_ok-header.header.size) (c.channels.result * c.size.result) c.args.out.now (ap (λ k. k * c.in_ok-header.header.size) (sym c.channels.ensures.value) ∙ ap (λ k. c.channels.result * k) (sym c.size.ensures.size)) within
