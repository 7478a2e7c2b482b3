use Rattle.std.proofs.Common.{◌≡◌, ◌≤◌, ◌+◌, ◌*◌, ◌∙◌, ℕ, ℤ, Bool, cond, List, [], Option, Some, None, Result, Ok, refl, ap, sym, subst, arith}
use Rattle.std.proofs.lemmas.Result.{err_from_is_err_and}
use Rattle.flac_bits.proofs.Counting.{answered_then, failed_then, refused_then}
use Rattle.flac_bits.specs.State.{State, Cursor}
use Rattle.flac_bits.specs.Layout.{Reason, run}
use Rattle.flac_bits.proofs.Telling.{Told, told_then, told_fault}
use Rattle.flac_bits.specs.declared.why.Why.TheVariants.{Memory, SampleRange}
use Rattle.flac_subframe.specs.declared.format.limits.Limits.{Limits}
use Rattle.flac_frame.specs.Frame.{limits_at, subframes, each_fits}
use Rattle.flac_frame.specs.Stereo.{joined}
use Rattle.flac_frame.specs.View.{chunks}
use Rattle.flac_frame.proofs.Bodies.{two_channels, rest_unread, rest_unfit, rest_fit}
use Rattle.flac_frame.proofs.Capacities.{as_few}
use Rattle.flac_frame.proofs.frame_reading.read_body.Goals as goal

range_no_memory : SampleRange ≡ Memory → ⊥
range_no_memory q = cc

-- the depth of a stream
deep_still : (n m : ℕ) → n ≡ m → 4 ≤ m → m ≤ 32 → (1 ≤ n) × (n ≤ 32)
deep_still n m is low high = (omega arith, omega arith)

-- what both parts take of the bits to come
spent : (old mid new : ℕ) → mid + 0 ≤ old → new + 0 ≤ mid → new + 0 ≤ old
spent old mid new p q = omega arith

-- ---- the shape has what the header and STREAMINFO have

-- what the subframes give
abbrev parts_at : (depth code size : ℕ) → Limits → ℕ → Cursor → Result (Option (List (List ℤ)) × Cursor) Reason
parts_at depth code size limits channels at = run (subframes depth code size limits (Some []) 0 channels) at

parts_same : (d e code own s n : ℕ) (l m : Limits) (c k : ℕ) (at : Cursor) → d ≡ e → code ≡ own → s ≡ n → l ≡ m → c ≡ k → parts_at d code s l c at ≡ parts_at e own n m k at
parts_same d e code own s n l m c k at depth codes size limits channels =
    ap (λ z. parts_at z code s l c at) depth ∙ ap (λ z. parts_at e z s l c at) codes ∙ ap (λ z. parts_at e own z l c at) size ∙ ap (λ z. parts_at e own n z c at) limits ∙ ap (λ z. parts_at e own n m z at) channels

abbrev got_at : Bool → (channels size : ℕ) → List ℤ → Cursor → Result (Option (List (List ℤ)) × Cursor) Reason
got_at fits channels size samples at = Ok (cond fits (Some (chunks channels size samples)) None, at)

got_same : (fits : Bool) (s n c k : ℕ) (xs : List ℤ) (at : Cursor) → s ≡ n → c ≡ k → got_at fits c s xs at ≡ got_at fits k n xs at
got_same fits s n c k xs at size channels = ap (λ z. got_at fits c z xs at) size ∙ ap (λ z. got_at fits z n xs at) channels

told_same : {Y : Type 0} {r s a b : Result (Y × Cursor) Reason} (old new : State) → r ≡ s → a ≡ b → Told r a old new → Told s b old new
told_same old new parts got told = λ known same. sym parts ∙ told known same ∙ got

fits_same : (d e code own s n c k : ℕ) (xs : List ℤ) → d ≡ e → code ≡ own → s ≡ n → c ≡ k → each_fits d (joined code (chunks c s xs)) ≡ each_fits e (joined own (chunks k n xs))
fits_same d e code own s n c k xs depth codes size channels =
    ap (λ z. each_fits z (joined code (chunks c s xs))) depth ∙ ap (λ z. each_fits e (joined z (chunks c s xs))) codes ∙ ap (λ z. each_fits e (joined own (chunks c z xs))) size ∙ ap (λ z. each_fits e (joined own (chunks z n xs))) channels

joined_same : (code own s n c k : ℕ) (xs out : List ℤ) → code ≡ own → s ≡ n → c ≡ k → chunks c s out ≡ joined code (chunks c s xs) → chunks k n out ≡ joined own (chunks k n xs)
joined_same code own s n c k xs out codes size channels is =
    subst (λ z. chunks z n out ≡ joined own (chunks z n xs)) channels (subst (λ z. chunks c z out ≡ joined own (chunks c z xs)) size (subst (λ z. chunks c s out ≡ joined z (chunks c s xs)) codes is))

pub invariant_of-shape : goal.invariant_of-shape
invariant_of-shape g c =
    let rules = c.channels.ensures.rules in
    record {
      few = as_few _ _ _ c.channels.ensures.value rules.channels;
      sized = (c.size.ensures.least, c.size.ensures.greatest);
      deep = deep_still _ _ c.depth.ensures.value rules.least_depth rules.depth;
      limited = c.limits_at.ensures.small;
    }

pub read_subframes-requires : goal.read_subframes-requires
read_subframes-requires g c = record {
  assignment = c.channel_assignment-assignment.ensures.valid;
  places = c.requires.wide ∙ ap (λ k. k * c.args.header.now.size) (sym c.channels.ensures.value) ∙ ap (λ k. c.channels.result * k) (sym c.size.ensures.size);
}

pub join_channels-requires : goal.join_channels-requires
join_channels-requires g c =
    let wide = c.read_subframes.auto.samples ∙ c.requires.wide in
    record {
      valid = c.channel_assignment-assignment.ensures.valid;
      two = two_channels _ _ _ _ c.channel_assignment-assignment.ensures.code c.requires.channels c.channels.ensures.value;
      long = wide ∙ ap (λ k. k * c.args.header.now.size) (sym c.channels.ensures.value) ∙ ap (λ k. c.channels.result * k) (sym c.size.ensures.size);
      places = c.requires.out ∙ sym wide;
      small = c.in_ok-fits.ensures.small c.if-not-fits.false;
    }

pub returns-in_err-fits : goal.returns-in_err-fits
unfolding Rattle.flac_frame.specs.Frame.frame_body
returns-in_err-fits g c =
    let p = err_from_is_err_and c.from_residual.result c.from_residual.ensures.1 in
    let told = c.in_err-fits.ensures.reading in
    let limits = c.limits_at.ensures.limits ∙ ap (limits_at c.args.profile) c.rate.ensures.value in
    let parts = parts_same _ _ _ _ _ _ _ _ _ _ c.args.bits.now.cursor c.depth.ensures.value c.channel_assignment-assignment.ensures.code c.size.ensures.size limits c.channels.ensures.value in
    let part = told_same c.args.bits.now c.read_subframes.new.bits parts refl told.reads in
    rw (p.1, p.2) (record { reading = record { spends = tt; counts = told.counts; memory = told.memory; reads = told_fault c.args.bits.now c.read_subframes.new.bits _ part } })

pub returns-in_err-read_end : goal.returns-in_err-read_end
unfolding Rattle.flac_frame.specs.Frame.frame_body
returns-in_err-read_end g c =
    let p = err_from_is_err_and c.from_residual-in_err-read_end.result c.from_residual-in_err-read_end.ensures.1 in
    let first = c.in_ok-fits.ensures.reading.counts in
    let told = c.in_err-read_end.ensures.reading in
    let mid = c.read_subframes.new.bits in
    let new = c.read_end.new.bits in
    let limits = c.limits_at.ensures.limits ∙ ap (limits_at c.args.profile) c.rate.ensures.value in
    let parts = parts_same _ _ _ _ _ _ _ _ _ _ c.args.bits.now.cursor c.depth.ensures.value c.channel_assignment-assignment.ensures.code c.size.ensures.size limits c.channels.ensures.value in
    let got = got_same c.in_ok-fits.fits _ _ _ _ c.read_subframes.new.samples mid.cursor c.size.ensures.size c.channels.ensures.value in
    let part = told_same c.args.bits.now mid parts got c.in_ok-fits.ensures.reading.reads in
    rw (p.1, p.2) (record {
      reading = record {
        spends = tt;
        counts = failed_then c.args.bits.now mid new first told.counts;
        memory = told.memory;
        reads = told_then c.args.bits.now mid new _ first part (told_fault mid new _ told.reads);
      };
    })

pub returns-then-not-fits : goal.returns-then-not-fits
unfolding Rattle.flac_frame.specs.Frame.frame_body
returns-then-not-fits g c =
    let first = c.in_ok-fits.ensures.reading.counts in
    let end = c.in_ok-read_end.ensures.reading in
    let mid = c.read_subframes.new.bits in
    let new = c.read_end.new.bits in
    let counts = answered_then c.args.bits.now mid new first end.counts in
    let limits = c.limits_at.ensures.limits ∙ ap (limits_at c.args.profile) c.rate.ensures.value in
    let parts = parts_same _ _ _ _ _ _ _ _ _ _ c.args.bits.now.cursor c.depth.ensures.value c.channel_assignment-assignment.ensures.code c.size.ensures.size limits c.channels.ensures.value in
    let got = got_same c.in_ok-fits.fits _ _ _ _ c.read_subframes.new.samples mid.cursor c.size.ensures.size c.channels.ensures.value in
    let part = told_same c.args.bits.now mid parts got c.in_ok-fits.ensures.reading.reads in
    let refused = rest_unread c.args.info.now.depth c.args.header.now.channel_code _ _ c.args.header.now new.cursor c.if-not-fits.true in
    record { reading = record { spends = tt; counts = refused_then c.args.bits.now new counts refl; memory = range_no_memory; reads = told_then c.args.bits.now mid new _ first part (told_then mid new new _ end.counts end.reads (λ known same. refused)) } }

pub returns-then-not-join_channels : goal.returns-then-not-join_channels
unfolding Rattle.flac_frame.specs.Frame.frame_body
returns-then-not-join_channels g c =
    let first = c.in_ok-fits.ensures.reading.counts in
    let end = c.in_ok-read_end.ensures.reading in
    let mid = c.read_subframes.new.bits in
    let new = c.read_end.new.bits in
    let counts = answered_then c.args.bits.now mid new first end.counts in
    let limits = c.limits_at.ensures.limits ∙ ap (limits_at c.args.profile) c.rate.ensures.value in
    let parts = parts_same _ _ _ _ _ _ _ _ _ _ c.args.bits.now.cursor c.depth.ensures.value c.channel_assignment-assignment.ensures.code c.size.ensures.size limits c.channels.ensures.value in
    let got = got_same c.in_ok-fits.fits _ _ _ _ c.read_subframes.new.samples mid.cursor c.size.ensures.size c.channels.ensures.value in
    let part = told_same c.args.bits.now mid parts got c.in_ok-fits.ensures.reading.reads in
    let judged = c.join_channels.ensures.fits ∙ fits_same _ _ _ _ _ _ _ _ c.read_subframes.new.samples c.depth.ensures.value c.channel_assignment-assignment.ensures.code c.size.ensures.size c.channels.ensures.value in
    let refused = rest_unfit c.args.info.now.depth c.args.header.now.channel_code c.args.info.now.channels _ c.join_channels.result c.read_subframes.new.samples c.args.header.now new.cursor c.if-not-fits.false judged c.if-not-join_channels.true in
    record { reading = record { spends = tt; counts = refused_then c.args.bits.now new counts refl; memory = range_no_memory; reads = told_then c.args.bits.now mid new _ first part (told_then mid new new _ end.counts end.reads (λ known same. refused)) } }

pub returns : goal.returns
unfolding Rattle.flac_frame.specs.Frame.frame_body
returns g c =
    let first = c.in_ok-fits.ensures.reading.counts in
    let end = c.in_ok-read_end.ensures.reading in
    let mid = c.read_subframes.new.bits in
    let new = c.read_end.new.bits in
    let counts = answered_then c.args.bits.now mid new first end.counts in
    let limits = c.limits_at.ensures.limits ∙ ap (limits_at c.args.profile) c.rate.ensures.value in
    let parts = parts_same _ _ _ _ _ _ _ _ _ _ c.args.bits.now.cursor c.depth.ensures.value c.channel_assignment-assignment.ensures.code c.size.ensures.size limits c.channels.ensures.value in
    let got = got_same c.in_ok-fits.fits _ _ _ _ c.read_subframes.new.samples mid.cursor c.size.ensures.size c.channels.ensures.value in
    let part = told_same c.args.bits.now mid parts got c.in_ok-fits.ensures.reading.reads in
    let judged = c.join_channels.ensures.fits ∙ fits_same _ _ _ _ _ _ _ _ c.read_subframes.new.samples c.depth.ensures.value c.channel_assignment-assignment.ensures.code c.size.ensures.size c.channels.ensures.value in
    let yes = c.if-not-join_channels.false in
    let same = joined_same _ _ _ _ _ _ c.read_subframes.new.samples c.join_channels.new.out c.channel_assignment-assignment.ensures.code c.size.ensures.size c.channels.ensures.value (c.join_channels.ensures.same yes) in
    let fit = rest_fit c.args.info.now.depth c.args.header.now.channel_code c.args.info.now.channels _ c.join_channels.result c.read_subframes.new.samples c.join_channels.new.out c.args.header.now new.cursor c.if-not-fits.false judged yes same in
    record {
      reading = record {
        spends = spent _ _ _ c.in_ok-fits.ensures.reading.spends end.spends;
        counts = counts;
        memory = tt;
        reads = told_then c.args.bits.now mid new _ first part (told_then mid new new _ end.counts end.reads (λ known same. fit));
      };
    }
