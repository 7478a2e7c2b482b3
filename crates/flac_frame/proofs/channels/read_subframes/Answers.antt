use Rattle.std.proofs.Common.{◌≡◌, ◌+◌, ◌*◌, ◌<◌, ℕ, Fits, w32, w64, ℤ, List, Option, [], Result, Ok, length, arith, sym, ◌∙◌, cond, Some, None, ap, subst, true, false, Bool, All, ◌≤◌}
use Rattle.flac_bits.specs.State.{Cursor}
use Rattle.flac_bits.specs.Layout.{run, Reason}
use Rattle.flac_bits.proofs.Counting.{gone, failed_then}
use Rattle.flac_bits.proofs.Telling.{gone_fault}
use Rattle.std.proofs.lemmas.List.{take_all}
use Rattle.std.proofs.lemmas.Nat.{mul-le}
use Rattle.std.proofs.lemmas.Result.{err_from_is_err_and}
use Rattle.flac_bits.specs.Signed.{FitsBits}
use Rattle.flac_header.specs.Assignment.{code_of}
use Rattle.flac_frame.specs.Frame.{subframes}
use Rattle.flac_frame.specs.View.{chunks}
use Rattle.flac_frame.proofs.Subframes.{turn, subframes_more, subframes_over, part_ends, both_true, both_false, all_more}
use Rattle.flac_frame.proofs.channels.read_subframes.Goals as goal
use Rattle.flac_frame.proofs.channels.read_subframes.Goals.{then-not-branch, else-not-branch}

abbrev okay : Option (List (List ℤ)) × Cursor → Result (Option (List (List ℤ)) × Cursor) Reason
okay y = Ok y

never : {P : Type 0} (b : Bool) → b ≡ false → b ≡ true → P
never true e f = absurd cc
never false e f = absurd cc

-- the bits that can still come
no_more : (new old : ℕ) → new ≤ old → new + 0 ≤ old
no_more new old le = omega arith

still : (next now old : ℕ) → next + 8 ≤ now → now ≤ old → next ≤ old
still next now old p q = omega arith

-- where a channel begins, and where it ends
start_fits : (i c n : ℕ) → i < c → c ≤ 8 → n ≤ 65535 → Fits w64 (i * n)
start_fits i c n lt few small = let le : i ≤ 8 = omega arith in omega (arith, mul-le i n 8 65535 le small)

end_fits : (i c n : ℕ) → i < c → c ≤ 8 → n ≤ 65535 → Fits w64 (i * n + n)
end_fits i c n lt few small = let le : i ≤ 8 = omega arith in omega (arith, mul-le i n 8 65535 le small)

-- the depth of a channel
deep_fits : (n bit : ℕ) → n ≤ 32 → bit ≤ 1 → Fits w32 (n + bit)
deep_fits n bit few one = omega arith

deep_33 : (n bit : ℕ) → 1 ≤ n → n ≤ 32 → bit ≤ 1 → (1 ≤ n + bit) × (n + bit ≤ 33)
deep_33 n bit some few one = (omega arith, omega arith)

-- the loop is over
all_of : (i n : ℕ) → n ≤ i → i ≤ n → i ≡ n
all_of i n p q = omega arith

as_long : (n m : ℕ) → n ≡ m → n ≤ m
as_long n m is = omega arith

-- the channels before are within the places
within_all : (i c n all : ℕ) → i < c → all ≡ c * n → i * n ≤ all
within_all i c n all lt is = omega (arith, is, part_ends i c n lt)

pub overflow_mul-start : goal.overflow_mul-start
overflow_mul-start g c = let s = c.args.shape.now in start_fits c.loop-channel.channel s.channels s.block c.loop-channel-test.true s.few s.sized.1

pub overflow_add-own : goal.overflow_add-own
overflow_add-own g c = let s = c.args.shape.now in end_fits c.loop-channel.channel s.channels s.block c.loop-channel-test.true s.few s.sized.1

pub overflow_add-shape : goal.overflow_add-shape
overflow_add-shape g c = deep_fits _ _ c.args.shape.now.deep.1 c.side_bit.ensures.small

pub subframe_by_layout-requires-clause-depth : goal.subframe_by_layout-requires-clause-depth
subframe_by_layout-requires-clause-depth g c = let deep = c.args.shape.now.deep in deep_33 _ _ deep.0 deep.1 c.side_bit.ensures.small

pub returns-clause-reading : goal.returns-clause-reading
returns-clause-reading g c = record {
  spends = no_more _ _ c.loop-channel.invariant.0;
  counts = gone c.loop-channel.invariant.2;
  memory = tt;
  reads = (λ known same.
      let l = c.loop-channel in
      let e : l.channel ≡ c.args.shape.now.channels = all_of _ _ c.loop-channel-test.false l.auto.channel-end in
      sym (l.invariant.2.reads known) ∙ subframes_over c.args.shape.now.depth (code_of c.args.assignment) c.args.shape.now.block c.args.shape.now.limits (cond l.fits (Some (chunks l.channel c.args.shape.now.block l.samples)) None) l.channel c.args.shape.now.channels l.bits.cursor c.loop-channel-test.false
      ∙ ap (λ k. okay (cond l.fits (Some (chunks k c.args.shape.now.block l.samples)) None, l.bits.cursor)) e);
}

pub loop-channel-preserved : goal.loop-channel-preserved
loop-channel-preserved g c =
    let l = c.loop-channel in
    let long : length l.samples ≡ c.args.shape.now.channels * c.args.shape.now.block = l.auto.samples ∙ c.requires.places in
    let own : length c.subframe_by_layout.new.samples ≡ c.args.shape.now.block = omega (arith, c.subframe_by_layout.auto.samples) in
    let next = turn c.args.bits.now l.bits c.subframe_by_layout.new.bits c.args.shape.now.depth (code_of c.args.assignment) c.args.shape.now.block c.args.shape.now.limits l.fits c.in_ok-subframe_by_layout.field-0 c.if-not-branch.fits l.channel c.args.shape.now.channels l.samples c.subframe_by_layout.new.samples
    (run (subframes c.args.shape.now.depth (code_of c.args.assignment) c.args.shape.now.block c.args.shape.now.limits (Some []) 0 c.args.shape.now.channels) c.args.bits.now.cursor) l.invariant.2 c.loop-channel-test.true long own in
    let reads = rw c.side_bit.ensures.bit at c.in_ok-subframe_by_layout.ensures.reading.reads in
    let within : l.channel * c.args.shape.now.block ≤ length l.samples = within_all l.channel c.args.shape.now.channels c.args.shape.now.block (length l.samples) c.loop-channel-test.true long in
    elim c.if-not-branch.branch [
      | then-not-branch w ↦ (
        still _ _ _ c.in_ok-subframe_by_layout.ensures.reading.spends l.invariant.0,
        λ yes. never c.if-not-branch.fits w.fits-is yes,
        next (both_false l.fits c.if-not-branch.fits c.in_ok-subframe_by_layout.field-0 w.fits-is w.if-not-branch.true) c.in_ok-subframe_by_layout.ensures.reading.counts reads,
      )
      | else-not-branch w ↦ (
        still _ _ _ c.in_ok-subframe_by_layout.ensures.reading.spends l.invariant.0,
        λ yes. all_more (FitsBits 34) l.channel c.args.shape.now.block l.samples c.subframe_by_layout.new.samples within own (l.invariant.1 (sym w.fits-is ∙ yes)) (c.in_ok-subframe_by_layout.ensures.small w.if-not-branch.false),
        next (both_true l.fits c.if-not-branch.fits c.in_ok-subframe_by_layout.field-0 w.fits-is w.if-not-branch.false) c.in_ok-subframe_by_layout.ensures.reading.counts reads,
      )
    ]

pub returns-clause-small : goal.returns-clause-small
returns-clause-small g c = λ yes.
    let l = c.loop-channel in
    let e : l.channel ≡ c.args.shape.now.channels = all_of _ _ c.loop-channel-test.false l.auto.channel-end in
    let long : length l.samples ≡ c.args.shape.now.channels * c.args.shape.now.block = l.auto.samples ∙ c.requires.places in
    let all : length l.samples ≡ l.channel * c.args.shape.now.block = long ∙ ap (λ k. k * c.args.shape.now.block) (sym e) in
    subst (All (FitsBits 34)) (take_all (l.channel * c.args.shape.now.block) l.samples (as_long _ _ all)) (l.invariant.1 yes)

pub returns-in_err-subframe_by_layout : goal.returns-in_err-subframe_by_layout
returns-in_err-subframe_by_layout g c =
    let p = err_from_is_err_and c.from_residual.result c.from_residual.ensures.1 in
    let l = c.loop-channel in
    let told = c.in_err-subframe_by_layout.ensures.reading in
    let reads = rw c.side_bit.ensures.bit at told.reads in
    rw (p.1, p.2) (record {
      small = tt;
      reading = record {
        spends = tt;
        counts = failed_then c.args.bits.now l.bits c.subframe_by_layout.new.bits (gone l.invariant.2) told.counts;
        memory = told.memory;
        reads = gone_fault c.args.bits.now l.bits c.subframe_by_layout.new.bits _ l.invariant.2
            (subframes_more c.args.shape.now.depth (code_of c.args.assignment) c.args.shape.now.block c.args.shape.now.limits (cond l.fits (Some (chunks l.channel c.args.shape.now.block l.samples)) None) l.channel c.args.shape.now.channels l.bits.cursor c.loop-channel-test.true) reads;
      };
    })
