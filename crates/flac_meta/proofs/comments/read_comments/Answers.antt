use Rattle.std.proofs.Common.{ℕ, ◌+◌, ◌-◌, ◌*◌, ◌/◌, ◌<◌, ◌≤◌, length, nat_lt, refl, arith}
use Rattle.std.proofs.lemmas.Result.{err_from_is_err_and}
use Rattle.flac_bits.specs.LittleEndian.{little_32}
use Rattle.flac_bits.specs.declared.why.Why.TheVariants.{BlockLength}
use Rattle.flac_bits.proofs.Counting.{answered_then, failed_then, refused_then}
use Rattle.flac_bits.proofs.Telling.{told_then, told_fault}
use Rattle.flac_meta.specs.Comments.{comments}
use Rattle.flac_meta.proofs.Exits.{had_room, same_room, spends_then}
use Rattle.flac_meta.proofs.Short.{is_less, part_short, told_part, told_kept, told_broken}
use Rattle.flac_meta.proofs.Tied.{less_not}
use Rattle.flac_meta.proofs.comments.read_comments.Goals as goal

-- texts for whose lengths there is room
many_fit : (count left : ℕ) → count ≤ left / 4 → 4 * count ≤ left
many_fit count left le = omega arith

many_over : (count left : ℕ) → left / 4 < count → left < 4 * count
many_over count left lt = omega arith

pub returns-in_err-vendor : goal.returns-in_err-vendor
unfolding comments
returns-in_err-vendor g c =
    let p = err_from_is_err_and c.from_residual.result c.from_residual.ensures.1 in
    rw (p.1, p.2) (record {
      reading = record {
        spends = tt;
        counts = c.in_err-vendor.ensures.reading.counts;
        reads = (λ room. told_fault c.args.bits.now c.read_sized_little.new.bits _ (c.in_err-vendor.ensures.reading.reads (same_room room)));
      };
    })

pub returns-then-rest-lt4 : goal.returns-then-rest-lt4
unfolding comments
returns-then-rest-lt4 g c =
    let v = c.in_ok-vendor.ensures.reading in
    let mid = c.read_sized_little.new.bits in
    record {
      reading = record {
        spends = tt;
        counts = failed_then c.args.bits.now mid c.too_short.new.bits v.counts c.too_short.ensures.counts;
        reads = (λ room. told_then c.args.bits.now mid c.too_short.new.bits _ v.counts (v.reads had_room)
            (told_fault mid c.too_short.new.bits _ (part_short 4 (c.args.left - (4 + length c.in_ok-vendor.vendor)) little_32 mid c.too_short.new.bits
            (rw c.len.ensures at c.if-rest-lt4.true) (rw c.len.ensures at c.too_short.ensures.reads))));
      };
    }

pub returns-in_err-count : goal.returns-in_err-count
unfolding comments
returns-in_err-count g c =
    let p = err_from_is_err_and c.from_residual-in_err-count.result c.from_residual-in_err-count.ensures.1 in
    let v = c.in_ok-vendor.ensures.reading in
    let mid = c.read_sized_little.new.bits in
    let new = c.read_little_32.new.bits in
    rw (p.1, p.2) (record {
      reading = record {
        spends = tt;
        counts = failed_then c.args.bits.now mid new v.counts c.in_err-count.ensures.reading.counts;
        reads = (λ room. told_then c.args.bits.now mid new _ v.counts (v.reads had_room)
            (told_fault mid new _ (told_part 4 (c.args.left - (4 + length c.in_ok-vendor.vendor)) little_32 mid new
            (rw c.len.ensures at c.if-rest-lt4.false) c.in_err-count.ensures.reading.reads)));
      };
    })

pub returns-in_err-list : goal.returns-in_err-list
unfolding comments
returns-in_err-list g c =
    let p = err_from_is_err_and c.from_residual-in_err-list.result c.from_residual-in_err-list.ensures.1 in
    let v = c.in_ok-vendor.ensures.reading in
    let n = c.in_ok-count.ensures.reading in
    let mid = c.read_sized_little.new.bits in
    let after = c.read_little_32.new.bits in
    let new = c.read_texts.new.bits in
    let rest : ℕ = c.args.left - (4 + length c.in_ok-vendor.vendor) in
    rw (p.1, p.2) (record {
      reading = record {
        spends = tt;
        counts = failed_then c.args.bits.now mid new v.counts (failed_then mid after new n.counts c.in_err-list.ensures.reading.counts);
        reads = (λ room. told_then c.args.bits.now mid new _ v.counts (v.reads had_room)
            (told_then mid after new _ n.counts (told_part 4 rest little_32 mid after (rw c.len.ensures at c.if-rest-lt4.false) n.reads)
            (told_kept (nat_lt (rest - 4) (4 * c.in_ok-count.count)) BlockLength after new after.cursor _
            (less_not (rest - 4) (4 * c.in_ok-count.count) (many_fit c.in_ok-count.count (rest - 4) (rw c.len.ensures at c.if-count-rest.false)))
            (told_fault after new _ ((rw c.len.ensures at c.in_err-list.ensures.reading.reads) (same_room room))))));
      };
    })

pub returns : goal.returns
unfolding comments
returns g c =
    let v = c.in_ok-vendor.ensures.reading in
    let n = c.in_ok-count.ensures.reading in
    let mid = c.read_sized_little.new.bits in
    let after = c.read_little_32.new.bits in
    let new = c.read_texts.new.bits in
    let rest : ℕ = c.args.left - (4 + length c.in_ok-vendor.vendor) in
    record {
      reading = record {
        spends = spends_then 0 0 c.args.bits.now.most mid.most new.most v.spends (spends_then 32 0 mid.most after.most new.most n.spends c.in_ok-list.ensures.reading.spends);
        counts = answered_then c.args.bits.now mid new v.counts (answered_then mid after new n.counts c.in_ok-list.ensures.reading.counts);
        reads = (λ room. told_then c.args.bits.now mid new _ v.counts (v.reads had_room)
            (told_then mid after new _ n.counts (told_part 4 rest little_32 mid after (rw c.len.ensures at c.if-rest-lt4.false) n.reads)
            (told_kept (nat_lt (rest - 4) (4 * c.in_ok-count.count)) BlockLength after new after.cursor _
            (less_not (rest - 4) (4 * c.in_ok-count.count) (many_fit c.in_ok-count.count (rest - 4) (rw c.len.ensures at c.if-count-rest.false)))
            (told_then after new new _ c.in_ok-list.ensures.reading.counts ((rw c.len.ensures at c.in_ok-list.ensures.reading.reads) had_room) (λ known same. refl)))));
      };
    }

pub returns-then-count-rest : goal.returns-then-count-rest
unfolding comments
returns-then-count-rest g c =
    let v = c.in_ok-vendor.ensures.reading in
    let n = c.in_ok-count.ensures.reading in
    let mid = c.read_sized_little.new.bits in
    let new = c.read_little_32.new.bits in
    let rest : ℕ = c.args.left - (4 + length c.in_ok-vendor.vendor) in
    record {
      reading = record {
        spends = tt;
        counts = refused_then c.args.bits.now new (answered_then c.args.bits.now mid new v.counts n.counts) refl;
        reads = (λ room. told_then c.args.bits.now mid new _ v.counts (v.reads had_room)
            (told_then mid new new _ n.counts (told_part 4 rest little_32 mid new (rw c.len.ensures at c.if-rest-lt4.false) n.reads)
            (told_broken (nat_lt (rest - 4) (4 * c.in_ok-count.count)) BlockLength new new new.cursor _
            (is_less (rest - 4) (4 * c.in_ok-count.count) (many_over c.in_ok-count.count (rest - 4) (rw c.len.ensures at c.if-count-rest.true))))));
      };
    }
