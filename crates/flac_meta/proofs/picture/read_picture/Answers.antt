use Rattle.std.proofs.Common.{ℕ, ◌+◌, ◌-◌, not, nat_eq, length, refl}
use Rattle.std.proofs.lemmas.Result.{err_from_is_err_and}
use Rattle.flac_bits.proofs.Counting.{answered_then, failed_then, refused_then}
use Rattle.flac_bits.specs.declared.why.Why.TheVariants.{BlockLength}
use Rattle.flac_bits.proofs.Telling.{told_then, told_fault}
use Rattle.flac_meta.specs.Picture.{picture}
use Rattle.flac_meta.proofs.Exits.{had_room, same_room, spends_then, none_over, some_over}
use Rattle.flac_meta.proofs.Short.{told_kept, told_broken}
use Rattle.flac_meta.proofs.picture.read_picture.Goals as goal

pub returns-in_err-sizes : goal.returns-in_err-sizes
unfolding picture
returns-in_err-sizes g c =
    let p = err_from_is_err_and c.from_residual-in_err-sizes.result c.from_residual-in_err-sizes.ensures.1 in
    let old = c.args.bits.now in
    let mid = c.read_picture_front.new.bits in
    let new = c.read_sizes.new.bits in
    let f = c.in_ok-kind.ensures.reading in
    let e = c.in_err-sizes.ensures.reading in
    rw (p.1, p.2) (record {
      reading = record {
        spends = tt;
        counts = failed_then old mid new f.counts e.counts;
        reads = (λ room. told_then old mid new _ f.counts (f.reads had_room) (told_fault mid new _ (rw (c.len.ensures, c.len-2.ensures) at e.reads)));
      };
    })

pub returns-in_err-bytes : goal.returns-in_err-bytes
unfolding picture
returns-in_err-bytes g c =
    let p = err_from_is_err_and c.from_residual-in_err-bytes.result c.from_residual-in_err-bytes.ensures.1 in
    let old = c.args.bits.now in
    let mid = c.read_picture_front.new.bits in
    let after = c.read_sizes.new.bits in
    let new = c.read_sized.new.bits in
    let f = c.in_ok-kind.ensures.reading in
    let n = c.in_ok-sizes.ensures.reading in
    let e = c.in_err-bytes.ensures.reading in
    rw (p.1, p.2) (record {
      reading = record {
        spends = tt;
        counts = failed_then old mid new f.counts (failed_then mid after new n.counts e.counts);
        reads = (λ room. told_then old mid new _ f.counts (f.reads had_room) (told_then mid after new _ n.counts (rw (c.len.ensures, c.len-2.ensures) at n.reads)
            (told_fault after new _ ((rw (c.len.ensures, c.len-2.ensures) at e.reads) (same_room room)))));
      };
    })

pub returns : goal.returns
unfolding picture
returns g c =
    let old = c.args.bits.now in
    let mid = c.read_picture_front.new.bits in
    let after = c.read_sizes.new.bits in
    let new = c.read_sized.new.bits in
    let f = c.in_ok-kind.ensures.reading in
    let n = c.in_ok-sizes.ensures.reading in
    let b = c.in_ok-bytes.ensures.reading in
    let rest : ℕ = c.args.left - (12 + length c.in_ok-kind.media + length c.in_ok-kind.text) in
    record {
      reading = record {
        spends = spends_then 0 0 old.most mid.most new.most f.spends (spends_then 0 0 mid.most after.most new.most n.spends b.spends);
        counts = answered_then old mid new f.counts (answered_then mid after new n.counts b.counts);
        reads = (λ room. told_then old mid new _ f.counts (f.reads had_room) (told_then mid after new _ n.counts (rw (c.len.ensures, c.len-2.ensures) at n.reads)
            (told_then after new new _ b.counts ((rw (c.len.ensures, c.len-2.ensures) at b.reads) had_room)
            (told_kept (not (nat_eq (rest - (20 + length c.in_ok-bytes.bytes)) 0)) BlockLength new new new.cursor _
            (none_over (rest - (20 + length c.in_ok-bytes.bytes)) (rw (c.len.ensures, c.len-2.ensures, c.len-3.ensures) at c.if-rest-len-ne0.false)) (λ known same. refl)))));
      };
    }

pub returns-in_err-kind : goal.returns-in_err-kind
unfolding picture
returns-in_err-kind g c =
    let p = err_from_is_err_and c.from_residual.result c.from_residual.ensures.1 in
    rw (p.1, p.2) (record {
      reading = record {
        spends = tt;
        counts = c.in_err-kind.ensures.reading.counts;
        reads = (λ room. told_fault c.args.bits.now c.read_picture_front.new.bits _ (c.in_err-kind.ensures.reading.reads (same_room room)));
      };
    })

pub returns-then-rest-len-ne0 : goal.returns-then-rest-len-ne0
unfolding picture
returns-then-rest-len-ne0 g c =
    let old = c.args.bits.now in
    let mid = c.read_picture_front.new.bits in
    let after = c.read_sizes.new.bits in
    let new = c.read_sized.new.bits in
    let f = c.in_ok-kind.ensures.reading in
    let n = c.in_ok-sizes.ensures.reading in
    let b = c.in_ok-bytes.ensures.reading in
    let rest : ℕ = c.args.left - (12 + length c.in_ok-kind.media + length c.in_ok-kind.text) in
    record {
      reading = record {
        spends = tt;
        counts = refused_then old new (answered_then old mid new f.counts (answered_then mid after new n.counts b.counts)) refl;
        reads = (λ room. told_then old mid new _ f.counts (f.reads had_room) (told_then mid after new _ n.counts (rw (c.len.ensures, c.len-2.ensures) at n.reads)
            (told_then after new new _ b.counts ((rw (c.len.ensures, c.len-2.ensures) at b.reads) had_room)
            (told_broken (not (nat_eq (rest - (20 + length c.in_ok-bytes.bytes)) 0)) BlockLength new new new.cursor _
            (some_over (rest - (20 + length c.in_ok-bytes.bytes)) (rw (c.len.ensures, c.len-2.ensures, c.len-3.ensures) at c.if-rest-len-ne0.true))))));
      };
    }
