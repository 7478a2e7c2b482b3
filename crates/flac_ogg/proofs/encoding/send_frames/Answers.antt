use Rattle.std.proofs.Common.{◌≡◌, ◌≤◌, ◌<◌, ◌*◌, ◌+◌, ◌^◌, ◌∙◌, min, sym, ap, subst, refl, length, arith, ℕ, suc, true, false, nat_eq}
use Rattle.std.proofs.Math.Nat.{mul-suc}
use Rattle.std.proofs.lemmas.Result.{err_from_is_err_and}
use Rattle.flac_bits.specs.Bits.{bits_of}
use Rattle.flac_frame.specs.Audio.{samples_each}
use Rattle.flac_native.specs.Given.{blocks_in}
use Rattle.flac_native.specs.Writing.{HasRoom, IsSpelled}
use Rattle.flac_native.proofs.Gathered.{still_some, all_gathered}
use Rattle.flac_native.proofs.Planned.{planned, fit}
use Rattle.flac_native.proofs.Spelled.{came_out}
use Rattle.flac_pages.specs.declared.writing.PacketKind.TheVariants.{Frame}
use Rattle.flac_pages.specs.Placed.{sequence_after}
use Rattle.flac_pages.specs.Written.{packet_spelling}
use Rattle.flac_ogg.proofs.SentOgg.{some_blocks}
use Rattle.flac_ogg.proofs.SentPackets.{SentPackets, packets_none, packets_more, packets_sent, packets_fail, last_is, sends_as, spelled_long, differ, agree}
use Rattle.flac_ogg.proofs.encoding.send_frames.Goals as goal
use Rattle.flac_native.specs.Sent.{SendsBits}

-- samples are left, and few
more_left : (start all total done : ℕ) → start ≡ min total done → start < all → all ≡ total → done < total
more_left start all total done e lt f = omega arith

few_samples : (total planned : ℕ) → planned < 2 ^ 36 → planned ≡ total → total < 2 ^ 64
few_samples total planned few e = omega arith

one_block : (b n : ℕ) → b * suc n ≡ b * n + b
one_block b n = omega (arith, mul-suc b n)

pub loop-start-init : goal.loop-start-init
loop-start-init g c =
    let p = c.args.planned.now.plan.now in
    let q = planned p c.block_size-size.ensures.good in
    let blocks = some_blocks p.block_size (samples_each c.args.planned.now.audio.now.channels) q.least c.requires.some in
    record {
      going = λ lt. packets_none g.W.Target c.args.headers.now.serial c.args.headers.now.held.next p c.args.planned.now.audio.now c.args.target.now;
      over = λ e. absurd (omega (arith, e, blocks));
      buffers = c.requires.buffers;
      room = refl;
      pages = refl;
      start = omega arith;
      few = omega arith;
    }

pub range-end-requires-clause-few : goal.range-end-requires-clause-few
range-end-requires-clause-few g c =
    let p = c.args.planned.now.plan.now in
    let b = p.block_size in
    let n = c.loop-start.number in
    let total = samples_each c.args.planned.now.audio.now.channels in
    let q = planned p c.block_size-size.ensures.good in
    let more = more_left _ _ total (b * n) c.loop-start.invariant.start c.loop-start-test.true c.len-total.ensures in
    still_some b total n q.least more

pub write-room-requires-clause-few : goal.write-room-requires-clause-few
write-room-requires-clause-few g c =
    let p = c.args.planned.now.plan.now in
    let a = c.args.planned.now.audio.now in
    let b = p.block_size in
    let n = c.loop-start.number in
    let total = samples_each a.channels in
    let inv = c.loop-start.invariant in
    let q = planned p c.block_size-size.ensures.good in
    let f = fit p a c.requires.fits in
    let few = few_samples total p.total q.total f.total in
    let more = more_left _ _ total (b * n) inv.start c.loop-start-test.true c.len-total.ensures in
    let lt : n < blocks_in b total = still_some b total n q.least more in
    lt

pub write-room-requires-clause-room : goal.write-room-requires-clause-room
write-room-requires-clause-room g c = subst (HasRoom c.args.planned.now.plan.now c.args.planned.now.audio.now) (sym c.loop-start.invariant.room) c.requires.room

pub paged-filled-requires : goal.paged-filled-requires
paged-filled-requires g c =
    let p = c.args.planned.now.plan.now in
    let a = c.args.planned.now.audio.now in
    let b = p.block_size in
    let n = c.loop-start.number in
    let total = samples_each a.channels in
    let inv = c.loop-start.invariant in
    let q = planned p c.block_size-size.ensures.good in
    let f = fit p a c.requires.fits in
    let few = few_samples total p.total q.total f.total in
    let more = more_left _ _ total (b * n) inv.start c.loop-start-test.true c.len-total.ensures in
    let lt : n < blocks_in b total = still_some b total n q.least more in
    let packet = c.bytes-packet.result.now in
    let is : IsSpelled p a n (bits_of packet) = subst (λ l. IsSpelled p a n (bits_of l)) (sym c.bytes-packet.ensures) c.write-room.ensures.frame in
    let long : length packet ≤ c.args.planned.now.frames.now.greatest = spelled_long p a n c.args.planned.now.frames.now.least c.args.planned.now.frames.now.greatest packet c.args.planned.now.frames.now.points.items lt c.requires.counted is in
    omega (arith, long, c.requires.pages, inv.pages)

pub returns-in_err-send_all : goal.returns-in_err-send_all
returns-in_err-send_all g c =
    let s = err_from_is_err_and c.from_residual.result c.from_residual.ensures.1 in
    let p = c.args.planned.now.plan.now in
    let a = c.args.planned.now.audio.now in
    let b = p.block_size in
    let n = c.loop-start.number in
    let total = samples_each a.channels in
    let inv = c.loop-start.invariant in
    let q = planned p c.block_size-size.ensures.good in
    let f = fit p a c.requires.fits in
    let few = few_samples total p.total q.total f.total in
    let more = more_left _ _ total (b * n) inv.start c.loop-start-test.true c.len-total.ensures in
    let lt : n < blocks_in b total = still_some b total n q.least more in
    let up = one_block b n in
    let end : ℕ = c.range-end.result.end in
    let end_is : end ≡ min total (b * suc n) = omega (arith, c.range-end.ensures.range.start, c.range-end.ensures.range.size, c.range-end.ensures.range.some, up, more) in
    let serial = c.args.headers.now.serial in
    let sequence = c.loop-start.sequence in
    let packet = c.bytes-packet.result.now in
    let is : IsSpelled p a n (bits_of packet) = subst (λ l. IsSpelled p a n (bits_of l)) (sym c.bytes-packet.ensures) c.write-room.ensures.frame in
    let old = c.args.target.now in
    let mid = c.loop-start.target in
    let new = c.send_all.new.target in
    let spelled : bits_of c.bytes.result.now ≡ packet_spelling (record { serial = serial; sequence = sequence; kind = Frame (min total (b * suc n)); first = false; last = nat_eq end total }) packet =
    ap bits_of c.bytes.ensures ∙ c.paged-filled.ensures.pages
    ∙ ap (λ k. packet_spelling (record { serial = serial; sequence = sequence; kind = Frame end; first = false; last = nat_eq end k }) packet) c.len-total.ensures
    ∙ ap (λ k. packet_spelling (record { serial = serial; sequence = sequence; kind = Frame k; first = false; last = nat_eq end total }) packet) end_is in
    let last = last_is b total n end q.least lt end_is in
    let k = c.requires.counted in
    rw s.1 (packets_fail g.W.Target serial c.args.headers.now.held.next p a n sequence old mid new packet (nat_eq end total) k.frames _ _ few c.bytes_fit.ensures (inv.going lt) is lt last k.are k.are_least
    (sends_as g.W.Target c.bytes.result.now _ mid new _ spelled c.in_err-send_all.ensures.sends))

pub loop-start-preserved : goal.loop-start-preserved
loop-start-preserved g c =
    let p = c.args.planned.now.plan.now in
    let a = c.args.planned.now.audio.now in
    let b = p.block_size in
    let n = c.loop-start.number in
    let total = samples_each a.channels in
    let inv = c.loop-start.invariant in
    let q = planned p c.block_size-size.ensures.good in
    let f = fit p a c.requires.fits in
    let few = few_samples total p.total q.total f.total in
    let more = more_left _ _ total (b * n) inv.start c.loop-start-test.true c.len-total.ensures in
    let lt : n < blocks_in b total = still_some b total n q.least more in
    let up = one_block b n in
    let end : ℕ = c.range-end.result.end in
    let end_is : end ≡ min total (b * suc n) = omega (arith, c.range-end.ensures.range.start, c.range-end.ensures.range.size, c.range-end.ensures.range.some, up, more) in
    let serial = c.args.headers.now.serial in
    let sequence = c.loop-start.sequence in
    let packet = c.bytes-packet.result.now in
    let is : IsSpelled p a n (bits_of packet) = subst (λ l. IsSpelled p a n (bits_of l)) (sym c.bytes-packet.ensures) c.write-room.ensures.frame in
    let old = c.args.target.now in
    let mid = c.loop-start.target in
    let new = c.send_all.new.target in
    let spelled : bits_of c.bytes.result.now ≡ packet_spelling (record { serial = serial; sequence = sequence; kind = Frame (min total (b * suc n)); first = false; last = nat_eq end total }) packet =
    ap bits_of c.bytes.ensures ∙ c.paged-filled.ensures.pages
    ∙ ap (λ k. packet_spelling (record { serial = serial; sequence = sequence; kind = Frame end; first = false; last = nat_eq end k }) packet) c.len-total.ensures
    ∙ ap (λ k. packet_spelling (record { serial = serial; sequence = sequence; kind = Frame k; first = false; last = nat_eq end total }) packet) end_is in
    let last = last_is b total n end q.least lt end_is in
    let next : c.paged-filled.result.1 ≡ sequence_after sequence packet = c.paged-filled.ensures.next in
    let sends : SendsBits g.W.Target (packet_spelling (record { serial = serial; sequence = sequence; kind = Frame (min total (b * suc n)); first = false; last = nat_eq end total }) packet) mid new came_out =
    sends_as g.W.Target c.bytes.result.now _ mid new came_out spelled c.in_ok-send_all.ensures.sends in
    record {
      going = λ other.
          let goes : nat_eq end total ≡ false = sym last ∙ differ (n + 1) (blocks_in b total) other in
          subst (λ k. SentPackets g.W.Target serial c.args.headers.now.held.next p a (n + 1) k old new) (sym next)
          (packets_more g.W.Target serial c.args.headers.now.held.next p a n sequence old mid new packet few c.bytes_fit.ensures (inv.going lt) is
          (subst (λ l. SendsBits g.W.Target (packet_spelling (record { serial = serial; sequence = sequence; kind = Frame (min total (b * suc n)); first = false; last = l }) packet) mid new came_out) goes sends));
      over = λ all.
          let ends : nat_eq end total ≡ true = sym last ∙ agree (n + 1) (blocks_in b total) all in
          packets_sent g.W.Target serial c.args.headers.now.held.next p a n sequence old mid new packet tt few c.bytes_fit.ensures (inv.going lt) is all
          (subst (λ l. SendsBits g.W.Target (packet_spelling (record { serial = serial; sequence = sequence; kind = Frame (min total (b * suc n)); first = false; last = l }) packet) mid new came_out) ends sends);
      buffers = c.write-room.ensures.kept ∙ inv.buffers;
      room = c.write-room.ensures.places ∙ inv.room;
      pages = c.paged-filled.ensures.places ∙ inv.pages;
      start = end_is ∙ ap (λ k. min total (b * k)) (let e : suc n ≡ n + 1 = omega arith in e);
      few = omega (arith, lt);
    }

pub loop-start-smaller : goal.loop-start-smaller
loop-start-smaller g c =
    let q = planned c.args.planned.now.plan.now c.block_size-size.ensures.good in
    let inv = c.loop-start.invariant in
    omega (arith, c.range-end.ensures.range.start, c.range-end.ensures.range.some, c.range-end.ensures.range.within, inv.start, c.loop-start-test.true, c.len-total.ensures, q.least)

pub returns : goal.returns
returns g c =
    let p = c.args.planned.now.plan.now in
    let a = c.args.planned.now.audio.now in
    let inv = c.loop-start.invariant in
    let q = planned p c.block_size-size.ensures.good in
    inv.over (all_gathered p.block_size (samples_each a.channels) c.loop-start.number q.least inv.few (omega (arith, inv.start, c.loop-start-test.false, c.len-total.ensures)))
