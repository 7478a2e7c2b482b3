use Rattle.std.proofs.Common.{take, ◌∙◌}
use Rattle.flac_copy.proofs.Taken.{more_taken}
use Rattle.flac_copy.proofs.packets.take_bytes.Goals as goal

pub returns-then-n-lt-PIECE-clause-taken : goal.returns-then-n-lt-PIECE-clause-taken
returns-then-n-lt-PIECE-clause-taken g c =
    let inv = c.taking.invariant in
    more_taken c.args.bits.now c.taking.bits c.take_bytes.new.self c.args.bytes.now.items c.taking.bytes.items c.extend_from_slice.new.self.items (take c.in_ok-n.n c.take_bytes.new.out)
    inv.went.0 inv.taken c.in_ok-n.ensures.taken c.in_ok-extend_from_slice.ensures.items

pub taking-preserved : goal.taking-preserved
taking-preserved g c =
    let inv = c.taking.invariant in
    let got = c.in_ok-n.ensures in
    record {
      whole = got.whole;
      room = c.take_bytes.auto.out ∙ inv.room;
      went = (λ known. got.counts.0 (inv.went.0 known), got.counts.1 ∙ inv.went.1, got.counts.2 ∙ inv.went.2, λ known. got.counts.3 (inv.went.0 known) ∙ inv.went.3 known, got.counts.4 ∙ inv.went.4);
      taken = more_taken c.args.bits.now c.taking.bits c.take_bytes.new.self c.args.bytes.now.items c.taking.bytes.items c.extend_from_slice.new.self.items (take c.in_ok-n.n c.take_bytes.new.out)
          inv.went.0 inv.taken got.taken c.in_ok-extend_from_slice.ensures.items;
    }
