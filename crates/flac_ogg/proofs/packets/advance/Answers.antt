use Rattle.std.proofs.Common.{◌≡◌, ◌<◌, ◌≤◌, ℕ, true, false, cond, None, Some, sym, ap, subst, ◌∙◌, arith}
use Rattle.flac_bits.specs.declared.why.Why.{Why}
use Rattle.flac_native.specs.Stream.{Stand, place_in}
use Rattle.flac_native.specs.Track.{stand_of, piece_of}
use Rattle.flac_pages.specs.Packets.{Met}
use Rattle.flac_ogg.specs.Steps.{without_packet}
use Rattle.flac_ogg.specs.Stream.{last_fault}
use Rattle.flac_ogg.proofs.Arriving.{begun_there, on_ok_at}
use Rattle.flac_ogg.proofs.Stepped.{begins_so, ok_step, err_step, end_step, fault_step}
use Rattle.flac_ogg.proofs.Breaking.{in_packet, in_next}
use Rattle.flac_ogg.proofs.PagesRead.{gave_next, broke_next, broke_before}
use Rattle.flac_ogg.proofs.packets.advance.Goals as goal

-- counts after two calls
kept_then : (old mid new : ℕ) → mid ≡ old → mid ≤ new → old ≤ new
kept_then old mid new e h = omega arith

kept_same : (old new : ℕ) → new ≡ old → old ≤ new
kept_same old new e = omega arith

spends_then : (old mid new : ℕ) → mid ≤ old → new < mid → new < old
spends_then old mid new h k = omega arith

met_then : (why told : Why) (old mid new : ℕ) → why ≡ told → mid ≡ old → Met told mid new → Met why old new
met_then why told old mid new e f met = subst (λ w. Met w old new) (sym e) (subst (λ n. Met told n new) f met)

pub returns-in-Ok : goal.returns-in-Ok
returns-in-Ok g c =
    let old = c.args.pages.now in
    let mid = c.next_packet.new.self in
    let begun = begins_so old mid c.in-Ok-true.field-0 true c.in-Ok-true.field-0-test c.in-Ok-true.ensures.begins in
    let read = c.read_packet in
    let ok = c.in-Ok.ensures in
    record {
      memory = λ frames. tt;
      kept = kept_then old.errors mid.errors read.new.pages.errors begun.errors read.ensures.kept;
      names = read.ensures.names ∙ begun.names;
      meets = ok.meets ∙ begun.raised;
      steps = λ p at way known same.
          ok_step (λ part. piece_of read.new.track part) (stand_of c.args.track.now) p old mid read.new.pages read.result c.in-Ok.part c.in-Ok.is at.stand begun known same (read.ensures.tells (begun_there at way)) (on_ok_at read.result _ _ (begun_there at way) read.ensures.ahead);
      broken = λ p at. tt;
      gave = gave_next old mid read.new.pages read.result c.in-Ok.part c.in-Ok.is begun read.ensures.pages read.ensures.goes;
      broke = tt;
      stands = ok.stands;
      spends = spends_then _ _ _ begun.room ok.spends;
      goes = (λ known. ok.goes.0 (begun.known known), ok.goes.1 ∙ begun.errors);
      made = ok.made;
      ordered = ok.ordered;
      next = ok.next;
    }

pub returns-in-Err-read_packet : goal.returns-in-Err-read_packet
returns-in-Err-read_packet g c =
    let old = c.args.pages.now in
    let mid = c.next_packet.new.self in
    let begun = begins_so old mid c.in-Ok-true.field-0 true c.in-Ok-true.field-0-test c.in-Ok-true.ensures.begins in
    let read = c.read_packet in
    let err = c.in-Err-read_packet.ensures in
    let told = c.in-Err-read_packet.told in
    let fault = c.packet_fault in
    record {
      memory = λ frames e. err.memory frames (sym fault.ensures.why ∙ e);
      kept = kept_then old.errors mid.errors read.new.pages.errors begun.errors read.ensures.kept;
      names = read.ensures.names ∙ begun.names;
      meets = met_then fault.result.why told.1 old.raised mid.raised read.new.pages.raised fault.ensures.why begun.raised err.meets;
      steps = λ p at way known same room.
          err_step (λ part. piece_of read.new.track part) (stand_of c.args.track.now) p old mid read.new.pages read.result told fault.result c.in-Err-read_packet.is at.stand begun known same (read.ensures.tells (begun_there at way))
          (fault.ensures.place p.stand (c.place-at.ensures ∙ ap (λ (s : Stand). place_in s.phase s.index) at.stand)) fault.ensures.why room;
      broken = λ p at.
          in_packet read.new.pages.count p told fault.result (fault.ensures.place p.stand (c.place-at.ensures ∙ ap (λ (s : Stand). place_in s.phase s.index) at.stand)) fault.ensures.why err.page (λ frames. err.memory (ap (λ (s : Stand). s.phase) at.stand ∙ frames));
      gave = tt;
      broke = broke_next old mid read.new.pages read.result told fault.result.why c.in-Err-read_packet.is fault.ensures.why begun read.ensures.pages read.ensures.page;
      stands = tt;
      spends = tt;
      goes = tt;
      made = tt;
      ordered = tt;
      next = tt;
    }

pub returns-in-Ok-judge_end : goal.returns-in-Ok-judge_end
returns-in-Ok-judge_end g c =
    let old = c.args.pages.now in
    let new = c.next_packet.new.self in
    let over = begins_so old new c.in-Ok-false.field-0 false c.in-Ok-false.field-0-test c.in-Ok-false.ensures.begins in
    record {
      memory = λ frames. tt;
      kept = kept_same old.errors new.errors over.errors;
      names = over.names;
      meets = over.raised;
      steps = λ p at way known same. end_step p old new over known ∙ c.in-Ok-judge_end.ensures.ends p at way;
      broken = λ p at. tt;
      gave = tt;
      broke = tt;
      stands = tt;
      spends = tt;
      goes = (over.known, over.errors);
      made = tt;
      ordered = c.in-Ok-judge_end.ensures.ordered;
      next = tt;
    }

pub returns-in-Err-judge_end : goal.returns-in-Err-judge_end
returns-in-Err-judge_end g c =
    let old = c.args.pages.now in
    let new = c.next_packet.new.self in
    let over = begins_so old new c.in-Ok-false.field-0 false c.in-Ok-false.field-0-test c.in-Ok-false.ensures.begins in
    let err = c.in-Err-judge_end.ensures in
    record {
      memory = λ frames. err.memory;
      kept = kept_same old.errors new.errors over.errors;
      names = over.names;
      meets = (λ e. absurd (err.quiet e), err.output);
      steps = λ p at way known same room. end_step p old new over known ∙ err.ends p at way;
      broken = λ p at. (λ e. absurd (err.quiet e), λ e. absurd (err.memory e));
      gave = tt;
      broke = λ e known. absurd (err.quiet e);
      stands = tt;
      spends = tt;
      goes = tt;
      made = tt;
      ordered = tt;
      next = tt;
    }

pub returns-in-Err : goal.returns-in-Err
returns-in-Err g c =
    let old = c.args.pages.now in
    let new = c.next_packet.new.self in
    let begins = c.in-Err.ensures.begins in
    let f : ℕ × Why = (c.in-Err.page, c.in-Err.why) in
    let fault = c.page_fault in
    record {
      memory = λ frames. fault.ensures.memory c.in-Err.ensures.memory;
      kept = begins.errors;
      names = begins.names;
      meets = fault.ensures.met _ _ begins.met;
      steps = λ p at way known same room.
          fault_step p old new f begins known same ∙ ap (λ b. without_packet p (last_fault p (cond b None (Some f)) (Some f))) (sym c.is_last.ensures) ∙ fault.ensures.fault p at way;
      broken = λ p at. in_next new.count c.in-Err.page p fault.result fault.ensures.page c.in-Err.ensures.page (fault.ensures.memory c.in-Err.ensures.memory);
      gave = tt;
      broke = broke_before old new f fault.result.why begins c.in-Err.ensures.page;
      stands = tt;
      spends = tt;
      goes = tt;
      made = tt;
      ordered = tt;
      next = tt;
    }
