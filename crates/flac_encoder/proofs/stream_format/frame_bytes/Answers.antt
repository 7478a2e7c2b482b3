use Rattle.std.proofs.Common.{arith, ap, ◌∙◌, nat_lt, ◌-◌}
use Rattle.flac_bits.specs.Bits.{bits_of}
use Rattle.flac_bits.specs.Written.{Written}
use Rattle.flac_bits.proofs.ItemSpellings.{fresh_unread}
use Rattle.flac_frame.specs.PlaneLists.{lists_of}
use Rattle.flac_frame.specs.Spelling.{frame_spelling}
use Rattle.flac_frame.proofs.FrameTie.{frames_bytes}
use Rattle.flac_header.specs.Spelling.{restarted}
use Rattle.flac_native.proofs.Heads.{Blank, head_collected}
use Rattle.flac_native.proofs.Predictors.{partition_is}
use Rattle.flac_encoder.proofs.Pushing.{frame_made, least_made}
use Rattle.flac_encoder.proofs.stream_format.frame_bytes.Goals as goal

pub returns-in-Ok-clause-frame : goal.returns-in-Ok-clause-frame
returns-in-Ok-clause-frame c =
    let wrote = c.in-Ok.ensures.wrote in
    let text = frame_spelling c.args.audio.now.bits wrote.0 in
    let writer = c.new-writer.result in
    let blank : Blank writer = record {
      known = ap (λ (v : Written). v.known) c.new-writer.ensures ∙ ap (λ e. nat_lt e 18446744073709551615) c.new.ensures.errors;
      bits = ap (λ (v : Written). v.bits) c.new-writer.ensures ∙ ap bits_of c.new.ensures.sent;
      unread = ap (λ (v : Written). v.mark.unread) c.new-writer.ensures;
    } in
    let begun : Blank (restarted writer) = record { known = blank.known; bits = blank.bits; unread = fresh_unread writer.mark blank.unread } in
    let is = head_collected (restarted writer) _ text c.into_bytes.result begun (frames_bytes c.args.audio.now.bits wrote.0) wrote.3 c.into_bytes.ensures.bytes in
    frame_made (lists_of c.args.predictors.now) c.args.audio.now (c.len-end.result - 0) c.args.number wrote.0 c.channels-channels.ensures.sound (omega (arith, c.len-end.ensures)) c.into_bytes.result wrote.1 wrote.2.1 is

pub returns-in-Ok-clause-least : goal.returns-in-Ok-clause-least
returns-in-Ok-clause-least c =
    let wrote = c.in-Ok.ensures.wrote in
    let text = frame_spelling c.args.audio.now.bits wrote.0 in
    let writer = c.new-writer.result in
    let blank : Blank writer = record {
      known = ap (λ (v : Written). v.known) c.new-writer.ensures ∙ ap (λ e. nat_lt e 18446744073709551615) c.new.ensures.errors;
      bits = ap (λ (v : Written). v.bits) c.new-writer.ensures ∙ ap bits_of c.new.ensures.sent;
      unread = ap (λ (v : Written). v.mark.unread) c.new-writer.ensures;
    } in
    let begun : Blank (restarted writer) = record { known = blank.known; bits = blank.bits; unread = fresh_unread writer.mark blank.unread } in
    let is = head_collected (restarted writer) _ text c.into_bytes.result begun (frames_bytes c.args.audio.now.bits wrote.0) wrote.3 c.into_bytes.ensures.bytes in
    least_made (lists_of c.args.predictors.now) c.args.audio.now (c.len-end.result - 0) c.args.number wrote.0 c.channels-channels.ensures.sound (omega (arith, c.len-end.ensures)) c.into_bytes.result wrote.2.0 is

pub returns-in-Err-clause-memory : goal.returns-in-Err-clause-memory
returns-in-Err-clause-memory c = let wrote = c.in-Err.ensures.wrote in c.in_memory.ensures.target wrote.3.reason

pub encode_frame_by_plane-requires-clause-partition : goal.encode_frame_by_plane-requires-clause-partition
encode_frame_by_plane-requires-clause-partition c = omega (arith, partition_is c.args.audio.now.profile c.args.audio.now.rate, c.requires.most)
