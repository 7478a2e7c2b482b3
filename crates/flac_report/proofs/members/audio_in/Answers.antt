use Rattle.flac_report.proofs.Pasts.{audio_is}
use Rattle.flac_report.proofs.members.audio_in.Goals as goal

pub returns : goal.returns
returns c =
    audio_is c.args.text.now c.member_in-rate.result.1.now c.member_in-channels.result.1.now c.member_in-depth.result.1.now c.member_in.result.1.now c.member_in-samples.result.1.now
    c.member_in-rate.result.0 c.member_in-channels.result.0 c.member_in-depth.result.0 c.member_in-samples.result.0 c.in_ok-samples.field-0 c.with_digest.result
    c.member_in-rate.ensures.value c.member_in-rate.ensures.after c.member_in-channels.ensures.value c.member_in-channels.ensures.after
    c.member_in-depth.ensures.value c.member_in-depth.ensures.after c.member_in.ensures.after
    c.member_in-samples.ensures.value c.member_in-samples.ensures.after c.in_ok-samples.was c.with_digest.ensures
