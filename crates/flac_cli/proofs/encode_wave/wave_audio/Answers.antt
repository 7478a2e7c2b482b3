use Rattle.std.proofs.Common.{refl, length}
use Rattle.std.proofs.lemmas.Result.{err_from_is_err_and}
use Rattle.flac_raw.proofs.Rows.{raw_is}
use Rattle.flac_raw.proofs.Refused.{sound_of}
use Rattle.flac_cli.proofs.Refused.{bad_format, bad_samples, good_samples}
use Rattle.flac_cli.proofs.encode_wave.wave_audio.Goals as goal

pub returns-in-Some : goal.returns-in-Some
returns-in-Some c = λ raw are. bad_format c.args.profile c.args.format raw c.in-Some.fault c.in-Some.ensures.fault

pub returns-in_err-audio : goal.returns-in_err-audio
returns-in_err-audio c =
    let p = err_from_is_err_and c.from_residual.result c.from_residual.ensures.1 in
    rw (p.1, p.2) (λ raw are. bad_samples c.args.profile c.args.format raw (length raw) c.in_err-audio.field-0.0 raw _ c.in_default.ensures.fault refl are.whole are.are refl c.in_err-audio.ensures)

pub returns : goal.returns
returns c = λ raw are.
    let profile = c.args.profile in
    let format = c.args.format in
    let audio = c.in_ok-audio.audio in
    let sound = sound_of profile format raw raw audio _ c.in_ok-audio.ensures are.are refl in (
      raw_is profile format raw raw audio _ c.in_ok-audio.ensures c.channels-channels.ensures.sound are.are refl,
      sound,
      good_samples profile format raw (length raw) audio c.in_default.ensures.fault refl are.whole sound c.channels-channels.ensures.sound,
    )
