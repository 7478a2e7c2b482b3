use Rattle.std.proofs.Common.{◌≡◌, ◌∙◌, ℤ, Vec, Global, None, map, subst}
use Rattle.flac_frame.specs.Audio.{Sound, audio_fault}
use Rattle.flac_raw.proofs.Refused.{sound_good}
use Rattle.flac_cli.proofs.recode.audio_of.Goals as goal

pub returns-clause-good : goal.returns-clause-good
returns-clause-good c =
    let profile = c.args.profile in
    let cs = map (λ (v : Vec ℤ Global). v.items) c.args.channels.items in
    let all = subst (λ (a : Sound). audio_fault a.profile a.rate a.bits a.channels ≡ None) c.in_ok-audio.ensures (sound_good c.in_ok-audio.audio c.channels-channels.ensures.sound) in
    subst (λ d. audio_fault profile c.args.info.now.rate d cs ≡ None) (c.from.ensures ∙ c.depth.ensures.value) (subst (λ r. audio_fault profile r c.from.result cs ≡ None) c.rate.ensures.value all)
