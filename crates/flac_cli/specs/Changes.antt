-- How a file compares with what an older report has of it.
use Rattle.std.specs.Prelude.{ℕ, Bool, true, false, cond, nat_lt, List, [], codes, Option, Some, None}
use Rattle.flac_info.specs.Info.{Info}
use Rattle.flac_native.specs.Stream.{is_unknown}
use Rattle.flac_shelf.specs.Listed.{Listed}
use Rattle.flac_shelf.specs.Past.{same_audio, same_stamp}
use Rattle.flac_shelf.specs.declared.past.Audio.{Audio}
use Rattle.flac_shelf.specs.declared.past.Earlier.{Earlier}
use Rattle.flac_shelf.specs.declared.past.Earlier.TheVariants as earlier
use Rattle.flac_shelf.specs.declared.stamp.Stamp.{Stamp}
use Rattle.flac_cli.specs.declared.verify.Finding.{Finding}
use Rattle.flac_cli.specs.declared.verify.Finding.TheVariants.{Good}
use Rattle.flac_cli.specs.declared.verify_change.Change.{Change}
use Rattle.flac_cli.specs.declared.verify_change.Change.TheVariants as change
use Rattle.flac_cli.specs.declared.verify_facts.Facts.{Facts}

-- ---- the audio of a file, as a report has it

-- a digest of STREAMINFO, if it is stated (RFC 9639, section 8.2)
abbrev pub stated : (digest : List ℕ) → Option (List ℕ)
stated digest = cond (is_unknown digest) None (Some digest)

abbrev pub stated_in : Option Info → Option (List ℕ)
stated_in None = None
stated_in (Some info) = stated info.digest

-- that of all samples: several streams have none
abbrev pub digest_of : Facts → Option (List ℕ)
digest_of facts = cond (nat_lt 1 facts.streams) None (stated_in facts.info)

-- in the format that this STREAMINFO states
abbrev pub audio_in : Option Info → (digest : Option (List ℕ)) → (samples : ℕ) → Audio
audio_in None digest samples = record { digest = digest; samples = samples; rate = None; channels = None; depth = None }
audio_in (Some info) digest samples =
    record { digest = digest; samples = samples; rate = Some info.rate; channels = Some info.channels; depth = Some info.depth }

abbrev pub audio_of : Facts → Audio
audio_of facts = audio_in facts.info (digest_of facts) facts.counts.samples

-- ---- what changed

-- the audio that it had, if it was good, and its size and time before and now
abbrev pub change_from : Option Audio → (before now : Stamp) → Finding → Change
change_from None before now (Good facts) = change.Better
change_from None before now other = change.Same
change_from (Some audio) before now (Good facts) =
    cond (same_audio audio (audio_of facts)) (cond (same_stamp before now) change.Same change.Tags) change.Audio
change_from (Some audio) before now other = change.Worse

abbrev pub change_of : Earlier → (now : Stamp) → Finding → Change
change_of earlier.Unasked now finding = change.Unasked
change_of earlier.New now finding = change.New
change_of (earlier.Was past) now finding = change_from past.audio past.stamp now finding

abbrev pub change_in : Listed → Finding → Change
change_in file finding = change_of file.earlier file.stamp finding

-- a file is as good as it was, with the same audio
abbrev pub is_kept : Change → Bool
is_kept change.Audio = false
is_kept change.Worse = false
is_kept other = true

-- the word that ends the line of a file
abbrev pub word_of : Change → List ℕ
word_of change.Unasked = []
word_of change.Same = codes " same"
word_of change.Tags = codes " tags"
word_of change.Audio = codes " audio"
word_of change.New = codes " new"
word_of change.Better = codes " better"
word_of change.Worse = codes " worse"
