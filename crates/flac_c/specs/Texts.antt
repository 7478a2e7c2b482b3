-- The texts of numbers.
use Rattle.std.specs.Prelude.{◌≡◌, ◌≢◌, ◌<◌, ◌⊎◌, ℕ, List}
use Rattle.flac_bits.specs.Reasons as reasons
use Rattle.flac_bits.specs.declared.why.Why.{Why}
use Rattle.flac_frame.specs.Setup as setup
use Rattle.flac_frame.specs.declared.setup.SetupFault.{SetupFault}
use Rattle.flac_wave.specs.Reasons as wave
use Rattle.flac_wave.specs.declared.why.WaveWhy.{WaveWhy}
use Rattle.flac_c.specs.Answers.{IsCopied}

-- the text of the reason with this number is copied, if there is one: that of a refusal, that of samples and plans that
-- cannot be encoded
abbrev pub CopiesReason : (number : ℕ) → (out new : List ℕ) → (len : ℕ) → Type 0
CopiesReason number out new len = (why : Why) → reasons.number_of why ≡ number → IsCopied (reasons.text_of why) out new len

abbrev pub CopiesSetup : (number : ℕ) → (out new : List ℕ) → (len : ℕ) → Type 0
CopiesSetup number out new len = (fault : SetupFault) → setup.number_of fault ≡ number → IsCopied (setup.text_of fault) out new len

-- or that of bytes that are no WAV file
abbrev pub CopiesWave : (number : ℕ) → (out new : List ℕ) → (len : ℕ) → Type 0
CopiesWave number out new len = (why : WaveWhy) → wave.number_of why ≡ number → IsCopied (wave.text_of why) out new len

-- a number of no reason
abbrev pub IsNoReason : ℕ → Type 0
IsNoReason number = (number ≡ 0) ⊎ (((47 < number) × (number < 51)) ⊎ (((52 < number) × (number < 60)) ⊎ ((70 < number) × (number ≢ 92))))
