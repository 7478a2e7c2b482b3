-- The rules at the end of a stream.
use Rattle.std.specs.Prelude.{◌≡◌, ℕ, min, List, Some, Result, Ok, Err}
use Rattle.flac_bits.specs.Layout.{Rule}
use Rattle.flac_bits.specs.Meaning.{AllKept, BreaksFirst}
use Rattle.flac_bits.specs.declared.why.Why.{Why}
use Rattle.flac_info.specs.Info.{Info}
use Rattle.flac_native.specs.Stream.{end_rules}
use Rattle.md5.specs.Md5.{Holds}
use Rattle.md5.specs.declared.Md5.{Md5}

-- all rules are kept, or the first that is broken gives this reason
abbrev pub EndsBy : {X : Type 0} → List Rule → Result X Why → Type 0
EndsBy rules (Ok x) = AllKept rules
EndsBy rules (Err e) = BreaksFirst rules e

-- the rules of this STREAMINFO, for all samples of which this is the count, up to 2^64 - 1, and whose MD5 input the
-- hasher has taken
abbrev pub JudgesEnd : {X : Type 0} → Info → ℕ → Md5 → Result X Why → Type 0
JudgesEnd info samples hasher result = (count : ℕ) (message : List ℕ) → samples ≡ min count 18446744073709551615 → Holds hasher message → EndsBy (end_rules (Some info) count message) result
