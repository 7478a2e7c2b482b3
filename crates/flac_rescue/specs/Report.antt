-- What is printed of a stream in which something is missing.
use Rattle.std.specs.Prelude.{◌≡◌, ℕ, ◌+◌, ◌-◌, ◌*◌, ◌/◌, ◌%◌, cond, nat_eq, nat_lt, List, [], ◌∷◌, ◌++◌, flat_map, length, codes, decimal, min, ◌^◌, Option, Some, None, true}
use Rattle.flac_bits.specs.declared.target.Target as target
use Rattle.flac_salvage.specs.declared.find.WholeFrame.{WholeFrame}
use Rattle.flac_rescue.specs.declared.missing.Gap.{Gap}
use Rattle.flac_rescue.specs.Survey.{IsSurvey}
use Rattle.flac_rescue.specs.declared.survey.Survey.{Survey}

-- the two last digits of a number below 100, and the three of one below 1000
abbrev pub two_digits : ℕ → List ℕ
two_digits n = (48 + n / 10) ∷ (48 + n % 10) ∷ []

abbrev pub three_digits : ℕ → List ℕ
three_digits n = (48 + n / 100) ∷ (48 + n / 10 % 10) ∷ (48 + n % 10) ∷ []

-- when a sample comes: minutes, seconds and thousandths, rounded down
abbrev pub time_text : (rate sample : ℕ) → List ℕ
time_text rate sample = (((decimal (sample / rate / 60) ++ codes ":") ++ two_digits (sample / rate % 60)) ++ codes ".") ++ three_digits (sample % rate * 1000 / rate)

-- a range, by its first number and its last
abbrev pub range_text : (first next : ℕ) → List ℕ
range_text first next = (decimal first ++ codes " to ") ++ decimal (next - 1)

-- where bytes are: "bytes 10 to 19", or "byte 10" if there are none before it
abbrev pub place_text : (start end : ℕ) → List ℕ
place_text start end = cond (nat_lt start end) (codes "bytes " ++ range_text start end) (codes "byte " ++ decimal start)

-- samples that are missing, and when
abbrev pub samples_text : (rate first next : ℕ) → List ℕ
samples_text rate first next = ((((codes ": samples " ++ range_text first next) ++ codes " missing, ") ++ time_text rate first) ++ codes " to ") ++ time_text rate (next - 1)

-- what a line about the file of this path begins with
abbrev pub line : (path : List ℕ) → List ℕ
line path = (codes "flac: " ++ path) ++ codes ": "

-- the line of a gap in which samples are missing, and of one that has bytes alone
unfoldable pub samples_line : (path : List ℕ) (rate : ℕ) → Gap → List ℕ
samples_line path rate g = ((line path ++ place_text g.start g.end) ++ samples_text rate g.first g.next) ++ codes "\n"

unfoldable pub bytes_line : (path : List ℕ) → Gap → List ℕ
bytes_line path g = (line path ++ place_text g.start g.end) ++ codes ": no frame, no sample is missing\n"

-- the line of a gap; none if it is empty
abbrev pub gap_line : (path : List ℕ) (rate : ℕ) → Gap → List ℕ
gap_line path rate g = cond (nat_lt g.first g.next) (samples_line path rate g) (cond (nat_lt g.start g.end) (bytes_line path g) [])

-- where a frame stands, and its samples
unfoldable pub spot_text : WholeFrame → List ℕ
spot_text f = ((((codes "frame at byte " ++ decimal f.at) ++ codes ": out of order, ") ++ decimal f.size) ++ codes " samples from ") ++ decimal f.first

-- the line of a frame that stands whole and is not kept
unfoldable pub other_line : (path : List ℕ) → WholeFrame → List ℕ
other_line path f = (line path ++ spot_text f) ++ codes "\n"

-- the line of the offset up to which frames were looked for, if the search ended early
abbrev pub cut_line : (path : List ℕ) → Option ℕ → List ℕ
cut_line path None = []
cut_line path (Some at) = ((line path ++ codes "searched up to byte ") ++ decimal at) ++ codes " only\n"

-- a number of samples, and those of these frames; at most 2^64 - 1
unfoldable pub and_samples : ℕ → List WholeFrame → ℕ
and_samples n [] = n
and_samples n (f ∷ more) = and_samples (min (n + f.size) (2 ^ 64 - 1)) more

-- the total, if one is stated
abbrev pub of_total : (total : ℕ) → List ℕ
of_total total = cond (nat_eq total 0) [] (codes " of " ++ decimal total)

-- the last line: how much was found
unfoldable pub last_line : (path : List ℕ) (total : ℕ) → List WholeFrame → List ℕ
last_line path total kept = (((((line path ++ codes "found ") ++ decimal (and_samples 0 kept)) ++ of_total total) ++ codes " samples in ") ++ decimal (length kept)) ++ codes " frames\n"

-- lines, and a last one if there are any
abbrev pub with_last : (lines last : List ℕ) → List ℕ
with_last [] last = []
with_last (b ∷ lines) last = (b ∷ lines) ++ last

-- the lines of these gaps and other frames of a stream, and of where the search ended
abbrev pub lines_text : (path : List ℕ) → Survey → List Gap → List WholeFrame → (cut : Option ℕ) → List ℕ
lines_text path s gaps others cut = with_last
    ((flat_map (gap_line path s.info.rate) gaps ++ flat_map (other_line path) others) ++ cut_line path cut)
    (last_line path s.info.total s.kept.items)

-- the lines of what was found of a stream: none if all of it is there
abbrev pub report_text : (path : List ℕ) → Survey → List ℕ
report_text path s = lines_text path s s.gaps.items s.others.items s.found.cut

-- the lines of a survey of these bytes were printed
pub record Tells (bytes path before after : List ℕ) : Type 0 where
  pub survey : Survey
  pub is : IsSurvey bytes survey
  pub printed : after ≡ before ++ report_text path survey

-- this was printed, if the bytes of the target are known and it did not fail
abbrev pub HasTold : {T : Type 0} → target.Ghosts T → (bytes path : List ℕ) → (old new : T) → Type 0
HasTold h bytes path old new = h.known old ≡ true → h.errors new ≡ h.errors old → Tells bytes path (h.sent old) (h.sent new)
