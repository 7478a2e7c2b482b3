-- What `flac verify` finds of files, and what it prints.
use Rattle.std.specs.Prelude.{◌≡◌, ◌↔◌, ℕ, ◌+◌, ◌&&◌, Bool, true, false, cond, nat_eq, nat_lt, List, [], ◌∷◌, ◌++◌, length, codes, decimal, Option, Some, None}
use Rattle.std.specs.List.{list_any}
use Rattle.flac_bits.specs.declared.why.Why.TheVariants as why
use Rattle.flac_info.specs.Info.{Info}
use Rattle.flac_header.specs.declared.subset.Profile.{Profile}
use Rattle.flac_header.specs.declared.subset.Profile.TheVariants.{Subset, Lax}
use Rattle.flac_native.specs.Places.{fault_text}
use Rattle.flac_native.specs.Stream.{Piece, marked, block, framed, info_after, is_unknown}
use Rattle.flac_ogg.specs.Either.{begins_page}
use Rattle.flac_chain.specs.Chained.{all_parts, IsChain, IsChainRefused}
use Rattle.flac_shelf.specs.Listed.{Contents, Listed}
use Rattle.flac_shelf.specs.Shown.{shown}
use Rattle.flac_cli.specs.Chains.{ReadsAsChain, stream_path}
use Rattle.flac_cli.specs.Changes.{change_in, is_kept, word_of}
use Rattle.flac_cli.specs.Counted.{frames_in, samples_in_all, printed}
use Rattle.flac_cli.specs.Outcomes.{Fits}
use Rattle.flac_cli.specs.Reports.{fault_line}
use Rattle.flac_cli.specs.declared.verify_change.Change.{Change}
use Rattle.flac_cli.specs.declared.verify_facts.Facts.{Facts}
use Rattle.flac_cli.specs.declared.verify_facts.Flaw.{Flaw}
use Rattle.flac_cli.specs.declared.verify.Finding.{Finding}
use Rattle.flac_cli.specs.declared.verify.Finding.TheVariants.{Good, Bad, Unopened}

-- ---- what a file is

-- the profile in which files are read: that of the streamable subset (RFC 9639, section 7), or all of FLAC
abbrev pub asked_profile : (subset : Bool) → Profile
asked_profile subset = cond subset Subset Lax

-- the STREAMINFO of a stream, which has one (section 8.2)
abbrev pub info_in : Option Info → List Piece → Option Info
info_in known [] = known
info_in known (marked ∷ xs) = info_in known xs
info_in known (block last b ∷ xs) = info_in (info_after known b) xs
info_in known (framed f ∷ xs) = info_in known xs

-- it does not state the digest of the samples, or their number
abbrev pub lacks_digest : Option Info → Bool
lacks_digest None = true
lacks_digest (Some info) = is_unknown info.digest

abbrev pub lacks_total : Option Info → Bool
lacks_total None = true
lacks_total (Some info) = nat_eq info.total 0

-- that of the first of several streams
abbrev pub first_info : List (List Piece) → Option Info
first_info [] = None
first_info (p ∷ ps) = info_in None p

-- Of streams of these parts: the counts of all of them together, the STREAMINFO of the first, how many streams there are,
-- and whether one of them states no digest of its samples, or not their number.
pub record Describes (parts : List (List Piece)) (facts : Facts) : Type 0 where
  pub frames : facts.counts.frames ≡ printed (frames_in (all_parts parts))
  pub samples : facts.counts.samples ≡ printed (samples_in_all (all_parts parts))
  pub info : facts.info ≡ first_info parts
  pub streams : facts.streams ≡ printed (length parts)
  pub no_digest : facts.no_digest ≡ list_any (λ p. lacks_digest (info_in None p)) parts
  pub no_total : facts.no_total ≡ list_any (λ p. lacks_total (info_in None p)) parts

-- These bytes are a stream in this profile, native or Ogg, or Ogg streams one after another (RFC 3533, section 4), each
-- without the empty packets at its end: `IsChain` of flac_chain. These facts describe their parts.
abbrev pub IsDescribed : Profile → (bytes : List ℕ) → Facts → Type 0
IsDescribed profile bytes facts = (parts : List (List Piece)) × IsChain profile bytes parts × Describes parts facts

-- They are in the container that the facts name: Ogg (section 10.1) if the first byte is that of a page, else native
-- (section 6). `link_reading` of flac_chain reads each stream so.
abbrev pub IsStreamOf : Profile → Contents → Facts → Type 0
IsStreamOf profile of facts = IsDescribed profile of.bytes facts × (facts.is_ogg ≡ begins_page of.bytes)

-- These bytes are refused in this profile, in the stream of this number, counted from 0, at this place of it and for this
-- reason; after parts of so many samples, those of the streams before it too. So that is the number of the first sample
-- that was not decoded.
abbrev pub IsRefusedAs : Profile → (bytes : List ℕ) → Flaw → Type 0
IsRefusedAs profile bytes flaw =
    (parts : List (List Piece)) × (items : List Piece) × IsChainRefused profile bytes parts items flaw.fault.at flaw.fault.why
    × (flaw.stream ≡ length parts) × (flaw.samples ≡ printed (samples_in_all (all_parts parts ++ items)))

-- A stream of FLAC that is none of the streamable subset, or several, of which one is not in it. It is looked for only if
-- all of FLAC is asked for and the file can be read again.
pub record IsOutside (subset : Bool) (of : Contents) : Type 0 where
  pub asked : subset ≡ false
  pub again : of.again ≡ true
  pub outside : ReadsAsChain Subset of.bytes None → ⊥

-- What a file is: a stream or several, with these facts; refused, with this flaw; or it cannot be opened.
abbrev pub IsFinding : (subset : Bool) → Option Contents → Finding → Type 0
IsFinding subset None Unopened = Unit {0}
IsFinding subset (Some of) (Good facts) = IsStreamOf (asked_profile subset) of facts × (facts.outside ≡ true ↔ IsOutside subset of)
IsFinding subset (Some of) (Bad flaw) = IsRefusedAs (asked_profile subset) of.bytes flaw
IsFinding subset contents finding = ⊥

-- memory ran out, which no file shows
abbrev pub HasNoMemory : Finding → Type 0
HasNoMemory (Bad flaw) = flaw.fault.why ≡ why.Memory
HasNoMemory other = ⊥

-- the same, and nothing else is, unless memory ran out
abbrev pub IsFound : (subset : Bool) → Option Contents → Finding → Type 0
IsFound subset contents finding = Fits HasNoMemory (IsFinding subset contents) finding

-- each file was found to be what its own bytes are, and that alone, unless memory ran out
abbrev pub AreFound : (subset : Bool) → List Listed → List Finding → Type 0
AreFound subset [] [] = Unit {0}
AreFound subset (file ∷ files) (finding ∷ findings) = IsFound subset file.contents finding × AreFound subset files findings
AreFound subset files findings = ⊥

-- a file is a stream, or streams one after another
abbrev pub IsWhole : (subset : Bool) → Option Contents → Type 0
IsWhole subset None = ⊥
IsWhole subset (Some of) = ReadsAsChain (asked_profile subset) of.bytes None

-- each file is
abbrev pub AreWhole : (subset : Bool) → List Listed → Type 0
AreWhole subset [] = Unit {0}
AreWhole subset (file ∷ files) = IsWhole subset file.contents × AreWhole subset files

-- If the files of a list are known, and none was given back after its device had failed, this holds.
abbrev pub IfNoneFails : {S : Type 0} (known : S → Bool) (faults : S → ℕ) (old new : S) → Type 0 → Type 0
IfNoneFails known faults old new Says = known old ≡ true → faults new ≡ faults old → Says

-- then each of its files is a stream, or several
abbrev pub FilesAreWhole : {S : Type 0} (known : S → Bool) (faults : S → ℕ) (files : S → List Listed) → (subset : Bool) → (old new : S) → Type 0
FilesAreWhole known faults files subset old new = IfNoneFails known faults old new (AreWhole subset (files old))

-- All files of a list have come: none is left, and what is gone of an older report is what was to be gone of it.
pub record HaveCome {S : Type 0} (files : S → List Listed) (gone : S → List (List ℕ)) (old new : S) : Type 0 where
  pub over : files new ≡ []
  pub left : gone new ≡ gone old

-- ---- what is printed

-- a word that is printed if this holds
abbrev pub word_if : Bool → (word : List ℕ) → List ℕ
word_if holds word = cond holds word []

-- tags of other programs are around a stream, as far as that was looked for
abbrev pub is_tagged : (tagged : Option Bool) → Bool
is_tagged None = false
is_tagged (Some tagged) = tagged

-- the number of streams, if there is more than one
abbrev pub streams_text : (streams : ℕ) → List ℕ
streams_text n = cond (nat_lt 1 n) (codes " streams " ++ decimal n) []

-- the words after the counts of a stream, the last of which is that of a change
abbrev pub words_of : Change → (tagged : Option Bool) → Facts → List ℕ
words_of change tagged facts =
    word_if facts.no_digest (codes " no-md5") ++ (word_if facts.no_total (codes " no-total") ++ (word_if facts.outside (codes " outside-subset")
    ++ (word_if (is_tagged tagged) (codes " id3") ++ word_of change)))

-- the line of a text about a file, whose path is printed without control characters
abbrev pub file_line : (path text : List ℕ) → List ℕ
file_line path text = fault_line (shown path) text

-- the line of a stream: `ok PATH: frames 2 samples 8192 no-md5 same`, and of several, by the counts of all of them:
-- `ok PATH: frames 4 samples 16384 streams 2`
abbrev pub ok_line : (path : List ℕ) → Change → (tagged : Option Bool) → Facts → List ℕ
ok_line path change tagged facts =
    codes "ok " ++ (shown path ++ (codes ": frames " ++ (decimal facts.counts.frames ++ (codes " samples " ++ (decimal facts.counts.samples ++ (streams_text facts.streams ++ (words_of change tagged facts ++ codes "\n")))))))

-- what a file adds to standard output
abbrev pub ok_part : (path : List ℕ) → Change → (tagged : Option Bool) → Finding → List ℕ
ok_part path change tagged (Good facts) = ok_line path change tagged facts
ok_part path change tagged other = []

-- what a file adds to standard error: the line of its fault, with the number of the stream if it is not the first, and the
-- word of a change
abbrev pub bad_part : (path : List ℕ) → Change → Finding → List ℕ
bad_part path change (Good facts) = []
bad_part path change (Bad flaw) = fault_line (stream_path (shown path) flaw.stream) (fault_text flaw.fault ++ word_of change)
bad_part path change Unopened = file_line path (codes "cannot be opened" ++ word_of change)

abbrev pub ok_of : Listed → Finding → List ℕ
ok_of file finding = ok_part file.path (change_in file finding) file.tagged finding

abbrev pub bad_of : Listed → Finding → List ℕ
bad_of file finding = bad_part file.path (change_in file finding) finding

-- what all files add to standard output
abbrev pub ok_lines : List Listed → List Finding → List ℕ
ok_lines [] findings = []
ok_lines files [] = []
ok_lines (file ∷ files) (finding ∷ findings) = ok_of file finding ++ ok_lines files findings

-- each file is as good as it was in the older report, with the same audio
abbrev pub all_kept : List Listed → List Finding → Bool
all_kept [] findings = true
all_kept files [] = true
all_kept (file ∷ files) (finding ∷ findings) = is_kept (change_in file finding) && all_kept files findings

-- the lines of the files of an older report that were not met
abbrev pub gone_line : (path : List ℕ) → List ℕ
gone_line path = codes "gone " ++ (shown path ++ codes "\n")

abbrev pub gone_lines : List (List ℕ) → List ℕ
gone_lines [] = []
gone_lines (path ∷ paths) = gone_line path ++ gone_lines paths

-- how many files are streams, and how many are not
abbrev pub good_count : List Finding → ℕ
good_count [] = 0
good_count (Good facts ∷ findings) = good_count findings + 1
good_count (other ∷ findings) = good_count findings

abbrev pub bad_count : List Finding → ℕ
bad_count [] = 0
bad_count (Good facts ∷ findings) = bad_count findings
bad_count (other ∷ findings) = bad_count findings + 1

-- the last line: `verified 3 ok 2 bad 1`
abbrev pub last_line : (files good bad : ℕ) → List ℕ
last_line files good bad = codes "verified " ++ (decimal files ++ (codes " ok " ++ (decimal good ++ (codes " bad " ++ (decimal bad ++ codes "\n")))))

-- all that is printed to standard output
abbrev pub printed_lines : List Listed → List Finding → List ℕ
printed_lines files findings = ok_lines files findings ++ last_line (printed (length findings)) (printed (good_count findings)) (printed (bad_count findings))
