-- The lines of the report of `flac verify`: for each file that which `line_of` of flac_report has.
use Rattle.std.specs.Prelude.{ℕ, ◌+◌, min, Bool, true, false, cond, not, ◌||◌, nat_eq, List, [], ◌∷◌, flat_map, nat_lt, drop, Option, Some, None}
use Rattle.flac_bits.specs.Reasons.{number_of, text_of}
use Rattle.flac_bits.specs.declared.why.Why.{Why}
use Rattle.flac_info.specs.Info.{Info}
use Rattle.flac_native.specs.Places.{kind_name}
use Rattle.flac_native.specs.declared.fault.Place.{Place}
use Rattle.flac_native.specs.declared.fault.Place.TheVariants as place
use Rattle.flac_shelf.specs.Listed.{Contents, Listed}
use Rattle.flac_shelf.specs.declared.stamp.Stamp.{Stamp}
use Rattle.flac_report.specs.Entries.{Container, native, ogg, GoodFile, BadFile, Found, good, bad, unopened, Entry, line_of}
use Rattle.flac_cli.specs.Changes.{digest_of}
use Rattle.flac_cli.specs.declared.verify_facts.Facts.{Facts}
use Rattle.flac_cli.specs.declared.verify_facts.Flaw.{Flaw}
use Rattle.flac_cli.specs.declared.verify.Finding.{Finding}
use Rattle.flac_cli.specs.declared.verify.Finding.TheVariants.{Good, Bad, Unopened}

-- ---- what STREAMINFO says (RFC 9639, section 8.2)

abbrev pub rate_of : Option Info → Option ℕ
rate_of None = None
rate_of (Some info) = Some info.rate

abbrev pub channels_of : Option Info → Option ℕ
channels_of None = None
channels_of (Some info) = Some info.channels

abbrev pub depth_of : Option Info → Option ℕ
depth_of None = None
depth_of (Some info) = Some info.depth

-- whether a stream is in the streamable subset (section 7); not known if it was not looked for
abbrev pub subset_of : (is_sought outside : Bool) → Option Bool
subset_of is_sought true = Some false
subset_of true false = Some true
subset_of false false = None

-- the container of a stream (sections 6 and 10.1)
abbrev pub container_in : (is_ogg : Bool) → Container
container_in is_ogg = cond is_ogg ogg native

-- the number of streams, if there is more than one
abbrev pub several : (streams : ℕ) → Option ℕ
several n = cond (nat_lt 1 n) (Some n) None

-- the samples of each stream were compared with its digest, if each states one
abbrev pub good_file : (is_sought : Bool) → (tagged : Option Bool) → Facts → GoodFile
good_file is_sought tagged facts = record {
  container = Some (container_in facts.is_ogg);
  rate = rate_of facts.info;
  channels = channels_of facts.info;
  depth = depth_of facts.info;
  frames = facts.counts.frames;
  samples = facts.counts.samples;
  digest = digest_of facts;
  checked = not facts.no_digest;
  subset = subset_of is_sought facts.outside;
  id3 = tagged;
  streams = several facts.streams;
}

-- ---- where and why a file is refused

-- the number of a block, a frame or a page
abbrev pub index_of : Place → Option ℕ
index_of place.Marker = None
index_of (place.Block index) = Some index
index_of (place.Frame index) = Some index
index_of (place.Page index) = Some index
index_of place.End = None

-- the name of a reason, which comes after its number and a space
abbrev pub name_of : Why → List ℕ
name_of why = drop (cond (nat_lt (number_of why) 10) 2 3) (text_of why)

-- which stream it is, counted from 1, if it is not the first
abbrev pub number_of_stream : (stream : ℕ) → Option ℕ
number_of_stream n = cond (nat_eq n 0) None (Some (min (n + 1) 18446744073709551615))

-- and the number of the first sample that was not decoded
abbrev pub bad_file : Flaw → BadFile
bad_file flaw = record {
  place = kind_name flaw.fault.at;
  index = index_of flaw.fault.at;
  error = number_of flaw.fault.why;
  name = name_of flaw.fault.why;
  sample = Some flaw.samples;
  stream = number_of_stream flaw.stream;
}

-- ---- what is said of a file

abbrev pub found_of : (is_sought : Bool) → (tagged : Option Bool) → Finding → Found
found_of is_sought tagged (Good facts) = good (good_file is_sought tagged facts)
found_of is_sought tagged (Bad flaw) = bad (bad_file flaw)
found_of is_sought tagged Unopened = unopened

-- its path, its size and its time, and what was found
abbrev pub entry_of : (path : List ℕ) → Stamp → (is_sought : Bool) → (tagged : Option Bool) → Finding → Entry
entry_of path stamp is_sought tagged finding = record { path = path; stamp = stamp; found = found_of is_sought tagged finding }

-- Whether it is looked for that a stream is in the streamable subset: if only that is asked for, or the file can be
-- read again.
abbrev pub is_sought_in : (subset : Bool) → Option Contents → Bool
is_sought_in subset None = subset
is_sought_in subset (Some of) = subset || of.again

abbrev pub report_entry : (subset : Bool) → Listed → Finding → Entry
report_entry subset file finding = entry_of file.path file.stamp (is_sought_in subset file.contents) file.tagged finding

-- of all files, in order
abbrev pub report_entries : (subset : Bool) → List Listed → List Finding → List Entry
report_entries subset [] findings = []
report_entries subset files [] = []
report_entries subset (file ∷ files) (finding ∷ findings) = report_entry subset file finding ∷ report_entries subset files findings

-- ---- the lines

abbrev pub report_line : (subset : Bool) → Listed → Finding → List ℕ
report_line subset file finding = line_of (report_entry subset file finding)

-- those of all files, in order
abbrev pub report_lines : (subset : Bool) → List Listed → List Finding → List ℕ
report_lines subset files findings = flat_map line_of (report_entries subset files findings)
