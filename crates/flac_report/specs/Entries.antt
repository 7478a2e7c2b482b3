-- What the line of a file says in the report of a verification, and how it is written.
use Rattle.std.specs.Prelude.{◌≡◌, ◌<◌, ◌^◌, ℕ, Bool, true, List, [], ◌∷◌, codes, length, All, Option, Some, None, IfSome}
use Rattle.std.specs.Str.{is_utf8}
use Rattle.flac_json.specs.Json.{number, text, truth}
use Rattle.flac_json.specs.Texts.{all_digits}
use Rattle.flac_shelf.specs.declared.past.Audio.{Audio}
use Rattle.flac_shelf.specs.declared.past.Past.{Past}
use Rattle.flac_shelf.specs.declared.stamp.Stamp.{Stamp}
use Rattle.flac_report.specs.Objects.{Member, object_line, valued, counted, present}

-- the container of a stream (RFC 9639, sections 6 and 10.1)
pub data Container : Type 0 where
  native : Container
  ogg : Container

-- A stream that is good. What STREAMINFO says is known if there is one (RFC 9639, section 8.2): the sample rate in
-- hertz, the number of channels, the bits per sample, and the MD5 of the samples, if it is stated. `checked`: the
-- samples were compared with it. `subset`: whether the stream is in the streamable subset (section 7), if that was
-- looked for. `id3`: whether a tag of another program stands before or after the stream. A report of an earlier version
-- has neither this nor the container. `streams`: how many Ogg streams there are one after another (RFC 3533, section 4),
-- if there is more than one. Then the format is that of the first, no digest is stated, `checked` says that the samples
-- of each were compared with its own, and `subset` that each is in it.
pub record GoodFile : Type 0 where
  pub container : Option Container
  pub rate : Option ℕ
  pub channels : Option ℕ
  pub depth : Option ℕ
  pub frames : ℕ
  pub samples : ℕ
  pub digest : Option (List ℕ)
  pub checked : Bool
  pub subset : Option Bool
  pub id3 : Option Bool
  pub streams : Option ℕ

-- Where and why a file is refused: the name of the place, the number of the block, frame or page, the number and the
-- name of the error, and the number of the first sample that was not decoded, which a report of an earlier version does
-- not have. `stream`: which of several streams it is, counted from 1, if it is not the first; its places are its own.
pub record BadFile : Type 0 where
  pub place : List ℕ
  pub index : Option ℕ
  pub error : ℕ
  pub name : List ℕ
  pub sample : Option ℕ
  pub stream : Option ℕ

pub data Found : Type 0 where
  good : GoodFile → Found
  bad : BadFile → Found
  unopened : Found

-- a file, by its path, with its size and time
pub record Entry : Type 0 where
  pub path : List ℕ
  pub stamp : Stamp
  pub found : Found

-- ---- its line

abbrev pub status_of : Found → List ℕ
status_of (good g) = codes "ok"
status_of (bad b) = codes "bad"
status_of unopened = codes "unopened"

abbrev pub container_name : Container → List ℕ
container_name native = codes "native"
container_name ogg = codes "ogg"

abbrev pub container_member : Option Container → Option Member
container_member None = None
container_member (Some container) = valued (codes "container") (text (container_name container))

-- the container of a file that is good
abbrev pub container_of : Found → Option Container
container_of (good g) = g.container
container_of (bad b) = None
container_of unopened = None

abbrev pub digest_member : Option (List ℕ) → Option Member
digest_member None = None
digest_member (Some digest) = valued (codes "md5") (text (all_digits digest))

abbrev pub subset_member : Option Bool → Option Member
subset_member None = None
subset_member (Some inside) = valued (codes "subset") (truth inside)

abbrev pub id3_member : Option Bool → Option Member
id3_member None = None
id3_member (Some tagged) = valued (codes "id3") (truth tagged)

abbrev pub found_members : Found → List (Option Member)
found_members (good g) =
    counted (codes "rate") g.rate ∷ counted (codes "channels") g.channels ∷ counted (codes "depth") g.depth
    ∷ valued (codes "frames") (number g.frames) ∷ valued (codes "samples") (number g.samples)
    ∷ digest_member g.digest ∷ valued (codes "md5_checked") (truth g.checked) ∷ subset_member g.subset ∷ id3_member g.id3 ∷ counted (codes "streams") g.streams ∷ []
found_members (bad b) =
    valued (codes "place") (text b.place) ∷ counted (codes "index") b.index
    ∷ valued (codes "error") (number b.error) ∷ valued (codes "name") (text b.name) ∷ counted (codes "sample") b.sample
    ∷ counted (codes "stream") b.stream ∷ []
found_members unopened = []

-- the path, what was found and in which container, the size and the time
abbrev pub entry_members : Entry → List Member
entry_members e =
    record { name = codes "path"; value = text e.path }
    ∷ present (valued (codes "status") (text (status_of e.found)) ∷ container_member (container_of e.found) ∷ counted (codes "bytes") e.stamp.bytes
    ∷ counted (codes "modified") e.stamp.modified ∷ counted (codes "nanoseconds") e.stamp.nanoseconds
    ∷ found_members e.found)

abbrev pub line_of : Entry → List ℕ
line_of e = object_line (entry_members e)

-- ---- what an older report has of the file

abbrev pub audio_of : Found → Option Audio
audio_of (good g) =
    Some (record { digest = g.digest; samples = g.samples; rate = g.rate; channels = g.channels; depth = g.depth })
audio_of (bad b) = None
audio_of unopened = None

abbrev pub past_of : Entry → Past
past_of e = record { stamp = e.stamp; audio = audio_of e.found }

-- ---- entries of files

abbrev pub IsSmall : Option ℕ → Type 0
IsSmall n = IfSome n (λ k. k < 2 ^ 64)

-- a digest has 16 bytes
pub record IsDigest (digest : List ℕ) : Type 0 where
  pub size : length digest ≡ 16
  pub bytes : All (λ byte. byte < 256) digest

-- the numbers have 64 bits
pub record FitsStamp (s : Stamp) : Type 0 where
  pub bytes : IsSmall s.bytes
  pub modified : IsSmall s.modified
  pub nanoseconds : IsSmall s.nanoseconds

pub record FitsGood (g : GoodFile) : Type 0 where
  pub rate : IsSmall g.rate
  pub channels : IsSmall g.channels
  pub depth : IsSmall g.depth
  pub frames : g.frames < 2 ^ 64
  pub samples : g.samples < 2 ^ 64
  pub digest : IfSome g.digest IsDigest

abbrev pub FitsFound : Found → Type 0
FitsFound (good g) = FitsGood g
FitsFound (bad b) = Unit {0}
FitsFound unopened = Unit {0}

-- The path is a text in UTF-8, numbers have 64 bits, and a digest has 16 bytes.
pub record Fits (e : Entry) : Type 0 where
  pub path : is_utf8 e.path ≡ true
  pub stamp : FitsStamp e.stamp
  pub found : FitsFound e.found
