-- Kinds of files that may hold a song, each by its first bytes.
use Rattle.std.specs.Prelude.{ℕ, Bool, ◌||◌, eqb, cond, List, codes, Option, Some, None}
use Rattle.std.specs.List.{starts_with}
use Rattle.flac_jobs.specs.declared.kinds.FileKind.{FileKind}
use Rattle.flac_jobs.specs.declared.kinds.FileKind.TheVariants as kind

-- these are the first bytes
abbrev pub begins : (front text : List ℕ) → Bool
begins front text = starts_with eqb front text

-- a native stream (RFC 9639, section 6), or a page of Ogg (RFC 3533, section 6)
abbrev pub begins_stream : List ℕ → Bool
begins_stream front = begins front (codes "fLaC") || begins front (codes "OggS")

-- a WAV file
abbrev pub begins_wave : List ℕ → Bool
begins_wave front = begins front (codes "RIFF") || (begins front (codes "RF64") || begins front (codes "BW64"))

-- an AIFF file, or an ID3v2 tag
abbrev pub begins_other : List ℕ → Bool
begins_other front = begins front (codes "FORM") || begins front (codes "ID3")

-- the kind of a file that begins with these bytes, if it is one of these
unfoldable pub file_kind : (front : List ℕ) → Option FileKind
file_kind front = cond (begins_stream front) (Some kind.Stream) (cond (begins_wave front) (Some kind.Wave) (cond (begins_other front) (Some kind.Other) None))
