-- The native stream in an Ogg stream: what its packets have, without its pages (RFC 3533, section 6; RFC 9639,
-- section 10.1).
use Rattle.std.specs.Prelude.{◌≡◌, ◌≢◌, ◌⊎◌, ℕ, Bool, List, ◌∷◌, ◌++◌, length, drop, Option, Some, None}
use Rattle.std.specs.List.{flat_map}
use Rattle.flac_bits.specs.Bits.{bits_of}
use Rattle.flac_bits.specs.Meaning.{Spells}
use Rattle.flac_bits.specs.Items.{Stream}
use Rattle.flac_bits.specs.declared.why.Why.{Why}
use Rattle.flac_bits.specs.declared.why.Why.TheVariants.{Memory, Truncated, BadMapping}
use Rattle.flac_header.specs.declared.subset.Profile.{Profile}
use Rattle.flac_native.specs.Decoding.{beginning}
use Rattle.flac_native.specs.Stream.{Piece, marked, grammar, opening}
use Rattle.flac_native.specs.declared.fault.Place.{Place}
use Rattle.flac_native.specs.declared.fault.Place.TheVariants as place
use Rattle.flac_pages.specs.Pages.{Run}
use Rattle.flac_pages.specs.Packets.{stop_of}
use Rattle.flac_pages.specs.Runs.{IsRun}
use Rattle.flac_ogg.specs.Mapping.{mapping, page_place}
use Rattle.flac_ogg.specs.Stream.{OggStream}
use Rattle.flac_c.specs.Answers.{IsCopied, IsDone}

-- ---- pages

-- the good pages that bytes begin with, and how they end
abbrev pub HasPages : List ℕ → Run → Type 0
HasPages bytes run = IsRun None (record { left = bits_of bytes; mark = beginning Truncated }) run

-- The bytes are good pages, of which the final one is marked last, and nothing comes after it; `packed` are the bytes of
-- all their segments, which are those of all packets.
pub record IsPacked (bytes packed : List ℕ) : Type 0 where
  pub run : Run
  pub pages : HasPages bytes run
  pub over : stop_of (length run.pages) run.stop ≡ None
  pub segments : packed ≡ flat_map (λ p. p.body) run.pages

-- a page is refused, or a byte comes after the page marked last
abbrev pub BadPages : List ℕ → Place → Why → Type 0
BadPages bytes at why = (run : Run) × HasPages bytes run × ((n : ℕ) × (stop_of (length run.pages) run.stop ≡ Some (n, why)) × (at ≡ page_place n why))

-- ---- the mapping

-- bytes begin with 7F and FLAC, version 1.0, how many header packets follow, and the marker fLaC
abbrev pub HasMapping : List ℕ → Type 0
HasMapping packed = (front : List Bool) × (rest : List Bool) × (bits_of packed ≡ front ++ rest) × Spells mapping (beginning Truncated) front tt

-- the bytes of all packets begin with the mapping
abbrev pub Maps : (bytes packed : List ℕ) → Type 0
Maps bytes packed = IsPacked bytes packed × HasMapping packed

-- ---- what is written

-- The native stream is all bytes of packets but the nine in front of the marker. It is written to the front of a buffer,
-- as far as there is room.
abbrev pub WritesNative : List ℕ → (out new : List ℕ) → (len : ℕ) → Type 0
WritesNative bytes out new len = (packed : List ℕ) × Maps bytes packed × IsCopied (drop 9 packed) out new len

-- this holds of the items that the bytes are, if they are an Ogg stream
abbrev pub OfOggStream : Profile → List ℕ → (List Piece → Type 0) → Type 0
OfOggStream profile bytes holds = (items : List Piece) → OggStream profile (beginning Truncated) items (bits_of bytes) → holds items

-- a native stream of these items is written to the front of a buffer, as far as there is room
abbrev pub WritesItems : Profile → (out new : List ℕ) → (len : ℕ) → List Piece → Type 0
WritesItems profile out new len items = (native : List ℕ) × Stream grammar (opening profile) (beginning Truncated) (marked ∷ items) (bits_of native) × IsCopied native out new len

-- if the bytes are an Ogg stream, the call of this status wrote its native stream, unless memory ran out
abbrev pub WritesAny : Profile → List ℕ → (status : ℕ) → (out new : List ℕ) → (len : ℕ) → Type 0
WritesAny profile bytes status out new len = OfOggStream profile bytes (λ items. IsDone status (WritesItems profile out new len items))

-- ---- what is refused

-- A page is refused there, or what the packets begin with is not the mapping; unless memory ran out.
abbrev pub RefusesPages : List ℕ → Option (Place × Why) → Type 0
RefusesPages bytes outcome =
    (at : Place) × (why : Why) × (outcome ≡ Some (at, why))
    × (why ≢ Memory → BadPages bytes at why
    ⊎ ((why ≡ BadMapping) × (at ≡ place.Marker) × ((packed : List ℕ) × IsPacked bytes packed × (HasMapping packed → ⊥))))
