-- Chained Ogg streams of FLAC: one after another (RFC 3533, section 4), each without the empty packets at its end.
use Rattle.std.specs.Prelude.{◌≡◌, ◌≢◌, ◌⊎◌, ℕ, true, false, List, [], ◌∷◌, ◌++◌}
use Rattle.flac_bits.specs.Bits.{bits_of}
use Rattle.flac_bits.specs.State.{the_end}
use Rattle.flac_bits.specs.Handing.{InputReading}
use Rattle.flac_bits.specs.declared.why.Why.{Why}
use Rattle.flac_bits.specs.declared.why.Why.TheVariants.{BadPage}
use Rattle.flac_header.specs.declared.subset.Profile.{Profile}
use Rattle.flac_native.specs.Decoding.{start_mark}
use Rattle.flac_native.specs.Stream.{Piece}
use Rattle.flac_native.specs.declared.fault.Place.{Place}
use Rattle.flac_native.specs.declared.fault.Place.TheVariants as place
use Rattle.flac_ogg.specs.Either.{begins_page, read_any}
use Rattle.flac_around.specs.Chains.{first_link, later_links}
use Rattle.flac_around.specs.EmptyPackets.{trimmed}

-- how the bytes of one stream are read: as an Ogg stream if the first byte is that of a page, else as a native one
abbrev pub link_reading : Profile → (link : List ℕ) → InputReading Piece Place
link_reading profile link = let bytes = trimmed false link in read_any profile (begins_page bytes) (start_mark the_end) (bits_of bytes)

-- ---- a chain

-- the parts of all streams, in order
abbrev pub all_parts : List (List Piece) → List Piece
all_parts [] = []
all_parts (p ∷ ps) = p ++ all_parts ps

-- These are the parts of the streams that come after the first, each of which begins with a page, up to the end.
abbrev pub AreLater : Profile → List ℕ → List (List Piece) → Type 0
AreLater profile bytes [] = bytes ≡ []
AreLater profile bytes (p ∷ ps) = (begins_page bytes ≡ true) × (link_reading profile (first_link bytes)).whole p × AreLater profile (later_links bytes) ps

-- These are the parts of the streams of an input, one after another. There is one at least.
abbrev pub IsChain : Profile → List ℕ → List (List Piece) → Type 0
IsChain profile bytes [] = ⊥
IsChain profile bytes (p ∷ ps) = (link_reading profile (first_link bytes)).whole p × AreLater profile (later_links bytes) ps

-- ---- a chain that is refused

-- this stream is refused, after these items
abbrev pub IsLinkRefused : Profile → List ℕ → (items : List Piece) → Place → Why → Type 0
IsLinkRefused profile bytes items at why = (link_reading profile (first_link bytes)).refused items at why

-- after the streams of these parts bytes come that begin no page, or the next stream is refused after these items
abbrev pub IsLaterRefused : Profile → List ℕ → List (List Piece) → (items : List Piece) → Place → Why → Type 0
IsLaterRefused profile bytes [] items at why =
    ((bytes ≢ []) × (begins_page bytes ≡ false) × (items ≡ []) × (at ≡ place.Page 0) × (why ≡ BadPage)) ⊎ ((begins_page bytes ≡ true) × IsLinkRefused profile bytes items at why)
IsLaterRefused profile bytes (p ∷ ps) items at why = (begins_page bytes ≡ true) × (link_reading profile (first_link bytes)).whole p × IsLaterRefused profile (later_links bytes) ps items at why

-- The first stream is refused, or after the streams of these parts a later one.
abbrev pub IsChainRefused : Profile → List ℕ → List (List Piece) → (items : List Piece) → Place → Why → Type 0
IsChainRefused profile bytes [] items at why = IsLinkRefused profile bytes items at why
IsChainRefused profile bytes (p ∷ ps) items at why = (link_reading profile (first_link bytes)).whole p × IsLaterRefused profile (later_links bytes) ps items at why

-- ---- laws

-- No input has two readings as a chain: its streams have one list of parts each, or it is refused in one stream, after
-- one list of items, at one place and for one reason.
pub record ChainIsReadOnce (profile : Profile) (bytes : List ℕ) : Type 0 where
  pub streams : (ps qs : List (List Piece)) → IsChain profile bytes ps → IsChain profile bytes qs → ps ≡ qs
  pub either : (ps qs : List (List Piece)) (items : List Piece) (at : Place) (why : Why) → IsChain profile bytes ps → IsChainRefused profile bytes qs items at why → ⊥
  pub refusals : (ps qs : List (List Piece)) (xs ys : List Piece) (at to : Place) (v w : Why) → IsChainRefused profile bytes ps xs at v → IsChainRefused profile bytes qs ys to w → (ps ≡ qs) × (at ≡ to) × (v ≡ w) × (xs ≡ ys)

abbrev pub ChainsAreReadOnce : Type 0
ChainsAreReadOnce = (profile : Profile) (bytes : List ℕ) → ChainIsReadOnce profile bytes
