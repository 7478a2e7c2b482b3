-- What decoding a stream returns, and what it passes to the sink.
use Rattle.std.specs.Prelude.{◌≡◌, ℕ, ◌<◌, Bool, true, List, Result}
use Rattle.flac_bits.specs.Bits.{bits_of}
use Rattle.flac_bits.specs.State.{Mark, Cursor, After, short_of}
use Rattle.flac_bits.specs.Handing.{InputReading, by_grammar, outcome_of, Hands, Decides}
use Rattle.flac_bits.specs.declared.source.Source as source
use Rattle.flac_bits.specs.declared.why.Why.{Why}
use Rattle.flac_bits.specs.declared.why.Why.TheVariants.{Read, Sink}
use Rattle.flac_header.specs.declared.subset.Profile.{Profile}
use Rattle.flac_native.specs.Stream.{Piece, marked, block, framed, grammar, opening}
use Rattle.flac_native.specs.declared.fault.Place.{Place}
use Rattle.flac_native.specs.declared.fault.Fault.{Fault}
use Rattle.flac_native.specs.Item.{Item, metadata, frame, fault_pair}

-- a sink takes the blocks and frames, but not the marker
abbrev pub taken : {S : Type 0} → (S → Item → S → Type 0) → S → Piece → S → Type 0
taken takes old marked new = old ≡ new
taken takes old (block last b) new = takes old (metadata b) new
taken takes old (framed f) new = takes old (frame f) new

-- before the first byte; bits run short for this reason
abbrev pub beginning : Why → Mark
beginning short = record { unread = 0; bytes = 0; check8 = 0; check16 = 0; short = short }

-- the same over a source after whose bytes this comes
abbrev pub start_mark : After → Mark
start_mark after = beginning (short_of after.fails)

-- where reading begins: at the first bit of these bytes, after which this comes
abbrev pub start_of : List ℕ → After → Cursor
start_of bytes after = record { left = bits_of bytes; mark = start_mark after }

-- ---- a source

-- where reading a source begins
abbrev pub source_start : {S : Type 0} → source.Ghosts S → S → Cursor
source_start g s = start_of (g.coming s) (g.after s)

-- it returned no error in a call, foretold or not
abbrev pub NoError : {S : Type 0} → source.Ghosts S → S → S → Type 0
NoError g old new = (g.errors new ≡ g.errors old) × (g.raised new ≡ g.raised old)

-- this holds if its bytes are known and it returned no error in a call
abbrev pub IfCalm : {S : Type 0} → source.Ghosts S → S → S → Type 0 → Type 0
IfCalm g old new claim = g.known old ≡ true → g.errors new ≡ g.errors old → g.raised new ≡ g.raised old → claim

-- if its bytes are known, its count of errors rose
abbrev pub SourceFailed : {S : Type 0} → source.Ghosts S → S → S → Type 0
SourceFailed g old new = g.known old ≡ true → g.raised old < g.raised new

-- the same if `Read` was returned
abbrev pub SourceFailedIfRead : {S : Type 0} → source.Ghosts S → S → S → Why → Type 0
SourceFailedIfRead g old new why = g.known old ≡ true → why ≡ Read → g.raised old < g.raised new

-- the stream that begins at a cursor: by the grammar, in this profile
abbrev pub stream_at : Profile → Cursor → InputReading Piece Place
stream_at profile c = by_grammar grammar (opening profile) c.mark c.left

-- ---- a source, `old` before a call and `new` after it, and a sink, `from` and `to`

-- The call passed the stream of the source to the sink, if the source's bytes are known and what the sink takes.
abbrev pub HandsStream : {S K X : Type 0} → source.Ghosts S → (known : K → Bool) → (takes : K → Item → K → Type 0) → (errors : K → ℕ) → Profile → S → S → K → K → Result X Fault → Type 0
HandsStream g known takes errors profile old new from to result = g.known old ≡ true → known from ≡ true → Hands (stream_at profile (source_start g old)) (taken takes) errors (NoError g old new) from to (outcome_of fault_pair result)

-- Its outcome is the one that the bytes have, if they are known, and neither the source nor the sink returned an error.
abbrev pub DecidesStream : {S K X : Type 0} → source.Ghosts S → (known : K → Bool) → (errors : K → ℕ) → Profile → S → S → K → K → Result X Fault → Type 0
DecidesStream g known errors profile old new from to result =
    g.known old ≡ true → known from ≡ true → g.errors new ≡ g.errors old → g.raised new ≡ g.raised old → errors to ≡ errors from → Decides (stream_at profile (source_start g old)) (outcome_of fault_pair result)

-- this is the sink's error at this place: it is counted, if what the sink takes is known
abbrev pub IsOfSink : {K : Type 0} → (known : K → Bool) → (errors : K → ℕ) → K → K → Place → Fault → Type 0
IsOfSink known errors from to at f = (known from ≡ true → errors from < errors to) × (f.why ≡ Sink) × (f.at ≡ at)
