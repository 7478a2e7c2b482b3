-- Bytes that are a stream, native (RFC 9639, section 6) or Ogg (section 10.1).
use Rattle.std.specs.Prelude.{◌≡◌, ℕ, Bool, true, cond, List, ◌++◌, ◌⊎◌, Result, OnOk}
use Rattle.flac_bits.specs.Bits.{bits_of}
use Rattle.flac_bits.specs.State.{After, short_of}
use Rattle.flac_bits.specs.Items.{Stream}
use Rattle.flac_bits.specs.declared.source.Source as source
use Rattle.flac_bits.specs.declared.target.Target as target
use Rattle.flac_native.specs.Stream.{Piece, grammar, opening}
use Rattle.flac_native.specs.Decoding.{beginning}
use Rattle.flac_ogg.specs.Stream.{OggStream}
use Rattle.flac_header.specs.declared.subset.Profile.{Profile}
use Rattle.flac_header.specs.declared.subset.Profile.TheVariants.{Subset, Lax}
use Rattle.flac_jobs.specs.Asks.{asks_lax}
use Rattle.flac_jobs.specs.declared.jobs.Job.{Job}

-- the profile by which a stream is read
abbrev pub profile_of : (lax : Bool) → Profile
profile_of lax = cond lax Lax Subset

-- the profile by which a job reads
abbrev pub profile_for : Job → Profile
profile_for j = profile_of (asks_lax j)

-- the bytes that a source gives, and what comes after them, are a stream of these parts
abbrev pub IsStream : Profile → List Piece → List ℕ → After → Type 0
IsStream profile parts bytes after = Stream grammar (opening profile) (beginning (short_of after.fails)) parts (bits_of bytes) ⊎ OggStream profile (beginning (short_of after.fails)) parts (bits_of bytes)

-- the bytes of the source are known, and it returned no error in the call
abbrev pub Tells : {S : Type 0} (g : source.Ghosts S) (old new : S) → Type 0
Tells g old new = (g.known old ≡ true) × (g.errors new ≡ g.errors old) × (g.raised new ≡ g.raised old)

-- the bytes that the source has to give, and what comes after them, are a stream
abbrev pub GivesStream : {S : Type 0} (g : source.Ghosts S) → Profile → S → Type 0
GivesStream g profile s = (parts : List Piece) × IsStream profile parts (g.coming s) (g.after s)

-- they are a stream of parts of which this holds
abbrev pub GivesStreamOf : {S : Type 0} (g : source.Ghosts S) → Profile → S → (List Piece → Type 0) → Type 0
GivesStreamOf g profile s Says = (parts : List Piece) × IsStream profile parts (g.coming s) (g.after s) × Says parts

-- If the source did not fail, and the bytes of the target are known: the source gives a stream, of whose parts the
-- target was sent exactly this text.
abbrev pub SendsOfStream : {S T : Type 0} (g : source.Ghosts S) (h : target.Ghosts T) → Profile → (text : List Piece → List ℕ) → (from to : S) (old new : T) → Type 0
SendsOfStream g h profile text from to old new = Tells g from to → h.known old ≡ true → GivesStreamOf g profile from (λ parts. h.sent new ≡ h.sent old ++ text parts)

-- the same of a call that returned Ok
abbrev pub HasSentOfStream : {S T X E : Type 0} (g : source.Ghosts S) (h : target.Ghosts T) → Profile → (text : List Piece → List ℕ) → (from to : S) (old new : T) → Result X E → Type 0
HasSentOfStream g h profile text from to old new result = Tells g from to → h.known old ≡ true → OnOk result (GivesStreamOf g profile from (λ parts. h.sent new ≡ h.sent old ++ text parts))
