-- What a reader returns that was opened over an input in either container.
use Rattle.std.specs.Prelude.{◌≡◌, ℕ, Bool, true, List}
use Rattle.std.specs.Borrow.{GName}
use Rattle.flac_bits.specs.Handing.{InputReading}
use Rattle.flac_bits.specs.declared.source.Source as source
use Rattle.flac_native.specs.Stream.{Piece}
use Rattle.flac_native.specs.declared.fault.Place.{Place}
use Rattle.flac_native.specs.declared.container.Container as container
use Rattle.flac_reader.specs.Inputs.{Input}
use Rattle.flac_reader.specs.Opening.{Opens, Starts}
use Rattle.flac_reader.specs.declared.keep.Keep.{Keep}
use Rattle.flac_reader.specs.declared.reader.Reader.{Reader}
use Rattle.flac_reader.specs.declared.either.Opened.{Opened}
use Rattle.flac_reader.specs.declared.either.Opened.TheVariants as opened

abbrev pub OpensEither : {C D : Type 0} {g : container.Ghosts C} {h : container.Ghosts D} → InputReading Piece Place → Keep → Opened (Reader C g) (Reader D h) → Type 0
OpensEither r keep (opened.Native reader) = Opens r keep reader
OpensEither r keep (opened.Ogg reader) = Opens r keep reader

abbrev pub StartsEither : {C D : Type 0} {g : container.Ghosts C} {h : container.Ghosts D} → (known : Bool) (errors raised : ℕ) (names : List GName) → Opened (Reader C g) (Reader D h) → Type 0
StartsEither known errors raised names (opened.Native reader) = Starts known errors raised names reader
StartsEither known errors raised names (opened.Ogg reader) = Starts known errors raised names reader

-- the same of a reader over a source that is read so
abbrev pub OpensEitherSource : {S C D : Type 0} {g : container.Ghosts C} {h : container.Ghosts D} → source.Ghosts S → Input → S → Keep → Opened (Reader C g) (Reader D h) → Type 0
OpensEitherSource s input over keep opened = s.known over ≡ true → OpensEither (input (s.coming over) (s.after over)) keep opened

abbrev pub StartsEitherSource : {S C D : Type 0} {g : container.Ghosts C} {h : container.Ghosts D} → source.Ghosts S → S → Opened (Reader C g) (Reader D h) → Type 0
StartsEitherSource s over opened = StartsEither (s.known over) (s.errors over) (s.raised over) (s.names over) opened
