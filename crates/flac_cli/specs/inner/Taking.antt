-- For proofs of the sinks: what they make of an item.
use Rattle.std.specs.Prelude.{◌≡◌, ◌≢◌, ℕ, ◌+◌, min, Bool, false, ◌||◌, List, Option, Some, None, unwrap_or, Result, IfOk, IfErr}
use Rattle.flac_bits.specs.declared.source.Source as source
use Rattle.flac_bits.specs.declared.why.Why.TheVariants as why
use Rattle.flac_info.specs.Info.{Info}
use Rattle.flac_header.specs.declared.subset.Profile.{Profile}
use Rattle.flac_native.specs.Stream.{Piece, info_after}
use Rattle.flac_native.specs.Item.{Item, metadata, frame}
use Rattle.flac_ogg.specs.Either.{begins_page}
use Rattle.flac_cli.specs.Counted.{frames_in, samples_in_all, printed}
use Rattle.flac_cli.specs.Streams.{Tells, GivesStreamOf}
use Rattle.flac_cli.specs.Verified.{lacks_digest, lacks_total, IsDescribed, IsRefusedAs}
use Rattle.flac_cli.specs.declared.test.Counts.{Counts}
use Rattle.flac_cli.specs.declared.verify_facts.Facts.{Facts}
use Rattle.flac_cli.specs.declared.verify_facts.Flaw.{Flaw}

-- the count of frames after this item; it stops at 2^64 - 1
abbrev pub frames_after : ℕ → Item → ℕ
frames_after n (metadata b) = n
frames_after n (frame f) = min (n + 1) 18446744073709551615

-- the count of each channel's samples after this item; it stops at 2^64 - 1
abbrev pub samples_after : ℕ → Item → ℕ
samples_after n (metadata b) = n
samples_after n (frame f) = min (n + f.size) 18446744073709551615

-- the STREAMINFO of an item, if it is one: each stream has one (RFC 9639, section 8.2)
abbrev pub info_of : Item → Option Info
info_of (metadata b) = info_after None b
info_of (frame f) = None

-- what this becomes after a STREAMINFO, if there is one
abbrev pub if_info : {X : Type 0} → (after : X → Info → X) → X → Option Info → X
if_info after x None = x
if_info after x (Some info) = after x info

-- the first one that is known, how many came, and whether one of them lacks what it may state
abbrev pub first_known : Option Info → Info → Option Info
first_known known info = Some (unwrap_or known info)

abbrev pub streams_after : ℕ → Info → ℕ
streams_after n info = min (n + 1) 18446744073709551615

abbrev pub lacks_after : (lacks : Option Info → Bool) → Bool → Info → Bool
lacks_after lacks before info = before || lacks (Some info)

-- facts of no stream
pub record AreNone (facts : Facts) : Type 0 where
  pub frames : facts.counts.frames ≡ 0
  pub samples : facts.counts.samples ≡ 0
  pub info : facts.info ≡ None
  pub streams : facts.streams ≡ 0
  pub no_digest : facts.no_digest ≡ false
  pub no_total : facts.no_total ≡ false

-- facts of the streams so far after a STREAMINFO, if one was found
pub record Learns (old : Facts) (found : Option Info) (new : Facts) : Type 0 where
  pub info : new.info ≡ if_info first_known old.info found
  pub streams : new.streams ≡ if_info streams_after old.streams found
  pub no_digest : new.no_digest ≡ if_info (lacks_after lacks_digest) old.no_digest found
  pub no_total : new.no_total ≡ if_info (lacks_after lacks_total) old.no_total found

-- the counts of these parts
abbrev pub HasCounted : Counts → List Piece → Type 0
HasCounted c parts = (c.frames ≡ printed (frames_in parts)) × (c.samples ≡ printed (samples_in_all parts))

-- ---- at Ok of a call that reads a source, if this did not fail

-- it gives a stream, and these are its counts
abbrev pub CountsStream : {S E : Type 0} (g : source.Ghosts S) → Profile → (from to : S) → Result Counts E → Type 0
CountsStream g profile from to result = Tells g from to → IfOk result (λ c. GivesStreamOf g profile from (HasCounted c))

-- it gives a stream or several, which these facts describe
abbrev pub DescribesStream : {S E : Type 0} (g : source.Ghosts S) → Profile → (from to : S) → Result Facts E → Type 0
DescribesStream g profile from to result = Tells g from to → IfOk result (IsDescribed profile (g.coming from))

-- it is in the container that these facts name
abbrev pub NamesContainer : {S E : Type 0} (g : source.Ghosts S) → (from to : S) → Result Facts E → Type 0
NamesContainer g from to result = Tells g from to → IfOk result (λ facts. facts.is_ogg ≡ begins_page (g.coming from))

-- at Err what the source has to come is refused so, unless memory ran out
abbrev pub CountsFlaw : {S X : Type 0} (g : source.Ghosts S) → Profile → (from to : S) → Result X Flaw → Type 0
CountsFlaw g profile from to result = Tells g from to → IfErr result (λ flaw. flaw.fault.why ≢ why.Memory → IsRefusedAs profile (g.coming from) flaw)
