-- For proofs of reading blocks alone: what calls of a decoder read, one after another.
use Rattle.std.specs.Prelude.{◌≡◌, ◌≢◌, Bool, true, false, List, ◌++◌, Option}
use Rattle.flac_bits.specs.Bits.{bits_of}
use Rattle.flac_bits.specs.Handing.{TakesAll}
use Rattle.flac_bits.specs.Items.{state_after}
use Rattle.flac_bits.specs.declared.source.Source as source
use Rattle.flac_header.specs.declared.subset.Profile.TheVariants.{Lax}
use Rattle.flac_native.specs.Decoding.{start_mark, taken}
use Rattle.flac_ogg.specs.Either.{read_either}
use Rattle.flac_cli.specs.Streams.{Tells}
use Rattle.flac_bits.specs.declared.why.Why.{Why}
use Rattle.flac_bits.specs.declared.why.Why.TheVariants as why
use Rattle.flac_native.specs.Item.{Item}
use Rattle.flac_native.specs.Stream.{Piece, Progress, grammar}
use Rattle.flac_native.specs.Track.{IsAt, is_after_blocks}
use Rattle.flac_native.specs.Giving.{Stage, stage_of, PassesParts}
use Rattle.flac_native.specs.declared.fault.Fault.{Fault}
use Rattle.flac_native.specs.declared.fault.Place.{Place}
use Rattle.flac_native.specs.declared.container.Container as container
use Rattle.flac_native.specs.declared.decoder.Decoder.{Decoder}
use Rattle.flac_cli.specs.Headed.{has_last, IsHeadRefused, HasHeadRefused, any_reading}
use Rattle.flac_cli.specs.ListedJson.{head_of, HasHeadOf}

-- From this progress on, before the last block, these parts were read, and the last block is one of them if the frames
-- come next: then they are the head of the parts that begin so. The sink took them, if its errors are counted.
pub record PassesBlocks {C K : Type 0} (g : container.Ghosts C) (is_known : K → Bool) (takes : K → Item → K → Type 0) (p : Progress) (old now : Stage C) (from to : K) : Type 0 where
  pub parts : List Piece
  pub at : IsAt now.track (state_after grammar p parts)
  pub last : has_last parts ≡ is_after_blocks (state_after grammar p parts).stand.phase
  pub cut : (more : List Piece) → has_last parts ≡ true → head_of (parts ++ more) ≡ parts
  pub passes : PassesParts g p old.container parts now.container
  pub took : is_known from ≡ true → TakesAll (taken takes) from parts to

-- Blocks were read, and no error was met.
pub record ReadsBlocks {C K : Type 0} (g : container.Ghosts C) (is_known : K → Bool) (takes : K → Item → K → Type 0) (old now : Stage C) (from to : K) : Type 0 where
  pub known : g.known old.container ≡ true → g.known now.container ≡ true
  pub errors : g.errors now.container ≡ g.errors old.container
  pub raised : g.raised now.container ≡ g.raised old.container
  pub counted : is_known from ≡ true → is_known to ≡ true
  pub passed : (p : Progress) → IsAt old.track p → is_after_blocks p.stand.phase ≡ false → PassesBlocks g is_known takes p old now from to

-- the same of a decoder
abbrev pub DecoderReads : {C K : Type 0} (g : container.Ghosts C) → (is_known : K → Bool) → (takes : K → Item → K → Type 0) → (old now : Decoder C g) → (from to : K) → Type 0
DecoderReads g is_known takes old now from to = ReadsBlocks g is_known takes (stage_of old) (stage_of now) from to

-- If the device returned no error, memory did not run out and the output took the lines, what was to come is refused in
-- this way, before the last block.
pub record RefusesBlocks {C : Type 0} (g : container.Ghosts C) (old now : Stage C) (f : Fault) : Type 0 where
  pub refused : g.known old.container ≡ true → g.errors now.container ≡ g.errors old.container → g.raised now.container ≡ g.raised old.container → f.why ≢ why.Memory → f.why ≢ why.Sink
      → (p : Progress) → IsAt old.track p → is_after_blocks p.stand.phase ≡ false → (parts : List Piece) (end : Option (Place × Why)) → g.gives old.container p parts end → IsHeadRefused parts end f.at f.why

-- The last block was read, and the sink took the parts up to it.
pub record EndsBlocks {C K : Type 0} (g : container.Ghosts C) (is_known : K → Bool) (takes : K → Item → K → Type 0) (old : Stage C) (from to : K) : Type 0 where
  pub ends : g.known old.container ≡ true → is_known from ≡ true → (p : Progress) → IsAt old.track p → is_after_blocks p.stand.phase ≡ false
      → (parts : List Piece) (end : Option (Place × Why)) → g.gives old.container p parts end → (has_last parts ≡ true) × TakesAll (taken takes) from (head_of parts) to

-- the same of a source that is read in this container
abbrev pub ReadsHead : {S K : Type 0} → source.Ghosts S → (is_known : K → Bool) → (takes : K → Item → K → Type 0) → (is_ogg : Bool) → S → (from to : K) → Type 0
ReadsHead g is_known takes is_ogg s from to =
    g.known s ≡ true → is_known from ≡ true → HasHeadOf (read_either Lax is_ogg (start_mark (g.after s)) (bits_of (g.coming s))) (λ head. TakesAll (taken takes) from head to)

abbrev pub RefusesHead : {S : Type 0} → source.Ghosts S → (is_ogg : Bool) → (old new : S) → Fault → Type 0
RefusesHead g is_ogg old new f = Tells g old new → f.why ≢ why.Memory → f.why ≢ why.Sink → HasHeadRefused (read_either Lax is_ogg (start_mark (g.after old)) (bits_of (g.coming old))) f.at f.why

-- the same of a source that is read as its first byte says
abbrev pub TakesHead : {S K : Type 0} → source.Ghosts S → (is_known : K → Bool) → (takes : K → Item → K → Type 0) → S → (from to : K) → Type 0
TakesHead g is_known takes s from to = g.known s ≡ true → is_known from ≡ true → HasHeadOf (any_reading g s) (λ head. TakesAll (taken takes) from head to)

abbrev pub RefusesAnyHead : {S : Type 0} → source.Ghosts S → (old new : S) → Fault → Type 0
RefusesAnyHead g old new f = Tells g old new → f.why ≢ why.Memory → f.why ≢ why.Sink → HasHeadRefused (any_reading g old) f.at f.why
