-- Why a file was not tagged.
use Rattle.std.specs.Prelude.{◌≡◌, ◌≢◌, true}
use Rattle.flac_bits.specs.declared.source.Source as source
use Rattle.flac_bits.specs.declared.why.Why.TheVariants.{Memory}
use Rattle.flac_native.specs.Decoding.{source_start}
use Rattle.flac_native.specs.Retag.{IsRefusedAt}
use Rattle.flac_native.specs.declared.fault.Fault.{Fault}
use Rattle.flac_edit.specs.declared.tagging.TagFault.{TagFault}
use Rattle.flac_edit.specs.declared.tagging.TagFault.TheVariants as fault

-- what is claimed of the fault of a stream
abbrev pub IfStream : (Fault → Type 0) → TagFault → Type 0
IfStream P (fault.Stream f) = P f
IfStream P other = Unit {0}

-- the stream is refused, or could not be read
abbrev pub IsOfStream : TagFault → Type 0
IsOfStream (fault.Stream f) = Unit {0}
IsOfStream other = ⊥

-- The marker or a block is to be refused at its place for its reason, if the bytes of the source are known, it returned no
-- error that was not foretold, and memory did not run out.
abbrev pub RefusalIsDueIn : {S : Type 0} (g : source.Ghosts S) (old new : S) → Fault → Type 0
RefusalIsDueIn g old new f = g.known old ≡ true → g.errors new ≡ g.errors old → f.why ≢ Memory → IsRefusedAt (source_start g old) f.at f.why
