-- What a copy of a stream's frames writes, and what is reported of it.
use Rattle.std.specs.Prelude.{◌≡◌, ℕ, List, ◌++◌, Option, Some, None}
use Rattle.flac_bits.specs.declared.source.Source as source
use Rattle.flac_bits.specs.declared.target.Target as target
use Rattle.flac_bits.specs.declared.why.Why.TheVariants as why
use Rattle.flac_header.specs.declared.subset.Profile.TheVariants.{Lax}
use Rattle.flac_copy.specs.Written.{CopiesAs}
use Rattle.flac_copy.specs.declared.fault.CopyFault.{CopyFault}
use Rattle.flac_copy.specs.declared.fault.CopyFault.TheVariants.{Input, Blocks, Write}
use Rattle.flac_jobs.specs.declared.copies.StreamCopy.{StreamCopy}
use Rattle.flac_jobs.specs.declared.formats.ContainerKind.{ContainerKind}
use Rattle.flac_jobs.specs.declared.formats.ContainerKind.TheVariants as container
use Rattle.flac_cli.specs.Outcomes.{reason_text}
use Rattle.flac_cli.specs.Reports.{fault_line}

-- the serial number of an Ogg stream; a native one has none
abbrev pub serial_in : ContainerKind → Option ℕ
serial_in container.Native = None
serial_in (container.Ogg serial) = Some serial

-- If the bytes of the source and of the target are known: those of the source are a stream, also outside the streamable
-- subset; in this container a stream of the same blocks and of the same frames, byte by byte, was added to the target.
abbrev pub CopiesStream : {S W : Type 0} (g : source.Ghosts S) (h : target.Ghosts W) → ContainerKind → (from : S) (old new : W) → Type 0
CopiesStream g h c from old new = CopiesAs g h (serial_in c) Lax from old new

-- the path of the file at fault, and the reason as it is printed
abbrev pub copy_path : StreamCopy → CopyFault → List ℕ
copy_path copy Write = copy.output.now
copy_path copy other = copy.input.now

abbrev pub copy_text : CopyFault → List ℕ
copy_text (Input fault) = reason_text (Some fault.at) fault.why
copy_text (Blocks reason) = reason_text None reason
copy_text Write = reason_text None why.Write

-- exactly the line of this fault was added
abbrev pub AddsCopyFault : StreamCopy → CopyFault → (before after : List ℕ) → Type 0
AddsCopyFault copy fault before after = after ≡ before ++ fault_line (copy_path copy fault) (copy_text fault)

-- the line of a copy that failed, of the file at fault
abbrev pub NamesCopy : StreamCopy → (before after : List ℕ) → Type 0
NamesCopy copy before after = (fault : CopyFault) × AddsCopyFault copy fault before after
