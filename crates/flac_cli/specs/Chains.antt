-- Jobs over Ogg streams one after another (RFC 3533, section 4).
use Rattle.std.specs.Prelude.{◌≡◌, ◌⊎◌, ℕ, ◌+◌, min, nat_eq, Bool, true, cond, List, [], ◌∷◌, ◌++◌, length, codes, decimal, Option, Some, None}
use Rattle.flac_bits.specs.declared.source.Source as source
use Rattle.flac_bits.specs.declared.target.Target as target
use Rattle.flac_bits.specs.declared.why.Why.TheVariants as why
use Rattle.flac_header.specs.declared.subset.Profile.{Profile}
use Rattle.flac_native.specs.Stream.{Piece}
use Rattle.flac_chain.specs.Chained.{all_parts, IsChain, IsChainRefused}
use Rattle.flac_chain.specs.declared.chain.ChainFault.{ChainFault}
use Rattle.flac_cli.specs.Calls.{Passed, HasServed, old_of, new_of}
use Rattle.flac_cli.specs.Counted.{counts_line}
use Rattle.flac_cli.specs.Outcomes.{IsAnswer}
use Rattle.flac_cli.specs.Streams.{Tells, profile_of}
use Rattle.flac_cli.specs.declared.chain.ChainDone.{ChainDone}

-- ---- what an input is

-- the streams of the source's bytes have parts of which this holds, those of all streams in order
abbrev pub IsChainOf : {S : Type 0} (g : source.Ghosts S) → Profile → S → (List Piece → Type 0) → Type 0
IsChainOf g profile s Says = (parts : List (List Piece)) × IsChain profile (g.coming s) parts × Says (all_parts parts)

-- they are streams one after another, or the stream of this number is refused at this place and for this reason
abbrev pub ReadsAsChain : Profile → List ℕ → Option ChainFault → Type 0
ReadsAsChain profile bytes None = (parts : List (List Piece)) × IsChain profile bytes parts
ReadsAsChain profile bytes (Some f) = (parts : List (List Piece)) × (items : List Piece) × IsChainRefused profile bytes parts items f.fault.at f.fault.why × (f.stream ≡ length parts)

-- memory ran out
abbrev pub IsOutOfMemory : Option ChainFault → Type 0
IsOutOfMemory None = ⊥
IsOutOfMemory (Some f) = f.fault.why ≡ why.Memory

-- ---- what is reported

-- a path with the number of a stream: `song.oga: stream 2`
abbrev pub numbered : (path : List ℕ) → (number : ℕ) → List ℕ
numbered path number = path ++ (codes ": stream " ++ decimal number)

-- the path that a line names: with the number of the stream, counted from 1, if it is not the first
abbrev pub stream_path : (path : List ℕ) → (stream : ℕ) → List ℕ
stream_path path stream = cond (nat_eq stream 0) path (numbered path (min (stream + 1) 18446744073709551615))

-- the status, and what was added to standard error
abbrev pub IsChainAnswer : Option ChainFault → (path : List ℕ) → (status : ℕ) → (before after : List ℕ) → Type 0
IsChainAnswer None path status before after = IsAnswer None path status before after
IsChainAnswer (Some f) path status before after = IsAnswer (Some (Some f.fault.at, f.fault.why)) (stream_path path f.stream) status before after

-- If no device failed: the status and the line are those of what the input is, or memory ran out.
abbrev pub ReportsChain : {S T E : Type 0} (g : source.Ghosts S) (h : target.Ghosts T) (k : target.Ghosts E) → Profile → (path : List ℕ) → (from : S) → ChainDone S → Passed T → Passed E → Type 0
ReportsChain g h k profile path from done target err =
    Tells g from done.source → HasServed h target → HasServed k err
    → (outcome : Option ChainFault) × IsChainAnswer outcome path done.status (k.sent (old_of err)) (k.sent (new_of err)) × (IsOutOfMemory outcome ⊎ ReadsAsChain profile (g.coming from) outcome)

-- After status 0, if the source did not fail: its bytes are streams one after another, of whose parts the target was sent
-- exactly this text.
abbrev pub SendsOfChain : {S T : Type 0} (g : source.Ghosts S) (h : target.Ghosts T) → Profile → (Says : List Piece → Type 0) → (text : List Piece → List ℕ) → (from : S) → ChainDone S → Passed T → Type 0
SendsOfChain g h profile Says text from done target =
    done.status ≡ 0 → Tells g from done.source → h.known (old_of target) ≡ true
    → IsChainOf g profile from (λ parts. Says parts × (h.sent (new_of target) ≡ h.sent (old_of target) ++ text parts))

-- the line of the counts of all streams
abbrev pub PrintsChainCounts : {S T : Type 0} (g : source.Ghosts S) (h : target.Ghosts T) → Profile → (from : S) → ChainDone S → Passed T → Type 0
PrintsChainCounts g h profile from done out = SendsOfChain g h profile (λ parts. Unit {0}) counts_line from done out
