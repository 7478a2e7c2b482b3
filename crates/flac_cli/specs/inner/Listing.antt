-- For proofs of the line of JSON of a file: what it has while the blocks come.
use Rattle.std.specs.Prelude.{◌≡◌, ◌≢◌, ℕ, Bool, true, false, cond, List, [], ◌++◌, codes, None}
use Rattle.flac_bits.specs.declared.source.Source as source
use Rattle.flac_bits.specs.declared.why.Why.TheVariants as why
use Rattle.flac_header.specs.declared.subset.Profile.{Profile}
use Rattle.flac_meta.specs.declared.block.Block.{Block}
use Rattle.flac_native.specs.Item.{Item, metadata, frame}
use Rattle.flac_native.specs.Stream.{raised}
use Rattle.flac_native.specs.declared.fault.Fault.{Fault}
use Rattle.flac_json.specs.Json.{json_text}
use Rattle.flac_json.specs.Blocks.{block_json}
use Rattle.flac_json.specs.Lines.{line_front}
use Rattle.flac_jobs.specs.declared.editings.BlockName.{BlockName}
use Rattle.flac_cli.specs.Headed.{HasHeadRefused, any_reading}
use Rattle.flac_cli.specs.ListedJson.{is_chosen, listed_line, HasHeadOf}
use Rattle.flac_cli.specs.Streams.{Tells, GivesStreamOf}
use Rattle.flac_cli.specs.declared.chosen.ListedFile.{ListedFile}
use Rattle.flac_cli.specs.declared.list_json.BlockObjects.{BlockObjects}

-- which blocks are listed, the line so far, whether it has a block, and the number of the next block
pub record Begun : Type 0 where
  pub names : List BlockName
  pub line : List ℕ
  pub any : Bool
  pub number : ℕ

abbrev pub view_of : BlockObjects → Begun
view_of o = record { names = o.names.now; line = o.line.items; any = o.any; number = o.number }

-- no block came
abbrev pub begun_of : ListedFile → Begun
begun_of file = record { names = file.names.now; line = line_front file.path.now None; any = false; number = 0 }

-- what is before an object of the list: a comma, unless it is the first
abbrev pub comma : (any : Bool) → List ℕ
comma any = cond any (codes ",") []

-- the object of a block, after what is before it
abbrev pub one_more : (any : Bool) (number : ℕ) → Block → List ℕ
one_more any number b = comma any ++ json_text (block_json number b)

-- with the object of a block
abbrev pub with_object : Begun → Block → Begun
with_object s b = record { names = s.names; line = s.line ++ one_more s.any s.number b; any = true; number = raised s.number }

-- after a block that is not listed
abbrev pub with_number : Begun → Begun
with_number s = record { names = s.names; line = s.line; any = s.any; number = raised s.number }

abbrev pub begun_after : Begun → Item → Begun
begun_after s (metadata b) = cond (is_chosen s.names s.number b) (with_object s b) (with_number s)
begun_after s (frame f) = s

-- ---- a source

-- if its bytes are known: they begin with a marker and blocks up to a last one, and this is the line of these
abbrev pub IsHeadLine : {S : Type 0} → source.Ghosts S → ListedFile → S → (line : List ℕ) → Type 0
IsHeadLine g file from line = g.known from ≡ true → HasHeadOf (any_reading g from) (λ head. line ≡ listed_line file head)

-- if it did not fail: this is where and why it is refused before its last block, unless memory ran out
abbrev pub RefusesHeadLine : {S : Type 0} → source.Ghosts S → (from to : S) → Fault → Type 0
RefusesHeadLine g from to f = Tells g from to → f.why ≢ why.Memory → HasHeadRefused (any_reading g from) f.at f.why

-- if it did not fail: it gives a stream, and this is the line of its blocks
abbrev pub IsStreamLine : {S : Type 0} → source.Ghosts S → Profile → ListedFile → (from to : S) → (line : List ℕ) → Type 0
IsStreamLine g profile file from to line = Tells g from to → GivesStreamOf g profile from (λ parts. line ≡ listed_line file parts)
