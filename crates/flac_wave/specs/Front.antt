-- What comes before the samples of a WAV file, for reading it part by part: how many bytes the samples have is judged when
-- they have come.
use Rattle.std.specs.Prelude.{◌≡◌, ◌≤◌, ℕ, ◌%◌, ◌&&◌, Bool, true, not, cond, nat_eq, List, [], ◌∷◌, ◌++◌, length, map, take, drop, Option, Some, None}
use Rattle.flac_bits.specs.declared.source.Source as source
use Rattle.flac_wave.specs.Chunks.{Leads, header_fault, seen_first, is_data, size_of, stated, is_unstated}
use Rattle.flac_wave.specs.Format.{IsInRange, row_of}
use Rattle.flac_wave.specs.Parts.{given, is_cut}
use Rattle.flac_wave.specs.declared.seen.Seen.{Seen}
use Rattle.flac_wave.specs.declared.format.WaveFormat.{WaveFormat}
use Rattle.flac_wave.specs.declared.front.WaveFront.{WaveFront}
use Rattle.flac_wave.specs.declared.why.WaveWhy.{WaveWhy}
use Rattle.flac_wave.specs.declared.why.WaveWhy.TheVariants as why

-- These bytes begin as a WAV file: with these pieces, the last of them the header of the chunk of samples, which states
-- this size, or None if they go to the end of the file. The chunks before it are `count`, and state this format.
pub record IsFront (to_end : Bool) (bytes : List ℕ) (format : WaveFormat) (pieces : List (List ℕ)) (size : Option ℕ) (count : ℕ) (rest : List ℕ) : Type 0 where
  pub header : header_fault bytes ≡ None
  pub chunks : List (List ℕ)
  pub many : length chunks ≡ count
  pub here : List ℕ
  pub seen : Seen
  pub leads : Leads (seen_first to_end bytes) chunks (drop 12 bytes) here seen
  pub long : 8 ≤ length here
  pub begun : is_data here ≡ true
  pub form : seen.format ≡ Some format
  pub range : IsInRange format
  pub list : pieces ≡ (take 12 bytes ∷ chunks) ++ take 8 here ∷ []
  pub sized : size ≡ stated seen (size_of here)
  pub left : rest ≡ drop 8 here

-- the same of what a call returns
abbrev pub BeginsWith : (to_end : Bool) (bytes : List ℕ) → WaveFront → (rest : List ℕ) → Type 0
BeginsWith to_end bytes f rest = IsFront to_end bytes f.format (map (λ p. p.items) f.pieces.items) f.size f.count rest

-- the bytes of a source do, if they are known, and the others are still to come
abbrev pub Begins : {S : Type 0} (g : source.Ghosts S) → (to_end : Bool) → (old new : S) → WaveFront → Type 0
Begins g to_end old new f = g.known old ≡ true → BeginsWith to_end (g.coming old) f (g.coming new)

-- Why what came is no samples: the file ended inside them (`cut`) and they may not go on to its end, or they are no whole
-- number of inter-channel samples.
abbrev pub front_fault : (to_end cut whole : Bool) → Option WaveWhy
front_fault to_end cut whole = cond (cut && not to_end) (Some why.DataCut) (cond whole None (Some why.PartSample))

-- the samples that came of the rest are a whole number of inter-channel samples
abbrev pub are_whole : WaveFormat → Option ℕ → List ℕ → Bool
are_whole format size rest = nat_eq (length (given size rest) % row_of format) 0

-- why the bytes after the header are no samples of this size, if they are none
abbrev pub rest_fault : (to_end : Bool) → WaveFormat → (size : Option ℕ) → (rest : List ℕ) → Option WaveWhy
rest_fault to_end format size rest =
    cond (is_unstated size rest) (Some why.DataUnstated) (front_fault to_end (is_cut size rest) (are_whole format size rest))
