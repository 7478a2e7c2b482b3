-- What a WAV file is, and how it is made again of pieces and samples.
use Rattle.std.specs.Prelude.{◌≡◌, ℕ, ◌%◌, ◌&&◌, Bool, true, false, cond, nat_eq, List, [], ◌∷◌, ◌++◌, length, take, drop, map, Option, Some, None, Vec}
use Rattle.flac_wave.specs.Chunks.{Leads, header_fault, seen_first, fault_at, is_data, data_len}
use Rattle.flac_wave.specs.Cuts.{AreCuts}
use Rattle.flac_wave.specs.declared.seen.Seen.{Seen}
use Rattle.flac_wave.specs.declared.format.WaveFormat.{WaveFormat}
use Rattle.flac_wave.specs.declared.waves.Wave.{Wave}
use Rattle.flac_wave.specs.declared.waves.WaveError.{WaveError}
use Rattle.flac_wave.specs.declared.waves.WaveError.TheVariants as error
use Rattle.flac_wave.specs.declared.why.WaveWhy.{WaveWhy}
use Rattle.std.specs.declared.alloc.Global.{Global}

-- ---- the parts of a file

-- the format of the samples; the pieces before them: the header of the file, its chunks, and the header of the chunk of
-- samples; the samples; what follows them
pub record Parts : Type 0 where
  pub format : WaveFormat
  pub pieces : List (List ℕ)
  pub samples : List ℕ
  pub back : List ℕ

-- These bytes are a WAV file of these parts, whose samples may go on to the end of a file that ends inside them, or may not.
pub record IsWave (to_end : Bool) (bytes : List ℕ) (w : Parts) : Type 0 where
  pub header : header_fault bytes ≡ None
  pub chunks : List (List ℕ)
  pub rest : List ℕ
  pub seen : Seen
  pub leads : Leads (seen_first to_end bytes) chunks (drop 12 bytes) rest seen
  pub good : fault_at seen rest ≡ None
  pub begun : is_data rest ≡ true
  pub format : seen.format ≡ Some w.format
  pub pieces : w.pieces ≡ (take 12 bytes ∷ chunks) ++ take 8 rest ∷ []
  pub samples : w.samples ≡ take (data_len seen rest) (drop 8 rest)
  pub back : w.back ≡ drop (data_len seen rest) (drop 8 rest)

-- These bytes are no WAV file, for this reason: the header is none (`at` is None), or after `count` chunks there is
-- neither a chunk that may stand there nor samples.
abbrev pub IsNoWave : (to_end : Bool) (bytes : List ℕ) → (at : Option ℕ) → WaveWhy → Type 0
IsNoWave to_end bytes None why = header_fault bytes ≡ Some why
IsNoWave to_end bytes (Some count) why =
    (header_fault bytes ≡ None) × (chunks : List (List ℕ)) × (rest : List ℕ) × (seen : Seen)
    × (length chunks ≡ count) × Leads (seen_first to_end bytes) chunks (drop 12 bytes) rest seen × (fault_at seen rest ≡ Some why)

-- ---- the file again

-- the header of the chunk of samples, alone
abbrev pub is_head : List ℕ → Bool
is_head piece = nat_eq (length piece) 8 && is_data piece

-- the pieces up to the first such header, joined
abbrev pub front_of : List (List ℕ) → List ℕ
front_of [] = []
front_of (p ∷ ps) = cond (is_head p) p (p ++ front_of ps)

-- the pieces after it
abbrev pub pieces_after : List (List ℕ) → List (List ℕ)
pieces_after [] = []
pieces_after (p ∷ ps) = cond (is_head p) ps (pieces_after ps)

-- pieces, joined
abbrev pub all_of : List (List ℕ) → List ℕ
all_of [] = []
all_of (p ∷ ps) = p ++ all_of ps

-- the first piece has no byte
abbrev pub begins_empty : List (List ℕ) → Bool
begins_empty [] = false
begins_empty ([] ∷ ps) = true
begins_empty ((b ∷ bs) ∷ ps) = false

-- The byte after samples of odd length: a zero, unless the pieces after them begin with one without a byte. Then the
-- pieces have this byte themselves, or there is none.
abbrev pub pad_of : (samples : List ℕ) (pieces : List (List ℕ)) → List ℕ
pad_of samples pieces = cond (nat_eq (length samples % 2) 0) [] (cond (begins_empty pieces) [] (0 ∷ []))

-- the file of these pieces and samples
abbrev pub restored : (pieces : List (List ℕ)) (samples : List ℕ) → List ℕ
restored pieces samples = front_of pieces ++ (samples ++ (pad_of samples (pieces_after pieces) ++ all_of (pieces_after pieces)))

-- these bytes begin with a zero
abbrev pub begins_zero : List ℕ → Bool
begins_zero [] = false
begins_zero (b ∷ bs) = nat_eq b 0

-- The pieces that are kept of what follows samples, whose length is even or not. A zero after samples of odd length is
-- not kept; if it is not there, the first piece has no byte.
abbrev pub ArePiecesBy : (even zero : Bool) (back : List ℕ) (pieces : List (List ℕ)) → Type 0
ArePiecesBy true zero back pieces = AreCuts pieces back
ArePiecesBy false true back pieces = AreCuts pieces (drop 1 back)
ArePiecesBy false false back pieces = (ps : List (List ℕ)) × (pieces ≡ [] ∷ ps) × AreCuts ps back

-- vectors are these pieces
abbrev pub AreCutBy : (even : Bool) (back : List ℕ) (pieces : List (Vec ℕ Global)) → Type 0
AreCutBy even back pieces = ArePiecesBy even (begins_zero back) back (map (λ p. p.items) pieces)

abbrev pub ArePiecesAfter : (samples back : List ℕ) (pieces : List (List ℕ)) → Type 0
ArePiecesAfter samples back pieces = ArePiecesBy (nat_eq (length samples % 2) 0) (begins_zero back) back pieces

-- ---- laws

-- the pieces and the samples of a file make the same file again, byte for byte
abbrev pub WavesComeBack : Type 0
WavesComeBack =
    (to_end : Bool) (bytes : List ℕ) (w : Parts) (after : List (List ℕ)) → IsWave to_end bytes w → ArePiecesAfter w.samples w.back after → restored (w.pieces ++ after) w.samples ≡ bytes

-- bytes are one file
abbrev pub AreOneFile : Type 0
AreOneFile = (to_end : Bool) (bytes : List ℕ) (v w : Parts) → IsWave to_end bytes v → IsWave to_end bytes w → v ≡ w

-- bytes that are a file are refused for no reason
abbrev pub AreFileOrNone : Type 0
AreFileOrNone = (to_end : Bool) (bytes : List ℕ) (w : Parts) (chunk : Option ℕ) (why : WaveWhy) → IsWave to_end bytes w → IsNoWave to_end bytes chunk why → ⊥

-- and those that are none for one, at one place
abbrev pub AreRefusedOnce : Type 0
AreRefusedOnce =
    (to_end : Bool) (bytes : List ℕ) (chunk other : Option ℕ) (why reason : WaveWhy) → IsNoWave to_end bytes chunk why → IsNoWave to_end bytes other reason → (chunk ≡ other) × (why ≡ reason)

-- ---- what a call returns

-- a file without where its parts lie in memory
abbrev pub parts_of : Wave → Parts
parts_of w = record { format = w.format; pieces = map (λ p. p.items) w.pieces.items; samples = w.samples.now; back = w.back.now }

-- this error says why these bytes are no WAV file, unless memory ran out; no source failed
abbrev pub IsErrorOf : (to_end : Bool) (bytes : List ℕ) → WaveError → Type 0
IsErrorOf to_end bytes error.Memory = Unit {0}
IsErrorOf to_end bytes error.Read = ⊥
IsErrorOf to_end bytes (error.Fault f) = IsNoWave to_end bytes f.chunk f.why
