-- How a native file is laid out in bytes: the marker, metadata blocks, and the frames, which are not looked into
-- (RFC 9639, section 6).
use Rattle.std.specs.Prelude.{◌≡◌, ◌⊎◌, ℕ, ◌+◌, ◌≤◌, List, [], ◌∷◌, ◌++◌, length}
use Rattle.flac_bits.specs.Bits.{bits_of, unsigned, is_nil}
use Rattle.flac_meta.specs.Spelling.{length_of}
use Rattle.flac_meta.specs.Valid.{BlockSpelled}
use Rattle.flac_native.specs.BlockOrder.{MarkedBlock}

-- fLaC (section 6)
pub record IsMarker (bytes : List ℕ) : Type 0 where
  pub bits : bits_of bytes ≡ unsigned 32 0x664C6143
  pub four : length bytes ≡ 4

-- These bytes are the block, with its mark whether it is the last one: the header of 4 bytes, and a content of the length
-- that the header states (section 8.1).
pub record IsMarkedBlock (b : MarkedBlock) (bytes : List ℕ) : Type 0 where
  pub spelled : BlockSpelled b.0 b.1 (bits_of bytes)
  pub short : length_of b.1 ≤ 16777215
  pub long : length bytes ≡ 4 + length_of b.1

-- the bytes are these blocks, one after another
abbrev pub AreBlocks : List MarkedBlock → List ℕ → Type 0
AreBlocks [] bytes = bytes ≡ []
AreBlocks (b ∷ bs) bytes = (one : List ℕ) × (rest : List ℕ) × IsMarkedBlock b one × AreBlocks bs rest × (bytes ≡ one ++ rest)

-- exactly the block after which no other comes is marked last (section 8.1)
abbrev pub AreMarked : List MarkedBlock → Type 0
AreMarked [] = Unit {0}
AreMarked (b ∷ bs) = (b.0 ≡ is_nil bs) × AreMarked bs

-- how many bytes the blocks take
abbrev pub total : List MarkedBlock → ℕ
total [] = 0
total (b ∷ bs) = 4 + length_of b.1 + total bs

-- the file is the marker, these blocks, and these bytes of frames
pub record Reads (blocks : List MarkedBlock) (frames file : List ℕ) : Type 0 where
  pub marker : List ℕ
  pub head : List ℕ
  pub marker_is : IsMarker marker
  pub file_is : file ≡ marker ++ (head ++ frames)
  pub spelled : AreBlocks blocks head

-- it has the old blocks or the new ones, before the same frames
abbrev pub IsOldOrNew : List MarkedBlock → List MarkedBlock → List ℕ → List ℕ → Type 0
IsOldOrNew olds news frames file = Reads olds frames file ⊎ Reads news frames file

-- The marker, some blocks, at an offset those of a run, of this many bytes, the rest of the blocks, and frames.
pub record HasRun (front run rest : List MarkedBlock) (frames : List ℕ) (at size : ℕ) (file : List ℕ) : Type 0 where
  pub marker : List ℕ
  pub before : List ℕ
  pub inside : List ℕ
  pub after : List ℕ
  pub marker_is : IsMarker marker
  pub is : file ≡ marker ++ (before ++ (inside ++ (after ++ frames)))
  pub begins : length (marker ++ before) ≡ at
  pub long : length inside ≡ size
  pub front_is : AreBlocks front before
  pub run_is : AreBlocks run inside
  pub rest_is : AreBlocks rest after
