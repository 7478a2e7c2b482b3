-- A metadata block (RFC 9639, section 8).
use Rattle.std.specs.Prelude.{◌≡◌, ℕ, ◌-◌, ◌*◌, ◌/◌, ◌<◌, Bool, true, nat_eq, None, Result, Ok, Err}
use Rattle.flac_bits.specs.State.{State, Cursor}
use Rattle.flac_bits.specs.Layout.{Layout, done, ◌>>=◌, bits, choose, run}
use Rattle.flac_bits.specs.Lists.{list_of}
use Rattle.flac_meta.specs.Info.{stream_info}
use Rattle.flac_meta.specs.Header.{block_header}
use Rattle.flac_meta.specs.Padding.{skipped}
use Rattle.flac_meta.specs.SeekTable.{seek_points}
use Rattle.flac_meta.specs.Comments.{comments}
use Rattle.flac_meta.specs.CueSheet.{cue_sheet}
use Rattle.flac_meta.specs.Picture.{picture}
use Rattle.flac_bits.specs.declared.why.Why.{Why}
use Rattle.flac_bits.specs.declared.why.Why.TheVariants.{Memory}
use Rattle.flac_meta.specs.declared.block.BlockHeader.{BlockHeader}
use Rattle.flac_meta.specs.declared.block.Seen.{Seen}
use Rattle.flac_meta.specs.declared.block.Block.{Block}
use Rattle.flac_meta.specs.declared.block.Block.TheVariants as block_of

-- padding: its bytes may have any value (section 8.3)
unfoldable pub padding : ℕ → Layout Block
padding length = do
  _ ← skipped (8 * length)
  done (block_of.Padding length)

-- an identifier of 4 bytes, and the application's data (section 8.4)
unfoldable pub application : ℕ → Layout Block
application length = do
  id ← list_of 4 (bits 8)
  bytes ← list_of (length - 4) (bits 8)
  done (block_of.Application id bytes)

-- a kind that is reserved: bytes that are kept
unfoldable pub other : ℕ → ℕ → Layout Block
other kind length = do
  bytes ← list_of length (bits 8)
  done (block_of.Other kind bytes)

-- the content of a block of this kind and of this length in bytes (section 8.1, the table of kinds)
unfoldable pub content : ℕ → ℕ → Layout Block
content kind length =
    choose (nat_eq kind 0) (stream_info >>= λ info. done (block_of.StreamInfo info))
    (choose (nat_eq kind 1) (padding length)
    (choose (nat_eq kind 2) (application length)
    (choose (nat_eq kind 3) (seek_points (length / 18) None >>= λ points. done (block_of.SeekTable points))
    (choose (nat_eq kind 4) (comments length >>= λ found. done (block_of.VorbisComment found))
    (choose (nat_eq kind 5) (cue_sheet length >>= λ sheet. done (block_of.CueSheet sheet))
    (choose (nat_eq kind 6) (picture length >>= λ found. done (block_of.Picture found))
    (other kind length)))))))

-- whether it is the last block, and the block
unfoldable pub block : Seen → Layout (Bool × Block)
block seen = do
  header ← block_header seen
  body ← content header.kind header.length
  done (header.last, body)

-- which kinds came, after one more block
abbrev pub seen_after : Seen → Block → Seen
seen_after seen (block_of.StreamInfo info) = record seen { stream_info = true }
seen_after seen (block_of.SeekTable points) = record seen { seek_table = true }
seen_after seen (block_of.VorbisComment found) = record seen { comments = true }
seen_after seen found = seen

-- Memory runs out only after a valid header of a kind that needs some: neither STREAMINFO nor padding.
abbrev pub MemoryAsked : {X : Type 0} → Seen → State → State → Result X Why → Type 0
MemoryAsked seen old new result = result ≡ Err Memory → old.known ≡ true → new.errors ≡ old.errors → (old.cursor.mark.short ≡ Memory → ⊥)
    → (header : BlockHeader) × (after : Cursor) × (run (block_header seen) old.cursor ≡ Ok (header, after)) × (1 < header.kind)
