-- The first block is STREAMINFO, so that frames come only after one.
use Rattle.std.proofs.Common.{◌≡◌, ◌≢◌, ℕ, Bool, true, false, cond, List, Option, None, refl, ap, subst, ◌∙◌, inl, inr, ◌⊎◌, arith}
use Rattle.std.specs.Prelude.{is_some}
use Rattle.flac_bits.specs.State.{Mark, past}
use Rattle.flac_bits.specs.Layout.{◌>>=◌}
use Rattle.flac_bits.specs.Meaning.{Spells}
use Rattle.flac_info.specs.Info.{Info}
use Rattle.flac_meta.specs.Listed.{block_fault}
use Rattle.flac_meta.specs.Spelling.{kind_of}
use Rattle.flac_meta.specs.declared.block.Block.{Block}
use Rattle.flac_meta.specs.declared.block.Block.TheVariants as block_of
use Rattle.flac_header.specs.declared.subset.Profile.{Profile}
use Rattle.flac_native.specs.Stream.{Piece, marked, block, framed, Stand, Progress, layout, next, phase_after, info_after}
use Rattle.flac_native.specs.declared.track.Phase.TheVariants.{Opening, Blocks}
use Rattle.flac_native.proofs.Blocks.{block_there}
use Rattle.flac_ogg.specs.Mapping.{mapping, is_first_block, packet_layout}
use Rattle.flac_ogg.specs.Stream.{start}
use Rattle.flac_ogg.specs.Telling.{IsUnderWay}

pub started : (profile : Profile) → IsUnderWay (start profile).stand
started profile = record { begun = differ; told = inr (refl, refl) }
  where
    differ : Blocks ≡ Opening → ⊥
    differ e = absurd cc

-- ---- STREAMINFO stays

kept_info : (o : Option Info) (b : Block) → is_some o ≡ true → is_some (info_after o b) ≡ true
kept_info o (block_of.StreamInfo i) e = refl
kept_info o (block_of.Padding n) e = e
kept_info o (block_of.Application id bytes) e = e
kept_info o (block_of.SeekTable points) e = e
kept_info o (block_of.VorbisComment found) e = e
kept_info o (block_of.CueSheet found) e = e
kept_info o (block_of.Picture found) e = e
kept_info o (block_of.Other kind bytes) e = e

-- ---- and it comes first

forbidden : (kind : ℕ) (bytes : List ℕ) → kind ≡ 0 → block_fault (block_of.Other kind bytes) ≡ None → ⊥
forbidden kind bytes e none = let f : block_fault (block_of.Other 0 bytes) ≡ None = subst (λ k. block_fault (block_of.Other k bytes) ≡ None) e none in absurd cc

first_info : (o : Option Info) (b : Block) → kind_of b ≡ 0 → block_fault b ≡ None → is_some (info_after o b) ≡ true
first_info o (block_of.StreamInfo i) e none = refl
first_info o (block_of.Padding n) e none = absurd (omega (arith, e))
first_info o (block_of.Application id bytes) e none = absurd (omega (arith, e))
first_info o (block_of.SeekTable points) e none = absurd (omega (arith, e))
first_info o (block_of.VorbisComment found) e none = absurd (omega (arith, e))
first_info o (block_of.CueSheet found) e none = absurd (omega (arith, e))
first_info o (block_of.Picture found) e none = absurd (omega (arith, e))
first_info o (block_of.Other kind bytes) e none = absurd (forbidden kind bytes e none)

-- the block after the mapping, or without it
after_mapping : (s : Stand) (m : Mark) (text : List Bool) (x : Piece) → Spells (packet_layout s) m text x → (n : Mark) × (rest : List Bool) × Spells (layout s) n rest x
unfolding packet_layout
after_mapping s m text x h = go (is_first_block s.phase s.index) h
  where
    go : (b : Bool) → Spells (cond b (mapping >>= λ _. layout s) (layout s)) m text x → (n : Mark) × (rest : List Bool) × Spells (layout s) n rest x
    go true (u, front, rest, split, first, others) = (past front m, rest, others)
    go false h = (m, text, h)

same_block : (a b : Bool) (c d : Block) → block a c ≡ block b d → c ≡ d
same_block a b c d e = cc

begun_after : (last : Bool) → phase_after last ≢ Opening
begun_after true e = absurd cc
begun_after false e = absurd cc

-- ---- after each item

pub next_begun : (p : Progress) (x : Piece) → p.stand.phase ≢ Opening → (next p x).stand.phase ≢ Opening
next_begun p marked begun = differ
  where
    differ : Blocks ≡ Opening → ⊥
    differ e = absurd cc
next_begun p (block last b) begun = begun_after last
next_begun p (framed f) begun = begun

pub goes_on : (p : Progress) (m : Mark) (text : List Bool) (x : Piece) → IsUnderWay p.stand → Spells (packet_layout p.stand) m text x → IsUnderWay (next p x).stand
goes_on p m text marked way h = record { begun = differ; told = go way.told }
  where
    differ : Blocks ≡ Opening → ⊥
    differ e = absurd cc

    go : (is_some p.stand.info ≡ true) ⊎ ((p.stand.phase ≡ Blocks) × (p.stand.seen.stream_info ≡ false)) → (is_some p.stand.info ≡ true) ⊎ ((Blocks ≡ Blocks) × (p.stand.seen.stream_info ≡ false))
    go (inl e) = inl e
    go (inr (phase, none)) = inr (refl, none)
goes_on p m text (framed f) way h = record { begun = way.begun; told = way.told }
goes_on p m text (block last b) way h = record { begun = begun_after last; told = inl (go way.told) }
  where
    go : (is_some p.stand.info ≡ true) ⊎ ((p.stand.phase ≡ Blocks) × (p.stand.seen.stream_info ≡ false)) → is_some (info_after p.stand.info b) ≡ true
    go (inl e) = kept_info p.stand.info b e
    go (inr (phase, none)) =
        let at = after_mapping p.stand m text (block last b) h in
        let t = block_there p.stand at.0 at.1 (block last b) phase at.2 in
        let same : b ≡ t.is = same_block last t.last b t.is t.part in
        first_info p.stand.info b (ap kind_of same ∙ t.valid.first none) (ap block_fault same ∙ t.valid.written)
