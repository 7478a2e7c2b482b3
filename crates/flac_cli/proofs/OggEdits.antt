-- The blocks with which an input begins, and streams that are written with other blocks.
use Rattle.std.proofs.Common.{◌≡◌, true, List, [], ◌∷◌, ◌++◌, Option, Some, None, ℕ, sym, ap, subst, ◌∙◌, append_assoc, append-nil}
use Rattle.flac_bits.specs.Bits.{bits_of}
use Rattle.flac_bits.specs.Handing.{TakesAll}
use Rattle.flac_bits.specs.declared.source.Source as source
use Rattle.flac_bits.specs.declared.target.Target as target
use Rattle.flac_meta.specs.declared.block.Block.{Block}
use Rattle.flac_header.specs.declared.subset.Profile.TheVariants.{Lax}
use Rattle.flac_native.specs.Decoding.{taken}
use Rattle.flac_native.specs.Item.{Item}
use Rattle.flac_native.specs.Stream.{Piece, Progress, marked, block, framed}
use Rattle.flac_native.specs.Track.{IsAt}
use Rattle.flac_ogg.specs.declared.decoding.Fronted.{Fronted}
use Rattle.flac_copy.specs.Frames.{Copied}
use Rattle.flac_copy.specs.Inputs.{IsKnown, FramesCome}
use Rattle.flac_copy.specs.Opened.{HasOneInfo, IsReady, Opens, fronted}
use Rattle.flac_copy.specs.Written.{StartsWith, WritesAs, WritesAlike, AddsCopy}
use Rattle.flac_copy.specs.declared.opened.Copying.{Copying}
use Rattle.flac_cli.specs.OggEdits.{blocks_among, BeginsWithBlocks, RemakesFrom}
use Rattle.flac_cli.specs.inner.OggEdits.{blocks_after, HasBlocks}

module _ {S : Type 0} (view : S → List Block) where
  -- what such a sink makes of an item
  abbrev pub Takes : S → Item → S → Type 0
  Takes s x t = view t ≡ blocks_after (view s) x

  -- It has the blocks of all parts.
  pub all_held : (old : S) (xs : List Piece) (new : S) → TakesAll (taken Takes) old xs new → view new ≡ view old ++ blocks_among xs
  all_held old [] new h = ap view (sym h) ∙ sym (append-nil (view old))
  all_held old (marked ∷ xs) new h = all_held h.0 xs new h.2 ∙ ap (λ s. view s ++ blocks_among xs) (sym h.1)
  all_held old (block last b ∷ xs) new h = all_held h.0 xs new h.2 ∙ ap (λ l. l ++ blocks_among xs) h.1 ∙ append_assoc (view old) (b ∷ []) (blocks_among xs)
  all_held old (framed f ∷ xs) new h = all_held h.0 xs new h.2 ∙ ap (λ l. l ++ blocks_among xs) h.1

-- what holds of the blocks that were read holds of those of the input
pub of_blocks : {S : Type 0} (g : source.Ghosts S) (from : S) (Says : List Block → Type 0) (list : List Block) → HasBlocks g from list → Says list → BeginsWithBlocks g from Says
of_blocks g from Says list has is known parts end read =
    let head = has known parts end read in
    (head.0, subst Says (sym head.1) is)

-- ---- streams that are written with other blocks

-- in the container of this serial number
written_as : {S W : Type 0} (k : source.Ghosts S) (h : target.Ghosts W) (serial : Option ℕ) (c : Copying S) (given : List Block) (w0 w1 : W) (p : Progress) → IsKnown k c.input → h.known w0 ≡ true → IsAt c.track p → IsReady Lax c.info p → WritesAs k h serial c given w0 w1
    → (frames : List Copied) × FramesCome k p c.input frames × StartsWith c.info given × AddsCopy Lax serial c.info given frames (bits_of (h.sent w0)) (bits_of (h.sent w1))
written_as k h None c given w0 w1 p known sends at ready writes = let s = writes known sends p at in (s.frames, s.come, s.first, (s.sent, s.stream Lax ready))
written_as k h (Some serial) c given w0 w1 p known sends at ready writes = let s = writes known sends p at in (s.frames, s.come, s.first, (s.packets, s.headers, s.sent))

-- a stream was opened, and written in its container with blocks that are made of its own
pub remakes : {S W : Type 0} (g : source.Ghosts S) (h : target.Ghosts W) (s : S) (Makes : List Block → List Block → Type 0) (list given : List Block) (c : Copying (Fronted S)) (w0 w1 : W) → Opens g Lax s list c → Makes list given → WritesAlike (fronted g) h c given w0 w1
    → RemakesFrom g h s Makes w0 w1
remakes g h s Makes list given c w0 w1 opens made writes known sends =
    let o = opens known in
    let w = written_as (fronted g) h _ c given w0 w1 o.state o.known sends o.at o.ready (subst (λ n. WritesAs (fronted g) h n c given w0 w1) o.serial writes) in
    record {
      parts = o.parts;
      info = c.info;
      first = subst (HasOneInfo c.info) o.list_is o.first;
      frames = w.0;
      input = o.stream w.0 w.1;
      state = o.state;
      ready = o.ready;
      are = w.1.are;
      given = given;
      made = subst (λ l. Makes l given) o.list_is made;
      begins = w.2;
      adds = w.3;
    }
