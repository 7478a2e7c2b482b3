-- A copy in Ogg, from its header packets on.
use Rattle.std.proofs.Common.{◌≡◌, ℕ, Bool, true, List, [], ◌∷◌, ◌++◌, refl, sym, ap, ◌∙◌, append_assoc}
use Rattle.std.proofs.lemmas.List.{append-nil}
use Rattle.flac_bits.proofs.Holding.{bits_of-append}
use Rattle.flac_bits.specs.Bits.{bits_of}
use Rattle.flac_bits.specs.declared.target.Target as target
use Rattle.flac_info.specs.Info.{Info}
use Rattle.flac_meta.specs.declared.block.Block.{Block}
use Rattle.flac_pages.specs.Placed.{Placed, stream_spelling}
use Rattle.flac_ogg.specs.Headers.{AreHeadersOf}
use Rattle.flac_ogg.specs.Held.{ArePages}
use Rattle.flac_ogg.specs.Listed.{texts_of}
use Rattle.flac_ogg.specs.declared.headers.Headers.{Headers}
use Rattle.flac_ogg.proofs.OpenPages.{pages_more}
use Rattle.flac_copy.specs.Blocks.{ogg_blocks}
use Rattle.flac_copy.specs.Frames.{Copied}
use Rattle.flac_copy.specs.Outgoing.{Pending, frame_placed, frames_placed, after_frame, pages_to_come}
use Rattle.flac_copy.specs.Written.{BeginsOgg}

-- what was written and what is to come are the pages of all packets
pub pages_come : (p : Placed) (ps : List Placed) (o : Pending) (xs : List Copied) (written : List Bool) → ArePages o.serial (p ∷ ps) written o.middle o.last o.next
    → written ++ pages_to_come o xs ≡ stream_spelling o.serial ((p ∷ ps) ++ frames_placed o.samples xs)
pages_come p ps o [] written are = are.last_is ∙ ap (λ l. stream_spelling o.serial l) (sym (append-nil (p ∷ ps)))
pages_come p ps o (x ∷ xs) written are =
    let q = frame_placed o.samples x.bytes x.frame.size in
    let k = after_frame o x.bytes x.frame.size in
    let more : ArePages o.serial (p ∷ (ps ++ q ∷ [])) (written ++ o.middle) k.middle k.last k.next =
    pages_more o.serial o.next k.next p ps q written o.middle o.last k.middle k.last are refl refl refl in
    sym (append_assoc written o.middle (pages_to_come k xs))
    ∙ pages_come p (ps ++ q ∷ []) k xs (written ++ o.middle) more
    ∙ ap (λ l. stream_spelling o.serial l) (append_assoc (p ∷ ps) (q ∷ []) (frames_placed k.samples xs))

-- the same of packets of which there are some
pub pages_all : (packets : List Placed) (first : List Bool) (others : List (List Bool)) (o : Pending) (xs : List Copied) (written : List Bool) → texts_of packets ≡ first ∷ others
    → ArePages o.serial packets written o.middle o.last o.next → written ++ pages_to_come o xs ≡ stream_spelling o.serial (packets ++ frames_placed o.samples xs)
pages_all [] first others o xs written texts are = absurd cc
pages_all (p ∷ ps) first others o xs written texts are = pages_come p ps o xs written are

-- the header packets were made, and those but the last were sent
pub begins_ogg : {W : Type 0} (h : target.Ghosts W) (serial : ℕ) (info : Info) (given : List Block) (made : Headers) (w0 w1 : W) → AreHeadersOf info (ogg_blocks given) made → made.serial ≡ serial → (h.known w0 ≡ true → h.known w1 ≡ true)
    → (h.known w0 ≡ true → h.sent w1 ≡ h.sent w0 ++ made.sent.items)
    → BeginsOgg h serial info given (record { serial = made.serial; middle = bits_of made.held.middle.items; last = bits_of made.held.last.items; next = made.held.next; samples = 0 }) w0 w1
begins_ogg h serial info given made w0 w1 are number known sent = record {
  packets = are.packets;
  are = record { texts = are.texts_are; kinds = are.kinds_are };
  good = are.good;
  written = bits_of made.sent.items;
  pages = are.pages;
  number = number;
  none = refl;
  known = known;
  sent = λ k. ap bits_of (sent k) ∙ bits_of-append (h.sent w0) made.sent.items;
}
