-- What of a stream was sent.
use Rattle.std.proofs.Common.{◌≡◌, ℕ, true, false, Bool, List, ◌∷◌, ◌++◌, None, sym, ap, subst, ◌∙◌, append_assoc}
use Rattle.flac_bits.specs.Bits.{unsigned}
use Rattle.flac_bits.specs.Forms.{joined}
use Rattle.flac_meta.specs.Listed.{list_fault, info_seen}
use Rattle.flac_meta.specs.Valid.{AllAre, FitsFields}
use Rattle.flac_meta.specs.declared.seek_table.SeekPoint.{SeekPoint}
use Rattle.flac_meta.specs.declared.block.Block.{Block}
use Rattle.flac_meta.specs.declared.block.Block.TheVariants as block_of
use Rattle.flac_frame.specs.Audio.{Sound}
use Rattle.flac_native.specs.Given.{Cut, fits_plan, plan_fault, info_of}
use Rattle.flac_native.specs.Writing.{blocks_spelling, head_spelling, AreFrames, AreLeastFrames, AreCounted, Encodes, BeginsEncoding}
use Rattle.flac_native.specs.Seeking.{points_of, table_of, repeats_table}
use Rattle.flac_native.proofs.Planned.{planned, fit}
use Rattle.flac_native.proofs.Tables.{tabled}
use Rattle.flac_native.proofs.Spelled.{alike}
use Rattle.flac_native.proofs.Streams as streams

-- these bits are a stream of what was given
pub given_encodes : (p : Cut) (list : List Block) (a : Sound) (least greatest : ℕ) (points : List SeekPoint) (head : List Bool) (frames : List (List Bool)) (before : List Bool) → plan_fault p ≡ None → fits_plan p a ≡ true
    → list_fault info_seen list ≡ None → AllAre FitsFields list → repeats_table p list ≡ false
    → head ≡ head_spelling (info_of p a least greatest) (list ++ table_of points) → AreCounted p a least greatest points → AreFrames p a frames → AreLeastFrames p a frames → Encodes p list a before (before ++ (head ++ joined frames))
given_encodes p list a least greatest points head frames before good fits may fields once is e are are_least =
    let k = alike p a frames e.frames least greatest are are_least e.are e.are_least e.sizes in
    let all : List Block = list ++ table_of (points_of p frames) in
    let marker : List Bool = unsigned 32 0x664C6143 in
    let blocks = blocks_spelling (block_of.StreamInfo (info_of p a least greatest) ∷ all) in
    let at : head ≡ head_spelling (info_of p a least greatest) all = is ∙ ap (λ l. head_spelling (info_of p a least greatest) (list ++ table_of l)) (e.pointed ∙ sym k.1) in
    let listed = tabled p a list frames (planned p good) (fit p a fits) are once (may, fields) in
    record {
      least = least;
      greatest = greatest;
      frames = frames;
      are = are;
      are_least = are_least;
      sizes = k.0;
      written = ap (λ k. before ++ k) (ap (λ k. k ++ joined frames) at ∙ append_assoc marker blocks (joined frames));
      stream = streams.encoded_are_streams p all a least greatest frames good fits listed.0 listed.1 are k.0;
    }

-- all of it was sent
pub all_sent : (p : Cut) (list : List Block) (a : Sound) (text old new : List Bool) → Encodes p list a old (old ++ text) → new ≡ old ++ text → Encodes p list a old new
all_sent p list a text old new e is = subst (Encodes p list a old) (sym is) e

-- the first of it was sent
pub some_sent : (p : Cut) (list : List Block) (a : Sound) (text front rest old new : List Bool) → Encodes p list a old (old ++ text) → text ≡ front ++ rest → new ≡ old ++ front → BeginsEncoding p list a old new
some_sent p list a text front rest old new e cut is = record { front = front; rest = rest; written = is; encodes = subst (λ k. Encodes p list a old (old ++ k)) cut e }
