-- The packets of what is encoded.
use Rattle.std.proofs.Common.{◌≡◌, ℕ, zero, suc, ◌+◌, ◌<◌, Bool, nat_eq, List, [], ◌∷◌, ◌++◌, length, take, get_or, replicate, None, refl, sym, ap, ◌∙◌, arith}
use Rattle.std.proofs.lemmas.Bool.Decides.{nat_tests}
use Rattle.flac_bits.specs.Bits.{unsigned, is_nil}
use Rattle.flac_bits.proofs.Words.{length-unsigned}
use Rattle.flac_info.specs.Info.{Info}
use Rattle.flac_meta.specs.Listed.{block_fault}
use Rattle.flac_meta.specs.Spelling.{block_spelling}
use Rattle.flac_meta.specs.declared.block.Block.{Block}
use Rattle.flac_meta.specs.declared.block.Block.TheVariants as block_of
use Rattle.flac_native.proofs.WholeBytes.{Whole, length-joined}
use Rattle.flac_native.proofs.BlocksWritten.{nil_is}
use Rattle.flac_pages.specs.declared.writing.PacketKind.{PacketKind}
use Rattle.flac_pages.specs.declared.writing.PacketKind.TheVariants.{Header}
use Rattle.flac_ogg.specs.Native.{mapping_spelling, block_spellings}

-- ---- the first packet

pub mapping_long : (count : ℕ) → length (mapping_spelling count) ≡ 104
mapping_long count = omega (arith, length-joined (unsigned 40 0x7F464C4143 ∷ unsigned 16 0x0100 ∷ unsigned 16 count ∷ unsigned 32 0x664C6143 ∷ []), length-unsigned 40 0x7F464C4143, length-unsigned 16 0x0100, length-unsigned 16 count, length-unsigned 32 0x664C6143)

pub mapping_whole : (count : ℕ) → Whole (mapping_spelling count)
mapping_whole count = record { bytes = omega (arith, mapping_long count) }

pub info_faultless : (info : Info) → block_fault (block_of.StreamInfo info) ≡ None
info_faultless info = refl

-- ---- the blocks

pub count_blocks : (bs : List Block) → length (block_spellings bs) ≡ length bs
count_blocks [] = refl
count_blocks (b ∷ bs) = omega (arith, count_blocks bs)

shifted : (i n : ℕ) → nat_eq (i + 1) n ≡ nat_eq (suc i + 1) (suc n)
shifted i n = grind (arith, nat_tests)

one_only : (n : ℕ) → nat_eq n 0 ≡ nat_eq (0 + 1) (suc n)
one_only n = grind (arith, nat_tests)

-- the first blocks, and one more
pub block_more : (bs : List Block) (i : ℕ) (b : Block) → i < length bs → b ≡ get_or bs i b → take (i + 1) (block_spellings bs) ≡ take i (block_spellings bs) ++ block_spelling (nat_eq (i + 1) (length bs)) b ∷ []
block_more [] i b lt is = absurd (omega (arith, lt))
block_more (x ∷ xs) zero b lt is =
    ap (λ l. block_spelling l x ∷ []) (nil_is xs ∙ one_only (length xs)) ∙ ap (λ y. block_spelling (nat_eq (0 + 1) (suc (length xs))) y ∷ []) (sym is)
block_more (x ∷ xs) (suc i) b lt is =
    let e : suc i + 1 ≡ suc (i + 1) = omega arith in
    ap (λ n. take n (block_spellings (x ∷ xs))) e ∙ ap (λ (l : List (List Bool)). block_spelling (is_nil xs) x ∷ l) (block_more xs i b (omega (arith, lt)) is ∙ ap (λ k. take i (block_spellings xs) ++ block_spelling k b ∷ []) (shifted i (length xs)))

take_over : (xs : List (List Bool)) (n : ℕ) → n ≡ length xs → take n xs ≡ xs
take_over [] zero e = refl
take_over [] (suc n) e = refl
take_over (x ∷ xs) zero e = absurd (omega (arith, e))
take_over (x ∷ xs) (suc n) e = ap (λ (l : List (List Bool)). x ∷ l) (take_over xs n (omega (arith, e)))

pub all_blocks : (bs : List Block) (i : ℕ) → i ≡ length bs → take i (block_spellings bs) ≡ block_spellings bs
all_blocks bs i e = take_over (block_spellings bs) i (e ∙ sym (count_blocks bs))

abbrev pub headers : ℕ → List PacketKind
headers n = replicate n Header

pub headers_more : (i : ℕ) → headers (i + 1) ≡ headers i ++ Header ∷ []
headers_more zero = refl
headers_more (suc i) = let e : suc i + 1 ≡ suc (i + 1) = omega arith in ap headers e ∙ ap (λ (l : List PacketKind). Header ∷ l) (headers_more i)
