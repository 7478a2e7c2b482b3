-- Blocks that are written one after another.
use Rattle.std.proofs.Common.{◌≡◌, ℕ, zero, suc, ◌+◌, ◌<◌, true, false, nat_eq, List, [], ◌∷◌, ◌++◌, length, length-append, drop, get_or, None, Result, refl, sym, ap, subst, ◌∙◌, arith}
use Rattle.std.proofs.lemmas.List.{append-nil}
use Rattle.std.proofs.Math.ListN.{get_or-append}
use Rattle.std.proofs.lemmas.Bool.Decides.{nat_tests}
use Rattle.flac_bits.specs.Bits.{is_nil}
use Rattle.flac_bits.specs.declared.why.Why.{Why}
use Rattle.flac_meta.specs.Block.{seen_after}
use Rattle.flac_meta.specs.Listed.{block_fault, fault_after, list_fault}
use Rattle.flac_meta.specs.Spelling.{block_spelling}
use Rattle.flac_meta.specs.declared.block.Seen.{Seen}
use Rattle.flac_meta.specs.declared.block.Block.{Block}
use Rattle.flac_meta.specs.declared.seek_table.SeekPoint.{SeekPoint}
use Rattle.flac_meta.specs.declared.block.Block.TheVariants as block_of
use Rattle.flac_meta.proofs.Listed.{fault_none, or_else_none}
use Rattle.flac_bits.specs.Written.{Written, Adds, Writes}
use Rattle.flac_bits.proofs.Writing.{towards_start, towards_end}
use Rattle.flac_native.specs.Seeking.{table_of}
use Rattle.flac_native.specs.Writing.{blocks_spelling}

is_last : (bs : List Block) → is_nil bs ≡ nat_eq 1 (suc (length bs))
is_last [] = refl
is_last (b ∷ bs) = let e : nat_eq 1 (suc (suc (length bs))) ≡ false = grind (arith, nat_tests) in sym e

shifted : (i n : ℕ) → nat_eq (i + 1) n ≡ nat_eq (suc i + 1) (suc n)
shifted i n = grind (arith, nat_tests)

-- one block more
pub blocks_step : (bs : List Block) (i : ℕ) (b : Block) → i < length bs → b ≡ get_or bs i b → blocks_spelling (drop i bs) ≡ block_spelling (nat_eq (i + 1) (length bs)) b ++ blocks_spelling (drop (i + 1) bs)
blocks_step [] i b lt is = absurd (omega (arith, lt))
blocks_step (x ∷ xs) zero b lt is = ap (λ l. block_spelling l x ++ blocks_spelling xs) (is_last xs) ∙ ap (λ y. block_spelling (nat_eq 1 (suc (length xs))) y ++ blocks_spelling xs) (sym is)
blocks_step (x ∷ xs) (suc i) b lt is =
    let e : suc i + 1 ≡ suc (i + 1) = omega arith in
    blocks_step xs i b (omega (arith, lt)) is ∙ ap (λ l. block_spelling l b ++ blocks_spelling (drop (i + 1) xs)) (shifted i (length xs)) ∙ ap (λ n. block_spelling (nat_eq (suc i + 1) (suc (length xs))) b ++ blocks_spelling (drop n (x ∷ xs))) (sym e)

-- each block of a list may be written
pub each_written : (bs : List Block) (seen : Seen) (i : ℕ) (b : Block) → list_fault seen bs ≡ None → i < length bs → b ≡ get_or bs i b → block_fault b ≡ None
each_written [] seen i b e lt is = absurd (omega (arith, lt))
each_written (x ∷ xs) seen zero b e lt is = ap block_fault is ∙ (fault_none seen x (or_else_none (fault_after seen x) _ e).0).1
each_written (x ∷ xs) seen (suc i) b e lt is = each_written xs (seen_after seen x) i b (or_else_none (fault_after seen x) _ e).1 (omega (arith, lt)) is

pub nil_is : (bs : List Block) → is_nil bs ≡ nat_eq (length bs) 0
nil_is [] = refl
nil_is (b ∷ bs) = let e : nat_eq (suc (length bs)) 0 ≡ false = grind (arith, nat_tests) in sym e

-- the first block
pub first_step : (b : Block) (bs : List Block) → blocks_spelling (b ∷ bs) ≡ block_spelling (nat_eq (length bs) 0) b ++ blocks_spelling bs
first_step b bs = ap (λ l. block_spelling l b ++ blocks_spelling bs) (nil_is bs)

-- ---- with the table of points

pub without_points : (bs : List Block) (points : List SeekPoint) → nat_eq (length points) 0 ≡ true → length (bs ++ table_of points) ≡ length bs
without_points bs [] e = ap (λ (l : List Block). length l) (append-nil bs)
without_points bs (x ∷ xs) e = let z : length (x ∷ xs) ≡ 0 = grind (arith, nat_tests) in absurd (omega (arith, z))

pub with_points : (bs : List Block) (points : List SeekPoint) → nat_eq (length points) 0 ≡ false → length (bs ++ table_of points) ≡ length bs + 1
with_points bs [] e = absurd cc
with_points bs (x ∷ xs) e = length-append bs (block_of.SeekTable (x ∷ xs) ∷ [])

pub none_written : (points : List SeekPoint) (w : Written) → nat_eq (length points) 0 ≡ true → Adds (blocks_spelling (table_of points)) w w
none_written [] w e = towards_end refl (towards_start [] w)
none_written (x ∷ xs) w e = let z : length (x ∷ xs) ≡ 0 = grind (arith, nat_tests) in absurd (omega (arith, z))

pub table_written : {X : Type 0} (points : List SeekPoint) (old new : Written) (r : Result X Why) → nat_eq (length points) 0 ≡ false → Writes (block_spelling true (block_of.SeekTable points)) old new r
    → Writes (blocks_spelling (table_of points)) old new r
table_written [] old new r e w = absurd cc
table_written (x ∷ xs) old new r e w = subst (λ t. Writes t old new r) (sym (append-nil (block_spelling true (block_of.SeekTable (x ∷ xs))))) w

pub after_all : (bs more : List Block) (i : ℕ) → i ≡ length bs → drop i (bs ++ more) ≡ more
after_all [] more i e = ap (λ n. drop n more) e
after_all (x ∷ xs) more i e = ap (λ n. drop n (x ∷ xs ++ more)) e ∙ after_all xs more (length xs) refl

pub before_table : (bs more : List Block) (i : ℕ) (b : Block) → i < length bs → b ≡ get_or bs i b → (i < length (bs ++ more)) × (b ≡ get_or (bs ++ more) i b)
before_table bs more i b lt is = (omega (arith, lt, length-append bs more), is ∙ sym (get_or-append bs more b i lt))
