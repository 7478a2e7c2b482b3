-- Blocks as bytes.
use Rattle.std.proofs.Common.{◌≡◌, inl, inr, ℕ, ◌+◌, ◌*◌, ◌≤◌, ◌<◌, ◌^◌, Bool, true, false, List, [], ◌∷◌, ◌++◌, length, take, drop, refl, sym, ◌∙◌, ap, subst, arith, length-append, take-append-drop, append_assoc}
use Rattle.std.proofs.lemmas.List.{take_at, drop_at, length-take-le, append-nil}
use Rattle.flac_bits.specs.Bits.{bits_of, unsigned}
use Rattle.flac_bits.specs.declared.why.Why.TheVariants.{Memory}
use Rattle.flac_bits.proofs.Words.{length-unsigned}
use Rattle.flac_bits.proofs.Holding.{length-bits_of, bits_of-append}
use Rattle.flac_bits.proofs.Readings.{number_reads}
use Rattle.flac_meta.specs.Spelling.{header_spelling}
use Rattle.flac_meta.specs.Valid.{BlockSpelled}
use Rattle.flac_meta.specs.declared.block.Block.{Block}
use Rattle.flac_meta.specs.declared.block.Block.TheVariants as block_of
use Rattle.flac_edit.specs.inner.Reads.{IsMarkedBlock, AreBlocks, total}

nil_of : (l : List Bool) → length l ≡ 0 → l ≡ []
nil_of [] e = refl
nil_of (x ∷ l) e = absurd (omega (arith, e))

-- any bits are those of a number
pub any_bits : (text : List Bool) → (v : ℕ) × (v < 2 ^ length text) × (text ≡ unsigned (length text) v)
any_bits text = elim (number_reads (length text) text (record { unread = 0; bytes = 0; check8 = 0; check16 = 0; short = Memory })) [
  | inl (v, rest, good, is) ↦
      let long : length text ≡ length text + length rest =
      ap (λ (l : List Bool). length l) good.1 ∙ length-append (unsigned (length text) v) rest ∙ ap (λ n. n + length rest) (length-unsigned (length text) v) in
      let none : rest ≡ [] = nil_of rest (omega (arith, long)) in
      (v, good.0, good.1 ∙ ap (λ (l : List Bool). unsigned (length text) v ++ l) none ∙ append-nil (unsigned (length text) v))
  | inr (short, is) ↦ absurd (omega (arith, short))
]

pub length-header : (last : Bool) (kind size : ℕ) → length (header_spelling last kind size) ≡ 32
unfolding header_spelling
length-header true kind size = refl
length-header false kind size = refl

-- the bytes whose bits come first
pub front_bytes : (one : List ℕ) (H rest : List Bool) (k : ℕ) → length H ≡ 8 * k → bits_of one ≡ H ++ rest → (bits_of (take k one) ≡ H) × (bits_of (drop k one) ≡ rest) × (length (take k one) ≡ k)
front_bytes one H rest k h e =
    let long : 8 * length one ≡ 8 * k + length rest = sym (length-bits_of one) ∙ ap (λ (l : List Bool). length l) e ∙ length-append H rest ∙ ap (λ n. n + length rest) h in
    let k_long : length (take k one) ≡ k = length-take-le k one (omega (arith, long)) in
    let bits_long : length (bits_of (take k one)) ≡ 8 * k = length-bits_of (take k one) ∙ ap (λ n. 8 * n) k_long in
    let split : bits_of (take k one) ++ bits_of (drop k one) ≡ H ++ rest = sym (bits_of-append (take k one) (drop k one)) ∙ ap bits_of (take-append-drop k one) ∙ e in (
      sym (take_at (bits_of (take k one)) (bits_of (drop k one)) (8 * k) bits_long) ∙ ap (λ (l : List Bool). take (8 * k) l) split ∙ take_at H rest (8 * k) h,
      sym (drop_at (bits_of (take k one)) (bits_of (drop k one)) (8 * k) bits_long) ∙ ap (λ (l : List Bool). drop (8 * k) l) split ∙ drop_at H rest (8 * k) h,
      k_long,
    )

-- padding as bytes: a header and any bytes
pub record Padded (last : Bool) (p : ℕ) (one : List ℕ) : Type 0 where
  pub header : List ℕ
  pub body : List ℕ
  pub is : one ≡ header ++ body
  pub four : length header ≡ 4
  pub long : length body ≡ p
  pub bits : bits_of header ≡ header_spelling last 1 p

pub padded : (last : Bool) (p : ℕ) (one : List ℕ) → BlockSpelled last (block_of.Padding p) (bits_of one) → Padded last p one
padded last p one (content, (v, lt, is), e) =
    let H = header_spelling last 1 p in
    let parts = front_bytes one H (content ++ []) 4 (length-header last 1 p) e in
    let inner : length (content ++ []) ≡ 8 * p = ap (λ (l : List Bool). length l) (append-nil content ∙ is) ∙ length-unsigned (8 * p) v in
    let all : 8 * length (drop 4 one) ≡ 8 * p = sym (length-bits_of (drop 4 one)) ∙ ap (λ (l : List Bool). length l) parts.1 ∙ inner in
    record {
      header = take 4 one;
      body = drop 4 one;
      is = sym (take-append-drop 4 one);
      four = parts.2;
      long = omega (arith, all);
      bits = parts.0;
    }

pub any_padding : (last : Bool) (n : ℕ) (h body : List ℕ) → length body ≡ n → bits_of h ≡ header_spelling last 1 n → n ≤ 16777215 → IsMarkedBlock (last, block_of.Padding n) (h ++ body)
any_padding last n h body long is small =
    let any = any_bits (bits_of body) in
    let size : length (bits_of body) ≡ 8 * n = length-bits_of body ∙ ap (λ k. 8 * k) long in
    record {
      spelled = (
        bits_of body,
        (any.0, subst (λ k. any.0 < 2 ^ k) size any.1, subst (λ k. bits_of body ≡ unsigned k any.0) size any.2),
        bits_of-append h body ∙ ap (λ (l : List Bool). l ++ bits_of body) is ∙ ap (λ (l : List Bool). header_spelling last 1 n ++ l) (sym (append-nil (bits_of body))),
      );
      short = small;
      long = length-append h body ∙ omega (arith, long, length-bits_of h, ap (λ (l : List Bool). length l) is, length-header last 1 n);
    }

-- ---- blocks one after another

pub append_blocks : (xs ys : List (Bool × Block)) (a b : List ℕ) → AreBlocks xs a → AreBlocks ys b → AreBlocks (xs ++ ys) (a ++ b)
append_blocks [] ys a b none more = subst (λ (l : List ℕ). AreBlocks ys (l ++ b)) (sym none) more
append_blocks (x ∷ xs) ys a b (one, rest, spelled, others, is) more = (one, rest ++ b, spelled, append_blocks xs ys rest b others more, ap (λ (l : List ℕ). l ++ b) is ∙ append_assoc one rest b)

pub split_blocks : (xs ys : List (Bool × Block)) (c : List ℕ) → AreBlocks (xs ++ ys) c → (a : List ℕ) × (b : List ℕ) × AreBlocks xs a × AreBlocks ys b × (c ≡ a ++ b)
split_blocks [] ys c all = ([], c, refl, all, refl)
split_blocks (x ∷ xs) ys c (one, rest, spelled, others, is) =
    let s = split_blocks xs ys rest others in (
      one ++ s.0,
      s.1,
      (one, s.0, spelled, s.2, refl),
      s.3,
      is ∙ ap (λ (l : List ℕ). one ++ l) s.4 ∙ sym (append_assoc one s.0 s.1),
    )

pub one_block : (b : Bool × Block) (one : List ℕ) → IsMarkedBlock b one → AreBlocks (b ∷ []) one
one_block b one is = (one, [], is, refl, sym (append-nil one))

pub more_blocks : (b : Bool × Block) (bs : List (Bool × Block)) (one rest : List ℕ) → IsMarkedBlock b one → AreBlocks bs rest → AreBlocks (b ∷ bs) (one ++ rest)
more_blocks b bs one rest is others = (one, rest, is, others, refl)

-- their bytes are as many as their headers state
pub blocks_long : (bs : List (Bool × Block)) (bytes : List ℕ) → AreBlocks bs bytes → length bytes ≡ total bs
blocks_long [] bytes none = ap length none
blocks_long (b ∷ bs) bytes (one, rest, is, others, split) = ap length split ∙ length-append one rest ∙ omega (arith, is.long, blocks_long bs rest others)
