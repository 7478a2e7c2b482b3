-- The mark after many bits.
use Rattle.std.proofs.Common.{◌≡◌, ℕ, zero, suc, ◌+◌, ◌-◌, ◌*◌, ◌/◌, ◌%◌, ◌^◌, ◌<◌, ◌≤◌, Bool, false, List, [], ◌∷◌, ◌++◌, length, drop, take, min, cond, nat_eq, refl, sym, ap, ◌∙◌, arith}
use Rattle.flac_bits.specs.Bits.{bits_of}
use Rattle.flac_bits.specs.State.{Mark, past, step}
use Rattle.flac_bits.specs.Check.{fed}
use Rattle.flac_bits.specs.Store.{passed}
use Rattle.flac_bits.proofs.Check.{past-check8, past-check16}
use Rattle.flac_bits.proofs.Meaning.{past-short}
use Rattle.flac_bits.proofs.Holding.{length-bits_of, passed_is}
use Rattle.std.proofs.lemmas.List.{append-nil, drop-take, length-take, length-drop}
use Rattle.std.specs.List.{slice_range}
use Rattle.flac_bits.specs.declared.why.Why.TheVariants.{Truncated}

abbrev most : ℕ
most = 2 ^ 64 - 1

pub past-unread : (bs : List Bool) (u : ℕ) (m : Mark) → m.unread ≡ u → u < 8 → (past bs m).unread ≡ (u + 7 * length bs) % 8
past-unread [] u m e lt = omega (arith, e)
past-unread (b ∷ bs) zero m e lt = let is : (step b m).unread ≡ 7 = rw e refl in omega (arith, past-unread bs 7 (step b m) is (omega arith))
past-unread (b ∷ bs) (suc u) m e lt = let is : (step b m).unread ≡ u = rw e (less u) in omega (arith, past-unread bs u (step b m) is (omega arith))
  where
    less : (u : ℕ) → cond (nat_eq (suc u) 0) 7 (suc u - 1) ≡ u
    less u = let z : nat_eq (suc u) 0 ≡ false = grind arith in rw z (omega arith)

pub past-bytes : (bs : List Bool) (u n : ℕ) (m : Mark) → m.unread ≡ u → u < 8 → m.bytes ≡ n → n ≤ most → (past bs m).bytes ≡ min (n + (length bs + 7 - u) / 8) most
past-bytes [] u n m e lt f le = omega (arith, e, f)
past-bytes (b ∷ bs) zero n m e lt f le =
    let is : (step b m).unread ≡ 7 = rw e refl in
    let grown : (step b m).bytes ≡ min (n + 1) most = rw (e, f) refl in
    omega (arith, past-bytes bs 7 (min (n + 1) most) (step b m) is (omega arith) grown (omega arith))
past-bytes (b ∷ bs) (suc u) n m e lt f le =
    let z : nat_eq (suc u) 0 ≡ false = grind arith in
    let is : (step b m).unread ≡ u = rw (e, z) (omega arith) in
    let same : (step b m).bytes ≡ n = rw (e, z) f in
    omega (arith, past-bytes bs u n (step b m) is (omega arith) same le)

marks : (p : Mark) (u b c d : ℕ) (s : _) → p.unread ≡ u → p.bytes ≡ b → p.check8 ≡ c → p.check16 ≡ d → p.short ≡ s → p ≡ record { unread = u; bytes = b; check8 = c; check16 = d; short = s }
marks p u b c d s eu eb ec ed es = rw (← eu, ← eb, ← ec, ← ed, ← es) refl

-- whole bytes
pub past_whole : (xs : List ℕ) (m : Mark) → m.unread ≡ 0 → m.bytes ≤ most → past (bits_of xs) m ≡ record {
  unread = 0;
  bytes = min (m.bytes + length xs) most;
  check8 = fed 8 7 m.check8 (bits_of xs);
  check16 = fed 16 32773 m.check16 (bits_of xs);
  short = m.short;
}
past_whole xs m z le =
    let bs = bits_of xs in
    let long : length bs ≡ 8 * length xs = length-bits_of xs in
    let u : (past bs m).unread ≡ 0 = omega (arith, past-unread bs 0 m z (omega arith), long, z) in
    let b : (past bs m).bytes ≡ min (m.bytes + length xs) most = omega (arith, past-bytes bs 0 m.bytes m z (omega arith) refl le, long, z) in
    marks (past bs m) _ _ _ _ _ u b (past-check8 bs m) (past-check16 bs m) (past-short bs m)

-- if all bytes are taken, their checks and their count are carried on
pub pulled_mark : (bytes : List ℕ) (from place end before c8 c16 b k8 k16 : ℕ) (word : List Bool) (m : Mark) → from ≤ place → place ≤ end → end ≤ length bytes
    → word ≡ [] → drop place (take end bytes) ≡ []
    → k8 ≡ fed 8 7 c8 (bits_of (slice_range bytes from end)) → k16 ≡ fed 16 32773 c16 (bits_of (slice_range bytes from end)) → b ≡ min (before + end) most
    → past (passed (drop from (take place bytes)) word) (record { unread = 0; bytes = min (before + from) most; check8 = c8; check16 = c16; short = Truncated }) ≡ m
    → past (passed [] word) (record { unread = 0; bytes = min (b + 0) most; check8 = k8; check16 = k16; short = Truncated }) ≡ m
pulled_mark bytes from place end before c8 c16 b k8 k16 word m le le' inside none out e8 e16 eb is =
    let at_end : place ≡ end = omega (arith, ap (λ (xs : List ℕ). length xs) out, length-drop place (take end bytes), length-take end bytes) in
    let xs = drop from (take place bytes) in
    let slice : slice_range bytes from end ≡ xs =
    let n : from + (end - from) ≡ end = omega arith in
    sym (drop-take from (end - from) bytes) ∙ ap (λ k. drop from (take k bytes)) (n ∙ sym at_end) in
    let long : length xs ≡ end - from = omega (arith, length-drop from (take place bytes), length-take place bytes, at_end) in
    let all : passed xs word ≡ bits_of xs = passed_is xs (bits_of xs) word (ap (λ w. bits_of xs ++ w) none ∙ append-nil (bits_of xs)) in
    let count : min (b + 0) most ≡ min (min (before + from) most + length xs) most = omega (arith, eb, long) in
    let whole = past_whole xs (record { unread = 0; bytes = min (before + from) most; check8 = c8; check16 = c16; short = Truncated }) refl (omega arith) in
    let first : past (passed [] word) (record { unread = 0; bytes = min (b + 0) most; check8 = k8; check16 = k16; short = Truncated }) ≡ record { unread = 0; bytes = min (b + 0) most; check8 = k8; check16 = k16; short = Truncated } = rw none refl in
    first ∙ rw (count, e8, e16, slice) (sym whole) ∙ ap (λ bs. past bs (record { unread = 0; bytes = min (before + from) most; check8 = c8; check16 = c16; short = Truncated })) (sym all) ∙ is
