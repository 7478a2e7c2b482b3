-- The state of a reader, by what it holds and the source that fills it.
use Rattle.std.proofs.Common.{◌≡◌, ℕ, ℤ, take, zero, suc, ◌+◌, ◌-◌, ◌*◌, ◌^◌, ◌<◌, ◌≤◌, Bool, false, List, [], ◌∷◌, ◌++◌, length, replicate, Option, Some, None, Ok, IfSome, refl, sym, ap, ◌∙◌, arith}
use Rattle.std.specs.Borrow.{GName}
use Rattle.std.proofs.Math.Dec.{leb-zero}
use Rattle.std.proofs.lemmas.Bool.Decides.{nat_tests}
use Rattle.std.specs.Prelude.{nat_le}
use Rattle.std.proofs.lemmas.List.{length-append, length-replicate}
use Rattle.flac_bits.specs.Bits.{unsigned, bits_of}
use Rattle.flac_bits.specs.State.{State, After, short_of}
use Rattle.flac_bits.specs.Layout.{number_at, zeros_at, run, and_then}
use Rattle.flac_bits.specs.Lists.{list_of, after as put_after}
use Rattle.flac_bits.specs.inner.Stretches.{IsRead}
use Rattle.flac_bits.specs.Reading.{HeldEnds}
use Rattle.flac_bits.specs.inner.Reading.{Draws, SameSource, SkippedZeros}
use Rattle.flac_bits.proofs.Stretches.{stretch_read, stretch_ends}
use Rattle.flac_bits.specs.Meaning.{unary_bits}
use Rattle.flac_bits.specs.Rice.{rice, rice_value}
use Rattle.flac_bits.specs.Store.{Store, Fence, allowed, forbidden, reached, left_of, most_of, reason_of, state_of}
use Rattle.flac_bits.specs.inner.Store.{Takes, HoldsSame, Passes, Came, SameBits}
use Rattle.flac_bits.specs.declared.why.Why.{Why}
use Rattle.flac_bits.specs.declared.why.Why.TheVariants.{Read, Truncated, FrameTooLong}
use Rattle.flac_bits.proofs.Words.{length-unsigned}
use Rattle.flac_bits.proofs.Holding.{length-bits_of, bits_of-append}
use Rattle.flac_bits.proofs.Fields.{taken_read, taken_spends, unary_read, rice_read, left_is, skip_read}

module _ (known : Bool) (errors raised most : ℕ) (after : After) (names : List GName) (coming : List ℕ) (old new : Store) (s : State) (is : state_of known errors raised most after names coming old ≡ s) where
  abbrev t : State
  t = state_of known errors raised most after names coming new

  pub number_took : (n v : ℕ) → Takes (unsigned n v) old new → v < 2 ^ n
      → (v < 2 ^ n) × (t.most + n ≡ s.most) × SameSource s t × (number_at n s.cursor ≡ Ok (v, t.cursor))
  number_took n v takes lt =
      let spent = taken_spends (unsigned n v) old new takes in
      rw (← is, takes.3) (lt, omega (arith, spent, length-unsigned n v), (refl, refl, refl, refl, refl), taken_read n v _ old new _ lt takes)

  pub zeros_took : (limit : ℕ) (o : Option ℕ) → IfSome o (λ q. (q ≤ limit) × Takes (unary_bits q) old new)
      → IfSome o (λ q. (q ≤ limit) × (t.most ≤ s.most) × SameSource s t × (zeros_at limit s.cursor ≡ Ok (Some q, t.cursor)))
  zeros_took limit None some = tt
  zeros_took limit (Some q) (le, takes) =
      let spent = taken_spends (unary_bits q) old new takes in
      rw (← is, takes.3) (le, omega (arith, spent), (refl, refl, refl, refl, refl), unary_read limit q _ old new _ le takes)

  pub zeros_skipped : (q : ℕ) → Takes (replicate q false) old new → SkippedZeros q s t
  zeros_skipped q takes =
      let spent = taken_spends (replicate q false) old new takes in
      rw (← is, takes.3) (
        omega (arith, spent, length-replicate q false),
        omega (arith, spent),
        (refl, refl, refl, refl, refl),
        left_is (replicate q false) old new _ takes,
        λ room count le. skip_read q room count _ old new _ le takes,
      )

  pub rice_took : (k limit : ℕ) (o : Option ℕ) → IfSome o (λ v. (q : ℕ) × (low : ℕ) × (q ≤ limit) × (low < 2 ^ k) × (v ≡ q * 2 ^ k + low) × Takes (unary_bits q ++ unsigned k low) old new)
      → IfSome o (λ v. (t.most ≤ s.most) × SameSource s t × (run (rice k limit) s.cursor ≡ Ok (v, t.cursor)))
  rice_took k limit None some = tt
  rice_took k limit (Some v) (q, low, le, lt, e, takes) =
      let spent = taken_spends (unary_bits q ++ unsigned k low) old new takes in
      rw (← is, takes.3) (omega (arith, spent), (refl, refl, refl, refl, refl), rice_read k limit q low v _ old new _ le lt e takes)

  pub values_took : (k : ℕ) (text : List Bool) (us vs : List ℤ) (i j : ℕ) → Passes text old new → IsRead k text us i vs j
      → ((t.most ≤ s.most) × SameSource s t)
      × (and_then (run (list_of (length us - i) (rice_value k)) s.cursor) (put_after (take i us)) ≡ and_then (run (list_of (length us - j) (rice_value k)) t.cursor) (put_after (take j vs)))
  values_took k text us vs i j passes read =
      let spent = ap (λ (bs : List Bool). length bs) passes.0 ∙ length-append text (new.word ++ bits_of new.bytes) in
      rw (← is, passes.2) ((omega (arith, spent), (refl, refl, refl, refl, refl)), stretch_read k text us vs i j _ old new _ passes read)

  -- bits that were taken were held
  held_left : (n : ℕ) → length (old.word ++ bits_of old.bytes) ≡ n + length (new.word ++ bits_of new.bytes) → new.fence ≡ old.fence → s.held + length t.cursor.left ≡ t.held + length s.cursor.left
  held_left n spent same =
      rw (← is, same) (omega (arith, spent, length-append (old.word ++ bits_of old.bytes) (bits_of (allowed old.fence.room coming)), length-append (new.word ++ bits_of new.bytes) (bits_of (allowed old.fence.room coming))))

  pub number_held : (n v : ℕ) → Takes (unsigned n v) old new → t.held + n ≡ s.held
  number_held n v takes =
      let spent = taken_spends (unsigned n v) old new takes in
      rw (← is, takes.3) (omega (arith, spent, length-unsigned n v))

  pub zeros_held : (limit : ℕ) (o : Option ℕ) → IfSome o (λ q. (q ≤ limit) × Takes (unary_bits q) old new) → IfSome o (λ _. s.held + length t.cursor.left ≡ t.held + length s.cursor.left)
  zeros_held limit None some = tt
  zeros_held limit (Some q) (le, takes) = held_left (length (unary_bits q)) (taken_spends (unary_bits q) old new takes) takes.3

  pub rice_held : (k limit : ℕ) (o : Option ℕ) → IfSome o (λ v. (q : ℕ) × (low : ℕ) × (q ≤ limit) × (low < 2 ^ k) × (v ≡ q * 2 ^ k + low) × Takes (unary_bits q ++ unsigned k low) old new)
      → IfSome o (λ _. s.held + length t.cursor.left ≡ t.held + length s.cursor.left)
  rice_held k limit None some = tt
  rice_held k limit (Some v) (q, low, le, lt, e, takes) = held_left (length (unary_bits q ++ unsigned k low)) (taken_spends (unary_bits q ++ unsigned k low) old new takes) takes.3

  pub values_drawn : (k : ℕ) (text : List Bool) (us vs : List ℤ) (i j : ℕ) → Passes text old new → IsRead k text us i vs j
      → Draws s t (HeldEnds (list_of (length us - j) (rice_value k)) t) (HeldEnds (list_of (length us - i) (rice_value k)) s)
  values_drawn k text us vs i j passes read =
      let spent : length (old.word ++ bits_of old.bytes) ≡ length text + length (new.word ++ bits_of new.bytes) = ap (λ (bs : List Bool). length bs) passes.0 ∙ length-append text (new.word ++ bits_of new.bytes) in
      let held = held_left (length text) spent passes.2 in
      record {
        held = λ _. omega (arith, held);
        ends = λ _. rw (← is, passes.2) (λ e. stretch_ends k text us vs i j _ _ _ old new _ passes read (omega (arith, spent)) e);
      }

  pub held_same : HoldsSame old new → t ≡ s
  held_same same = rw (← is, same.0, same.1, same.2) refl

-- ---- bits come

pub same_bits : (old new : Store) (coming : List ℕ) → HoldsSame old new → SameBits old coming new coming
same_bits old new coming same = rw same.2 (record { left = ap (λ bs. bs ++ bits_of (allowed old.fence.room coming)) (same.0); fenced = refl; reached = refl })

pub then_same : (a b c : Store) (xs ys zs : List ℕ) → SameBits a xs b ys → SameBits b ys c zs → SameBits a xs c zs
then_same a b c xs ys zs p q = record { left = q.left ∙ p.left; fenced = q.fenced ∙ p.fenced; reached = q.reached ∙ p.reached }

pub came_bits : (old new : Store) (xs ys : List ℕ) → old.word ≡ [] → old.bytes ≡ [] → new.word ≡ [] → Came old.fence xs new.bytes new.fence ys → SameBits old xs new ys
came_bits old new xs ys empty out none came = rw (empty, out, none) (record {
  left = sym (bits_of-append new.bytes (allowed new.fence.room ys)) ∙ ap bits_of (sym came.left);
  fenced = ap bits_of (sym came.fenced);
  reached = came.reached;
})

pub same_most : (old new : Store) → HoldsSame old new → most_of new ≡ most_of old
same_most old new same = rw (same.0, same.2) refl

pub came_most : (old new : Store) (m n : ℕ) → old.word ≡ [] → old.bytes ≡ [] → new.word ≡ [] → n + length new.bytes + length new.fence.hidden ≤ m + length old.fence.hidden → 8 * n + most_of new ≤ 8 * m + most_of old
came_most old new m n empty out none le = rw (empty, out, none) (omega (arith, le, length-bits_of new.bytes))

-- the reason if no bit is left
pub short_is : (room : Option ℕ) (coming : List ℕ) (after : After) (why : Why) → (room ≡ Some 0 → why ≡ FrameTooLong) → ((room ≡ Some 0 → ⊥) → why ≡ Truncated) → allowed room coming ≡ []
    → (reason_of (reached room coming) after ≡ Read → ⊥) → why ≡ reason_of (reached room coming) after
short_is None coming after why fence end none other = end (λ e. absurd cc) ∙ ended after.fails other
  where
    ended : (o : Option (ℕ × Why)) → (short_of o ≡ Read → ⊥) → Truncated ≡ short_of o
    ended None other = refl
    ended (Some f) other = absurd (other refl)
short_is (Some zero) coming after why fence end none other = fence refl ∙ rw (leb-zero (length coming)) refl
short_is (Some (suc n)) [] after why fence end none other =
    let z : nat_le (suc n) 0 ≡ false = grind (arith, nat_tests) in
    rw z (end (λ e. absurd cc) ∙ ended after.fails (rw z at other))
  where
    ended : (o : Option (ℕ × Why)) → (short_of o ≡ Read → ⊥) → Truncated ≡ short_of o
    ended None other = refl
    ended (Some f) other = absurd (other refl)
short_is (Some (suc n)) (x ∷ coming) after why fence end none other = absurd cc

pub no_bytes : (xs : List ℕ) (bs : List Bool) → bs ++ bits_of xs ≡ [] → xs ≡ []
no_bytes [] bs e = refl
no_bytes (x ∷ xs) bs e = absurd (omega (arith, ap (λ (b : List Bool). length b) e, length-append bs (bits_of (x ∷ xs)), length-bits_of (x ∷ xs)))

pub same_after : (a b : After) (f h : List Bool) → a ≡ b → f ≡ h → record a { fenced = f } ≡ record b { fenced = h }
same_after a b f h e i = rw (e, i) refl

pub fenced_same : (a b : Fence) (coming : List ℕ) → a ≡ b → bits_of (a.hidden ++ forbidden a.room coming) ≡ bits_of (b.hidden ++ forbidden b.room coming)
fenced_same a b coming e = rw e refl

pub same_reason : (old new : Store) (xs ys : List ℕ) (b b' : After) → SameBits old xs new ys → b' ≡ b → reason_of (reached new.fence.room ys) b' ≡ reason_of (reached old.fence.room xs) b
same_reason old new xs ys b b' same e = rw (same.reached, e) refl

-- nothing is held, and nothing may come
pub none_left : (s : Store) (coming : List ℕ) → s.word ≡ [] → s.bytes ≡ [] → allowed s.fence.room coming ≡ [] → left_of s coming ≡ []
none_left s coming word bytes none = rw (word, bytes, none) refl
