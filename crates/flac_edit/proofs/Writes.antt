-- What writes over parts of a file leave.
use Rattle.std.proofs.Common.{◌≡◌, ℕ, ◌+◌, ◌-◌, ◌≤◌, List, ◌++◌, length, take, drop, refl, sym, ◌∙◌, ap, arith, length-append, length-drop, take-append-drop}
use Rattle.std.proofs.lemmas.List.{take_at, drop_at, drop-drop, length-take-le}
use Rattle.flac_edit.specs.Device.{Holds, Torn}

pub holds_long : (old new bytes : List ℕ) (at : ℕ) → at + length bytes ≤ length old → Holds old at bytes new → length new ≡ length old
holds_long old new bytes at fits holds =
    let front : length (take at old) ≡ at = length-take-le at old (omega (arith, fits)) in
    let back : length (drop (at + length bytes) old) ≡ length old - (at + length bytes) = length-drop (at + length bytes) old in
    ap length holds
    ∙ length-append (take at old) (bytes ++ drop (at + length bytes) old)
    ∙ omega (arith, front, back, fits, length-append bytes (drop (at + length bytes) old))

-- what a write that is cut short leaves: other bytes in its place
pub torn_inside : (A X B c : List ℕ) (at n : ℕ) → length A ≡ at → length X ≡ n → Torn at n (A ++ (X ++ B)) c → (Y : List ℕ) × (length Y ≡ n) × (c ≡ A ++ (Y ++ B))
torn_inside A X B c at n a x torn =
    let Y = take n (drop at c) in
    let front : take at c ≡ A = torn.before ∙ take_at A (X ++ B) at a in
    let back : drop (at + n) c ≡ B =
    torn.after ∙ sym (drop-drop n at (A ++ (X ++ B))) ∙ ap (drop n) (drop_at A (X ++ B) at a) ∙ drop_at X B n x in
    let whole : length c ≡ at + (n + length B) = torn.long ∙ length-append A (X ++ B) ∙ omega (arith, a, x, length-append X B) in
    let rest : length (drop at c) ≡ n + length B = length-drop at c ∙ omega (arith, whole) in
    let split : drop at c ≡ Y ++ B = sym (take-append-drop n (drop at c)) ∙ ap (λ l. Y ++ l) (drop-drop n at c ∙ back) in (
      Y,
      length-take-le n (drop at c) (omega (arith, rest)),
      sym (take-append-drop at c) ∙ ap (λ (l : List ℕ). l ++ drop at c) front ∙ ap (λ (l : List ℕ). A ++ l) split,
    )

-- what a whole one leaves
pub holds_inside : (A X B W c : List ℕ) (at : ℕ) → length A ≡ at → length W ≡ length X → Holds (A ++ (X ++ B)) at W c → c ≡ A ++ (W ++ B)
holds_inside A X B W c at a w holds =
    let front : take at (A ++ (X ++ B)) ≡ A = take_at A (X ++ B) at a in
    let back : drop (at + length W) (A ++ (X ++ B)) ≡ B =
    sym (drop-drop (length W) at (A ++ (X ++ B))) ∙ ap (drop (length W)) (drop_at A (X ++ B) at a) ∙ drop_at X B (length W) (sym w) in
    holds ∙ ap (λ (l : List ℕ). l ++ (W ++ drop (at + length W) (A ++ (X ++ B)))) front ∙ ap (λ (l : List ℕ). A ++ (W ++ l)) back

-- a write that did nothing, or all, is one that is cut short
pub torn_same : (at n : ℕ) (file : List ℕ) → Torn at n file file
torn_same at n file = record { before = refl; after = refl; long = refl }

pub holds_torn : (old new bytes : List ℕ) (at : ℕ) → at + length bytes ≤ length old → Holds old at bytes new → Torn at (length bytes) old new
holds_torn old new bytes at fits holds =
    let front : length (take at old) ≡ at = length-take-le at old (omega (arith, fits)) in
    let n = length bytes in
    record {
      before = ap (take at) holds ∙ take_at (take at old) (bytes ++ drop (at + n) old) at front;
      after = ap (drop (at + n)) holds
          ∙ sym (drop-drop n at (take at old ++ (bytes ++ drop (at + n) old)))
          ∙ ap (drop n) (drop_at (take at old) (bytes ++ drop (at + n) old) at front)
          ∙ drop_at bytes (drop (at + n) old) n refl;
      long = holds_long old new bytes at fits holds;
    }
