-- Inter-channel samples of a frame, from an index on.
use Rattle.std.proofs.Common.{◌≡◌, ℕ, zero, suc, ◌+◌, ◌-◌, ◌<◌, ◌≤◌, ◌⊎◌, inl, inr, ℤ, List, [], ◌∷◌, ◌++◌, length, Option, Some, None, refl, sym, ap, subst, ◌∙◌, arith}
use Rattle.std.specs.Prelude.{MatchOption}
use Rattle.flac_frame.specs.Frame.{Frame}
use Rattle.flac_frame.specs.Interleaved.{row}
use Rattle.flac_native.specs.Item.{Item, metadata, frame}
use Rattle.flac_reader.specs.Coming.{size_of}
use Rattle.flac_compare.specs.Samples.{samples_from}
use Rattle.flac_compare.specs.inner.Frames.{DiffersAfter}
use Rattle.flac_compare.specs.inner.Stepping.{left_in}
use Rattle.flac_compare.specs.inner.Comparing.{DifferAfter, FindsDifference}

pub samples_none : (channels : List (List ℤ)) (i : ℕ) → samples_from channels 0 i ≡ []
unfolding samples_from
samples_none channels i = refl

pub samples_split : (channels : List (List ℤ)) (n m i : ℕ) → samples_from channels (n + m) i ≡ samples_from channels n i ++ samples_from channels m (i + n)
unfolding samples_from
samples_split channels zero m i =
    let e : i + 0 ≡ i = omega arith in
    let z : zero + m ≡ m = omega arith in
    rw (z, e) refl
samples_split channels (suc n) m i =
    let e : i + 1 + n ≡ i + suc n = omega arith in
    let s : suc n + m ≡ suc (n + m) = omega arith in
    rw s (ap (λ r. row channels i ∷ r) (samples_split channels n m (i + 1) ∙ ap (λ k. samples_from channels n (i + 1) ++ samples_from channels m k) e))

pub samples_one : (channels : List (List ℤ)) (i : ℕ) → samples_from channels 1 i ≡ row channels i ∷ []
unfolding samples_from
samples_one channels i = refl

pub samples_more : (channels : List (List ℤ)) (n i : ℕ) → samples_from channels (n + 1) i ≡ samples_from channels n i ++ row channels (i + n) ∷ []
samples_more channels n i = samples_split channels n 1 i ∙ ap (λ l. samples_from channels n i ++ l) (samples_one channels (i + n))

pub samples_front : (channels : List (List ℤ)) (n i : ℕ) → samples_from channels (suc n) i ≡ row channels i ∷ samples_from channels n (i + 1)
unfolding samples_from
samples_front channels n i = refl

pub samples_length : (channels : List (List ℤ)) (n i : ℕ) → length (samples_from channels n i) ≡ n
unfolding samples_from
samples_length channels zero i = refl
samples_length channels (suc n) i = ap suc (samples_length channels n (i + 1))

-- ---- what is left of a frame

pub left_none : (held : Option Item) → left_in held 0 ≡ []
left_none None = refl
left_none (Some (metadata b)) = refl
left_none (Some (frame f)) = samples_none f.channels (f.size - 0)

pub left_length : (held : Option Item) (n : ℕ) → n ≤ size_of held → length (left_in held n) ≡ n
left_length None n le = omega (arith, le)
left_length (Some (metadata b)) n le = omega (arith, le)
left_length (Some (frame f)) n le = samples_length f.channels n (f.size - n)

-- the first n of them, and the others
left_split : (f : Frame) (left n : ℕ) → left ≤ f.size → n ≤ left → samples_from f.channels left (f.size - left) ≡ samples_from f.channels n (f.size - left) ++ samples_from f.channels (left - n) (f.size - (left - n))
left_split f left n within few =
    let all : left ≡ n + (left - n) = omega (arith, few) in
    let at : f.size - left + n ≡ f.size - (left - n) = omega (arith, within, few) in
    ap (λ k. samples_from f.channels k (f.size - left)) all ∙ samples_split f.channels n (left - n) (f.size - left) ∙ ap (λ k. samples_from f.channels n (f.size - left) ++ samples_from f.channels (left - n) k) at

-- the first k of them, the next one, and the others
left_at : (f : Frame) (left n k : ℕ) → n ≤ left → k < n → samples_from f.channels left (f.size - left) ≡ samples_from f.channels k (f.size - left) ++ row f.channels (f.size - left + k) ∷ samples_from f.channels (left - k - 1) (f.size - left + k + 1)
left_at f left n k few within =
    let all : left ≡ k + suc (left - k - 1) = omega (arith, few, within) in
    ap (λ m. samples_from f.channels m (f.size - left)) all ∙ samples_split f.channels k (suc (left - k - 1)) (f.size - left)
    ∙ ap (λ l. samples_from f.channels k (f.size - left) ++ l) (samples_front f.channels (left - k - 1) (f.size - left + k))

pub found_none : (held holds : Option Item) (f g : Frame) (left other n : ℕ) → held ≡ Some (frame f) → holds ≡ Some (frame g) → left ≤ size_of held → other ≤ size_of holds → n ≤ left → n ≤ other
    → samples_from f.channels n (f.size - left) ≡ samples_from g.channels n (g.size - other) → FindsDifference held left holds other n None
found_none held holds f g left other n is are within inside few less same =
    let fits : left ≤ f.size = subst (λ h. left ≤ size_of h) is within in
    let suits : other ≤ g.size = subst (λ h. other ≤ size_of h) are inside in
    rw (is, are) (record {
      common = samples_from f.channels n (f.size - left);
      first = left_split f left n fits few;
      second = left_split g other n suits less ∙ ap (λ l. l ++ samples_from g.channels (other - n) (g.size - (other - n))) (sym same);
      long = samples_length f.channels n (f.size - left);
    })

pub found_some : (held holds : Option Item) (f g : Frame) (left other n k c : ℕ) → held ≡ Some (frame f) → holds ≡ Some (frame g) → n ≤ left → n ≤ other
    → DiffersAfter k c n f.channels (f.size - left) g.channels (g.size - other) → DifferAfter k c (left_in held left) (left_in holds other)
found_some held holds f g left other n k c is are few less d =
    rw (is, are) (record {
      x = row f.channels (f.size - left + k);
      y = row g.channels (g.size - other + k);
      left = samples_from f.channels (left - k - 1) (f.size - left + k + 1);
      other = samples_from g.channels (other - k - 1) (g.size - other + k + 1);
      share = record {
        common = samples_from f.channels k (f.size - left);
        first = left_at f left n k few d.within;
        second = left_at g other n k less d.within ∙ ap (λ l. l ++ row g.channels (g.size - other + k) ∷ samples_from g.channels (other - k - 1) (g.size - other + k + 1)) (sym d.same);
        long = samples_length f.channels k (f.size - left);
      };
      differs = d.differs;
    })

-- where no frame is held, nothing is left
pub found_nothing : (held holds : Option Item) (left other n : ℕ) → (held ≡ None) ⊎ (holds ≡ None) → left ≤ size_of held → other ≤ size_of holds → n ≤ left → n ≤ other → FindsDifference held left holds other n None
found_nothing held holds left other n missing within inside few less =
    let zero_n : n ≡ 0 = elim missing [
      | inl e ↦ (let le : left ≤ 0 = subst (λ h. left ≤ size_of h) e within in omega (arith, le, few))
      | inr e ↦ (let le : other ≤ 0 = subst (λ h. other ≤ size_of h) e inside in omega (arith, le, less))
    ] in
    let one : left - n ≡ left = omega (arith, zero_n) in
    let two : other - n ≡ other = omega (arith, zero_n) in
    rw (one, two) (record { common = []; first = refl; second = refl; long = sym zero_n })

pub found_difference : (held holds : Option Item) (f g : Frame) (left other n i j : ℕ) → held ≡ Some (frame f) → holds ≡ Some (frame g) → left ≤ size_of held → other ≤ size_of holds → n ≤ left → n ≤ other → i ≡ f.size - left → j ≡ g.size - other
    → (r : Option (ℕ × ℕ)) → MatchOption r (samples_from f.channels n i ≡ samples_from g.channels n j) (λ p. DiffersAfter p.0 p.1 n f.channels i g.channels j) → FindsDifference held left holds other n r
found_difference held holds f g left other n i j is are within inside few less at to None h =
    found_none held holds f g left other n is are within inside few less (sym (ap (λ k. samples_from f.channels n k) at) ∙ h ∙ ap (λ k. samples_from g.channels n k) to)
found_difference held holds f g left other n i j is are within inside few less at to (Some p) h =
    found_some held holds f g left other n p.0 p.1 is are few less (rw (sym at, sym to) h)

pub sized : (held : Option Item) (f : Frame) (left : ℕ) → held ≡ Some (frame f) → left ≤ size_of held → left ≤ f.size
sized held f left is le = subst (λ h. left ≤ size_of h) is le
