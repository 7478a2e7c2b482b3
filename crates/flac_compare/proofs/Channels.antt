-- The samples of two inter-channel samples, channel by channel.
use Rattle.std.proofs.Common.{◌≡◌, ℕ, zero, suc, ◌+◌, ◌<◌, ◌≤◌, ◌⊎◌, inl, inr, min, ℤ, pos, List, [], ◌∷◌, ◌++◌, length, take, Option, Some, None, refl, sym, ap, subst, ◌∙◌, arith}
use Rattle.std.specs.Prelude.{◌≢◌, slice_get, slice_index_or}
use Rattle.std.proofs.lemmas.Option.{slice_get_past}
use Rattle.std.proofs.lemmas.Bool.{cases_lt}
use Rattle.flac_frame.specs.Interleaved.{row}
use Rattle.flac_frame.proofs.Interleaved.{length-row}
use Rattle.flac_compare.specs.Compared.{DiffersIn}

-- the sample of a channel at an index
abbrev pub sample : List (List ℤ) → ℕ → ℕ → ℤ
sample channels c i = slice_index_or (slice_index_or channels c []) i (pos 0)

pub row_at : (channels : List (List ℤ)) (i c : ℕ) → c < length channels → slice_get (row channels i) c ≡ Some (sample channels c i)
unfolding row
row_at [] i c lt = absurd (omega (arith, lt))
row_at (x ∷ xs) i zero lt = refl
row_at (x ∷ xs) i (suc c) lt = row_at xs i c (omega (arith, lt))

take_next : (xs : List ℤ) (c : ℕ) (x : ℤ) → slice_get xs c ≡ Some x → take (suc c) xs ≡ take c xs ++ x ∷ []
take_next [] c x e = absurd cc
take_next (y ∷ ys) zero x e = ap (λ k. k ∷ []) (inside e)
  where
    inside : slice_get (y ∷ ys) zero ≡ Some x → y ≡ x
    inside h = cc
take_next (y ∷ ys) (suc c) x e = ap (λ k. y ∷ k) (take_next ys c x e)

-- one more channel is equal
pub channels_more : (a b : List (List ℤ)) (i j c : ℕ) → c < length a → c < length b → take c (row a i) ≡ take c (row b j) → sample a c i ≡ sample b c j → take (c + 1) (row a i) ≡ take (c + 1) (row b j)
channels_more a b i j c lt short same is =
    let e : c + 1 ≡ suc c = omega arith in
    rw e (take_next (row a i) c (sample a c i) (row_at a i c lt) ∙ ap (λ l. l ++ sample a c i ∷ []) same ∙ ap (λ x. take c (row b j) ++ x ∷ []) is ∙ sym (take_next (row b j) c (sample b c j) (row_at b j c short)))

abbrev found : ℤ → Option ℤ
found x = Some x

found_same : (x y : ℤ) → found x ≡ found y → x ≡ y
found_same x y e = cc

-- this one is not
pub channel_differs : (a b : List (List ℤ)) (i j c : ℕ) → c < length a → c < length b → take c (row a i) ≡ take c (row b j) → sample a c i ≢ sample b c j → DiffersIn c (row a i) (row b j)
channel_differs a b i j c lt short same differ = record {
  before = same;
  differs = λ e. differ (found_same _ _ (sym (row_at a i c lt) ∙ e ∙ row_at b j c short));
}

some_none : (x : ℤ) → found x ≡ None → ⊥
some_none x e = absurd cc

-- one has fewer channels
pub channels_differ : (a b : List (List ℤ)) (i j n : ℕ) → n ≡ min (length a) (length b) → length a ≢ length b → take n (row a i) ≡ take n (row b j) → DiffersIn n (row a i) (row b j)
channels_differ a b i j n is differ same = record { before = same; differs = λ e. go e (cases_lt (length a) (length b)) }
  where
    past : (c : List (List ℤ)) (k : ℕ) → length c ≤ n → slice_get (row c k) n ≡ None
    past c k le = slice_get_past (row c k) n (let e = length-row c k in omega (arith, e, le))

    go : slice_get (row a i) n ≡ slice_get (row b j) n → (length a < length b) ⊎ (length b ≤ length a) → ⊥
    go e (inl c) = some_none _ (sym (row_at b j n (omega (arith, is, c))) ∙ sym e ∙ past a i (omega (arith, is, c)))
    go e (inr c) = some_none _ (sym (row_at a i n (omega (arith, is, c, differ))) ∙ e ∙ past b j (omega (arith, is, c)))

take_all : (xs : List ℤ) (n : ℕ) → length xs ≤ n → take n xs ≡ xs
take_all [] zero le = refl
take_all [] (suc n) le = refl
take_all (x ∷ xs) zero le = absurd (omega (arith, le))
take_all (x ∷ xs) (suc n) le = ap (λ l. x ∷ l) (take_all xs n (omega (arith, le)))

-- all are equal
pub channels_same : (a b : List (List ℤ)) (i j n : ℕ) → n ≡ min (length a) (length b) → length a ≡ length b → take n (row a i) ≡ take n (row b j) → row a i ≡ row b j
channels_same a b i j n is equal same =
    sym (take_all (row a i) n (let e = length-row a i in omega (arith, e, is, equal))) ∙ same ∙ take_all (row b j) n (let e = length-row b j in omega (arith, e, is, equal))

-- ---- the end of a loop

pub min_is : (n a b x y : ℕ) → n ≡ min a b → a ≡ x → b ≡ y → n ≡ min x y
min_is n a b x y e p q = rw (sym p, sym q) e

pub ended : (k n : ℕ) → n ≤ k → k ≤ n → k ≡ n
ended k n le ge = omega (arith, le, ge)

pub moved : (k n : ℕ) (xs ys : List ℤ) → k ≡ n → take k xs ≡ take k ys → take n xs ≡ take n ys
moved k n xs ys e same = subst (λ m. take m xs ≡ take m ys) e same
