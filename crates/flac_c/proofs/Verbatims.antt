-- Any samples stand verbatim in a subframe, without the bits that all of them lack, and take no more bits there than
-- they have.
use Rattle.std.proofs.Common.{◌≡◌, ◌⊎◌, ◌∙◌, refl, sym, ap, subst, inl, inr, ℕ, zero, suc, ◌+◌, ◌-◌, ◌*◌, ◌≤◌, ◌<◌, arith, add-mul, mul-le-mul_left, ℤ, pos, negsuc, ◌+ℤ◌, List, [], ◌∷◌, length, length-append, map, flat_map, Some, All}
use Rattle.std.specs.Int.{int_shr}
use Rattle.std.proofs.lemmas.Bool.{cases_lt}
use Rattle.std.proofs.lemmas.Int.{ints}
use Rattle.std.proofs.lemmas.List.{get_or_default, get_or-map, length-map}
use Rattle.std.proofs.lemmas.List.Elements.{All-head, All-tail}
use Rattle.flac_bits.specs.Signed.{FitsBits}
use Rattle.flac_subframe.specs.declared.format.limits.Limits.{Limits}
use Rattle.flac_subframe.specs.format.Bodies.{verbatim}
use Rattle.flac_subframe.specs.format.Chosen.{fixed_below, offered}
use Rattle.flac_subframe.specs.declared.format.linear.LinearPredictor.{LinearPredictor}
use Rattle.flac_subframe.specs.format.Family.{Stands}
use Rattle.flac_subframe.specs.format.Numbers.{sample_at}
use Rattle.flac_subframe.specs.format.Spelling.{content_spelling, subframe_spelling, IsSubframe}
use Rattle.flac_subframe.specs.format.Subframe.{Form, Verbatim, samples_of}
use Rattle.flac_subframe.specs.format.Wasted.{times_power, Multiple, IsWasted}
use Rattle.flac_subframe.proofs.lemmas.search.Family.{wasted_less, may_stand}
use Rattle.flac_subframe.proofs.lemmas.search.Lengths.{length-samples}
use Rattle.flac_subframe.proofs.lemmas.format.Powers.{half_low, times_more, all_times, even, none_wasted, silent}
use Rattle.flac_subframe.proofs.lemmas.search.WholeLeast.{length-subframe}
use Rattle.flac_frame.specs.Encoding.{EachStandsByPlane}
use Rattle.flac_frame.specs.PlaneLists.{Lists, later}
use Rattle.flac_frame.specs.inner.Encoding.{AreForms}

-- ---- whether all samples are even

abbrev half : ℤ → ℤ
half z = int_shr z 1

abbrev IsEven : ℤ → Type 0
IsEven z = half z +ℤ half z ≡ z

abbrev EachEven : List ℤ → Type 0
EachEven t = (i : ℕ) → i < length t → IsEven (sample_at t i)

odd : (z : ℤ) → half z +ℤ half z +ℤ pos 1 ≡ z → IsEven z → ⊥
odd z h e = absurd (omega (arith, ints, h, e))

even_or_not : (z : ℤ) → IsEven z ⊎ (IsEven z → ⊥)
even_or_not z = elim (half_low z) [ inl h ↦ inl h | inr h ↦ inr (odd z h) ]

even_cons : (x : ℤ) (xs : List ℤ) → IsEven x → EachEven xs → EachEven (x ∷ xs)
even_cons x xs first rest zero h = first
even_cons x xs first rest (suc i) h = rest i (omega (arith, h))

even_head : (x : ℤ) (xs : List ℤ) → EachEven (x ∷ xs) → IsEven x
even_head x xs all = all 0 (omega arith)

even_tail : (x : ℤ) (xs : List ℤ) → EachEven (x ∷ xs) → EachEven xs
even_tail x xs all = λ i h. all (suc i) (omega (arith, h))

no_even : EachEven []
no_even = λ i h. absurd (omega (arith, h))

each_even_or_not : (t : List ℤ) → EachEven t ⊎ (EachEven t → ⊥)
each_even_or_not [] = inl no_even
each_even_or_not (x ∷ xs) = go (even_or_not x) (each_even_or_not xs)
  where
    go : IsEven x ⊎ (IsEven x → ⊥) → EachEven xs ⊎ (EachEven xs → ⊥) → EachEven (x ∷ xs) ⊎ (EachEven (x ∷ xs) → ⊥)
    go (inl a) (inl b) = inl (even_cons x xs a b)
    go (inl a) (inr never) = inr (λ all. never (even_tail x xs all))
    go (inr never) b = inr (λ all. never (even_head x xs all))

-- ---- the bits that all samples lack

none_times : (z : ℤ) → times_power zero z ≡ z
none_times (pos a) = ap pos (omega arith)
none_times (negsuc a) = omega (arith, ints)

none_times_each : (s : List ℤ) → map (times_power zero) s ≡ s
none_times_each [] = refl
none_times_each (z ∷ zs) = ap (λ (x : ℤ). x ∷ map (times_power zero) zs) (none_times z) ∙ ap (λ (xs : List ℤ). z ∷ xs) (none_times_each zs)

-- n bits are left out of all samples, and this is what stays of them
pub record Dropped (s : List ℤ) : Type 0 where
  pub wasted : ℕ
  pub rest : List ℤ
  pub is : IsWasted wasted s
  pub times : s ≡ map (times_power wasted) rest

module _ (depth : ℕ) (deep : 1 ≤ depth) (s : List ℤ) (fits : All (FitsBits depth) s) where
  silence : (k : ℕ) (t : List ℤ) → k ≡ depth → length t ≡ length s → ((i : ℕ) → i < length s → sample_at s i ≡ times_power k (sample_at t i)) → Dropped s
  silence k t e long so =
      let wide : All (FitsBits k) s = subst (λ d. All (FitsBits d) s) (sym e) fits in
      record { wasted = 0; rest = s; is = inl ((λ i d h. get_or_default s i d (pos 0) h ∙ (silent k s t long so (omega (arith, e, deep)) wide i h).1), refl); times = sym (none_times_each s) }

  -- what stays is halved once more where all of it is even
  halved : (k : ℕ) (t : List ℤ) → length t ≡ length s → ((i : ℕ) → i < length s → sample_at s i ≡ times_power k (sample_at t i)) → EachEven t
      → (i : ℕ) → i < length s → sample_at s i ≡ times_power (suc k) (sample_at (map half t) i)
  halved k t long so all i h =
      let lt : i < length t = omega (arith, long, h) in
      let at : sample_at (map half t) i ≡ half (sample_at t i) = get_or-map half t i (pos 0) (pos 0) lt in
      so i h ∙ ap (times_power k) (sym (all i lt)) ∙ sym (times_more k (half (sample_at t i))) ∙ ap (times_power (suc k)) (sym at)

  most : (k : ℕ) (t : List ℤ) (long : length t ≡ length s) (so : (i : ℕ) → i < length s → sample_at s i ≡ times_power k (sample_at t i)) → (EachEven t → ⊥)
      → (j : ℕ) → All (Multiple j) s → j ≤ k
  most k t long so never j all = elim (cases_lt k j) [ inl lt ↦ absurd (never (even k s t long so j lt all)) | inr b ↦ b ]

  search : (n k : ℕ) (t : List ℤ) → n + k ≡ depth → length t ≡ length s → ((i : ℕ) → i < length s → sample_at s i ≡ times_power k (sample_at t i)) → Dropped s
  search zero k t e long so = silence k t (omega (arith, e)) long so
  search (suc n) k t e long so = go (each_even_or_not t) (λ all. search n (suc k) (map half t) (omega (arith, e)) (length-map t half ∙ long) (halved k t long so all))
    where
      go : EachEven t ⊎ (EachEven t → ⊥) → (EachEven t → Dropped s) → Dropped s
      go (inl all) more = more all
      go (inr never) more = record { wasted = k; rest = t; is = none_wasted k s t long so (most k t long so never); times = all_times k s t long so }

  pub dropped : Dropped s
  dropped = search depth 0 s (omega arith) refl (λ i h. sym (none_times (sample_at s i)))

  abbrev pub verbatim_form : Form
  verbatim_form = record { wasted = dropped.wasted; content = Verbatim dropped.rest }

  -- whatever partition orders and predictors there are
  pub verbatim_stands : (most : ℕ) (ps : List LinearPredictor) → Stands most (offered ps) verbatim_form s
  verbatim_stands most ps = record { wasted = dropped.is; body = (verbatim dropped.rest, dropped.rest, refl, dropped.times, refl) }

-- ---- how long the subframe is

over : (d k n : ℕ) → 1 ≤ n → k + d * n ≤ (d + k) * n
over d k n some = omega (arith, add-mul d k n, mul-le-mul_left k some)

few_bits : (depth k n : ℕ) → k ≤ depth → 1 ≤ n → k + (depth - k) * n ≤ depth * n
few_bits depth k n le some = let e : depth - k + k ≡ depth = omega (arith, le) in subst (λ m. k + (depth - k) * n ≤ m * n) e (over (depth - k) k n some)

verbatim_long : (depth k : ℕ) (t : List ℤ) → length (subframe_spelling depth (record { wasted = k; content = Verbatim t })) ≡ 8 + k + (depth - k) * length t
unfolding content_spelling
verbatim_long depth k t = length-subframe depth (record { wasted = k; content = Verbatim t }) ∙ ap (λ n. 8 + k + n) (length-samples (depth - k) t)

dropped_few : (depth : ℕ) (s : List ℤ) (d : Dropped s) → d.wasted < depth → 1 ≤ length s → length (subframe_spelling depth (record { wasted = d.wasted; content = Verbatim d.rest })) ≤ 8 + depth * length s
dropped_few depth s d left some =
    let k : ℕ = d.wasted in
    let t : List ℤ = d.rest in
    let long : length t ≡ length s = sym (length-map t (times_power k)) ∙ ap (λ (l : List ℤ). length l) (sym d.times) in
    let few : k + (depth - k) * length t ≤ depth * length s = subst (λ n. k + (depth - k) * n ≤ depth * length s) (sym long) (few_bits depth k (length s) (omega (arith, left)) some) in
    omega (arith, verbatim_long depth k t, few)

pub verbatim_few : (depth : ℕ) (deep : 1 ≤ depth) (s : List ℤ) (fits : All (FitsBits depth) s) → 1 ≤ length s → length (subframe_spelling depth (verbatim_form depth deep s fits)) ≤ 8 + depth * length s
verbatim_few depth deep s fits some =
    let d : Dropped s = dropped depth deep s fits in
    dropped_few depth s d (wasted_less depth d.wasted s d.rest deep fits d.times d.is) some

-- ---- a block

-- forms of the channels of a block, which take few bits
pub record Plain (depth size : ℕ) (block : List (List ℤ)) : Type 0 where
  pub forms : List Form
  pub are : AreForms 8 [] depth size forms block
  pub stand : (most : ℕ) (lists : Lists) → EachStandsByPlane most lists forms block
  pub few : length (flat_map (subframe_spelling depth) forms) ≤ length block * (8 + depth * size)

one_more : (n m a b c : ℕ) → c ≡ a + b → a ≤ m → b ≤ n * m → c ≤ suc n * m
one_more n m a b c e h k = omega (arith, e, h, k)

pub plain_block : (depth size : ℕ) → 1 ≤ depth → 1 ≤ size → (block : List (List ℤ)) → All (λ s. length s ≡ size) block → All (λ s. All (FitsBits depth) s) block → Plain depth size block
plain_block depth size deep some [] long fits = record { forms = []; are = tt; stand = λ most lists. tt; few = omega arith }
plain_block depth size deep some (s ∷ ss) long fits =
    let here : length s ≡ size = All-head (λ s. length s ≡ size) s ss long in
    let fit : All (FitsBits depth) s = All-head (λ s. All (FitsBits depth) s) s ss fits in
    let rest = plain_block depth size deep some ss (All-tail (λ s. length s ≡ size) s ss long) (All-tail (λ s. All (FitsBits depth) s) s ss fits) in
    let f : Form = verbatim_form depth deep s fit in
    let stands : Stands 8 (fixed_below 5) f s = verbatim_stands depth deep s fit 8 [] in
    let some' : 0 < length s = omega (arith, here, some) in
    let valid : (limits : Limits) → 8 ≤ limits.partition → IsSubframe depth size limits f = λ limits enough. subst (λ n. IsSubframe depth n limits f) here (may_stand depth limits f s deep some' enough fit stands).0 in
    let samples : samples_of depth size f ≡ Some s = subst (λ n. samples_of depth n f ≡ Some s) here (may_stand depth (record { partition = 8; linear = 0 }) f s deep some' (omega arith) fit stands).1 in
    let few : length (subframe_spelling depth f) ≤ 8 + depth * size = subst (λ n. length (subframe_spelling depth f) ≤ 8 + depth * n) here (verbatim_few depth deep s fit (omega (arith, some'))) in
    record {
      forms = f ∷ rest.forms;
      are = (λ limits enough within. valid limits enough, samples, rest.are);
      stand = λ most lists. (verbatim_stands depth deep s fit most (lists 0), rest.stand most (later lists));
      few = one_more (length ss) (8 + depth * size) _ _ _ (length-append (subframe_spelling depth f) (flat_map (subframe_spelling depth) rest.forms)) few rest.few;
    }
