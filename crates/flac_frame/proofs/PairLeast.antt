-- The least frame of two channels.
use Rattle.std.proofs.Common.{◌≡◌, ◌∙◌, refl, sym, ap, subst, inl, inr, ℕ, ◌+◌, ◌*◌, ◌≤◌, ◌<◌, arith, ℤ, Bool, true, false, cond, nat_eq, nat_lt, List, [], ◌∷◌, ◌++◌, length, length-append, set, ◌^◌, Option, Some, None, IfSome, All}
use Rattle.std.proofs.lemmas.Bool.Decides.{nat_tests}
use Rattle.std.proofs.lemmas.List.{append-nil}
use Rattle.std.proofs.lemmas.Nat.{mul-le}
use Rattle.flac_bits.specs.Signed.{FitsBits}
use Rattle.flac_header.specs.Header.{Header, IsHeader, channels_of}
use Rattle.flac_header.specs.Choice.{chosen_header}
use Rattle.flac_header.specs.declared.subset.Profile.{Profile}
use Rattle.flac_subframe.specs.declared.search.wide_choice.WideChoice.{WideChoice}
use Rattle.flac_subframe.specs.search.Choices.{form_in}
use Rattle.flac_subframe.specs.format.Spelling.{subframe_spelling, IsSubframe}
use Rattle.flac_subframe.specs.format.Subframe.{Form, samples_of}
use Rattle.flac_subframe.proofs.lemmas.format.Samples.{all_fit_is}
use Rattle.flac_frame.specs.Audio.{Sound, IsSound}
use Rattle.flac_frame.specs.Chosen.{forms_by_plane, AreMadeByPlane, IsChoiceByPlane}
use Rattle.flac_frame.specs.declared.pair_choices.PairChoices.{PairChoices}
use Rattle.flac_frame.specs.Encoding.{partition_limit, EachStandsByPlane, IsEncoding, IsLeastByPlane, IsShort, subframes_cost}
use Rattle.flac_frame.specs.PlaneLists.{Lists, lists_kept, plane_of, AreAllWithin}
use Rattle.flac_frame.specs.declared.frame_choice.FrameChoice.{FrameChoice}
use Rattle.flac_frame.specs.Frame.{side_bit, limits_at}
use Rattle.flac_frame.specs.inner.Pair.{IsPairCode, pair_cost, choices_cost, first_kept, second_kept, IsFirstLeast, IsChosen, IsPlane, ArePlanes}
use Rattle.flac_frame.specs.Spelling.{FrameForm, subframes_spelling, HaveSamples}
use Rattle.flac_frame.specs.Stereo.{joined, kept_as, side_of, middle_of, ChannelsAreKept}
use Rattle.flac_frame.proofs.Family.{coded_as, least_frame, kept_same}
use Rattle.flac_frame.proofs.Pairs.{side_long, middle_long, left_side, side_right, middle_side}
use Rattle.flac_frame.proofs.Short.{one_short, frame_short}
use Rattle.flac_frame.proofs.Sounds.{depth_small, limit_few}
use Rattle.flac_frame.proofs.Wholes.{not_joined, header_at, header_never}

pub by_test : {R : Type 0} (b : Bool) → (b ≡ true → R) → (b ≡ false → R) → R
by_test true f g = f refl
by_test false f g = g refl

-- ---- the codes of two channels

pub two_channels : (code : ℕ) → IsPairCode code → channels_of code ≡ 2
two_channels code (inl e) = rw e refl
two_channels code (inr (inl e)) = rw e refl
two_channels code (inr (inr (inl e))) = rw e refl
two_channels code (inr (inr (inr e))) = rw e refl

pub few_codes : (code : ℕ) → IsPairCode code → code ≤ 10
few_codes code (inl e) = omega (arith, e)
few_codes code (inr (inl e)) = omega (arith, e)
few_codes code (inr (inr (inl e))) = omega (arith, e)
few_codes code (inr (inr (inr e))) = omega (arith, e)

pub pair_codes : (code : ℕ) → code < 11 → channels_of code ≡ 2 → IsPairCode code
pair_codes code few e = go (nat_lt code 8) refl e
  where
    go : (b : Bool) → nat_lt code 8 ≡ b → cond b (code + 1) 2 ≡ 2 → IsPairCode code
    go true t e = inl (omega (arith, e))
    go false t e =
        let over : 8 ≤ code = grind (arith, nat_tests) in
        by_test (nat_eq code 8)
        (λ a. inr (inl (grind (arith, nat_tests))))
        (λ a. by_test (nat_eq code 9)
        (λ b. inr (inr (inl (grind (arith, nat_tests)))))
        (λ b. inr (inr (inr (grind (arith, nat_tests))))))

pub bits_1 : (side_bit 1 0 ≡ 0) × (side_bit 1 1 ≡ 0)
unfolding side_bit
bits_1 = (refl, refl)

pub bits_8 : (side_bit 8 0 ≡ 0) × (side_bit 8 1 ≡ 1)
unfolding side_bit
bits_8 = (refl, refl)

pub bits_9 : (side_bit 9 0 ≡ 1) × (side_bit 9 1 ≡ 0)
unfolding side_bit
bits_9 = (refl, refl)

pub bits_10 : (side_bit 10 0 ≡ 0) × (side_bit 10 1 ≡ 1)
unfolding side_bit
bits_10 = (refl, refl)

pub kept_1 : (left right : List ℤ) → kept_as 1 (left ∷ right ∷ []) ≡ left ∷ right ∷ []
unfolding kept_as
kept_1 left right = refl

pub kept_8 : (left right : List ℤ) → kept_as 8 (left ∷ right ∷ []) ≡ left ∷ side_of left right ∷ []
unfolding kept_as
kept_8 left right = refl

pub kept_9 : (left right : List ℤ) → kept_as 9 (left ∷ right ∷ []) ≡ side_of left right ∷ right ∷ []
unfolding kept_as
kept_9 left right = refl

pub kept_10 : (left right : List ℤ) → kept_as 10 (left ∷ right ∷ []) ≡ middle_of left right ∷ side_of left right ∷ []
unfolding kept_as
kept_10 left right = refl

joined_1 : (left right : List ℤ) → joined 1 (left ∷ right ∷ []) ≡ left ∷ right ∷ []
unfolding joined
joined_1 left right = refl

abbrev Back : List ℤ → List ℤ → ℕ → Type 0
Back left right k = joined k (kept_as k (left ∷ right ∷ [])) ≡ left ∷ right ∷ []

pub channels_kept : ChannelsAreKept
channels_kept code left right few long = by_test (nat_lt code 8)
    (λ t. let small : code ≤ 7 = grind (arith, nat_tests) in ap (joined code) (kept_same code (left ∷ right ∷ []) small) ∙ not_joined 1 code 1 small (left ∷ right ∷ []))
    (λ f. let over : 8 ≤ code = grind (arith, nat_tests) in by_test (nat_eq code 8)
    (λ a. let e : 8 ≡ code = grind (arith, nat_tests) in subst (Back left right) e (ap (joined 8) (kept_8 left right) ∙ left_side left right long))
    (λ a. by_test (nat_eq code 9)
    (λ b. let e : 9 ≡ code = grind (arith, nat_tests) in subst (Back left right) e (ap (joined 9) (kept_9 left right) ∙ side_right left right long))
    (λ b. let e : 10 ≡ code = grind (arith, nat_tests) in subst (Back left right) e (ap (joined 10) (kept_10 left right) ∙ middle_side left right long))))

-- ---- two subframes

module _ (most : ℕ) (two : Lists) (d code : ℕ) (a b : List ℤ) (f g : Form) (n k : ℕ) (p : IsChosen most (two 0) (d + side_bit code 0) a f n) (q : IsChosen most (two 1) (d + side_bit code 1) b g k) where
  two_long : (x y : Form) → length (subframes_spelling d code 0 (x ∷ y ∷ [])) ≡ length (subframe_spelling (d + side_bit code 0) x) + length (subframe_spelling (d + side_bit code 1) y)
  unfolding subframes_spelling
  two_long x y =
      let t : List Bool = subframe_spelling (d + side_bit code 0) x in
      let u : List Bool = subframe_spelling (d + side_bit code 1) y in
      length-append t (u ++ []) ∙ ap (λ (v : List Bool). length t + length v) (append-nil u)

  two_cost : length (subframes_spelling d code 0 (f ∷ g ∷ [])) ≡ n + k
  two_cost = omega (arith, two_long f g, p.cost, q.cost)

  two_least : (fs : List Form) → EachStandsByPlane most two fs (a ∷ b ∷ []) → n + k ≤ length (subframes_spelling d code 0 fs)
  two_least [] h = absurd h
  two_least (x ∷ []) h = absurd h.1
  two_least (x ∷ y ∷ []) h =
      let u : length (subframe_spelling (d + side_bit code 0) f) ≤ length (subframe_spelling (d + side_bit code 0) x) = p.least.least x h.0 in
      let v : length (subframe_spelling (d + side_bit code 1) g) ≤ length (subframe_spelling (d + side_bit code 1) y) = q.least.least y h.1.0 in
      omega (arith, two_long x y, u, v, p.cost, q.cost)
  two_least (x ∷ y ∷ z ∷ zs) h = absurd h.1.1

abbrev HasSamples : ℕ → ℕ → List ℤ → Form → Type 0
HasSamples d size s f = samples_of d size f ≡ Some s

more : (d b n : ℕ) → b ≡ n → d + n ≡ d + b
more d b n e = omega (arith, e)

same : (d b : ℕ) → b ≡ 0 → d ≡ d + b
same d b e = omega (arith, e)

module _ (lists : Lists) (sound : Sound) (size number : ℕ) (left right : List ℤ) (lf rf sf mf : Form) (l r s m : ℕ)
    (cl : IsChosen (partition_limit sound) (lists 0) sound.bits left lf l) (cr : IsChosen (partition_limit sound) (lists 1) sound.bits right rf r) (cs : IsChosen (partition_limit sound) (lists 2) (sound.bits + 1) (side_of left right) sf s) (cm : IsChosen (partition_limit sound) (lists 3) sound.bits (middle_of left right) mf m) where
  pub l1 : IsChosen (partition_limit sound) (lists 0) (sound.bits + side_bit 1 0) left lf l
  l1 = subst (λ d. IsChosen (partition_limit sound) (lists 0) d left lf l) (same sound.bits _ bits_1.0) cl

  pub r1 : IsChosen (partition_limit sound) (lists 1) (sound.bits + side_bit 1 1) right rf r
  r1 = subst (λ d. IsChosen (partition_limit sound) (lists 1) d right rf r) (same sound.bits _ bits_1.1) cr

  pub l8 : IsChosen (partition_limit sound) (lists 0) (sound.bits + side_bit 8 0) left lf l
  l8 = subst (λ d. IsChosen (partition_limit sound) (lists 0) d left lf l) (same sound.bits _ bits_8.0) cl

  pub s8 : IsChosen (partition_limit sound) (lists 2) (sound.bits + side_bit 8 1) (side_of left right) sf s
  s8 = subst (λ d. IsChosen (partition_limit sound) (lists 2) d (side_of left right) sf s) (more sound.bits _ 1 bits_8.1) cs

  pub s9 : IsChosen (partition_limit sound) (lists 2) (sound.bits + side_bit 9 0) (side_of left right) sf s
  s9 = subst (λ d. IsChosen (partition_limit sound) (lists 2) d (side_of left right) sf s) (more sound.bits _ 1 bits_9.0) cs

  pub r9 : IsChosen (partition_limit sound) (lists 1) (sound.bits + side_bit 9 1) right rf r
  r9 = subst (λ d. IsChosen (partition_limit sound) (lists 1) d right rf r) (same sound.bits _ bits_9.1) cr

  pub m10 : IsChosen (partition_limit sound) (lists 3) (sound.bits + side_bit 10 0) (middle_of left right) mf m
  m10 = subst (λ d. IsChosen (partition_limit sound) (lists 3) d (middle_of left right) mf m) (same sound.bits _ bits_10.0) cm

  pub s10 : IsChosen (partition_limit sound) (lists 2) (sound.bits + side_bit 10 1) (side_of left right) sf s
  s10 = subst (λ d. IsChosen (partition_limit sound) (lists 2) d (side_of left right) sf s) (more sound.bits _ 1 bits_10.1) cs

  abbrev cost : ℕ → ℕ
  cost = pair_cost l r s m

  abbrev block : List (List ℤ)
  block = left ∷ right ∷ []

  abbrev Standing : List Form → ℕ → Type 0
  Standing fs c = EachStandsByPlane (partition_limit sound) (lists_kept c lists) fs (kept_as c block)

  cost_of : (c : ℕ) → IsPairCode c → (fs : List Form) → Standing fs c → cost c ≤ length (subframes_spelling sound.bits c 0 fs)
  cost_of c (inl e) fs h = subst (λ k. cost k ≤ length (subframes_spelling sound.bits k 0 fs)) (sym e)
      (two_least (partition_limit sound) (lists_kept 1 lists) sound.bits 1 left right lf rf l r l1 r1 fs (subst (EachStandsByPlane (partition_limit sound) (lists_kept 1 lists) fs) (kept_1 left right) (subst (Standing fs) e h)))
  cost_of c (inr (inl e)) fs h = subst (λ k. cost k ≤ length (subframes_spelling sound.bits k 0 fs)) (sym e)
      (two_least (partition_limit sound) (lists_kept 8 lists) sound.bits 8 left (side_of left right) lf sf l s l8 s8 fs (subst (EachStandsByPlane (partition_limit sound) (lists_kept 8 lists) fs) (kept_8 left right) (subst (Standing fs) e h)))
  cost_of c (inr (inr (inl e))) fs h = subst (λ k. cost k ≤ length (subframes_spelling sound.bits k 0 fs)) (sym e)
      (two_least (partition_limit sound) (lists_kept 9 lists) sound.bits 9 (side_of left right) right sf rf s r s9 r9 fs (subst (EachStandsByPlane (partition_limit sound) (lists_kept 9 lists) fs) (kept_9 left right) (subst (Standing fs) e h)))
  cost_of c (inr (inr (inr e))) fs h = subst (λ k. cost k ≤ length (subframes_spelling sound.bits k 0 fs)) (sym e)
      (two_least (partition_limit sound) (lists_kept 10 lists) sound.bits 10 (middle_of left right) (side_of left right) mf sf m s m10 s10 fs (subst (EachStandsByPlane (partition_limit sound) (lists_kept 10 lists) fs) (kept_10 left right) (subst (Standing fs) e h)))

  module _ (orders : AreAllWithin (limits_at sound.profile sound.rate).linear lists) (code : ℕ) (best : IsFirstLeast cost code) (first second : List ℤ) (f g : Form) (n k : ℕ) (p : IsChosen (partition_limit sound) (lists_kept code lists 0) (sound.bits + side_bit code 0) first f n) (q : IsChosen (partition_limit sound) (lists_kept code lists 1) (sound.bits + side_bit code 1) second g k)
      (sum : n + k ≡ cost code) (kept : kept_as code block ≡ first ∷ second ∷ []) (back : joined code (first ∷ second ∷ []) ≡ block)
      (depth : (1 ≤ sound.bits) × (sound.bits ≤ 32)) (some : 1 ≤ size) (few : size ≤ 65535) (left_long : length left ≡ size) (right_long : length right ≡ size) (first_long : length first ≡ size) (second_long : length second ≡ size)
      (left_fits : All (FitsBits sound.bits) left) (right_fits : All (FitsBits sound.bits) right) (h : Header) (chosen : chosen_header sound.profile size sound.rate code sound.bits number ≡ Some h) (valid : IsHeader h) where
    abbrev form : FrameForm
    form = record { header = h; subframes = f ∷ g ∷ [] }

    codes : (h.channel_code ≡ code) × (h.size ≡ size)
    codes = coded_as sound.profile size sound.rate code sound.bits number h chosen

    form_cost : subframes_cost sound.bits form ≡ cost code
    form_cost = ap (λ c. length (subframes_spelling sound.bits c 0 (f ∷ g ∷ []))) codes.0 ∙ two_cost (partition_limit sound) (lists_kept code lists) sound.bits code first second f g n k p q ∙ sum

    encoding : IsEncoding sound size number block form
    encoding =
        let limits = limits_at sound.profile sound.rate in
        let u = subst (λ z. HasSamples (sound.bits + side_bit code 0) z first f) first_long p.samples in
        let v = subst (λ z. HasSamples (sound.bits + side_bit code 1) z second g) second_long q.samples in
        let have : HaveSamples sound.bits code size 0 (f ∷ g ∷ []) (first ∷ second ∷ []) = (u, (v, tt)) in
        record {
          code = code;
          header = chosen;
          valid = valid;
          channels = ap channels_of codes.0 ∙ two_channels code best.one;
          many = refl;
          subframes = (subst (λ z. IsSubframe (sound.bits + side_bit code 0) z limits f) first_long (p.valid limits (omega arith) (orders (plane_of code 0))), (subst (λ z. IsSubframe (sound.bits + side_bit code 1) z limits g) second_long (q.valid limits (omega arith) (orders (plane_of code 1))), tt));
          samples = record {
            kept = first ∷ second ∷ [];
            subframes = subst (λ c. HaveSamples sound.bits c h.size 0 (f ∷ g ∷ []) (first ∷ second ∷ [])) (sym codes.0) (subst (λ z. HaveSamples sound.bits code z 0 (f ∷ g ∷ []) (first ∷ second ∷ [])) (sym codes.1) have);
            joined = ap (λ c. joined c (first ∷ second ∷ [])) codes.0 ∙ back;
            fit = rw (all_fit_is sound.bits left left_fits, all_fit_is sound.bits right right_fits) refl;
          };
        }

    least : IsLeastByPlane lists sound size number block form
    least =
        let stand : EachStandsByPlane (partition_limit sound) (lists_kept code lists) (f ∷ g ∷ []) (first ∷ second ∷ []) = (p.least.member, (q.least.member, tt)) in
        let here : EachStandsByPlane (partition_limit sound) (lists_kept code lists) (f ∷ g ∷ []) (kept_as code block) = subst (EachStandsByPlane (partition_limit sound) (lists_kept code lists) (f ∷ g ∷ [])) (sym kept) stand in
        least_frame lists sound size number block form (record { encoding = encoding; stand = subst (Standing (f ∷ g ∷ [])) (sym codes.0) here })
        (λ x member.
        let c : ℕ = x.header.channel_code in
        let one = pair_codes c member.encoding.valid.channel_code member.encoding.channels in
        let above : cost c ≤ subframes_cost sound.bits x = cost_of c one x.subframes member.stand in
        let below : cost code ≤ cost c = best.least c one in
        (omega (arith, above, below, form_cost), λ lower. let lower' : cost code < cost c = best.first c one (omega (arith, lower, codes.0)) in omega (arith, above, lower', form_cost)))

    one_few : (n : ℕ) → n ≡ size → 8 + sound.bits + sound.bits * n ≤ 2097160
    one_few n e = omega (arith, depth.1, mul-le sound.bits n 32 65535 depth.1 (omega (arith, e, few)))

    short : IsShort sound.bits form
    short =
        let a = one_short (partition_limit sound) (limit_few sound.profile sound.rate) (lists 0) sound.bits depth.0 lf left (omega (arith, some, left_long)) left_fits cl.least in
        let b = one_short (partition_limit sound) (limit_few sound.profile sound.rate) (lists 1) sound.bits depth.0 rf right (omega (arith, some, right_long)) right_fits cr.least in
        let under : cost code ≤ l + r = best.least 1 (inl refl) in
        frame_short sound.bits form (omega (arith, form_cost, under, a, b, cl.cost, cr.cost, one_few (length left) left_long, one_few (length right) right_long))

    pub pair_encoded : IsEncoding sound size number block form × IsLeastByPlane lists sound size number block form × IsShort sound.bits form × (subframes_cost sound.bits form ≡ n + k)
    pair_encoded = (encoding, least, short, form_cost ∙ sym sum)

-- ---- as the code chooses

-- what a code keeps of two channels: samples and a choice each, which were chosen of them
record KeptTwo (most : ℕ) (lists : Lists) (depth : ℕ) (left right : List ℤ) (c : PairChoices) (code : ℕ) : Type 0 where
  first : List ℤ
  second : List ℤ
  kept : kept_as code (left ∷ right ∷ []) ≡ first ∷ second ∷ []
  first_long : length first ≡ length left
  second_long : length second ≡ length left
  first_plane : IsPlane most (lists_kept code lists 0) (depth + side_bit code 0) first (first_kept code c)
  second_plane : IsPlane most (lists_kept code lists 1) (depth + side_bit code 1) second (second_kept code c)
  sum : (first_kept code c).bits + (second_kept code c).bits ≡ choices_cost c code

module _ (most : ℕ) (lists : Lists) (depth : ℕ) (left right : List ℤ) (c : PairChoices) (long : length right ≡ length left) (planes : ArePlanes most lists depth left right c) where
  by_1 : KeptTwo most lists depth left right c 1
  by_1 = record {
    first = left;
    second = right;
    kept = kept_1 left right;
    first_long = refl;
    second_long = long;
    first_plane = subst (λ d. IsPlane most (lists 0) d left c.left) (same depth _ bits_1.0) planes.lefts;
    second_plane = subst (λ d. IsPlane most (lists 1) d right c.right) (same depth _ bits_1.1) planes.rights;
    sum = refl;
  }

  by_8 : KeptTwo most lists depth left right c 8
  by_8 = record {
    first = left;
    second = side_of left right;
    kept = kept_8 left right;
    first_long = refl;
    second_long = side_long left right long;
    first_plane = subst (λ d. IsPlane most (lists 0) d left c.left) (same depth _ bits_8.0) planes.lefts;
    second_plane = subst (λ d. IsPlane most (lists 2) d (side_of left right) c.side) (more depth _ 1 bits_8.1) planes.sides;
    sum = refl;
  }

  by_9 : KeptTwo most lists depth left right c 9
  by_9 = record {
    first = side_of left right;
    second = right;
    kept = kept_9 left right;
    first_long = side_long left right long;
    second_long = long;
    first_plane = subst (λ d. IsPlane most (lists 2) d (side_of left right) c.side) (more depth _ 1 bits_9.0) planes.sides;
    second_plane = subst (λ d. IsPlane most (lists 1) d right c.right) (same depth _ bits_9.1) planes.rights;
    sum = refl;
  }

  by_10 : KeptTwo most lists depth left right c 10
  by_10 = record {
    first = middle_of left right;
    second = side_of left right;
    kept = kept_10 left right;
    first_long = middle_long left right long;
    second_long = side_long left right long;
    first_plane = subst (λ d. IsPlane most (lists 3) d (middle_of left right) c.middle) (same depth _ bits_10.0) planes.middles;
    second_plane = subst (λ d. IsPlane most (lists 2) d (side_of left right) c.side) (more depth _ 1 bits_10.1) planes.sides;
    sum = refl;
  }

  kept_two : (code : ℕ) → IsPairCode code → KeptTwo most lists depth left right c code
  kept_two code (inl e) = subst (λ k. KeptTwo most lists depth left right c k) (sym e) by_1
  kept_two code (inr (inl e)) = subst (λ k. KeptTwo most lists depth left right c k) (sym e) by_8
  kept_two code (inr (inr (inl e))) = subst (λ k. KeptTwo most lists depth left right c k) (sym e) by_9
  kept_two code (inr (inr (inr e))) = subst (λ k. KeptTwo most lists depth left right c k) (sym e) by_10

-- ---- what the code knows

pub only_1 : (code : ℕ) → IsPairCode code → (code ≡ 8 → ⊥) → (code ≡ 9 → ⊥) → (code ≡ 10 → ⊥) → code ≡ 1
only_1 code (inl e) a b d = e
only_1 code (inr (inl e)) a b d = absurd (a e)
only_1 code (inr (inr (inl e))) a b d = absurd (b e)
only_1 code (inr (inr (inr e))) a b d = absurd (d e)

-- what was kept makes a frame
module _ (lists : Lists) (sound : Sound) (number : ℕ) (left right : List ℤ) (c : PairChoices) (planes : ArePlanes (partition_limit sound) lists sound.bits left right c) (code : ℕ) (best : IsFirstLeast (choices_cost c) code)
    (orders : AreAllWithin (limits_at sound.profile sound.rate).linear lists)
    (depth : (1 ≤ sound.bits) × (sound.bits ≤ 32)) (some : 1 ≤ length left) (few : length left ≤ 65535) (long : length right ≡ length left)
    (left_fits : All (FitsBits sound.bits) left) (right_fits : All (FitsBits sound.bits) right) (h : Header) (chosen : chosen_header sound.profile (length left) sound.rate code sound.bits number ≡ Some h) (valid : IsHeader h) where
  k : KeptTwo (partition_limit sound) lists sound.bits left right c code
  k = kept_two (partition_limit sound) lists sound.bits left right c long planes code best.one

  abbrev x : WideChoice
  x = first_kept code c

  abbrev y : WideChoice
  y = second_kept code c

  abbrev f : Form
  f = form_in (lists_kept code lists 0) x k.first

  abbrev g : Form
  g = form_in (lists_kept code lists 1) y k.second

  kept_encoded : (n : FrameForm) → n ≡ record { header = h; subframes = f ∷ g ∷ [] }
      → IsEncoding sound (length left) number (left ∷ right ∷ []) n × IsLeastByPlane lists sound (length left) number (left ∷ right ∷ []) n × IsShort sound.bits n × (subframes_cost sound.bits n ≡ x.bits + y.bits)
  kept_encoded n is =
      let back : joined code (k.first ∷ k.second ∷ []) ≡ left ∷ right ∷ [] = sym (ap (joined code) k.kept) ∙ channels_kept code left right (omega (arith, few_codes code best.one)) long in
      rw is (pair_encoded lists sound (length left) number left right (form_in (lists 0) c.left left) (form_in (lists 1) c.right right) (form_in (lists 2) c.side (side_of left right)) (form_in (lists 3) c.middle (middle_of left right)) c.left.bits c.right.bits c.side.bits c.middle.bits
      planes.lefts.chosen planes.rights.chosen planes.sides.chosen planes.middles.chosen orders code best k.first k.second f g x.bits y.bits k.first_plane.chosen k.second_plane.chosen
      k.sum k.kept back depth some few refl long k.first_long k.second_long left_fits right_fits h chosen valid)

  two_forms : (old : List WideChoice) → 2 ≤ length old → forms_by_plane (lists_kept code lists) (set (set old 0 x) 1 y) (k.first ∷ k.second ∷ []) ≡ f ∷ g ∷ []
  two_forms [] h = absurd (omega (arith, h))
  two_forms (a ∷ []) h = absurd (omega (arith, h))
  two_forms (a ∷ b ∷ cs) h = refl

  two_made : (old : List WideChoice) → 2 ≤ length old → AreMadeByPlane (lists_kept code lists) (set (set old 0 x) 1 y) (k.first ∷ k.second ∷ [])
  two_made [] h = absurd (omega (arith, h))
  two_made (a ∷ []) h = absurd (omega (arith, h))
  two_made (a ∷ b ∷ cs) h = (k.first_plane.made, (k.second_plane.made, tt))

  kept_choice : (made : FrameChoice) (old : List WideChoice) → 2 ≤ length old → made.code ≡ code → made.subframes.items ≡ set (set old 0 x) 1 y → made.bits ≡ choices_cost c code → IsChoiceByPlane lists sound (length left) number (left ∷ right ∷ []) made
  kept_choice made old two coded placed sum =
      let n : FrameForm = record { header = h; subframes = f ∷ g ∷ [] } in
      let p = kept_encoded n refl in
      let two' : List (List ℤ) = k.first ∷ k.second ∷ [] in
      let forms : forms_by_plane (lists_kept code lists) made.subframes.items two' ≡ f ∷ g ∷ [] = ap (λ cs. forms_by_plane (lists_kept code lists) cs two') placed ∙ two_forms old two in
      let own : AreMadeByPlane (lists_kept code lists) made.subframes.items two' = subst (λ cs. AreMadeByPlane (lists_kept code lists) cs two') (sym placed) (two_made old two) in
      record {
        form = n;
        header = ap (λ z. chosen_header sound.profile (length left) sound.rate z sound.bits number) coded ∙ chosen;
        subframes = sym (ap (λ z. forms_by_plane (lists_kept z lists) made.subframes.items (kept_as z (left ∷ right ∷ []))) coded ∙ ap (forms_by_plane (lists_kept code lists) made.subframes.items) k.kept ∙ forms);
        made = subst (λ z. AreMadeByPlane (lists_kept z lists) made.subframes.items (kept_as z (left ∷ right ∷ []))) (sym coded) (subst (AreMadeByPlane (lists_kept code lists) made.subframes.items) (sym k.kept) own);
        encoding = p.0;
        least = p.1;
        short = p.2;
        cost = sum ∙ sym k.sum ∙ sym p.3;
      }

-- what was kept of two channels makes the frame of their block
pub pair_choice : (lists : Lists) (sound : Sound) (number n : ℕ) (left right : List ℤ) (block : List (List ℤ)) (c : PairChoices) (code : ℕ) → ArePlanes (partition_limit sound) lists sound.bits left right c → IsFirstLeast (choices_cost c) code
    → IsSound sound → AreAllWithin (limits_at sound.profile sound.rate).linear lists → 1 ≤ n → n ≤ 65535 → length left ≡ n → length right ≡ length left → All (FitsBits sound.bits) left → All (FitsBits sound.bits) right → left ∷ right ∷ [] ≡ block
    → (profile : Profile) (rate bits : ℕ) (o : Option Header) → profile ≡ sound.profile → rate ≡ sound.rate → bits ≡ sound.bits → o ≡ chosen_header profile n rate code bits number → IfSome o IsHeader → number < 2 ^ 31
    → (made : FrameChoice) (old : List WideChoice) → 2 ≤ length old → made.code ≡ code → made.subframes.items ≡ set (set old 0 (first_kept code c)) 1 (second_kept code c) → made.bits ≡ choices_cost c code → IsChoiceByPlane lists sound n number block made
pair_choice lists sound number n left right block c code planes best good orders some few left_long right_long left_fits right_fits is profile rate bits None p r b chosen valid small made old two coded placed sum =
    absurd (header_never sound good profile n rate code bits number p r b (few_codes code best.one) some few small (sym chosen))
pair_choice lists sound number n left right block c code planes best good orders some few left_long right_long left_fits right_fits is profile rate bits (Some h) p r b chosen valid small made old two coded placed sum =
    let there : chosen_header sound.profile n sound.rate code sound.bits number ≡ Some h = header_at sound profile n rate code bits number (Some h) h p r b chosen refl in
    let at : chosen_header sound.profile (length left) sound.rate code sound.bits number ≡ Some h = ap (λ z. chosen_header sound.profile z sound.rate code sound.bits number) left_long ∙ there in
    subst (λ z. IsChoiceByPlane lists sound n number z made) is
    (subst (λ z. IsChoiceByPlane lists sound z number (left ∷ right ∷ []) made) left_long
    (kept_choice lists sound number left right c planes code best orders (depth_small sound.profile sound.bits good.bits) (omega (arith, some, left_long)) (omega (arith, few, left_long)) right_long left_fits right_fits h at valid made old two coded placed sum))
