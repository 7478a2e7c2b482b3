-- The frames of the family are the encodings whose subframes are of the family in plain words.
use Rattle.std.proofs.Common.{◌≡◌, ◌∙◌, refl, sym, subst, ℕ, ◌+◌, ◌≤◌, ◌<◌, arith, ℤ, pos, ◌+ℤ◌, ◌-ℤ◌, Bool, true, false, cond, nat_eq, nat_lt, List, [], ◌∷◌, length}
use Rattle.std.specs.Bool.{⊤}
use Rattle.std.specs.Int.{int_shr}
use Rattle.std.proofs.lemmas.Bool.Decides.{nat_tests}
use Rattle.std.proofs.lemmas.List.{ext_get_or}
use Rattle.flac_header.specs.Header.{channels_of}
use Rattle.flac_subframe.specs.declared.format.limits.Limits.{Limits}
use Rattle.flac_subframe.specs.search.FamilyLaws.{InFamily, InFamilyWith}
use Rattle.flac_subframe.specs.format.Subframe.{Form}
use Rattle.flac_subframe.proofs.lemmas.search.Complete.{family_with_whole, none_linear}
use Rattle.flac_subframe.proofs.lemmas.search.Family.{in_family_with, no_linear}
use Rattle.flac_frame.specs.Audio.{Sound}
use Rattle.flac_frame.specs.Encoding.{partition_limit, IsEncoding, EachStandsByPlane, EachInFamily, EachInPlanes, EachInFamilyWith, FrameFamilyIsPlain, FramePlanesIsPlain, FrameFamilyWithIsPlain}
use Rattle.flac_frame.specs.PlaneLists.{Lists, same_list, later, lists_kept}
use Rattle.flac_frame.specs.Frame.{limits_at}
use Rattle.flac_frame.specs.Spelling.{FrameForm, AreSubframes, HaveSamples}
use Rattle.flac_frame.specs.Stereo.{sample_at, Joined, joined, kept_as, side_of, middle_of}
use Rattle.flac_frame.proofs.Family.{coded_as, kept_same}
use Rattle.flac_frame.proofs.Joins.{channels_joined}
use Rattle.flac_frame.proofs.PairLeast.{by_test, kept_8, kept_9, kept_10}
use Rattle.flac_frame.proofs.Pairs.{side_long, middle_long, side_at, middle_at}
use Rattle.flac_frame.proofs.SampleCounts.{samples_long}
use Rattle.flac_frame.proofs.Wholes.{not_joined}

-- ---- two channels are kept in one way

both : {a b c d : List ℤ} → a ≡ b → c ≡ d → a ∷ c ∷ [] ≡ b ∷ d ∷ []
both e f = rw (e, f) refl

module _ (code : ℕ) (first second left right : List ℤ) (long : length second ≡ length first) (j : Joined code first second left right) where
  as_long : length right ≡ length left
  as_long = j.right_long ∙ sym j.left_long

  side_is : (x : List ℤ) → length x ≡ length first → ((i : ℕ) → i < length first → sample_at x i ≡ sample_at left i -ℤ sample_at right i) → side_of left right ≡ x
  side_is x same each = ext_get_or (pos 0) (side_of left right) x (side_long left right as_long ∙ j.left_long ∙ sym same)
      (λ i h. let lt : i < length left = omega (arith, side_long left right as_long, h) in side_at left right as_long i lt ∙ sym (each i (omega (arith, lt, j.left_long))))

  middle_is : ((i : ℕ) → i < length first → sample_at first i ≡ int_shr (sample_at left i +ℤ sample_at right i) 1) → middle_of left right ≡ first
  middle_is each = ext_get_or (pos 0) (middle_of left right) first (middle_long left right as_long ∙ j.left_long)
      (λ i h. let lt : i < length left = omega (arith, middle_long left right as_long, h) in middle_at left right as_long i lt ∙ sym (each i (omega (arith, lt, j.left_long))))

  left_is : ((i : ℕ) → i < length first → sample_at first i ≡ sample_at left i) → left ≡ first
  left_is each = ext_get_or (pos 0) left first j.left_long (λ i h. sym (each i (omega (arith, h, j.left_long))))

  right_is : ((i : ℕ) → i < length first → sample_at second i ≡ sample_at right i) → right ≡ second
  right_is each = ext_get_or (pos 0) right second (j.right_long ∙ sym long) (λ i h. sym (each i (omega (arith, h, j.right_long))))

  kept_back : 7 < code → code < 11 → kept_as code (left ∷ right ∷ []) ≡ first ∷ second ∷ []
  kept_back over few = by_test (nat_eq code 8)
      (λ a. let e : 8 ≡ code = grind (arith, nat_tests) in
      subst (λ k. kept_as k (left ∷ right ∷ []) ≡ first ∷ second ∷ []) e
      (kept_8 left right ∙ both (left_is (λ i h. ((j.each i h).left_side (sym e)).0)) (side_is second long (λ i h. ((j.each i h).left_side (sym e)).1))))
      (λ a. by_test (nat_eq code 9)
      (λ b. let e : 9 ≡ code = grind (arith, nat_tests) in
      subst (λ k. kept_as k (left ∷ right ∷ []) ≡ first ∷ second ∷ []) e
      (kept_9 left right ∙ both (side_is first refl (λ i h. ((j.each i h).side_right (sym e)).0)) (right_is (λ i h. ((j.each i h).side_right (sym e)).1))))
      (λ b. let e : 10 ≡ code = grind (arith, nat_tests) in
      subst (λ k. kept_as k (left ∷ right ∷ []) ≡ first ∷ second ∷ []) e
      (kept_10 left right ∙ both (middle_is (λ i h. ((j.each i h).middle_side (sym e)).0)) (side_is second long (λ i h. ((j.each i h).middle_side (sym e)).1)))))

-- ---- each subframe

abbrev EachLong : ℕ → List (List ℤ) → Type 0
EachLong n [] = ⊤
EachLong n (s ∷ ss) = (length s ≡ n) × EachLong n ss

module _ (depth code size : ℕ) (limits : Limits) where
  each_long : (channel : ℕ) (fs : List Form) (ss : List (List ℤ)) → AreSubframes depth code size limits channel fs → HaveSamples depth code size channel fs ss → EachLong size ss × (length ss ≡ length fs)
  each_long channel [] [] valid have = (tt, refl)
  each_long channel [] (s ∷ ss) valid have = absurd have
  each_long channel (f ∷ fs) [] valid have = absurd have
  each_long channel (f ∷ fs) (s ∷ ss) valid have =
      let rest = each_long (channel + 1) fs ss valid.1 have.1 in
      ((samples_long _ size limits f s valid.0 have.0, rest.0), omega (arith, rest.1))

  each_stands : (lists : Lists) (channel : ℕ) (fs : List Form) (ss : List (List ℤ)) → AreSubframes depth code size limits channel fs → HaveSamples depth code size channel fs ss → EachInPlanes lists fs ss → EachStandsByPlane limits.partition lists fs ss
  each_stands lists channel [] [] valid have family = tt
  each_stands lists channel [] (s ∷ ss) valid have family = absurd have
  each_stands lists channel (f ∷ fs) [] valid have family = absurd have
  each_stands lists channel (f ∷ fs) (s ∷ ss) valid have family =
      (family_with_whole limits.partition _ size limits (lists 0) f s (omega arith) valid.0 have.0 family.0, each_stands (later lists) (channel + 1) fs ss valid.1 have.1 family.1)

each_plain : (most : ℕ) (lists : Lists) (fs : List Form) (ss : List (List ℤ)) → EachStandsByPlane most lists fs ss → EachInPlanes lists fs ss
each_plain most lists [] [] stand = tt
each_plain most lists [] (s ∷ ss) stand = absurd stand
each_plain most lists (f ∷ fs) [] stand = absurd stand
each_plain most lists (f ∷ fs) (s ∷ ss) stand = (in_family_with most (lists 0) f s stand.0, each_plain most (later lists) fs ss stand.1)

-- where no linear predictor is handed in
each_family : (fs : List Form) (ss : List (List ℤ)) → EachInFamilyWith [] fs ss → EachInFamily fs ss
each_family [] [] h = tt
each_family [] (s ∷ ss) h = absurd h
each_family (f ∷ fs) [] h = absurd h
each_family (f ∷ fs) (s ∷ ss) h =
    let one : InFamily f s = record { plain = no_linear f.content h.0.plain; wasted = h.0.wasted } in
    (one, each_family fs ss h.1)

each_none : (fs : List Form) (ss : List (List ℤ)) → EachInFamily fs ss → EachInFamilyWith [] fs ss
each_none [] [] h = tt
each_none [] (s ∷ ss) h = absurd h
each_none (f ∷ fs) [] h = absurd h
each_none (f ∷ fs) (s ∷ ss) h =
    let one : InFamilyWith [] f s = record { plain = none_linear f.content h.0.plain; wasted = h.0.wasted } in
    (one, each_none fs ss h.1)

pair_back : (code size : ℕ) (kept block : List (List ℤ)) → 7 < code → code < 11 → length kept ≡ 2 → length block ≡ 2 → EachLong size kept → joined code kept ≡ block → kept_as code block ≡ kept
pair_back code size [] block over few two two' long e = absurd (omega (arith, two))
pair_back code size (a ∷ []) block over few two two' long e = absurd (omega (arith, two))
pair_back code size (a ∷ b ∷ c ∷ ds) block over few two two' long e = absurd (omega (arith, two))
pair_back code size (a ∷ b ∷ []) [] over few two two' long e = absurd (omega (arith, two'))
pair_back code size (a ∷ b ∷ []) (l ∷ []) over few two two' long e = absurd (omega (arith, two'))
pair_back code size (a ∷ b ∷ []) (l ∷ r ∷ m ∷ ns) over few two two' long e = absurd (omega (arith, two'))
pair_back code size (a ∷ b ∷ []) (l ∷ r ∷ []) over few two two' long e =
    let same : length b ≡ length a = long.1.0 ∙ sym long.0 in
    kept_back code a b l r same ((channels_joined code a b l r over few same).1 e) over few

-- ---- the frame

paired : (code n : ℕ) → nat_lt code 8 ≡ false → channels_of code ≡ n → n ≡ 2
paired code n t e = go (nat_lt code 8) t e
  where
    go : (b : Bool) → b ≡ false → cond b (code + 1) 2 ≡ n → n ≡ 2
    go true t e = absurd (no t)
      where
        no : true ≡ false → ⊥
        no z = cc
    go false t e = sym e

module _ (lists : Lists) (sound : Sound) (size number : ℕ) (block : List (List ℤ)) (f : FrameForm) (e : IsEncoding sound size number block f) where
  subframes_valid : AreSubframes sound.bits f.header.channel_code f.header.size (limits_at sound.profile sound.rate) 0 f.subframes
  subframes_valid =
      let codes = coded_as sound.profile size sound.rate e.code sound.bits number f.header e.header in
      subst (λ z. AreSubframes sound.bits f.header.channel_code z (limits_at sound.profile sound.rate) 0 f.subframes) (sym codes.1)
      (subst (λ c. AreSubframes sound.bits c size (limits_at sound.profile sound.rate) 0 f.subframes) (sym codes.0) e.subframes)

  -- the subframes have just what the channel code keeps of the block
  kept_is : kept_as f.header.channel_code block ≡ e.samples.kept
  kept_is =
      let code : ℕ = f.header.channel_code in
      let kept : List (List ℤ) = e.samples.kept in
      let each = each_long sound.bits code f.header.size (limits_at sound.profile sound.rate) 0 f.subframes kept subframes_valid e.samples.subframes in
      by_test (nat_lt code 8)
      (λ t. let low : code ≤ 7 = grind (arith, nat_tests) in kept_same code block low ∙ sym e.samples.joined ∙ not_joined 1 code 1 low kept)
      (λ t. let over : 7 < code = grind (arith, nat_tests) in
      let two : length block ≡ 2 = paired code (length block) t e.channels in
      pair_back code f.header.size kept block over (omega (arith, e.valid.channel_code)) (each.1 ∙ e.many ∙ two) two each.0 e.samples.joined)

  stand : EachInPlanes (lists_kept f.header.channel_code lists) f.subframes e.samples.kept → EachStandsByPlane (partition_limit sound) (lists_kept f.header.channel_code lists) f.subframes e.samples.kept
  stand family = each_stands sound.bits f.header.channel_code f.header.size (limits_at sound.profile sound.rate) (lists_kept f.header.channel_code lists) 0 f.subframes e.samples.kept subframes_valid e.samples.subframes family

pub frame_planes_plain : FramePlanesIsPlain
frame_planes_plain lists sound size number block f =
    let own : Lists = lists_kept f.header.channel_code lists in (
      λ o. (o.encoding, subst (EachInPlanes own f.subframes) (kept_is lists sound size number block f o.encoding) (each_plain (partition_limit sound) own f.subframes (kept_as f.header.channel_code block) o.stand)),
      λ p. record { encoding = p.0; stand = subst (EachStandsByPlane (partition_limit sound) own f.subframes) (sym (kept_is lists sound size number block f p.0)) (stand lists sound size number block f p.0 p.1) },
    )

pub frame_family_with_plain : FrameFamilyWithIsPlain
frame_family_with_plain ps sound size number block f = frame_planes_plain (same_list ps) sound size number block f

pub frame_family_plain : FrameFamilyIsPlain
frame_family_plain sound size number block f =
    let both = frame_family_with_plain [] sound size number block f in (
      λ o. let w = both.0 o in (w.0, each_family f.subframes w.0.samples.kept w.1),
      λ p. both.1 (p.0, each_none f.subframes p.0.samples.kept p.1),
    )
