use Rattle.std.proofs.Common.{◌≡◌, ◌+◌, ◌*◌, ◌<◌, ◌++◌, ◌∷◌, [], ℕ, ℤ, List, length, take, drop, true, false, refl, ap, sym, subst, ◌∙◌, All, arith}
use Rattle.std.specs.Prelude.{nat_lt}
use Rattle.std.specs.Simd.Lanes.{zip2}
use Rattle.std.proofs.lemmas.Bool.{ltb-true}
use Rattle.std.proofs.lemmas.Bool.Decides.{nat_tests}
use Rattle.std.proofs.lemmas.List.{length-drop, take_all}
use Rattle.std.proofs.lemmas.List.Elements.{All-take, All-drop}
use Rattle.flac_bits.specs.Signed.{FitsBits}
use Rattle.flac_header.specs.Assignment.{code_of}
use Rattle.flac_frame.specs.Frame.{each_fits}
use Rattle.flac_frame.specs.Stereo.{left_of, right_of, joined}
use Rattle.flac_frame.specs.View.{chunks}
use Rattle.flac_frame.proofs.Bodies.{each_is}
use Rattle.flac_frame.proofs.Joins.{joined_two}
use Rattle.flac_frame.proofs.Subframes.{chunks-more}
use Rattle.flac_frame.proofs.stereo.join_channels.Goals as goal

-- the second of two channels is as long as the first
half_long : (c n : ℕ) (xs : List ℤ) → c ≡ 2 → length xs ≡ c * n → length (drop n xs) ≡ n
half_long c n xs two long =
    let all : length xs ≡ 2 * n = long ∙ ap (λ k. k * n) two in
    length-drop n xs ∙ omega (arith, all)

-- and so are its places
rest_long : (c n all rest : ℕ) → c ≡ 2 → all ≡ c * n → rest + n ≡ all → rest ≡ n
rest_long c n all rest two long is =
    let both : all ≡ 2 * n = long ∙ ap (λ k. k * n) two in
    omega arith

-- the two channels, joined
joined_is : (code own c n : ℕ) (xs a b : List ℤ) → code ≡ own → 7 < own → c ≡ 2 → length xs ≡ c * n → a ≡ take n xs → b ≡ drop n xs
    → joined code (chunks c n xs) ≡ zip2 (left_of own) a b ∷ zip2 (right_of own) a b ∷ []
joined_is code own c n xs a b is low two long front back =
    let second : take n (drop n xs) ≡ drop n xs = take_all n (drop n xs) (omega (arith, half_long c n xs two long)) in
    let halves : chunks c n xs ≡ a ∷ b ∷ [] = ap (λ k. chunks k n xs) two ∙ ap (λ k. take n xs ∷ k ∷ []) second ∙ ap (λ (k : List ℤ). k ∷ drop n xs ∷ []) (sym front) ∙ ap (λ (k : List ℤ). a ∷ k ∷ []) (sym back) in
    ap (λ k. joined k (chunks c n xs)) is ∙ ap (joined own) halves ∙ joined_two own a b low

-- left and right, one after another
halves_are : (code own c n : ℕ) (xs a b l r : List ℤ) → code ≡ own → 7 < own → c ≡ 2 → length xs ≡ c * n → a ≡ take n xs → b ≡ drop n xs → length l ≡ n → length r ≡ n → l ≡ zip2 (left_of own) a b → r ≡ zip2 (right_of own) a b
    → chunks c n (l ++ r) ≡ joined code (chunks c n xs)
halves_are code own c n xs a b l r is low two long front back left_long right_long left right =
    let halves : chunks c n (l ++ r) ≡ l ∷ r ∷ [] = ap (λ k. chunks k n (l ++ r)) two ∙ chunks-more 1 n l r (omega (arith, left_long)) right_long ∙ ap (λ k. k ∷ r ∷ []) (take_all n l (omega (arith, left_long))) in
    halves ∙ ap (λ (k : List ℤ). k ∷ r ∷ []) left ∙ ap (λ (k : List ℤ). zip2 (left_of own) a b ∷ k ∷ []) right ∙ sym (joined_is code own c n xs a b is low two long front back)

-- other codes join nothing
apart_is : (code : ℕ) (channels : List (List ℤ)) → nat_lt 7 code ≡ false → joined code channels ≡ channels
unfolding joined
apart_is code channels low =
    let below : nat_lt code 8 ≡ true = grind (arith, nat_tests) in
    rw below refl

-- the codes that join
above_8 : 7 < 8
above_8 = omega arith

above_9 : 7 < 9
above_9 = omega arith

above_10 : 7 < 10
above_10 = omega arith

pub join_two-requires : goal.join_two-requires
join_two-requires c =
    let s = c.args.shape.now in
    let low : 7 < code_of c.args.assignment = ltb-true 7 (code_of c.args.assignment) (sym c.if-is_decorrelated.ensures) in
    let two : s.channels ≡ 2 = c.requires.two low in
    let first = c.split_at.ensures.front_len in
    record {
      valid = c.requires.valid;
      joined = low;
      depth = s.deep;
      long = ap length c.split_at.ensures.back ∙ half_long s.channels s.block c.args.samples.now two c.requires.long ∙ sym first;
      lefts = c.split_at_mut-left.ensures.front_len ∙ sym first;
      rights = rest_long s.channels s.block (length c.args.out.now) _ two (c.requires.places ∙ c.requires.long) c.split_at_mut-left.ensures.back_len ∙ sym first;
      first = subst (All (FitsBits 34)) (sym c.split_at.ensures.front) (All-take (FitsBits 34) s.block c.args.samples.now c.requires.small);
      second = subst (All (FitsBits 34)) (sym c.split_at.ensures.back) (All-drop (FitsBits 34) s.block c.args.samples.now c.requires.small);
    }

pub returns-in-Independent : goal.returns-in-Independent
returns-in-Independent c =
    let s = c.args.shape.now in
    let code = code_of c.args.assignment in
    let low : 7 < code = ltb-true 7 code (sym c.if-is_decorrelated.ensures) in
    let two : s.channels ≡ 2 = c.requires.two low in
    let j = c.join_two in
    let left_long : length j.new.left ≡ s.block = j.auto.left ∙ c.split_at_mut-left.ensures.front_len in
    let right_long : length j.new.right ≡ s.block = j.auto.right ∙ rest_long s.channels s.block (length c.args.out.now) _ two (c.requires.places ∙ c.requires.long) c.split_at_mut-left.ensures.back_len in
    record {
      fits = j.ensures.fits ∙ ap (each_fits s.depth) (sym (joined_is code (code_of c.args.assignment) s.channels s.block c.args.samples.now c.split_at.result.0.now c.split_at.result.1.now refl low two c.requires.long c.split_at.ensures.front c.split_at.ensures.back));
      same = λ yes.
          halves_are code (code_of c.args.assignment) s.channels s.block c.args.samples.now c.split_at.result.0.now c.split_at.result.1.now j.new.left j.new.right refl low two c.requires.long c.split_at.ensures.front c.split_at.ensures.back left_long right_long (j.ensures.left yes) (j.ensures.right yes);
    }

pub join_two-requires-in-LeftSide : goal.join_two-requires-in-LeftSide
join_two-requires-in-LeftSide c =
    let s = c.args.shape.now in
    let low : 7 < code_of c.args.assignment = ltb-true 7 (code_of c.args.assignment) (sym c.if-is_decorrelated.ensures) in
    let two : s.channels ≡ 2 = c.requires.two low in
    let first = c.split_at.ensures.front_len in
    record {
      valid = tt;
      joined = above_8;
      depth = s.deep;
      long = ap length c.split_at.ensures.back ∙ half_long s.channels s.block c.args.samples.now two c.requires.long ∙ sym first;
      lefts = c.split_at_mut-left.ensures.front_len ∙ sym first;
      rights = rest_long s.channels s.block (length c.args.out.now) _ two (c.requires.places ∙ c.requires.long) c.split_at_mut-left.ensures.back_len ∙ sym first;
      first = subst (All (FitsBits 34)) (sym c.split_at.ensures.front) (All-take (FitsBits 34) s.block c.args.samples.now c.requires.small);
      second = subst (All (FitsBits 34)) (sym c.split_at.ensures.back) (All-drop (FitsBits 34) s.block c.args.samples.now c.requires.small);
    }

pub returns-in-LeftSide : goal.returns-in-LeftSide
returns-in-LeftSide c =
    let s = c.args.shape.now in
    let code = code_of c.args.assignment in
    let low : 7 < code = ltb-true 7 code (sym c.if-is_decorrelated.ensures) in
    let two : s.channels ≡ 2 = c.requires.two low in
    let j = c.join_two-in-LeftSide in
    let left_long : length j.new.left ≡ s.block = j.auto.left ∙ c.split_at_mut-left.ensures.front_len in
    let right_long : length j.new.right ≡ s.block = j.auto.right ∙ rest_long s.channels s.block (length c.args.out.now) _ two (c.requires.places ∙ c.requires.long) c.split_at_mut-left.ensures.back_len in
    record {
      fits = j.ensures.fits ∙ ap (each_fits s.depth) (sym (joined_is code 8 s.channels s.block c.args.samples.now c.split_at.result.0.now c.split_at.result.1.now (ap code_of c.in-LeftSide.is) above_8 two c.requires.long c.split_at.ensures.front c.split_at.ensures.back));
      same = λ yes.
          halves_are code 8 s.channels s.block c.args.samples.now c.split_at.result.0.now c.split_at.result.1.now j.new.left j.new.right (ap code_of c.in-LeftSide.is) above_8 two c.requires.long c.split_at.ensures.front c.split_at.ensures.back left_long right_long (j.ensures.left yes) (j.ensures.right yes);
    }

pub join_two-requires-in-SideRight : goal.join_two-requires-in-SideRight
join_two-requires-in-SideRight c =
    let s = c.args.shape.now in
    let low : 7 < code_of c.args.assignment = ltb-true 7 (code_of c.args.assignment) (sym c.if-is_decorrelated.ensures) in
    let two : s.channels ≡ 2 = c.requires.two low in
    let first = c.split_at.ensures.front_len in
    record {
      valid = tt;
      joined = above_9;
      depth = s.deep;
      long = ap length c.split_at.ensures.back ∙ half_long s.channels s.block c.args.samples.now two c.requires.long ∙ sym first;
      lefts = c.split_at_mut-left.ensures.front_len ∙ sym first;
      rights = rest_long s.channels s.block (length c.args.out.now) _ two (c.requires.places ∙ c.requires.long) c.split_at_mut-left.ensures.back_len ∙ sym first;
      first = subst (All (FitsBits 34)) (sym c.split_at.ensures.front) (All-take (FitsBits 34) s.block c.args.samples.now c.requires.small);
      second = subst (All (FitsBits 34)) (sym c.split_at.ensures.back) (All-drop (FitsBits 34) s.block c.args.samples.now c.requires.small);
    }

pub returns-in-SideRight : goal.returns-in-SideRight
returns-in-SideRight c =
    let s = c.args.shape.now in
    let code = code_of c.args.assignment in
    let low : 7 < code = ltb-true 7 code (sym c.if-is_decorrelated.ensures) in
    let two : s.channels ≡ 2 = c.requires.two low in
    let j = c.join_two-in-SideRight in
    let left_long : length j.new.left ≡ s.block = j.auto.left ∙ c.split_at_mut-left.ensures.front_len in
    let right_long : length j.new.right ≡ s.block = j.auto.right ∙ rest_long s.channels s.block (length c.args.out.now) _ two (c.requires.places ∙ c.requires.long) c.split_at_mut-left.ensures.back_len in
    record {
      fits = j.ensures.fits ∙ ap (each_fits s.depth) (sym (joined_is code 9 s.channels s.block c.args.samples.now c.split_at.result.0.now c.split_at.result.1.now (ap code_of c.in-SideRight.is) above_9 two c.requires.long c.split_at.ensures.front c.split_at.ensures.back));
      same = λ yes.
          halves_are code 9 s.channels s.block c.args.samples.now c.split_at.result.0.now c.split_at.result.1.now j.new.left j.new.right (ap code_of c.in-SideRight.is) above_9 two c.requires.long c.split_at.ensures.front c.split_at.ensures.back left_long right_long (j.ensures.left yes) (j.ensures.right yes);
    }

pub join_two-requires-in-MidSide : goal.join_two-requires-in-MidSide
join_two-requires-in-MidSide c =
    let s = c.args.shape.now in
    let low : 7 < code_of c.args.assignment = ltb-true 7 (code_of c.args.assignment) (sym c.if-is_decorrelated.ensures) in
    let two : s.channels ≡ 2 = c.requires.two low in
    let first = c.split_at.ensures.front_len in
    record {
      valid = tt;
      joined = above_10;
      depth = s.deep;
      long = ap length c.split_at.ensures.back ∙ half_long s.channels s.block c.args.samples.now two c.requires.long ∙ sym first;
      lefts = c.split_at_mut-left.ensures.front_len ∙ sym first;
      rights = rest_long s.channels s.block (length c.args.out.now) _ two (c.requires.places ∙ c.requires.long) c.split_at_mut-left.ensures.back_len ∙ sym first;
      first = subst (All (FitsBits 34)) (sym c.split_at.ensures.front) (All-take (FitsBits 34) s.block c.args.samples.now c.requires.small);
      second = subst (All (FitsBits 34)) (sym c.split_at.ensures.back) (All-drop (FitsBits 34) s.block c.args.samples.now c.requires.small);
    }

pub returns-in-MidSide : goal.returns-in-MidSide
returns-in-MidSide c =
    let s = c.args.shape.now in
    let code = code_of c.args.assignment in
    let low : 7 < code = ltb-true 7 code (sym c.if-is_decorrelated.ensures) in
    let two : s.channels ≡ 2 = c.requires.two low in
    let j = c.join_two-in-MidSide in
    let left_long : length j.new.left ≡ s.block = j.auto.left ∙ c.split_at_mut-left.ensures.front_len in
    let right_long : length j.new.right ≡ s.block = j.auto.right ∙ rest_long s.channels s.block (length c.args.out.now) _ two (c.requires.places ∙ c.requires.long) c.split_at_mut-left.ensures.back_len in
    record {
      fits = j.ensures.fits ∙ ap (each_fits s.depth) (sym (joined_is code 10 s.channels s.block c.args.samples.now c.split_at.result.0.now c.split_at.result.1.now (ap code_of c.in-MidSide.is) above_10 two c.requires.long c.split_at.ensures.front c.split_at.ensures.back));
      same = λ yes.
          halves_are code 10 s.channels s.block c.args.samples.now c.split_at.result.0.now c.split_at.result.1.now j.new.left j.new.right (ap code_of c.in-MidSide.is) above_10 two c.requires.long c.split_at.ensures.front c.split_at.ensures.back left_long right_long (j.ensures.left yes) (j.ensures.right yes);
    }

pub narrow-requires : goal.narrow-requires
narrow-requires c = record { depth = c.args.shape.now.deep; places = c.requires.places }

pub returns : goal.returns
returns c =
    let s = c.args.shape.now in
    let apart = apart_is (code_of c.args.assignment) (chunks s.channels s.block c.args.samples.now) (sym c.if-is_decorrelated.ensures) in
    record {
      fits = c.narrow.ensures.fits ∙ sym (each_is s.depth s.channels s.block c.args.samples.now c.requires.long) ∙ ap (each_fits s.depth) (sym apart);
      same = λ yes. ap (chunks s.channels s.block) (c.narrow.ensures.same yes) ∙ sym apart;
    }
