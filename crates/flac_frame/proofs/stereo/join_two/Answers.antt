use Rattle.std.proofs.Common.{◌/◌, ◌^◌, ◌<◌, ◌≤◌, arith, rules, ◌≡◌, ℕ, ℤ, pos, length, get_or, to_z, of_z, w32, w64, SFits, FitsSigned, true, refl, sym, ap, subst, ◌∙◌}
use Rattle.std.specs.Prelude.{bit_or}
use Rattle.std.specs.Simd.Lanes.{zip2}
use Rattle.std.proofs.lemmas.Int.{ints, to_z-of_z}
use Rattle.std.proofs.lemmas.List.{take_all}
use Rattle.std.proofs.lemmas.Nat.{pow_pos}
use Rattle.std.proofs.lemmas.Simd.{length-zip2}
use Rattle.std.proofs.Math.Nat.{div-eq_of_lt}
use Rattle.flac_bits.specs.Signed.{FitsBits}
use Rattle.flac_header.specs.Assignment.{code_of}
use Rattle.flac_subframe.specs.format.Numbers.{fits}
use Rattle.flac_frame.specs.Stereo.{left_of, right_of}
use Rattle.flac_frame.proofs.Depths.{none_over, over_none, fit_less, side_more, none_left, none_both, judged}
use Rattle.flac_frame.proofs.Joins.{zip_at}
use Rattle.flac_frame.proofs.stereo.join_two.Goals as goal

-- what fits 34 bits fits 64
long_fits : (z : ℤ) → FitsBits 34 z → SFits w64 z
long_fits z f = omega (arith, ints, f.low, f.high)

below_64 : (n : ℕ) → n ≤ 32 → n < 64
below_64 n few = omega arith

pub loop-i-init : goal.loop-i-init
loop-i-init c = record {
  none = λ _. (refl, refl);
  some = λ _ _. div-eq_of_lt (pow_pos c.args.depth);
  left = λ _. refl;
  right = λ _. refl;
}

pub overflow_shr-result : goal.overflow_shr-result
overflow_shr-result c = below_64 _ c.requires.depth.1

pub bounds-second-i : goal.bounds-second-i
bounds-second-i c = subst (λ n. c.loop-i.i < n) (sym c.requires.long) c.loop-i-test.true

pub bounds-left-i : goal.bounds-left-i
bounds-left-i c = subst (λ n. c.loop-i.i < n) (sym (c.loop-i.auto.left ∙ c.requires.lefts)) c.loop-i-test.true

pub bounds-right-i : goal.bounds-right-i
bounds-right-i c = subst (λ n. c.loop-i.i < n) (sym (c.loop-i.auto.right ∙ c.requires.rights)) c.loop-i-test.true

pub join_samples-joined_left-requires : goal.join_samples-joined_left-requires
join_samples-joined_left-requires c =
    let i = c.loop-i.i in
    let lt = c.loop-i-test.true in
    let p : ℤ = get_or c.args.first.now i (pos 0) in
    let q : ℤ = get_or c.args.second.now i (pos 0) in
    let first : FitsBits 34 p = c.requires.first i (pos 0) lt in
    let second : FitsBits 34 q = c.requires.second i (pos 0) (subst (λ n. i < n) (sym c.requires.long) lt) in
    record {
      valid = c.requires.valid;
      joined = c.requires.joined;
      first = subst (FitsBits 34) (sym (to_z-of_z w64 p (long_fits p first))) first;
      second = subst (FitsBits 34) (sym (to_z-of_z w64 q (long_fits q second))) second;
    }

pub loop-i-preserved : goal.loop-i-preserved
loop-i-preserved c =
    let l = c.loop-i in
    let i = l.i in
    let inv = l.invariant in
    let depth = c.args.depth in
    let few = c.requires.depth.1 in
    let a = c.args.first.now in
    let b = c.args.second.now in
    let lefts = zip2 (left_of (code_of c.args.assignment)) a b in
    let rights = zip2 (right_of (code_of c.args.assignment)) a b in
    let long = c.requires.long in
    let lt = c.loop-i-test.true in
    let left_long : length lefts ≡ length a = length-zip2 (left_of (code_of c.args.assignment)) a b (sym long) in
    let right_long : length rights ≡ length a = length-zip2 (right_of (code_of c.args.assignment)) a b (sym long) in
    let p : ℤ = get_or a i (pos 0) in
    let q : ℤ = get_or b i (pos 0) in
    let pf : SFits w64 p = long_fits p (c.requires.first i (pos 0) lt) in
    let qf : SFits w64 q = long_fits q (c.requires.second i (pos 0) (subst (λ n. i < n) (sym long) lt)) in
    let ps : to_z w64 (of_z w64 p) ≡ p = to_z-of_z w64 p pf in
    let qs : to_z w64 (of_z w64 q) ≡ q = to_z-of_z w64 q qf in
    let u : ℤ = c.join_samples-joined_left.result.0 in
    let v : ℤ = c.join_samples-joined_left.result.1 in
    let uf : SFits w64 u = search rules in
    let vf : SFits w64 v = search rules in
    let us : to_z w64 (of_z w64 u) ≡ u = to_z-of_z w64 u uf in
    let vs : to_z w64 (of_z w64 v) ≡ v = to_z-of_z w64 v vf in
    let u_is : u ≡ get_or lefts i (pos 0) = (rw (ps, qs) at c.join_samples-joined_left.ensures.left) ∙ sym (zip_at (left_of (code_of c.args.assignment)) a b i long lt) in
    let v_is : v ≡ get_or rights i (pos 0) = (rw (ps, qs) at c.join_samples-joined_left.ensures.right) ∙ sym (zip_at (right_of (code_of c.args.assignment)) a b i long lt) in
    let e = c.offset_binary-over.result in
    let f = c.offset_binary-above.result in
    let good_left : e / 2 ^ depth ≡ 0 → fits depth u ≡ true = λ h. ap (fits depth) (sym us) ∙ none_over depth e _ c.offset_binary-over.ensures h in
    let good_right : f / 2 ^ depth ≡ 0 → fits depth v ≡ true = λ h. ap (fits depth) (sym vs) ∙ none_over depth f _ c.offset_binary-above.ensures h in
    let x : ℤ = c.lowest-short_left.result in
    let y : ℤ = c.lowest-short_right.result in
    let xf : SFits w32 x = search rules in
    let yf : SFits w32 y = search rules in
    let low_left : FitsSigned w32 u → to_z w32 (of_z w32 x) ≡ u = λ h. to_z-of_z w32 x xf ∙ (c.lowest-short_left.ensures (rw us h) ∙ us) in
    let low_right : FitsSigned w32 v → to_z w32 (of_z w32 y) ≡ v = λ h. to_z-of_z w32 y yf ∙ (c.lowest-short_right.ensures (rw vs h) ∙ vs) in
    let parts : (z : bit_or l.wrong (bit_or e f) / 2 ^ depth ≡ 0) → (l.wrong / 2 ^ depth ≡ 0) × ((e / 2 ^ depth ≡ 0) × (f / 2 ^ depth ≡ 0)) = λ z. let k = none_left depth l.wrong (bit_or e f) z in (k.0, none_left depth e f k.1) in
    let on_left : (z : bit_or l.wrong (bit_or e f) / 2 ^ depth ≡ 0) → _ = λ z. let k = parts z in side_more depth lefts l.left i u (to_z w32 (of_z w32 x)) few (subst (λ n. i < n) (sym left_long) lt) (l.auto.left ∙ c.requires.lefts ∙ sym left_long) u_is (good_left k.1.0) low_left ((inv.none k.0).0) (inv.left k.0) in
    let on_right : (z : bit_or l.wrong (bit_or e f) / 2 ^ depth ≡ 0) → _ = λ z. let k = parts z in side_more depth rights l.right i v (to_z w32 (of_z w32 y)) few (subst (λ n. i < n) (sym right_long) lt) (l.auto.right ∙ c.requires.rights ∙ sym right_long) v_is (good_right k.1.1) low_right ((inv.none k.0).1) (inv.right k.0) in
    record {
      none = λ z. ((on_left z).0, (on_right z).0);
      some = λ g h.
          let m = fit_less depth lefts i (subst (λ n. i < n) (sym left_long) lt) g in
          let n = fit_less depth rights i (subst (λ n. i < n) (sym right_long) lt) h in
          none_both depth l.wrong (bit_or e f) (inv.some m.0 n.0) (none_both depth e f (over_none depth e _ c.offset_binary-over.ensures (ap (fits depth) (us ∙ u_is) ∙ m.1)) (over_none depth f _ c.offset_binary-above.ensures (ap (fits depth) (vs ∙ v_is) ∙ n.1)));
      left = λ z. (on_left z).1;
      right = λ z. (on_right z).1;
    }

pub returns-clause-fits : goal.returns-clause-fits
returns-clause-fits c =
    let l = c.loop-i in
    let a = c.args.first.now in
    let b = c.args.second.now in
    let lefts = zip2 (left_of (code_of c.args.assignment)) a b in
    let rights = zip2 (right_of (code_of c.args.assignment)) a b in
    let left_long : length lefts ≡ length a = length-zip2 (left_of (code_of c.args.assignment)) a b (sym c.requires.long) in
    let right_long : length rights ≡ length a = length-zip2 (right_of (code_of c.args.assignment)) a b (sym c.requires.long) in
    let left_all = take_all l.i lefts (subst (λ n. n ≤ l.i) (sym left_long) c.loop-i-test.false) in
    let right_all = take_all l.i rights (subst (λ n. n ≤ l.i) (sym right_long) c.loop-i-test.false) in
    let none = rw (left_all, right_all) at l.invariant.none in
    let some = rw (left_all, right_all) at l.invariant.some in
    judged (l.wrong / 2 ^ c.args.depth) _ _ none some

pub returns-clause-left : goal.returns-clause-left
returns-clause-left c = λ t.
    let l = c.loop-i in
    let a = c.args.first.now in
    let b = c.args.second.now in
    let lefts = zip2 (left_of (code_of c.args.assignment)) a b in
    let left_long : length lefts ≡ length a = length-zip2 (left_of (code_of c.args.assignment)) a b (sym c.requires.long) in
    let z : l.wrong / 2 ^ c.args.depth ≡ 0 = search rules in
    sym (take_all l.i l.left (subst (λ n. n ≤ l.i) (sym (l.auto.left ∙ c.requires.lefts)) c.loop-i-test.false)) ∙ l.invariant.left z ∙ take_all l.i lefts (subst (λ n. n ≤ l.i) (sym left_long) c.loop-i-test.false)

pub returns-clause-right : goal.returns-clause-right
returns-clause-right c = λ t.
    let l = c.loop-i in
    let a = c.args.first.now in
    let b = c.args.second.now in
    let rights = zip2 (right_of (code_of c.args.assignment)) a b in
    let right_long : length rights ≡ length a = length-zip2 (right_of (code_of c.args.assignment)) a b (sym c.requires.long) in
    let z : l.wrong / 2 ^ c.args.depth ≡ 0 = search rules in
    sym (take_all l.i l.right (subst (λ n. n ≤ l.i) (sym (l.auto.right ∙ c.requires.rights)) c.loop-i-test.false)) ∙ l.invariant.right z ∙ take_all l.i rights (subst (λ n. n ≤ l.i) (sym right_long) c.loop-i-test.false)
