use Rattle.std.proofs.Common.{◌≡◌, ◌∙◌, ◌+◌, ◌≤◌, ℕ, Bool, true, false, Result, length, nat_eq, nat_lt, ap, arith, refl}
use Rattle.std.proofs.lemmas.Bool.{lt-ltb, le-ltb, ne_eqb}
use Rattle.flac_bits.specs.Layout.{Layout, bind, choose, done}
use Rattle.flac_bits.specs.Reading.{CallInPlace, Reads}
use Rattle.flac_bits.specs.State.{State}
use Rattle.flac_bits.specs.declared.why.Why.{Why}
use Rattle.flac_subframe.specs.declared.format.subframe_type.SubframeType.{SubframeType}
use Rattle.flac_subframe.specs.declared.format.subframe_type.SubframeType.TheVariants.{Constant, Verbatim, Fixed, Linear}
use Rattle.flac_subframe.specs.format.inner.Codes.{IsType, type_code}
use Rattle.flac_subframe.specs.format.Subframe.{constant, verbatim, fixed, linear, content, content_samples, fitting, predictor_order}
use Rattle.flac_subframe.proofs.format.subframe.read_content.Goals as goal

third : {A : Type 0} (x y z : Bool) (p q r s : Layout A) → x ≡ false → y ≡ false → z ≡ true → choose x p (choose y q (choose z r s)) ≡ r
third x y z p q r s ex ey ez = rw (ex, ey, ez) refl

fourth : {A : Type 0} (x y z : Bool) (p q r s : Layout A) → x ≡ false → y ≡ false → z ≡ false → choose x p (choose y q (choose z r s)) ≡ s
fourth x y z p q r s ex ey ez = rw (ex, ey, ez) refl

module _ (depth block limit : ℕ) where
  fixed_content : (order : ℕ) → order ≤ 4 → content (8 + order) depth block limit ≡ fixed depth block limit order
  unfolding content
  fixed_content order few =
      let kind : ℕ = 8 + order in
      let low = lt-ltb kind 32 (omega (arith, few)) in
      let e : predictor_order kind ≡ order = rw low (omega arith) in
      third (nat_eq kind 0) (nat_eq kind 1) (nat_lt kind 32) _ _ _ _ (ne_eqb kind 0 (λ h. omega (arith, h))) (ne_eqb kind 1 (λ h. omega (arith, h))) low ∙ ap (fixed depth block limit) e

  linear_content : (order : ℕ) → 1 ≤ order → content (31 + order) depth block limit ≡ linear depth block limit order
  unfolding content
  linear_content order some =
      let kind : ℕ = 31 + order in
      let high = le-ltb kind 32 (omega (arith, some)) in
      let e : predictor_order kind ≡ order = rw high (omega arith) in
      fourth (nat_eq kind 0) (nat_eq kind 1) (nat_lt kind 32) _ _ _ _ (ne_eqb kind 0 (λ h. omega (arith, h))) (ne_eqb kind 1 (λ h. omega (arith, h))) high ∙ ap (linear depth block limit) e

  module _ (kind : SubframeType) where
    constant_samples : kind ≡ Constant → content_samples (type_code kind) depth block limit ≡ bind (constant depth) (λ c. done (fitting depth block c))
    unfolding content_samples content
    constant_samples is = rw is refl

    verbatim_samples : kind ≡ Verbatim → content_samples (type_code kind) depth block limit ≡ bind (verbatim depth block) (λ c. done (fitting depth block c))
    unfolding content_samples content
    verbatim_samples is = rw is refl

    fixed_samples : (order : ℕ) → kind ≡ Fixed order → IsType kind → content_samples (type_code kind) depth block limit ≡ bind (fixed depth block limit order) (λ c. done (fitting depth block c))
    unfolding content_samples
    fixed_samples order is ok = rw is (ap (λ x. bind x (λ c. done (fitting depth block c))) (fixed_content order (rw is at ok)))

    linear_samples : (order : ℕ) → kind ≡ Linear order → IsType kind → content_samples (type_code kind) depth block limit ≡ bind (linear depth block limit order) (λ c. done (fitting depth block c))
    unfolding content_samples
    linear_samples order is ok = let few = rw is at ok in rw is (ap (λ x. bind x (λ c. done (fitting depth block c))) (linear_content order few.0))

read_as : {X Y : Type 0} (view : X → Y) (made said : Layout Y) (old new : State) (result : Result X Why) → said ≡ made → CallInPlace 0 (Reads view made) old new result → CallInPlace 0 (Reads view said) old new result
read_as view made said old new result e h = rw e h

pub read_fixed-requires-clause-order : goal.read_fixed-requires-clause-order
read_fixed-requires-clause-order g c = rw c.in-Fixed.is at c.requires.kind

pub read_fixed-requires-clause-places : goal.read_fixed-requires-clause-places
read_fixed-requires-clause-places g c = rw c.in-Fixed.is at c.requires.places

pub read_linear-requires-clause-order : goal.read_linear-requires-clause-order
read_linear-requires-clause-order g c = rw c.in-Linear.is at c.requires.kind

pub read_linear-requires-clause-places : goal.read_linear-requires-clause-places
read_linear-requires-clause-places g c = rw c.in-Linear.is at c.requires.places

pub returns-in-Constant : goal.returns-in-Constant
returns-in-Constant g c = record {
  fits = c.read_constant.ensures.fits;
  reading = read_as _ _ _ _ _ _ (constant_samples c.args.depth (length c.args.samples.now) c.args.limit c.args.kind c.in-Constant.is) c.read_constant.ensures.reading;
}

pub returns-in-Verbatim : goal.returns-in-Verbatim
returns-in-Verbatim g c = record {
  fits = c.read_verbatim.ensures.fits;
  reading = read_as _ _ _ _ _ _ (verbatim_samples c.args.depth (length c.args.samples.now) c.args.limit c.args.kind c.in-Verbatim.is) c.read_verbatim.ensures.reading;
}

pub returns-in-Fixed : goal.returns-in-Fixed
returns-in-Fixed g c = record {
  fits = c.read_fixed.ensures.fits;
  reading = read_as _ _ _ _ _ _ (fixed_samples c.args.depth (length c.args.samples.now) c.args.limit c.args.kind c.in-Fixed.order c.in-Fixed.is c.requires.kind) c.read_fixed.ensures.reading;
}

pub returns-in-Linear : goal.returns-in-Linear
returns-in-Linear g c = record {
  fits = c.read_linear.ensures.fits;
  reading = read_as _ _ _ _ _ _ (linear_samples c.args.depth (length c.args.samples.now) c.args.limit c.args.kind c.in-Linear.order c.in-Linear.is c.requires.kind) c.read_linear.ensures.reading;
}
