-- What holds of a plan.
use Rattle.std.proofs.Common.{◌≡◌, ℕ, ◌^◌, ◌<◌, ◌≤◌, Bool, true, false, not, cond, ◌&&◌, ◌||◌, nat_eq, nat_lt, nat_le, length, Option, Some, None, is_none, List, [], Vec, Global, All, get_or, inl, inr, sym, refl, ap, subst, ◌∙◌, arith}
use Rattle.std.specs.Option.{option_or}
use Rattle.std.proofs.lemmas.Bool.{cases_lt, not-false}
use Rattle.std.proofs.lemmas.List.{get_or-map, length-map}
use Rattle.std.proofs.lemmas.List.Elements.{All-nil}
use Rattle.std.proofs.Math.ListN.{get_or-eq_default}
use Rattle.std.proofs.lemmas.Bool.Decides.{nat_tests}
use Rattle.flac_info.specs.Info.{KeepsRules}
use Rattle.flac_header.specs.Header.{allows_block, greatest_in}
use Rattle.flac_header.specs.Choice.{rate_choice, depth_choice, rate_choice_in, depth_choice_in}
use Rattle.flac_header.specs.declared.subset.Profile.{Profile}
use Rattle.flac_header.specs.declared.subset.Profile.TheVariants.{Subset, Lax}
use Rattle.flac_subframe.specs.format.Handed.{AreWithin}
use Rattle.flac_subframe.specs.search.Capacity.{Capacity}
use Rattle.flac_subframe.specs.declared.format.linear.LinearPredictor.{LinearPredictor}
use Rattle.flac_frame.specs.Encoding.{partition_limit, most_in}
use Rattle.flac_frame.specs.Frame.{limits_at}
use Rattle.flac_frame.specs.PlaneLists.{Lists, AreAllWithin}
use Rattle.flac_frame.specs.Setup.{format_fault}
use Rattle.flac_frame.specs.declared.setup.SetupFault.TheVariants.{TooLong, BadBlockSize, TooManyPoints}
use Rattle.flac_frame.specs.Audio.{Sound, samples_each}
use Rattle.flac_native.specs.Given.{Cut, with_predictors, with_found, tried, AreFoundWithin, plane_lists, frame_lists, same_profile, fits_plan, room_of, blocks_in, points_before, predictors_fault, cutting_fault, plan_fault, info_of}
use Rattle.flac_native.proofs.Predictors.{within, partition_is}

-- ---- tests in a row

pub first_none : {A : Type 0} (b : Bool) (x : A) (rest : Option A) → cond b (Some x) rest ≡ None → (b ≡ false) × (rest ≡ None)
first_none true x rest e = absurd cc
first_none false x rest e = (refl, e)

pub both_none : {A : Type 0} (o more : Option A) → option_or o more ≡ None → (o ≡ None) × (more ≡ None)
both_none None more e = (refl, e)
both_none (Some x) more e = absurd cc

pub either_false : (a b : Bool) → (a || b) ≡ false → (a ≡ false) × (b ≡ false)
either_false true b e = absurd cc
either_false false b e = (refl, e)

both_true : (a b : Bool) → (a && b) ≡ true → (a ≡ true) × (b ≡ true)
both_true true b e = (refl, e)
both_true false b e = absurd cc

pub not_zero : (n : ℕ) → nat_eq n 0 ≡ false → 1 ≤ n
not_zero n e = grind (arith, nat_tests)

pub not_less : (a b : ℕ) → nat_lt a b ≡ false → b ≤ a
not_less a b e = grind (arith, nat_tests)

not_at_most : (a b : ℕ) → nat_le a b ≡ false → b < a
not_at_most a b e = grind (arith, nat_tests)

at_most : (a b : ℕ) → nat_le a b ≡ true → a ≤ b
at_most a b e = grind (arith, nat_tests)

pub allowed_sizes : (profile : Profile) (size rate : ℕ) → not (allows_block profile size rate) ≡ false → (16 ≤ size) × (size ≤ greatest_in profile rate)
allowed_sizes profile size rate e =
    let both = both_true _ _ (not-false (allows_block profile size rate) e) in
    (at_most 16 size both.0, at_most size (greatest_in profile rate) both.1)

same : (a b : ℕ) → nat_eq a b ≡ true → a ≡ b
same a b e = grind (arith, nat_tests)

-- ---- a plan

pub record Planned (p : Cut) : Type 0 where
  pub rate : is_none (rate_choice_in p.profile p.rate) ≡ false
  pub bits : is_none (depth_choice_in p.profile p.bits) ≡ false
  pub some : 1 ≤ p.channels
  pub few : p.channels ≤ 8
  pub least : 16 ≤ p.block_size
  pub greatest : p.block_size ≤ greatest_in p.profile p.rate
  pub total : p.total < 2 ^ 36
  pub blocks : blocks_in p.block_size p.total ≤ 2 ^ 31
  pub points : points_before p.block_size p.total p.seek_every (blocks_in p.block_size p.total) ≤ 932067
  pub predictors : predictors_fault p.profile p.rate p.predictors ≡ None

pub planned : (p : Cut) → plan_fault p ≡ None → Planned p
unfolding plan_fault cutting_fault format_fault
planned p e =
    let both = both_none (format_fault p.profile p.rate p.bits p.channels) (cutting_fault p) e in
    let a = first_none _ _ _ both.0 in
    let b = first_none _ _ _ a.1 in
    let c = first_none _ _ _ b.1 in
    let d = first_none _ _ _ both.1 in
    let f = first_none _ _ _ d.1 in
    let g = first_none _ _ _ f.1 in
    let channels = either_false _ _ c.0 in
    let sizes = allowed_sizes p.profile p.block_size p.rate d.0 in
    let counts = either_false _ _ f.0 in
    record {
      rate = a.0;
      bits = b.0;
      some = not_zero p.channels channels.0;
      few = not_less 8 p.channels channels.1;
      least = sizes.0;
      greatest = sizes.1;
      total = not_at_most (2 ^ 36) p.total counts.0;
      blocks = not_less (2 ^ 31) (blocks_in p.block_size p.total) counts.1;
      points = not_less 932067 (points_before p.block_size p.total p.seek_every (blocks_in p.block_size p.total)) g.0;
      predictors = g.1;
    }

-- another last test
instead : {A : Type 0} (b : Bool) (x : A) (rest other : Option A) → (rest ≡ None → other ≡ None) → cond b (Some x) rest ≡ None → cond b (Some x) other ≡ None
instead true x rest other f e = absurd cc
instead false x rest other f e = f e

-- so it is with other predictors that can be tried
pub still_planned : (p : Cut) (ps : List LinearPredictor) → plan_fault p ≡ None → predictors_fault p.profile p.rate ps ≡ None → plan_fault (with_predictors p ps) ≡ None
unfolding plan_fault cutting_fault
still_planned p ps e new =
    let points = points_before p.block_size p.total p.seek_every (blocks_in p.block_size p.total) in
    let both = both_none (format_fault p.profile p.rate p.bits p.channels) (cutting_fault p) e in
    let cut =
    instead (not (allows_block p.profile p.block_size p.rate)) BadBlockSize _ _
    (instead (nat_le (2 ^ 36) p.total || nat_lt (2 ^ 31) (blocks_in p.block_size p.total)) TooLong _ _
    (instead (nat_lt 932067 points) TooManyPoints (predictors_fault p.profile p.rate p.predictors) (predictors_fault p.profile p.rate ps) (λ old. new))) both.1 in
    rw both.0 cut

-- these samples are those that the plan was made for
pub record Fit (p : Cut) (a : Sound) : Type 0 where
  pub profile : p.profile ≡ a.profile
  pub rate : p.rate ≡ a.rate
  pub bits : p.bits ≡ a.bits
  pub channels : p.channels ≡ length a.channels
  pub total : p.total ≡ samples_each a.channels

same_is : (a b : Profile) → same_profile a b ≡ true → a ≡ b
same_is Subset Subset e = refl
same_is Subset Lax e = absurd cc
same_is Lax Subset e = absurd cc
same_is Lax Lax e = refl

pub fit : (p : Cut) (a : Sound) → fits_plan p a ≡ true → Fit p a
fit p a e =
    let x = both_true _ _ e in
    let y = both_true _ _ x.0 in
    let z = both_true _ _ y.0 in
    let w = both_true _ _ z.0 in
    record { profile = same_is p.profile a.profile w.0; rate = same _ _ w.1; bits = same _ _ z.1; channels = same _ _ y.1; total = same _ _ x.1 }

-- ---- what the profile allows

plain_rate : (rate : ℕ) → is_none (rate_choice rate) ≡ false → (1 ≤ rate) × (rate < 2 ^ 20)
unfolding rate_choice
plain_rate rate e = grind (arith, nat_tests)

plain_depth : (depth : ℕ) → is_none (depth_choice depth) ≡ false → (4 ≤ depth) × (depth ≤ 32)
unfolding depth_choice
plain_depth depth e = grind (arith, nat_tests)

none_left : {A : Type 0} (b : Bool) (o : Option A) → is_none (cond b None o) ≡ false → b ≡ false
none_left true o e = absurd cc
none_left false o e = refl

pub rate_range : (profile : Profile) (rate : ℕ) → is_none (rate_choice_in profile rate) ≡ false → (1 ≤ rate) × (rate < 2 ^ 20)
unfolding rate_choice_in
rate_range Subset rate e = plain_rate rate e
rate_range Lax rate e = let b = either_false _ _ (none_left (nat_eq rate 0 || nat_lt 1048575 rate) _ e) in let most = not_less 1048575 rate b.1 in (not_zero rate b.0, omega (arith, most))

pub depth_range : (profile : Profile) (depth : ℕ) → is_none (depth_choice_in profile depth) ≡ false → (4 ≤ depth) × (depth ≤ 32)
unfolding depth_choice_in
depth_range Subset depth e = plain_depth depth e
depth_range Lax depth e = let b = either_false _ _ (none_left (nat_lt depth 4 || nat_lt 32 depth) _ e) in (not_less depth 4 b.0, not_less 32 depth b.1)

pub greatest_small : (profile : Profile) (rate : ℕ) → greatest_in profile rate ≤ 65535
greatest_small Subset rate = go (nat_le rate 48000)
  where
    go : (b : Bool) → cond b 4608 16384 ≤ 65535
    go true = omega arith
    go false = omega arith
greatest_small Lax rate = omega arith

pub block_small : (p : Cut) → Planned p → p.block_size ≤ 65535
block_small p q = omega (arith, q.greatest, greatest_small p.profile p.rate)

-- the plan's predictors can be tried for the samples
pub orders_of : (p : Cut) (a : Sound) → Planned p → Fit p a → AreWithin (limits_at a.profile a.rate).linear p.predictors
orders_of p a q f =
    subst (λ x. AreWithin (limits_at x a.rate).linear p.predictors) f.profile (subst (λ r. AreWithin (limits_at p.profile r).linear p.predictors) f.rate (within p.profile p.rate p.predictors q.predictors))

-- what the profile allows of the plan it allows of the samples
pub orders_at : (p : Cut) (a : Sound) (lists : Lists) → Fit p a → AreAllWithin (limits_at p.profile p.rate).linear lists → AreAllWithin (limits_at a.profile a.rate).linear lists
orders_at p a lists f h = subst (λ x. AreAllWithin (limits_at x a.rate).linear lists) f.profile (subst (λ r. AreAllWithin (limits_at p.profile r).linear lists) f.rate h)

-- the plan's own
pub own_orders : (p : Cut) → Planned p → AreWithin (limits_at p.profile p.rate).linear p.predictors
own_orders p q = within p.profile p.rate p.predictors q.predictors

-- so it is with lists for the frames
pub still_found : (p : Cut) (found : List (List (List LinearPredictor))) → plan_fault p ≡ None → plan_fault (with_found p found) ≡ None
unfolding plan_fault cutting_fault
still_found p found e = e

-- what holds of all holds of the one at a place, or of another
all_or : {A : Type 0} (P : A → Type 0) (xs : List A) (n : ℕ) (other : A) → All P xs → P other → P (get_or xs n other)
all_or P xs n other all one = elim (cases_lt n (length xs)) [
  | inl b ↦ all n other b
  | inr b ↦ subst P (sym (get_or-eq_default xs other (omega (arith, b)))) one
]

-- what is tried for a frame
pub orders_tried : (limit : ℕ) (p : Cut) (n : ℕ) → AreFoundWithin limit p.found → AreWithin limit p.predictors → AreAllWithin limit (tried p n)
orders_tried limit p n all own plane = all_or (AreWithin limit) (get_or p.found n []) plane p.predictors (all_or (All (AreWithin limit)) p.found n [] all (All-nil (AreWithin limit))) own

-- the list of each plane, or another
abbrev list_or : List (List LinearPredictor) → List LinearPredictor → Lists
list_or lists other = λ plane. get_or lists plane other

-- the lists of a frame, and of one after the last that has some
pub lists_in : (frames : List (Vec (Vec LinearPredictor Global) Global)) (n : ℕ) (f : Vec (Vec LinearPredictor Global) Global) → n < length frames → f ≡ get_or frames n f → plane_lists f.items ≡ get_or (frame_lists frames) n []
lists_in frames n f lt is =
    let items : Vec (Vec LinearPredictor Global) Global → List (List LinearPredictor) = λ v. plane_lists v.items in
    sym (get_or-map items frames n f [] lt ∙ ap items (sym is))

pub lists_past : (frames : List (Vec (Vec LinearPredictor Global) Global)) (n : ℕ) → length frames ≤ n → [] ≡ get_or (frame_lists frames) n []
lists_past frames n over = sym (get_or-eq_default (frame_lists frames) [] (omega (arith, over, length-map frames (λ (v : Vec (Vec LinearPredictor Global) Global). plane_lists v.items))))

pub tried_is : (p : Cut) (n : ℕ) (lists : List (List LinearPredictor)) (frames : List (List (List LinearPredictor))) (others : List LinearPredictor) → lists ≡ get_or frames n [] → frames ≡ p.found → others ≡ p.predictors
    → list_or lists others ≡ tried p n
tried_is p n lists frames others at found own = ap (λ ls. list_or ls others) (at ∙ ap (λ f. get_or f n []) found) ∙ ap (list_or (get_or p.found n [])) own

-- arrays that were made for the plan
pub room_is : (p : Cut) (r : Capacity) (size : ℕ) (profile : Profile) → size ≡ p.block_size → profile ≡ p.profile → r ≡ record { block = size; most = most_in profile } → r ≡ room_of p
room_is p r size profile s x is = is ∙ ap (λ n. record { block = n; most = most_in profile }) s ∙ ap (λ k. record { block = p.block_size; most = most_in k }) x

-- the plan's arrays have room for the partition orders of the samples
pub partition_of : (p : Cut) (a : Sound) (r : Capacity) → Fit p a → r ≡ room_of p → partition_limit a ≤ r.most
partition_of p a r f is =
    let most : r.most ≡ (limits_at a.profile 0).partition = ap (λ (x : Capacity). x.most) is ∙ ap (λ x. (limits_at x 0).partition) f.profile in
    omega (arith, partition_is a.profile a.rate, most)

pub keeps_rules : (p : Cut) (a : Sound) (least greatest : ℕ) → Planned p → Fit p a → least < 2 ^ 24 → greatest < 2 ^ 24 → KeepsRules (info_of p a least greatest)
keeps_rules p a least greatest q f l g =
    let rate = rate_range p.profile p.rate q.rate in
    let depth = depth_range p.profile p.bits q.bits in
    let small = block_small p q in
    record {
      least_block = q.least;
      blocks = omega arith;
      greatest_block = omega (arith, small);
      least_frame = l;
      greatest_frame = g;
      least_rate = omega (arith, f.rate, rate.0);
      rate = omega (arith, f.rate, rate.1);
      least_channels = omega (arith, f.channels, q.some);
      channels = omega (arith, f.channels, q.few);
      least_depth = omega (arith, f.bits, depth.0);
      depth = omega (arith, f.bits, depth.1);
      total = omega (arith, f.total, q.total);
    }
