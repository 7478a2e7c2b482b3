-- Why samples cannot be divided into frames with linear predictors.
use Rattle.std.proofs.Common.{◌≡◌, Bool, true, false, not, cond, ◌||◌, nat_lt, nat_le, ◌^◌, Option, Some, None, List, []}
use Rattle.std.specs.Option.{option_or}
use Rattle.flac_header.specs.Header.{allows_block}
use Rattle.flac_subframe.specs.declared.format.linear.LinearPredictor.{LinearPredictor}
use Rattle.flac_frame.specs.Setup.{format_fault}
use Rattle.flac_frame.specs.declared.setup.SetupFault.{SetupFault}
use Rattle.flac_frame.specs.declared.setup.SetupFault.TheVariants.{TooLong, BadBlockSize, TooManyPoints}
use Rattle.flac_native.specs.Given.{Cut, with_predictors, blocks_in, points_before, predictors_fault, cutting_fault, plan_fault}

-- another rest of a row of tests, where the first is the reason, or none is
still : {A : Type 0} (b : Bool) (x e : A) (rest other : Option A) → (rest ≡ Some e → other ≡ Some e) → cond b (Some x) rest ≡ Some e → cond b (Some x) other ≡ Some e
still true x e rest other f h = h
still false x e rest other f h = f h

still_or : {A : Type 0} (o rest other : Option A) (e : A) → (rest ≡ Some e → other ≡ Some e) → option_or o rest ≡ Some e → option_or o other ≡ Some e
still_or (Some x) rest other e f h = h
still_or None rest other e f h = f h

later : {A : Type 0} (b : Bool) (x e : A) (rest other : Option A) → (rest ≡ None → other ≡ Some e) → cond b (Some x) rest ≡ None → cond b (Some x) other ≡ Some e
later true x e rest other f h = absurd cc
later false x e rest other f h = f h

later_or : {A : Type 0} (o rest other : Option A) (e : A) → (rest ≡ None → other ≡ Some e) → option_or o rest ≡ None → option_or o other ≡ Some e
later_or (Some x) rest other e f h = absurd cc
later_or None rest other e f h = f h

module _ (p : Cut) (ps : List LinearPredictor) (e : SetupFault) where
  no_fault : p.predictors ≡ [] → predictors_fault p.profile p.rate p.predictors ≡ Some e → ⊥
  unfolding predictors_fault
  no_fault none last = let k = rw none at last in absurd cc

  -- what is a reason without predictors is one with these
  pub with_none : p.predictors ≡ [] → plan_fault p ≡ Some e → plan_fault (with_predictors p ps) ≡ Some e
  unfolding plan_fault cutting_fault
  with_none none h =
      still_or (format_fault p.profile p.rate p.bits p.channels) (cutting_fault p) (cutting_fault (with_predictors p ps)) e
      (still (not (allows_block p.profile p.block_size p.rate)) BadBlockSize e _ _
      (still (nat_le (2 ^ 36) p.total || nat_lt (2 ^ 31) (blocks_in p.block_size p.total)) TooLong e _ _
      (still (nat_lt 932067 (points_before p.block_size p.total p.seek_every (blocks_in p.block_size p.total))) TooManyPoints e (predictors_fault p.profile p.rate p.predictors)
      (predictors_fault p.profile p.rate ps) (λ last. absurd (no_fault none last))))) h

  -- if there is none without predictors, the reason is that of the predictors
  pub with_some : plan_fault p ≡ None → predictors_fault p.profile p.rate ps ≡ Some e → plan_fault (with_predictors p ps) ≡ Some e
  unfolding plan_fault cutting_fault
  with_some good h =
      later_or (format_fault p.profile p.rate p.bits p.channels) (cutting_fault p) (cutting_fault (with_predictors p ps)) e
      (later (not (allows_block p.profile p.block_size p.rate)) BadBlockSize e _ _
      (later (nat_le (2 ^ 36) p.total || nat_lt (2 ^ 31) (blocks_in p.block_size p.total)) TooLong e _ _
      (later (nat_lt 932067 (points_before p.block_size p.total p.seek_every (blocks_in p.block_size p.total))) TooManyPoints e (predictors_fault p.profile p.rate p.predictors)
      (predictors_fault p.profile p.rate ps) (λ none. h)))) good
