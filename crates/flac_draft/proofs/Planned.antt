-- The plan of what is pushed.
use Rattle.std.proofs.Common.{◌≡◌, ℕ, ◌^◌, ◌<◌, ◌≤◌, ℤ, Bool, true, false, not, cond, ◌&&◌, ◌||◌, nat_eq, nat_lt, nat_le, Option, Some, None, List, [], length, inl, inr, refl, sym, ap, subst, ◌∙◌, arith}
use Rattle.std.specs.Prelude.{option_map}
use Rattle.std.specs.Option.{option_or}
use Rattle.std.proofs.lemmas.Bool.{cases_lt}
use Rattle.std.proofs.lemmas.Bool.Decides.{nat_tests}
use Rattle.std.proofs.lemmas.List.{length-replicate}
use Rattle.flac_meta.specs.Listed.{block_fault}
use Rattle.flac_meta.specs.declared.block.Block.{Block}
use Rattle.flac_meta.specs.declared.block.Block.TheVariants as blocks
use Rattle.flac_header.specs.Header.{allows_block}
use Rattle.flac_header.specs.declared.subset.Profile.{Profile}
use Rattle.flac_header.specs.declared.subset.Profile.TheVariants.{Subset, Lax}
use Rattle.flac_frame.specs.Audio.{samples_each}
use Rattle.flac_frame.specs.Setup.{format_fault}
use Rattle.flac_frame.specs.declared.setup.SetupFault.{SetupFault}
use Rattle.flac_native.specs.Seeking.{has_table}
use Rattle.flac_native.specs.declared.fault.EncodeFault.{EncodeFault}
use Rattle.flac_native.specs.declared.fault.EncodeFault.TheVariants.{RepeatedBlock, Write, Setup}
use Rattle.flac_native.specs.Given.{points_before, blocks_in, predictors_fault, cutting_fault, plan_fault, cut_in, same_profile, fits_plan}
use Rattle.flac_native.proofs.Planned.{both_none, first_none, planned}
use Rattle.flac_encoder.specs.Pushing.{Shape, shape_fault, sound_of}
use Rattle.flac_draft.specs.Table.{Table, no_table, table_for, cut_stated, table_fault, begin_fault, reserved, vacant}
use Rattle.flac_draft.specs.inner.Gathering.{length_fault}
use Rattle.flac_draft.proofs.Points.{none_before, table_may, vacant_order}

small : (n m : ℕ) → n ≤ m → nat_lt m n ≡ false
small n m h = grind (arith, nat_tests)

counts : (total blocks : ℕ) → total < 2 ^ 36 → blocks ≤ 2 ^ 31 → (nat_le (2 ^ 36) total || nat_lt (2 ^ 31) blocks) ≡ false
counts total blocks t b = grind (arith, nat_tests)

-- why as many samples as were stated cannot be cut, for a format that can be encoded
pub stated_fault : (s : Shape) (total every : ℕ) → shape_fault s ≡ None
    → plan_fault (cut_stated s total every) ≡ length_fault s.block_size total every
unfolding plan_fault cutting_fault predictors_fault shape_fault length_fault
stated_fault s total every shape =
    let both = both_none (format_fault s.profile s.rate s.bits s.channels) _ shape in
    let size = (first_none (not (allows_block s.profile s.block_size s.rate)) _ _ both.1).0 in
    rw (both.0, size) refl

-- samples that can be pushed can be cut
plain_plan : (s : Shape) (total : ℕ) → shape_fault s ≡ None → total < 2 ^ 36 → blocks_in s.block_size total ≤ 2 ^ 31 → plan_fault (cut_stated s total 0) ≡ None
unfolding length_fault
plain_plan s total shape few blocks =
    let points : nat_lt 932067 (points_before s.block_size total 0 (blocks_in s.block_size total)) ≡ false = ap (nat_lt 932067) (none_before s.block_size total (blocks_in s.block_size total)) in
    stated_fault s total 0 shape ∙ rw (counts total (blocks_in s.block_size total) few blocks, points) refl

no_setup : (o : Option SetupFault) (more : Option EncodeFault) → option_or (option_map Setup o) more ≡ None → (o ≡ None) × (more ≡ None)
no_setup None more h = (refl, h)
no_setup (Some f) more h = absurd cc

-- a table that can be reserved
pub table_fits : (s : Shape) (list : List Block) (t : Table) → table_fault s list t ≡ None → 0 < t.every → (plan_fault (cut_stated s t.total t.every) ≡ None) × (has_table list ≡ false)
unfolding table_fault
table_fits s list t fits some =
    let asked : nat_eq t.every 0 ≡ false = grind (arith, nat_tests) in
    let rest : option_or (option_map Setup (plan_fault (cut_stated s t.total t.every))) (cond (has_table list) (Some RepeatedBlock) None) ≡ None =
    ap (λ c. cond c None (option_or (option_map Setup (plan_fault (cut_stated s t.total t.every))) (cond (has_table list) (Some RepeatedBlock) None))) (sym asked) ∙ fits in
    let two = no_setup (plan_fault (cut_stated s t.total t.every)) (cond (has_table list) (Some RepeatedBlock) None) rest in
    (two.0, (first_none (has_table list) RepeatedBlock None two.1).0)

-- no table is always fitting
pub none_fits : (s : Shape) (list : List Block) (t : Table) → t ≡ no_table → table_fault s list t ≡ None
unfolding table_fault
none_fits s list t is = ap (table_fault s list) is

-- what was stated is small, if it may be
pub total_small : (s : Shape) (list : List Block) (total every : ℕ) → begin_fault s list (table_for total every) ≡ None → 0 < every → total < 2 ^ 36
total_small s list total every fits some =
    let asked : nat_eq every 0 ≡ false = grind (arith, nat_tests) in
    let is : table_for total every ≡ record { total = total; every = every; points = []; bytes = 0 } = ap (λ c. cond c no_table (record { total = total; every = every; points = []; bytes = 0 })) asked in
    let table = (no_setup (shape_fault s) (table_fault s list (table_for total every)) fits).1 in
    (planned (cut_stated s total every) (table_fits s list (record { total = total; every = every; points = []; bytes = 0 }) (ap (table_fault s list) (sym is) ∙ table) some).0).total

setup_or : (o : Option SetupFault) (more : Option EncodeFault) → option_or (option_map Setup o) more ≡ Some Write → more ≡ Some Write
setup_or None more e = e
setup_or (Some f) more e = absurd cc

repeated_or : (b : Bool) → cond b (Some RepeatedBlock) None ≡ Some Write → ⊥
repeated_or true e = absurd cc
repeated_or false e = absurd cc

unasked_or : (b : Bool) (more : Option EncodeFault) → cond b None more ≡ Some Write → more ≡ Some Write
unasked_or true more e = absurd cc
unasked_or false more e = e

-- what is refused is no error of the target
pub never_written : {X : Type 0} (s : Shape) (list : List Block) (t : Table) (o : Option EncodeFault) (e : EncodeFault) → o ≡ begin_fault s list t → o ≡ Some e → e ≡ Write → X
unfolding table_fault
never_written s list t o e found is w =
    let first : begin_fault s list t ≡ Some Write = sym found ∙ is ∙ ap (λ k. Some k) w in
    let then : table_fault s list t ≡ Some Write = setup_or (shape_fault s) (table_fault s list t) first in
    let more = unasked_or (nat_eq t.every 0) _ then in
    absurd (repeated_or (has_table list) (setup_or (plan_fault (cut_stated s t.total t.every)) _ more))

-- there is no table, or the list has none
pub not_twice : (s : Shape) (list : List Block) (t : Table) → table_fault s list t ≡ None → (nat_lt 0 t.every && has_table list) ≡ false
not_twice s list t fits = elim (cases_lt 0 t.every) [
  | inl some ↦ let none = (table_fits s list t fits some).1 in rw none (never (nat_lt 0 t.every))
  | inr nil ↦ let none : nat_lt 0 t.every ≡ false = small t.every 0 (omega (arith, nil)) in rw none refl
]
  where
    never : (a : Bool) → (a && false) ≡ false
    never true = refl
    never false = refl

same_cut : (s : Shape) (samples : List (List ℤ)) (every : ℕ) → length samples ≡ s.channels → cut_in s.profile s.block_size (sound_of s samples) every ≡ cut_stated s (samples_each samples) every
same_cut s samples every many =
    ap (λ (n : ℕ). record { profile = s.profile; block_size = s.block_size; rate = s.rate; bits = s.bits; channels = n; total = samples_each samples; seek_every = every; predictors = []; found = [] }) many

pub planned_for : (s : Shape) (samples : List (List ℤ)) (list : List Block) (t : Table) → shape_fault s ≡ None → length samples ≡ s.channels → samples_each samples < 2 ^ 36 → blocks_in s.block_size (samples_each samples) ≤ 2 ^ 31
    → table_fault s list t ≡ None → (0 < t.every → samples_each samples ≡ t.total) → plan_fault (cut_in s.profile s.block_size (sound_of s samples) t.every) ≡ None
planned_for s samples list t shape many few blocks fits stated =
    let total = samples_each samples in
    let here : plan_fault (cut_stated s total t.every) ≡ None = elim (cases_lt 0 t.every) [
      | inl some ↦ subst (λ n. plan_fault (cut_stated s n t.every) ≡ None) (sym (stated some)) (table_fits s list t fits some).0
      | inr nil ↦ let none : 0 ≡ t.every = omega (arith, nil) in subst (λ n. plan_fault (cut_stated s total n) ≡ None) none (plain_plan s total shape few blocks)
    ] in
    ap plan_fault (same_cut s samples t.every many) ∙ here

same_self : (p : Profile) → same_profile p p ≡ true
same_self Subset = refl
same_self Lax = refl

eq_self : (n : ℕ) → nat_eq n n ≡ true
eq_self n = grind (arith, nat_tests)

pub fits_for : (s : Shape) (samples : List (List ℤ)) (every : ℕ) → fits_plan (cut_in s.profile s.block_size (sound_of s samples) every) (sound_of s samples) ≡ true
fits_for s samples every = rw (same_self s.profile, eq_self s.rate, eq_self s.bits, eq_self (length samples), eq_self (samples_each samples)) refl

-- ---- the place for the table

-- it may be written
pub place_may : (s : Shape) (list : List Block) (t : Table) → table_fault s list t ≡ None → block_fault (blocks.SeekTable (reserved s.block_size t)) ≡ None
place_may s list t fits =
    let count = points_before s.block_size t.total t.every (blocks_in s.block_size t.total) in
    let few : count ≤ 932067 = elim (cases_lt 0 t.every) [
      | inl some ↦ (planned (cut_stated s t.total t.every) (table_fits s list t fits some).0).points
      | inr nil ↦
          let none : t.every ≡ 0 = omega (arith, nil) in
          omega (arith, ap (λ n. points_before s.block_size t.total n (blocks_in s.block_size t.total)) none, none_before s.block_size t.total (blocks_in s.block_size t.total))
    ] in
    table_may (reserved s.block_size t) (omega (arith, few, length-replicate count vacant)) (vacant_order count)
