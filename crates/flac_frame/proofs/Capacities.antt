-- Places enough, after calls that leave them.
use Rattle.std.proofs.Common.{◌≡◌, ◌∙◌, ap, subst, ℕ, ◌+◌, ◌*◌, ◌<◌, ◌≤◌, ◌^◌, arith, ℤ, List, length, Some}
use Rattle.std.proofs.Math.Nat.{pow-le-pow_right}
use Rattle.flac_header.specs.declared.subset.Profile.{Profile}
use Rattle.flac_subframe.specs.declared.format.limits.Limits.{Limits}
use Rattle.flac_subframe.specs.declared.format.linear.LinearPredictor.{LinearPredictor}
use Rattle.flac_subframe.specs.format.Chosen.{offered}
use Rattle.flac_subframe.specs.format.Family.{Stands}
use Rattle.flac_subframe.specs.format.Handed.{AreWithin}
use Rattle.flac_subframe.specs.format.Least.{IsLeast}
use Rattle.flac_subframe.specs.format.Spelling.{subframe_spelling, IsSubframe}
use Rattle.flac_subframe.specs.format.Subframe.{Form, samples_of}
use Rattle.flac_frame.specs.Frame.{limits_at}
use Rattle.flac_frame.specs.inner.Pair.{IsChosen}

-- as many are placed, in an array that is as long
pub room_for : (n m places before : ℕ) → n ≡ m → places ≡ before → m ≤ before → n ≤ places
room_for n m places before same kept le = omega arith

pub some_of : (n m : ℕ) → n ≡ m → 0 < m → 0 < n
some_of n m same lt = omega arith

pub few_of : (n m k : ℕ) → n ≤ m → m ≤ k → n ≤ k
few_of n m k p q = omega arith

-- the depths of a stream are among those of its subframes
pub below_33 : 32 ≤ 33
below_33 = omega arith

-- a number that is as large as one that is small
pub as_few : (n m k : ℕ) → n ≡ m → m ≤ k → n ≤ k
as_few n m k is le = omega arith

-- one of two, or of four, equal parts
pub half_of : (n all : ℕ) → 2 * n ≤ all → n ≤ all
half_of n all room = omega arith

pub quarter : (n all : ℕ) → 4 * n ≤ all → n ≤ all
quarter n all room = omega arith

pub other_half : (n all rest : ℕ) → 2 * n ≤ all → rest + n ≡ all → n ≤ rest
other_half n all rest room is = omega arith

-- an index of one of the choices
pub in_reach : (i n m k places : ℕ) → i < n → n ≡ m → m ≤ k → places ≡ k → i < places
in_reach i n m k places lt many few same = omega arith

-- places for the partitions of a greater order
pub codings_for : (n m places : ℕ) → n ≤ m → 2 ^ m ≤ places → 2 ^ n ≤ places
codings_for n m places le wide = let p : 2 ^ n ≤ 2 ^ m = pow-le-pow_right {n = 2} (omega arith) {i = n} {j = m} le in omega (arith, p, wide)

pub codings_still : (n before after : ℕ) → after ≡ before → n ≤ before → n ≤ after
codings_still n before after same le = omega arith

-- ---- the limits of samples

pub limits_are : (p q : Profile) (rate own : ℕ) (l : Limits) → l ≡ limits_at p rate → p ≡ q → rate ≡ own → l ≡ limits_at q own
limits_are p q rate own l is e f = is ∙ ap (λ k. limits_at k rate) e ∙ ap (limits_at q) f

pub partition_is : (p q : Profile) (rate own : ℕ) (l : Limits) → l ≡ limits_at p rate → p ≡ q → rate ≡ own → l.partition ≡ (limits_at q own).partition
partition_is p q rate own l is e f = ap (λ (k : Limits). k.partition) (limits_are p q rate own l is e f)

pub chosen_of : (most : ℕ) (ps : List LinearPredictor) (depth : ℕ) (s : List ℤ) (f : Form) (bits : ℕ) (l : Limits) → l.partition ≡ most
    → IsLeast (λ g. Stands l.partition (offered ps) g s) (λ g. length (subframe_spelling depth g)) f → bits ≡ length (subframe_spelling depth f)
    → ((limits : Limits) → l.partition ≤ limits.partition → AreWithin limits.linear ps → IsSubframe depth (length s) limits f) → samples_of depth (length s) f ≡ Some s → IsChosen most ps depth s f bits
chosen_of most ps depth s f bits l is least cost valid samples = record {
  least = subst (λ n. IsLeast (λ g. Stands n (offered ps) g s) (λ g. length (subframe_spelling depth g)) f) is least;
  cost = cost;
  valid = λ limits le. valid limits (omega (arith, le, is));
  samples = samples;
}
