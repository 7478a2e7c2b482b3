-- The planes of a block, of which its subframes are made, and a list of linear predictors for each of them.
use Rattle.std.specs.Prelude.{ℕ, suc, cond, nat_eq, nat_lt, List, map, slice_index_or}
use Rattle.flac_subframe.specs.declared.format.linear.LinearPredictor.{LinearPredictor}
use Rattle.flac_subframe.specs.format.Handed.{AreWithin}
use Rattle.flac_frame.specs.declared.plane_predictors.PlanePredictors.{PlanePredictors}

-- Two channels have four planes: 0 is left, 1 right, 2 their side, 3 their middle (RFC 9639, section 4.2). Otherwise each
-- channel is a plane. This is the plane of a channel's subframe under a code: the codes below 8 store the channels, 8
-- left and side, 9 side and right, 10 middle and side (section 9.1.3).
abbrev pub plane_of : (code channel : ℕ) → ℕ
plane_of code channel =
    cond (nat_lt code 8) channel (cond (nat_eq code 8) (cond (nat_eq channel 0) 0 2) (cond (nat_eq code 9) (cond (nat_eq channel 0) 2 1) (cond (nat_eq channel 0) 3 2)))

-- a list of linear predictors for each plane
abbrev pub Lists : Type 0
Lists = ℕ → List LinearPredictor

-- one list for all
abbrev pub same_list : List LinearPredictor → Lists
same_list ps = λ plane. ps

-- those of the planes from the second on
abbrev pub later : Lists → Lists
later lists = λ plane. lists (suc plane)

-- the lists of the subframes under a code, one for each channel
abbrev pub lists_kept : ℕ → Lists → Lists
lists_kept code lists = λ channel. lists (plane_of code channel)

-- no order is above a limit
abbrev pub AreAllWithin : ℕ → Lists → Type 0
AreAllWithin limit lists = (plane : ℕ) → AreWithin limit (lists plane)

-- the lists that a program names
abbrev pub lists_of : PlanePredictors → Lists
lists_of p = λ plane. slice_index_or (map (λ list. list.items) p.lists.now) plane p.others.now
