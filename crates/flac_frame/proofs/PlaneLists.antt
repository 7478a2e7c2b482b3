-- The lists of the planes from one on.
use Rattle.std.proofs.Common.{◌≡◌, ◌∙◌, sym, ap, subst, inl, inr, ℕ, suc, ◌+◌, ◌<◌, ◌≤◌, arith, List, Vec, Global, length, map, get_or, take, All}
use Rattle.std.proofs.Math.ListN.{get_or-eq_default}
use Rattle.std.proofs.Math.Path.{fun_ext}
use Rattle.std.proofs.lemmas.Bool.{cases_lt}
use Rattle.std.proofs.lemmas.List.{get_or-map, length-map, take_all}
use Rattle.std.proofs.lemmas.List.Elements.{All-map}
use Rattle.flac_subframe.specs.declared.format.linear.LinearPredictor.{LinearPredictor}
use Rattle.flac_subframe.specs.format.Handed.{AreWithin}
use Rattle.flac_frame.specs.PlaneLists.{Lists, later}

abbrev pub from_plane : ℕ → Lists → Lists
from_plane i lists = λ plane. lists (i + plane)

next_plane : (i k : ℕ) → i + suc k ≡ i + 1 + k
next_plane i k = omega arith

-- the first of them, and those after it
pub first_from : (i : ℕ) (lists : Lists) → from_plane i lists 0 ≡ lists i
first_from i lists = ap lists (omega arith)

pub later_from : (i : ℕ) (lists : Lists) → later (from_plane i lists) ≡ from_plane (i + 1) lists
later_from i lists = fun_ext (λ k. ap lists (next_plane i k))

pub none_from : (lists : Lists) → from_plane 0 lists ≡ lists
none_from lists = fun_ext (λ k. ap lists (omega arith))

-- ---- lists that a program names

abbrev pub list_at : List (Vec LinearPredictor Global) → List LinearPredictor → ℕ → List LinearPredictor
list_at lists others plane = get_or (map (λ v. v.items) lists) plane others

pub list_in : (lists : List (Vec LinearPredictor Global)) (others : List LinearPredictor) (i : ℕ) (v : Vec LinearPredictor Global) → i < length lists → v ≡ get_or lists i v → list_at lists others i ≡ v.items
list_in lists others i v lt is = get_or-map (λ v. v.items) lists i v others lt ∙ ap (λ (w : Vec LinearPredictor Global). w.items) (sym is)

pub list_past : (lists : List (Vec LinearPredictor Global)) (others : List LinearPredictor) (i : ℕ) → length lists ≤ i → list_at lists others i ≡ others
list_past lists others i over = get_or-eq_default (map (λ v. v.items) lists) others (omega (arith, over, length-map lists (λ v. v.items)))

module _ (limit : ℕ) (lists : List (Vec LinearPredictor Global)) (others : List LinearPredictor) where
  abbrev Within : Vec LinearPredictor Global → Type 0
  Within v = AreWithin limit v.items

  pub all_lists : (i : ℕ) → length lists ≤ i → All Within (take i lists) → AreWithin limit others → (plane : ℕ) → AreWithin limit (list_at lists others plane)
  all_lists i over all rest plane = elim (cases_lt plane (length lists)) [
    | inl lt ↦ All-map (AreWithin limit) (λ v. v.items) lists (subst (All Within) (take_all i lists over) all) plane others (omega (arith, lt, length-map lists (λ v. v.items)))
    | inr past ↦ subst (AreWithin limit) (sym (list_past lists others plane past)) rest
  ]

  pub rest_within : ((plane : ℕ) → AreWithin limit (list_at lists others plane)) → AreWithin limit others
  rest_within all = subst (AreWithin limit) (list_past lists others (length lists) (omega arith)) (all (length lists))

  pub one_within : ((plane : ℕ) → AreWithin limit (list_at lists others plane)) → (i : ℕ) (v : Vec LinearPredictor Global) → i < length lists → v ≡ get_or lists i v → AreWithin limit v.items
  one_within all i v lt is = subst (AreWithin limit) (list_in lists others i v lt is) (all i)
