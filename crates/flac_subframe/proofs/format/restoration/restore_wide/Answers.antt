use Rattle.std.proofs.Common.{◌≡◌, ◌∙◌, ◌+◌, ◌≤◌, ℕ, ℤ, List, All, length, ap, arith, refl, sym}
use Rattle.std.proofs.lemmas.List.{length-take-le}
use Rattle.flac_bits.specs.Signed.{FitsBits}
use Rattle.flac_subframe.proofs.format.restoration.restore_wide.Goals as goal

within : (n more : ℕ) → n + more ≡ 12 → n ≤ 12
within n more e = omega arith

all_small : (a b : List ℤ) → a ≡ b → All (FitsBits 15) b → All (FitsBits 15) a
all_small a b e h = rw e h

pub slice_bounds-places-end : goal.slice_bounds-places-end
slice_bounds-places-end c = c.requires.few

pub slice_bounds-factors-end : goal.slice_bounds-factors-end
slice_bounds-factors-end c = sym (length-take-le _ _ c.requires.few)

pub copy_coefficients-requires : goal.copy_coefficients-requires
copy_coefficients-requires c = length-take-le _ _ c.requires.few

pub restore_summed-requires : goal.restore_summed-requires
restore_summed-requires c = record {
  some = rw c.in-1.is at c.requires.some;
  few = within 1 11 refl;
  order = ap length c.copy_coefficients.ensures ∙ c.in-1.is;
  small = all_small _ _ c.copy_coefficients.ensures c.requires.small;
  shift = c.requires.shift;
  enough = rw c.in-1.is at c.requires.enough;
  positive = c.requires.positive;
  bits = c.requires.bits;
  warm_up = rw c.in-1.is at c.requires.warm_up;
  residual = rw c.in-1.is at c.requires.residual;
}

pub restore_summed-requires-in-2 : goal.restore_summed-requires-in-2
restore_summed-requires-in-2 c = record {
  some = rw c.in-2.is at c.requires.some;
  few = within 2 10 refl;
  order = ap length c.copy_coefficients.ensures ∙ c.in-2.is;
  small = all_small _ _ c.copy_coefficients.ensures c.requires.small;
  shift = c.requires.shift;
  enough = rw c.in-2.is at c.requires.enough;
  positive = c.requires.positive;
  bits = c.requires.bits;
  warm_up = rw c.in-2.is at c.requires.warm_up;
  residual = rw c.in-2.is at c.requires.residual;
}

pub restore_summed-requires-in-3 : goal.restore_summed-requires-in-3
restore_summed-requires-in-3 c = record {
  some = rw c.in-3.is at c.requires.some;
  few = within 3 9 refl;
  order = ap length c.copy_coefficients.ensures ∙ c.in-3.is;
  small = all_small _ _ c.copy_coefficients.ensures c.requires.small;
  shift = c.requires.shift;
  enough = rw c.in-3.is at c.requires.enough;
  positive = c.requires.positive;
  bits = c.requires.bits;
  warm_up = rw c.in-3.is at c.requires.warm_up;
  residual = rw c.in-3.is at c.requires.residual;
}

pub restore_summed-requires-in-4 : goal.restore_summed-requires-in-4
restore_summed-requires-in-4 c = record {
  some = rw c.in-4.is at c.requires.some;
  few = within 4 8 refl;
  order = ap length c.copy_coefficients.ensures ∙ c.in-4.is;
  small = all_small _ _ c.copy_coefficients.ensures c.requires.small;
  shift = c.requires.shift;
  enough = rw c.in-4.is at c.requires.enough;
  positive = c.requires.positive;
  bits = c.requires.bits;
  warm_up = rw c.in-4.is at c.requires.warm_up;
  residual = rw c.in-4.is at c.requires.residual;
}

pub restore_summed-requires-in-5 : goal.restore_summed-requires-in-5
restore_summed-requires-in-5 c = record {
  some = rw c.in-5.is at c.requires.some;
  few = within 5 7 refl;
  order = ap length c.copy_coefficients.ensures ∙ c.in-5.is;
  small = all_small _ _ c.copy_coefficients.ensures c.requires.small;
  shift = c.requires.shift;
  enough = rw c.in-5.is at c.requires.enough;
  positive = c.requires.positive;
  bits = c.requires.bits;
  warm_up = rw c.in-5.is at c.requires.warm_up;
  residual = rw c.in-5.is at c.requires.residual;
}

pub restore_summed-requires-in-6 : goal.restore_summed-requires-in-6
restore_summed-requires-in-6 c = record {
  some = rw c.in-6.is at c.requires.some;
  few = within 6 6 refl;
  order = ap length c.copy_coefficients.ensures ∙ c.in-6.is;
  small = all_small _ _ c.copy_coefficients.ensures c.requires.small;
  shift = c.requires.shift;
  enough = rw c.in-6.is at c.requires.enough;
  positive = c.requires.positive;
  bits = c.requires.bits;
  warm_up = rw c.in-6.is at c.requires.warm_up;
  residual = rw c.in-6.is at c.requires.residual;
}

pub restore_summed-requires-in-7 : goal.restore_summed-requires-in-7
restore_summed-requires-in-7 c = record {
  some = rw c.in-7.is at c.requires.some;
  few = within 7 5 refl;
  order = ap length c.copy_coefficients.ensures ∙ c.in-7.is;
  small = all_small _ _ c.copy_coefficients.ensures c.requires.small;
  shift = c.requires.shift;
  enough = rw c.in-7.is at c.requires.enough;
  positive = c.requires.positive;
  bits = c.requires.bits;
  warm_up = rw c.in-7.is at c.requires.warm_up;
  residual = rw c.in-7.is at c.requires.residual;
}

pub restore_summed-requires-in-8 : goal.restore_summed-requires-in-8
restore_summed-requires-in-8 c = record {
  some = rw c.in-8.is at c.requires.some;
  few = within 8 4 refl;
  order = ap length c.copy_coefficients.ensures ∙ c.in-8.is;
  small = all_small _ _ c.copy_coefficients.ensures c.requires.small;
  shift = c.requires.shift;
  enough = rw c.in-8.is at c.requires.enough;
  positive = c.requires.positive;
  bits = c.requires.bits;
  warm_up = rw c.in-8.is at c.requires.warm_up;
  residual = rw c.in-8.is at c.requires.residual;
}

pub restore_summed-requires-in-9 : goal.restore_summed-requires-in-9
restore_summed-requires-in-9 c = record {
  some = rw c.in-9.is at c.requires.some;
  few = within 9 3 refl;
  order = ap length c.copy_coefficients.ensures ∙ c.in-9.is;
  small = all_small _ _ c.copy_coefficients.ensures c.requires.small;
  shift = c.requires.shift;
  enough = rw c.in-9.is at c.requires.enough;
  positive = c.requires.positive;
  bits = c.requires.bits;
  warm_up = rw c.in-9.is at c.requires.warm_up;
  residual = rw c.in-9.is at c.requires.residual;
}

pub restore_summed-requires-in-10 : goal.restore_summed-requires-in-10
restore_summed-requires-in-10 c = record {
  some = rw c.in-10.is at c.requires.some;
  few = within 10 2 refl;
  order = ap length c.copy_coefficients.ensures ∙ c.in-10.is;
  small = all_small _ _ c.copy_coefficients.ensures c.requires.small;
  shift = c.requires.shift;
  enough = rw c.in-10.is at c.requires.enough;
  positive = c.requires.positive;
  bits = c.requires.bits;
  warm_up = rw c.in-10.is at c.requires.warm_up;
  residual = rw c.in-10.is at c.requires.residual;
}

pub restore_summed-requires-in-11 : goal.restore_summed-requires-in-11
restore_summed-requires-in-11 c = record {
  some = rw c.in-11.is at c.requires.some;
  few = within 11 1 refl;
  order = ap length c.copy_coefficients.ensures ∙ c.in-11.is;
  small = all_small _ _ c.copy_coefficients.ensures c.requires.small;
  shift = c.requires.shift;
  enough = rw c.in-11.is at c.requires.enough;
  positive = c.requires.positive;
  bits = c.requires.bits;
  warm_up = rw c.in-11.is at c.requires.warm_up;
  residual = rw c.in-11.is at c.requires.residual;
}

pub restore_summed-requires-in-12 : goal.restore_summed-requires-in-12
restore_summed-requires-in-12 c = record {
  some = rw c.in-12.is at c.requires.some;
  few = within 12 0 refl;
  order = ap length c.copy_coefficients.ensures ∙ c.in-12.is;
  small = all_small _ _ c.copy_coefficients.ensures c.requires.small;
  shift = c.requires.shift;
  enough = rw c.in-12.is at c.requires.enough;
  positive = c.requires.positive;
  bits = c.requires.bits;
  warm_up = rw c.in-12.is at c.requires.warm_up;
  residual = rw c.in-12.is at c.requires.residual;
}

pub returns-in-1 : goal.returns-in-1
returns-in-1 c = let e = c.restore_summed.ensures in let same = c.copy_coefficients.ensures in record { restored = rw same at e.restored; fits = e.fits; only = rw same at e.only }

pub returns-in-2 : goal.returns-in-2
returns-in-2 c = let e = c.restore_summed-in-2.ensures in let same = c.copy_coefficients.ensures in record { restored = rw same at e.restored; fits = e.fits; only = rw same at e.only }

pub returns-in-3 : goal.returns-in-3
returns-in-3 c = let e = c.restore_summed-in-3.ensures in let same = c.copy_coefficients.ensures in record { restored = rw same at e.restored; fits = e.fits; only = rw same at e.only }

pub returns-in-4 : goal.returns-in-4
returns-in-4 c = let e = c.restore_summed-in-4.ensures in let same = c.copy_coefficients.ensures in record { restored = rw same at e.restored; fits = e.fits; only = rw same at e.only }

pub returns-in-5 : goal.returns-in-5
returns-in-5 c = let e = c.restore_summed-in-5.ensures in let same = c.copy_coefficients.ensures in record { restored = rw same at e.restored; fits = e.fits; only = rw same at e.only }

pub returns-in-6 : goal.returns-in-6
returns-in-6 c = let e = c.restore_summed-in-6.ensures in let same = c.copy_coefficients.ensures in record { restored = rw same at e.restored; fits = e.fits; only = rw same at e.only }

pub returns-in-7 : goal.returns-in-7
returns-in-7 c = let e = c.restore_summed-in-7.ensures in let same = c.copy_coefficients.ensures in record { restored = rw same at e.restored; fits = e.fits; only = rw same at e.only }

pub returns-in-8 : goal.returns-in-8
returns-in-8 c = let e = c.restore_summed-in-8.ensures in let same = c.copy_coefficients.ensures in record { restored = rw same at e.restored; fits = e.fits; only = rw same at e.only }

pub returns-in-9 : goal.returns-in-9
returns-in-9 c = let e = c.restore_summed-in-9.ensures in let same = c.copy_coefficients.ensures in record { restored = rw same at e.restored; fits = e.fits; only = rw same at e.only }

pub returns-in-10 : goal.returns-in-10
returns-in-10 c = let e = c.restore_summed-in-10.ensures in let same = c.copy_coefficients.ensures in record { restored = rw same at e.restored; fits = e.fits; only = rw same at e.only }

pub returns-in-11 : goal.returns-in-11
returns-in-11 c = let e = c.restore_summed-in-11.ensures in let same = c.copy_coefficients.ensures in record { restored = rw same at e.restored; fits = e.fits; only = rw same at e.only }

pub returns-in-12 : goal.returns-in-12
returns-in-12 c = let e = c.restore_summed-in-12.ensures in let same = c.copy_coefficients.ensures in record { restored = rw same at e.restored; fits = e.fits; only = rw same at e.only }

pub returns-in_default : goal.returns-in_default
returns-in_default c = let e = c.restore_by.ensures in let same = c.copy_coefficients.ensures in record { restored = rw same at e.restored; fits = e.fits; only = rw same at e.only }

pub restore_by-requires : goal.restore_by-requires
restore_by-requires c = record {
  some = c.requires.some;
  few = c.requires.few;
  order = ap length c.copy_coefficients.ensures;
  small = all_small _ _ c.copy_coefficients.ensures c.requires.small;
  shift = c.requires.shift;
  enough = c.requires.enough;
  positive = c.requires.positive;
  bits = c.requires.bits;
  warm_up = c.requires.warm_up;
  residual = c.requires.residual;
}
