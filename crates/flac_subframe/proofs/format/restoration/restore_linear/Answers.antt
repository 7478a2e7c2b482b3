use Rattle.std.proofs.Common.{◌≡◌, ◌+◌, ◌≤◌, ℕ, arith, refl}
use Rattle.flac_subframe.proofs.format.restoration.restore_linear.Goals as goal

within : (n more : ℕ) → n + more ≡ 12 → n ≤ 12
within n more e = omega arith

pub restore_packed-requires : goal.restore_packed-requires
restore_packed-requires c = record {
  some = rw c.in-5.is at c.requires.some;
  few = within 5 7 refl;
  order = c.in-5.is;
  small = c.requires.small;
  narrow = c.are_narrow.ensures c.if-not-are_narrow.false;
  shift = c.requires.shift;
  enough = rw c.in-5.is at c.requires.enough;
  positive = c.requires.positive;
  bits = c.requires.bits;
  warm_up = rw c.in-5.is at c.requires.warm_up;
  residual = rw c.in-5.is at c.requires.residual;
}

pub returns-in-5 : goal.returns-in-5
returns-in-5 c = c.restore_packed.ensures

pub restore_packed-requires-in-6 : goal.restore_packed-requires-in-6
restore_packed-requires-in-6 c = record {
  some = rw c.in-6.is at c.requires.some;
  few = within 6 6 refl;
  order = c.in-6.is;
  small = c.requires.small;
  narrow = c.are_narrow.ensures c.if-not-are_narrow.false;
  shift = c.requires.shift;
  enough = rw c.in-6.is at c.requires.enough;
  positive = c.requires.positive;
  bits = c.requires.bits;
  warm_up = rw c.in-6.is at c.requires.warm_up;
  residual = rw c.in-6.is at c.requires.residual;
}

pub returns-in-6 : goal.returns-in-6
returns-in-6 c = c.restore_packed-in-6.ensures

pub restore_packed-requires-in-7 : goal.restore_packed-requires-in-7
restore_packed-requires-in-7 c = record {
  some = rw c.in-7.is at c.requires.some;
  few = within 7 5 refl;
  order = c.in-7.is;
  small = c.requires.small;
  narrow = c.are_narrow.ensures c.if-not-are_narrow.false;
  shift = c.requires.shift;
  enough = rw c.in-7.is at c.requires.enough;
  positive = c.requires.positive;
  bits = c.requires.bits;
  warm_up = rw c.in-7.is at c.requires.warm_up;
  residual = rw c.in-7.is at c.requires.residual;
}

pub returns-in-7 : goal.returns-in-7
returns-in-7 c = c.restore_packed-in-7.ensures

pub restore_packed-requires-in-8 : goal.restore_packed-requires-in-8
restore_packed-requires-in-8 c = record {
  some = rw c.in-8.is at c.requires.some;
  few = within 8 4 refl;
  order = c.in-8.is;
  small = c.requires.small;
  narrow = c.are_narrow.ensures c.if-not-are_narrow.false;
  shift = c.requires.shift;
  enough = rw c.in-8.is at c.requires.enough;
  positive = c.requires.positive;
  bits = c.requires.bits;
  warm_up = rw c.in-8.is at c.requires.warm_up;
  residual = rw c.in-8.is at c.requires.residual;
}

pub returns-in-8 : goal.returns-in-8
returns-in-8 c = c.restore_packed-in-8.ensures

pub restore_packed-requires-in-9 : goal.restore_packed-requires-in-9
restore_packed-requires-in-9 c = record {
  some = rw c.in-9.is at c.requires.some;
  few = within 9 3 refl;
  order = c.in-9.is;
  small = c.requires.small;
  narrow = c.are_narrow.ensures c.if-not-are_narrow.false;
  shift = c.requires.shift;
  enough = rw c.in-9.is at c.requires.enough;
  positive = c.requires.positive;
  bits = c.requires.bits;
  warm_up = rw c.in-9.is at c.requires.warm_up;
  residual = rw c.in-9.is at c.requires.residual;
}

pub returns-in-9 : goal.returns-in-9
returns-in-9 c = c.restore_packed-in-9.ensures

pub restore_packed-requires-in-10 : goal.restore_packed-requires-in-10
restore_packed-requires-in-10 c = record {
  some = rw c.in-10.is at c.requires.some;
  few = within 10 2 refl;
  order = c.in-10.is;
  small = c.requires.small;
  narrow = c.are_narrow.ensures c.if-not-are_narrow.false;
  shift = c.requires.shift;
  enough = rw c.in-10.is at c.requires.enough;
  positive = c.requires.positive;
  bits = c.requires.bits;
  warm_up = rw c.in-10.is at c.requires.warm_up;
  residual = rw c.in-10.is at c.requires.residual;
}

pub returns-in-10 : goal.returns-in-10
returns-in-10 c = c.restore_packed-in-10.ensures

pub restore_packed-requires-in-11 : goal.restore_packed-requires-in-11
restore_packed-requires-in-11 c = record {
  some = rw c.in-11.is at c.requires.some;
  few = within 11 1 refl;
  order = c.in-11.is;
  small = c.requires.small;
  narrow = c.are_narrow.ensures c.if-not-are_narrow.false;
  shift = c.requires.shift;
  enough = rw c.in-11.is at c.requires.enough;
  positive = c.requires.positive;
  bits = c.requires.bits;
  warm_up = rw c.in-11.is at c.requires.warm_up;
  residual = rw c.in-11.is at c.requires.residual;
}

pub returns-in-11 : goal.returns-in-11
returns-in-11 c = c.restore_packed-in-11.ensures

pub restore_packed-requires-in-12 : goal.restore_packed-requires-in-12
restore_packed-requires-in-12 c = record {
  some = rw c.in-12.is at c.requires.some;
  few = within 12 0 refl;
  order = c.in-12.is;
  small = c.requires.small;
  narrow = c.are_narrow.ensures c.if-not-are_narrow.false;
  shift = c.requires.shift;
  enough = rw c.in-12.is at c.requires.enough;
  positive = c.requires.positive;
  bits = c.requires.bits;
  warm_up = rw c.in-12.is at c.requires.warm_up;
  residual = rw c.in-12.is at c.requires.residual;
}

pub returns-in-12 : goal.returns-in-12
returns-in-12 c = c.restore_packed-in-12.ensures
