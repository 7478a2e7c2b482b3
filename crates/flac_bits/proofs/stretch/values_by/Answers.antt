use Rattle.flac_bits.proofs.Stretches.{few_here}
use Rattle.flac_bits.proofs.stretch.values_by.Goals as goal

pub values_of-requires : goal.values_of-requires
values_of-requires c = record { k = few_here c.args.k 0 c.in-0.is c.requires.k; from = c.requires.from }

pub returns-in-0 : goal.returns-in-0
returns-in-0 c = rw c.in-0.is c.values_of.ensures

pub values_of-requires-in-1 : goal.values_of-requires-in-1
values_of-requires-in-1 c = record { k = few_here c.args.k 1 c.in-1.is c.requires.k; from = c.requires.from }

pub returns-in-1 : goal.returns-in-1
returns-in-1 c = rw c.in-1.is c.values_of-in-1.ensures

pub values_of-requires-in-2 : goal.values_of-requires-in-2
values_of-requires-in-2 c = record { k = few_here c.args.k 2 c.in-2.is c.requires.k; from = c.requires.from }

pub returns-in-2 : goal.returns-in-2
returns-in-2 c = rw c.in-2.is c.values_of-in-2.ensures

pub values_of-requires-in-3 : goal.values_of-requires-in-3
values_of-requires-in-3 c = record { k = few_here c.args.k 3 c.in-3.is c.requires.k; from = c.requires.from }

pub returns-in-3 : goal.returns-in-3
returns-in-3 c = rw c.in-3.is c.values_of-in-3.ensures

pub values_of-requires-in-4 : goal.values_of-requires-in-4
values_of-requires-in-4 c = record { k = few_here c.args.k 4 c.in-4.is c.requires.k; from = c.requires.from }

pub returns-in-4 : goal.returns-in-4
returns-in-4 c = rw c.in-4.is c.values_of-in-4.ensures

pub values_of-requires-in-5 : goal.values_of-requires-in-5
values_of-requires-in-5 c = record { k = few_here c.args.k 5 c.in-5.is c.requires.k; from = c.requires.from }

pub returns-in-5 : goal.returns-in-5
returns-in-5 c = rw c.in-5.is c.values_of-in-5.ensures

pub values_of-requires-in-6 : goal.values_of-requires-in-6
values_of-requires-in-6 c = record { k = few_here c.args.k 6 c.in-6.is c.requires.k; from = c.requires.from }

pub returns-in-6 : goal.returns-in-6
returns-in-6 c = rw c.in-6.is c.values_of-in-6.ensures

pub values_of-requires-in-7 : goal.values_of-requires-in-7
values_of-requires-in-7 c = record { k = few_here c.args.k 7 c.in-7.is c.requires.k; from = c.requires.from }

pub returns-in-7 : goal.returns-in-7
returns-in-7 c = rw c.in-7.is c.values_of-in-7.ensures

pub values_of-requires-in-8 : goal.values_of-requires-in-8
values_of-requires-in-8 c = record { k = few_here c.args.k 8 c.in-8.is c.requires.k; from = c.requires.from }

pub returns-in-8 : goal.returns-in-8
returns-in-8 c = rw c.in-8.is c.values_of-in-8.ensures

pub values_of-requires-in-9 : goal.values_of-requires-in-9
values_of-requires-in-9 c = record { k = few_here c.args.k 9 c.in-9.is c.requires.k; from = c.requires.from }

pub returns-in-9 : goal.returns-in-9
returns-in-9 c = rw c.in-9.is c.values_of-in-9.ensures

pub values_of-requires-in-10 : goal.values_of-requires-in-10
values_of-requires-in-10 c = record { k = few_here c.args.k 10 c.in-10.is c.requires.k; from = c.requires.from }

pub returns-in-10 : goal.returns-in-10
returns-in-10 c = rw c.in-10.is c.values_of-in-10.ensures

pub values_of-requires-in-11 : goal.values_of-requires-in-11
values_of-requires-in-11 c = record { k = few_here c.args.k 11 c.in-11.is c.requires.k; from = c.requires.from }

pub returns-in-11 : goal.returns-in-11
returns-in-11 c = rw c.in-11.is c.values_of-in-11.ensures

pub values_of-requires-in-12 : goal.values_of-requires-in-12
values_of-requires-in-12 c = record { k = few_here c.args.k 12 c.in-12.is c.requires.k; from = c.requires.from }

pub returns-in-12 : goal.returns-in-12
returns-in-12 c = rw c.in-12.is c.values_of-in-12.ensures

pub values_of-requires-in-13 : goal.values_of-requires-in-13
values_of-requires-in-13 c = record { k = few_here c.args.k 13 c.in-13.is c.requires.k; from = c.requires.from }

pub returns-in-13 : goal.returns-in-13
returns-in-13 c = rw c.in-13.is c.values_of-in-13.ensures

pub values_of-requires-in-14 : goal.values_of-requires-in-14
values_of-requires-in-14 c = record { k = few_here c.args.k 14 c.in-14.is c.requires.k; from = c.requires.from }

pub returns-in-14 : goal.returns-in-14
returns-in-14 c = rw c.in-14.is c.values_of-in-14.ensures

pub values_of-requires-in-15 : goal.values_of-requires-in-15
values_of-requires-in-15 c = record { k = few_here c.args.k 15 c.in-15.is c.requires.k; from = c.requires.from }

pub returns-in-15 : goal.returns-in-15
returns-in-15 c = rw c.in-15.is c.values_of-in-15.ensures

pub values_of-requires-in-16 : goal.values_of-requires-in-16
values_of-requires-in-16 c = record { k = few_here c.args.k 16 c.in-16.is c.requires.k; from = c.requires.from }

pub returns-in-16 : goal.returns-in-16
returns-in-16 c = rw c.in-16.is c.values_of-in-16.ensures

pub values_of-requires-in_default : goal.values_of-requires-in_default
values_of-requires-in_default c = c.requires

pub returns-in_default : goal.returns-in_default
returns-in_default c = c.values_of-in_default.ensures
