-- For proofs of the search: what is said of the residual that is searched, and of the samples.
use Rattle.std.specs.Prelude.{ℕ, ℤ, ◌≡◌, ◌+◌, ◌-◌, ◌*◌, ◌/◌, ◌^◌, ◌<◌, ◌≤◌, List, [], ◌∷◌, ◌++◌, length, map, take, slice_index, min, vec_len, ◌⊎◌}
use Rattle.std.specs.List.{sum_by}
use Rattle.flac_subframe.specs.declared.format.coding.Coding.{Coding}
use Rattle.flac_subframe.specs.declared.format.coding_method.CodingMethod.{CodingMethod}
use Rattle.flac_subframe.specs.declared.format.content.PredictorKind.{PredictorKind}
use Rattle.flac_subframe.specs.declared.format.content.SubframeForm.{SubframeForm}
use Rattle.flac_subframe.specs.declared.format.linear.LinearPredictor.{LinearPredictor}
use Rattle.flac_subframe.specs.declared.format.residual_form.ResidualForm.{ResidualForm}
use Rattle.flac_subframe.specs.declared.search.choice.Best.{Best}
use Rattle.flac_subframe.specs.declared.search.choice.Found.{Found}
use Rattle.flac_subframe.specs.declared.search.tables.Tables.{Tables}
use Rattle.flac_subframe.specs.declared.search.view.ResidualView.{ResidualView}
use Rattle.flac_subframe.specs.declared.search.view.SampleView.{SampleView}
use Rattle.flac_subframe.specs.declared.search.view.Task.{Task}
use Rattle.flac_subframe.specs.declared.search.wide_choice.WideChoice.{WideChoice}
use Rattle.flac_subframe.specs.format.Bodies.{Chooses, differences}
use Rattle.flac_subframe.specs.format.Chosen.{offered, predictor_named}
use Rattle.flac_subframe.specs.format.Cost.{Codings, MayWrite, coding_of, codings_in, parameter_bits_of}
use Rattle.flac_subframe.specs.format.Family.{IsMadeAs, form_as}
use Rattle.flac_subframe.specs.format.Handed.{coefficients_in}
use Rattle.flac_subframe.specs.format.Least.{IsLeast}
use Rattle.flac_subframe.specs.format.Subframe.{Form}
use Rattle.flac_subframe.specs.format.inner.Cost.{ByMethod, HalvedTo, Partitioned, partitions_cost, residual_cost, value_cost}
use Rattle.flac_subframe.specs.search.inner.Chosen.{IsBest, residual_by, way_of}
use Rattle.flac_subframe.specs.search.inner.Entry.{entry_number}
use Rattle.flac_subframe.specs.search.inner.Least.{IsLeastCost}
use Rattle.flac_subframe.specs.search.inner.Halves.{HasEntries, HasWidths, IsWidth, entry, part}
use Rattle.flac_subframe.specs.search.Choices.{IsMadeIn, IsShortest, for_each, form_in}

-- ---- the residual

-- it may have these codings, with a partition order up to the greatest that is searched
abbrev pub MayHave : ResidualView → Codings → Type 0
MayHave r = MayWrite r.partition_order r.order r.values.now

-- the same up to another partition order
abbrev pub MayHaveTo : ResidualView → ℕ → Codings → Type 0
MayHaveTo r most = MayWrite most r.order r.values.now

-- of one method, and of one partition order too
abbrev pub MayHaveBy : ResidualView → CodingMethod → Codings → Type 0
MayHaveBy r m = ByMethod (parameter_bits_of m) r.partition_order r.order r.values.now

abbrev pub MayHaveAt : ResidualView → CodingMethod → ℕ → Codings → Type 0
MayHaveAt r m p = HalvedTo (parameter_bits_of m) p r.partition_order r.order r.values.now

-- how many bits it takes under codings
abbrev pub bits_under : ResidualView → Codings → ℕ
bits_under r = residual_cost r.order r.values.now

-- under no codings that it may have does it take less
abbrev pub TakesAtLeast : ResidualView → ℕ → Type 0
TakesAtLeast r n = (f : Codings) → MayHave r f → n ≤ bits_under r f

-- the same beside 6 bits of the header and 4 of each parameter
abbrev pub TakesAtLeastBeside : ResidualView → ℕ → Type 0
TakesAtLeastBeside r n = (f : Codings) → MayHave r f → n + (6 + 4 * 2 ^ f.partition_order) ≤ bits_under r f

-- the same up to another partition order, of those of one, and of those above it
abbrev pub TakesAtLeastTo : ResidualView → ℕ → ℕ → Type 0
TakesAtLeastTo r most n = (f : Codings) → MayHaveTo r most f → n ≤ bits_under r f

abbrev pub TakesAtLeastAt : ResidualView → ℕ → ℕ → Type 0
TakesAtLeastAt r p n = (f : Codings) → MayHave r f → f.partition_order ≡ p → n ≤ bits_under r f

abbrev pub TakesAtLeastAbove : ResidualView → ℕ → ℕ → Type 0
TakesAtLeastAbove r p n = (f : Codings) → MayHave r f → p < f.partition_order → n ≤ bits_under r f

-- n bits of the values take at least, at the finest order, with 6 of the header and 4 of each parameter
abbrev pub TakesAtLeastFinest : ResidualView → ℕ → Type 0
TakesAtLeastFinest r n = TakesAtLeastAt r r.partition_order (n + (6 + 4 * 2 ^ r.partition_order))

-- the codings of a form are the shortest of its method and partition order
abbrev pub IsShortestAt : ResidualView → ResidualForm → List ℕ → Type 0
IsShortestAt r f bytes = IsLeast (MayHaveAt r f.method f.partition_order) (bits_under r) (codings_in f bytes)

abbrev pub IsShortestTo : ResidualView → ℕ → ResidualForm → Tables → Type 0
IsShortestTo r most f t = IsLeast (MayHaveTo r most) (bits_under r) (codings_in f t.codings.now)

-- the codings of a form, whose bytes the tables have, are the shortest
abbrev pub IsShortestIn : ResidualView → ResidualForm → Tables → Type 0
IsShortestIn r f t = IsLeast (MayHave r) (bits_under r) (codings_in f t.codings.now)

-- how many samples a partition has at a partition order
abbrev pub part_size : ResidualView → ℕ → ℕ
part_size r p = (length r.values.now + r.order) / 2 ^ p

-- a coding for each partition, and the bits of them all
abbrev pub MayCodeParts : ResidualView → CodingMethod → ℕ → List Coding → Type 0
MayCodeParts r m p = Partitioned (parameter_bits_of m) (part_size r p - r.order) (part_size r p) (2 ^ p) r.values.now

abbrev pub parts_cost : ResidualView → CodingMethod → ℕ → List Coding → ℕ
parts_cost r m p = partitions_cost (parameter_bits_of m) (part_size r p - r.order) (part_size r p) r.values.now

-- the least cost of one method and partition order, whatever the codings; the bits under the codings of bytes
abbrev pub IsLeastPartsCost : ResidualView → CodingMethod → ℕ → ℕ → Type 0
IsLeastPartsCost r m p n = IsLeastCost (MayCodeParts r m p) (parts_cost r m p) n

abbrev pub IsLeastCostAt : ResidualView → CodingMethod → ℕ → ℕ → Type 0
IsLeastCostAt r m p n = IsLeastCost (MayHaveAt r m p) (bits_under r) n

abbrev pub parts_bits : ResidualView → CodingMethod → ℕ → List ℕ → ℕ
parts_bits r m p bytes = parts_cost r m p (map coding_of (take (2 ^ p) bytes))

-- the first bytes are the codings of least cost
abbrev pub AreLeastParts : ResidualView → CodingMethod → ℕ → List ℕ → Type 0
AreLeastParts r m p bytes = IsLeast (MayCodeParts r m p) (parts_cost r m p) (map coding_of (take (2 ^ p) bytes))

-- the values of the partition j of the finest order
abbrev pub finest : ResidualView → ℕ → List ℤ
finest r j = part r.order r.values.now r.partition_order j

-- the bits of each of the finest partitions under a parameter
abbrev pub ArePriced : ResidualView → ℕ → List ℕ → Type 0
ArePriced r k sums = (j : ℕ) → j < 2 ^ r.partition_order → slice_index sums j ≡ sum_by (value_cost k) (finest r j)

-- the same of the partitions of an order
abbrev pub ArePricedAt : ResidualView → ℕ → ℕ → List ℕ → Type 0
ArePricedAt r p k sums = (j : ℕ) → j < 2 ^ p → slice_index sums j ≡ sum_by (value_cost k) (part r.order r.values.now p j)

-- the width of each of the finest partitions
abbrev pub AreMeasured : ResidualView → List ℕ → Type 0
AreMeasured r widths = (j : ℕ) → j < 2 ^ r.partition_order → IsWidth (finest r j) (slice_index widths j)

-- the tables of all its partitions
abbrev pub HasEntriesOf : ResidualView → ℕ → List ℕ → Type 0
HasEntriesOf r k table = HasEntries k r.order r.values.now r.partition_order table

abbrev pub HasWidthsOf : ResidualView → ℕ → List ℕ → Type 0
HasWidthsOf r low widths = HasWidths r.order r.values.now low r.partition_order widths

-- each entry is the smaller of the one before and that of a parameter
abbrev pub AreCompared : ResidualView → ℕ → List ℕ → List ℕ → Type 0
AreCompared r k old new = (p j : ℕ) → p ≤ r.partition_order → j < 2 ^ p → entry new p j ≡ min (entry old p j) (entry_number k (sum_by (value_cost k) (part r.order r.values.now p j)))

-- none of the finest partitions gains by a parameter
abbrev pub NoneGains : ResidualView → ℕ → List ℕ → Type 0
NoneGains r k table = (j : ℕ) → j < 2 ^ r.partition_order → entry table r.partition_order j ≤ entry_number k (sum_by (value_cost k) (finest r j))

-- ---- the tables

-- each entry is the smaller of the one before and that of a parameter with its sum
abbrev pub AreNoted : ℕ → List ℕ → List ℕ → List ℕ → Type 0
AreNoted k sums old new = (j : ℕ) → j < length old → slice_index new j ≡ min (slice_index old j) (entry_number k (slice_index sums j))

-- the same of the entries of one partition order in a table, of which the others are kept
abbrev pub LevelIsNoted : ℕ → ℕ → List ℕ → List ℕ → List ℕ → Type 0
LevelIsNoted p k sums old new = (j : ℕ) → j < 2 ^ p → entry new p j ≡ min (entry old p j) (entry_number k (slice_index sums j))

abbrev pub OthersAreKept : ℕ → List ℕ → List ℕ → Type 0
OthersAreKept p old new = (i : ℕ) → (i < 2 ^ p) ⊎ (2 * 2 ^ p ≤ i) → slice_index new i ≡ slice_index old i

-- no entry is greater than that of a parameter with its sum
abbrev pub NoneIsLess : ℕ → List ℕ → List ℕ → Type 0
NoneIsLess k sums best = (j : ℕ) → j < length best → slice_index best j ≤ entry_number k (slice_index sums j)

-- each sum is that of two neighbours
abbrev pub ArePairSums : ℕ → List ℕ → List ℕ → Type 0
ArePairSums n old new = (j : ℕ) → j < n → slice_index new j ≡ slice_index old (2 * j) + slice_index old (2 * j + 1)

-- how many were priced if n are for each value
abbrev pub priced_after : ℕ → ResidualView → Tables → ℕ
priced_after n r t = t.priced + n * length r.values.now

-- ---- the samples

-- the residual of a predictor of an order, at the front of an array; the codings of a form and their bits
abbrev pub residual_in : SampleView → ℕ → List ℤ → List ℤ
residual_in v order values = take (length v.samples.now - order) values

abbrev pub bits_in_form : SampleView → ℕ → List ℤ → ResidualForm → Tables → ℕ
bits_in_form v order values f t = residual_cost order (residual_in v order values) (codings_in f t.codings.now)

abbrev pub IsLeastForm : SampleView → ℕ → List ℤ → ResidualForm → Tables → Type 0
IsLeastForm v order values f t = IsLeast (MayWrite v.most order (residual_in v order values)) (residual_cost order (residual_in v order values)) (codings_in f t.codings.now)

abbrev pub NoneIsBelow : SampleView → ℕ → List ℤ → ℕ → Type 0
NoneIsBelow v order values n = (f : Codings) → MayWrite v.most order (residual_in v order values) f → n ≤ residual_cost order (residual_in v order values) f

-- what a linear predictor leaves
abbrev pub left_of : SampleView → LinearPredictor → List ℤ
left_of v p = differences (coefficients_in p) p.shift v.samples.now

-- a predictor by its name, and what it leaves
abbrev pub named : SampleView → PredictorKind → Chooses
named v kind = predictor_named v.predictors.now kind

abbrev pub left_by : SampleView → PredictorKind → List ℤ
left_by v kind = residual_by (named v kind) v.samples.now

-- the best of the predictors that were tried, with the bytes of its codings
abbrev pub IsBestOf : SampleView → List Chooses → Best → List ℕ → Type 0
IsBestOf v tried best bytes = IsBest v.predictors.now v.most v.bits v.samples.now tried (way_of best bytes)

-- whatever was tried before, the best goes on as the best with one predictor more
abbrev pub GoesOnWith : SampleView → PredictorKind → Best → Tables → Best → Tables → Type 0
GoesOnWith v kind old before new after = (tried : List Chooses) → IsBestOf v tried old before.codings.now → IsBestOf v (tried ++ named v kind ∷ []) new after.codings.now

-- the partition order stays within a limit
abbrev pub StaysWithin : ℕ → Best → Best → Type 0
StaysWithin most old new = old.residual.partition_order ≤ most → new.residual.partition_order ≤ most

-- n for each sample, and for each sample and predictor
abbrev pub for_samples : ℕ → SampleView → ℕ
for_samples n v = n * length v.samples.now

abbrev pub for_each_of : ℕ → SampleView → ℕ
for_each_of n v = for_each n v.predictors.now v.samples.now

-- the form that was found, with the bytes of its codings
abbrev pub form_found : Task → Found → List ℕ → Form
form_found t found bytes = form_as t.predictors.now found.form (take (2 ^ found.form.residual.partition_order) bytes) t.samples.now

-- it is the shortest of those that the search is for
abbrev pub IsShortestFor : Task → Form → Type 0
IsShortestFor t form = IsShortest t.most (offered t.predictors.now) t.depth t.samples.now form

-- it was made for the samples
abbrev pub IsMadeFor : Task → Found → List ℕ → Type 0
IsMadeFor t found bytes = IsMadeAs t.most t.predictors.now found.form (take (2 ^ found.form.residual.partition_order) bytes) t.samples.now

-- how many codings a form has, and the bytes of them
abbrev pub codings_count : SubframeForm → ℕ
codings_count form = 2 ^ form.residual.partition_order

abbrev pub first_codings : SubframeForm → List ℕ → List ℕ
first_codings form bytes = take (2 ^ form.residual.partition_order) bytes

-- ---- a choice in an array that is used again

-- n is how many codings it has, if the array has them all
abbrev pub FitsExactly : WideChoice → ℕ → Type 0
FitsExactly w n = w.form.residual.partition_order ≤ 15 → codings_count w.form ≤ vec_len w.codings → n ≡ codings_count w.form

-- a choice has the forms of another, and was made of what the other was made of
abbrev pub HasFormsOf : WideChoice → WideChoice → Type 0
HasFormsOf c d = (predictors : List LinearPredictor) (samples : List ℤ) → form_in predictors c samples ≡ form_in predictors d samples

abbrev pub IsMadeLike : WideChoice → WideChoice → Type 0
IsMadeLike c d = (predictors : List LinearPredictor) (samples : List ℤ) → IsMadeIn predictors d samples → IsMadeIn predictors c samples
