-- For proofs of reading: what the calls read of a subframe, and into which places.
use Rattle.std.specs.Prelude.{ℕ, ℤ, ◌+◌, ◌-◌, Bool, List, Result, length}
use Rattle.flac_bits.specs.Layout.{Layout, bind, done}
use Rattle.flac_bits.specs.Reading.{CallInPlace, Reads}
use Rattle.flac_bits.specs.State.{State}
use Rattle.flac_bits.specs.declared.why.Why.{Why}
use Rattle.flac_subframe.specs.declared.format.coding_method.CodingMethod.{CodingMethod}
use Rattle.flac_subframe.specs.declared.format.limits.Limits.{Limits}
use Rattle.flac_subframe.specs.declared.format.subframe.Header.{Header as Read}
use Rattle.flac_subframe.specs.declared.format.subframe_type.SubframeType.{SubframeType}
use Rattle.flac_subframe.specs.format.Cost.{parameter_bits_of}
use Rattle.flac_subframe.specs.format.Residual.{all_values, partition, partitions, residual, residual_header, residual_values}
use Rattle.flac_subframe.specs.format.Subframe.{Content, Header, content_samples, fitted, fixed, if_fit, linear, predictor, samples_by_layout, verbatim}
use Rattle.flac_subframe.specs.format.inner.Codes.{method_code, type_code}

-- what a call reads by a layout, seen by what it returns
abbrev pub ReadsAs : {X Y : Type 0} → (X → Y) → Layout Y → State → State → Result X Why → Type 0
ReadsAs view layout old new result = CallInPlace 0 (Reads view layout) old new result

-- the samples of a content, in the places of what was there before
abbrev pub ReadsContent : ℕ → List ℤ → List ℤ → Layout Content → State → State → Result Bool Why → Type 0
ReadsContent depth before after layout old new result = ReadsAs (if_fit after) (fitted depth (length before) layout) old new result

-- the content of each form, in a block of as many samples
abbrev pub ReadsVerbatim : ℕ → List ℤ → List ℤ → State → State → Result Bool Why → Type 0
ReadsVerbatim depth before after old new result = ReadsContent depth before after (verbatim depth (length before)) old new result

abbrev pub ReadsFixed : ℕ → ℕ → ℕ → List ℤ → List ℤ → State → State → Result Bool Why → Type 0
ReadsFixed depth limit order before after old new result = ReadsContent depth before after (fixed depth (length before) limit order) old new result

abbrev pub ReadsLinear : ℕ → ℕ → ℕ → List ℤ → List ℤ → State → State → Result Bool Why → Type 0
ReadsLinear depth limit order before after old new result = ReadsContent depth before after (linear depth (length before) limit order) old new result

-- the same with places for the coefficients
abbrev pub ReadsLinearInto : ℕ → ℕ → List ℤ → List ℤ → List ℤ → State → State → Result Bool Why → Type 0
ReadsLinearInto depth limit places before after old new result = ReadsLinear depth limit (length places) before after old new result

-- the content of a type, and a whole subframe
abbrev pub ReadsType : SubframeType → ℕ → ℕ → List ℤ → List ℤ → State → State → Result Bool Why → Type 0
ReadsType kind depth limit before after old new result = ReadsAs (if_fit after) (content_samples (type_code kind) depth (length before) limit) old new result

abbrev pub ReadsByLayout : ℕ → ℕ → Limits → List ℤ → State → State → Result Bool Why → Type 0
ReadsByLayout depth block limits after old new result = CallInPlace 8 (Reads (if_fit after) (samples_by_layout depth block limits)) old new result

-- a linear predictor: its precision and its shift are returned, its coefficients are in their places
abbrev pub ReadsPredictor : List ℤ → List ℤ → State → State → Result (ℕ × ℕ) Why → Type 0
ReadsPredictor before after old new result = ReadsAs (λ p. record { precision = p.0; shift = p.1; coefficients = after }) (predictor (length before)) old new result

-- the values of a partition, of partitions and of a whole residual
abbrev pub partition_values : CodingMethod → ℕ → Layout (List ℤ)
partition_values method size = bind (partition (parameter_bits_of method) size) (λ p. done p.values)

abbrev pub partitions_values : CodingMethod → ℕ → ℕ → ℕ → Layout (List ℤ)
partitions_values method first size n = bind (partitions (parameter_bits_of method) first size n) (λ ps. done (all_values ps))

abbrev pub values_read : ℕ → ℕ → ℕ → Layout (List ℤ)
values_read limit order block = bind (residual limit order block) (λ r. done (residual_values r))

-- the values of the partitions, of which the first lacks the warm-up samples, and of a whole residual
abbrev pub ReadsPartitions : {X : Type 0} → CodingMethod → ℕ → ℕ → ℕ → List ℤ → State → State → Result X Why → Type 0
ReadsPartitions method order size count after old new result = ReadsAs (λ _. after) (partitions_values method (size - order) size count) old new result

abbrev pub ReadsResidual : {X : Type 0} → ℕ → ℕ → List ℤ → List ℤ → State → State → Result X Why → Type 0
ReadsResidual limit order before after old new result = ReadsAs (λ _. after) (values_read limit order (length before + order)) old new result

-- the coding method and the partition order of a residual
abbrev pub ReadsResidualHeader : ℕ → ℕ → ℕ → State → State → Result (CodingMethod × ℕ) Why → Type 0
ReadsResidualHeader limit order block old new result = ReadsAs (λ h. (method_code h.0, h.1)) (residual_header limit order block) old new result

-- the header that was read
abbrev pub header_of : Read → Header
header_of h = record { kind = type_code h.kind; wasted = h.wasted }
