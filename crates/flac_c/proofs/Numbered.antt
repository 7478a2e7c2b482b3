-- No reason has the number 0; and which reason is told.
use Rattle.std.proofs.Common.{◌≡◌, ◌≢◌, ◌⊎◌, inl, inr, ◌≤◌, ℕ, Option, Some, refl, sym, ap, arith}
use Rattle.flac_bits.specs.declared.why.Why.{Why}
use Rattle.flac_bits.specs.declared.why.Why.TheVariants.{Read, Memory, Truncated, BadMarker, NotStreamInfoFirst, ForbiddenType, BlockLength, BadStreamInfo, RepeatedBlock, SeekOrder, CueSheet, BadSync, ReservedCode, NotSubset, BadNumber, HeaderCheck, HeaderMismatch, Sequence, BlockSize, BadSubframe, BadPredictor, BadPartition, ResidualRange, NonzeroPadding, FrameTooLong, FrameCheck, SampleRange, TotalMismatch, Md5Mismatch, Sink, BadPage, PageCheck, PageOrder, OtherStream, PacketLength, NoEndPage, BadMapping, Spent, Write}
use Rattle.flac_bits.specs.Reasons.{number_of}
use Rattle.flac_native.specs.declared.fault.Place.{Place}

pub some_number : (w : Why) → 1 ≤ number_of w
some_number Read = omega arith
some_number Memory = omega arith
some_number Truncated = omega arith
some_number BadMarker = omega arith
some_number NotStreamInfoFirst = omega arith
some_number ForbiddenType = omega arith
some_number BlockLength = omega arith
some_number BadStreamInfo = omega arith
some_number RepeatedBlock = omega arith
some_number SeekOrder = omega arith
some_number CueSheet = omega arith
some_number BadSync = omega arith
some_number ReservedCode = omega arith
some_number NotSubset = omega arith
some_number BadNumber = omega arith
some_number HeaderCheck = omega arith
some_number HeaderMismatch = omega arith
some_number Sequence = omega arith
some_number BlockSize = omega arith
some_number BadSubframe = omega arith
some_number BadPredictor = omega arith
some_number BadPartition = omega arith
some_number ResidualRange = omega arith
some_number NonzeroPadding = omega arith
some_number FrameTooLong = omega arith
some_number FrameCheck = omega arith
some_number SampleRange = omega arith
some_number TotalMismatch = omega arith
some_number Md5Mismatch = omega arith
some_number Sink = omega arith
some_number BadPage = omega arith
some_number PageCheck = omega arith
some_number PageOrder = omega arith
some_number OtherStream = omega arith
some_number PacketLength = omega arith
some_number NoEndPage = omega arith
some_number BadMapping = omega arith
some_number Spent = omega arith
some_number Write = omega arith

pub no_number : (w : Why) (n : ℕ) → n ≡ number_of w → n ≡ 0 → ⊥
no_number w n is none = let some = some_number w in omega (arith, some, is, none)

-- ---- which reason is told

pub memory_or_not : (w : Why) → (w ≡ Memory) ⊎ (w ≢ Memory)
memory_or_not Memory = inl refl
memory_or_not w = inr (λ e. absurd cc)

abbrev told_as : Place → Why → Option (Place × Why)
told_as at why = Some (at, why)

pub same_why : (a b : Place) (v w : Why) → told_as a v ≡ told_as b w → w ≡ v
same_why a b v w e = let p : (a, v) ≡ (b, w) = cc in sym (ap (λ (f : Place × Why). f.1) p)
