-- The numbers of reasons, the texts that are printed of them, and which reasons are errors of the output.
use Rattle.std.specs.Prelude.{ℕ, Bool, true, false, List, codes}
use Rattle.flac_bits.specs.declared.why.Why.{Why}
use Rattle.flac_bits.specs.declared.why.Why.TheVariants.{Read, Memory, Truncated, BadMarker, NotStreamInfoFirst, ForbiddenType, BlockLength, BadStreamInfo, RepeatedBlock, SeekOrder, CueSheet, BadSync, ReservedCode, NotSubset, BadNumber, HeaderCheck, HeaderMismatch, Sequence, BlockSize, BadSubframe, BadPredictor, BadPartition, ResidualRange, NonzeroPadding, FrameTooLong, FrameCheck, SampleRange, TotalMismatch, Md5Mismatch, Sink, BadPage, PageCheck, PageOrder, OtherStream, PacketLength, NoEndPage, BadMapping, Spent, Write}

abbrev pub number_of : Why → ℕ
number_of Read = 1
number_of Memory = 2
number_of Truncated = 3
number_of BadMarker = 4
number_of NotStreamInfoFirst = 5
number_of ForbiddenType = 6
number_of BlockLength = 7
number_of BadStreamInfo = 8
number_of RepeatedBlock = 9
number_of SeekOrder = 10
number_of CueSheet = 11
number_of BadSync = 12
number_of ReservedCode = 13
number_of NotSubset = 14
number_of BadNumber = 15
number_of HeaderCheck = 16
number_of HeaderMismatch = 17
number_of Sequence = 18
number_of BlockSize = 19
number_of BadSubframe = 20
number_of BadPredictor = 21
number_of BadPartition = 22
number_of ResidualRange = 23
number_of NonzeroPadding = 24
number_of FrameTooLong = 25
number_of FrameCheck = 26
number_of SampleRange = 27
number_of TotalMismatch = 28
number_of Md5Mismatch = 29
number_of Sink = 30
number_of BadPage = 31
number_of PageCheck = 32
number_of PageOrder = 33
number_of OtherStream = 34
number_of PacketLength = 35
number_of NoEndPage = 36
number_of BadMapping = 37
number_of Spent = 38
number_of Write = 39

-- the number and the name
abbrev pub text_of : Why → List ℕ
text_of Read = codes "1 Read"
text_of Memory = codes "2 Memory"
text_of Truncated = codes "3 Truncated"
text_of BadMarker = codes "4 BadMarker"
text_of NotStreamInfoFirst = codes "5 NotStreamInfoFirst"
text_of ForbiddenType = codes "6 ForbiddenType"
text_of BlockLength = codes "7 BlockLength"
text_of BadStreamInfo = codes "8 BadStreamInfo"
text_of RepeatedBlock = codes "9 RepeatedBlock"
text_of SeekOrder = codes "10 SeekOrder"
text_of CueSheet = codes "11 CueSheet"
text_of BadSync = codes "12 BadSync"
text_of ReservedCode = codes "13 ReservedCode"
text_of NotSubset = codes "14 NotSubset"
text_of BadNumber = codes "15 BadNumber"
text_of HeaderCheck = codes "16 HeaderCheck"
text_of HeaderMismatch = codes "17 HeaderMismatch"
text_of Sequence = codes "18 Sequence"
text_of BlockSize = codes "19 BlockSize"
text_of BadSubframe = codes "20 BadSubframe"
text_of BadPredictor = codes "21 BadPredictor"
text_of BadPartition = codes "22 BadPartition"
text_of ResidualRange = codes "23 ResidualRange"
text_of NonzeroPadding = codes "24 NonzeroPadding"
text_of FrameTooLong = codes "25 FrameTooLong"
text_of FrameCheck = codes "26 FrameCheck"
text_of SampleRange = codes "27 SampleRange"
text_of TotalMismatch = codes "28 TotalMismatch"
text_of Md5Mismatch = codes "29 Md5Mismatch"
text_of Sink = codes "30 Sink"
text_of BadPage = codes "31 BadPage"
text_of PageCheck = codes "32 PageCheck"
text_of PageOrder = codes "33 PageOrder"
text_of OtherStream = codes "34 OtherStream"
text_of PacketLength = codes "35 PacketLength"
text_of NoEndPage = codes "36 NoEndPage"
text_of BadMapping = codes "37 BadMapping"
text_of Spent = codes "38 Spent"
text_of Write = codes "39 Write"

-- an error of what receives the output: of a sink that is handed items, or of a target that is sent bytes
abbrev pub of_output : Why → Bool
of_output Sink = true
of_output Write = true
of_output _ = false
