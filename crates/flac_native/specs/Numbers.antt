-- The numbers of faults of encoding, and the texts that are printed of them.
use Rattle.std.specs.Prelude.{ℕ, Bool, true, false, List, codes}
use Rattle.flac_frame.specs.Setup as setup
use Rattle.flac_native.specs.declared.fault.EncodeFault.{EncodeFault}
use Rattle.flac_native.specs.declared.fault.EncodeFault.TheVariants.{Memory, RepeatedBlock, BlockSize, BadMapping, Spent, Write, Setup}

abbrev pub fault_number : EncodeFault → ℕ
fault_number Memory = 2
fault_number RepeatedBlock = 9
fault_number BlockSize = 19
fault_number BadMapping = 37
fault_number Spent = 38
fault_number Write = 39
fault_number (Setup fault) = setup.number_of fault

-- the number and the name
abbrev pub text_of : EncodeFault → List ℕ
text_of Memory = codes "2 Memory"
text_of RepeatedBlock = codes "9 RepeatedBlock"
text_of BlockSize = codes "19 BlockSize"
text_of BadMapping = codes "37 BadMapping"
text_of Spent = codes "38 Spent"
text_of Write = codes "39 Write"
text_of (Setup fault) = setup.text_of fault

-- the faults of a call that encodes all samples at once; the others are those of an encoder that is pushed to
abbrev pub is_of_whole : EncodeFault → Bool
is_of_whole Memory = true
is_of_whole RepeatedBlock = true
is_of_whole BlockSize = false
is_of_whole BadMapping = true
is_of_whole Spent = false
is_of_whole Write = true
is_of_whole (Setup fault) = false
