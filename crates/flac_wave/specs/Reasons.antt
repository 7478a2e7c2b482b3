-- The numbers of the reasons for which a file is no WAV file, and the texts that are printed of them.
use Rattle.std.specs.Prelude.{ℕ, List, codes}
use Rattle.flac_wave.specs.declared.why.WaveWhy.{WaveWhy}
use Rattle.flac_wave.specs.declared.why.WaveWhy.TheVariants as why

abbrev pub number_of : WaveWhy → ℕ
number_of why.NotWave = 60
number_of why.ChunkCut = 61
number_of why.ChunkLength = 62
number_of why.NoFormat = 63
number_of why.RepeatedFormat = 64
number_of why.FormatLength = 65
number_of why.Coding = 66
number_of why.FormatFields = 67
number_of why.NoData = 68
number_of why.DataCut = 69
number_of why.PartSample = 70
number_of why.DataUnstated = 92

-- the number and the name
abbrev pub text_of : WaveWhy → List ℕ
text_of why.NotWave = codes "60 NotWave"
text_of why.ChunkCut = codes "61 ChunkCut"
text_of why.ChunkLength = codes "62 ChunkLength"
text_of why.NoFormat = codes "63 NoFormat"
text_of why.RepeatedFormat = codes "64 RepeatedFormat"
text_of why.FormatLength = codes "65 FormatLength"
text_of why.Coding = codes "66 Coding"
text_of why.FormatFields = codes "67 FormatFields"
text_of why.NoData = codes "68 NoData"
text_of why.DataCut = codes "69 DataCut"
text_of why.PartSample = codes "70 PartSample"
text_of why.DataUnstated = codes "92 DataUnstated"
