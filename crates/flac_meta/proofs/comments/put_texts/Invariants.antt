use Rattle.std.proofs.Common.{◌<◌, ◌^◌, drop}
use Rattle.flac_bits.proofs.Writing.{Towards}
use Rattle.flac_meta.specs.Spelling as s
use Rattle.flac_meta.proofs.comments.put_texts.Given as goal

abbrev pub invariant-loop-text : goal.invariant-loop-text
invariant-loop-text g l = (s.texts_length (drop l.text-index l.texts) < 2 ^ 24) × Towards (s.each_spelled s.little_sized (drop l.text-index l.texts)) (s.each_spelled s.little_sized l.texts) l.initial.writer l.writer
