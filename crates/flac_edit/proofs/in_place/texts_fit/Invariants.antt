use Rattle.std.proofs.Common.{drop}
use Rattle.flac_bits.specs.Forms.{AreBytes}
use Rattle.flac_meta.specs.Valid.{AllAre}
use Rattle.flac_edit.proofs.in_place.texts_fit.Given as goal

abbrev pub invariant-loop-text : goal.invariant-loop-text
invariant-loop-text l = AllAre AreBytes (drop l.text-index l.texts) → AllAre AreBytes l.texts
