use Rattle.std.proofs.Common.{◌≡◌, take}
use Rattle.flac_c.specs.Encoded.{texts_of}
use Rattle.flac_c.proofs.tags.texts_of.Given as goal

abbrev pub invariant-loop-text : goal.invariant-loop-text
invariant-loop-text l = l.copies.items ≡ texts_of (take l.text-index l.texts)
