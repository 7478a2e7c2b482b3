use Rattle.std.proofs.Common.{◌≡◌, ◌≤◌, ◌+◌, min, drop}
use Rattle.flac_meta.specs.Spelling.{texts_length}
use Rattle.flac_meta.proofs.comments.texts_after.Given as goal

abbrev pub invariant-loop-text : goal.invariant-loop-text
invariant-loop-text l = (l.total ≤ 16777216) × (min (l.total + texts_length (drop l.text-index l.texts)) 16777216 ≡ min (l.before + texts_length l.texts) 16777216)
