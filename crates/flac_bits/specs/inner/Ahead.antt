-- For proofs of reading many values at once: the bits of a word below which those that come next are put.
use Rattle.std.specs.Prelude.{Bool, List}
use Rattle.flac_bits.specs.declared.word.Ahead.{Ahead}
use Rattle.flac_bits.specs.inner.Stretches.{top_bits}

abbrev pub in_word : Ahead → List Bool
in_word w = top_bits w.word w.count
