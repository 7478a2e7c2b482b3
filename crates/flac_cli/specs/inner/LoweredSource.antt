-- What a source of lowered samples has to give.
use Rattle.std.specs.Prelude.{◌+◌, ◌++◌, ℕ, List, length}
use Rattle.flac_bits.specs.declared.source.Source as source
use Rattle.flac_cli.specs.inner.WaveRaw.{low_of, held_in}
use Rattle.flac_cli.specs.declared.wave_raw.Lowered.{Lowered}

-- the samples that were read and are held, and all that are left
abbrev pub held_of : {S : Type 0} (g : source.Ghosts S) → Lowered S g → List ℕ
held_of g r = held_in r.from r.to r.low.items

abbrev pub left_of : {S : Type 0} (g : source.Ghosts S) → Lowered S g → List ℕ
left_of g r = held_of g r ++ low_of r.form (g.coming r.source)

-- how many bytes of them can come at most
abbrev pub most_of : {S : Type 0} (g : source.Ghosts S) → Lowered S g → ℕ
most_of g r = length (held_of g r) + g.most r.source
