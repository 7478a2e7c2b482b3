use Rattle.std.proofs.Common.{refl, arith}
use Rattle.flac_wave.specs.Wave.{parts_of}
use Rattle.flac_c.proofs.WaveFiles.{joined_length, described}
use Rattle.flac_c.proofs.waves.wave_in_c.Goals as goal

pub overflow_sub-after : goal.overflow_sub-after
overflow_sub-after c = let e = joined_length c.args.bytes.now (parts_of c.args.wave.now) c.requires.wave in omega (arith, e)

pub overflow_sub-result : goal.overflow_sub-result
overflow_sub-result c = let e = joined_length c.args.bytes.now (parts_of c.args.wave.now) c.requires.wave in omega (arith, e)

pub returns : goal.returns
returns c = described c.args.bytes.now (parts_of c.args.wave.now) _ _ c.requires.wave refl c.depth_of.ensures
