use Rattle.flac_bits.proofs.LittleNumbers.{little_bits_are}
use Rattle.flac_bits.proofs.little.put_little_32.Goals as goal

pub returns : goal.returns
returns g c = rw (← little_bits_are c.args.value c.write_u32.new.buf c.write_u32.ensures) c.put_bytes.ensures
