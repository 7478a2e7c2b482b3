use Rattle.std.proofs.Common.{◌≡◌, ◌≤◌, ◌+◌, ◌-◌, ◌*◌, true, length, take}
use Rattle.flac_bits.specs.Bits.{bits_of}
use Rattle.flac_bits.specs.inner.Unchecked.{Fills}
use Rattle.flac_bits.proofs.reader.BitReader.take_pieces.Given as goal

abbrev pub invariant-loop-done : goal.invariant-loop-done
invariant-loop-done g l = record {
  within : l.done ≤ length l.out;
  whole : l.self.cursor.mark.unread ≡ 0;
  spent : l.self.most + 8 * l.done ≤ l.fn.self.most;
  held : l.fn.self.held ≤ l.self.held + 8 * l.done;
  known : l.fn.self.known ≡ true → l.self.known ≡ true;
  errors : l.self.errors ≡ l.fn.self.errors;
  raised : l.self.raised ≡ l.fn.self.raised;
  after : l.fn.self.known ≡ true → l.self.after ≡ l.fn.self.after;
  names : l.self.names ≡ l.fn.self.names;
  taken : l.fn.self.known ≡ true → Fills l.checked (bits_of (take l.done l.out)) l.fn.self.cursor l.self.cursor;
}

abbrev pub decreases-loop-done : goal.decreases-loop-done
decreases-loop-done g l = length l.out - l.done
