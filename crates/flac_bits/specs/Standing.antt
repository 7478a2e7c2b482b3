-- The state of a bit writer, by its target and by the bits that it holds.
use Rattle.std.specs.Prelude.{◌≡◌, ◌++◌, true, Bool, List, Result}
use Rattle.flac_bits.specs.Bits.{bits_of}
use Rattle.flac_bits.specs.Unsent.{Unsent}
use Rattle.flac_bits.specs.Written.{Written, Writes}
use Rattle.flac_bits.specs.declared.why.Why.{Why}
use Rattle.flac_bits.specs.declared.target.Target as target

abbrev pub standing : {S : Type 0} → target.Ghosts S → S → Unsent → Written
standing g t u = record {
  known = g.known t;
  errors = g.errors t;
  names = g.names t;
  sent = g.sent t;
  bits = bits_of (g.sent t) ++ (bits_of u.bytes ++ u.rest);
  mark = u.mark;
}

-- these bits were written by a target and what is held for it
abbrev pub WritesTo : {S X : Type 0} → target.Ghosts S → List Bool → S → Unsent → S → Unsent → Result X Why → Type 0
WritesTo g text old held new held' result = Writes text (standing g old held) (standing g new held') result

-- all bits that were held were sent, if these were whole bytes
abbrev pub SendsWhole : {S : Type 0} → target.Ghosts S → S → Unsent → S → Type 0
SendsWhole g old held new = g.known old ≡ true → held.mark.unread ≡ 0 → bits_of (g.sent new) ≡ bits_of (g.sent old) ++ (bits_of held.bytes ++ held.rest)
