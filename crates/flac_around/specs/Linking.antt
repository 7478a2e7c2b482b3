-- What a source of one stream of a chain has to give.
use Rattle.std.specs.Prelude.{ℕ, ◌+◌, ◌&&◌, not, Bool, cond, List, ◌∷◌, ◌++◌, length}
use Rattle.flac_bits.specs.Bits.{bit_value}
use Rattle.flac_bits.specs.State.{the_end}
use Rattle.flac_bits.specs.declared.source.Source as source
use Rattle.flac_around.specs.Chains.{up_to, later_links}
use Rattle.flac_around.specs.Walks.{end_for}
use Rattle.flac_around.specs.declared.chain_link.ChainLink.{ChainLink}

-- a list after its length, before others
abbrev pub named : (front others : List ℕ) → List ℕ
named front others = length front ∷ (front ++ others)

-- one for an error that the other source returned
abbrev pub one_if : Bool → ℕ
one_if failed = cond failed 1 0

-- The ghost fields of such a source, by those of the other source. The names have what the other source was at the start
-- of the stream: whether its bytes were known, its errors, and the bytes after the stream. These stay.
abbrev pub ghosts_of : {S : Type 0} {g : source.Ghosts S} → source.Ghosts (ChainLink S g)
ghosts_of {g = g} = record {
  known = λ l. g.known l.source && not l.failed;
  coming = λ l. up_to (end_for l.walk (g.coming l.source)) (g.coming l.source);
  after = λ l. the_end;
  errors = λ l. g.errors l.source + one_if l.failed;
  raised = λ l. g.raised l.source;
  most = λ l. g.most l.source;
  names = λ l. bit_value (g.known l.began.value) ∷ g.errors l.began.value ∷ g.raised l.began.value ∷ named (later_links (g.coming l.began.value)) (g.names l.source);
}
