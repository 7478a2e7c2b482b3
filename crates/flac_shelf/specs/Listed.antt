-- A file of a list, and what its bytes are.
use Rattle.std.specs.Prelude.{◌≡◌, ◌≤◌, ℕ, ◌-◌, Bool, true, List, length, take, drop, Option, Some, None, MatchOption}
use Rattle.flac_bits.specs.State.{After}
use Rattle.flac_bits.specs.declared.source.Source as source
use Rattle.flac_shelf.specs.declared.edges.Edges.{Edges}
use Rattle.flac_shelf.specs.declared.past.Earlier.{Earlier}
use Rattle.flac_shelf.specs.declared.stamp.Stamp.{Stamp}

-- The bytes of a file, and what comes after them, which is the end unless it is cut short. `again`: it can be read more
-- than once from its start, as a pipe cannot.
pub record Contents : Type 0 where
  pub bytes : List ℕ
  pub after : After
  pub again : Bool

-- nothing is known of a file
abbrev pub no_stamp : Stamp
no_stamp = record { bytes = None; modified = None; nanoseconds = None }

-- A file, by its path, with its size and time, and with what an older report has of it. `contents` are none if it cannot
-- be opened. `stored`: all of its bytes, if they can be read more than once, where `contents` may be a part of them.
-- `tagged`: whether tags of other programs are around these, if that was looked for.
pub record Listed : Type 0 where
  pub path : List ℕ
  pub stamp : Stamp
  pub earlier : Earlier
  pub stored : Option (List ℕ)
  pub tagged : Option Bool
  pub contents : Option Contents

-- no error was returned, foretold or not
abbrev pub HasNotFailed : {S : Type 0} (g : source.Ghosts S) → S → Type 0
HasNotFailed g s = (g.errors s ≡ 0) × (g.raised s ≡ 0)

-- a source that is about to give these bytes, and has not failed
pub record Opens {S : Type 0} (g : source.Ghosts S) (contents : Option Contents) (s : S) : Type 0 where
  pub of : Contents
  pub is : contents ≡ Some of
  pub known : g.known s ≡ true
  pub coming : g.coming s ≡ of.bytes
  pub after : g.after s ≡ of.after
  pub errors : g.errors s ≡ 0
  pub raised : g.raised s ≡ 0

-- such a source, or none if the file cannot be opened
abbrev pub OpensIf : {S : Type 0} (g : source.Ghosts S) (contents : Option Contents) → Option S → Type 0
OpensIf g contents opened = MatchOption opened (contents ≡ None) (λ file. Opens g contents file)

-- how bytes begin and end: the first ten and the last 128, if there are so many
pub record IsEdges (bytes : List ℕ) (e : Edges) : Type 0 where
  pub size : e.size ≡ length bytes
  pub first : 10 ≤ length bytes → e.first ≡ take 10 bytes
  pub last : 128 ≤ length bytes → e.last ≡ drop (length bytes - 128) bytes

-- that of all bytes of a file; none if they cannot be read more than once
abbrev pub AreEdges : Option (List ℕ) → Option Edges → Type 0
AreEdges None found = found ≡ None
AreEdges (Some bytes) found = (e : Edges) × (found ≡ Some e) × IsEdges bytes e
