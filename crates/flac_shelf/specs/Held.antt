-- A file in memory as a file of a list.
use denote.Bor.{Bor}
use Rattle.std.specs.Prelude.{List, ℕ, Bool, cond, Option, Some, None}
use Rattle.flac_bits.specs.State.{the_end}
use Rattle.flac_shelf.specs.Listed.{Listed, Contents}
use Rattle.flac_shelf.specs.declared.held_shelf.HeldFile.{HeldFile}
use Rattle.flac_shelf.specs.declared.past.Earlier.TheVariants.{Unasked}

-- its bytes, if it can be opened; after them comes the end
abbrev pub contents_of : Option (Bor (List ℕ)) → (again : Bool) → Option Contents
contents_of None again = None
contents_of (Some bytes) again = Some (record { bytes = bytes.now; after = the_end; again = again })

-- they can be read more than once
abbrev pub stored_of : Option (Bor (List ℕ)) → (again : Bool) → Option (List ℕ)
stored_of None again = None
stored_of (Some bytes) again = cond again (Some bytes.now) None

abbrev pub listed_of : HeldFile → Listed
listed_of f = record {
  path = f.path.now;
  stamp = f.stamp;
  earlier = Unasked;
  stored = stored_of f.bytes f.again;
  tagged = None;
  contents = contents_of f.bytes f.again;
}
