-- Files of a list that are read between tags.
use Rattle.std.specs.Prelude.{ℕ, Bool, List, is_some, Option, Some, None, option_map}
use Rattle.flac_shelf.specs.Listed.{Listed, Contents}
use Rattle.flac_around.specs.Around.{middle_of, has_tags}

-- the bytes between, and what comes after all bytes
abbrev pub between_contents : Option Contents → Option Contents
between_contents None = None
between_contents (Some of) = Some (record of { bytes = middle_of (is_some of.after.fails) of.bytes })

-- `tagged`: whether there are tags around them, if the file can be read more than once
abbrev pub between_listed : Listed → Listed
between_listed file = record file { tagged = option_map has_tags file.stored; contents = between_contents file.contents }
