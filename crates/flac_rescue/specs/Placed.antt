-- What is printed of a stream whose bytes are parts of an input, with their places in it.
use Rattle.std.specs.Prelude.{◌≡◌, ◌⊎◌, ℕ, ◌&&◌, Bool, not, cond, nat_lt, List, Option, Some, None, map}
use Rattle.flac_salvage.specs.declared.find.WholeFrame.{WholeFrame}
use Rattle.flac_whole_pages.specs.Left.{place_in, place_past}
use Rattle.flac_whole_pages.specs.declared.left.Left.{Left}
use Rattle.flac_rescue.specs.Report.{lines_text}
use Rattle.flac_rescue.specs.declared.missing.Gap.{Gap}
use Rattle.flac_rescue.specs.declared.survey.Survey.{Survey}

-- nothing is missing in a gap
abbrev pub is_empty : Gap → Bool
is_empty g = not (nat_lt g.first g.next) && not (nat_lt g.start g.end)

-- The gap, with its place in the input: from the end of the byte before it to the byte after it. So bytes between two
-- parts are in it. One that is empty stays so.
abbrev pub placed_gap : Left → Gap → Gap
placed_gap l g = cond (is_empty g) g (record { start = place_past l g.start; end = place_in l g.end; first = g.first; next = g.next })

-- the frame, with the place of its first byte
abbrev pub placed_frame : Left → WholeFrame → WholeFrame
placed_frame l f = record { at = place_in l f.at; bytes = f.bytes; first = f.first; size = f.size }

-- where the search for frames ended early; else where that for pages did
abbrev pub placed_cut : Left → Option ℕ → Option ℕ
placed_cut l None = l.cut
placed_cut l (Some at) = Some (place_in l at)

-- the lines of what was found of a stream, with these places
abbrev pub left_text : (path : List ℕ) → Left → Survey → List ℕ
left_text path l s = lines_text path s (map (placed_gap l) s.gaps.items) (map (placed_frame l) s.others.items) (placed_cut l s.found.cut)
