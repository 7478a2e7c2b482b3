-- What an older report has of a file, and whether that is still so.
use Rattle.std.specs.Prelude.{ℕ, Bool, true, false, ◌&&◌, nat_eq, List, [], ◌∷◌, cond, Option, Some, None, is_some}
use Rattle.std.specs.Option.{option_eq}
use Rattle.std.specs.Str.{bytes_eq}
use Rattle.flac_shelf.specs.Listed.{Listed}
use Rattle.flac_shelf.specs.declared.past.Audio.{Audio}
use Rattle.flac_shelf.specs.declared.past.Earlier.{Earlier}
use Rattle.flac_shelf.specs.declared.past.Earlier.TheVariants.{Unasked, New, Was}
use Rattle.flac_shelf.specs.declared.past.Past.{Past}
use Rattle.flac_shelf.specs.declared.stamp.Stamp.{Stamp}

-- the same size and time, where what is not known is the same as what is not known
abbrev pub same_stamp : Stamp → Stamp → Bool
same_stamp a b = option_eq nat_eq a.bytes b.bytes && (option_eq nat_eq a.modified b.modified && option_eq nat_eq a.nanoseconds b.nanoseconds)

-- a size and a time are known
abbrev pub is_known : Stamp → Bool
is_known a = is_some a.bytes && is_some a.modified

-- The same digest, number of samples, rate, channels and bits per sample. A digest that is not stated is the same as
-- another that is not, and differs from each that is.
abbrev pub same_audio : Audio → Audio → Bool
same_audio a b =
    option_eq bytes_eq a.digest b.digest && (nat_eq a.samples b.samples
    && (option_eq nat_eq a.rate b.rate && (option_eq nat_eq a.channels b.channels && option_eq nat_eq a.depth b.depth)))

-- a file was good, at this size and time
abbrev pub is_good_at : Past → Stamp → Bool
is_good_at past stamp = is_some past.audio && (is_known past.stamp && same_stamp past.stamp stamp)

-- ---- a report, by what it has at a path

abbrev pub Report : Type 0
Report = List ℕ → Option Past

-- it has the file as good, at its size and time
abbrev pub is_good_in : Option Past → Stamp → Bool
is_good_in None stamp = false
is_good_in (Some past) stamp = is_good_at past stamp

abbrev pub has_good : Report → Listed → Bool
has_good report file = is_good_in (report file.path) file.stamp

-- the files that it does not have so, in order
abbrev pub without_good : Report → List Listed → List Listed
without_good report [] = []
without_good report (file ∷ files) = cond (has_good report file) (without_good report files) (file ∷ without_good report files)

-- what it has at a path
abbrev pub earlier_at : Option Past → Earlier
earlier_at None = New
earlier_at (Some past) = Was past

-- a file with what the report has of it
abbrev pub compared_with : Report → Listed → Listed
compared_with report file = record file { earlier = earlier_at (report file.path) }
