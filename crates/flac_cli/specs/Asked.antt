-- What an encoding is asked for.
use Rattle.std.specs.Prelude.{ℕ, Bool, List, map}
use denote.Bor.{Bor}
use Rattle.flac_header.specs.declared.subset.Profile.{Profile}
use Rattle.flac_jobs.specs.declared.formats.RawFormat.{RawFormat}
use Rattle.flac_jobs.specs.declared.formats.ContainerKind.{ContainerKind}
use Rattle.flac_jobs.specs.declared.search_effort.SearchEffort.{SearchEffort}
use Rattle.flac_cli.specs.declared.encode.Encoding.{Encoding}

pub record Asked : Type 0 where
  -- the profile of the stream
  pub profile : Profile
  -- the format of the raw samples
  pub format : RawFormat
  pub container : ContainerKind
  -- the words that are its comments
  pub words : List (List ℕ)
  -- the text of a list of predictors
  pub list : List ℕ
  -- how far other predictors are sought for each block
  pub effort : SearchEffort
  -- any bytes are taken as samples, also those that begin as a file that may hold a song
  pub any : Bool
  -- all of a WAV file is kept
  pub keep : Bool
  -- the samples of a WAV file that ends inside them may go on to its end
  pub to_end : Bool

abbrev pub asked_of : Encoding → Asked
asked_of e = record { profile = e.profile; format = e.format; container = e.container; words = map (λ w. w.now) e.comments.now; list = e.list.now; effort = e.effort; any = e.any; keep = e.keep; to_end = e.to_end }

-- the words of an argument
abbrev pub texts_of : List (Bor (List ℕ)) → List (List ℕ)
texts_of words = map (λ word. word.now) words
