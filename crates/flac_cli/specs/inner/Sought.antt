-- For proofs of parts that are sought: a reader at the frame that holds a sample.
use Rattle.std.specs.Prelude.{◌≡◌, ◌≢◌, ◌≤◌, ℕ, ℤ, true, List, Option, None}
use Rattle.std.specs.declared.io.traits.Read as read
use Rattle.std.specs.declared.io.traits.Seek as seek
use Rattle.flac_bits.specs.declared.target.Target as target
use Rattle.flac_bits.specs.declared.why.Why.{Why}
use Rattle.flac_info.specs.Info.{Info}
use Rattle.flac_header.specs.declared.subset.Profile.{Profile}
use Rattle.flac_native.specs.declared.fault.Place.{Place}
use Rattle.flac_native.specs.declared.container.Container as container
use Rattle.flac_reader.specs.Giving.{last_frame}
use Rattle.flac_reader.specs.Kept.{first_comments}
use Rattle.flac_reader.specs.Moved.{FindsMoved}
use Rattle.flac_reader.specs.declared.reader.Reader.{Reader}
use Rattle.flac_compare.specs.inner.Stepping.{IsKnown}
use Rattle.flac_cli.specs.Excerpts.{start_of, stop_of}
use Rattle.flac_cli.specs.Sought.{IsPartAfter}
use Rattle.flac_cli.specs.inner.Excerpts.{RowsCome}
use Rattle.flac_jobs.specs.declared.excerpts.Excerpt.{Excerpt}

-- a part was sent of what comes from a reader, whose next frame begins at or before the part
abbrev pub SendsFound : {C W : Type 0} {g : container.Ghosts C} → target.Ghosts W → Excerpt → Reader C g → (from to : W) → Type 0
SendsFound h e reader from to =
    IsKnown reader → h.known from ≡ true → reader.first ≤ start_of e.from reader.info → (rows : List (List ℤ)) (end : Option (Place × Why)) → RowsCome reader rows end
    → IsPartAfter e.wave reader.info (first_comments reader.blocks.items) reader.first (start_of e.from reader.info) (stop_of e.to reader.info) rows end (h.sent from) (h.sent to)

-- a reader of a device that was moved to some byte is at a frame that it found
pub record FindsSome {T C : Type 0} {g : container.Ghosts C} (s : seek.Ghosts T) (d : read.Ghosts T) (device : T) (profile : Profile) (info : Info) (sample : ℕ) (reader : Reader C g) : Type 0 where
  pub at : ℕ
  pub finds : FindsMoved s d device at profile info sample reader
  pub some : last_frame reader ≢ None
  pub ahead : reader.ahead ≡ true
