use Rattle.std.proofs.Common.{drop}
use Rattle.flac_meta.specs.Valid.{AllAre, IsTrack}
use Rattle.flac_meta.proofs.fits.tracks_fit.Given as goal

abbrev pub invariant-loop-track : goal.invariant-loop-track
invariant-loop-track l = AllAre IsTrack (drop l.track-index l.tracks) → AllAre IsTrack l.tracks
