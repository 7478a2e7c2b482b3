-- What a salvage asks for.
use Rattle.std.specs.Prelude.{None}
use Rattle.flac_jobs.specs.declared.formats.ContainerKind.TheVariants as container
use Rattle.flac_jobs.specs.declared.recodings.Recoding.{Recoding}
use Rattle.flac_jobs.specs.declared.salvages.Salvage.{Salvage}
use Rattle.flac_jobs.specs.declared.search_effort.SearchEffort.TheVariants as effort

-- how the samples that are found are encoded: with the usual options of `flac recode`
abbrev pub recoding_for : Salvage → Recoding
recoding_for s = record {
  input = s.input;
  output = s.output;
  block = 4096;
  seek_every = 0;
  container = container.Native;
  lax = s.lax;
  predictors = None;
  effort = effort.Quick;
  force = s.force;
}
