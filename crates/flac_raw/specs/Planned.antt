-- How raw samples are encoded, once it is known how many there are.
use Rattle.std.specs.Prelude.{◌≡◌, ℕ, List, [], Option, Some, None, cond, MatchResult, Result}
use Rattle.flac_header.specs.declared.subset.Profile.{Profile}
use Rattle.flac_meta.specs.declared.block.Block.{Block}
use Rattle.flac_subframe.specs.declared.format.linear.LinearPredictor.{LinearPredictor}
use Rattle.flac_frame.specs.declared.setup.SetupFault.{SetupFault}
use Rattle.flac_native.specs.Given.{Cut, plan_fault}
use Rattle.flac_native.specs.Seeking.{repeats_table}
use Rattle.flac_native.specs.declared.fault.EncodeFault.{EncodeFault}
use Rattle.flac_native.specs.declared.fault.EncodeFault.TheVariants.{RepeatedBlock}
use Rattle.flac_predict.specs.declared.search.Search.{Search}
use Rattle.flac_encoder.specs.Pushing.{Shape}
use Rattle.flac_jobs.specs.declared.formats.RawFormat.{RawFormat}

-- The profile of the stream; the format of the samples, and how they are divided into blocks; how many samples each channel
-- has; the linear predictors that are tried beside the fixed ones; and how far others are sought for each block, if they
-- are.
pub record Planned : Type 0 where
  pub profile : Profile
  pub format : RawFormat
  pub total : ℕ
  pub predictors : List LinearPredictor
  pub search : Option Search

-- the same, by name
abbrev pub planned : Profile → RawFormat → (total : ℕ) → List LinearPredictor → Option Search → Planned
planned profile format total ps search = record { profile = profile; format = format; total = total; predictors = ps; search = search }

-- the format, as an encoder has it that blocks are pushed to
abbrev pub raw_shape : Profile → RawFormat → Shape
raw_shape profile format = record { profile = profile; rate = format.rate; bits = format.bits; channels = format.channels; block_size = format.block }

-- a plan for `total` samples of each channel
abbrev pub raw_cut : Profile → RawFormat → (total : ℕ) → List LinearPredictor → Cut
raw_cut profile format total ps = record {
  profile = profile;
  block_size = format.block;
  rate = format.rate;
  bits = format.bits;
  channels = format.channels;
  total = total;
  seek_every = format.seek_every;
  predictors = ps;
  found = [];
}

-- the plan is made, or else this is why it cannot be
abbrev pub MakesPlanned : Planned → Result Planned SetupFault → Type 0
MakesPlanned p result = MatchResult result (λ q. q ≡ p) (λ e. plan_fault (raw_cut p.profile p.format p.total p.predictors) ≡ Some e)

-- why no stream with these blocks is written, if so: one of them is a seek table, and the plan asks for one (RFC 9639,
-- section 8)
abbrev pub table_fault : Planned → List Block → Option EncodeFault
table_fault p list = cond (repeats_table (raw_cut p.profile p.format p.total p.predictors) list) (Some RepeatedBlock) None
