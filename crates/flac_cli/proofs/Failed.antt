-- Which refusals are failed writes.
use Rattle.std.proofs.Common.{◌≡◌}
use Rattle.flac_bits.specs.declared.why.Why.{Why}
use Rattle.flac_frame.specs.declared.setup.SetupFault.{SetupFault}
use Rattle.flac_native.specs.declared.fault.EncodeFault.{EncodeFault}
use Rattle.flac_cli.specs.Refusals.{refusal_of}
use Rattle.flac_cli.specs.declared.predictors.ListFault.{ListFault}
use Rattle.flac_cli.specs.declared.predictors.ListFault.TheVariants as faults
use Rattle.flac_cli.specs.declared.encode.Refusal.TheVariants.{Input, Setup, NotRaw, RawLength, Output}

-- A fault of the samples is none.
pub not_setup : {X : Type 0} (f : SetupFault) (e : EncodeFault) → Setup f ≡ Output e → X
not_setup f e h = absurd cc

-- A fault of the list is none.
pub not_list : {X : Type 0} (f : ListFault) (e : EncodeFault) → refusal_of f ≡ Output e → X
not_list faults.Memory e h = absurd cc
not_list (faults.Line number) e h = absurd cc

-- A fault of the call that writes a stream is one where that call's is.
pub same_output : (e f : EncodeFault) → Output e ≡ Output f → e ≡ f
same_output e f h = cc

-- An error of the source is none.
pub not_input : {X : Type 0} (why : Why) (e : EncodeFault) → Input why ≡ Output e → X
not_input why e h = absurd cc

-- A file of another kind is none.
pub not_kind : {X : Type 0} (e : EncodeFault) → NotRaw ≡ Output e → X
not_kind e h = absurd cc

-- A length that is not whole is none.
pub not_length : {X : Type 0} (e : EncodeFault) → RawLength ≡ Output e → X
not_length e h = absurd cc
