-- For proofs of encoding a stream anew: what is made of what a source gives, and why it is refused.
use Rattle.std.specs.Prelude.{◌≡◌, ◌⊎◌, ℤ, true, List, map, Vec, Some, None}
use Rattle.std.specs.Global.{Global}
use Rattle.flac_bits.specs.declared.source.Source as source
use Rattle.flac_bits.specs.declared.why.Why.TheVariants as why
use Rattle.flac_info.specs.Info.{Info}
use Rattle.flac_header.specs.declared.subset.Profile.{Profile}
use Rattle.flac_frame.specs.Audio.{audio_fault}
use Rattle.flac_native.specs.declared.fault.EncodeFault.TheVariants as encode
use Rattle.flac_native.specs.declared.fault.Fault.{Fault}
use Rattle.flac_subframe.specs.declared.format.linear.LinearPredictor.{LinearPredictor}
use Rattle.flac_cli.specs.Asked.{asked_of}
use Rattle.flac_cli.specs.RecodeRefusals.{IsInputReason, IsRecodeReason, IsOutside}
use Rattle.flac_cli.specs.Streams.{Tells}
use Rattle.flac_cli.specs.inner.Holding.{view_of, HoldsStream, IsReadyIn, IsReadyOf, IsFaultOf}
use Rattle.flac_cli.specs.declared.encode.Encoding.{Encoding}
use Rattle.flac_cli.specs.declared.encode.Refusal.TheVariants.{Output}
use Rattle.flac_cli.specs.declared.held_stream.HeldStream.{HeldStream}
use Rattle.flac_cli.specs.declared.recode.Ready.{Ready}
use Rattle.flac_cli.specs.declared.recode.RecodeRefusal.{RecodeRefusal}
use Rattle.flac_cli.specs.declared.recode.RecodeRefusal.TheVariants.{Refused}

-- the target failed
abbrev pub not_written : RecodeRefusal
not_written = Refused (Output encode.Write)

-- ---- what is held

-- these channels can be encoded with the rate and the depth of this STREAMINFO
abbrev pub CanBeAudio : Profile → Info → (channels : List (Vec ℤ Global)) → Type 0
CanBeAudio profile info channels = audio_fault profile info.rate info.depth (map (λ c. c.items) channels) ≡ None

-- with these predictors this is made of what is held
abbrev pub IsReadyHeld : Encoding → (ps : List LinearPredictor) → HeldStream → Ready → Type 0
IsReadyHeld encoding ps held r = IsReadyOf (asked_of encoding) ps (view_of held) r.plan r.list r.audio

-- ---- a source, if its bytes are known

-- they are a stream, and this is held of it
abbrev pub HoldsSource : {S : Type 0} (g : source.Ghosts S) → S → HeldStream → Type 0
HoldsSource g from held = g.known from ≡ true → HoldsStream (g.coming from) (g.after from) (view_of held)

-- they are a stream, and this is made of it with these predictors
abbrev pub IsReadyFrom : {S : Type 0} (g : source.Ghosts S) → Encoding → (ps : List LinearPredictor) → S → Ready → Type 0
IsReadyFrom g encoding ps from r = g.known from ≡ true → IsReadyIn (asked_of encoding) ps (g.coming from) (g.after from) r.plan r.list r.audio

-- ---- an error, if the source did not fail

-- where and why the stream is refused; or out of memory
abbrev pub IsFaultIn : {S : Type 0} (g : source.Ghosts S) → (from to : S) → Fault → Type 0
IsFaultIn g from to f = Tells g from to → (f.why ≡ why.Memory) ⊎ IsFaultOf (g.coming from) (g.after from) f

-- the first reason for which it cannot be encoded anew with these predictors; or out of memory, or the target failed
abbrev pub IsInputRefusal : {S : Type 0} (g : source.Ghosts S) → Encoding → (ps : List LinearPredictor) → (from to : S) → RecodeRefusal → Type 0
IsInputRefusal g encoding ps from to e = Tells g from to → IsOutside e ⊎ IsInputReason (asked_of encoding) ps (g.coming from) (g.after from) (Some e)

-- the same with the list of the encoding
abbrev pub IsRecodeRefusal : {S : Type 0} (g : source.Ghosts S) → Encoding → (from to : S) → RecodeRefusal → Type 0
IsRecodeRefusal g encoding from to e = Tells g from to → IsOutside e ⊎ IsRecodeReason (asked_of encoding) (g.coming from) (g.after from) (Some e)
