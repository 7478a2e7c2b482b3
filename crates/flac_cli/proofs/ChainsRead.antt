-- Streams one after another that were read, and the line of one that is refused.
use Rattle.std.proofs.Common.{◌≡◌, ◌≢◌, ◌⊎◌, ◌+◌, ℕ, Bool, true, false, nat_eq, List, ◌++◌, Some, inl, inr, refl, sym, ap, ◌∙◌, arith}
use Rattle.std.specs.Prelude.{cond, min}
use Rattle.flac_bits.specs.declared.why.Why.TheVariants as why
use Rattle.flac_header.specs.declared.subset.Profile.{Profile}
use Rattle.flac_chain.specs.declared.chain.ChainFault.{ChainFault}
use Rattle.flac_cli.specs.Chains.{ReadsAsChain, IsOutOfMemory, stream_path, numbered}
use Rattle.flac_bits.specs.declared.source.Source as source
use Rattle.flac_cli.specs.ChainDecoded.{FitsSamples, outcome_by}
use Rattle.flac_cli.specs.declared.chain_samples.Failing.{Failing}
use Rattle.flac_cli.specs.declared.chain_samples.Failing.TheVariants.{Nothing, Format, Target}
use Rattle.flac_cli.proofs.Reported.{memory_or_not}

-- it is refused as it is, or memory ran out
pub fits : (profile : Profile) (bytes : List ℕ) (f : ChainFault) → (f.fault.why ≢ why.Memory → ReadsAsChain profile bytes (Some f)) → IsOutOfMemory (Some f) ⊎ ReadsAsChain profile bytes (Some f)
fits profile bytes f is = elim (memory_or_not f.fault.why) [
  | inl memory ↦ inl memory
  | inr other ↦ inr (is other)
]

pub first_path : (path : List ℕ) (stream : ℕ) → nat_eq stream 0 ≡ true → stream_path path stream ≡ path
first_path path stream e = ap (λ b. cond b path (numbered path (min (stream + 1) 18446744073709551615))) e

pub later_path : (path : List ℕ) (stream : ℕ) → nat_eq stream 0 ≡ false → stream_path path stream ≡ numbered path (min (stream + 1) 18446744073709551615)
later_path path stream e = ap (λ b. cond b path (numbered path (min (stream + 1) 18446744073709551615))) e

pub not_first : (n : ℕ) → (n ≡ 0 → ⊥) → nat_eq n 0 ≡ false
not_first n other = go (nat_eq n 0) refl
  where
    go : (b : Bool) → nat_eq n 0 ≡ b → nat_eq n 0 ≡ false
    go true e = let f : n ≡ 0 = grind (arith, e) in absurd (other f)
    go false e = e

-- so is what a decoding reports
pub fits_by : {S : Type 0} (g : source.Ghosts S) (profile : Profile) (from : S) (failing : Failing) (f : ChainFault) → (failing ≡ Nothing → f.fault.why ≢ why.Memory → ReadsAsChain profile (g.coming from) (Some f)) → FitsSamples g profile from (outcome_by failing f)
fits_by g profile from Nothing f is = fits profile (g.coming from) f (is refl)
fits_by g profile from Format f is = tt
fits_by g profile from Target f is = tt
