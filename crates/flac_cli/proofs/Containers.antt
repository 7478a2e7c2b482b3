-- What a stream was found to be that was read after its first byte.
use Rattle.std.proofs.Common.{◌≡◌, ◌≢◌, ◌<◌, ℕ, Bool, List, Result, IfOk, IfErr, sym, subst, arith}
use Rattle.flac_header.specs.declared.subset.Profile.{Profile}
use Rattle.flac_ogg.specs.Either.{begins_page}
use Rattle.flac_cli.specs.Verified.{IsDescribed}
use Rattle.flac_cli.specs.inner.Verifying.{IsFlaw}
use Rattle.flac_cli.specs.declared.verify_facts.Facts.{Facts}
use Rattle.flac_cli.specs.declared.verify_facts.Flaw.{Flaw}

-- The same of the same bytes.
module _ (profile : Profile) (bytes others : List ℕ) (same : bytes ≡ others) (r : Result Facts Flaw) where
  pub facts_moved : IfOk r (IsDescribed profile others) → IfOk r (IsDescribed profile bytes)
  facts_moved is = subst (λ b. IfOk r (IsDescribed profile b)) (sym same) is

  pub flaw_moved : IfErr r (IsFlaw profile others) → IfErr r (IsFlaw profile bytes)
  flaw_moved is = subst (λ b. IfErr r (IsFlaw profile b)) (sym same) is

-- the container by the first byte
pub container_by : (bytes : List ℕ) (is_ogg : Bool) (r : Result Facts Flaw) → is_ogg ≡ begins_page bytes → IfOk r (λ facts. facts.is_ogg ≡ is_ogg) → IfOk r (λ facts. facts.is_ogg ≡ begins_page bytes)
container_by bytes is_ogg r by is = subst (λ b. IfOk r (λ facts. facts.is_ogg ≡ b)) by is

-- a source whose count of errors rose did not return none
pub rose : {X : Type 0} (old new : ℕ) → old < new → new ≡ old → X
rose old new more same = absurd (omega (arith, more, same))
