-- What a search for predictors changes of a plan, and what it does not.
use Rattle.std.proofs.Common.{◌≡◌, ◌⊎◌, List, [], All, true, Some, None, refl, ap, sym, subst, ◌∙◌, inl, inr}
use Rattle.std.proofs.lemmas.List.Elements.{All-nil}
use Rattle.flac_meta.specs.declared.block.Block.{Block}
use Rattle.flac_frame.specs.Audio.{Sound}
use Rattle.flac_native.specs.Given.{Cut, with_found, fits_plan, plan_fault}
use Rattle.flac_native.specs.declared.fault.EncodeFault.{EncodeFault}
use Rattle.flac_native.proofs.Planned.{still_found}
use Rattle.flac_predict.specs.Found.{IsPrefixOf, AllBegin}
use Rattle.flac_predict.specs.declared.search.Search.{Search}
use Rattle.flac_subframe.specs.declared.format.linear.LinearPredictor.{LinearPredictor}
use Rattle.flac_cli.specs.Asked.{Asked}
use Rattle.flac_cli.specs.Encoded.{AreFound, cut_as, cut_found}
use Rattle.flac_cli.specs.Refusals.{stream_fault, IsOutside}
use Rattle.flac_cli.specs.declared.encode.Refusal.TheVariants.{Output}
use Rattle.flac_cli.specs.inner.Searching.{search_of, IsSearched}
use Rattle.flac_jobs.specs.declared.formats.ContainerKind.{ContainerKind}
use Rattle.flac_jobs.specs.declared.formats.ContainerKind.TheVariants as container
use Rattle.flac_jobs.specs.declared.search_effort.SearchEffort.{SearchEffort}

-- ---- the plan

module _ (effort : SearchEffort) (p : Cut) where
  -- one for which nothing was sought
  pub unsought : p.found ≡ [] → IsSearched effort p p
  unsought none = record {
    found = [];
    sought = record { none = λ e. refl; begins = All-nil (All (IsPrefixOf p.predictors)) };
    is = ap (λ l. with_found p l) none;
  }

  -- one with the lists that were found
  pub sought_lists : (s : Search) (q : Cut) (found : List (List (List LinearPredictor))) → Some s ≡ search_of effort → q ≡ with_found p found → AllBegin p.predictors found → IsSearched effort p q
  sought_lists s q found some is begins = record {
    found = found;
    sought = record { none = λ e. let bad : Some s ≡ None = some ∙ ap search_of e in absurd cc; begins = begins };
    is = is;
  }

-- it fits the same samples
pub still_fits : (p q : Cut) (found : List (List (List LinearPredictor))) (a : Sound) → q ≡ with_found p found → fits_plan p a ≡ true → fits_plan q a ≡ true
still_fits p q found a is fits = ap (λ k. fits_plan k a) is ∙ fits

-- ---- what is asked for

module _ (asked : Asked) (a : Sound) (ps : List LinearPredictor) (p q : Cut) (cut : p ≡ cut_as asked a ps) (s : IsSearched asked.effort p q) where
  pub cut_is : q ≡ cut_found asked a ps s.found
  cut_is = s.is ∙ ap (λ k. with_found k s.found) cut

  pub are_found : AreFound asked.effort ps s.found
  are_found = subst (λ (k : Cut). AreFound asked.effort k.predictors s.found) cut s.sought

  pub found_good : plan_fault p ≡ None → plan_fault (cut_found asked a ps s.found) ≡ None
  found_good good = still_found (cut_as asked a ps) s.found (subst (λ k. plan_fault k ≡ None) cut good)

-- the container judges it as before
pub same_stream : (c : ContainerKind) (p q : Cut) (found : List (List (List LinearPredictor))) (l : List Block) → q ≡ with_found p found → stream_fault c q l ≡ stream_fault c p l
same_stream container.Native p q found l is = ap (λ k. stream_fault container.Native k l) is
same_stream (container.Ogg serial) p q found l is = ap (λ k. stream_fault (container.Ogg serial) k l) is

pub same_refusal : (c : ContainerKind) (p q : Cut) (found : List (List (List LinearPredictor))) (l : List Block) (e : EncodeFault) → q ≡ with_found p found
    → IsOutside (Output e) ⊎ (stream_fault c q l ≡ Some e) → IsOutside (Output e) ⊎ (stream_fault c p l ≡ Some e)
same_refusal c p q found l e is (inl out) = inl out
same_refusal c p q found l e is (inr h) = inr (sym (same_stream c p q found l is) ∙ h)
