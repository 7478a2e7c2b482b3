-- What is said of a file that is refused.
use Rattle.std.proofs.Common.{◌≡◌, ◌⊎◌, ◌↔◌, ℕ, Bool, true, false, List, [], ◌++◌, append-nil, Option, Some, None, IfSome, Result, Ok, Err, IfOk, IfErr, Vec, Global, refl, sym, ap, subst, ◌∙◌, codes, inl, inr}
use Rattle.flac_bits.specs.declared.source.Source as source
use Rattle.flac_bits.specs.declared.target.Target as target
use Rattle.flac_bits.specs.declared.why.Why.{Why}
use Rattle.flac_bits.specs.declared.why.Why.TheVariants as why
use Rattle.flac_rescue.specs.Survey.{IsSurveyFault}
use Rattle.flac_rescue.specs.declared.survey.SurveyFault.{SurveyFault}
use Rattle.flac_shelf.specs.Listed.{Contents, Listed, Opens}
use Rattle.flac_whole_pages.specs.Left.{IsNativeLeft}
use Rattle.flac_whole_pages.specs.declared.left.Left.{Left}
use Rattle.flac_cli.specs.Missing.{IsOutOfMemory, IsSaidOf}
use Rattle.flac_cli.specs.Verified.{file_line}
use Rattle.flac_cli.specs.declared.verify_missing.Unlisted.{Unlisted}
use Rattle.flac_cli.specs.declared.verify_missing.Unlisted.TheVariants.{Unsurveyed, Memory}
use Rattle.flac_cli.specs.inner.Missing.{IsContents, IsUnread, IsUnsurveyed, AreLinesAbout, line_for}
use Rattle.flac_cli.specs.inner.Verifying.{IsListed}
use Rattle.flac_cli.proofs.Told.{none_told}

-- why bytes that are not surveyed are not listed
pub unlisted_for : (bytes : List ℕ) (fault : SurveyFault) (e : Unlisted) → IsSurveyFault bytes fault → (e ≡ Memory ↔ IsOutOfMemory fault) → IsUnsurveyed bytes e
unlisted_for bytes fault Memory is same = inl refl
unlisted_for bytes fault Unsurveyed is same = inr (record { fault = fault; is = is; shown = λ out. other (same.1 out) }, refl)
  where
    other : Unsurveyed ≡ Memory → ⊥
    other e = absurd cc

-- what is said of the bytes in which a stream is left
module _ (path input : List ℕ) (left : Left) (native : IsNativeLeft input left) where
  said_of_left : (text : List ℕ) → AreLinesAbout path left text → IsSaidOf path input text
  said_of_left text h = inl (record { left = left; native = native; survey = h.0; is = h.1; lines = h.2 })

  unsaid_of_left : (e : Unlisted) → IsUnsurveyed left.bytes.items e → IsSaidOf path input (line_for path e)
  unsaid_of_left e (inl memory) = inr (inr (ap (line_for path) memory))
  unsaid_of_left e (inr (h, is)) = inr (inl (record { left = left; native = native; fault = h.fault; is = h.is; shown = h.shown }, ap (line_for path) is))

  pub ok_of_left : (r : Result (Vec ℕ Global) Unlisted) → IfOk r (λ text. AreLinesAbout path left text.items) → IfOk r (λ text. IsSaidOf path input text.items)
  ok_of_left (Ok text) h = said_of_left text.items h
  ok_of_left (Err e) h = tt

  pub err_of_left : (r : Result (Vec ℕ Global) Unlisted) → IfErr r (IsUnsurveyed left.bytes.items) → IfErr r (λ e. IsSaidOf path input (line_for path e))
  err_of_left (Ok text) h = tt
  err_of_left (Err e) h = unsaid_of_left e h

-- the line as it is printed
pub line_said : (path given text : List ℕ) (e : Unlisted) → given ≡ path → (e ≡ Unsurveyed → text ≡ codes "what is missing cannot be listed") → (e ≡ Memory → text ≡ codes "what is missing cannot be listed: 2 Memory")
    → file_line given (text ++ []) ≡ line_for path e
line_said path given text Unsurveyed at unsurveyed memory = ap (λ p. file_line p (text ++ [])) at ∙ ap (file_line path) (append-nil text ∙ unsurveyed refl)
line_said path given text Memory at unsurveyed memory = ap (λ p. file_line p (text ++ [])) at ∙ ap (file_line path) (append-nil text ∙ memory refl)

-- an opened file
module _ {F : Type 0} (g : source.Ghosts F) where
  pub contents_read : {contents : Option Contents} (file : F) (bytes : List ℕ) → Opens g contents file → (g.known file ≡ true → bytes ≡ g.coming file) → IsContents contents bytes
  contents_read file bytes o all = record {
    of = o.of;
    is = o.is;
    all = all o.known ∙ o.coming;
  }

  -- If its device did not fail, memory ran out.
  pub contents_unread : {contents : Option Contents} (file read : F) (w : Why) (e : Unlisted) → Opens g contents file → (g.known file ≡ true → g.raised read ≡ g.raised file → w ≡ why.Memory) → (e ≡ Memory ↔ w ≡ why.Memory) → g.raised read ≡ 0 → IsUnread contents e
  contents_unread file read w e o memory same calm = subst (λ k. IsUnread k e) (sym o.is) (same.1 (memory o.known (calm ∙ sym o.raised)))

module _ {T : Type 0} (g : target.Ghosts T) where
  -- what is said if it is asked for, by two equal conditions
  pub listed_same : {asked other : Bool} {file : Listed} {old new : T} → IsListed g asked file old new → asked ≡ other → IsListed g other file old new
  listed_same {file = file} {old = old} {new = new} p same = subst (λ b. IsListed g b file old new) same p

  -- nothing is said
  pub none_listed : (file : Listed) (t : T) → IsListed g false file t t
  none_listed file t = record {
    text = [];
    missing = refl;
    told = none_told g t;
  }
