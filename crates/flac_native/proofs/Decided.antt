-- Which answer retagging gives for which input.
use Rattle.std.proofs.Common.{◌≡◌, ◌≢◌, Bool, List, ◌++◌, Result, Ok, Err, Option, Some, None, ◌⊎◌, inr, refl, ap, ◌∙◌}
use Rattle.std.specs.Prelude.{IfErr, IfSome, OnOk, IsErrAnd}
use Rattle.flac_bits.specs.State.{Mark}
use Rattle.flac_bits.specs.declared.why.Why.{Why}
use Rattle.flac_bits.specs.declared.why.Why.TheVariants as why
use Rattle.flac_info.specs.Info.{Info}
use Rattle.flac_meta.specs.declared.block.Block.{Block}
use Rattle.flac_meta.specs.declared.comments.Comments.{Comments}
use Rattle.flac_native.specs.Retag.{BeginsWith, HasHead, IsRefused, Retags, retagged, too_long, not_read, not_written}
use Rattle.flac_native.specs.declared.fault.Place.{Place}
use Rattle.flac_native.specs.declared.retagging.RetagFault.{RetagFault}
use Rattle.flac_native.proofs.OneHead.{heads_are_one, one_head}

-- what was written is the output for each way in which the input begins
pub exact : (m : Mark) (text : List Bool) (comments : Comments) (before after : List Bool) → Retags m text comments before after → (info : Info) (list : List Block) (rest : List Bool) → BeginsWith m text info list rest
    → after ≡ before ++ retagged comments info list rest
exact m text comments before after r info list rest b =
    let same = one_head m text r.info info r.list list r.rest rest r.input b in
    r.output ∙ ap (λ i. before ++ retagged comments i r.list r.rest) same.0 ∙ ap (λ l. before ++ retagged comments info l r.rest) same.1 ∙ ap (λ t. before ++ retagged comments info list t) same.2

pub exact_ok : {X : Type 0} (K L : Type 0) (m : Mark) (text : List Bool) (comments : Comments) (before after : List Bool) (r : Result X RetagFault) → OnOk r (K → L → Retags m text comments before after)
    → OnOk r (K → L → (info : Info) (list : List Block) (rest : List Bool) → BeginsWith m text info list rest → after ≡ before ++ retagged comments info list rest)
exact_ok K L m text comments before after (Ok x) h = λ k l. exact m text comments before after (h k l)
exact_ok K L m text comments before after (Err e) h = tt

-- an input with a head is refused for the devices and the memory alone
pub accepted : {X : Type 0} (K A B C : Type 0) (m : Mark) (text : List Bool) (r : Result X RetagFault) → (B → C → A)
    → IfErr r (λ f. f.at ≡ None → f ≡ not_written) → IfErr r (λ f. IfSome f.at (λ at. K → A → f.why ≢ why.Memory → IsRefused m text at f.why))
    → IfErr r (λ f. f ≢ too_long → K → B → C → f.why ≢ why.Memory → HasHead m text → f ≡ not_written)
accepted K A B C m text (Ok x) calm none some = tt
accepted K A B C m text (Err f) calm none some = λ short. go f.at none some
  where
    go : (o : Option Place) → (o ≡ None → f ≡ not_written) → IfSome o (λ at. K → A → f.why ≢ why.Memory → IsRefused m text at f.why) → K → B → C → f.why ≢ why.Memory → HasHead m text → f ≡ not_written
    go None none some k b c room head = none refl
    go (Some at) none some k b c room head = absurd ((heads_are_one m text).either at f.why head (some k (calm b c) room))

-- and one that is to be refused is refused just so
pub shown : {X : Type 0} (K A B C : Type 0) (m : Mark) (text : List Bool) (r : Result X RetagFault) → (B → C → A)
    → OnOk r (K → HasHead m text) → IfErr r (λ f. (f ≡ not_read) ⊎ (f ≡ not_written) → K → HasHead m text)
    → IfErr r (λ f. f.at ≡ None → f ≡ not_written) → IfErr r (λ f. IfSome f.at (λ at. K → A → f.why ≢ why.Memory → IsRefused m text at f.why))
    → (at : Place) (w : Why) → IsRefused m text at w → K → B → C → IsErrAnd r (λ f. f.why ≢ why.Memory → f ≡ record { at = Some at; why = w })
shown K A B C m text (Ok x) calm head found none some at w r k b c = absurd ((heads_are_one m text).either at w (head k) r)
shown K A B C m text (Err f) calm head found none some at w r k b c = λ room. go f.at refl none some room
  where
    go : (o : Option Place) → f.at ≡ o → (o ≡ None → f ≡ not_written) → IfSome o (λ to. K → A → f.why ≢ why.Memory → IsRefused m text to f.why) → f.why ≢ why.Memory → f ≡ record { at = Some at; why = w }
    go None is none some room = absurd ((heads_are_one m text).either at w (found (inr (none refl)) k) r)
    go (Some to) is none some room =
        let same = (heads_are_one m text).refusals to at f.why w (some k (calm b c) room) r in
        fault (is ∙ ap (λ p. placed p) same.0) same.1
      where
        placed : Place → Option Place
        placed p = Some p

        fault : f.at ≡ Some at → f.why ≡ w → f ≡ record { at = Some at; why = w }
        fault p v = ap (λ (o : Option Place). record { at = o; why = f.why }) p ∙ ap (λ (x : Why). record { at = Some at; why = x }) v
