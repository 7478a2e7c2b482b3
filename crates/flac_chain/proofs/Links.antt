-- The source after one stream of a chain.
use Rattle.std.proofs.Common.{◌≡◌, true, Result, Ok, Err, OnOk, IfOk, IfErr, sym, ap, subst, ◌∙◌}
use Rattle.flac_bits.specs.declared.source.Source as source
use Rattle.flac_around.specs.Chains.{later_links}
use Rattle.flac_around.specs.Linking.{ghosts_of}
use Rattle.flac_around.specs.declared.chain_link.ChainLink.{ChainLink}
use Rattle.flac_around.proofs.ChainNames.{same_start, bit_true}
use Rattle.flac_chain.specs.inner.Linked.{IsPassedTo}

pub then_ok : {A E X Y : Type 0} (r : Result A E) → OnOk r X → (X → Y) → OnOk r Y
then_ok (Ok a) x f = f x
then_ok (Err e) x f = tt

module _ {S : Type 0} {g : source.Ghosts S} where
  -- the source has the streams after it
  pub later_kept : (first link : ChainLink S g) (source now : S) → first.began.value ≡ source → ghosts_of.names link ≡ ghosts_of.names first → IsPassedTo link now → g.known source ≡ true → g.raised now ≡ g.raised source
      → (g.known now ≡ true) × (g.coming now ≡ later_links (g.coming source))
  later_kept first link source now began names passed known quiet =
      let start = same_start link first names in
      let same = ap g.known began in
      let h = passed (bit_true (g.known link.began.value) (g.known first.began.value) start.known (same ∙ known)) (quiet ∙ sym (ap g.raised began) ∙ sym start.raised) in
      (h.0, h.1 ∙ start.later ∙ ap (λ s. later_links (g.coming s)) began)

  -- its names are the same
  pub names_kept : (first link : ChainLink S g) (source : S) → first.source ≡ source → ghosts_of.names link ≡ ghosts_of.names first → g.names link.source ≡ g.names source
  names_kept first link source is names = (same_start link first names).names ∙ ap g.names is

-- ---- a result that is known

pub at_ok : {A E X : Type 0} (r : Result A E) (x : A) → r ≡ Ok x → OnOk r X → X
at_ok (Ok a) x is h = h
at_ok (Err e) x is h = absurd cc

pub if_ok : {A E : Type 0} (P : A → Type 0) (r : Result A E) (x : A) → r ≡ Ok x → IfOk r P → P x
if_ok {A} {E} P r x is h = subst (λ (s : Result A E). IfOk s P) is h

pub if_err : {A E : Type 0} (P : E → Type 0) (r : Result A E) (x : E) → r ≡ Err x → IfErr r P → P x
if_err {A} {E} P r x is h = subst (λ (s : Result A E). IfErr s P) is h
