-- What several calls one after another count.
use Rattle.std.proofs.Common.{◌≡◌, ℕ, ◌<◌, ◌≤◌, Bool, true, false, Result, Ok, Err, refl, sym, ap, ◌∙◌, arith}
use Rattle.std.specs.Prelude.{⊤}
use Rattle.flac_bits.specs.State.{State, Rises}
use Rattle.flac_bits.specs.Layout.{Reason}
use Rattle.flac_bits.specs.Reasons.{of_output}
use Rattle.flac_bits.specs.Reading.{Counts}
use Rattle.flac_bits.specs.inner.Reading.{Goes}
use Rattle.flac_bits.specs.declared.why.Why.{Why}
use Rattle.flac_bits.specs.declared.why.Why.TheVariants.{Read}

-- the clause Counts of a call that returned a value
abbrev pub Answered : State → State → Type 0
Answered old new = Counts {X = ⊤} old new (Ok tt)

-- and of one that returned a reason
abbrev pub Failed : Why → State → State → Type 0
Failed e old new = Counts {X = ⊤} old new (Err e)

-- after calls that kept a count
pub rises_then : (old mid new : ℕ) → mid ≡ old → Rises mid new → Rises old new
rises_then old mid new same r = rw (← same) r

pub answered_then : (old mid new : State) → Answered old mid → Answered mid new → Answered old new
answered_then old mid new a b = (λ k. b.0 (a.0 k), b.1 ∙ a.1, b.2 ∙ a.2, λ k. b.3 (a.0 k) ∙ a.3 k, b.4 ∙ a.4)

pub failed_then : {e : Why} (old mid new : State) → Answered old mid → Failed e mid new → Failed e old new
failed_then old mid new a b =
    let errors : mid.errors ≡ old.errors = a.1 in
    let raised : mid.raised ≡ old.raised = a.2 in
    let more : mid.errors ≤ new.errors = b.0 in (
      omega arith,
      λ k same. b.1 (a.0 k) (same ∙ sym errors) ∙ a.3 k,
      λ k q. let lt : mid.raised < new.raised = b.2 (a.0 k) q in omega arith,
      b.3 ∙ a.4,
      λ q. rises_then old.raised mid.raised new.raised raised (b.4 q),
      b.5,
    )

-- a loop that went so far
pub gone : {Y : Type 0} {old now : State} {rest whole : Result Y Reason} → Goes old now rest whole → Answered old now
gone h = (h.known, h.errors, h.raised, h.after, h.names)

-- the reasons of an error of a source, or of the output
abbrev pub is_device : Why → Bool
is_device Read = true
is_device e = of_output e

not_output : (e : Why) → is_device e ≡ false → of_output e ≡ false
not_output Read other = refl
not_output e other = other

other_than : {e d : Why} → is_device e ≡ false → is_device d ≡ true → e ≡ d → ⊥
other_than other device q = let t : false ≡ true = sym other ∙ ap is_device q ∙ device in cc

-- a reason that is not of the output is none of the two
pub none_of_output : {e d : Why} → of_output e ≡ false → of_output d ≡ true → e ≡ d → ⊥
none_of_output none output q = let t : false ≡ true = sym none ∙ ap of_output q ∙ output in cc

-- a refusal by another reason after a call that returned a value
pub refused_then : {e : Why} (old new : State) → Answered old new → is_device e ≡ false → Failed e old new
refused_then {e = e} old new a other = (
  omega (arith, a.1),
  λ k same. a.3 k,
  λ k q. absurd (other_than other refl q),
  a.4,
  λ q. absurd (other_than other refl q),
  not_output e other,
)
