-- What a sink has kept that keeps STREAMINFO and the comments.
use Rattle.std.proofs.Common.{◌≡◌, ◌≢◌, ℕ, Bool, List, [], ◌∷◌, nat_lt, true, false, is_some, None, Some, Option, Result, Ok, Err, OnOk, IfErr, ap, sym, refl, subst, ◌∙◌, inl, inr, arith}
use Rattle.std.proofs.lemmas.Bool.{cases_lt}
use Rattle.flac_bits.specs.declared.why.Why.{Why}
use Rattle.flac_bits.specs.declared.why.Why.TheVariants.{Memory, Sink}
use Rattle.flac_native.specs.declared.fault.Place.{Place}
use Rattle.flac_native.specs.declared.fault.Fault.{Fault}
use Rattle.flac_info.specs.Info.{Info}
use Rattle.flac_meta.specs.declared.comments.Comments.{Comments}
use Rattle.flac_bits.specs.Handing.{TakesAll, Hands, outcome_of}
use Rattle.flac_header.specs.declared.subset.Profile.{Profile}
use Rattle.flac_ogg.specs.Verifying.{Verifies, bytes_reading}
use Rattle.flac_native.specs.Stream.{Piece, marked, block, framed}
use Rattle.flac_native.specs.Item.{Item, fault_pair}
use Rattle.flac_native.specs.Decoding.{taken}
use Rattle.flac_c.specs.Heads.{info_from, comments_from, frames_from}
use Rattle.flac_c.specs.inner.Heads.{info_after_item, comments_after_item, frames_after_item}

-- What holds of a count that is 0.
pub can_rise : (n : ℕ) → n ≡ 0 → nat_lt n 18446744073709551615 ≡ true
can_rise n is = rw is refl

-- What holds at Ok holds where it is one.
pub then_ok : {A E : Type 0} (X : Type 0) (r : Result A E) (a : A) → r ≡ Ok a → OnOk r X → X
then_ok {A} {E} X r a is h = subst (λ (q : Result A E). OnOk q X) is h

-- What holds where nothing was refused holds at Ok.
pub at_ok : {A X : Type 0} (r : Result A Fault) → (outcome_of fault_pair r ≡ None → X) → OnOk r X
at_ok (Ok a) h = h refl
at_ok (Err e) h = tt

-- What holds of each refusal but out of memory holds at Err.
pub at_err : {A : Type 0} (X : Place → Why → Type 0) (r : Result A Fault) → ((at : Place) (why : Why) → outcome_of fault_pair r ≡ Some (at, why) → why ≢ Memory → X at why) → IfErr r (λ f. f.why ≢ Memory → X f.at f.why)
at_err X (Ok a) h = tt
at_err X (Err e) h = λ other. h e.at e.why refl other

abbrev why_in : Option (Place × Why) → Why
why_in None = Memory
why_in (Some p) = p.1

-- Why bytes are refused whose receiver fails only if an allocation fails: that is told as such.
pub refused_in_memory : {K : Type 0} (profile : Profile) (bytes : List ℕ) (takes : K → Piece → K → Type 0) (errors : K → ℕ) (calm : Type 0) (old new : K) (f : Fault) (w : Why)
    → Hands (bytes_reading profile bytes) takes errors calm old new (Some (fault_pair f)) → calm → errors old ≡ 0
    → (f.why ≡ Sink → w ≡ Memory) → (f.why ≢ Sink → w ≡ f.why)
    → Verifies profile bytes (Some (f.at, w))
refused_in_memory profile bytes takes errors calm old new f w h quiet none sink others = λ other.
    let apart : f.why ≢ Sink = λ s. other (sink s) in
    let same : w ≡ f.why = others apart in
    elim (cases_lt 0 (errors new)) [
      | inl rose ↦ absurd (apart (ap why_in (h.failed (omega (arith, none, rose))).1))
      | inr few ↦
          let d = h.refused quiet f.at f.why refl (λ m. other (same ∙ m)) (omega (arith, none, few)) in
          (d.0, subst (λ v. (bytes_reading profile bytes).refused d.0 f.at v) (sym same) d.1)
    ]

-- What holds of a STREAMINFO that is there.
pub found_one : (P : Option Info → Type 0) (o : Option Info) → is_some o ≡ true → P o → (i : Info) × P (Some i)
found_one P None e h = absurd cc
found_one P (Some i) e h = (i, h)

module _ {S : Type 0} (info : S → Option Info) (comments : S → Option Comments) (over : S → Bool) where
  -- what such a sink makes of an item
  abbrev pub Keeps : S → Item → S → Type 0
  Keeps s x t = record {
    info : info t ≡ info_after_item (info s) x;
    comments : comments t ≡ comments_after_item (comments s) x;
    over : over t ≡ frames_after_item (over s) x;
  }

  -- It has kept what the items have.
  pub all_kept : (old : S) (xs : List Piece) (new : S) → TakesAll (taken Keeps) old xs new
      → (info new ≡ info_from (info old) xs) × (comments new ≡ comments_from (comments old) xs) × (over new ≡ frames_from (over old) xs)
  all_kept old [] new h = (ap info (sym h), ap comments (sym h), ap over (sym h))
  all_kept old (marked ∷ xs) new h =
      let more = all_kept h.0 xs new h.2 in
      (more.0 ∙ ap (λ o. info_from o xs) (ap info (sym h.1)), more.1 ∙ ap (λ o. comments_from o xs) (ap comments (sym h.1)), more.2 ∙ ap (λ o. frames_from o xs) (ap over (sym h.1)))
  all_kept old (block last b ∷ xs) new h =
      let more = all_kept h.0 xs new h.2 in
      (more.0 ∙ ap (λ o. info_from o xs) h.1.info, more.1 ∙ ap (λ o. comments_from o xs) h.1.comments, more.2 ∙ ap (λ o. frames_from o xs) h.1.over)
  all_kept old (framed f ∷ xs) new h =
      let more = all_kept h.0 xs new h.2 in
      (more.0 ∙ ap (λ o. info_from o xs) h.1.info, more.1 ∙ ap (λ o. comments_from o xs) h.1.comments, more.2 ∙ ap (λ o. frames_from o xs) h.1.over)

  -- So has one that began with neither.
  pub kept_from_none : (old : S) (xs : List Piece) (new : S) → TakesAll (taken Keeps) old xs new → info old ≡ None → comments old ≡ None → over old ≡ false
      → (info new ≡ info_from None xs) × (comments new ≡ comments_from None xs) × (over new ≡ frames_from false xs)
  kept_from_none old xs new h i c o =
      let all = all_kept old xs new h in
      (all.0 ∙ ap (λ k. info_from k xs) i, all.1 ∙ ap (λ k. comments_from k xs) c, all.2 ∙ ap (λ k. frames_from k xs) o)

  -- And so has one that stands where such a one stood.
  pub begun_kept : (old : S) (xs : List Piece) (mid new : S) → TakesAll (taken Keeps) old xs mid → mid ≡ new → info old ≡ None → comments old ≡ None → over old ≡ false
      → (info new ≡ info_from None xs) × (comments new ≡ comments_from None xs) × (over new ≡ frames_from false xs)
  begun_kept old xs mid new h same i c o = kept_from_none old xs new (subst (λ s. TakesAll (taken Keeps) old xs s) same h) i c o
