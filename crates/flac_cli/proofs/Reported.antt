-- What an outcome says of the input that it is reported of.
use Rattle.std.proofs.Common.{◌≡◌, ◌≢◌, ◌≤◌, ◌<◌, ◌⊎◌, ◌-◌, ◌^◌, ℕ, Bool, true, false, cond, List, Option, Some, None, Result, Ok, Err, OnOk, OnErr, IfErr, IfSome, IsErrAnd, refl, ap, sym, ◌∙◌, subst, arith, inl, inr}
use Rattle.std.proofs.lemmas.Bool.{cases_lt}
use Rattle.flac_bits.specs.Bits.{bits_of, bit_value}
use Rattle.flac_bits.specs.Handing.{Hands, Decides, outcome_of}
use Rattle.flac_bits.specs.Reasons as reasons
use Rattle.flac_bits.specs.State.{After, Rises, short_of}
use Rattle.flac_bits.specs.declared.why.Why.{Why}
use Rattle.flac_bits.specs.declared.why.Why.TheVariants as why
use Rattle.flac_meta.specs.Spelling.{comments_length}
use Rattle.flac_meta.specs.declared.comments.Comments.{Comments}
use Rattle.flac_native.specs.Decoding.{beginning}
use Rattle.flac_native.specs.Item.{fault_pair}
use Rattle.flac_header.specs.declared.subset.Profile.{Profile}
use Rattle.flac_native.specs.Retag.{HasHead, IsRefused, too_long, not_written}
use Rattle.flac_native.specs.Stream.{Piece}
use Rattle.flac_native.specs.declared.fault.Fault.{Fault}
use Rattle.flac_native.specs.declared.fault.Place.{Place}
use Rattle.flac_native.specs.declared.retagging.RetagFault.{RetagFault}
use Rattle.flac_cli.specs.Encoded.{comments_of}
use Rattle.flac_cli.specs.Lined.{text_at}
use Rattle.flac_cli.specs.inner.Lined.{at_place}
use Rattle.flac_cli.specs.inner.Outcomes as inner_outcomes
use Rattle.flac_cli.specs.Outcomes.{Outcome, reason_text, input_reading, Reads, IsRetagged, IsOutOfMemory, IsRetagOutOfMemory, IsUnlisted, Fits}
use Rattle.flac_cli.specs.inner.Outcomes.{at_some_place}

-- ---- reasons

other_number : (w : Why) → reasons.number_of w ≢ 2 → w ≢ why.Memory
other_number w n e = n (ap reasons.number_of e)

-- a reason is that memory ran out, or it is not
pub memory_or_not : (w : Why) → (w ≡ why.Memory) ⊎ (w ≢ why.Memory)
memory_or_not why.Memory = inl refl
memory_or_not w = inr (other_number w (λ e. absurd (omega (arith, e))))

-- the text of a reason after that of its place
pub reason_placed : (at : Option Place) (w : Why) → text_at (at_place at) (reasons.text_of w) ≡ reason_text at w
reason_placed None w = refl
reason_placed (Some at) w = refl

-- ---- decoding

abbrev as_outcome : Option (Place × Why) → Outcome
as_outcome None = None
as_outcome (Some p) = Some (Some p.0, p.1)

module _ (profile : Profile) (bytes : List ℕ) (after : After) {K : Type 0} (takes : K → Piece → K → Type 0) (errors : K → ℕ) (calm : Type 0) (old new : K) where
  -- What a call that decodes answers is what the input is, if neither the source nor the sink failed.
  pub decoded_fits : (r : Result (Unit {0}) Fault) → Hands (input_reading profile bytes after) takes errors calm old new (outcome_of fault_pair r) → Decides (input_reading profile bytes after) (outcome_of fault_pair r)
      → calm → errors new ≡ errors old → Fits IsOutOfMemory (Reads profile bytes after) (outcome_of inner_outcomes.at_place r)
  decoded_fits (Ok x) h d quiet same =
      let whole = h.done quiet refl in
      record {
        right = inr (whole.0, whole.1);
        each = not_refused;
      }
    where
      not_refused : (other : Outcome) → Reads profile bytes after other → IsOutOfMemory None ⊎ (None ≡ other)
      not_refused None w = inr refl
      not_refused (Some f) w = absurd (d.is_refused w.2.0 w.0 f.1 w.2.1 refl)
  decoded_fits (Err e) h d quiet same = elim (memory_or_not e.why) [
    | inl m ↦
        let out : IsOutOfMemory (Some (Some e.at, e.why)) = (e.at, ap (λ w. Some (Some e.at, w)) m) in
        record {
          right = inl out;
          each = λ other w. inl out;
        }
    | inr n ↦
        let refused = h.refused quiet e.at e.why refl n same in
        record {
          right = inr (e.at, refl, (refused.0, refused.1));
          each = shown n;
        }
  ]
    where
      shown : e.why ≢ why.Memory → (other : Outcome) → Reads profile bytes after other → IsOutOfMemory (Some (Some e.at, e.why)) ⊎ (Some (Some e.at, e.why) ≡ other)
      shown n None w = absurd (d.accepted w.0 w.1 e.at e.why refl n)
      shown n (Some f) w =
          let s = d.shown w.2.0 w.0 f.1 w.2.1 e.at e.why refl n in
          let at : Some e.at ≡ f.0 = ap Some s.0 ∙ sym w.1 in
          inr (ap (λ a. Some (a, e.why)) at ∙ ap (λ y. Some (f.0, y)) s.1)

  -- If the sink failed, that is what it answers.
  pub sink_failed : (r : Result (Unit {0}) Fault) → Hands (input_reading profile bytes after) takes errors calm old new (outcome_of fault_pair r) → errors old < errors new
      → (at : Place) × (outcome_of inner_outcomes.at_place r ≡ Some (Some at, why.Sink))
  sink_failed r h rose = let f = h.failed rose in (f.0, as_placed r f.0 why.Sink f.1)
    where
      as_placed : (r : Result (Unit {0}) Fault) (at : Place) (w : Why) → outcome_of fault_pair r ≡ Some (at, w) → outcome_of inner_outcomes.at_place r ≡ Some (Some at, w)
      as_placed (Ok x) at w e = ap as_outcome e
      as_placed (Err f) at w e = ap as_outcome e

-- What an answer is that may not have been listed.
pub listed_fits : (printed : Type 0) (profile : Profile) (bytes : List ℕ) (after : After) (errors : ℕ) (outcome : Outcome) → (errors ≡ 0 → Fits IsOutOfMemory (Reads profile bytes after) outcome)
    → (0 < errors → (at : Place) × (outcome ≡ Some (Some at, why.Sink))) → (printed → errors ≡ 0) → Fits (IsUnlisted printed) (Reads profile bytes after) outcome
listed_fits printed profile bytes after errors outcome fits failed calm = elim (cases_lt 0 errors) [
  | inl rose ↦
      let out : IsUnlisted printed outcome = inr (λ p. absurd (omega (arith, rose, calm p)), failed rose) in
      record {
        right = inl out;
        each = λ other w. inl out;
      }
  | inr few ↦
      let f = fits (omega (arith, few)) in
      record {
        right = elim f.right [ inl out ↦ inl (inl out) | inr is ↦ inr is ];
        each = λ other w. elim (f.each other w) [ inl out ↦ inl (inl out) | inr same ↦ inr same ];
      }
]

-- ---- retagging

not_none : {X : Type 0} (at : Place) → Some at ≡ None → X
not_none at e = absurd cc

-- What a target that serves does not answer.
pub served_written : {X : Type 0} (V : Type 0) (r : Result X RetagFault) (m n : ℕ) → IfErr r (λ f. f ≡ not_written → V → m < n) → IfErr r (λ f. V × (n ≡ m) → f ≢ not_written)
served_written V (Ok x) m n rises = tt
served_written V (Err f) m n rises = λ served is. absurd (omega (arith, rises is served.0, served.1))

module _ (words : List (List ℕ)) (bytes : List ℕ) (after : After) (comments : Comments) (are : comments ≡ comments_of words) {K A B V : Type 0} (k : K) (a : A) (b : B) (v : V) where
  abbrev Long : Type 0
  Long = 16777215 < comments_length comments

  abbrev Short : Type 0
  Short = comments_length comments ≤ 16777215

  abbrev Head : Type 0
  Head = HasHead (beginning (short_of after.fails)) (bits_of bytes)

  abbrev Bad : Place → Why → Type 0
  Bad at w = IsRefused (beginning (short_of after.fails)) (bits_of bytes) at w

  as_long : comments_length comments ≡ comments_length (comments_of words)
  as_long = ap comments_length are

  -- What a call that retags answers is what the input is, if no device failed.
  pub retagged_fits : (r : Result (Unit {0}) RetagFault)
      → (Long → r ≡ Err too_long) → (r ≡ Err too_long → Long) → OnOk r Head
      → IfErr r (λ f. IfSome f.at (λ at. K → A → B → f.why ≢ why.Memory → Bad at f.why))
      → IfErr r (λ f. f ≢ too_long → K → A → B → f.why ≢ why.Memory → Head → f ≡ not_written)
      → (Short → (at : Place) (w : Why) → Bad at w → K → A → B → IsErrAnd r (λ f. f.why ≢ why.Memory → f ≡ record { at = Some at; why = w }))
      → IfErr r (λ f. f.at ≡ None → (f ≡ too_long) ⊎ (f ≡ not_written)) → IfErr r (λ f. V → f ≢ not_written)
      → Fits IsRetagOutOfMemory (IsRetagged words bytes after) (outcome_of at_some_place r)
  retagged_fits (Ok x) long short head refused accepted shown placeless served = record {
    right = inr (elim (cases_lt 16777215 (comments_length comments)) [ inl h ↦ absurd (let e = long h in cc) | inr h ↦ (omega (arith, h, as_long), head) ]);
    each = not_refused;
  }
    where
      not_refused : (other : Outcome) → IsRetagged words bytes after other → IsRetagOutOfMemory None ⊎ (None ≡ other)
      not_refused None w = inr refl
      not_refused (Some f) (inl w) = absurd (let e = long (omega (arith, w.0, as_long)) in cc)
      not_refused (Some f) (inr w) = absurd (shown (omega (arith, w.0, as_long)) w.1.0 f.1 w.1.2 k a b)
  retagged_fits (Err e) long short head refused accepted shown placeless served = elim (memory_or_not e.why) [
    | inl m ↦
        let out : IsRetagOutOfMemory (Some (e.at, e.why)) = (e.at, ap (λ w. Some (e.at, w)) m) in
        record {
          right = inl out;
          each = λ other w. inl out;
        }
    | inr n ↦ record {
      right = inr (by_place n e.at refl);
      each = shows n;
    }
  ]
    where
      by_place : e.why ≢ why.Memory → (at : Option Place) → e.at ≡ at → IsRetagged words bytes after (Some (e.at, e.why))
      by_place n None is = elim (placeless is) [
        | inl l ↦ let far = short (ap Err l) in inl (omega (arith, far, as_long), is, ap (λ (f : RetagFault). f.why) l)
        | inr o ↦ absurd (served v o)
      ]
      by_place n (Some at) is =
          let bad : IfSome (Some at) (λ p. K → A → B → e.why ≢ why.Memory → Bad p e.why) = subst (λ o. IfSome o (λ p. K → A → B → e.why ≢ why.Memory → Bad p e.why)) is refused in
          elim (cases_lt 16777215 (comments_length comments)) [
            | inl h ↦
                let l : e ≡ too_long = let r = long h in cc in
                not_none at (sym is ∙ ap (λ (f : RetagFault). f.at) l)
            | inr h ↦ inr (omega (arith, h, as_long), (at, is, bad k a b n))
          ]

      shows : e.why ≢ why.Memory → (other : Outcome) → IsRetagged words bytes after other → IsRetagOutOfMemory (Some (e.at, e.why)) ⊎ (Some (e.at, e.why) ≡ other)
      shows n None w = absurd (served v (accepted (λ l. let far = short (ap Err l) in omega (arith, far, w.0, as_long)) k a b n w.1))
      shows n (Some f) (inl w) =
          let l : e ≡ too_long = let r = long (omega (arith, w.0, as_long)) in cc in
          let at : e.at ≡ f.0 = ap (λ (f : RetagFault). f.at) l ∙ sym w.1 in
          let same : e.why ≡ f.1 = ap (λ (f : RetagFault). f.why) l ∙ sym w.2 in
          inr (ap (λ a. Some (a, e.why)) at ∙ ap (λ y. Some (f.0, y)) same)
      shows n (Some f) (inr w) =
          let is = shown (omega (arith, w.0, as_long)) w.1.0 f.1 w.1.2 k a b n in
          let at : e.at ≡ f.0 = ap (λ (f : RetagFault). f.at) is ∙ sym w.1.1 in
          let same : e.why ≡ f.1 = ap (λ (f : RetagFault). f.why) is in
          inr (ap (λ a. Some (a, e.why)) at ∙ ap (λ y. Some (f.0, y)) same)

-- ---- lines

-- A line was sent, if the target did not fail.
pub line_sent : {X E K P : Type 0} (r : Result X E) (m n : ℕ) → OnOk r (K → P) → OnErr r (K → m < n) → K → n ≡ m → P
line_sent (Ok x) m n sent rises k same = sent k
line_sent (Err e) m n sent rises k same = absurd (omega (arith, rises k, same))

-- The path of the input, if the output is not at fault.
pub of_input : (is_output : Bool) (path output input : List ℕ) → (is_output ≡ true → ⊥) → path ≡ cond is_output output input → path ≡ input
of_input true path output input never is = absurd (never refl)
of_input false path output input never is = is

-- ---- a writer of samples

known_still : (a b : Bool) → bit_value a ≡ bit_value b → b ≡ true → a ≡ true
known_still true b e k = refl
known_still false true e k = absurd (omega (arith, e))
known_still false false e k = k

-- If its target has not failed since the writer was made, no failure was counted.
pub unfailed : {W : Type 0} (known : W → Bool) (errors : W → ℕ) (old new began later : W) (count : ℕ) → began ≡ old → known old ≡ true → errors new ≡ errors old
    → bit_value (known later) ≡ bit_value (known began) → errors later ≡ errors began → (known later ≡ true → 0 < count → errors later < errors new) → count ≡ 0
unfailed known errors old new began later count is told same bits stays rises =
    let k : known later ≡ true = known_still (known later) (known began) bits (ap known is ∙ told) in
    elim (cases_lt 0 count) [
      | inl some ↦
          let r = rises k some in
          let e = ap errors is in
          absurd (omega (arith, r, e, same, stays))
      | inr none ↦ omega (arith, none)
    ]

-- So no failure of the sink is answered.
pub not_sink : {X : Type 0} (S : Type 0) (r : Result X Fault) (old new : ℕ) → IfErr r (λ f. f.why ≡ why.Sink → Rises old new) → old ≡ 0 → (S → new ≡ 0) → S → IfErr r (λ f. f.why ≢ why.Sink)
not_sink S (Ok x) old new rises none same s = tt
not_sink S (Err f) old new rises none same s = λ is.
    let n = same s in
    let small : old < 2 ^ 64 - 1 = omega (arith, none) in
    absurd (omega (arith, rises is small, n, none))
