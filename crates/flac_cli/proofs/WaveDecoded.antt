-- What a decoding to a WAV file reports.
use Rattle.std.proofs.Common.{◌≡◌, ◌⊎◌, ℕ, Bool, true, false, List, Option, Some, None, Result, Ok, Err, refl, ap, sym, ◌∙◌, subst, arith, inl, inr}
use Rattle.std.proofs.lemmas.Bool.{cases_lt}
use Rattle.flac_bits.specs.Handing.{Hands, Decides}
use Rattle.flac_bits.specs.State.{Mark, After, Rises}
use Rattle.flac_bits.specs.declared.why.Why.{Why}
use Rattle.flac_bits.specs.declared.why.Why.TheVariants as why
use Rattle.flac_header.specs.declared.subset.Profile.{Profile}
use Rattle.flac_native.specs.Stream.{Piece, opening}
use Rattle.flac_native.specs.declared.fault.Fault.{Fault}
use Rattle.flac_native.specs.declared.fault.Place.{Place}
use Rattle.flac_native.proofs.Deciding.{one_answer}
use Rattle.flac_ogg.specs.Either.{read_either}
use Rattle.flac_ogg.proofs.MeaningReadings.{one_ogg_reading}
use Rattle.flac_cli.specs.Outcomes.{input_reading, Reads, IsOutOfMemory, Fits, WaveOutcome, streamed, unkept, ReadsWave, IsWaveOutOfMemory}
use Rattle.flac_cli.specs.Waves.{kept_fault}
use Rattle.flac_cli.specs.declared.held_wave.KeptFault.{KeptFault}
use Rattle.flac_cli.specs.inner.WaveOutcomes.{memory_by, fault_by}
use Rattle.flac_cli.specs.inner.Waving.{Held, nothing_held, held_fault}
use Rattle.flac_cli.proofs.Reported.{decoded_fits, not_sink}
use Rattle.flac_cli.proofs.Waving.{Ordered, after_parts, wave_judged}

-- ---- reasons

-- a reason is that the sink failed, or it stays as it is
sink_or_not : (w : Why) → (w ≡ why.Sink) ⊎ ((w ≡ why.Sink → ⊥) × (memory_by w ≡ w))
sink_or_not why.Sink = inl refl
sink_or_not w = inr (λ e. absurd cc, refl)

memory_no_sink : (w : Why) → memory_by w ≡ why.Sink → ⊥
memory_no_sink why.Sink e = absurd cc
memory_no_sink w e = absurd cc

same_some : {A : Type 0} (x y : A) → Some x ≡ Some y → x ≡ y
same_some x y e = cc

some_why : (at to : Place) (v w : Why) → ◌≡◌ {A = Option (Place × Why)} (Some (at, v)) (Some (to, w)) → v ≡ w
some_why at to v w e = let p : ◌≡◌ {A = Place × Why} (at, v) (to, w) = same_some _ _ e in ap (λ (q : Place × Why). q.1) p

none_some : {A X : Type 0} (x : A) → None ≡ Some x → X
none_some x e = absurd cc

some_none : {A X : Type 0} (x : A) → Some x ≡ None → X
some_none x e = absurd cc

-- ---- what the input is

one_by : (profile : Profile) (is_ogg : Bool) (m : Mark) (text : List Bool) (xs ys : List Piece) → (read_either profile is_ogg m text).whole xs → (read_either profile is_ogg m text).whole ys → xs ≡ ys
one_by profile true m text xs ys a b = (one_ogg_reading profile m text).streams xs ys a b
one_by profile false m text xs ys a b = (one_answer (opening profile) m text).streams xs ys a b

-- what is reported of a stream that is read to its end
abbrev pub judged_as : Option KeptFault → WaveOutcome
judged_as None = streamed None
judged_as (Some k) = unkept k

module _ (profile : Profile) (bytes : List ℕ) (after : After) where
  -- A refusal of the stream is one of the decoding.
  pub refused_fits : (f : Option Place × Why) → Fits IsOutOfMemory (Reads profile bytes after) (Some f) → Fits IsWaveOutOfMemory (ReadsWave profile bytes after) (streamed (Some f))
  refused_fits f h = record {
    right = elim h.right [ inl out ↦ inl (out.0, ap streamed out.1) | inr is ↦ inr is ];
    each = each_one;
  }
    where
      each_one : (other : WaveOutcome) → ReadsWave profile bytes after other → IsWaveOutOfMemory (streamed (Some f)) ⊎ (streamed (Some f) ≡ other)
      each_one (streamed None) w = elim (h.each None (w.0, w.1)) [ inl out ↦ inl (out.0, ap streamed out.1) | inr same ↦ some_none f same ]
      each_one (streamed (Some g)) w = elim (h.each (Some g) w) [ inl out ↦ inl (out.0, ap streamed out.1) | inr same ↦ inr (ap streamed same) ]
      each_one (unkept k) w = elim (h.each None (w.0, w.1)) [ inl out ↦ inl (out.0, ap streamed out.1) | inr same ↦ some_none f same ]

  same_kept : (xs ys : List Piece) (o p : Option KeptFault) → (input_reading profile bytes after).whole xs → (input_reading profile bytes after).whole ys → kept_fault xs ≡ o → kept_fault ys ≡ p → o ≡ p
  same_kept xs ys o p a b e f = sym e ∙ (ap kept_fault (one_by profile _ _ _ xs ys a b) ∙ f)

  not_refused : {X : Type 0} (f : Option Place × Why) → Fits IsOutOfMemory (Reads profile bytes after) None → Reads profile bytes after (Some f) → X
  not_refused f h w = elim (h.each (Some f) w) [ inl out ↦ none_some _ out.1 | inr same ↦ none_some f same ]

  -- A stream is judged by its blocks.
  pub done_fits : (items : List Piece) (o : Option KeptFault) → (input_reading profile bytes after).whole items → kept_fault items ≡ o → Fits IsOutOfMemory (Reads profile bytes after) None
      → Fits IsWaveOutOfMemory (ReadsWave profile bytes after) (judged_as o)
  done_fits items None whole e h = record {
    right = inr (items, whole, e);
    each = each_one;
  }
    where
      each_one : (other : WaveOutcome) → ReadsWave profile bytes after other → IsWaveOutOfMemory (streamed None) ⊎ (streamed None ≡ other)
      each_one (streamed None) w = inr refl
      each_one (streamed (Some f)) w = not_refused f h w
      each_one (unkept k) w = none_some k (same_kept items w.0 None (Some k) whole w.1 e w.2)
  done_fits items (Some k) whole e h = record {
    right = inr (items, whole, e);
    each = each_one;
  }
    where
      each_one : (other : WaveOutcome) → ReadsWave profile bytes after other → IsWaveOutOfMemory (unkept k) ⊎ (unkept k ≡ other)
      each_one (streamed None) w = some_none k (same_kept items w.0 (Some k) None whole w.1 e w.2)
      each_one (streamed (Some f)) w = not_refused f h w
      each_one (unkept l) w = inr (ap unkept (same_some k l (same_kept items w.0 (Some k) (Some l) whole w.1 e w.2)))

  module _ {K : Type 0} (takes : K → Piece → K → Type 0) (errors : K → ℕ) (calm : Type 0) (old new : K) where
    abbrev Handed : Option (Place × Why) → Type 0
    Handed o = Hands (input_reading profile bytes after) takes errors calm old new o

    abbrev Decided : Option (Place × Why) → Type 0
    Decided o = errors new ≡ errors old → Decides (input_reading profile bytes after) o

    -- If it is read to its end, the sink did not fail.
    unfailed_ok : Handed None → errors old ≡ 0 → errors new ≡ errors old
    unfailed_ok h none = elim (cases_lt (errors old) (errors new)) [ inl rose ↦ let f = h.failed rose in none_some _ f.1 | inr few ↦ omega (arith, few, none) ]

    unfailed_err : (e : Fault) → Handed (Some (e.at, e.why)) → errors old ≡ 0 → (e.why ≡ why.Sink → ⊥) → errors new ≡ errors old
    unfailed_err e h none other = elim (cases_lt (errors old) (errors new)) [
      | inl rose ↦ let f = h.failed rose in absurd (other (some_why e.at f.0 e.why why.Sink f.1))
      | inr few ↦ omega (arith, few, none)
    ]

    pub ok_fits : Handed None → calm → errors old ≡ 0 → Decided None → Fits IsOutOfMemory (Reads profile bytes after) None
    ok_fits h quiet none d =
        let r : Result (Unit {0}) Fault = Ok tt in
        let same = unfailed_ok h none in
        decoded_fits profile bytes after takes errors calm old new r h (d same) quiet same

    err_fits : (e : Fault) → Handed (Some (e.at, e.why)) → calm → Decided (Some (e.at, e.why)) → errors new ≡ errors old → Fits IsWaveOutOfMemory (ReadsWave profile bytes after) (streamed (Some (Some e.at, e.why)))
    err_fits e h quiet d same =
        let r : Result (Unit {0}) Fault = Err e in
        refused_fits (Some e.at, e.why) (decoded_fits profile bytes after takes errors calm old new r h (d same) quiet same)

    -- If the sink failed, this is since an allocation did.
    pub fault_fits : (e : Fault) (short : Bool) → Handed (Some (e.at, e.why)) → calm → errors old ≡ 0 → Decided (Some (e.at, e.why)) → (short ≡ false → errors new ≡ 0)
        → Fits IsWaveOutOfMemory (ReadsWave profile bytes after) (streamed (Some (Some (fault_by short e).at, (fault_by short e).why)))
    fault_fits e false h quiet none d never = err_fits e h quiet d (never refl ∙ sym none)
    fault_fits e true h quiet none d never = elim (sink_or_not e.why) [
      | inl sink ↦
          let out : IsWaveOutOfMemory (streamed (Some (Some e.at, memory_by e.why))) = (e.at, ap (λ w. streamed (Some (Some e.at, memory_by w))) sink) in
          record {
            right = inl out;
            each = λ other w. inl out;
          }
      | inr o ↦ subst (λ w. Fits IsWaveOutOfMemory (ReadsWave profile bytes after) (streamed (Some (Some e.at, w)))) (sym o.1) (err_fits e h quiet d (unfailed_err e h none o.0))
    ]

-- It is never reported as one of the sink.
pub fault_of_input : (e : Fault) (short : Bool) (old new : ℕ) → (e.why ≡ why.Sink → Rises old new) → old ≡ 0 → (short ≡ false → new ≡ 0) → (fault_by short e).why ≡ why.Sink → ⊥
fault_of_input e false old new rises none never = let r : Result (Unit {0}) Fault = Err e in not_sink (Unit {0}) r old new rises none (λ t. never refl) tt
fault_of_input e true old new rises none never = memory_no_sink e.why

-- what the blocks of a stream keep
pub kept_is : (xs : List Piece) (s t : Held) (o : Option KeptFault) → s ≡ nothing_held → t ≡ after_parts s xs → Ordered false xs → o ≡ held_fault t → kept_fault xs ≡ o
kept_is xs s t o none is order same = sym (same ∙ (ap held_fault is ∙ (ap (λ h. held_fault (after_parts h xs)) none ∙ wave_judged xs order)))
