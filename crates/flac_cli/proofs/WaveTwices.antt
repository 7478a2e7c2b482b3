-- WAV files that are read twice.
use Rattle.std.proofs.Common.{◌≡◌, ◌⊎◌, ◌<◌, ◌*◌, ◌-◌, ◌^◌, ◌++◌, ℕ, Bool, true, cond, List, Option, Some, None, refl, sym, ap, ◌∙◌, subst, arith, inl, inr}
use Rattle.std.specs.Prelude.{option_map}
use Rattle.std.proofs.lemmas.Bool.{eq-eqb, ne_eqb}
use Rattle.std.proofs.lemmas.List.{append_cancel_left}
use Rattle.flac_bits.specs.declared.target.Target as target
use Rattle.flac_bits.specs.declared.why.Why.{Why}
use Rattle.flac_bits.specs.declared.why.Why.TheVariants as why
use Rattle.flac_meta.specs.Listed.{list_fault, info_seen}
use Rattle.flac_meta.specs.declared.block.Block.{Block}
use Rattle.flac_frame.specs.Audio.{Sound}
use Rattle.flac_frame.specs.declared.setup.SetupFault.{SetupFault}
use Rattle.flac_frame.specs.declared.setup.SetupFault.TheVariants.{TooLong}
use Rattle.flac_subframe.specs.declared.format.linear.LinearPredictor.{LinearPredictor}
use Rattle.flac_native.specs.Given.{plan_fault}
use Rattle.flac_native.specs.Message.{sample_width}
use Rattle.flac_native.specs.declared.fault.EncodeFault.{EncodeFault}
use Rattle.flac_native.specs.declared.fault.EncodeFault.TheVariants as encode
use Rattle.flac_native.proofs.Planned.{still_found}
use Rattle.flac_encoder.specs.Pushing.{Fails}
use Rattle.flac_raw.specs.Faults.{format_fault, raw_fault as their_fault, AreSamples}
use Rattle.flac_raw.specs.Planned.{Planned, planned, raw_cut}
use Rattle.flac_raw.specs.Encoded.{EncodesByIn, ArePlanned, container_fault, FailsLeft}
use Rattle.flac_raw.specs.Raw.{raw_sound, IsRaw}
use Rattle.flac_raw.specs.inner.Surveyed.{IsSurvey}
use Rattle.flac_raw.specs.declared.raw_fault.RawFault.TheVariants as raw
use Rattle.flac_raw.specs.declared.raw_fault.RawEncodeFault.{RawEncodeFault}
use Rattle.flac_raw.specs.declared.raw_fault.RawEncodeFault.TheVariants as fault
use Rattle.flac_raw.proofs.Judged.{survey_long, survey_good}
use Rattle.flac_raw.proofs.Refused.{bad_format}
use Rattle.flac_wave.specs.Format.{IsInRange}
use Rattle.flac_wave.specs.Parts.{given}
use Rattle.flac_wave.specs.Shift.{wave_width_of}
use Rattle.flac_wave.specs.Wave.{Parts, all_of}
use Rattle.flac_wave.specs.declared.format.WaveFormat.{WaveFormat}
use Rattle.flac_cli.specs.Asked.{Asked, asked_of}
use Rattle.flac_cli.specs.Encoded.{cut_as, cut_found}
use Rattle.flac_cli.specs.Predictors.{AreListed}
use Rattle.flac_cli.specs.Refusals.{raw_fault, stream_fault, IsOutside as IsOutsideOf}
use Rattle.flac_cli.specs.WaveRefusals.{samples_refusal, file_refusal, IsFileReason, IsWaveReason, IsOutside}
use Rattle.flac_cli.specs.WaveTwice.{IsWaveTwiceReason}
use Rattle.flac_cli.specs.Waves.{wave_samples, stream_samples, samples_for, depth_for, format_with, format_as, blocks_for, contents, Keeps, EncodesWave}
use Rattle.flac_cli.specs.inner.Searching.{search_of}
use Rattle.flac_cli.specs.inner.Twice.{reason_as}
use Rattle.flac_cli.specs.inner.WaveRaw.{Lowers, low_of}
use Rattle.flac_cli.specs.inner.WaveSurvey.{HasDepth, IsSurveyed, surveyed_parts}
use Rattle.flac_cli.specs.inner.WaveTwice.{wave_reason_as, stream_fault_by, EncodesStream, StopsStream, IsForm, StopsCut, IsPlanned, samples_by, StopsPlan}
use Rattle.flac_cli.specs.declared.encode.Encoding.{Encoding}
use Rattle.flac_cli.specs.declared.encode.Refusal.{Refusal}
use Rattle.flac_cli.specs.declared.encode.Refusal.TheVariants.{Input, Setup, Output}
use Rattle.flac_cli.specs.declared.encode_wave.WaveRefusal.{WaveRefusal}
use Rattle.flac_cli.specs.declared.encode_wave.WaveRefusal.TheVariants.{Refused}
use Rattle.flac_cli.specs.declared.encode_wave_twice.WavePlan.{WavePlan}
use Rattle.flac_cli.specs.declared.encode_wave_twice.WaveTwiceFault.{WaveTwiceFault}
use Rattle.flac_cli.specs.declared.wave_survey.WaveSurvey.{WaveSurvey}
use Rattle.flac_cli.proofs.HeldWaves.{same_wide}
use Rattle.flac_cli.proofs.Kept.{kept_back}
use Rattle.flac_cli.proofs.StreamSurveys.{stream_survey}
use Rattle.flac_cli.proofs.Twice.{fault_none, fault_some, cut_of_total, plan_good, fails_as, same_some, same_stream, Wrote, wrote_in}
use Rattle.flac_cli.proofs.WaveRefused.{refused_samples, refused_plan, refused_blocks, container_only, as_reason, only_container, keeps_all, same_refused}
use Rattle.flac_jobs.specs.declared.formats.RawFormat.{RawFormat}

-- ---- the plan of a file that was surveyed

module _ (encoding : Encoding) (ps : List LinearPredictor) (file : WaveSurvey) (range : IsInRange file.format) (bytes : List ℕ) (s : IsSurveyed encoding.to_end bytes file)
    (format : RawFormat) (is : format ≡ format_with encoding.format file.format file.samples.depth) where
  abbrev asked : Asked
  asked = asked_of encoding

  abbrev own : Asked
  own = record asked { format = format }

  abbrev parts : Parts
  parts = surveyed_parts file s.rest

  abbrev after : List (List ℕ)
  after = contents file.after.items

  abbrev wide : ℕ
  wide = wave_width_of file.format

  abbrev samples : List ℕ
  samples = given file.size s.rest

  abbrev stream : List ℕ
  stream = stream_samples wide format.bits samples

  abbrev blocks : List Block
  blocks = blocks_for asked file.format (parts.pieces ++ after)

  abbrev total : ℕ
  total = file.samples.total

  form : format ≡ format_as asked.format parts
  form = is ∙ ap (λ d. format_with asked.format file.format d) s.are.deep

  survey : IsSurvey format.bits format.channels (sample_width format.bits) stream total true
  survey =
      let are = s.are in
      subst (λ (f : RawFormat). IsSurvey f.bits f.channels (sample_width f.bits) (stream_samples wide f.bits samples) total true) (sym form) (stream_survey file.format range samples are.small are.whole total are.many)

  reasoned : (r : Refusal) → IsOutsideOf r ⊎ (samples_refusal own ps blocks stream ≡ Some r) → IsOutside (Refused r) ⊎ IsFileReason asked ps bytes (Some (Refused r))
  reasoned r h = as_reason asked ps bytes parts after s.wave s.cut format form r h

  -- the samples cannot be encoded
  setup_refused : (e : SetupFault) → their_fault asked.profile format stream ≡ Some (raw.Setup e) → IsOutside (Refused (Setup e)) ⊎ IsFileReason asked ps bytes (Some (Refused (Setup e)))
  setup_refused e h = reasoned (Setup e) (refused_samples own ps blocks stream (Setup e) (inr (fault_some asked.profile format stream (raw.Setup e) h)))

  module _ (good : format_fault asked.profile format ≡ None) (short : total < 2 ^ 36) where
    are_samples : AreSamples asked.profile format stream total
    are_samples = survey_good asked.profile format stream (sym good) total survey short

    abbrev sound : Sound
    sound = raw_sound asked.profile format stream

    fine : raw_fault asked.profile format stream ≡ None
    fine = fault_none asked.profile format stream are_samples.good

    cut_is : cut_as own sound ps ≡ raw_cut asked.profile format total ps
    cut_is = cut_of_total own ps stream total are_samples

    cut_refused : (e : SetupFault) → plan_fault (raw_cut asked.profile format total ps) ≡ Some e → IsOutside (Refused (Setup e)) ⊎ IsFileReason asked ps bytes (Some (Refused (Setup e)))
    cut_refused e h = reasoned (Setup e) (inr (refused_plan own ps blocks stream sound fine refl e (ap plan_fault cut_is ∙ h)))

    module _ (cuts : plan_fault (raw_cut asked.profile format total ps) ≡ None) where
      pub list_refused : (e : Why) → (e ≡ why.Memory) ⊎ (list_fault info_seen blocks ≡ Some e) → IsOutside (Refused (Input e)) ⊎ IsFileReason asked ps bytes (Some (Refused (Input e)))
      list_refused e h = reasoned (Input e) (refused_blocks own ps blocks stream sound fine refl (cut_as own sound ps) refl (ap plan_fault cut_is ∙ cuts) e h)

      -- only the container can be a reason
      container_left : (plan : Planned) (list : List Block) → plan ≡ planned asked.profile format total ps (search_of asked.effort) → list ≡ blocks → list_fault info_seen blocks ≡ None
          → file_refusal asked ps parts after ≡ option_map Output (container_fault asked.container plan list)
      container_left plan list made listed fit =
          let p = cut_as own sound ps in
          let only = container_only own ps blocks stream sound fine refl p refl (ap plan_fault cut_is ∙ cuts) fit in
          only_container asked ps bytes parts after s.wave s.cut format form blocks p refl only
          ∙ (ap (λ k. option_map Output (stream_fault asked.container k blocks)) cut_is
          ∙ (ap (option_map Output) (sym (same_stream asked.container (planned asked.profile format total ps (search_of asked.effort)) blocks))
          ∙ (ap (λ q. option_map Output (container_fault asked.container q blocks)) (sym made)
          ∙ ap (λ l. option_map Output (container_fault asked.container plan l)) (sym listed))))

      pub plan_is : (plan : Planned) (list : List Block) (wide_is : ℕ) → plan ≡ planned asked.profile format total ps (search_of asked.effort) → list ≡ blocks → wide_is ≡ wide → list_fault info_seen blocks ≡ None
          → IsPlanned asked ps bytes (record { stream = record { container = asked.container; plan = plan; list = list }; pieces = file.pieces; size = file.size; wide = wide_is; depth = file.samples.depth })
      plan_is plan list wide_is made listed thick fit =
          let found = s.are in
          record {
            file = parts;
            pieces = after;
            rest = s.rest;
            wave = s.wave;
            cut = s.cut;
            small = found.small;
            joined = s.joined;
            samples = refl;
            wide = thick;
            depth = found.deep;
            total = total;
            container = refl;
            made = subst (λ f. plan ≡ planned asked.profile f total ps (search_of asked.effort)) form made;
            are = subst (λ (f : RawFormat). AreSamples asked.profile f (stream_samples wide f.bits samples) total) form are_samples;
            good = subst (λ f. plan_fault (raw_cut asked.profile f total ps) ≡ None) form cuts;
            list = listed;
            refusal = container_left plan list made listed fit;
          }

  -- why there is none
  pub plan_stops : (e : SetupFault) → StopsCut encoding format total ps e → IsOutside (Refused (Setup e)) ⊎ IsFileReason asked ps bytes (Some (Refused (Setup e)))
  plan_stops e (inl bad) = setup_refused e (bad_format asked.profile format stream e (sym bad))
  plan_stops e (inr (good, inl (over, long))) =
      subst (λ x. IsOutside (Refused (Setup x)) ⊎ IsFileReason asked ps bytes (Some (Refused (Setup x)))) (sym long) (setup_refused TooLong (survey_long asked.profile format stream (sym good) total survey over))
  plan_stops e (inr (good, inr (short, bad))) = cut_refused good short e bad

-- the bytes of its samples have room for the bits that a stream has
pub form_of : (f : WaveFormat) (depth wide_is : ℕ) → IsInRange f → HasDepth f depth → wide_is ≡ wave_width_of f → IsForm wide_is depth
form_of f depth wide_is range room is =
    let bits = range.bits in
    let narrow = range.narrow in
    let some = room.some in
    let few = room.few in
    record { thick = omega (arith, is, bits); thin = omega (arith, is, narrow); some = some; few = omega (arith, is, few) }

-- ---- the second pass

module _ (wide depth : ℕ) (bytes : List ℕ) where
  pub whole_stream : 8 * wide ≡ depth → stream_samples wide depth bytes ≡ wave_samples (8 * wide) bytes
  whole_stream all =
      let signed = wave_samples (8 * wide) bytes in
      ap (λ b. cond b signed (low_of (record { wide = wide; width = sample_width depth; shift = 8 * wide - depth }) signed)) (eq-eqb depth (8 * wide) (sym all))

  pub low_stream : IsForm wide depth → depth < 8 * wide → stream_samples wide depth bytes ≡ low_of (record { wide = wide; width = sample_width depth; shift = 8 * wide - depth }) bytes
  low_stream form less =
      let some = form.some in
      let signed = wave_samples (8 * wide) bytes in
      let plain : signed ≡ bytes = same_wide wide bytes (omega (arith, some, less)) in
      ap (λ b. cond b signed (low_of (record { wide = wide; width = sample_width depth; shift = 8 * wide - depth }) signed)) (ne_eqb depth (8 * wide) (λ e. absurd (omega (arith, e, less))))
      ∙ ap (low_of (record { wide = wide; width = sample_width depth; shift = 8 * wide - depth })) plain

pub lowers_of : (wide depth : ℕ) → IsForm wide depth → depth < 8 * wide → Lowers (record { wide = wide; width = sample_width depth; shift = 8 * wide - depth })
lowers_of wide depth form less =
    let thick = form.thick in
    let thin = form.thin in
    let some = form.some in
    record { some = thick; few = thin; thin = omega (arith, some); within = omega (arith, less); less = omega (arith, some, less); room = omega (arith, some, less) }

-- ---- why the second pass stops

-- the container
stream_stopped : (p : WavePlan) (others : List ℕ) (o : Option EncodeFault) (e : RawEncodeFault) → stream_fault_by p.stream ≡ o → option_map fault.Encode o ≡ Some e → StopsPlan p (wave_reason_as e) others
stream_stopped p others None e is bad = absurd cc
stream_stopped p others (Some f) e is bad =
    let same : fault.Encode f ≡ e = same_some (fault.Encode f) e bad in
    subst (λ x. StopsPlan p (wave_reason_as x) others) same (inr (inl (f, is, refl)))

-- what comes after the pieces
pub plan_stopped : (p : WavePlan) (others mid : List ℕ) (e : RawEncodeFault) → others ≡ all_of (contents p.pieces.items) ++ mid → StopsStream p.stream e (samples_by p mid) → StopsPlan p (wave_reason_as e) others
plan_stopped p others mid e read (inl (inl memory)) = subst (λ x. StopsPlan p (wave_reason_as x) others) (sym memory) (inl (Refused (Input why.Memory), refl, (Input why.Memory, refl, inl refl)))
plan_stopped p others mid e read (inl (inr (inl memory))) = subst (λ x. StopsPlan p (wave_reason_as x) others) (sym memory) (inl (Refused (Output encode.Memory), refl, (Output encode.Memory, refl, inr (inl refl))))
plan_stopped p others mid e read (inl (inr (inr write))) = subst (λ x. StopsPlan p (wave_reason_as x) others) (sym write) (inl (Refused (Output encode.Write), refl, (Output encode.Write, refl, inr (inr refl))))
plan_stopped p others mid e read (inr (inl unfit)) = stream_stopped p others (stream_fault_by p.stream) e refl unfit
plan_stopped p others mid e read (inr (inr (changed, unlike))) =
    subst (λ x. StopsPlan p (wave_reason_as x) others) (sym changed)
    (inr (inr (refl, λ rest is planned. unlike (subst (λ l. ArePlanned p.stream.plan (samples_by p l)) (append_cancel_left (all_of (contents p.pieces.items)) rest mid (sym is ∙ read)) planned))))

pub some_wave : (a b : WaveRefusal) → Some a ≡ Some b → a ≡ b
some_wave a b h = cc

-- with Write the target failed
pub wave_fails : {S : Type 0} (g : target.Ghosts S) (old : S) (e : RawEncodeFault) → FailsLeft g old e → option_map Refused (reason_as e) ≡ Some (Refused (Output encode.Write)) → (left : S) × Fails g old left
wave_fails g old e h is = fails_as g old e h (unmapped (reason_as e) is)
  where
    unmapped : (o : Option Refusal) → option_map Refused o ≡ Some (Refused (Output encode.Write)) → o ≡ Some (Output encode.Write)
    unmapped None h = absurd cc
    unmapped (Some r) h = ap (λ x. Some x) (same_refused r (Output encode.Write) (let same : Refused r ≡ Refused (Output encode.Write) = cc in same))

-- ---- both passes

module _ (asked : Asked) (ps : List LinearPredictor) (bytes : List ℕ) (p : WavePlan) (is : IsPlanned asked ps bytes p) where
  abbrev form_here : RawFormat
  form_here = format_as asked.format is.file

  abbrev raw_here : List ℕ
  raw_here = samples_for is.file

  -- the samples of the first source, if the second one has the same bytes
  here : samples_by p is.rest ≡ raw_here
  here = ap (λ w. stream_samples w p.depth (given p.size is.rest)) is.wide ∙ (ap (λ d. stream_samples (wave_width_of is.file.format) d (given p.size is.rest)) is.depth
      ∙ ap (stream_samples (wave_width_of is.file.format) (depth_for is.file)) (sym is.samples))

  planned_here : ArePlanned p.stream.plan (samples_by p is.rest)
  planned_here = subst (λ l. ArePlanned p.stream.plan l) (sym here) (subst (λ (q : Planned). AreSamples q.profile q.format raw_here q.total) (sym is.made) is.are)

  -- the reason is that of the container, if there is one
  stream_reason : AreListed asked.list ps → (o : Option EncodeFault) → stream_fault_by p.stream ≡ o → IsWaveReason asked bytes (option_map Refused (option_map Output o))
  stream_reason listed o e = inr (ps, listed, inr (is.file, is.pieces, is.wave, is.cut, sym (ap (option_map Refused) (is.refusal ∙ ap (option_map Output) e))))

  pub both_stop : AreListed asked.list ps → (fault : WaveTwiceFault) (others : List ℕ) → StopsPlan p fault others → IsWaveTwiceReason asked bytes others fault.reason
  both_stop listed fault others (inl (r, reason, out)) = subst (λ o. IsWaveTwiceReason asked bytes others o) (sym reason) (inl out)
  both_stop listed fault others (inr (inl (e, unfit, reason))) = subst (λ o. IsWaveTwiceReason asked bytes others o) (sym reason) (inr (stream_reason listed (Some e) unfit))
  both_stop listed fault others (inr (inr (none, unlike))) = subst (λ o. IsWaveTwiceReason asked bytes others o) (sym none) (λ same. unlike is.rest (same ∙ is.joined) planned_here)

  pub both_accepted : AreListed asked.list ps → stream_fault_by p.stream ≡ None → IsWaveReason asked bytes None
  both_accepted listed fits = stream_reason listed None fits

  module _ (listed : AreListed asked.list ps) (before after : List Bool) (wrote : EncodesStream p.stream (samples_by p is.rest) before after) where
    abbrev own_here : Asked
    own_here = record asked { format = form_here }

    abbrev sound_here : Sound
    sound_here = raw_sound asked.profile form_here raw_here

    theirs : EncodesByIn asked.container (planned asked.profile form_here is.total ps (search_of asked.effort)) p.stream.list raw_here before after
    theirs =
        subst (λ q. EncodesByIn asked.container q p.stream.list raw_here before after) is.made
        (subst (λ c. EncodesByIn c p.stream.plan p.stream.list raw_here before after) is.container (subst (λ l. EncodesStream p.stream l before after) here wrote))

    said : IsRaw asked.profile form_here raw_here sound_here × Wrote own_here ps p.stream.list raw_here is.total asked.container sound_here before after
    said = wrote_in own_here ps p.stream.list raw_here is.total asked.container before after theirs

    keeps_here : Keeps asked bytes form_here sound_here p.stream.list
    keeps_here = keeps_all asked ps bytes is.file is.pieces is.wave is.cut form_here refl sound_here p.stream.list is.small said.0 is.list

    pub both_wrote : EncodesWave asked bytes before after
    both_wrote =
        let w = said.1 in
        let c = cut_found own_here sound_here ps w.0 in
        record {
          format = form_here;
          audio = sound_here;
          list = p.stream.list;
          predictors = ps;
          keeps = keeps_here;
          listed = listed;
          found = w.0;
          sought = w.1;
          encodes = w.2;
          back = λ keep. kept_back asked bytes form_here sound_here p.stream.list c before after keeps_here w.2 keep (still_found (cut_as own_here sound_here ps) w.0 (plan_good own_here ps raw_here is.total is.are is.good));
        }
