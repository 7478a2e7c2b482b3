-- Why WAV files are refused.
use Rattle.std.proofs.Common.{◌≡◌, ◌⊎◌, ◌++◌, ℕ, List, Option, Some, None, refl, sym, ap, ◌∙◌, subst, inl, inr}
use Rattle.std.specs.Prelude.{option_map}
use Rattle.flac_bits.specs.declared.why.Why.{Why}
use Rattle.flac_bits.specs.declared.why.Why.TheVariants as why
use Rattle.flac_meta.specs.Listed.{list_fault, info_seen}
use Rattle.flac_meta.specs.declared.block.Block.{Block}
use Rattle.flac_frame.specs.Audio.{Sound}
use Rattle.flac_frame.specs.declared.setup.SetupFault.{SetupFault}
use Rattle.flac_subframe.specs.declared.format.linear.LinearPredictor.{LinearPredictor}
use Rattle.flac_native.specs.Given.{Cut, plan_fault}
use Rattle.flac_native.specs.declared.fault.EncodeFault.{EncodeFault}
use Rattle.flac_native.specs.declared.fault.EncodeFault.TheVariants as encode
use Rattle.flac_wave.specs.Shift.{AreBytes, wave_width_of}
use Rattle.flac_wave.specs.Wave.{Parts, IsWave, ArePiecesAfter, IsErrorOf}
use Rattle.flac_wave.specs.declared.waves.WaveError.{WaveError}
use Rattle.flac_wave.specs.declared.waves.WaveError.TheVariants as error
use Rattle.flac_wave.specs.declared.waves.WaveFault.{WaveFault}
use Rattle.flac_cli.specs.Asked.{Asked}
use Rattle.flac_cli.specs.Encoded.{cut_as}
use Rattle.flac_cli.specs.Predictors.{AreListed}
use Rattle.flac_cli.specs.inner.Predictors.{IsWrongLine}
use Rattle.flac_raw.specs.Raw.{IsRaw, raw_sound}
use Rattle.flac_cli.specs.Refusals.{raw_fault, stream_fault, refusal_of, IsOutside as IsOutsideOf}
use Rattle.flac_cli.specs.Reports.{Files, fault_line}
use Rattle.flac_cli.specs.WaveRefusals.{samples_refusal, file_refusal, IsFileReason, IsWaveReason, refusal_of_wave, IsOutside, wave_path, wave_text, IsWaveReport}
use Rattle.flac_cli.specs.Waves.{stream_samples, blocks_for, format_as, Keeps}
use Rattle.flac_cli.specs.inner.Preparing.{IsReady}
use Rattle.flac_cli.specs.declared.encode.Refusal.{Refusal}
use Rattle.flac_cli.specs.declared.encode.Refusal.TheVariants.{Input, Setup, Output}
use Rattle.flac_cli.specs.declared.predictors.ListFault.{ListFault}
use Rattle.flac_cli.specs.declared.predictors.ListFault.TheVariants as faults
use Rattle.flac_cli.specs.declared.encode_wave.WaveRefusal.{WaveRefusal}
use Rattle.flac_cli.specs.declared.encode_wave.WaveRefusal.TheVariants.{Wave, Refused}
use Rattle.flac_jobs.specs.declared.formats.RawFormat.{RawFormat}

-- ---- the first reason, of samples and blocks

module _ (asked : Asked) (ps : List LinearPredictor) (list : List Block) (raw : List ℕ) where
  pub refused_samples : (e : Refusal) → IsOutsideOf e ⊎ (raw_fault asked.profile asked.format raw ≡ Some e) → IsOutsideOf e ⊎ (samples_refusal asked ps list raw ≡ Some e)
  unfolding samples_refusal
  refused_samples e (inl out) = inl out
  refused_samples e (inr h) = inr (rw h refl)

  module _ (a : Sound) (good : raw_fault asked.profile asked.format raw ≡ None) (is : a ≡ raw_sound asked.profile asked.format raw) where
    pub refused_plan : (e : SetupFault) → plan_fault (cut_as asked a ps) ≡ Some e → samples_refusal asked ps list raw ≡ Some (Setup e)
    unfolding samples_refusal
    refused_plan e h =
        let plan : plan_fault (cut_as asked (raw_sound asked.profile asked.format raw) ps) ≡ Some e = subst (λ s. plan_fault (cut_as asked s ps) ≡ Some e) is h in
        rw (good, plan) refl

    module _ (p : Cut) (cut : p ≡ cut_as asked a ps) (fine : plan_fault p ≡ None) where
      raw_cut : p ≡ cut_as asked (raw_sound asked.profile asked.format raw) ps
      raw_cut = cut ∙ ap (λ s. cut_as asked s ps) is

      planned : plan_fault (cut_as asked (raw_sound asked.profile asked.format raw) ps) ≡ None
      planned = subst (λ k. plan_fault k ≡ None) raw_cut fine

      pub refused_blocks : (e : Why) → (e ≡ why.Memory) ⊎ (list_fault info_seen list ≡ Some e) → IsOutsideOf (Input e) ⊎ (samples_refusal asked ps list raw ≡ Some (Input e))
      unfolding samples_refusal
      refused_blocks e (inl h) = inl (inl (ap Input h))
      refused_blocks e (inr h) = inr (rw (good, planned, h) refl)

      pub container_only : list_fault info_seen list ≡ None → samples_refusal asked ps list raw ≡ option_map Output (stream_fault asked.container p list)
      unfolding samples_refusal
      container_only fit =
          let all : samples_refusal asked ps list raw ≡ option_map Output (stream_fault asked.container (cut_as asked (raw_sound asked.profile asked.format raw) ps) list) = rw (good, planned, fit) refl in
          all ∙ ap (λ k. option_map Output (stream_fault asked.container k list)) (sym raw_cut)

-- ---- of a file

-- what is refused by the reader of the file
pub refused_file : (asked : Asked) (ps : List LinearPredictor) (bytes : List ℕ) (e : WaveError) → IsErrorOf asked.to_end bytes e → IsOutside (refusal_of_wave e) ⊎ IsFileReason asked ps bytes (Some (refusal_of_wave e))
refused_file asked ps bytes error.Memory h = inl (Input why.Memory, refl, inl refl)
refused_file asked ps bytes error.Read h = absurd h
refused_file asked ps bytes (error.Fault f) h = inr (inl (f, h, refl))

pub no_memory : (asked : Asked) (ps : List LinearPredictor) (bytes : List ℕ) → IsOutside (Refused (Input why.Memory)) ⊎ IsFileReason asked ps bytes (Some (Refused (Input why.Memory)))
no_memory asked ps bytes = inl (Input why.Memory, refl, inl refl)

module _ (asked : Asked) (ps : List LinearPredictor) (bytes : List ℕ) (file : Parts) (after : List (List ℕ)) (wave : IsWave asked.to_end bytes file) (cut : ArePiecesAfter file.samples file.back after) (format : RawFormat) (form : format ≡ format_as asked.format file) where
  abbrev blocks : List Block
  blocks = blocks_for asked file.format (file.pieces ++ after)

  abbrev samples : List ℕ
  samples = stream_samples (wave_width_of file.format) format.bits file.samples

  -- the reason of its samples and blocks
  of_file : (o : Option Refusal) → samples_refusal (record asked { format = format }) ps blocks samples ≡ o → file_refusal asked ps file after ≡ o
  of_file o h = subst (λ f. samples_refusal (record asked { format = f }) ps blocks (stream_samples (wave_width_of file.format) f.bits file.samples) ≡ o) form h

  pub as_reason : (r : Refusal) → IsOutsideOf r ⊎ (samples_refusal (record asked { format = format }) ps blocks samples ≡ Some r) → IsOutside (Refused r) ⊎ IsFileReason asked ps bytes (Some (Refused r))
  as_reason r (inl out) = inl (r, refl, out)
  as_reason r (inr h) = inr (inr (file, after, wave, cut, sym (ap (λ o. option_map Refused o) (of_file (Some r) h))))

  abbrev pub keeps_all : (a : Sound) (list : List Block) → AreBytes file.samples → IsRaw asked.profile format samples a → list ≡ blocks → Keeps asked bytes format a list
  keeps_all a list small raw same = record {
    file = file;
    pieces = after;
    wave = wave;
    cut = cut;
    small = small;
    form = form;
    raw = subst (λ f. IsRaw asked.profile f (stream_samples (wave_width_of file.format) f.bits file.samples) a) form raw;
    blocks = same;
  }

  pub only_container : (list : List Block) (p : Cut) → list ≡ blocks → samples_refusal (record asked { format = format }) ps blocks samples ≡ option_map Output (stream_fault asked.container p blocks)
      → file_refusal asked ps file after ≡ option_map Output (stream_fault asked.container p list)
  only_container list p same h = of_file _ h ∙ ap (λ l. option_map Output (stream_fault asked.container p l)) (sym same)

-- ---- and of the list

pub refused_line : (asked : Asked) (bytes : List ℕ) (f : ListFault) → (f ≡ faults.Memory) ⊎ IsWrongLine asked.list f → IsOutside (Refused (refusal_of f)) ⊎ IsWaveReason asked bytes (Some (Refused (refusal_of f)))
refused_line asked bytes faults.Memory h = inl (Input why.Memory, refl, inl refl)
refused_line asked bytes (faults.Line number) (inl h) = absurd cc
refused_line asked bytes (faults.Line number) (inr h) = inr (inl (number, h, refl))

pub listed_reason : (asked : Asked) (ps : List LinearPredictor) (bytes all : List ℕ) (e : WaveRefusal) → AreListed asked.list ps → bytes ≡ all → IsOutside e ⊎ IsFileReason asked ps bytes (Some e) → IsOutside e ⊎ IsWaveReason asked all (Some e)
listed_reason asked ps bytes all e listed same (inl out) = inl out
listed_reason asked ps bytes all e listed same (inr h) = inr (inr (ps, listed, subst (λ b. IsFileReason asked ps b (Some e)) same h))

-- ---- of what is ready

module _ (asked : Asked) (ps : List LinearPredictor) (bytes all : List ℕ) (format : RawFormat) (plan : Cut) (list : List Block) (audio : Sound) (listed : AreListed asked.list ps) (same : bytes ≡ all) (is : IsReady asked ps bytes format plan list audio) where
  of_container : (o : Option EncodeFault) → stream_fault asked.container plan list ≡ o → IsWaveReason asked all (option_map Refused (option_map Output o))
  of_container o e =
      let k = is.keeps in
      inr (
        ps,
        listed,
        subst (λ b. IsFileReason asked ps b (option_map Refused (option_map Output o))) same
            (inr (k.file, k.pieces, k.wave, k.cut, sym (ap (λ p. option_map Refused p) (is.refusal ∙ ap (λ p. option_map Output p) e)))),
      )

  pub file_reason : stream_fault asked.container plan list ≡ None → IsWaveReason asked all None
  file_reason e = of_container None e

  pub container_reason : (e : EncodeFault) → IsOutsideOf (Output e) ⊎ (stream_fault asked.container plan list ≡ Some e) → IsOutside (Refused (Output e)) ⊎ IsWaveReason asked all (Some (Refused (Output e)))
  container_reason e (inl out) = inl (Output e, refl, out)
  container_reason e (inr h) = inr (of_container (Some e) h)

-- ---- failed writes

pub no_wave_write : {X : Type 0} (e : WaveError) → refusal_of_wave e ≡ Refused (Output encode.Write) → X
no_wave_write error.Memory h = absurd cc
no_wave_write error.Read h = absurd cc
no_wave_write (error.Fault f) h = absurd cc

pub not_wave : {X : Type 0} (f : WaveFault) (s : Refusal) → Wave f ≡ Refused s → X
not_wave f s h = absurd cc

pub same_refused : (r s : Refusal) → Refused r ≡ Refused s → r ≡ s
same_refused r s h = cc

pub not_refused : {X : Type 0} (r s : Refusal) → (r ≡ s → X) → Refused r ≡ Refused s → X
not_refused r s f h = f (same_refused r s h)

-- ---- what is reported of an encoding that is refused, if the target did not fail

pub wave_reported : (asked : Asked) (bytes : List ℕ) (files : Files) (e : WaveRefusal) (status : ℕ) (before now : List ℕ) → status ≡ 1 → now ≡ before ++ fault_line (wave_path files e) (wave_text e)
    → (e ≡ Refused (Output encode.Write) → ⊥) → IsOutside e ⊎ IsWaveReason asked bytes (Some e) → IsWaveReport asked bytes files status before now
wave_reported asked bytes files e status before now one line never (inr h) = inl (Some e, h, (one, line))
wave_reported asked bytes files e status before now one line never (inl (r, is, inl m)) =
    inr (one, subst (λ k. now ≡ before ++ fault_line (wave_path files k) (wave_text k)) (is ∙ ap Refused m) line)
wave_reported asked bytes files e status before now one line never (inl (r, is, inr (inl m))) =
    inr (one, subst (λ k. now ≡ before ++ fault_line (wave_path files k) (wave_text k)) (is ∙ ap Refused m) line)
wave_reported asked bytes files e status before now one line never (inl (r, is, inr (inr w))) = absurd (never (is ∙ ap Refused w))
