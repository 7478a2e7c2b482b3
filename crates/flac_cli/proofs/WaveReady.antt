-- A WAV file that was read, made ready to be encoded.
use Rattle.std.proofs.Common.{◌≡◌, ◌⊎◌, ◌++◌, ℕ, ℤ, Vec, Global, true, List, Some, None, map, sym, ap, ◌∙◌, subst, inr}
use Rattle.flac_bits.specs.declared.why.Why.{Why}
use Rattle.flac_bits.specs.declared.why.Why.TheVariants as why
use Rattle.flac_meta.specs.Listed.{list_fault, info_seen}
use Rattle.flac_meta.specs.declared.block.Block.{Block}
use Rattle.flac_frame.specs.Audio.{Sound}
use Rattle.flac_frame.specs.declared.setup.SetupFault.{SetupFault}
use Rattle.flac_subframe.specs.declared.format.linear.LinearPredictor.{LinearPredictor}
use Rattle.flac_native.specs.Given.{Cut, fits_plan, plan_fault}
use Rattle.flac_native.specs.Message.{sample_width}
use Rattle.flac_wave.specs.Shift.{wave_width_of}
use Rattle.flac_wave.specs.Wave.{Parts}
use Rattle.flac_cli.specs.Asked.{Asked}
use Rattle.flac_cli.specs.Encoded.{cut_as}
use Rattle.flac_raw.specs.Raw.{IsRaw, raw_sound}
use Rattle.flac_cli.specs.Refusals.{raw_fault}
use Rattle.flac_cli.specs.WaveRefusals.{IsFileReason, IsOutside}
use Rattle.flac_cli.specs.Waves.{stream_samples, format_with, format_as, blocks_for, contents}
use Rattle.flac_cli.specs.inner.Preparing.{IsReady}
use Rattle.flac_cli.specs.inner.WaveSamples.{AreRaw, IsTaken, parts_with}
use Rattle.flac_cli.specs.declared.encode.Refusal.TheVariants.{Input, Setup}
use Rattle.flac_cli.specs.declared.encode_wave.WaveRefusal.TheVariants.{Refused}
use Rattle.flac_cli.specs.declared.wave_file.WaveFile.{WaveFile}
use Rattle.flac_cli.proofs.WaveRefused.{refused_samples, refused_plan, refused_blocks, keeps_all, container_only, as_reason, only_container}
use Rattle.flac_jobs.specs.declared.formats.RawFormat.{RawFormat}

module _ (asked : Asked) (ps : List LinearPredictor) (bytes : List ℕ) (w : WaveFile) (t : IsTaken asked.to_end bytes w) (format : RawFormat) (is : format ≡ format_with asked.format w.format w.samples.depth) where
  abbrev file : Parts
  file = parts_with w t.samples t.back

  abbrev after : List (List ℕ)
  after = contents w.after.items

  abbrev own : Asked
  own = record asked { format = format }

  abbrev raw : List ℕ
  raw = stream_samples (wave_width_of w.format) format.bits t.samples

  abbrev blocks : List Block
  blocks = blocks_for asked w.format (contents w.pieces.items ++ contents w.after.items)

  abbrev channels : List (List ℤ)
  channels = map (λ (c : Vec ℤ Global). c.items) w.samples.channels.items

  form : format ≡ format_as asked.format file
  form = let taken = t.taken in is ∙ ap (λ d. format_with asked.format w.format d) taken.deep

  raw_here : AreRaw format.channels (sample_width format.bits) raw channels
  raw_here = let taken = t.taken in subst (λ (f : RawFormat). AreRaw f.channels (sample_width f.bits) (stream_samples (wave_width_of w.format) f.bits t.samples) channels) (sym is) taken.raw

  pub ready_audio : (e : SetupFault) → ((r : List ℕ) → AreRaw format.channels (sample_width format.bits) r channels → raw_fault asked.profile format r ≡ Some (Setup e))
      → IsOutside (Refused (Setup e)) ⊎ IsFileReason asked ps bytes (Some (Refused (Setup e)))
  ready_audio e h = as_reason asked ps bytes file after t.wave t.cut format form (Setup e) (refused_samples own ps blocks raw (Setup e) (inr (h raw raw_here)))

  module _ (a : Sound) (h : (r : List ℕ) → AreRaw format.channels (sample_width format.bits) r channels → IsRaw asked.profile format r a × (a ≡ raw_sound asked.profile format r) × (raw_fault asked.profile format r ≡ None)) where
    pub ready_plan : (e : SetupFault) → plan_fault (cut_as own a ps) ≡ Some e → IsOutside (Refused (Setup e)) ⊎ IsFileReason asked ps bytes (Some (Refused (Setup e)))
    ready_plan e bad =
        let k = h raw raw_here in
        as_reason asked ps bytes file after t.wave t.cut format form (Setup e) (inr (refused_plan own ps blocks raw a k.2 k.1 e bad))

    module _ (p : Cut) (made : p ≡ cut_as own a ps) (good : plan_fault p ≡ None) where
      pub ready_list : (e : Why) → (e ≡ why.Memory) ⊎ (list_fault info_seen blocks ≡ Some e) → IsOutside (Refused (Input e)) ⊎ IsFileReason asked ps bytes (Some (Refused (Input e)))
      ready_list e bad =
          let k = h raw raw_here in
          as_reason asked ps bytes file after t.wave t.cut format form (Input e) (refused_blocks own ps blocks raw a k.2 k.1 p made good e bad)

      pub ready_all : (list : List Block) → fits_plan p a ≡ true → list ≡ blocks → list_fault info_seen blocks ≡ None → IsReady asked ps bytes format p list a
      ready_all list fits same fit =
          let k = h raw raw_here in
          let taken = t.taken in
          record {
            keeps = keeps_all asked ps bytes file after t.wave t.cut format form a list taken.small k.0 same;
            cut = made;
            fits = fits;
            good = good;
            refusal = only_container asked ps bytes file after t.wave t.cut format form list p same (container_only own ps blocks raw a k.2 k.1 p made good fit);
          }
