-- A stream that keeps a WAV file is read as one of that file.
use Rattle.std.proofs.Common.{◌≡◌, ℕ, List, [], ap, sym, subst, ◌∙◌, None, inl, inr}
use Rattle.flac_bits.specs.Bits.{bits_of}
use Rattle.flac_bits.specs.Forms.{AreBytes}
use Rattle.flac_bits.specs.Items.{Stream}
use Rattle.flac_bits.specs.declared.why.Why.TheVariants.{Truncated}
use Rattle.flac_meta.specs.declared.block.Block.{Block}
use Rattle.flac_frame.specs.Audio.{Sound}
use Rattle.flac_native.specs.Decoding.{beginning}
use Rattle.flac_native.specs.Given.{Cut}
use Rattle.flac_native.specs.Stream.{Piece, grammar, opening}
use Rattle.flac_native.proofs.Deciding.{one_answer}
use Rattle.flac_ogg.specs.Either.{read_either}
use Rattle.flac_ogg.specs.Stream.{OggStream}
use Rattle.flac_ogg.specs.Verifying.{bytes_reading}
use Rattle.flac_ogg.proofs.MeaningReadings.{one_ogg_reading}
use Rattle.flac_ogg.proofs.RoundTrips.{native_bytes, ogg_bytes}
use Rattle.flac_cli.specs.Outcomes.{streamed, IsWaveAnswer, KeptFilesAreRead, KeptFilesAreDecoded}
use Rattle.flac_cli.specs.Encoded.{EncodesIn, parts_in, cut_found}
use Rattle.flac_cli.specs.Waves.{wave_in, KeptFilesComeBack}
use Rattle.flac_cli.proofs.Kept.{kept_fits}
use Rattle.flac_jobs.specs.declared.formats.ContainerKind.{ContainerKind}
use Rattle.flac_jobs.specs.declared.formats.ContainerKind.TheVariants as container

-- what is read of it is what was given
one_reading : (c : ContainerKind) (p : Cut) (list : List Block) (a : Sound) (stream : List ℕ) → AreBytes stream → (e : EncodesIn c p list a [] (bits_of stream)) (parts : List Piece) → (bytes_reading p.profile stream).whole parts
    → parts ≡ parts_in c p list a [] (bits_of stream) e
one_reading container.Native p list a stream small e parts whole =
    let items = parts_in container.Native p list a [] (bits_of stream) e in
    let b = native_bytes p list a stream small e in
    let read = subst (λ k. (read_either p.profile k (beginning Truncated) (bits_of stream)).whole parts) b.container whole in
    let given : Stream grammar (opening p.profile) (beginning Truncated) items (bits_of stream) = subst (λ k. Stream grammar (opening p.profile) (beginning Truncated) items k) (sym e.written) e.stream in
    (one_answer (opening p.profile) (beginning Truncated) (bits_of stream)).streams parts items read given
one_reading (container.Ogg serial) p list a stream small e parts whole =
    let items = parts_in (container.Ogg serial) p list a [] (bits_of stream) e in
    let b = ogg_bytes serial p list a stream small e in
    let read = subst (λ k. (read_either p.profile k (beginning Truncated) (bits_of stream)).whole parts) b.container whole in
    let given : OggStream p.profile (beginning Truncated) items (bits_of stream) = subst (λ k. OggStream p.profile (beginning Truncated) items k) (sym e.written) e.stream in
    (one_ogg_reading p.profile (beginning Truncated) (bits_of stream)).streams parts items read given

pub kept_files_come_back : KeptFilesComeBack
kept_files_come_back asked bytes stream keep small w parts whole =
    let p = cut_found (record asked { format = w.format }) w.audio w.predictors w.found in
    let raw = w.keeps.raw in
    let read = subst (λ q. (bytes_reading q stream).whole parts) (sym raw.profiled) whole in
    ap wave_in (one_reading asked.container p w.list w.audio stream small w.encodes parts read) ∙ w.back keep

-- it is read as a stream of what was given
given_reading : (c : ContainerKind) (p : Cut) (list : List Block) (a : Sound) (stream : List ℕ) → AreBytes stream → (e : EncodesIn c p list a [] (bits_of stream)) → (bytes_reading p.profile stream).whole (parts_in c p list a [] (bits_of stream) e)
given_reading container.Native p list a stream small e =
    let items = parts_in container.Native p list a [] (bits_of stream) e in
    let b = native_bytes p list a stream small e in
    let given : Stream grammar (opening p.profile) (beginning Truncated) items (bits_of stream) = subst (λ k. Stream grammar (opening p.profile) (beginning Truncated) items k) (sym e.written) e.stream in
    subst (λ k. (read_either p.profile k (beginning Truncated) (bits_of stream)).whole items) (sym b.container) given
given_reading (container.Ogg serial) p list a stream small e =
    let items = parts_in (container.Ogg serial) p list a [] (bits_of stream) e in
    let b = ogg_bytes serial p list a stream small e in
    let given : OggStream p.profile (beginning Truncated) items (bits_of stream) = subst (λ k. OggStream p.profile (beginning Truncated) items k) (sym e.written) e.stream in
    subst (λ k. (read_either p.profile k (beginning Truncated) (bits_of stream)).whole items) (sym b.container) given

pub kept_files_are_read : KeptFilesAreRead
kept_files_are_read asked bytes stream keep small w =
    let p = cut_found (record asked { format = w.format }) w.audio w.predictors w.found in
    let parts = parts_in asked.container p w.list w.audio [] (bits_of stream) w.encodes in
    let whole = given_reading asked.container p w.list w.audio stream small w.encodes in (
      parts,
      subst (λ q. (bytes_reading q stream).whole parts) w.keeps.raw.profiled whole,
      kept_fits asked bytes w.format w.audio w.list p [] (bits_of stream) w.keeps w.encodes keep,
    )

pub kept_files_are_decoded : KeptFilesAreDecoded
kept_files_are_decoded asked bytes stream keep small w path status before after r =
    elim (r.fits.each (streamed None) (kept_files_are_read asked bytes stream keep small w)) [
      | inl out ↦ let a = subst (λ o. IsWaveAnswer o path status before after) out.1 r.answer in inr (out.0, a.0, a.1)
      | inr done ↦ inl (subst (λ o. IsWaveAnswer o path status before after) done r.answer)
    ]
