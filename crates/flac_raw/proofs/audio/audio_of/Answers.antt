use Rattle.std.proofs.Common.{◌≡◌, ◌*◌, ◌%◌, Option, Some, None, ℤ, Vec, Global, true, length, map, refl, ap, subst, inl, inr}
use Rattle.flac_raw.specs.declared.raw_fault.RawFault.TheVariants.{Input}
use Rattle.std.specs.Prelude.{IfSome}
use Rattle.std.proofs.lemmas.Result.{err_from_is_err_and}
use Rattle.flac_raw.specs.Reading.{AreChannels}
use Rattle.flac_raw.proofs.Rows.{raw_is}
use Rattle.flac_raw.proofs.Refused.{sound_of, bad_format, bad_length, bad_samples, good_samples}
use Rattle.flac_raw.proofs.audio.audio_of.Goals as goal

-- what holds of a value that is there
if_some : {X : Type 0} (P : X → Type 0) (o : Option X) (x : X) → o ≡ Some x → IfSome o P → P x
if_some P None x e h = absurd cc
if_some P (Some y) x e h = let same : y ≡ x = cc in subst P same h

pub returns-in-Some : goal.returns-in-Some
returns-in-Some g c = record {
  raw = tt;
  sound = tt;
  accepted = tt;
  refused = λ known same. inr (bad_format c.args.profile c.args.format (g.R.Source.coming c.args.source.now) c.in-Some.fault c.in-Some.ensures.fault);
  names = refl;
}

pub returns-in_err-lists : goal.returns-in_err-lists
returns-in_err-lists g c =
    let p = err_from_is_err_and c.from_residual.result c.from_residual.ensures.1 in
    rw (p.1, p.2) (record {
      raw = tt;
      sound = tt;
      accepted = tt;
      refused = λ known same. inl (ap Input (c.in_err-lists.ensures.memory known same));
      names = c.in_err-lists.ensures.names;
    })

pub returns-in_default-2 : goal.returns-in_default-2
returns-in_default-2 g c =
    let bytes = g.R.Source.coming c.args.source.now in
    record {
      raw = tt;
      sound = tt;
      accepted = tt;
      refused = λ known same. inr (bad_length c.args.profile c.args.format bytes (length bytes) c.in_default.ensures.fault refl (rw c.sample_width-width.ensures at (c.in_ok-lists.ensures.part c.in_default-2.is known)));
      names = c.in_ok-lists.ensures.names;
    }

pub returns-in_err-audio : goal.returns-in_err-audio
returns-in_err-audio g c =
    let p = err_from_is_err_and c.from_residual-in_err-audio.result c.from_residual-in_err-audio.ensures.1 in
    let width = c.sample_width-width.result in
    let bytes = g.R.Source.coming c.args.source.now in
    let told = g.R.Source.known c.args.source.now ≡ true in
    let whole = rw c.sample_width-width.ensures at (if_some (λ (v : Vec (Vec ℤ Global) Global). told → length bytes % (c.args.format.channels * width) ≡ 0) _ c.in-Some-2.lists c.in-Some-2.is c.in_ok-lists.ensures.whole) in
    let are = rw c.sample_width-width.ensures at (if_some (λ (v : Vec (Vec ℤ Global) Global). told → AreChannels bytes c.args.format.channels width (map (λ (x : Vec ℤ Global). x.items) v.items)) _ c.in-Some-2.lists c.in-Some-2.is c.in_ok-lists.ensures.channels) in
    rw (p.1, p.2) (record {
      raw = tt;
      sound = tt;
      accepted = tt;
      refused = λ known same. inr (bad_samples c.args.profile c.args.format bytes (length bytes) c.in_err-audio.field-0.0 bytes _ c.in_default.ensures.fault refl (whole known) (are known) refl c.in_err-audio.ensures);
      names = c.in_ok-lists.ensures.names;
    })

pub returns : goal.returns
returns g c =
    let width = c.sample_width-width.result in
    let bytes = g.R.Source.coming c.args.source.now in
    let told = g.R.Source.known c.args.source.now ≡ true in
    let whole = rw c.sample_width-width.ensures at (if_some (λ (v : Vec (Vec ℤ Global) Global). told → length bytes % (c.args.format.channels * width) ≡ 0) _ c.in-Some-2.lists c.in-Some-2.is c.in_ok-lists.ensures.whole) in
    let are = rw c.sample_width-width.ensures at (if_some (λ (v : Vec (Vec ℤ Global) Global). told → AreChannels bytes c.args.format.channels width (map (λ (x : Vec ℤ Global). x.items) v.items)) _ c.in-Some-2.lists c.in-Some-2.is c.in_ok-lists.ensures.channels) in
    record {
      raw = λ known. raw_is c.args.profile c.args.format bytes bytes c.in_ok-audio.audio _ c.in_ok-audio.ensures c.channels-channels.ensures.sound (are known) refl;
      sound = λ known. sound_of c.args.profile c.args.format bytes bytes c.in_ok-audio.audio _ c.in_ok-audio.ensures (are known) refl;
      accepted = λ known.
          let sound = sound_of c.args.profile c.args.format bytes bytes c.in_ok-audio.audio _ c.in_ok-audio.ensures (are known) refl in
          good_samples c.args.profile c.args.format bytes (length bytes) c.in_ok-audio.audio c.in_default.ensures.fault refl (whole known) sound c.channels-channels.ensures.sound;
      refused = tt;
      names = c.in_ok-lists.ensures.names;
    }
