-- What a line says after the path, put together.
use Rattle.std.proofs.Common.{◌≡◌, ℕ, true, false, List, codes, drop, Option, Some, None, ap, ◌∙◌}
use Rattle.flac_shelf.specs.declared.past.Audio.{Audio}
use Rattle.flac_shelf.specs.declared.past.Past.{Past}
use Rattle.flac_report.specs.inner.Reading.{begins, value_in, after_in, with_digest, audio_by, audio_in, at_channels, at_depth, at_samples, after_samples, other_past, past_in}

pub audio_is : (text t1 t2 t3 t4 t5 : List ℕ) (rate channels depth samples : Option ℕ) (n : ℕ) (r : Option Audio)
    → rate ≡ value_in (codes ",\"rate\":") text → t1 ≡ after_in (codes ",\"rate\":") text
    → channels ≡ value_in (codes ",\"channels\":") t1 → t2 ≡ after_in (codes ",\"channels\":") t1
    → depth ≡ value_in (codes ",\"depth\":") t2 → t3 ≡ after_in (codes ",\"depth\":") t2
    → t4 ≡ after_in (codes ",\"frames\":") t3
    → samples ≡ value_in (codes ",\"samples\":") t4 → t5 ≡ after_in (codes ",\"samples\":") t4
    → samples ≡ Some n → r ≡ with_digest (record { digest = None; samples = n; rate = rate; channels = channels; depth = depth }) t5
    → r ≡ audio_in text
unfolding audio_in
audio_is text t1 t2 t3 t4 t5 rate channels depth samples n r a b d e f g h i j is last =
    let s : Some n ≡ value_in (codes ",\"samples\":") (at_samples text) = cc in
    let c : channels ≡ value_in (codes ",\"channels\":") (at_channels text) = cc in
    let p : depth ≡ value_in (codes ",\"depth\":") (at_depth text) = cc in
    let t : t5 ≡ after_samples text = cc in
    last ∙ ap (λ v. audio_by v rate channels depth t5) s
    ∙ ap (λ v. audio_by (value_in (codes ",\"samples\":") (at_samples text)) v channels depth t5) a
    ∙ ap (λ v. audio_by (value_in (codes ",\"samples\":") (at_samples text)) (value_in (codes ",\"rate\":") text) v depth t5) c
    ∙ ap (λ v. audio_by (value_in (codes ",\"samples\":") (at_samples text)) (value_in (codes ",\"rate\":") text) (value_in (codes ",\"channels\":") (at_channels text)) v t5) p
    ∙ ap (λ v. audio_by (value_in (codes ",\"samples\":") (at_samples text)) (value_in (codes ",\"rate\":") text) (value_in (codes ",\"channels\":") (at_channels text)) (value_in (codes ",\"depth\":") (at_depth text)) v) t

pub bad_past : (text : List ℕ) (r : Option Past) → begins (codes "\",\"status\":\"ok\"") text ≡ false → begins (codes "\",\"status\":\"bad\"") text ≡ true
    → r ≡ other_past (drop 16 text) → r ≡ past_in text
unfolding past_in
bad_past text r a b is = rw (a, b) is

pub unopened_past : (text : List ℕ) (r : Option Past) → begins (codes "\",\"status\":\"ok\"") text ≡ false → begins (codes "\",\"status\":\"bad\"") text ≡ false
    → begins (codes "\",\"status\":\"unopened\"") text ≡ true → r ≡ other_past (drop 21 text) → r ≡ past_in text
unfolding past_in
unopened_past text r a b d is = rw (a, b, d) is
