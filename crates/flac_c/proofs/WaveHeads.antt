-- The pieces of the head of a plain WAV file, joined.
use Rattle.std.proofs.Common.{◌≡◌, ◌<◌, ◌+◌, ◌++◌, ◌∷◌, [], ℕ, List, length, take, map, get_or, sym, ap, ◌∙◌}
use Rattle.std.specs.Prelude.{Vec}
use Rattle.std.specs.Global.{Global}
use Rattle.std.proofs.lemmas.List.{take_more, map-append, append-nil}
use Rattle.flac_wave.specs.Wave.{all_of}
use Rattle.flac_c.proofs.WaveFiles.{all_append}

abbrev pub items : Vec ℕ Global → List ℕ
items v = v.items

-- one piece more is joined
pub joined_next : (ps : List (Vec ℕ Global)) (i : ℕ) (p : Vec ℕ Global) → i < length ps → p ≡ get_or ps i p → all_of (map items (take (i + 1) ps)) ≡ all_of (map items (take i ps)) ++ items p
joined_next ps i p within is =
    ap (λ l. all_of (map items l)) (take_more ps i p within) ∙ (ap all_of (map-append items (take i ps) (get_or ps i p ∷ []))
    ∙ (all_append (map items (take i ps)) (items (get_or ps i p) ∷ [])
    ∙ (ap (λ (l : List ℕ). all_of (map items (take i ps)) ++ l) (append-nil (items (get_or ps i p))) ∙ ap (λ v. all_of (map items (take i ps)) ++ items v) (sym is))))
