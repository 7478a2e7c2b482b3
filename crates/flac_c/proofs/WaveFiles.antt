-- Where the samples of a WAV file are in memory.
use Rattle.std.proofs.Common.{◌≡◌, ◌+◌, ◌-◌, ◌++◌, ◌∷◌, [], ℕ, false, List, length, take, drop, refl, sym, ap, ◌∙◌, append_assoc, arith, length-append}
use Rattle.std.proofs.lemmas.List.{append-nil}
use Rattle.std.proofs.Math.Seq.{take-append_seam, drop-append_seam}
use Rattle.flac_wave.specs.Shift.{depth_in, wave_width_of}
use Rattle.flac_wave.specs.Wave.{Parts, IsWave, all_of}
use Rattle.flac_wave.proofs.Files.{parts_whole}
use Rattle.flac_c.specs.Waves.{DescribesWave}

pub all_append : (ps qs : List (List ℕ)) → all_of (ps ++ qs) ≡ all_of ps ++ all_of qs
all_append [] qs = refl
all_append (p ∷ ps) qs = ap (λ l. p ++ l) (all_append ps qs) ∙ sym (append_assoc p (all_of ps) (all_of qs))

-- the pieces, the samples and what follows them, joined
pub joined_whole : (bytes : List ℕ) (p : Parts) → IsWave false bytes p → all_of p.pieces ++ (p.samples ++ p.back) ≡ bytes
joined_whole bytes p i =
    ap (λ (l : List (List ℕ)). all_of l ++ (p.samples ++ p.back)) i.pieces
    ∙ (ap (λ (l : List ℕ). (take 12 bytes ++ l) ++ (p.samples ++ p.back)) (all_append i.chunks (take 8 i.rest ∷ []) ∙ ap (λ (l : List ℕ). all_of i.chunks ++ l) (append-nil (take 8 i.rest)))
    ∙ parts_whole bytes p i)

pub joined_length : (bytes : List ℕ) (p : Parts) → IsWave false bytes p → length bytes ≡ length (all_of p.pieces) + (length p.samples + length p.back)
joined_length bytes p i =
    ap length (sym (joined_whole bytes p i)) ∙ (length-append (all_of p.pieces) (p.samples ++ p.back) ∙ ap (λ n. length (all_of p.pieces) + n) (length-append p.samples p.back))

samples_found : (bytes : List ℕ) (p : Parts) → IsWave false bytes p → take (length p.samples) (drop (length (all_of p.pieces)) bytes) ≡ p.samples
samples_found bytes p i =
    ap (λ (l : List ℕ). take (length p.samples) (drop (length (all_of p.pieces)) l)) (sym (joined_whole bytes p i))
    ∙ (ap (take (length p.samples)) (drop-append_seam (all_of p.pieces) (p.samples ++ p.back)) ∙ take-append_seam p.samples p.back)

-- a file is described by what its parts are
pub described : (bytes : List ℕ) (p : Parts) (offset bits : ℕ) → IsWave false bytes p → offset ≡ length bytes - length p.back - length p.samples → bits ≡ depth_in p.format p.samples
    → DescribesWave bytes record { offset = offset; len = length p.samples; rate = p.format.rate; channels = p.format.channels; bits = bits; width = wave_width_of p.format }
described bytes p offset bits i first deep =
    let long = joined_length bytes p i in
    let at : offset ≡ length (all_of p.pieces) = omega (arith, first, long) in
    rw (at, deep) (record { parts = p; wave = i; is = refl; samples = samples_found bytes p i })
