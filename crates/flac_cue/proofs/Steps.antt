-- One step through the lines of a text, and the end.
use Rattle.std.proofs.Common.{◌≡◌, ◌+◌, ◌<◌, ◌≤◌, ℕ, List, length, drop, get_or, Ok, Err, refl, sym, ap, ◌∙◌, arith}
use Rattle.std.specs.List.{enumerate_from}
use Rattle.std.proofs.lemmas.List.{at_drop_more, at_drop_all}
use Rattle.std.proofs.lemmas.List.FromFn.{length-enumerate_from, get_or-enumerate_from}
use Rattle.flac_cue.specs.declared.fault.CueWhy.{CueWhy}
use Rattle.flac_cue.specs.declared.fault.Wrong.{Wrong}
use Rattle.flac_cue.specs.declared.fault.Wrong.TheVariants as wrong
use Rattle.flac_cue.specs.declared.fault.CueFault.{CueFault}
use Rattle.flac_cue.specs.declared.audio.CueAudio.{CueAudio}
use Rattle.flac_cue.specs.declared.open.Open.{Open}
use Rattle.flac_cue.specs.Reading.{after_line, after_lines, IfLine}
use Rattle.flac_cue.specs.inner.Takes.{IfRule, fault_at}

pub lines-next : (a : CueAudio) (ls : List (List ℕ)) (i n : ℕ) (l : List ℕ) (o p : Open) → i < length ls → l ≡ get_or ls i l → after_line a o l ≡ Ok p →
    after_lines a n o (drop i ls) ≡ after_lines a (n + 1) p (drop (i + 1) ls)
unfolding after_lines
lines-next a ls i n l o p within is e = at_drop_more (after_lines a n o) ls i l within ∙ (rw (sym is) (rw (e, after_lines) refl))

pub lines-wrong : (a : CueAudio) (ls : List (List ℕ)) (i n : ℕ) (l : List ℕ) (o : Open) (why : CueWhy) → i < length ls → l ≡ get_or ls i l → after_line a o l ≡ Err why →
    after_lines a n o (drop i ls) ≡ Err (n, why)
unfolding after_lines
lines-wrong a ls i n l o why within is e = at_drop_more (after_lines a n o) ls i l within ∙ (rw (sym is) (rw (e, after_lines) refl))

pub lines-end : (a : CueAudio) (ls : List (List ℕ)) (i n : ℕ) (o : Open) → length ls ≤ i → after_lines a n o (drop i ls) ≡ Ok o
unfolding after_lines
lines-end a ls i n o end = at_drop_all (after_lines a n o) ls i end

-- the item of an enumerated list at a place is that place, and the item there
pub numbered : (ls : List (List ℕ)) (i n : ℕ) (l : List ℕ) → i < length (enumerate_from 0 ls) → (n, l) ≡ get_or (enumerate_from 0 ls) i (n, l) →
    (i < length ls) × (n ≡ i) × (l ≡ get_or ls i l)
numbered ls i n l within is =
    let inside : i < length ls = omega (arith, within, length-enumerate_from 0 ls) in
    let e = is ∙ get_or-enumerate_from 0 ls i (n, l) inside in
    (inside, omega (arith, ap (λ p. p.0) e), ap (λ p. p.1) e)

-- ---- what is claimed of a fault

pub each_rule : (P Q : CueWhy → Type 0) (w : Wrong) → ((y : CueWhy) → P y → Q y) → IfRule P w → IfRule Q w
each_rule P Q wrong.Memory f h = tt
each_rule P Q (wrong.Rule y) f h = f y h

line_at : (P : ℕ → CueWhy → Type 0) (n : ℕ) (w : Wrong) → IfRule (P n) w → IfLine P (fault_at n w)
line_at P n wrong.Memory h = tt
line_at P n (wrong.Rule y) h = h

pub line_of : (P : ℕ → CueWhy → Type 0) (n : ℕ) (w : Wrong) (f : CueFault) → f ≡ fault_at n w → IfRule (P n) w → IfLine P f
line_of P n w f is h = rw is (line_at P n w h)
