-- Reasons that a layout does not give.
use Rattle.std.proofs.Common.{◌≡◌, ℕ, zero, suc, List, [], ◌∷◌, Bool, Result, Ok, Err, inl, inr, sym, ap, ◌∙◌}
use Rattle.std.specs.Prelude.{⊤}
use Rattle.flac_bits.specs.State.{Mark, Cursor, past}
use Rattle.flac_bits.specs.Layout.{Layout, done, bind, bits, unary, judge, refuse, mark, Rule, Reason, run, because}
use Rattle.flac_bits.specs.Lists.{list_of}
use Rattle.flac_bits.specs.Meaning.{Shows, BreaksFirst}
use Rattle.flac_bits.specs.declared.why.Why.{Why}
use Rattle.flac_bits.specs.declared.why.Why.TheVariants.{Memory}
use Rattle.flac_bits.proofs.Meaning.{takes, refuses, past-short}
use Rattle.flac_meta.specs.Info.{info_sizes, info_format, stream_info}
use Rattle.flac_meta.specs.Header.{block_header}
use Rattle.flac_meta.specs.Padding.{skipped}
use Rattle.flac_meta.specs.declared.block.Seen.{Seen}

abbrev NoneGives : Why → List Rule → Type 0
NoneGives w [] = ⊤
NoneGives w (rule ∷ rules) = (rule.why ≡ w → ⊥) × NoneGives w rules

-- no rule of the layout gives this reason
abbrev Avoids : {A : Type 0} → Why → Layout A → Type 0
Avoids w (done x) = ⊤
Avoids w (bind {A = A} l f) = Avoids w l × ((x : A) → Avoids w (f x))
Avoids w (bits n) = ⊤
Avoids w (unary limit) = ⊤
Avoids w (judge rules) = NoneGives w rules
Avoids w (refuse v) = v ≡ w → ⊥
Avoids w mark = ⊤

none_breaks : (w : Why) (rules : List Rule) → NoneGives w rules → BreaksFirst rules w → ⊥
none_breaks w [] a b = b
none_breaks w (rule ∷ rules) a (inl b) = a.0 b.1
none_breaks w (rule ∷ rules) a (inr b) = none_breaks w rules a.1 b.1

not_shown : {A : Type 0} (w : Why) (l : Layout A) (m : Mark) (front : List Bool) → Avoids w l → Shows l m front w → ⊥
not_shown w (done x) m front a s = s
not_shown w (bind l f) m front a (inl s) = not_shown w l m front a.0 s
not_shown w (bind l f) m front a (inr (x, part, rest, split, spelled, s)) = not_shown w (f x) (past part m) rest (a.1 x) s
not_shown w (bits n) m front a s = s
not_shown w (unary limit) m front a s = s
not_shown w (judge rules) m front a s = none_breaks w rules a s.1
not_shown w (refuse v) m front a s = a s.1
not_shown w mark m front a s = s

-- this reason is given only if the input runs short for it
pub only_short : {A : Type 0} (w : Why) (l : Layout A) (c : Cursor) → Avoids w l → run l c ≡ Err (because w) → c.mark.short ≡ w
only_short w l c a is = elim (refuses l c.left c.mark w is) [
  | inl (front, rest, split, s) ↦ absurd (not_shown w l c.mark front a s)
  | inr (short, cut) ↦ sym short
]

-- what was read does not change why bits run short
pub short_stays : {A : Type 0} (l : Layout A) (c d : Cursor) (x : A) → run l c ≡ Ok (x, d) → d.mark.short ≡ c.mark.short
short_stays l c d x is = let t = takes l c.left c.mark x d is in ap (λ (m : Mark). m.short) t.3 ∙ past-short t.0 c.mark

bytes_avoid : (w : Why) (n : ℕ) → Avoids w (list_of n (bits 8))
unfolding list_of
bytes_avoid w zero = tt
bytes_avoid w (suc n) = (tt, λ x. (bytes_avoid w n, λ xs. tt))

sizes_avoid : Avoids Memory info_sizes
unfolding info_sizes
sizes_avoid = (tt, λ a. (tt, λ b. (tt, λ c. (tt, λ d. tt))))

format_avoids : Avoids Memory info_format
unfolding info_format
format_avoids = (tt, λ a. (tt, λ b. (tt, λ c. (tt, λ d. tt))))

pub info_avoids : Avoids Memory stream_info
unfolding stream_info
info_avoids = (sizes_avoid, λ sizes. (format_avoids, λ format. (bytes_avoid Memory 16, λ digest. ((λ q. absurd cc, tt), λ u. tt))))

pub skipped_avoids : (n : ℕ) → Avoids Memory (skipped n)
unfolding skipped
skipped_avoids n = (tt, λ x. tt)

pub header_avoids : (seen : Seen) → Avoids Memory (block_header seen)
unfolding block_header
header_avoids seen = (tt, λ a. (tt, λ b. (tt, λ c. ((λ q. absurd cc, (λ q. absurd cc, (λ q. absurd cc, (λ q. absurd cc, tt)))), λ d. tt))))

-- the reason in the form in which an exit gives it
pub memory_short : {A : Type 0} (l : Layout A) (c : Cursor) (e : Why) → Avoids Memory l → e ≡ Memory → run l c ≡ Err (because e) → c.mark.short ≡ Memory
memory_short l c e a is ran = only_short Memory l c a (ran ∙ ap (λ (w : Why). failed w) is)
  where
    failed : {B : Type 0} → Why → Result (B × Cursor) Reason
    failed w = Err (because w)
