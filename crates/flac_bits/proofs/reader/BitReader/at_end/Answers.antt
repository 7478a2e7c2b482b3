use Rattle.std.proofs.Common.{◌≡◌, ◌++◌, ◌≤◌, List, Bool, true, false, not, [], ◌∷◌, length, Ok, sym, ap, ◌∙◌, arith, refl}
use Rattle.flac_bits.specs.Bits.{bits_of, is_nil}
use Rattle.flac_bits.specs.Store.{allowed}
use Rattle.flac_bits.specs.State.{State, Cursor}
use Rattle.flac_bits.proofs.Standing.{same_reason}
use Rattle.flac_bits.proofs.reader.BitReader.at_end.Goals as goal
use Rattle.flac_bits.proofs.reader.BitReader.at_end.Goals.{in-Ok, in-Err}

over_is : (more : Bool) (w xs ys old : List Bool) → (more ≡ true → 1 ≤ length w) → (more ≡ false → old ≡ []) → (w ++ xs) ++ ys ≡ old → not more ≡ is_nil old
over_is true [] xs ys old some none same = absurd (omega (arith, some refl))
over_is true (b ∷ w) xs ys old some none same = rw (← same) refl
over_is false w xs ys old some none same = rw (none refl) refl

pub returns-clause-over : goal.returns-clause-over
returns-clause-over g c = elim c.match-fill.branch [
  | in-Ok w ↦ rw w.result-is (λ known.
      let told = ap (λ (s : State). s.known) c.self.view_is ∙ known in
      let cursor_is = ap (λ (s : State). s.cursor) c.self.view_is in
      let pulls = w.in-Ok.ensures.pulls in
      let bits = pulls.moved.same told in
      let ys = g.R.Source.coming c.fill.new.source in
      let reason = same_reason c.self.inside.held c.fill.new.held (g.R.Source.coming c.self.inside.source) ys _ _ bits (pulls.foretold told pulls.moved.errors) in (
        rw (bits.left, pulls.mark, reason) cursor_is,
        over_is w.in-Ok.more c.fill.new.held.word (bits_of c.fill.new.held.bytes) (bits_of (allowed c.fill.new.held.fence.room ys)) c.args.self.now.cursor.left
            (λ e. w.in-Ok.ensures.more (ap Ok e)) (λ e. ap (λ (s : Cursor). s.left) (sym cursor_is) ∙ (pulls.over (ap Ok e) told).0) (bits.left ∙ ap (λ (s : Cursor). s.left) cursor_is),
      ))
  | in-Err w ↦ rw w.result-is tt
]

pub returns-clause-needed : goal.returns-clause-needed
returns-clause-needed g c = elim c.match-fill.branch [
  | in-Ok w ↦ rw w.result-is (omega (arith, ap (λ (s : State). s.held) c.self.view_is, w.in-Ok.ensures.pulls.moved.held))
  | in-Err w ↦ rw w.result-is (sym (ap (λ (s : State). s.held) c.self.view_is) ∙ w.in-Err.ensures.pulls.none)
]
