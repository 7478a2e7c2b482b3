-- What a sink has collected that collects samples.
use Rattle.std.proofs.Common.{◌≡◌, ℤ, List, [], ◌∷◌, ◌++◌, ap, sym, ◌∙◌, append_assoc, append-nil}
use Rattle.flac_bits.specs.Handing.{TakesAll}
use Rattle.flac_native.specs.Stream.{Piece, marked, block, framed}
use Rattle.flac_native.specs.Item.{Item}
use Rattle.flac_native.specs.Decoding.{taken}
use Rattle.flac_frame.specs.Interleaved.{interleaved}
use Rattle.flac_c.specs.Sampled.{numbers_from}
use Rattle.flac_c.specs.inner.Sampled.{numbers_in}

module _ {S : Type 0} (got : S → List ℤ) where
  -- what a sink makes of an item that collects numbers
  abbrev pub Numbers : S → Item → S → Type 0
  Numbers s x t = got t ≡ got s ++ numbers_in x

  -- It has collected the samples of all parts, after what was there.
  pub all_numbers : (old : S) (xs : List Piece) (new : S) → TakesAll (taken Numbers) old xs new → got new ≡ got old ++ numbers_from xs
  all_numbers old [] new h = ap got (sym h) ∙ sym (append-nil (got old))
  all_numbers old (marked ∷ xs) new h =
      let same : old ≡ h.0 = h.1 in
      all_numbers h.0 xs new h.2
      ∙ ap (λ s. got s ++ numbers_from xs) (sym same)
  all_numbers old (block last b ∷ xs) new h =
      all_numbers h.0 xs new h.2
      ∙ ap (λ l. l ++ numbers_from xs) (h.1 ∙ append-nil (got old))
  all_numbers old (framed f ∷ xs) new h =
      all_numbers h.0 xs new h.2
      ∙ (ap (λ l. l ++ numbers_from xs) h.1
      ∙ append_assoc (got old) (interleaved f) (numbers_from xs))

  -- So has one that began with nothing.
  pub numbers_from_none : (old : S) (xs : List Piece) (new : S) → TakesAll (taken Numbers) old xs new → got old ≡ [] → got new ≡ numbers_from xs
  numbers_from_none old xs new h none = all_numbers old xs new h ∙ ap (λ l. l ++ numbers_from xs) none
