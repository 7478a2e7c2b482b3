-- The serial number in the bytes that a source has.
use Rattle.std.proofs.Common.{◌≡◌, ℕ, ◌≤◌, ◌<◌, true, false, cond, nat_lt, List, ◌++◌, length, length-append, length-drop, length-take-le, take, drop, take_all, Option, Some, None, refl, sym, ap, ◌∙◌, arith}
use Rattle.std.proofs.lemmas.Bool.Decides.{nat_tests}
use Rattle.std.proofs.lemmas.List.{take-append-le, drop-append-le, drop-take}
use Rattle.std.specs.Int.{from_le_bytes, w32}
use Rattle.flac_bits.specs.declared.source.Source as source
use Rattle.flac_bits.specs.declared.why.Why.TheVariants.{Truncated}
use Rattle.flac_copy.specs.Again.{all_of, HoldsFirst, FailsToHold}
use Rattle.flac_copy.specs.Serials.{serial_in, ShowsSerial}
use Rattle.flac_copy.specs.declared.again.Again.{Again}

abbrev number_of : List ℕ → Option ℕ
number_of four = Some (from_le_bytes w32 four)

long_enough : (bytes : List ℕ) → 18 ≤ length bytes → serial_in bytes ≡ number_of (take 4 (drop 14 bytes))
long_enough bytes long =
    let test : nat_lt (length bytes) 18 ≡ false = grind (arith, nat_tests, long) in
    ap (λ b. cond b None (number_of (take 4 (drop 14 bytes)))) test

too_short : (bytes : List ℕ) → length bytes < 18 → serial_in bytes ≡ None
too_short bytes short =
    let test : nat_lt (length bytes) 18 ≡ true = grind (arith, nat_tests, short) in
    ap (λ b. cond b None (number_of (take 4 (drop 14 bytes)))) test

-- more bytes do not change it
with_more : (bytes more : List ℕ) → 18 ≤ length bytes → serial_in (bytes ++ more) ≡ serial_in bytes
with_more bytes more long =
    let longer : 18 ≤ length (bytes ++ more) = omega (arith, long, length-append bytes more) in
    let from : 14 ≤ length bytes = omega (arith, long) in
    let four : 4 ≤ length (drop 14 bytes) = omega (arith, long, length-drop 14 bytes) in
    long_enough (bytes ++ more) longer ∙ ap (λ l. number_of (take 4 l)) (drop-append-le 14 bytes more from) ∙ ap number_of (take-append-le 4 (drop 14 bytes) more four) ∙ sym (long_enough bytes long)

-- nor do fewer, if they are enough
of_first : (bytes : List ℕ) → 18 ≤ length bytes → serial_in (take 18 bytes) ≡ serial_in bytes
of_first bytes long =
    let long_first : 18 ≤ length (take 18 bytes) = omega (arith, length-take-le 18 bytes long) in
    let four : length (take 4 (drop 14 bytes)) ≤ 4 = omega (arith, long, length-drop 14 bytes, length-take-le 4 (drop 14 bytes) (omega (arith, long, length-drop 14 bytes))) in
    long_enough (take 18 bytes) long_first ∙ ap (λ l. number_of (take 4 l)) (drop-take 14 4 bytes) ∙ ap number_of (take_all 4 (take 4 (drop 14 bytes)) four) ∙ sym (long_enough bytes long)

module _ {S : Type 0} (g : source.Ghosts S) where
  -- the first bytes are held
  pub serial_held : (old new : Again S) (serial : Option ℕ) (front : List ℕ) → HoldsFirst g 18 old new → front ≡ take 18 new.held.items → serial ≡ serial_in front → ShowsSerial g old new serial
  serial_held old new serial front holds front_is is =
      (holds.0, λ known. is ∙ ap serial_in front_is ∙ of_first new.held.items holds.1 ∙ sym (with_more new.held.items (g.coming new.source) holds.1) ∙ ap serial_in (holds.0.all known))

  -- the source ends before
  pub serial_missing : (old new : Again S) → old.fault ≡ None → FailsToHold g 18 old new Truncated → ShowsSerial g old new None
  serial_missing old new calm fails = (fails.stays calm refl, λ known. sym (too_short (all_of g.coming old) (fails.short calm refl known)))
