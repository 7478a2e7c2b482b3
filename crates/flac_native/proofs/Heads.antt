-- What is written into memory from nothing on.
use Rattle.std.proofs.Common.{◌≡◌, ◌%◌, ◌++◌, true, List, [], Bool, Result, Ok, Err, IfOk, length, ap, ◌∙◌, Vec, Global, ℕ}
use Rattle.flac_bits.specs.Bits.{bits_of}
use Rattle.flac_bits.specs.State.{Mark}
use Rattle.flac_bits.specs.Written.{Written, Adds}
use Rattle.flac_bits.specs.declared.why.Why.{Why}
use Rattle.flac_bits.proofs.ItemSpellings.{after_whole}

-- a writer that has written nothing
pub record Blank (w : Written) : Type 0 where
  pub known : w.known ≡ true
  pub bits : w.bits ≡ []
  pub unread : w.mark.unread ≡ 0

-- these bits, of whole bytes, are just the bytes that are collected
pub head_collected : (old new : Written) (text : List Bool) (r : Result (Vec ℕ Global) Why) → Blank old → length text % 8 ≡ 0 → Adds text old new
    → IfOk r (λ v. new.known ≡ true → new.mark.unread ≡ 0 → bits_of v.items ≡ new.bits) → IfOk r (λ v. bits_of v.items ≡ text)
head_collected old new text (Err e) s whole adds h = tt
head_collected old new text (Ok v) s whole adds h =
    h (adds.known s.known) (ap (λ (m : Mark). m.unread) adds.mark ∙ after_whole text old.mark s.unread whole) ∙ adds.bits s.known ∙ ap (λ k. k ++ text) s.bits
