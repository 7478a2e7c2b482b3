-- What is written into memory from nothing on.
use Rattle.std.proofs.Common.{◌≡◌, ℕ, ◌*◌, ◌≤◌, ◌++◌, true, false, nat_lt, List, [], Bool, Result, Ok, Err, IfOk, length, ap, refl, ◌∙◌, Vec, Global, None, arith}
use Rattle.std.proofs.lemmas.Bool.Decides.{nat_tests}
use Rattle.flac_bits.specs.Bits.{bits_of}
use Rattle.flac_bits.specs.State.{Mark}
use Rattle.flac_bits.specs.Written.{Written, Adds}
use Rattle.flac_bits.specs.declared.why.Why.{Why}
use Rattle.flac_bits.proofs.ItemSpellings.{after_whole}
use Rattle.flac_bits.proofs.Holding.{length-bits_of}
use Rattle.flac_meta.specs.Spelling.{comments_length}
use Rattle.flac_meta.specs.Listed.{block_fault}
use Rattle.flac_meta.specs.declared.comments.Comments.{Comments}
use Rattle.flac_meta.specs.declared.block.Block.TheVariants as block_of

-- a writer that has written nothing
pub record Blank (w : Written) : Type 0 where
  pub known : w.known ≡ true
  pub bits : w.bits ≡ []
  pub unread : w.mark.unread ≡ 0

-- these bits, of n whole bytes, are just the bytes that are collected
pub collected : (old new : Written) (text : List Bool) (n : ℕ) (r : Result (Vec ℕ Global) Why) → Blank old → length text ≡ 8 * n → Adds text old new
    → IfOk r (λ v. new.known ≡ true → new.mark.unread ≡ 0 → bits_of v.items ≡ new.bits) → IfOk r (λ v. bits_of v.items ≡ text)
collected old new text n (Err e) s whole adds h = tt
collected old new text n (Ok v) s whole adds h =
    h (adds.known s.known) (ap (λ (m : Mark). m.unread) adds.mark ∙ after_whole text old.mark s.unread (omega (arith, whole))) ∙ adds.bits s.known ∙ ap (λ k. k ++ text) s.bits

pub many : (text : List Bool) (n : ℕ) (bytes : List ℕ) → length text ≡ 8 * n → bits_of bytes ≡ text → length bytes ≡ n
many text n bytes whole is = omega (arith, length-bits_of bytes, ap (λ (l : List Bool). length l) is, whole)

pub not_above : (n : ℕ) → n ≤ 16777215 → nat_lt 16777215 n ≡ false
not_above n le = grind (arith, nat_tests)

-- comments of this length may be written
pub no_fault : (c : Comments) → comments_length c ≤ 16777215 → block_fault (block_of.VorbisComment c) ≡ None
no_fault c le = rw (not_above (comments_length c) le) refl
