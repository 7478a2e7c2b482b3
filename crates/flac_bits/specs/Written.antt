-- What a bit writer has written.
use Rattle.std.specs.Prelude.{◌≡◌, ◌<◌, ◌≤◌, ℕ, Bool, true, false, cond, List, [], ◌∷◌, ◌++◌, Result, Ok, Err}
use Rattle.std.specs.Borrow.{GName}
use Rattle.flac_bits.specs.Bits.{bits_of}
use Rattle.flac_bits.specs.State.{Mark, past, fresh, Rises}
use Rattle.flac_bits.specs.declared.why.Why.{Why}
use Rattle.flac_bits.specs.declared.why.Why.TheVariants.{Write}

pub record Written : Type 0 where
  -- whether the bytes of the target are known
  pub known : Bool
  -- the number of errors that it returned
  pub errors : ℕ
  -- the references that it goes through
  pub names : List GName
  -- the bytes that it was sent
  pub sent : List ℕ
  -- all bits that were written: those that were sent, and those that are still held
  pub bits : List Bool
  -- what is known of the bits written, as of those that a reader has read
  pub mark : Mark

-- the first bits are a prefix of the second
unfoldable pub begins : List Bool → List Bool → Bool
begins [] whole = true
begins (b ∷ front) [] = false
begins (true ∷ front) (c ∷ whole) = cond c (begins front whole) false
begins (false ∷ front) (c ∷ whole) = cond c false (begins front whole)

-- The target failed: its count rose, if it could, and what it was sent is a prefix of these bits.
pub record Fails (bits : List Bool) (old new : Written) (e : Why) : Type 0 where
  pub reason : e ≡ Write
  pub kept : old.errors ≤ new.errors
  pub names : new.names ≡ old.names
  pub rises : old.known ≡ true → old.errors < new.errors
  pub begun : old.known ≡ true → begins (bits_of new.sent) bits ≡ true
  pub risen : Rises old.errors new.errors

-- these bits were written after those before
pub record Adds (text : List Bool) (old new : Written) : Type 0 where
  pub known : old.known ≡ true → new.known ≡ true
  pub errors : new.errors ≡ old.errors
  pub names : new.names ≡ old.names
  pub mark : new.mark ≡ past text old.mark
  pub bits : old.known ≡ true → new.bits ≡ old.bits ++ text

abbrev pub Writes : {X : Type 0} → List Bool → Written → Written → Result X Why → Type 0
Writes text old new (Ok x) = Adds text old new
Writes text old new (Err e) = Fails (old.bits ++ text) old new e

-- the checks began anew, if the bits written are whole bytes
pub record Restarts (old new : Written) : Type 0 where
  pub known : old.known ≡ true → new.known ≡ true
  pub errors : new.errors ≡ old.errors
  pub names : new.names ≡ old.names
  pub mark : new.mark ≡ fresh old.mark
  pub bits : old.known ≡ true → new.bits ≡ old.bits

abbrev pub Starts : {X : Type 0} → Written → Written → Result X Why → Type 0
Starts old new (Ok x) = Restarts old new
Starts old new (Err e) = Fails old.bits old new e

-- these bytes are all bits that were written, if those are whole bytes
abbrev pub AreAll : Written → List ℕ → Type 0
AreAll w bytes = w.known ≡ true → w.mark.unread ≡ 0 → bits_of bytes ≡ w.bits
