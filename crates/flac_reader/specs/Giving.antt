-- What one call of a reader returns.
use Rattle.std.specs.Prelude.{◌≡◌, ◌≢◌, ◌+◌, min, true, false, Option, Result, Ok, IfOk, IfErr, MatchResult}
use Rattle.flac_bits.specs.declared.why.Why.TheVariants.{Memory}
use Rattle.flac_native.specs.Item.{Item}
use Rattle.flac_native.specs.Giving.{stage_of, seen_by}
use Rattle.flac_native.specs.declared.fault.Fault.{Fault}
use Rattle.flac_native.specs.declared.container.Container as container
use Rattle.flac_reader.specs.Coming.{GivesFrame, Counted, IsPast, item_in, only_frame, size_of}
use Rattle.flac_reader.specs.declared.reader.Reader.{Reader}

-- the frame that a reader read last
abbrev pub last_frame : {C : Type 0} {g : container.Ghosts C} → Reader C g → Option Item
last_frame reader = only_frame (item_in (stage_of reader.decoder))

-- The call returned the first frame of those that were to come, and left the others. The samples of all frames so far
-- are counted, up to 2^64 - 1; after an error the numbers are as before. The metadata stays. After the last metadata
-- block no call is out of memory.
pub record Gives {C X : Type 0} {g : container.Ghosts C} (old new : Reader C g) (view : X → Option Item) (result : Result X Fault) : Type 0 where
  pub frame : GivesFrame g old.ahead (stage_of old.decoder) (stage_of new.decoder) view result
  pub counts : Counted g (stage_of old.decoder) (stage_of new.decoder) result
  pub ahead : new.ahead ≡ false
  -- what was read ahead is returned, without an error
  pub given : old.ahead ≡ true → (new.decoder ≡ old.decoder) × (seen_by view result ≡ Ok (last_frame old))
  pub memory : IsPast (stage_of old.decoder) → IfErr result (λ f. f.why ≢ Memory)
  pub past : IsPast (stage_of old.decoder) → IfOk result (λ _. IsPast (stage_of new.decoder))
  pub samples : MatchResult result (λ x. (new.first ≡ old.after) × (new.after ≡ min (old.after + size_of (view x)) 18446744073709551615)) (λ _. (new.first ≡ old.first) × (new.after ≡ old.after))
  pub blocks : new.blocks ≡ old.blocks
  pub info : new.info ≡ old.info
  pub start : new.start ≡ old.start
