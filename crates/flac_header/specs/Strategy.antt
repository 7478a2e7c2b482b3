-- Whether the blocks of a stream may differ in size, as the code has it (RFC 9639, section 9.1).
use Rattle.std.specs.Prelude.{◌≡◌, refl, Bool, true, false, cond}
use Rattle.flac_header.specs.declared.blocking_strategy.BlockingStrategy.{BlockingStrategy}
use Rattle.flac_header.specs.declared.blocking_strategy.BlockingStrategy.TheVariants.{Fixed, Variable}

-- blocks may differ in size, and a header has the number of its first sample
abbrev pub is_variable : BlockingStrategy → Bool
is_variable Fixed = false
is_variable Variable = true

abbrev pub strategy_of : Bool → BlockingStrategy
strategy_of variable = cond variable Variable Fixed

-- nothing of it is lost
pub same_strategy : (s : BlockingStrategy) → strategy_of (is_variable s) ≡ s
same_strategy Fixed = refl
same_strategy Variable = refl
