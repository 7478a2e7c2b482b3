-- For proofs of reading item by item: what one step gives.
use Rattle.std.specs.Prelude.{◌≡◌, ◌&&◌, true, cond, List, [], ◌∷◌, Result, Ok, Err}
use Rattle.flac_bits.specs.Bits.{is_nil}
use Rattle.flac_bits.specs.State.{Mark, Cursor, fresh}
use Rattle.flac_bits.specs.Layout.{Rule, Reason}
use Rattle.flac_bits.specs.Meaning.{IsCut}
use Rattle.flac_bits.specs.Fence.{read_in}
use Rattle.flac_bits.specs.Items.{Grammar, Step, item, over, refused}

abbrev pub stepped : {I P : Type 0} → P → Result (I × Cursor) Reason → Step I P
stepped at (Ok x) = item x.0 x.1
stepped at (Err reason) = refused at reason.why

abbrev pub judged : {I P : Type 0} → P → List Rule → Step I P
judged at [] = over
judged at (rule ∷ rules) = cond rule.broken (refused at rule.why) (judged at rules)

abbrev pub step_at : {S I P : Type 0} → Grammar S I P → S → Cursor → Step I P
step_at g s c = cond (g.may_end s && is_nil c.left) (judged g.end_place (g.at_end s)) (stepped (g.place s) (read_in (g.room s) (g.layout s) (record c { mark = fresh c.mark })))

-- if the input may end, an item needs at least one bit
abbrev pub NeedsBits : {S I P : Type 0} → Grammar S I P → Type 0
NeedsBits {S = S} g = (s : S) (m : Mark) → g.may_end s ≡ true → IsCut (g.layout s) m []
