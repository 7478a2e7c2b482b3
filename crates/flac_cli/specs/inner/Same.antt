-- For proofs of comparisons: what is printed of a difference.
use Rattle.std.specs.Prelude.{◌≡◌, ◌++◌}
use Rattle.flac_bits.specs.declared.target.Target as target
use Rattle.flac_compare.specs.declared.difference.Difference.{Difference}
use Rattle.flac_cli.specs.Calls.{IfPrinted}
use Rattle.flac_cli.specs.Same.{difference_line}

-- if neither standard output nor standard error failed, its line was printed, and nothing was added to standard error
abbrev pub PrintsDifference : {O E : Type 0} (h : target.Ghosts O) (k : target.Ghosts E) → Difference → (old new : O) (before after : E) → Type 0
PrintsDifference h k difference old new before after = IfPrinted h k old new before after (λ out printed err told. (printed ≡ out ++ difference_line difference) × (told ≡ err))
