-- That parts are inside an input is a proposition.
use Rattle.std.proofs.Common.{ℕ, List, [], ◌∷◌}
use Rattle.std.proofs.Props.{props}
use Rattle.flac_whole_pages.specs.Parts.{AreInside}
use Rattle.flac_whole_pages.specs.declared.part.Part.{Part}

pub inside_prop : (end : ℕ) (parts : List Part) → IsProp (AreInside end parts)
inside_prop end [] = hlevel props
inside_prop end (q ∷ more) = hlevel (props, inside_prop end more)
