-- Which file the line of a job that failed names.
use Rattle.std.proofs.Common.{◌≡◌, ◌↔◌, ℕ, Bool, true, false, cond, List, ◌++◌, refl}
use Rattle.flac_cli.specs.Named.{Names}
use Rattle.flac_cli.specs.Reports.{fault_line}

-- the path that a test has chosen
pub named : (input output before after : List ℕ) (b : Bool) (P : Type 0) → ((b ≡ true) ↔ P) → (path : List ℕ) → path ≡ cond b output input → (text : List ℕ)
    → after ≡ before ++ fault_line path text → Names P input output text before after
named input output before after true P either path is text line = record { path = path; of_output = λ p. is; of_input = λ none. absurd (none (either.0 refl)); line = line }
named input output before after false P either path is text line = record { path = path; of_output = λ p. let no : false ≡ true = either.1 p in absurd cc; of_input = λ none. is; line = line }
