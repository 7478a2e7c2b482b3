-- Files that a report does not have as good.
use Rattle.std.proofs.Common.{◌≡◌, ◌∷◌, ℕ, Bool, true, false, List, [], cond, refl, ap, ◌∙◌, sym}
use Rattle.flac_shelf.specs.Listed.{Listed}
use Rattle.flac_shelf.specs.Past.{Report, has_good, without_good}

left_out : (b : Bool) (report : Report) (at : Listed) (more : List Listed) → has_good report at ≡ b → b ≡ true → without_good report (at ∷ more) ≡ without_good report more
left_out true report at more is holds = ap (λ b. cond b (without_good report more) (at ∷ without_good report more)) is
left_out false report at more is holds = absurd cc

kept_one : (b : Bool) (report : Report) (at : Listed) (more : List Listed) → has_good report at ≡ b → b ≡ false → without_good report (at ∷ more) ≡ at ∷ without_good report more
kept_one false report at more is fails = ap (λ b. cond b (without_good report more) (at ∷ without_good report more)) is
kept_one true report at more is fails = absurd cc

-- after a file that is left out
pub passes : (report : Report) (there good : Bool) (at : Listed) (files more : List Listed) → there ≡ true → good ≡ true → good ≡ has_good report at → files ≡ cond there (at ∷ more) [] → without_good report files ≡ without_good report more
passes report true good at files more some holds is all = ap (without_good report) all ∙ left_out good report at more (sym is) holds
passes report false good at files more some holds is all = absurd cc

-- at a file that is not
pub stops : (report : Report) (there good : Bool) (at : Listed) (files more : List Listed) → there ≡ true → good ≡ false → good ≡ has_good report at → files ≡ cond there (at ∷ more) [] → without_good report files ≡ at ∷ without_good report more
stops report true good at files more some fails is all = ap (without_good report) all ∙ kept_one good report at more (sym is) fails
stops report false good at files more some fails is all = absurd cc

-- no file comes after the last
pub none_left : (report : Report) (more : List Listed) → more ≡ [] → without_good report more ≡ []
none_left report more none = ap (without_good report) none

-- at the end
pub ends : (report : Report) (there : Bool) (at : Listed) (files more : List Listed) → there ≡ false → files ≡ cond there (at ∷ more) [] → without_good report files ≡ []
ends report false at files more none all = ap (without_good report) all
ends report true at files more none all = absurd cc
