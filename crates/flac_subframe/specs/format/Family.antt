-- The forms of a subframe that encode some samples, and the form that a choice names.
use Rattle.std.specs.Prelude.{ℕ, ℤ, ◌≡◌, List, map}
use Rattle.flac_subframe.specs.format.Bodies.{Chooses, Body, content_of, StandsFor}
use Rattle.flac_subframe.specs.declared.format.content.SubframeForm.{SubframeForm}
use Rattle.flac_subframe.specs.declared.format.linear.LinearPredictor.{LinearPredictor}
use Rattle.flac_subframe.specs.format.Chosen.{body_as, HasPredictor, offered}
use Rattle.flac_subframe.specs.format.Cost.{codings_of}
use Rattle.flac_subframe.specs.format.Subframe.{Form}
use Rattle.flac_subframe.specs.format.Wasted.{IsWasted, times_power, shortened}

-- A form encodes samples: its wasted bits are the most that all samples have, and its content is a body that encodes
-- the samples without them, with a partition order of at most `most` and one of the predictors if it has one.
pub record Stands (most : ℕ) (predictors : List Chooses) (f : Form) (s : List ℤ) : Type 0 where
  pub wasted : IsWasted f.wasted s
  pub body : (b : Body) × (t : List ℤ) × (f.content ≡ content_of b) × (s ≡ map (times_power f.wasted) t) × StandsFor most predictors b t

-- the form that was chosen, with the bytes of the codings of its residual; a linear predictor is from the list
abbrev pub form_as : List LinearPredictor → SubframeForm → List ℕ → List ℤ → Form
form_as ps c bytes s = record { wasted = c.wasted; content = content_of (body_as ps c.content (codings_of c.residual bytes) (shortened c.wasted s)) }

-- it was chosen for these samples, with a partition order of at most `most`, and a fixed predictor or a linear one of
-- the list if it has one
pub record IsMadeAs (most : ℕ) (ps : List LinearPredictor) (c : SubframeForm) (bytes : List ℕ) (s : List ℤ) : Type 0 where
  pub wasted : IsWasted c.wasted s
  pub times : s ≡ map (times_power c.wasted) (shortened c.wasted s)
  pub within : HasPredictor ps c.content
  pub stands : StandsFor most (offered ps) (body_as ps c.content (codings_of c.residual bytes) (shortened c.wasted s)) (shortened c.wasted s)
