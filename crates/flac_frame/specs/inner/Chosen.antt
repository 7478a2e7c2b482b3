-- For proofs of the search: choices for channels, each by itself.
use Rattle.std.specs.Prelude.{ℕ, ℤ, List}
use Rattle.flac_subframe.specs.declared.search.wide_choice.WideChoice.{WideChoice}
use Rattle.flac_frame.specs.inner.Encoding.{AreFormsByPlane, AreLeast}
use Rattle.flac_frame.specs.Chosen.{forms_by_plane, AreMadeByPlane}
use Rattle.flac_frame.specs.PlaneLists.{Lists}

-- the choices are the shortest subframes of channels, each by itself
pub record AreChosen (most : ℕ) (lists : Lists) (depth size : ℕ) (choices : List WideChoice) (block : List (List ℤ)) : Type 0 where
  pub made : AreMadeByPlane lists choices block
  pub are : AreFormsByPlane most lists depth size (forms_by_plane lists choices block) block
  pub least : AreLeast most lists depth (forms_by_plane lists choices block) block
