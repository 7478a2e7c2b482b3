-- More predictors make no shortest frame longer.
use Rattle.std.proofs.Common.{◌≡◌, inl, inr, sym, subst, ℕ, suc, ℤ, List, [], ◌∷◌, ◌++◌}
use Rattle.flac_subframe.specs.declared.format.linear.LinearPredictor.{LinearPredictor}
use Rattle.flac_subframe.specs.format.Bodies.{Chooses, Among, Body, constant, verbatim, predicted, StandsFor}
use Rattle.flac_subframe.specs.format.Chosen.{fixed_below, offered}
use Rattle.flac_subframe.specs.format.Family.{Stands}
use Rattle.flac_subframe.specs.format.Subframe.{Form}
use Rattle.flac_frame.specs.Audio.{Sound}
use Rattle.flac_frame.specs.Encoding.{partition_limit, EachStandsByPlane, IsOfPlanes}
use Rattle.flac_frame.specs.PlaneLists.{Lists, later, lists_kept, plane_of}
use Rattle.flac_frame.specs.Spelling.{FrameForm}
use Rattle.flac_frame.specs.Stereo.{kept_as}
use Rattle.flac_predict.specs.Found.{IsPrefixOf, MoreShorten}

among_first : (p : Chooses) (xs ys : List Chooses) → Among p xs → Among p (xs ++ ys)
among_first p [] ys h = absurd h
among_first p (x ∷ xs) ys (inl e) = inl e
among_first p (x ∷ xs) ys (inr h) = inr (among_first p xs ys h)

among_either : (p : Chooses) (before xs ys zs : List Chooses) → zs ≡ xs ++ ys → Among p (before ++ xs) → Among p (before ++ zs)
among_either p [] xs ys zs e h = subst (Among p) (sym e) (among_first p xs ys h)
among_either p (x ∷ before) xs ys zs e (inl same) = inl same
among_either p (x ∷ before) xs ys zs e (inr h) = inr (among_either p before xs ys zs e h)

module _ (front ps : List LinearPredictor) (begins : IsPrefixOf front ps) (most : ℕ) where
  for_more : (b : Body) (t : List ℤ) → StandsFor most (offered front) b t → StandsFor most (offered ps) b t
  for_more (constant v) t h = h
  for_more (verbatim vs) t h = h
  for_more (predicted p ws f rs) t h = (among_either p (fixed_below 5) _ begins.0 _ begins.1 h.0, h.1)

  pub stands_more : (f : Form) (s : List ℤ) → Stands most (offered front) f s → Stands most (offered ps) f s
  stands_more f s h = let b = h.body in record { wasted = h.wasted; body = (b.0, b.1, b.2, b.3, for_more b.0 b.1 b.4) }

each_more : (front lists : Lists) (most : ℕ) (fs : List Form) (ss : List (List ℤ)) → ((plane : ℕ) → IsPrefixOf (front plane) (lists plane)) → EachStandsByPlane most front fs ss → EachStandsByPlane most lists fs ss
each_more front lists most [] [] begins h = h
each_more front lists most [] (s ∷ ss) begins h = absurd h
each_more front lists most (f ∷ fs) [] begins h = absurd h
each_more front lists most (f ∷ fs) (s ∷ ss) begins h = (stands_more (front 0) (lists 0) (begins 0) most f s h.0, each_more (later front) (later lists) most fs ss (λ plane. begins (suc plane)) h.1)

pub family_with_more : (front lists : Lists) (sound : Sound) (size number : ℕ) (block : List (List ℤ)) (f : FrameForm) → ((plane : ℕ) → IsPrefixOf (front plane) (lists plane)) → IsOfPlanes front sound size number block f
    → IsOfPlanes lists sound size number block f
family_with_more front lists sound size number block f begins h =
    let code = f.header.channel_code in
    record {
      encoding = h.encoding;
      stand = each_more (lists_kept code front) (lists_kept code lists) (partition_limit sound) f.subframes (kept_as code block) (λ channel. begins (plane_of code channel)) h.stand;
    }

pub more_shorten : MoreShorten
more_shorten front lists sound size number block f g begins few more = more.least.least f (family_with_more front lists sound size number block f begins few.least.member)
