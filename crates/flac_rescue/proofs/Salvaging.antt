-- The samples of frames that are kept, and of what is missing between them.
use Rattle.std.proofs.Common.{◌≡◌, ◌⊎◌, inl, inr, ◌∙◌, ℕ, zero, suc, ℤ, ◌+◌, ◌-◌, ◌<◌, ◌≤◌, ◌^◌, Bool, true, false, cond, nat_eq, List, [], ◌∷◌, Option, Some, None, length, drop, map, min, get_or, refl, sym, ap, subst, arith}
use Rattle.std.specs.List.{AllZip}
use Rattle.flac_info.specs.Info.{Info}
use Rattle.flac_header.specs.declared.subset.Profile.TheVariants.{Lax}
use Rattle.flac_frame.specs.Frame.{Frame, first_sample}
use Rattle.flac_salvage.specs.Chain.{IsPart, Rise, end_of}
use Rattle.flac_salvage.specs.Found.{Spot, Found}
use Rattle.flac_salvage.specs.Kept.{FoundUpTo, FoundIn, AreFound, kept_of}
use Rattle.flac_salvage.specs.Standing.{Stands}
use Rattle.flac_salvage.specs.declared.find.WholeFrame.{WholeFrame}
use Rattle.flac_rescue.specs.Channels.{extended}
use Rattle.flac_rescue.specs.Gaps.{last_of, limit_of}
use Rattle.flac_rescue.specs.Salvaged.{IsKept, AreSalvaged, and_missing, salvaged, with_missing}
use Rattle.flac_rescue.specs.Survey.{IsSurvey}
use Rattle.flac_rescue.specs.declared.missing.Gap.{Gap}
use Rattle.flac_rescue.specs.declared.survey.Survey.{Survey}
use Rattle.flac_rescue.proofs.Lists.{item_at, drop_past, rise_at, zero_frame}

-- ---- the frames that are kept

module _ (i : Info) (bytes : List ℕ) where
  one_kept : (s : Spot) → Stands Lax i bytes s.at s.frame s.len → IsKept i bytes (kept_of i.greatest_block s) s.frame
  one_kept s there = record { stands = there; first = refl; size = refl }

  all_kept : (from : ℕ) (spots : List Spot) → Found Lax i bytes from spots → AllZip (IsKept i bytes) (map (kept_of i.greatest_block) spots) (map (λ (s : Spot). s.frame) spots)
  all_kept from [] found = tt
  all_kept from (s ∷ more) found = (one_kept s found.0.stands, all_kept (s.at + s.len) more found.1)

  some_kept : (end from : ℕ) (spots : List Spot) → FoundUpTo Lax i bytes end from spots → AllZip (IsKept i bytes) (map (kept_of i.greatest_block) spots) (map (λ (s : Spot). s.frame) spots)
  some_kept end from [] found = tt
  some_kept end from (s ∷ more) found = (one_kept s found.0.stands, some_kept end (s.at + s.len) more found.1)

  in_kept : (from : ℕ) (cut : Option ℕ) (spots : List Spot) → FoundIn Lax i bytes from cut spots → AllZip (IsKept i bytes) (map (kept_of i.greatest_block) spots) (map (λ (s : Spot). s.frame) spots)
  in_kept from None spots found = all_kept from spots found
  in_kept from (Some end) spots found = some_kept end from spots found

  part_kept : (some all : List WholeFrame) (frames : List Frame) → IsPart some all → AllZip (IsKept i bytes) all frames → (fs : List Frame) × AllZip (IsKept i bytes) some fs
  part_kept [] all frames p held = ([], tt)
  part_kept (f ∷ some) [] frames p held = absurd p
  part_kept (f ∷ some) (g ∷ all) [] p held = absurd held
  part_kept (f ∷ some) (g ∷ all) (x ∷ frames) (inl (e, p)) held =
      let r = part_kept some all frames p held.1 in
      (x ∷ r.0, (subst (λ (w : WholeFrame). IsKept i bytes w x) (sym e) held.0, r.1))
  part_kept (f ∷ some) (g ∷ all) (x ∷ frames) (inr p) held = part_kept (f ∷ some) all frames p held.1

  -- at a place, and from there on
  kept_at : (n : ℕ) (kept : List WholeFrame) (frames : List Frame) → n < length kept → AllZip (IsKept i bytes) kept frames
      → (f : Frame) × (drop n frames ≡ f ∷ drop (suc n) frames) × IsKept i bytes (get_or kept n zero_frame) f
  kept_at n [] frames lt held = absurd (omega (arith, lt))
  kept_at n (w ∷ kept) [] lt held = absurd held
  kept_at zero (w ∷ kept) (f ∷ frames) lt held = (f, refl, held.0)
  kept_at (suc n) (w ∷ kept) (f ∷ frames) lt held = kept_at n kept frames (omega (arith, lt)) held.1

  kept_past : (n : ℕ) (kept : List WholeFrame) (frames : List Frame) → length kept ≤ n → AllZip (IsKept i bytes) kept frames → drop n frames ≡ []
  kept_past zero [] [] le held = refl
  kept_past (suc n) [] [] le held = refl
  kept_past n [] (f ∷ frames) le held = absurd held
  kept_past n (w ∷ kept) [] le held = absurd held
  kept_past zero (w ∷ kept) (f ∷ frames) le held = absurd (omega (arith, le))
  kept_past (suc n) (w ∷ kept) (f ∷ frames) le held = kept_past n kept frames (omega (arith, le)) held.1

  -- ---- their samples

  module _ (silence : Bool) (total : ℕ) (start : List (List ℤ)) (kept : List WholeFrame) where
    -- So far: what the frames from the n-th on make of these channels, that go on at the sample `from`, is what all make.
    abbrev pub SalvagedTo : (n from : ℕ) (now : List (List ℤ)) → Type 0
    SalvagedTo n from now = (frames : List Frame) → AllZip (IsKept i bytes) kept frames
        → salvaged silence i.greatest_block total from now (drop n frames) ≡ salvaged silence i.greatest_block total 0 start frames

    -- one more frame
    pub salvage_more : (n from next : ℕ) (now filled new : List (List ℤ)) → n < length kept → SalvagedTo n from now
        → filled ≡ with_missing silence ((get_or kept n zero_frame).first - from) now
        → ((f : Frame) (m : ℕ) → Stands Lax i bytes (get_or kept n zero_frame).at f m → new ≡ extended filled f.channels)
        → next ≡ (get_or kept n zero_frame).first + (get_or kept n zero_frame).size → SalvagedTo (n + 1) next new
    unfolding salvaged
    salvage_more n from next now filled new lt so_far fill add end = λ frames held.
        let w = get_or kept n zero_frame in
        let here = kept_at n kept frames lt held in
        let f = here.0 in
        let e : n + 1 ≡ suc n = omega arith in
        let block = i.greatest_block in
        let to : next ≡ first_sample block f + f.size = end ∙ ap (λ k. k + w.size) here.2.first ∙ ap (λ k. first_sample block f + k) here.2.size in
        let full : new ≡ extended (with_missing silence (first_sample block f - from) now) f.channels =
        add f w.bytes here.2.stands ∙ ap (λ l. extended l f.channels) (fill ∙ ap (λ k. with_missing silence (k - from) now) here.2.first) in
        ap (λ k. salvaged silence block total next new (drop k frames)) e
        ∙ ap (λ k. salvaged silence block total k new (drop (suc n) frames)) to
        ∙ ap (λ l. salvaged silence block total (first_sample block f + f.size) l (drop (suc n) frames)) full
        ∙ ap (λ l. salvaged silence block total from now l) (sym here.1) ∙ so_far frames held

    -- after the last
    pub salvage_ends : (n from count : ℕ) (now new : List (List ℤ)) → length kept ≤ n → SalvagedTo n from now
        → count ≡ last_of total from - from → new ≡ with_missing silence count now
        → (frames : List Frame) → AllZip (IsKept i bytes) kept frames → new ≡ salvaged silence i.greatest_block total 0 start frames
    unfolding salvaged
    salvage_ends n from count now new past so_far rest fill frames held =
        fill ∙ ap (λ k. with_missing silence k now) rest
        ∙ ap (λ l. salvaged silence i.greatest_block total from now l) (sym (kept_past n kept frames past held)) ∙ so_far frames held

-- the frames of a survey
pub survey_kept : (bytes : List ℕ) (s : Survey) → IsSurvey bytes s → (frames : List Frame) × AllZip (IsKept s.info bytes) s.kept.items frames
survey_kept bytes s is =
    let found = is.frames.found in
    let spots = found.spots in
    let frames : List Frame = map (λ (p : Spot). p.frame) spots in
    let all : AllZip (IsKept s.info bytes) s.found.frames.items frames =
    subst (λ (l : List WholeFrame). AllZip (IsKept s.info bytes) l frames) found.kept (in_kept s.info bytes s.front s.found.cut spots found.found) in
    part_kept s.info bytes s.kept.items s.found.frames.items frames is.frames.best.part all

-- ---- how many are missing

abbrev pub no_gap : Gap
no_gap = record { start = 0; end = 0; first = 0; next = 0 }

pub missing_more : (n sum next whole : ℕ) (gaps : List Gap) → n < length gaps → and_missing sum (drop n gaps) ≡ whole
    → next ≡ min (sum + ((get_or gaps n no_gap).next - (get_or gaps n no_gap).first)) (2 ^ 64 - 1) → and_missing next (drop (n + 1) gaps) ≡ whole
unfolding and_missing
missing_more n sum next whole gaps lt so_far is =
    ap (λ k. and_missing k (drop (n + 1) gaps)) is ∙ ap (λ (l : List Gap). and_missing sum l) (sym (item_at gaps n no_gap lt)) ∙ so_far

pub missing_end : (n sum whole : ℕ) (gaps : List Gap) → length gaps ≤ n → and_missing sum (drop n gaps) ≡ whole → sum ≡ whole
unfolding and_missing
missing_end n sum whole gaps past so_far = ap (λ (l : List Gap). and_missing sum l) (sym (drop_past gaps n past)) ∙ so_far

-- ---- the end of a frame

limit_fits : (none : Bool) (total : ℕ) → total < 2 ^ 64 → cond none (2 ^ 64 - 1) total < 2 ^ 64
limit_fits true total small = omega arith
limit_fits false total small = small

pub end_fits : (total from n : ℕ) (kept : List WholeFrame) → total < 2 ^ 64 → n < length kept → Rise (limit_of total) from (drop n kept) → end_of (get_or kept n zero_frame) < 2 ^ 64
end_fits total from n kept small lt rise =
    let end = (rise_at (limit_of total) from n kept lt rise).1.0 in
    let most = limit_fits (nat_eq total 0) total small in
    omega (arith, end, most)
