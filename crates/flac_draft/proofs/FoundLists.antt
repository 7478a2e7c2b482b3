-- What a search found for each block, as the lists of a plan.
use Rattle.std.proofs.Common.{◌≡◌, ℕ, zero, suc, ◌+◌, ◌/◌, ◌<◌, ℤ, Bool, true, false, cond, nat_eq, nat_lt, Option, Some, None, List, [], ◌∷◌, ◌++◌, length, map, get_or, All, refl, sym, ap, subst, ◌∙◌, arith}
use Rattle.std.proofs.lemmas.List.{append-nil, length-map, map-append}
use Rattle.std.proofs.lemmas.List.Elements.{All-from_get_or}
use Rattle.flac_bits.specs.Items.{Stream}
use Rattle.flac_bits.specs.declared.why.Why.TheVariants.{Truncated}
use Rattle.flac_subframe.specs.format.Handed.{predictor_of}
use Rattle.flac_subframe.specs.declared.format.linear.LinearPredictor.{LinearPredictor}
use Rattle.flac_frame.specs.Audio.{Sound}
use Rattle.flac_frame.specs.Encoding.{EachStandsByPlane, IsOfPlanes, IsLeastByPlane, partition_limit}
use Rattle.flac_frame.specs.Frame.{Frame}
use Rattle.flac_frame.specs.PlaneLists.{Lists, plane_of, same_list, later, lists_kept}
use Rattle.flac_frame.specs.Spelling.{FrameForm}
use Rattle.flac_frame.specs.Stereo.{kept_as}
use Rattle.flac_native.specs.Decoding.{beginning}
use Rattle.flac_native.specs.Given.{Cut, with_predictors, with_found, tried, frame_of, given}
use Rattle.flac_native.specs.Seeking.{point_at, points_from, points_of, table_of}
use Rattle.flac_native.specs.Stream.{grammar, opening}
use Rattle.flac_native.specs.Writing.{SpellsLeastByPlane, AreLeastFrames, stream_spelling}
use Rattle.flac_predict.specs.Found.{IsPrefixOf, AllBegin, IsFoundAfter}
use Rattle.flac_predict.specs.declared.search.Search.{Search}
use Rattle.flac_encoder.specs.Pushing.{SpellsLeastFound}
use Rattle.flac_draft.specs.Draft.{AreLeastFound, FoundAreEncoded}

-- ---- lists that agree on the planes of a frame

stand_alike : (most : ℕ) (lists others : Lists) (fs : List _) (ss : List (List ℤ)) → ((c : ℕ) → c < length fs → lists c ≡ others c) → EachStandsByPlane most lists fs ss → EachStandsByPlane most others fs ss
stand_alike most lists others [] [] same e = e
stand_alike most lists others [] (s ∷ ss) same e = e
stand_alike most lists others (f ∷ fs) [] same e = e
stand_alike most lists others (f ∷ fs) (s ∷ ss) same e =
    let rest = stand_alike most (later lists) (later others) fs ss (λ c lt. same (suc c) (omega (arith, lt))) e.1 in
    (rw (sym (same 0 (omega arith))) e.0, rest)

plane_small : (code channel m : ℕ) → channel < m → plane_of code channel < 4 + m
plane_small code channel m lt = first (nat_lt code 8)
  where
    two : (b : Bool) (x y : ℕ) → x < 4 → y < 4 → cond b x y < 4 + m
    two true x y hx hy = omega (arith, hx)
    two false x y hx hy = omega (arith, hy)

    third : (b : Bool) → cond b (cond (nat_eq channel 0) 2 1) (cond (nat_eq channel 0) 3 2) < 4 + m
    third true = two (nat_eq channel 0) 2 1 (omega arith) (omega arith)
    third false = two (nat_eq channel 0) 3 2 (omega arith) (omega arith)

    second : (b : Bool) → cond b (cond (nat_eq channel 0) 0 2) (cond (nat_eq code 9) (cond (nat_eq channel 0) 2 1) (cond (nat_eq channel 0) 3 2)) < 4 + m
    second true = two (nat_eq channel 0) 0 2 (omega arith) (omega arith)
    second false = third (nat_eq code 9)

    first : (b : Bool) → cond b channel (cond (nat_eq code 8) (cond (nat_eq channel 0) 0 2) (cond (nat_eq code 9) (cond (nat_eq channel 0) 2 1) (cond (nat_eq channel 0) 3 2))) < 4 + m
    first true = omega (arith, lt)
    first false = second (nat_eq code 8)

module _ (a : Sound) (size number : ℕ) (block : List (List ℤ)) (m : ℕ) (many : length block ≡ m) where
  planes_alike : (lists others : Lists) (f : FrameForm) → ((plane : ℕ) → plane < 4 + m → lists plane ≡ others plane) → IsOfPlanes lists a size number block f → IsOfPlanes others a size number block f
  planes_alike lists others f same o = record {
    encoding = o.encoding;
    stand = stand_alike (partition_limit a) (lists_kept f.header.channel_code lists) (lists_kept f.header.channel_code others) f.subframes (kept_as f.header.channel_code block)
        (λ c lt. same (plane_of f.header.channel_code c) (plane_small f.header.channel_code c m (omega (arith, lt, o.encoding.many, many)))) o.stand;
  }

  least_by_lists : (lists others : Lists) (f : FrameForm) → ((plane : ℕ) → plane < 4 + m → lists plane ≡ others plane) → IsLeastByPlane lists a size number block f → IsLeastByPlane others a size number block f
  least_by_lists lists others f same l =
      let back : (plane : ℕ) → plane < 4 + m → others plane ≡ lists plane = λ plane lt. sym (same plane lt) in
      record {
        least = record {
          member = planes_alike lists others f same l.least.member;
          least = λ g o. l.least.least g (planes_alike others lists g back o);
        };
        fewest = λ g o. l.fewest g (planes_alike others lists g back o);
        first = λ g o lt. l.first g (planes_alike others lists g back o) lt;
      }

-- ---- the first lists

abbrev first_lists : ℕ → Lists → List (List LinearPredictor)
first_lists zero lists = []
first_lists (suc n) lists = lists 0 ∷ first_lists n (later lists)

first_at : (n : ℕ) (lists : Lists) (plane : ℕ) (other : List LinearPredictor) → plane < n → get_or (first_lists n lists) plane other ≡ lists plane
first_at zero lists plane other lt = absurd (omega (arith, lt))
first_at (suc n) lists zero other lt = refl
first_at (suc n) lists (suc plane) other lt = first_at n (later lists) plane other (omega (arith, lt))

first_long : (n : ℕ) (lists : Lists) → length (first_lists n lists) ≡ n
first_long zero lists = refl
first_long (suc n) lists = omega (arith, first_long n (later lists))

first_begin : (ps : List LinearPredictor) (n : ℕ) (lists : Lists) → ((plane : ℕ) → IsPrefixOf ps (lists plane)) → All (IsPrefixOf ps) (first_lists n lists)
first_begin ps n lists begins =
    All-from_get_or (IsPrefixOf ps) (first_lists n lists) [] (λ c lt. subst (IsPrefixOf ps) (sym (first_at n lists c [] (omega (arith, lt, first_long n lists)))) (begins c))

-- ---- those of each frame

record Collected (k n : ℕ) (P : ℕ → Lists → Type 0) : Type 0 where
  found : List (List (List LinearPredictor))
  many : length found ≡ n
  each : (i : ℕ) → i < n → (lists : Lists) × P i lists × (get_or found i [] ≡ first_lists k lists)

collect_more : (k n : ℕ) (P : ℕ → Lists → Type 0) (one : (lists : Lists) × P 0 lists) → Collected k n (λ i lists. P (suc i) lists) → Collected k (suc n) P
collect_more k n P one rest = record {
  found = first_lists k one.0 ∷ rest.found;
  many = omega (arith, rest.many);
  each = go;
}
  where
    go : (i : ℕ) → i < suc n → (lists : Lists) × P i lists × (get_or (first_lists k one.0 ∷ rest.found) i [] ≡ first_lists k lists)
    go zero lt = (one.0, one.1, refl)
    go (suc i) lt = rest.each i (omega (arith, lt))

collect : (k n : ℕ) (P : ℕ → Lists → Type 0) → ((i : ℕ) → i < n → (lists : Lists) × P i lists) → Collected k n P
collect k zero P h = record { found = []; many = refl; each = λ i lt. absurd (omega (arith, lt)) }
collect k (suc n) P h = collect_more k n P (h 0 (omega arith)) (collect k n (λ i lists. P (suc i) lists) (λ i lt. h (suc i) (omega (arith, lt))))

found_begins : (ps list : List LinearPredictor) → IsFoundAfter ps list → IsPrefixOf ps list
found_begins ps list (copy, same, (more, is, within)) = (map predictor_of more, ap (map predictor_of) is ∙ map-append predictor_of copy more ∙ ap (λ l. l ++ map predictor_of more) same)

lists_in : (sought : Option Search) (ps : List LinearPredictor) (a : Sound) (f : Frame) (text : List Bool) → SpellsLeastFound sought ps a f text → (lists : Lists) × ((plane : ℕ) → IsPrefixOf ps (lists plane)) × SpellsLeastByPlane lists a f text
lists_in None ps a f text h = (same_list ps, λ plane. ([], sym (append-nil (map predictor_of ps))), h)
lists_in (Some search) ps a f text h = (h.0, λ plane. found_begins ps (h.0 plane) (h.1 plane), h.2)

points_found : (p : Cut) (found : List (List (List LinearPredictor))) (number offset : ℕ) (ts : List (List Bool)) → points_from (with_found p found) number offset ts ≡ points_from p number offset ts
points_found p found number offset [] = refl
points_found p found number offset (t ∷ ts) = ap (λ l. point_at p number offset ++ l) (points_found p found (number + 1) (offset + length t / 8) ts)

-- lists for the planes of these frames, by which each is a shortest one
pub record FoundFor (p : Cut) (a : Sound) (frames : List (List Bool)) : Type 0 where
  pub found : List (List (List LinearPredictor))
  pub begin : AllBegin p.predictors found
  pub least : AreLeastFrames (with_found p found) a frames

pub found_for : (sought : Option Search) (p : Cut) (ps : List LinearPredictor) (a : Sound) (frames : List (List Bool)) → AreLeastFound sought ps p.block_size a frames → FoundFor (with_predictors p ps) a frames
found_for sought p ps a frames are_least =
    let q = with_predictors p ps in
    let b = q.block_size in
    let m = length a.channels in
    let k = 4 + m in
    let all = collect k (length frames) (λ i lists. ((plane : ℕ) → IsPrefixOf ps (lists plane)) × SpellsLeastByPlane lists a (frame_of b a i) (get_or frames i [])) (λ i lt. let x = lists_in sought ps a (frame_of b a i) (get_or frames i []) (are_least i lt) in (x.0, (x.1, x.2))) in
    let r = with_found q all.found in
    record {
      found = all.found;
      begin = All-from_get_or (All (IsPrefixOf ps)) all.found []
          (λ i lt. let x = all.each i (omega (arith, lt, all.many)) in subst (All (IsPrefixOf ps)) (sym x.2) (first_begin ps k x.0 x.1.0));
      least = λ i lt.
          let x = all.each i lt in
          let s = x.1.1 in
          let f = frame_of b a i in
          record {
            form = s.form;
            least = least_by_lists a f.size f.number f.channels m (length-map a.channels _) x.0 (tried r i) s.form (λ plane h. sym (ap (λ l. get_or l plane ps) x.2 ∙ first_at k x.0 plane ps h)) s.least;
            spelling = s.spelling;
          };
    }

-- ---- the whole

pub found_are_encoded : FoundAreEncoded
found_are_encoded sought p ps list a before after e =
    let q = with_predictors p ps in
    let all = found_for sought p ps a e.frames e.are_least in
    let same : points_of q e.frames ≡ points_of (with_found q all.found) e.frames = sym (points_found q all.found 0 0 e.frames) in (
      all.found,
      all.begin,
      record {
        least = e.least;
        greatest = e.greatest;
        frames = e.frames;
        are = record { many = e.are.many; each = e.are.each };
        are_least = all.least;
        sizes = e.sizes;
        written = e.written ∙ ap (λ x. before ++ stream_spelling q (list ++ table_of x) a e.least e.greatest e.frames) same;
        stream = subst (λ x. Stream grammar (opening q.profile) (beginning Truncated) (given q (list ++ table_of x) a e.least e.greatest) (stream_spelling q (list ++ table_of x) a e.least e.greatest e.frames)) same e.stream;
      },
    )
