-- Frames that are passed one after another, and the stream that they are in.
use Rattle.std.proofs.Common.{◌≡◌, ◌⊎◌, inl, inr, ℕ, zero, suc, ◌+◌, ◌<◌, ◌≤◌, Bool, List, [], ◌∷◌, ◌++◌, length, take, drop, map, Result, Ok, Err, refl, sym, ap, subst, ◌∙◌, append_assoc, append-nil, add-one, arith}
use Rattle.std.proofs.lemmas.List.{take-append-drop, length-drop, map-append}
use Rattle.flac_bits.specs.Bits.{bits_of}
use Rattle.flac_bits.specs.Items.{Joined}
use Rattle.flac_bits.specs.declared.why.Why.{Why}
use Rattle.flac_bits.specs.declared.why.Why.TheVariants.{Truncated, Memory}
use Rattle.flac_bits.proofs.Holding.{length-bits_of, bits_of-append}
use Rattle.flac_header.specs.declared.subset.Profile.{Profile}
use Rattle.flac_frame.specs.Frame.{Frame}
use Rattle.flac_native.specs.Decoding.{beginning}
use Rattle.flac_native.specs.Stream.{Piece, framed, grammar, opening}
use Rattle.flac_c.specs.Cursors.{OfFrame, passed, StandsIn}
use Rattle.flac_c.specs.Passing.{PassesFrame, PassesFrames, Passes, OfFrames, GoesFurther}
use Rattle.flac_c.specs.inner.Passing.{Passing}
use Rattle.flac_c.specs.declared.cursor.FlacProvedCursor.{FlacProvedCursor}
use Rattle.flac_c.proofs.InStreams.{one_place, NextIn, next_in}

-- ---- one frame more

frames_more : (profile : Profile) (bytes : List ℕ) (sample n : ℕ) (old mid new : FlacProvedCursor) → PassesFrames profile bytes sample n old mid → PassesFrame profile bytes mid new → new.sample ≤ sample → PassesFrames profile bytes sample (suc n) old new
frames_more profile bytes sample zero old mid new is h le = (new, subst (λ (c : FlacProvedCursor). PassesFrame profile bytes c new) is h, le, refl)
frames_more profile bytes sample (suc n) old mid new (next, first, below, others) h le = (next, first, below, frames_more profile bytes sample n next mid new others h le)

drop_next : (n : ℕ) (fs : List Frame) (f : Frame) (rest : List Frame) → drop n fs ≡ f ∷ rest → (take (suc n) fs ≡ take n fs ++ f ∷ []) × (drop (suc n) fs ≡ rest)
drop_next zero [] f rest e = absurd cc
drop_next zero (g ∷ gs) f rest e = let same : g ≡ f = cc in (ap (λ (h : Frame). h ∷ []) same, cc)
drop_next (suc n) [] f rest e = absurd cc
drop_next (suc n) (g ∷ gs) f rest e = let r = drop_next n gs f rest e in (ap (λ (l : List Frame). g ∷ l) r.0, r.1)

-- ---- the end of a stream

ended_there : (profile : Profile) (bytes : List ℕ) (c : FlacProvedCursor) (front : List Piece) → StandsIn profile bytes c front [] → c.offset ≡ length bytes
ended_there profile bytes c front h =
    let o : ℕ = c.offset in
    let j : Joined grammar (opening profile) (beginning Truncated) front (bits_of bytes) = subst (λ (l : List Piece). Joined grammar (opening profile) (beginning Truncated) l (bits_of bytes)) (append-nil front) h.stream.spelled in
    let all : bits_of bytes ++ [] ≡ bits_of (take o bytes) ++ bits_of (drop o bytes) = append-nil (bits_of bytes) ∙ ap (λ (l : List ℕ). bits_of l) (sym (take-append-drop o bytes)) ∙ bits_of-append (take o bytes) (drop o bytes) in
    let nothing : [] ≡ bits_of (drop o bytes) = one_place (opening profile) (beginning Truncated) front (bits_of bytes) [] (bits_of (take o bytes)) (bits_of (drop o bytes)) all j h.spelled in
    let none : 0 ≡ length (bits_of (drop o bytes)) = ap (λ (l : List Bool). length l) nothing in
    let before : o ≤ length bytes = h.before in
    omega (arith, none, length-bits_of (drop o bytes), length-drop o bytes, before)

-- ---- frames one after another

abbrev pub answered : FlacProvedCursor → Result FlacProvedCursor Why
answered c = Ok c

abbrev pub failed : Why → Result FlacProvedCursor Why
failed why = Err why

pub none_passed : (profile : Profile) (bytes : List ℕ) (sample : ℕ) (c : FlacProvedCursor) → Passing profile bytes sample 0 c c
none_passed profile bytes sample c = record { frames = refl; stands = λ front frames s. subst (λ (l : List Piece). StandsIn profile bytes c l (map framed frames)) (sym (append-nil front)) s }

module _ (profile : Profile) (bytes : List ℕ) (sample n : ℕ) (old mid : FlacProvedCursor) (p : Passing profile bytes sample n old mid) (further : mid.offset ≡ length bytes → ⊥) where
  -- the next frame of a stream
  record Next (front : List Piece) (frames : List Frame) : Type 0 where
    f : Frame
    rest : List Frame
    is : drop n frames ≡ f ∷ rest
    there : NextIn profile bytes mid (front ++ map framed (take n frames)) (map framed rest) f

  next : (front : List Piece) (frames : List Frame) → StandsIn profile bytes old front (map framed frames) → Next front frames
  next front frames s = go (drop n frames) refl
    where
      go : (left : List Frame) → drop n frames ≡ left → Next front frames
      go [] e = absurd (further (ended_there profile bytes mid (front ++ map framed (take n frames)) (subst (λ (l : List Frame). StandsIn profile bytes mid (front ++ map framed (take n frames)) (map framed l)) e (p.stands front frames s))))
      go (f ∷ rest) e =
          let t = subst (λ (l : List Frame). StandsIn profile bytes mid (front ++ map framed (take n frames)) (map framed l)) e (p.stands front frames s) in
          record { f = f; rest = rest; is = e; there = next_in profile bytes mid (front ++ map framed (take n frames)) (map framed rest) f t }

  pub one_passed : (new : FlacProvedCursor) → PassesFrame profile bytes mid new → new.sample ≤ sample → OfFrame profile bytes mid (λ f k. (answered new ≡ failed Memory) ⊎ (answered new ≡ answered (passed mid f (mid.offset + k)))) → Passing profile bytes sample (n + 1) old new
  one_passed new h le only = subst (λ (k : ℕ). Passing profile bytes sample k old new) (sym (add-one n)) more
    where
      stands : OfFrames profile bytes old (λ front frames. StandsIn profile bytes new (front ++ map framed (take (suc n) frames)) (map framed (drop (suc n) frames)))
      stands front frames s =
          let x = next front frames s in
          let y = drop_next n frames x.f x.rest x.is in
          let parts : (front ++ map framed (take n frames)) ++ framed x.f ∷ [] ≡ front ++ map framed (take (suc n) frames) =
          append_assoc front (map framed (take n frames)) (framed x.f ∷ []) ∙ ap (λ (l : List Piece). front ++ l) (sym (map-append framed (take n frames) (x.f ∷ [])) ∙ ap (λ (l : List Frame). map framed l) (sym y.0)) in
          elim (only x.there.rules x.f x.there.n x.there.at) [
            | inl bad ↦ absurd cc
            | inr same ↦
                let new_is : new ≡ passed mid x.f (mid.offset + x.there.n) = cc in
                let after = subst (λ (c : FlacProvedCursor). StandsIn profile bytes c ((front ++ map framed (take n frames)) ++ framed x.f ∷ []) (map framed x.rest)) (sym new_is) x.there.after in
                let moved = subst (λ (l : List Piece). StandsIn profile bytes new l (map framed x.rest)) parts after in
                subst (λ (l : List Frame). StandsIn profile bytes new (front ++ map framed (take (suc n) frames)) (map framed l)) (sym y.1) moved
          ]

      more : Passing profile bytes sample (suc n) old new
      more = record { frames = frames_more profile bytes sample n old mid new p.frames h le; stands = stands }

  pub none_fails : (why : Why) → OfFrame profile bytes mid (λ f k. (failed why ≡ failed Memory) ⊎ (failed why ≡ answered (passed mid f (mid.offset + k)))) → OfFrames profile bytes old (λ front frames. why ≡ Memory)
  none_fails why only front frames s =
      let x = next front frames s in
      elim (only x.there.rules x.f x.there.n x.there.at) [ inl same ↦ (let e : why ≡ Memory = cc in e) | inr bad ↦ absurd cc ]

-- ---- where it stops

pub passes : (profile : Profile) (bytes : List ℕ) (count sample n : ℕ) (old new : FlacProvedCursor) → Passing profile bytes sample n old new → n ≤ count
    → (n ≡ count) ⊎ ((new.offset ≡ length bytes) ⊎ ((next : FlacProvedCursor) × PassesFrame profile bytes new next × (sample < next.sample))) → Passes profile bytes count sample old new
passes profile bytes count sample n old new p few stops = record { n = n; frames = p.frames; few = few; stops = stops }

pub goes_further : (profile : Profile) (bytes : List ℕ) (count sample n : ℕ) (old new : FlacProvedCursor) → Passing profile bytes sample n old new → n ≤ count
    → (n ≡ count) ⊎ ((new.offset ≡ length bytes) ⊎ ((next : FlacProvedCursor) × PassesFrame profile bytes new next × (sample < next.sample))) → GoesFurther profile bytes count sample old new
unfolding passes
goes_further profile bytes count sample n old new p few stops front frames s = (passes profile bytes count sample n old new p few stops, p.stands front frames s)
