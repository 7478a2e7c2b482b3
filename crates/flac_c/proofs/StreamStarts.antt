-- The cursor that is made of a stream stands in it, at its first frame.
use Rattle.std.proofs.Common.{◌≡◌, inl, inr, ℕ, ◌+◌, ◌<◌, Bool, true, false, List, [], ◌∷◌, ◌++◌, length, length-append, take, drop, Option, Some, None, refl, sym, ap, subst, ◌∙◌, append-nil, arith}
use Rattle.std.proofs.lemmas.List.{take-append-drop}
use Rattle.flac_bits.specs.Bits.{bits_of}
use Rattle.flac_bits.specs.State.{Mark, fresh}
use Rattle.flac_bits.specs.Items.{Joined, Stream, state_after}
use Rattle.flac_bits.specs.declared.why.Why.TheVariants.{Truncated, Memory}
use Rattle.flac_bits.proofs.Holding.{bits_of-append}
use Rattle.flac_info.specs.Info.{Info}
use Rattle.flac_header.specs.declared.subset.Profile.{Profile}
use Rattle.flac_native.specs.Decoding.{beginning}
use Rattle.flac_native.specs.Item.{fault_pair}
use Rattle.flac_native.specs.Stream.{Piece, marked, block, framed, Progress, grammar, opening, next, may_end_in}
use Rattle.flac_native.specs.declared.fault.Fault.{Fault}
use Rattle.flac_native.specs.declared.track.Phase.{Phase}
use Rattle.flac_native.specs.declared.track.Phase.TheVariants.{Frames}
use Rattle.flac_native.proofs.Deciding.{one_answer, has_bits}
use Rattle.flac_native.proofs.OneHead.{heads}
use Rattle.flac_native.proofs.Onwards.{frame_there}
use Rattle.flac_c.proofs.Numbered.{memory_or_not, same_why}
use Rattle.flac_c.specs.Cursors.{StandsIn, StartsIn}
use Rattle.flac_c.specs.Heads.{comments_from}
use Rattle.flac_c.specs.Starts.{are_metadata, IsHead, first_frame, StandsFirst, RefusesHead}
use Rattle.flac_c.specs.declared.cursor.FlacProvedCursor.{FlacProvedCursor}

-- ---- the parts before the first frame

pub fewer_metadata : (x : Piece) (xs : List Piece) → are_metadata (x ∷ xs) ≡ true → are_metadata xs ≡ true
fewer_metadata marked xs e = e
fewer_metadata (block last b) xs e = e
fewer_metadata (framed f) xs e = absurd cc

-- items begin with these parts, and the others come after them
record After (p : Progress) (parts items : List Piece) : Type 0 where
  more : List Piece
  are : items ≡ parts ++ more
  mark : Mark
  text : List Bool
  joined : Joined grammar (state_after grammar p parts) mark more text

after : (p : Progress) (m : Mark) (parts items : List Piece) (head rest text : List Bool) → text ≡ head ++ rest → Joined grammar p m parts head → Joined grammar p m items text → After p parts items
after p m [] items head rest text e j k = record { more = items; are = refl; mark = m; text = text; joined = k }
after p m (x ∷ xs) [] head rest text e (front, others, split, spelled, fits, more) k =
    let none : length text ≡ 0 = ap (λ (t : List Bool). length t) k in
    let long : length text ≡ length head + length rest = ap (λ (t : List Bool). length t) e ∙ length-append head rest in
    let part : length head ≡ length front + length others = ap (λ (t : List Bool). length t) split ∙ length-append front others in
    let some : 0 < length front = has_bits p (fresh m) front x spelled in
    absurd (omega (arith, none, long, part, some))
after p m (x ∷ xs) (y ∷ ys) head rest text e j k =
    let h = heads p m y x ys xs text [] head rest (append-nil text ∙ e) k j in
    let r = after (next p y) h.3 xs ys h.2 rest h.1 (sym (append-nil h.1) ∙ h.4) h.6 h.5 in
    record {
      more = r.more;
      are = ap (λ (l : List Piece). y ∷ l) r.are ∙ ap (λ (z : Piece). z ∷ (xs ++ r.more)) h.0;
      mark = r.mark;
      text = r.text;
      joined = subst (λ (z : Piece). Joined grammar (state_after grammar (next p z) xs) r.mark r.more r.text) h.0 r.joined;
    }

module _ (profile : Profile) (bytes : List ℕ) (items : List Piece) (s : Stream grammar (opening profile) (beginning Truncated) items (bits_of bytes)) where
  others : (n : ℕ) (parts : List Piece) → IsHead profile bytes n parts → After (opening profile) parts items
  others n parts head =
      let all : bits_of bytes ≡ bits_of (take n bytes) ++ bits_of (drop n bytes) = ap (λ (l : List ℕ). bits_of l) (sym (take-append-drop n bytes)) ∙ bits_of-append (take n bytes) (drop n bytes) in
      after (opening profile) (beginning Truncated) parts items (bits_of (take n bytes)) (bits_of (drop n bytes)) (bits_of bytes) all head.spelled s.spelled

  pub starts_in : (c : FlacProvedCursor) → StandsFirst profile bytes c → StartsIn profile bytes c items
  starts_in c (parts, n, i, head, told_is, is) =
      let r = others n parts head in
      let stands : StandsIn profile bytes (first_frame i (comments_from None parts) n) parts r.more = record {
        stream = subst (λ (l : List Piece). Stream grammar (opening profile) (beginning Truncated) l (bits_of bytes)) r.are s;
        before = head.within;
        spelled = head.spelled;
        info = i;
        told = told_is;
        same = refl;
      } in
      (parts, r.more, r.are, head.metadata, subst (λ (k : FlacProvedCursor). StandsIn profile bytes k parts r.more) (sym is) stands)

  -- ---- it is not refused

  abbrev nobody : Option Info
  nobody = None

  some_info : (p : Progress) (m : Mark) (more : List Piece) (text : List Bool) → p.stand.phase ≡ Frames → p.stand.info ≡ nobody → Joined grammar p m more text → may_end_in (state_after grammar p more).stand.phase (state_after grammar p more).stand.info ≡ true → ⊥
  some_info p m [] text phase none j e = ends (subst (λ (k : Phase). may_end_in k nobody ≡ true) phase (subst (λ (o : Option Info). may_end_in p.stand.phase o ≡ true) none e))
    where
      ends : false ≡ true → ⊥
      ends h = absurd cc
  some_info p m (x ∷ xs) text phase none (front, rest, split, spelled, fits, others) e = let t = frame_there p.stand (fresh m) front x phase spelled in let same : nobody ≡ Some t.info = sym none ∙ t.told in absurd cc

  no_head : (n : ℕ) (parts : List Piece) → IsHead profile bytes n parts → (state_after grammar (opening profile) parts).stand.info ≡ nobody → ⊥
  no_head n parts head none =
      let r = others n parts head in
      let ends = subst (λ (l : List Piece). may_end_in (state_after grammar (opening profile) l).stand.phase (state_after grammar (opening profile) l).stand.info ≡ true) r.are s.ends in
      some_info (state_after grammar (opening profile) parts) r.mark r.more r.text head.after none r.joined (later parts r.more ends)
    where
      later_from : (p : Progress) (xs ys : List Piece) → may_end_in (state_after grammar p (xs ++ ys)).stand.phase (state_after grammar p (xs ++ ys)).stand.info ≡ true → may_end_in (state_after grammar (state_after grammar p xs) ys).stand.phase (state_after grammar (state_after grammar p xs) ys).stand.info ≡ true
      later_from p [] ys e = e
      later_from p (x ∷ xs) ys e = later_from (next p x) xs ys e

      later : (xs ys : List Piece) → may_end_in (state_after grammar (opening profile) (xs ++ ys)).stand.phase (state_after grammar (opening profile) (xs ++ ys)).stand.info ≡ true
          → may_end_in (state_after grammar (state_after grammar (opening profile) xs) ys).stand.phase (state_after grammar (state_after grammar (opening profile) xs) ys).stand.info ≡ true
      later xs ys e = later_from (opening profile) xs ys e

  -- but out of memory
  pub start_refused : (f : Fault) → RefusesHead profile bytes (Some (fault_pair f)) → f.why ≡ Memory
  start_refused f (at, why, is, h) = elim (memory_or_not why) [
    | inl e ↦ sym (same_why f.at at f.why why is) ∙ e
    | inr other ↦ elim (h other) [
      | inl (parts, r) ↦ absurd ((one_answer (opening profile) (beginning Truncated) (bits_of bytes)).either items parts at why s r)
      | inr (e, place, (parts, n, head, none)) ↦ absurd (no_head n parts head none)
    ]
  ]
