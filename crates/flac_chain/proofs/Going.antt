-- A chain of which some streams were read.
use Rattle.std.proofs.Common.{◌≡◌, ◌≢◌, ◌+◌, ℕ, ◌∷◌, [], ◌++◌, append_assoc, Bool, true, false, nat_eq, List, length, inl, inr, refl, sym, ap, subst, ◌∙◌, arith}
use Rattle.std.specs.Prelude.{cond}
use Rattle.std.proofs.lemmas.List.{length-append, append-nil}
use Rattle.flac_bits.specs.Handing.{TakesAll}
use Rattle.flac_bits.specs.declared.why.Why.{Why}
use Rattle.flac_bits.specs.declared.why.Why.TheVariants.{BadPage}
use Rattle.flac_header.specs.declared.subset.Profile.{Profile}
use Rattle.flac_native.specs.Decoding.{taken}
use Rattle.flac_native.specs.Item.{Item}
use Rattle.flac_native.specs.Stream.{Piece, marked, block, framed}
use Rattle.flac_native.specs.declared.decoding.Sink as sink
use Rattle.flac_native.specs.declared.fault.Place.{Place}
use Rattle.flac_native.specs.declared.fault.Place.TheVariants as place
use Rattle.flac_ogg.specs.Either.{begins_page}
use Rattle.flac_around.specs.Chains.{first_link, later_links}
use Rattle.flac_chain.specs.Chained.{link_reading, all_parts, IsChain, AreLater, IsLinkRefused, IsChainRefused, IsLaterRefused}
use Rattle.flac_chain.specs.Steady.{IsSteady}
use Rattle.flac_chain.specs.inner.Going.{follows_in, FromHere, RefusedFrom, BeginsIfLater, SoFar}
use Rattle.flac_chain.specs.declared.following.Follows.TheVariants.{Nothing, Page, Other}

-- ---- what the sink takes

pub takes_both : {K I : Type 0} (takes : K → I → K → Type 0) (old mid new : K) (xs ys : List I) → TakesAll takes old xs mid → TakesAll takes mid ys new → TakesAll takes old (xs ++ ys) new
takes_both takes old mid new [] ys a b = subst (λ k. TakesAll takes k ys new) (sym a) b
takes_both takes old mid new (x ∷ xs) ys a b = (a.0, a.1, takes_both takes a.0 mid new xs ys a.2 b)

module _ {K : Type 0} (k : sink.Ghosts K) where
  one_steady : (old : K) (x : Piece) (new : K) → IsSteady k → taken k.takes old x new → (k.known old ≡ true → k.known new ≡ true) × (k.errors new ≡ k.errors old)
  one_steady old marked new steady is = (λ known. sym (ap k.known is) ∙ known, sym (ap k.errors is))
  one_steady old (block last b) new steady is = steady old _ new is
  one_steady old (framed f) new steady is = steady old _ new is

  pub all_steady : (old : K) (xs : List Piece) (new : K) → IsSteady k → TakesAll (taken k.takes) old xs new → (k.known old ≡ true → k.known new ≡ true) × (k.errors new ≡ k.errors old)
  all_steady old [] new steady is = (λ known. sym (ap k.known is) ∙ known, sym (ap k.errors is))
  all_steady old (x ∷ xs) new steady is =
      let one = one_steady old x is.0 steady is.1 in
      let more = all_steady is.0 xs new steady is.2 in
      (λ known. more.0 (one.0 known), more.1 ∙ one.1)

parts_more : (read : List (List Piece)) (p : List Piece) → all_parts (read ++ p ∷ []) ≡ all_parts read ++ p
parts_more [] p = append-nil p
parts_more (q ∷ qs) p = ap (λ l. q ++ l) (parts_more qs p) ∙ sym (append_assoc q (all_parts qs) p)

-- ---- what follows

is_page : (b : Bool) → cond b Page Other ≡ Page → b ≡ true
is_page true e = refl
is_page false e = absurd cc

is_other : (b : Bool) → cond b Page Other ≡ Other → b ≡ false
is_other true e = absurd cc
is_other false e = refl

some_follows : {X : Type 0} (b : Bool) → cond b Page Other ≡ Nothing → X
some_follows true e = absurd cc
some_follows false e = absurd cc

pub page_follows : (bytes : List ℕ) → follows_in bytes ≡ Page → begins_page bytes ≡ true
page_follows [] e = absurd cc
page_follows (b ∷ bytes) e = is_page (nat_eq b 79) e

pub other_follows : (bytes : List ℕ) → follows_in bytes ≡ Other → begins_page bytes ≡ false
other_follows [] e = absurd cc
other_follows (b ∷ bytes) e = is_other (nat_eq b 79) e

pub some_come : (bytes : List ℕ) → follows_in bytes ≡ Other → bytes ≢ []
some_come [] e = absurd cc
some_come (b ∷ bytes) e = λ none. absurd cc

pub none_follows : (bytes : List ℕ) → follows_in bytes ≡ Nothing → bytes ≡ []
none_follows [] e = refl
none_follows (b ∷ bytes) e = some_follows (nat_eq b 79) e

-- ---- one stream more

from_one : (profile : Profile) (read : List (List Piece)) (here : List ℕ) (p : List Piece) (more : List (List Piece)) → BeginsIfLater read here → (link_reading profile (first_link here)).whole p → AreLater profile (later_links here) more → FromHere profile read here (p ∷ more)
from_one profile [] here p more begins whole later = (whole, later)
from_one profile (q ∷ qs) here p more begins whole later = (begins, whole, later)

refused_one : (profile : Profile) (read : List (List Piece)) (here : List ℕ) (p : List Piece) (more : List (List Piece)) (items : List Piece) (at : Place) (why : Why) → BeginsIfLater read here → (link_reading profile (first_link here)).whole p
    → IsLaterRefused profile (later_links here) more items at why → RefusedFrom profile read here (p ∷ more) items at why
refused_one profile [] here p more items at why begins whole later = (whole, later)
refused_one profile (q ∷ qs) here p more items at why begins whole later = (begins, whole, later)

was_from : (profile : Profile) (read : List (List Piece)) (p : List Piece) (here : List ℕ) (more : List (List Piece)) → FromHere profile (read ++ p ∷ []) here more → AreLater profile here more
was_from profile [] p here more h = h
was_from profile (q ∷ qs) p here more h = h

was_refused : (profile : Profile) (read : List (List Piece)) (p : List Piece) (here : List ℕ) (more : List (List Piece)) (items : List Piece) (at : Place) (why : Why) → RefusedFrom profile (read ++ p ∷ []) here more items at why → IsLaterRefused profile here more items at why
was_refused profile [] p here more items at why h = h
was_refused profile (q ∷ qs) p here more items at why h = h

begins_later : (read : List (List Piece)) (p : List Piece) (here : List ℕ) → begins_page here ≡ true → BeginsIfLater (read ++ p ∷ []) here
begins_later [] p here e = e
begins_later (q ∷ qs) p here e = e

module _ {K : Type 0} (profile : Profile) (takes : K → Item → K → Type 0) where
  pub at_start : (all : List ℕ) (s : K) → SoFar profile takes all all 0 s s
  at_start all s = record {
    read = [];
    count = refl;
    begins = tt;
    chain = λ more h. h;
    refused = λ more items at why h. h;
    took = refl;
  }

  pub goes_on : (all here later : List ℕ) (number : ℕ) (before now new : K) → SoFar profile takes all here number before now → (p : List Piece) → (link_reading profile (first_link here)).whole p → TakesAll (taken takes) now p new
      → later ≡ later_links here → begins_page (later_links here) ≡ true → SoFar profile takes all later (number + 1) before new
  goes_on all here later number before now new so p whole took same page =
      let read = so.read in
      record {
        read = read ++ p ∷ [];
        count = omega (arith, so.count, length-append read (p ∷ []));
        begins = begins_later read p later (ap begins_page same ∙ page);
        chain = λ more h.
            subst (IsChain profile all) (sym (append_assoc read (p ∷ []) more))
            (so.chain (p ∷ more) (from_one profile read here p more so.begins whole (subst (λ (l : List ℕ). AreLater profile l more) same (was_from profile read p later more h))));
        refused = λ more items at why h.
            subst (λ (l : List (List Piece)). IsChainRefused profile all l items at why) (sym (append_assoc read (p ∷ []) more))
            (so.refused (p ∷ more) items at why (refused_one profile read here p more items at why so.begins whole (subst (λ (l : List ℕ). IsLaterRefused profile l more items at why) same (was_refused profile read p later more items at why h))));
        took = subst (λ (l : List Piece). TakesAll (taken takes) before l new) (sym (parts_more read p)) (takes_both (taken takes) before now new (all_parts read) p so.took took);
      }

  -- it is the last
  pub ends : (all here : List ℕ) (number : ℕ) (before now new : K) → SoFar profile takes all here number before now → (p : List Piece) → (link_reading profile (first_link here)).whole p → TakesAll (taken takes) now p new
      → later_links here ≡ [] → (parts : List (List Piece)) × IsChain profile all parts × TakesAll (taken takes) before (all_parts parts) new
  ends all here number before now new so p whole took over = (
    so.read ++ p ∷ [],
    so.chain (p ∷ []) (from_one profile so.read here p [] so.begins whole over),
    subst (λ (l : List Piece). TakesAll (taken takes) before l new) (sym (parts_more so.read p)) (takes_both (taken takes) before now new (all_parts so.read) p so.took took),
  )

  -- bytes follow it that begin no page
  pub others_follow : (all here : List ℕ) (number : ℕ) (before now new : K) → SoFar profile takes all here number before now → (p : List Piece) → (link_reading profile (first_link here)).whole p → TakesAll (taken takes) now p new → later_links here ≢ [] → begins_page (later_links here) ≡ false
      → (parts : List (List Piece)) × (items : List Piece) × IsChainRefused profile all parts items (place.Page 0) BadPage × (number + 1 ≡ length parts) × TakesAll (taken takes) before (all_parts parts ++ items) new
  others_follow all here number before now new so p whole took some other =
      let read = so.read in (
        read ++ p ∷ [],
        [],
        so.refused (p ∷ []) [] (place.Page 0) BadPage (refused_one profile read here p [] [] (place.Page 0) BadPage so.begins whole (inl (some, other, refl, refl, refl))),
        omega (arith, so.count, length-append read (p ∷ [])),
        subst (λ (l : List Piece). TakesAll (taken takes) before l new) (sym (append-nil (all_parts (read ++ p ∷ [])) ∙ parts_more read p)) (takes_both (taken takes) before now new (all_parts read) p so.took took),
      )

  refused_here : (read : List (List Piece)) (here : List ℕ) (items : List Piece) (at : Place) (why : Why) → BeginsIfLater read here → IsLinkRefused profile here items at why → RefusedFrom profile read here [] items at why
  refused_here [] here items at why begins h = h
  refused_here (q ∷ qs) here items at why begins h = inr (begins, h)

  -- it is refused
  pub refuses : (all here : List ℕ) (number : ℕ) (before now new : K) → SoFar profile takes all here number before now → (items : List Piece) (at : Place) (why : Why) → IsLinkRefused profile here items at why → TakesAll (taken takes) now items new
      → (parts : List (List Piece)) × (items : List Piece) × IsChainRefused profile all parts items at why × (number ≡ length parts) × TakesAll (taken takes) before (all_parts parts ++ items) new
  refuses all here number before now new so items at why is took = (
    so.read,
    items,
    subst (λ (l : List (List Piece)). IsChainRefused profile all l items at why) (append-nil so.read) (so.refused [] items at why (refused_here so.read here items at why so.begins is)),
    so.count,
    takes_both (taken takes) before now new (all_parts so.read) items so.took took,
  )
