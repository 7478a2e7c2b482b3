-- For proofs: a chain of which some streams were read.
use Rattle.std.specs.Prelude.{◌≡◌, ℕ, true, cond, nat_eq, List, [], ◌∷◌, ◌++◌, length}
use Rattle.flac_bits.specs.Handing.{TakesAll}
use Rattle.flac_bits.specs.declared.source.Source as source
use Rattle.flac_bits.specs.declared.why.Why.{Why}
use Rattle.flac_header.specs.declared.subset.Profile.{Profile}
use Rattle.flac_native.specs.Decoding.{taken}
use Rattle.flac_native.specs.Item.{Item}
use Rattle.flac_native.specs.Stream.{Piece}
use Rattle.flac_native.specs.declared.fault.Place.{Place}
use Rattle.flac_ogg.specs.Either.{begins_page}
use Rattle.flac_ogg.specs.Fronts.{front_bytes}
use Rattle.flac_ogg.specs.declared.decoding.Fronted.{Fronted}
use Rattle.flac_chain.specs.Chained.{all_parts, IsChain, AreLater, IsChainRefused, IsLaterRefused}
use Rattle.flac_chain.specs.declared.following.Follows.{Follows}
use Rattle.flac_chain.specs.declared.following.Follows.TheVariants.{Nothing, Page, Other}

-- what follows: these bytes begin so
abbrev pub follows_in : List ℕ → Follows
follows_in [] = Nothing
follows_in (b ∷ bytes) = cond (nat_eq b 79) Page Other

-- the bytes that such a source has to give
abbrev pub bytes_of : {S : Type 0} (g : source.Ghosts S) → Fronted S → List ℕ
bytes_of g f = front_bytes f.front ++ g.coming f.source

-- after the streams of the first parts these are those of the others
abbrev pub FromHere : Profile → (read : List (List Piece)) → (here : List ℕ) → (more : List (List Piece)) → Type 0
FromHere profile [] here more = IsChain profile here more
FromHere profile (p ∷ ps) here more = AreLater profile here more

-- after the first and after these the next one is refused
abbrev pub RefusedFrom : Profile → (read : List (List Piece)) → (here : List ℕ) → (more : List (List Piece)) → List Piece → Place → Why → Type 0
RefusedFrom profile [] here more items at why = IsChainRefused profile here more items at why
RefusedFrom profile (p ∷ ps) here more items at why = IsLaterRefused profile here more items at why

-- a stream after the first begins with a page
abbrev pub BeginsIfLater : (read : List (List Piece)) → (here : List ℕ) → Type 0
BeginsIfLater [] here = Unit {0}
BeginsIfLater (p ∷ ps) here = begins_page here ≡ true

-- So many streams were read of these bytes, and those are left; the sink took their items.
pub record SoFar {K : Type 0} (profile : Profile) (takes : K → Item → K → Type 0) (all here : List ℕ) (number : ℕ) (before now : K) : Type 0 where
  pub read : List (List Piece)
  pub count : number ≡ length read
  pub begins : BeginsIfLater read here
  pub chain : (more : List (List Piece)) → FromHere profile read here more → IsChain profile all (read ++ more)
  pub refused : (more : List (List Piece)) (items : List Piece) (at : Place) (why : Why) → RefusedFrom profile read here more items at why → IsChainRefused profile all (read ++ more) items at why
  pub took : TakesAll (taken takes) before (all_parts read) now
