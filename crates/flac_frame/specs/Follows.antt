-- How the frames of a stream follow one another, as a property of the list of all their headers.
use Rattle.std.specs.Prelude.{◌≡◌, ℕ, ◌+◌, ◌≤◌, Bool, true, false, cond, List, [], ◌∷◌, ◌++◌, Option, Some, None, All, ⊤, ◌↔◌}
use Rattle.flac_bits.specs.State.{Mark, past, fresh}
use Rattle.flac_bits.specs.Meaning.{Spells, AllKept}
use Rattle.flac_bits.specs.Fence.{InRoom}
use Rattle.flac_bits.specs.Items.{Grammar, Joined}
use Rattle.flac_info.specs.Info.{Info}
use Rattle.flac_header.specs.Header.{Header, header, allowed, channels_of}
use Rattle.flac_header.specs.declared.subset.Profile.{Profile}
use Rattle.flac_frame.specs.Frame.{Frame, frame, frame_body, header_rules, rate_in, depth_in, left_by, after_frame}
use Rattle.flac_frame.specs.declared.before.Before.{Before}

-- of every two headers, one after the other
abbrev pub EachTwo : (Header → Header → Type 0) → List Header → Type 0
EachTwo P [] = ⊤
EachTwo P (g ∷ []) = ⊤
EachTwo P (g ∷ h ∷ hs) = P g h × EachTwo P (h ∷ hs)

-- of every header but the last
abbrev pub ButLast : (Header → Type 0) → List Header → Type 0
ButLast P [] = ⊤
ButLast P (g ∷ []) = ⊤
ButLast P (g ∷ h ∷ hs) = P g × ButLast P (h ∷ hs)

-- the number is the one before plus 1, or plus that block's size if first samples are numbered (RFC 9639,
-- section 9.1.5)
abbrev pub NumberFollows : Header → Header → Type 0
NumberFollows g h = h.number ≡ g.number + cond g.variable g.size 1

-- rate, channel count and depth are those of STREAMINFO
pub record HasFormat (profile : Profile) (info : Info) (h : Header) : Type 0 where
  pub rate : rate_in profile info h ≡ info.rate
  pub channels : channels_of h.channel_code ≡ info.channels
  pub depth : depth_in profile info h ≡ info.depth

-- The headers of all frames of a stream. Each is allowed by the profile and has the format of STREAMINFO; the blocking
-- strategy is one (section 9.1), and the numbers follow on; no block is above the largest size, and each but the last
-- has at least the smallest (section 8.2); with fixed blocking each but the last has the same size, and the last is no
-- larger (section 9.1).
pub record Follows (profile : Profile) (info : Info) (headers : List Header) : Type 0 where
  pub variable : Bool
  pub size : ℕ
  pub allowed : All (λ h. allowed profile h ≡ true) headers
  pub format : All (HasFormat profile info) headers
  pub strategy : All (λ h. h.variable ≡ variable) headers
  pub numbers : EachTwo NumberFollows headers
  pub greatest : All (λ h. h.size ≤ info.greatest_block) headers
  pub least : ButLast (λ h. info.least_block ≤ h.size) headers
  pub same : variable ≡ false → ButLast (λ h. h.size ≡ size) headers
  pub no_larger : variable ≡ false → All (λ h. h.size ≤ size) headers

-- ---- what a reader checks

-- no rule at the end of a header is broken, each after the frames before it
abbrev pub AreAccepted : Profile → Info → Option Before → List Header → Type 0
AreAccepted profile info before [] = ⊤
AreAccepted profile info before (h ∷ hs) = AllKept (header_rules profile info before h) × AreAccepted profile info (Some (left_by before h.variable h.number h.size)) hs

-- the headers that a reader accepts one after another are just those that follow one another
abbrev pub AcceptedFollow : Type 0
AcceptedFollow = (profile : Profile) (info : Info) (headers : List Header) → AreAccepted profile info None headers ↔ Follows profile info headers

-- ---- frames

-- frames alone, as a reader takes them: each in the state after those before it
abbrev pub frames : Profile → Info → Option ℕ → Grammar (Option Before) Frame ⊤
frames profile info room = record {
  layout = frame profile info;
  room = λ before. room;
  next = λ before f. Some (after_frame before f);
  may_end = λ before. true;
  at_end = λ before. [];
  place = λ before. tt;
  end_place = tt;
}

-- frames one after another, each a header and what follows it, with no regard to one another
abbrev pub AreFrames : Profile → Info → Option ℕ → Mark → List Header → List Frame → List Bool → Type 0
AreFrames profile info room m [] [] text = text ≡ []
AreFrames profile info room m [] (f ∷ fs) text = ⊥
AreFrames profile info room m (h ∷ hs) [] text = ⊥
AreFrames profile info room m (h ∷ hs) (f ∷ fs) text =
    (first : List Bool) × (body : List Bool) × (rest : List Bool) × (text ≡ (first ++ body) ++ rest) × Spells header (fresh m) first h
    × Spells (frame_body profile info h) (past first (fresh m)) body f × InRoom room (fresh m) (first ++ body) × AreFrames profile info room (past (first ++ body) (fresh m)) hs fs rest

-- the frames that a reader takes one after another are those whose headers follow one another
abbrev pub FramesFollow : Type 0
FramesFollow = (profile : Profile) (info : Info) (room : Option ℕ) (m : Mark) (fs : List Frame) (text : List Bool)
    → Joined (frames profile info room) None m fs text ↔ ((hs : List Header) × AreFrames profile info room m hs fs text × Follows profile info hs)
