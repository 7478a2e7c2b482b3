-- A stream that is cut at a frame, and the bytes from there on.
use Rattle.std.proofs.Common.{◌≡◌, ℕ, Bool, List, [], ◌∷◌, ◌++◌, map, take, drop, Option, Some, None, refl, sym, ap, subst, ◌∙◌}
use Rattle.std.proofs.lemmas.List.{append-nil, take-append-drop}
use Rattle.flac_bits.specs.Bits.{bits_of}
use Rattle.flac_bits.specs.State.{Mark}
use Rattle.flac_bits.specs.Handing.{by_grammar}
use Rattle.flac_bits.specs.Items.{Joined, Stream, state_after}
use Rattle.flac_bits.specs.declared.why.Why.{Why}
use Rattle.flac_bits.specs.declared.why.Why.TheVariants.{Truncated}
use Rattle.flac_bits.proofs.Holding.{bits_of-append}
use Rattle.flac_info.specs.Info.{Info, without_totals}
use Rattle.flac_header.specs.declared.subset.Profile.{Profile}
use Rattle.flac_frame.specs.Frame.{Frame}
use Rattle.flac_native.specs.Decoding.{beginning}
use Rattle.flac_native.specs.Item.{frame, fault_pair}
use Rattle.flac_native.specs.Giving.{items_of, Stage}
use Rattle.flac_native.specs.Stream.{framed, grammar, opening}
use Rattle.flac_native.specs.Resuming.{resumed}
use Rattle.flac_native.specs.declared.fault.Place.{Place}
use Rattle.flac_native.specs.declared.fault.Fault.{Fault}
use Rattle.flac_native.specs.declared.container.Container as container
use Rattle.flac_native.proofs.Onwards.{same_info, one_place, ends_well, frames_are_resumed}
use Rattle.flac_reader.specs.Opening.{IsReadAs}
use Rattle.flac_reader.specs.Seeking.{Cuts, Finds, PassedBy}

abbrev first : Mark
first = beginning Truncated

frame_items : (frames : List Frame) → items_of (map framed frames) ≡ map frame frames
frame_items [] = refl
frame_items (f ∷ fs) = ap (λ k. frame f ∷ k) (frame_items fs)

pub split : (at : ℕ) (stream : List ℕ) → bits_of stream ≡ bits_of (take at stream) ++ bits_of (drop at stream)
split at stream = ap bits_of (sym (take-append-drop at stream)) ∙ bits_of-append (take at stream) (drop at stream)

abbrev Rest : Profile → List ℕ → ℕ → Info → List Frame → Type 0
Rest profile stream at info frames = Stream grammar (resumed profile info) first (map framed frames) (bits_of (drop at stream))

-- what is after the cut is a stream of these frames, read from the state in which a frame comes
rest_is : (profile : Profile) (stream : List ℕ) (info : Info) (at : ℕ) (frames : List Frame) → Cuts profile stream info at frames → Rest profile stream at info frames
rest_is profile stream info at [] c =
    let all : Joined grammar (opening profile) first c.front (bits_of stream) = subst (λ k. Joined grammar (opening profile) first k (bits_of stream)) (append-nil c.front) c.whole.spelled in
    let none : bits_of (drop at stream) ≡ [] = sym (one_place (opening profile) first c.front (bits_of stream) [] (bits_of (take at stream)) (bits_of (drop at stream)) (append-nil (bits_of stream) ∙ split at stream) all c.before) in
    record { spelled = none; ends = refl; kept = ends_well (Some (without_totals info)) info 0 [] refl }
rest_is profile stream info at (f ∷ more) c =
    let r = frames_are_resumed profile first first c.front (map framed more) f (bits_of stream) refl refl c.whole in
    let here : bits_of (drop at stream) ≡ r.rest = r.only (bits_of (take at stream)) (bits_of (drop at stream)) (split at stream) c.before in
    let same : r.info ≡ info = same_info info r.info (state_after grammar (opening profile) c.front).stand.info c.known r.told in
    subst (λ i. Rest profile stream at i (f ∷ more)) same (subst (λ t. Stream grammar (resumed profile r.info) first (framed f ∷ map framed more) t) (sym here) r.stream)

pub cut_read : (profile : Profile) (stream : List ℕ) (info : Info) (at : ℕ) (frames : List Frame) → Cuts profile stream info at frames → IsReadAs (by_grammar grammar (resumed profile info) first (bits_of (drop at stream))) [] frames None
cut_read profile stream info at frames c = record { parts = map framed frames; read = rest_is profile stream info at frames c; items = frame_items frames }

abbrev none : Option (Place × Why)
none = None

-- what is read from the cut on
abbrev FromCut : Profile → List ℕ → ℕ → Info → List Frame → Option (Place × Why) → Type 0
FromCut profile stream at info frames end = IsReadAs (by_grammar grammar (resumed profile info) first (bits_of (drop at stream))) [] frames end

-- so what is sought in the rest is sought among these frames
pub cut_found : {C : Type 0} {g : container.Ghosts C} (profile : Profile) (stream : List ℕ) (info : Info) (sample at : ℕ) (frames : List Frame) (ahead : Bool) (s : Stage C)
    → ((others : List Frame) (end : Option (Place × Why)) → FromCut profile stream at info others end → Finds g info sample others end ahead s) → Cuts profile stream info at frames → Finds g info sample frames None ahead s
cut_found profile stream info sample at frames ahead s found c = found frames None (cut_read profile stream info at frames c)

-- and is not refused
pub cut_refused : (profile : Profile) (stream : List ℕ) (info : Info) (sample at : ℕ) (frames : List Frame) (f : Fault)
    → ((others : List Frame) (end : Option (Place × Why)) → FromCut profile stream at info others end → PassedBy info sample others × (end ≡ Some (fault_pair f))) → Cuts profile stream info at frames → ⊥
cut_refused profile stream info sample at frames f refused c = no_end (fault_pair f) (refused frames None (cut_read profile stream info at frames c)).1
  where
    no_end : (x : Place × Why) → none ≡ Some x → ⊥
    no_end x e = absurd cc
