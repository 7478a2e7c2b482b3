-- What is held of a stream that is read whole.
use Rattle.std.proofs.Common.{◌≡◌, ◌≢◌, ◌≤◌, ◌<◌, ◌⊎◌, ◌∙◌, ℕ, ℤ, Bool, true, false, List, [], ◌∷◌, ◌++◌, map, drop, Option, Some, refl, ap, sym, subst, append_assoc, append-nil, arith, inl, inr}
use Rattle.std.specs.Prelude.{replicate}
use Rattle.std.proofs.lemmas.Bool.{cases_lt}
use Rattle.flac_bits.specs.Handing.{Hands, TakesAll}
use Rattle.flac_bits.specs.State.{Mark, After}
use Rattle.flac_bits.specs.declared.why.Why.{Why}
use Rattle.flac_bits.specs.declared.why.Why.TheVariants as why
use Rattle.flac_info.specs.Info.{Info}
use Rattle.flac_meta.specs.declared.block.Block.{Block}
use Rattle.flac_meta.specs.declared.block.Block.TheVariants as block_of
use Rattle.flac_header.specs.declared.subset.Profile.{Profile}
use Rattle.flac_header.specs.declared.subset.Profile.TheVariants.{Lax}
use Rattle.flac_frame.specs.Frame.{Frame}
use Rattle.flac_native.specs.Decoding.{taken}
use Rattle.flac_native.specs.Given.{closing}
use Rattle.flac_native.specs.Item.{Item, metadata, frame}
use Rattle.flac_native.specs.Stream.{Piece, marked, block, framed}
use Rattle.flac_native.specs.declared.fault.Fault.{Fault}
use Rattle.flac_native.specs.declared.fault.Place.{Place}
use Rattle.flac_native.proofs.Whole.{streams_are_whole}
use Rattle.flac_ogg.specs.Either.{read_either}
use Rattle.flac_ogg.proofs.NativeItems.{ogg_streams_are_streams}
use Rattle.flac_cli.specs.Outcomes.{input_reading}
use Rattle.flac_cli.specs.Recoded.{extended, extended_by, heard_in, carried, stream_parts}
use Rattle.flac_cli.specs.inner.Holding.{Held, nothing, held_after, with_block, IsHeld, IsFaultOf}
use Rattle.flac_cli.specs.inner.WaveOutcomes.{memory_by, fault_by}
use Rattle.flac_cli.proofs.Reported.{memory_or_not}

-- ---- all parts

abbrev pub after_parts : Held → List Piece → Held
after_parts h [] = h
after_parts h (marked ∷ xs) = after_parts h xs
after_parts h (block last b ∷ xs) = after_parts (held_after h (metadata b)) xs
after_parts h (framed f ∷ xs) = after_parts (held_after h (frame f)) xs

module _ {S : Type 0} (view : S → Held) where
  -- what such a sink makes of an item
  abbrev pub Takes : S → Item → S → Type 0
  Takes s x t = view t ≡ held_after (view s) x

  pub all_held : (old : S) (xs : List Piece) (new : S) → TakesAll (taken Takes) old xs new → view new ≡ after_parts (view old) xs
  all_held old [] new h = ap view (sym h)
  all_held old (marked ∷ xs) new h = all_held h.0 xs new h.2 ∙ ap (λ s. after_parts (view s) xs) (sym h.1)
  all_held old (block last b ∷ xs) new h = all_held h.0 xs new h.2 ∙ ap (λ s. after_parts s xs) h.1
  all_held old (framed f ∷ xs) new h = all_held h.0 xs new h.2 ∙ ap (λ s. after_parts s xs) h.1

-- what is held once STREAMINFO came
abbrev begun : Info → (blocks : List Block) (channels : List (List ℤ)) → Held
begun i bs cs = record { info = Some i; blocks = bs; channels = cs }

frames_held : (i : Info) (bs : List Block) (cs : List (List ℤ)) (fs : List Frame) → after_parts (begun i bs cs) (map framed fs) ≡ begun i bs (extended_by cs fs)
frames_held i bs cs [] = refl
frames_held i bs cs (f ∷ fs) = frames_held i bs (extended cs f.channels) fs

block_held : (i : Info) (bs : List Block) (cs : List (List ℤ)) (b : Block) → with_block (begun i bs cs) b ≡ begun i (bs ++ carried (b ∷ [])) cs
block_held i bs cs (block_of.StreamInfo info) = ap (λ l. begun i l cs) (sym (append-nil bs))
block_held i bs cs other = refl

carried_more : (b : Block) (list : List Block) → carried (b ∷ []) ++ carried list ≡ carried (b ∷ list)
carried_more (block_of.StreamInfo info) list = refl
carried_more (block_of.SeekTable points) list = refl
carried_more other list = refl

blocks_held : (i : Info) (bs : List Block) (cs : List (List ℤ)) (list : List Block) (xs : List Piece) → after_parts (begun i bs cs) (closing list ++ xs) ≡ after_parts (begun i (bs ++ carried list) cs) xs
blocks_held i bs cs [] xs = ap (λ l. after_parts (begun i l cs) xs) (sym (append-nil bs))
blocks_held i bs cs (b ∷ list) xs =
    ap (λ h. after_parts h (closing list ++ xs)) (block_held i bs cs b) ∙ blocks_held i (bs ++ carried (b ∷ [])) cs list xs
    ∙ ap (λ l. after_parts (begun i l cs) xs) (append_assoc bs (carried (b ∷ [])) (carried list) ∙ ap (λ l. bs ++ l) (carried_more b list))

-- the marker is not held
parts_held : (is_ogg : Bool) (info : Info) (list : List Block) (frames : List Frame) → after_parts nothing (stream_parts is_ogg info list frames) ≡ after_parts (begun info [] (replicate info.channels [])) (closing list ++ map framed frames)
parts_held true info list frames = refl
parts_held false info list frames = refl

-- of all parts of a stream
pub is_held : (is_ogg : Bool) (info : Info) (list : List Block) (frames : List Frame) (old new : Held) (xs : List Piece) → old ≡ nothing → xs ≡ stream_parts is_ogg info list frames → new ≡ after_parts old xs → IsHeld new info list (heard_in info frames)
is_held is_ogg info list frames old new xs none parts is =
    let channels : List (List ℤ) = replicate info.channels [] in
    let all : new ≡ begun info (carried list) (extended_by channels frames) =
    is ∙ ap (λ h. after_parts h xs) none ∙ ap (λ l. after_parts nothing l) parts ∙ parts_held is_ogg info list frames ∙ blocks_held info [] channels list (map framed frames) ∙ frames_held info (carried list) channels frames in
    record {
      stated = ap (λ (h : Held). h.info) all;
      kept = ap (λ (h : Held). h.blocks) all;
      heard = ap (λ (h : Held). h.channels) all;
    }

-- ---- a stream's parts

without_marker : (xs ys : List Piece) → marked ∷ xs ≡ marked ∷ ys → xs ≡ ys
without_marker xs ys e = ap (λ l. drop 1 l) e

pub parts_of : (profile : Profile) (is_ogg : Bool) (m : Mark) (items : List Piece) (text : List Bool) → (read_either profile is_ogg m text).whole items
    → (info : Info) × (list : List Block) × (frames : List Frame) × (items ≡ stream_parts is_ogg info list frames)
parts_of profile true m items text o =
    let w = (streams_are_whole profile _ _ _).0 (ogg_streams_are_streams profile m items text o) in
    (w.info, w.list, w.frames, without_marker items (closing (block_of.StreamInfo w.info ∷ w.list) ++ map framed w.frames) w.parts)
parts_of profile false m items text s = let w = (streams_are_whole profile m items text).0 s in (w.info, w.list, w.frames, w.parts)

-- ---- faults

pub sink_or_not : (w : Why) → (w ≡ why.Sink) ⊎ ((w ≢ why.Sink) × (memory_by w ≡ w))
sink_or_not why.Sink = inl refl
sink_or_not w = inr (λ e. absurd cc, refl)

some_why : (at to : Place) (v w : Why) → ◌≡◌ {A = Option (Place × Why)} (Some (at, v)) (Some (to, w)) → v ≡ w
some_why at to v w e = let p : ◌≡◌ {A = Place × Why} (at, v) (to, w) = inside _ _ e in ap (λ (q : Place × Why). q.1) p
  where
    inside : (x y : Place × Why) → Some x ≡ Some y → x ≡ y
    inside x y same = cc

module _ (bytes : List ℕ) (after : After) {K : Type 0} (takes : K → Piece → K → Type 0) (errors : K → ℕ) (calm : Type 0) (old new : K) where
  -- a sink that fails only if an allocation does did so, or memory ran out otherwise, or the bytes are refused
  pub fault_held : (e : Fault) → Hands (input_reading Lax bytes after) takes errors calm old new (Some (e.at, e.why)) → calm → errors old ≡ 0 → ((fault_by true e).why ≡ why.Memory) ⊎ IsFaultOf bytes after (fault_by true e)
  fault_held e h quiet none = elim (sink_or_not e.why) [ inl sink ↦ inl (ap memory_by sink) | inr o ↦ other o.0 o.1 (cases_lt (errors old) (errors new)) ]
    where
      other : e.why ≢ why.Sink → memory_by e.why ≡ e.why → (errors old < errors new) ⊎ (errors new ≤ errors old) → ((fault_by true e).why ≡ why.Memory) ⊎ IsFaultOf bytes after (fault_by true e)
      other never same (inl rose) = let f = h.failed rose in absurd (never (some_why e.at f.0 e.why why.Sink f.1))
      other never same (inr few) = elim (memory_or_not e.why) [
        | inl m ↦ inl (same ∙ m)
        | inr n ↦
            let r = h.refused quiet e.at e.why refl n (omega (arith, few, none)) in
            inr (r.0, subst (λ w. (input_reading Lax bytes after).refused r.0 e.at w) (sym same) r.1)
      ]
