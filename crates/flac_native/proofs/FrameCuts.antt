-- The bits of an encoded stream up to one of its frames.
use Rattle.std.proofs.Common.{◌≡◌, ℕ, zero, suc, ◌+◌, ◌-◌, ◌<◌, ◌≤◌, Bool, true, List, [], ◌∷◌, ◌++◌, append_assoc, length, map, take, Option, Some, None, inl, refl, sym, ap, subst, ◌∙◌, arith}
use Rattle.std.specs.Prelude.{slice_index_or}
use Rattle.std.proofs.lemmas.List.{get_or-take, length-take-le, map-append}
use Rattle.flac_bits.specs.Bits.{unsigned}
use Rattle.flac_bits.specs.State.{Mark, past, fresh}
use Rattle.flac_bits.specs.Forms.{joined}
use Rattle.flac_bits.specs.Items.{Joined, state_after}
use Rattle.flac_bits.specs.declared.why.Why.TheVariants.{Truncated}
use Rattle.flac_bits.proofs.ItemSpellings.{fresh_unread, after_whole}
use Rattle.flac_info.specs.Info.{Info}
use Rattle.flac_meta.specs.declared.block.Block.{Block}
use Rattle.flac_meta.specs.declared.block.Block.TheVariants as block_of
use Rattle.flac_header.specs.declared.subset.Profile.{Profile}
use Rattle.flac_frame.specs.Audio.{Sound, samples_each}
use Rattle.flac_frame.specs.declared.before.Before.{Before}
use Rattle.flac_native.specs.Decoding.{beginning}
use Rattle.flac_native.specs.Stream.{Piece, marked, framed, Progress, grammar, opening, next}
use Rattle.flac_native.specs.declared.track.Phase.{Phase}
use Rattle.flac_native.specs.declared.track.Phase.TheVariants.{Frames}
use Rattle.flac_native.specs.Given.{Cut, fits_plan, blocks_in, plan_fault, info_of, frame_of, frames_from, frames_of, given}
use Rattle.flac_native.specs.Whole.{head_parts}
use Rattle.flac_native.specs.Writing.{SpellsFrame, AreFrames, AreSizes, blocks_spelling, head_spelling}
use Rattle.flac_native.proofs.Planned.{planned, fit, keeps_rules}
use Rattle.flac_native.proofs.EachFrame.{Suits}
use Rattle.flac_native.proofs.Streams.{marker_here, least_small}
use Rattle.flac_native.proofs.NewHead.{spelled_blocks, valid_after}
use Rattle.flac_native.proofs.Onwards.{Told, step_of, nothing_told}
use Rattle.flac_native.proofs.Whole.{AtFrames, head_leaves}
use Rattle.flac_native.proofs.Resumed.{Among, frames_on}

abbrev first : Mark
first = beginning Truncated

-- ---- parts, and others after them

-- the bits are these parts, and frames of this STREAMINFO come next
abbrev pub Reaches : Info → Progress → Mark → List Piece → List Bool → Type 0
Reaches i p m items text = Joined grammar p m items text × Among i (state_after grammar p items)

-- what is spelled at any whole byte is spelled after parts
and_then : (i : Info) (p : Progress) (m : Mark) (xs ys : List Piece) (front rest : List Bool) → Told p.stand.info → m.unread ≡ 0 → Joined grammar p m xs front
    → ((k : Mark) → k.unread ≡ 0 → Reaches i (state_after grammar p xs) k ys rest) → Reaches i p m (xs ++ ys) (front ++ rest)
and_then i p m [] ys front rest told z j more = subst (λ t. Reaches i p m ys (t ++ rest)) (sym j) (more m z)
and_then i p m (x ∷ xs) ys front rest told z (part, left, split, spelled, fits, others) more =
    let s = step_of p.stand m part x told z spelled in
    let r = and_then i (next p x) (past part (fresh m)) xs ys left rest s.rules (after_whole part (fresh m) (fresh_unread m z) s.whole) others more in
    ((part, left ++ rest, ap (λ t. t ++ rest) split ∙ append_assoc part left rest, spelled, fits, r.0), r.1)

-- the first parts alone
front_of : (p : Progress) (m : Mark) (xs ys : List Piece) (text : List Bool) → Joined grammar p m (xs ++ ys) text → (front : List Bool) × Joined grammar p m xs front
front_of p m [] ys text j = ([], refl)
front_of p m (x ∷ xs) ys text (part, left, split, spelled, fits, others) =
    let r = front_of (next p x) (past part (fresh m)) xs ys left others in
    (part ++ r.0, (part, r.0, refl, spelled, fits, r.1))

-- ---- the marker and the blocks

-- a head that can be read is read from the bits that are written for it
pub head_joined : (profile : Profile) (i : Info) (list : List Block) (more : List Piece) (text : List Bool) → Joined grammar (opening profile) first (head_parts i list ++ more) text → Joined grammar (opening profile) first (head_parts i list) (head_spelling i list)
head_joined profile i list more text j =
    let marker = unsigned 32 0x664C6143 in
    let head = front_of (opening profile) first (head_parts i list) more text j in
    let all = valid_after profile first i list head.0 head.1 in
    let mark = past marker (fresh first) in
    let u : mark.unread ≡ 0 = after_whole marker (fresh first) (fresh_unread first refl) refl in
    (marker, blocks_spelling (block_of.StreamInfo i ∷ list), refl, marker_here profile (fresh first), tt, spelled_blocks (next (opening profile) marked) mark (block_of.StreamInfo i) list refl u all)

-- where frames come, with this in the stand
abbrev standing : Profile → Phase → Option Info → Option Before → Progress → Progress
standing profile phase info before s = record { stand = record { profile = profile; phase = phase; index = s.stand.index; seen = s.stand.seen; info = info; before = before }; samples = s.samples; message = s.message }

as_standing : (profile : Profile) (i : Info) (s : Progress) → AtFrames profile i s → s ≡ standing profile Frames (Some i) None s
as_standing profile i s at =
    ap (λ k. standing k s.stand.phase s.stand.info s.stand.before s) at.judged ∙ ap (λ k. standing profile k s.stand.info s.stand.before s) at.phase
    ∙ ap (λ k. standing profile Frames k s.stand.before s) at.info ∙ ap (λ k. standing profile Frames (Some i) k s) at.before

-- ---- and the first frames

up_to_here : (p : Cut) (list : List Block) (a : Sound) (least greatest : ℕ) (frames : List (List Bool)) (number : ℕ) → plan_fault p ≡ None → fits_plan p a ≡ true → AreFrames p a frames → AreSizes frames least greatest → number ≤ length frames
    → Joined grammar (opening a.profile) first (head_parts (info_of p a least greatest) list) (head_spelling (info_of p a least greatest) list)
    → Reaches (info_of p a least greatest) (opening a.profile) first (head_parts (info_of p a least greatest) list ++ map framed (frames_from p.block_size a number 0)) (head_spelling (info_of p a least greatest) list ++ joined (take number frames))
up_to_here p list a least greatest frames number planned_is fits f s few head =
    let q = planned p planned_is in
    let k = fit p a fits in
    let small = least_small p a frames least greatest f s in
    let i = info_of p a least greatest in
    let b = p.block_size in
    let suits : Suits p a i = record { least_block = refl; greatest_block = refl; rate = refl; channels = refl; depth = refl; rules = keeps_rules p a least greatest q k small.0 small.1 } in
    let texts = take number frames in
    let long : length texts ≡ number = length-take-le number frames few in
    let all = valid_after a.profile first i list (head_spelling i list) head in
    let here = state_after grammar (opening a.profile) (head_parts i list) in
    let at = head_leaves a.profile i list all.1 in
    let each : (j : ℕ) → j < length texts → SpellsFrame a (frame_of b a (0 + j)) (slice_index_or texts j []) = λ j h.
    subst (λ t. SpellsFrame a (frame_of b a (0 + j)) t) (sym (get_or-take number frames j [] (omega (arith, h, long))))
    (subst (λ n. SpellsFrame a (frame_of b a n) (slice_index_or frames j [])) (let e : j ≡ 0 + j = omega arith in e) (f.each j (omega (arith, h, long, few)))) in
    let more : (m : Mark) → m.unread ≡ 0 → Reaches i here m (map framed (frames_from b a number 0)) (joined texts) = λ m z.
    let r = frames_on p a i q k suits texts 0 here.stand.index here.samples here.stand.seen None here.message m z (omega (arith, long, few, f.many)) (λ more. inl refl) each in
    subst (λ n. Reaches i here m (map framed (frames_from b a n 0)) (joined texts)) long (subst (λ w. Reaches i w m (map framed (frames_from b a (length texts) 0)) (joined texts)) (sym (as_standing a.profile i here at)) r) in
    and_then i (opening a.profile) first (head_parts i list) (map framed (frames_from b a number 0)) (head_spelling i list) (joined texts) nothing_told refl head more

pub up_to_frame : (p : Cut) (list : List Block) (a : Sound) (least greatest : ℕ) (frames : List (List Bool)) (number : ℕ) → plan_fault p ≡ None → fits_plan p a ≡ true → AreFrames p a frames → AreSizes frames least greatest → number ≤ length frames
    → Joined grammar (opening p.profile) first (head_parts (info_of p a least greatest) list) (head_spelling (info_of p a least greatest) list)
    → Reaches (info_of p a least greatest) (opening p.profile) first (head_parts (info_of p a least greatest) list ++ map framed (frames_from p.block_size a number 0)) (head_spelling (info_of p a least greatest) list ++ joined (take number frames))
up_to_frame p list a least greatest frames number planned_is fits f s few head =
    let k = fit p a fits in
    let i = info_of p a least greatest in
    let there = subst (λ x. Joined grammar (opening x) first (head_parts i list) (head_spelling i list)) k.profile head in
    subst (λ x. Reaches i (opening x) first (head_parts i list ++ map framed (frames_from p.block_size a number 0)) (head_spelling i list ++ joined (take number frames))) (sym k.profile)
    (up_to_here p list a least greatest frames number planned_is fits f s few there)

-- ---- the parts before a frame, and those from it on

frames_split : (b : ℕ) (a : Sound) (n more number : ℕ) → frames_from b a (n + more) number ≡ frames_from b a n number ++ frames_from b a more (number + n)
frames_split b a zero more number =
    ap (λ k. frames_from b a k number) (let e : 0 + more ≡ more = omega arith in e) ∙ ap (λ k. frames_from b a more k) (let e : number ≡ number + 0 = omega arith in e)
frames_split b a (suc n) more number =
    ap (λ k. frames_from b a k number) (let e : suc n + more ≡ suc (n + more) = omega arith in e)
    ∙ ap (λ l. frame_of b a number ∷ l) (frames_split b a n more (number + 1) ∙ ap (λ k. frames_from b a n (number + 1) ++ frames_from b a more k) (let e : number + 1 + n ≡ number + suc n = omega arith in e))

pub given_split : (p : Cut) (list : List Block) (a : Sound) (least greatest count number : ℕ) → count ≡ blocks_in p.block_size (samples_each a.channels) → number ≤ count
    → given p list a least greatest ≡ (head_parts (info_of p a least greatest) list ++ map framed (frames_from p.block_size a number 0)) ++ map framed (frames_from p.block_size a (count - number) number)
given_split p list a least greatest count number many few =
    let b = p.block_size in
    let head = head_parts (info_of p a least greatest) list in
    let before = frames_from b a number 0 in
    let after = frames_from b a (count - number) number in
    let whole : blocks_in b (samples_each a.channels) ≡ number + (count - number) = sym many ∙ (let e : count ≡ number + (count - number) = omega (arith, few) in e) in
    let split : frames_of b a ≡ before ++ after =
    ap (λ n. frames_from b a n 0) whole ∙ frames_split b a number (count - number) 0 ∙ ap (λ n. before ++ frames_from b a (count - number) n) (let e : 0 + number ≡ number = omega arith in e) in
    ap (λ l. head ++ map framed l) split ∙ ap (λ l. head ++ l) (map-append framed before after) ∙ sym (append_assoc head (map framed before) (map framed after))
