-- What is written is a stream of what was given.
use Rattle.std.proofs.Common.{◌≡◌, ℕ, ◌+◌, ◌*◌, ◌^◌, ◌<◌, min, Bool, true, false, not, cond, ◌&&◌, nat_eq, List, [], ◌∷◌, ◌++◌, length, append_assoc, map, Some, None, inl, refl, sym, ap, subst, arith}
use Rattle.std.specs.Prelude.{slice_index_or}
use Rattle.std.specs.Str.{bytes_eq}
use Rattle.std.proofs.lemmas.Bool.Decides.{nat_tests}
use Rattle.std.proofs.lemmas.List.{append-nil}
use Rattle.std.proofs.lemmas.Nat.{pow_pos}
use Rattle.std.proofs.lemmas.Slice.Eq.{bytes_eq-Decides}
use Rattle.flac_bits.specs.Bits.{unsigned}
use Rattle.flac_bits.specs.State.{Mark, past, fresh}
use Rattle.flac_bits.specs.Forms.{joined}
use Rattle.flac_bits.specs.Meaning.{Spells, AllKept}
use Rattle.flac_bits.specs.declared.why.Why.TheVariants.{Truncated}
use Rattle.flac_bits.proofs.ItemSpellings.{fresh_unread, after_whole}
use Rattle.flac_info.specs.Info.{Info}
use Rattle.flac_meta.specs.Header.{nothing_seen}
use Rattle.flac_meta.specs.Block.{seen_after}
use Rattle.flac_meta.specs.Listed.{came, fault_after, list_fault, info_seen}
use Rattle.flac_meta.specs.Spelling.{content_spelling, block_spelling}
use Rattle.flac_meta.specs.Valid.{AllAre, FitsFields, IsInfo, IsBlock, ContentSpelled, BlockSpelled}
use Rattle.flac_meta.specs.declared.block.Seen.{Seen}
use Rattle.flac_meta.specs.declared.block.Block.{Block}
use Rattle.flac_meta.specs.declared.block.Block.TheVariants as blocks
use Rattle.flac_meta.proofs.Blocks.{blocks_spelled}
use Rattle.flac_meta.proofs.Steps.{zeros_are}
use Rattle.flac_meta.proofs.Listed.{listed, or_else_none}
use Rattle.flac_header.specs.declared.subset.Profile.{Profile}
use Rattle.flac_frame.specs.Audio.{Sound, samples_each}
use Rattle.flac_native.specs.Decoding.{beginning}
use Rattle.flac_native.specs.Message.{rows_bytes, sample_width}
use Rattle.flac_bits.specs.Items.{Stream}
use Rattle.flac_native.specs.Stream.{Piece, marked, block, framed, Stand, Progress, grammar, opening, layout, layout_in, marker, next, raised, phase_after, end_rules, is_unknown, may_end_in}
use Rattle.flac_native.specs.declared.track.Phase.{Phase}
use Rattle.flac_native.specs.declared.track.Phase.TheVariants.{Opening, Blocks, Frames}
use Rattle.md5.specs.Md5.{md5}
use Rattle.flac_native.specs.Given.{Cut, info_of, sound_message, frame_of, frames_from, closing, given}
use Rattle.flac_native.specs.Writing.{SpellsFrame, AreFrames, AreSizes, blocks_spelling, stream_spelling, EncodedAreStreams}
use Rattle.flac_native.proofs.Digests.{digest_is_bytes}
use Rattle.flac_native.proofs.Planned.{planned, fit, keeps_rules}
use Rattle.flac_native.proofs.WholeBytes.{block_whole}
use Rattle.flac_native.proofs.Encoded.{Ended, Runs, one_more, frames_run}

two : (b : Bool) → b ≡ true → b ≡ false → ⊥
two true e f = absurd cc
two false e f = absurd cc

-- ---- a block

-- what is written is one of the spellings
content_written : (b : Block) → ContentSpelled b (content_spelling b)
unfolding content_spelling
content_written (blocks.StreamInfo info) = refl
content_written (blocks.Padding n) = (0, pow_pos (8 * n), sym (zeros_are (8 * n)))
content_written (blocks.Application id bytes) = refl
content_written (blocks.SeekTable points) = refl
content_written (blocks.VorbisComment found) = refl
content_written (blocks.CueSheet found) = refl
content_written (blocks.Picture found) = refl
content_written (blocks.Other kind bytes) = refl

block_written : (last : Bool) (b : Block) → BlockSpelled last b (block_spelling last b)
unfolding block_spelling
block_written last b = (content_spelling b, content_written b, refl)

pub block_by_layout : (s : Stand) (m : Mark) (last : Bool) (b : Block) → s.phase ≡ Blocks → IsBlock s.seen b → Spells (layout s) m (block_spelling last b) (block last b)
unfolding layout
block_by_layout s m last b phase is = go s.phase phase
  where
    go : (k : Phase) → k ≡ Blocks → Spells (layout_in k s) m (block_spelling last b) (block last b)
    go Blocks e = ((last, b), block_spelling last b, [], sym (append-nil (block_spelling last b)), (blocks_spelled s.seen m (block_spelling last b) last b).1 (is, block_written last b), (refl, refl))
    go Opening e = absurd cc
    go Frames e = absurd cc

module _ (profile : Profile) (i : Info) where
  -- among the blocks, after STREAMINFO
  abbrev pub at_block : ℕ → Seen → Progress
  at_block index seen = record { stand = record { profile = profile; phase = Blocks; index = index; seen = seen; info = Some i; before = None }; samples = 0; message = [] }

  abbrev pub after : Bool → ℕ → Seen → Progress
  after last index seen = record { stand = record { profile = profile; phase = phase_after last; index = cond last 0 (raised index); seen = seen; info = Some i; before = None }; samples = 0; message = [] }

  pub goes_on : (last : Bool) (b : Block) (index : ℕ) (seen : Seen) → seen.stream_info ≡ true → came seen b ≡ false → (next (at_block index seen) (block last b) ≡ after last index (seen_after seen b)) × ((seen_after seen b).stream_info ≡ true)
  goes_on last (blocks.StreamInfo info) index seen first e = absurd (two seen.stream_info first e)
  goes_on last (blocks.Padding n) index seen first e = (refl, first)
  goes_on last (blocks.Application id bytes) index seen first e = (refl, first)
  goes_on last (blocks.SeekTable points) index seen first e = (refl, first)
  goes_on last (blocks.VorbisComment found) index seen first e = (refl, first)
  goes_on last (blocks.CueSheet found) index seen first e = (refl, first)
  goes_on last (blocks.Picture found) index seen first e = (refl, first)
  goes_on last (blocks.Other kind bytes) index seen first e = (refl, first)

  -- the blocks, where what follows them is there
  module _ (message : List ℕ) (items : List Piece) (text : List Bool) (there : (seen : Seen) (m : Mark) → m.unread ≡ 0 → Runs i message (after true 0 seen) m items text) where
    blocks_run : (b : Block) (bs : List Block) (index : ℕ) (seen : Seen) (m : Mark) → seen.stream_info ≡ true → m.unread ≡ 0 → list_fault seen (b ∷ bs) ≡ None → AllAre FitsFields (b ∷ bs)
        → Runs i message (at_block index seen) m (closing (b ∷ bs) ++ items) (blocks_spelling (b ∷ bs) ++ text)
    blocks_run b [] index seen m first z e fits =
        let faults = or_else_none (fault_after seen b) None e in
        let is = listed seen b first faults.0 fits.0 in
        let on = goes_on true b index seen first is.once in
        let u = fresh_unread m z in
        let whole = block_whole true b in
        let rest = subst (λ s. Runs i message s (past (block_spelling true b) (fresh m)) items text) (sym on.0) (there (seen_after seen b) (past (block_spelling true b) (fresh m)) (after_whole (block_spelling true b) (fresh m) u whole.bytes)) in
        let run = one_more i message (at_block index seen) m (block true b) items (block_spelling true b) text (block_by_layout (at_block index seen).stand (fresh m) true b refl is) tt rest in
        subst (λ t. Runs i message (at_block index seen) m (block true b ∷ items) (t ++ text)) (sym (append-nil (block_spelling true b))) run
    blocks_run b (c ∷ cs) index seen m first z e fits =
        let faults = or_else_none (fault_after seen b) _ e in
        let is = listed seen b first faults.0 fits.0 in
        let on = goes_on false b index seen first is.once in
        let u = fresh_unread m z in
        let whole = block_whole false b in
        let more = blocks_run c cs (raised index) (seen_after seen b) (past (block_spelling false b) (fresh m)) on.1 (after_whole (block_spelling false b) (fresh m) u whole.bytes) faults.1 fits.1 in
        let rest = subst (λ s. Runs i message s (past (block_spelling false b) (fresh m)) (closing (c ∷ cs) ++ items) (blocks_spelling (c ∷ cs) ++ text)) (sym on.0) more in
        let run = one_more i message (at_block index seen) m (block false b) (closing (c ∷ cs) ++ items) (block_spelling false b) (blocks_spelling (c ∷ cs) ++ text) (block_by_layout (at_block index seen).stand (fresh m) false b refl is) tt rest in
        subst (λ t. Runs i message (at_block index seen) m (closing (b ∷ c ∷ cs) ++ items) t) (sym (append_assoc (block_spelling false b) (blocks_spelling (c ∷ cs)) text)) run

    -- after the marker
    abbrev unread_stand : Progress
    unread_stand = record { stand = record { profile = profile; phase = Blocks; index = 0; seen = nothing_seen; info = None; before = None }; samples = 0; message = [] }

    pub info_run : (list : List Block) (m : Mark) → m.unread ≡ 0 → IsInfo i → list_fault info_seen list ≡ None → AllAre FitsFields list
        → Runs i message unread_stand m (closing (blocks.StreamInfo i ∷ list) ++ items) (blocks_spelling (blocks.StreamInfo i ∷ list) ++ text)
    info_run [] m z is e fits =
        let b = blocks.StreamInfo i in
        let u = fresh_unread m z in
        let whole = block_whole true b in
        let valid : IsBlock nothing_seen b = record { first = λ h. refl; once = refl; written = refl; fits = is } in
        let rest = there info_seen (past (block_spelling true b) (fresh m)) (after_whole (block_spelling true b) (fresh m) u whole.bytes) in
        let run = one_more i message unread_stand m (block true b) items (block_spelling true b) text (block_by_layout unread_stand.stand (fresh m) true b refl valid) tt rest in
        subst (λ t. Runs i message unread_stand m (block true b ∷ items) (t ++ text)) (sym (append-nil (block_spelling true b))) run
    info_run (c ∷ cs) m z is e fits =
        let b = blocks.StreamInfo i in
        let u = fresh_unread m z in
        let whole = block_whole false b in
        let valid : IsBlock nothing_seen b = record { first = λ h. refl; once = refl; written = refl; fits = is } in
        let rest = blocks_run c cs (raised 0) info_seen (past (block_spelling false b) (fresh m)) refl (after_whole (block_spelling false b) (fresh m) u whole.bytes) e fits in
        let run = one_more i message unread_stand m (block false b) (closing (c ∷ cs) ++ items) (block_spelling false b) (blocks_spelling (c ∷ cs) ++ text) (block_by_layout unread_stand.stand (fresh m) false b refl valid) tt rest in
        subst (λ t. Runs i message unread_stand m (closing (b ∷ c ∷ cs) ++ items) t) (sym (append_assoc (block_spelling false b) (blocks_spelling (c ∷ cs)) text)) run

-- ---- the marker

pub marker_here : (profile : Profile) (m : Mark) → Spells (layout (opening profile).stand) m (unsigned 32 0x664C6143) marked
unfolding layout marker
marker_here profile m =
    let text = unsigned 32 0x664C6143 in
    let e = sym (append-nil text) in
    (tt, text, [], e, (0x664C6143, text, [], e, (omega arith, refl), (refl, (refl, tt))), (refl, refl))

-- ---- the end

total_kept : (t s : ℕ) → s ≡ t → (not (nat_eq t 0) && not (nat_eq t s)) ≡ false
total_kept t s e = grind (arith, nat_tests)

digest_kept : (b : Bool) (d e : List ℕ) → d ≡ e → (not b && not (bytes_eq d e)) ≡ false
digest_kept true d e is = refl
digest_kept false d e is = ap not ((bytes_eq-Decides d e).1 is)

may_end : (i : Info) (message : List ℕ) (q : Progress) → Ended i message q → may_end_in q.stand.phase q.stand.info ≡ true
may_end i message q e = rw (e.phase, e.info) refl

ends_well : (i : Info) (message : List ℕ) (q : Progress) → Ended i message q → i.digest ≡ md5 message → AllKept (end_rules q.stand.info q.samples q.message)
unfolding end_rules
ends_well i message q e is = rw (e.info, e.message) (total_kept i.total q.samples e.samples, (digest_kept (is_unknown i.digest) i.digest (md5 message) is, tt))

-- ---- the whole

no_samples : (b total : ℕ) → min total (b * 0) ≡ 0
no_samples b total = omega arith

pub least_small : (p : Cut) (a : Sound) (frames : List (List Bool)) (least greatest : ℕ) → AreFrames p a frames → AreSizes frames least greatest → (least < 2 ^ 24) × (greatest < 2 ^ 24)
least_small p a [] least greatest f s = (omega (arith, (s.none refl).0), omega (arith, (s.none refl).1))
least_small p a (t ∷ ts) least greatest f s =
    let l = s.least_is (omega arith) in
    let g = s.greatest_is (omega arith) in
    (omega (arith, l.2, (f.each l.0 l.1).short), omega (arith, g.2, (f.each g.0 g.1).short))

pub encoded_are_streams : EncodedAreStreams
unfolding rows_bytes
encoded_are_streams p list a least greatest frames planned_is fits listed_is fields f s =
    let q = planned p planned_is in
    let k = fit p a fits in
    let small = least_small p a frames least greatest f s in
    let i = info_of p a least greatest in
    let message = sound_message a in
    let is : IsInfo i = record { rules = keeps_rules p a least greatest q k small.0 small.1; digest = digest_is_bytes message } in
    let b = p.block_size in
    let width = sample_width a.bits in
    let items = map framed (frames_from b a (length frames) 0) in
    let there : (seen : Seen) (m : Mark) → m.unread ≡ 0 → Runs i message (after a.profile i true 0 seen) m items (joined frames) = λ seen m z.
    frames_run p a least greatest q k small.0 small.1 frames 0 0 0 seen None [] m z (omega (arith, f.many)) (λ more. inl refl) (sym (no_samples b (samples_each a.channels))) (sym (ap (λ n. rows_bytes width a.channels n 0) (no_samples b (samples_each a.channels)))) (λ j h. subst (λ n. SpellsFrame a (frame_of b a n) (slice_index_or frames j [])) (let e : j ≡ 0 + j = omega arith in e) (f.each j h)) in
    let start = beginning Truncated in
    let m = past (unsigned 32 0x664C6143) (fresh start) in
    let z : m.unread ≡ 0 = after_whole (unsigned 32 0x664C6143) (fresh start) refl refl in
    let r = one_more i message (opening a.profile) start marked (closing (blocks.StreamInfo i ∷ list) ++ items) (unsigned 32 0x664C6143) (blocks_spelling (blocks.StreamInfo i ∷ list) ++ joined frames) (marker_here a.profile (fresh start)) tt
    (info_run a.profile i message items (joined frames) there list m z is listed_is fields) in
    let all : Runs i message (opening a.profile) start (given p list a least greatest) (stream_spelling p list a least greatest frames) = subst (λ n. Runs i message (opening a.profile) start (marked ∷ (closing (blocks.StreamInfo i ∷ list) ++ map framed (frames_from b a n 0))) (stream_spelling p list a least greatest frames)) f.many r in
    subst (λ x. Stream grammar (opening x) (beginning Truncated) (given p list a least greatest) (stream_spelling p list a least greatest frames)) (sym k.profile)
    (record { spelled = all.0; ends = may_end i message _ all.1; kept = ends_well i message _ all.1 refl })
