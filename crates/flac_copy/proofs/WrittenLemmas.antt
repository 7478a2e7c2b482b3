-- A stream that was written with given blocks.
use Rattle.std.proofs.Common.{◌≡◌, ℕ, Bool, true, false, List, [], ◌∷◌, ◌++◌, ◌+◌, Option, None, Some, refl, sym, ap, subst, ◌∙◌, append_assoc, append-nil}
use Rattle.flac_bits.specs.Bits.{bits_of, unsigned}
use Rattle.flac_bits.specs.State.{Mark, past, fresh}
use Rattle.flac_bits.specs.Meaning.{AllKept}
use Rattle.flac_bits.specs.Items.{Joined, Stream, state_after}
use Rattle.flac_bits.specs.declared.source.Source as source
use Rattle.flac_bits.specs.declared.target.Target as target
use Rattle.flac_bits.specs.declared.why.Why.TheVariants.{Truncated}
use Rattle.flac_bits.proofs.Holding.{bits_of-append}
use Rattle.flac_bits.proofs.ItemSpellings.{fresh_unread, after_whole}
use Rattle.flac_info.specs.Info.{Info, KeepsRules}
use Rattle.flac_meta.specs.Header.{nothing_seen}
use Rattle.flac_meta.specs.Block.{seen_after}
use Rattle.flac_meta.specs.Listed.{fault_after, list_fault, info_seen}
use Rattle.flac_meta.specs.Spelling.{block_spelling}
use Rattle.flac_meta.specs.Valid.{AllAre, FitsFields, IsInfo, IsBlock}
use Rattle.flac_meta.specs.declared.block.Seen.{Seen}
use Rattle.flac_meta.specs.declared.block.Block.{Block}
use Rattle.flac_meta.specs.declared.block.Block.TheVariants as blocks
use Rattle.flac_meta.proofs.Listed.{listed, or_else_none}
use Rattle.flac_header.specs.declared.subset.Profile.{Profile}
use Rattle.flac_native.specs.Decoding.{beginning}
use Rattle.flac_native.specs.Given.{closing}
use Rattle.flac_native.specs.Stream.{Piece, Progress, marked, framed, grammar, opening, next, raised, end_rules, message_in}
use Rattle.flac_native.specs.Rewriting.{head_of}
use Rattle.flac_native.specs.Writing.{blocks_spelling, head_spelling}
use Rattle.flac_native.proofs.Streams.{at_block, after, goes_on, block_by_layout, marker_here}
use Rattle.flac_native.proofs.WholeBytes.{block_whole}
use Rattle.flac_copy.specs.Frames.{Copied, AreFramesOf}
use Rattle.flac_pages.specs.Placed.{stream_spelling}
use Rattle.flac_copy.specs.Copying.{CopiesFrames, is_of_blocks}
use Rattle.flac_copy.specs.Given.{IsHeadOf}
use Rattle.flac_copy.specs.Heads.{IsBegun}
use Rattle.flac_copy.specs.Inputs.{bytes_in}
use Rattle.flac_ogg.specs.declared.decoding.Fronted.{Fronted}
use Rattle.flac_copy.specs.Opened.{HasOneInfo, IsReady, Opens, fronted, frames_of}
use Rattle.flac_copy.specs.Outgoing.{pending_in, frames_placed, pages_to_come}
use Rattle.flac_copy.specs.ToOgg.{CopiesToOgg}
use Rattle.flac_copy.specs.Written.{StartsWith, AreHeadersOfCopy, WritesNative, BeginsOgg, WritesOgg, WritesAs, CopiesAs, IsUntouched}
use Rattle.flac_copy.specs.declared.fault.CopyFault.{CopyFault}
use Rattle.flac_copy.specs.declared.fault.CopyFault.TheVariants as faults
use Rattle.flac_copy.specs.declared.opened.Copying.{Copying}
use Rattle.flac_copy.specs.declared.outgoing.Outgoing.{Outgoing}
use Rattle.flac_copy.specs.declared.output.Output.TheVariants.{Native, Ogg}
use Rattle.flac_copy.proofs.FrameLemmas.{frames_joined, frames_after, state_append, may_end}
use Rattle.flac_copy.proofs.OggPages.{pages_all}

-- ---- the same frames after other blocks

-- the samples and their bytes count alike
alike : (p q : Progress) (frames : List Copied) → p.stand.info ≡ q.stand.info → p.samples ≡ q.samples → p.message ≡ q.message → AllKept (grammar.at_end (state_after grammar p (frames_of frames))) → AllKept (grammar.at_end (state_after grammar q (frames_of frames)))
alike p q [] info samples message kept =
    subst (λ m. AllKept (end_rules q.stand.info q.samples m)) message (subst (λ n. AllKept (end_rules q.stand.info n p.message)) samples (subst (λ i. AllKept (end_rules i p.samples p.message)) info kept))
alike p q (x ∷ xs) info samples message kept =
    alike (next p (framed x.frame)) (next q (framed x.frame)) xs info (ap (λ n. n + x.frame.size) samples)
    (ap (λ m. m ++ message_in p.stand.info (framed x.frame)) message ∙ ap (λ i. q.message ++ message_in i (framed x.frame)) info) kept

-- ---- a native stream of given blocks

module _ (profile : Profile) (i : Info) (items : List Piece) (text : List Bool) (there : (seen : Seen) (m : Mark) → m.unread ≡ 0 → Joined grammar (after profile i true 0 seen) m items text) where
  closing_joined : (b : Block) (bs : List Block) (index : ℕ) (seen : Seen) (m : Mark) → seen.stream_info ≡ true → m.unread ≡ 0 → list_fault seen (b ∷ bs) ≡ None → AllAre FitsFields (b ∷ bs)
      → Joined grammar (at_block profile i index seen) m (closing (b ∷ bs) ++ items) (blocks_spelling (b ∷ bs) ++ text)
  closing_joined b [] index seen m first z e fits =
      let faults = or_else_none (fault_after seen b) None e in
      let is = listed seen b first faults.0 fits.0 in
      let on = goes_on profile i true b index seen first is.once in
      let u = fresh_unread m z in (
        block_spelling true b,
        text,
        ap (λ t. t ++ text) (append-nil (block_spelling true b)),
        block_by_layout (at_block profile i index seen).stand (fresh m) true b refl is,
        tt,
        subst (λ s. Joined grammar s (past (block_spelling true b) (fresh m)) items text) (sym on.0) (there (seen_after seen b) (past (block_spelling true b) (fresh m)) (after_whole (block_spelling true b) (fresh m) u (block_whole true b).bytes)),
      )
  closing_joined b (c ∷ cs) index seen m first z e fits =
      let faults = or_else_none (fault_after seen b) _ e in
      let is = listed seen b first faults.0 fits.0 in
      let on = goes_on profile i false b index seen first is.once in
      let u = fresh_unread m z in
      let more = closing_joined c cs (raised index) (seen_after seen b) (past (block_spelling false b) (fresh m)) on.1 (after_whole (block_spelling false b) (fresh m) u (block_whole false b).bytes) faults.1 fits.1 in (
        block_spelling false b,
        blocks_spelling (c ∷ cs) ++ text,
        append_assoc (block_spelling false b) (blocks_spelling (c ∷ cs)) text,
        block_by_layout (at_block profile i index seen).stand (fresh m) false b refl is,
        tt,
        subst (λ s. Joined grammar s (past (block_spelling false b) (fresh m)) (closing (c ∷ cs) ++ items) (blocks_spelling (c ∷ cs) ++ text)) (sym on.0) more,
      )

  info_block : IsInfo i → IsBlock nothing_seen (blocks.StreamInfo i)
  info_block is = record { first = λ h. refl; once = refl; written = refl; fits = is }

  -- STREAMINFO and the others
  list_joined : (list : List Block) (m : Mark) → m.unread ≡ 0 → IsInfo i → list_fault info_seen list ≡ None → AllAre FitsFields list
      → Joined grammar (next (opening profile) marked) m (closing (blocks.StreamInfo i ∷ list) ++ items) (blocks_spelling (blocks.StreamInfo i ∷ list) ++ text)
  list_joined [] m z is e fits =
      let b = blocks.StreamInfo i in
      let u = fresh_unread m z in (
        block_spelling true b,
        text,
        ap (λ t. t ++ text) (append-nil (block_spelling true b)),
        block_by_layout (next (opening profile) marked).stand (fresh m) true b refl (info_block is),
        tt,
        there info_seen (past (block_spelling true b) (fresh m)) (after_whole (block_spelling true b) (fresh m) u (block_whole true b).bytes),
      )
  list_joined (c ∷ cs) m z is e fits =
      let b = blocks.StreamInfo i in
      let u = fresh_unread m z in (
        block_spelling false b,
        blocks_spelling (c ∷ cs) ++ text,
        append_assoc (block_spelling false b) (blocks_spelling (c ∷ cs)) text,
        block_by_layout (next (opening profile) marked).stand (fresh m) false b refl (info_block is),
        tt,
        closing_joined c cs (raised 0) info_seen (past (block_spelling false b) (fresh m)) refl (after_whole (block_spelling false b) (fresh m) u (block_whole false b).bytes) e fits,
      )

  head_joined : (list : List Block) (m : Mark) → m.unread ≡ 0 → IsInfo i → list_fault info_seen list ≡ None → AllAre FitsFields list
      → Joined grammar (opening profile) m (marked ∷ (closing (blocks.StreamInfo i ∷ list) ++ items)) (head_spelling i list ++ text)
  head_joined list m z is e fits =
      let marker = unsigned 32 0x664C6143 in
      let spelled = blocks_spelling (blocks.StreamInfo i ∷ list) in
      let u = after_whole marker (fresh m) (fresh_unread m z) refl in
      (marker, spelled ++ text, append_assoc marker spelled text, marker_here profile (fresh m), tt, list_joined list (past marker (fresh m)) u is e fits)

-- the state after given blocks
closing_state : (profile : Profile) (i : Info) (b : Block) (bs : List Block) (index : ℕ) (seen : Seen) → seen.stream_info ≡ true → list_fault seen (b ∷ bs) ≡ None → AllAre FitsFields (b ∷ bs)
    → (last : Seen) × (state_after grammar (at_block profile i index seen) (closing (b ∷ bs)) ≡ after profile i true 0 last)
closing_state profile i b [] index seen first e fits =
    let faults = or_else_none (fault_after seen b) None e in
    let is = listed seen b first faults.0 fits.0 in
    (seen_after seen b, (goes_on profile i true b index seen first is.once).0)
closing_state profile i b (c ∷ cs) index seen first e fits =
    let faults = or_else_none (fault_after seen b) _ e in
    let is = listed seen b first faults.0 fits.0 in
    let on = goes_on profile i false b index seen first is.once in
    let more = closing_state profile i c cs (raised index) (seen_after seen b) on.1 faults.1 fits.1 in
    (more.0, ap (λ s. state_after grammar s (closing (c ∷ cs))) on.0 ∙ more.1)

head_state : (profile : Profile) (i : Info) (list : List Block) → list_fault info_seen list ≡ None → AllAre FitsFields list
    → (last : Seen) × (state_after grammar (next (opening profile) marked) (closing (blocks.StreamInfo i ∷ list)) ≡ after profile i true 0 last)
head_state profile i [] e fits = (info_seen, refl)
head_state profile i (c ∷ cs) e fits = closing_state profile i c cs (raised 0) info_seen refl e fits

abbrev some_info : Info → Option Info
some_info i = Some i

same_info : (i j : Info) → some_info i ≡ some_info j → i ≡ j
same_info i j e = cc

after_begun : (profile : Profile) (i : Info) (seen : Seen) → KeepsRules i → IsBegun (after profile i true 0 seen).stand
after_begun profile i seen rules = record { opened = λ e. absurd cc; rules = λ j e. subst KeepsRules (same_info i j e) rules }

-- the given blocks and the frames are a native stream
pub native_written : (profile : Profile) (i : Info) (others : List Block) (frames : List Copied) (p : Progress) → IsReady profile i p → IsInfo i → list_fault info_seen others ≡ None → AllAre FitsFields others → AreFramesOf Truncated p frames
    → AllKept (grammar.at_end (state_after grammar p (frames_of frames)))
    → Stream grammar (opening profile) (beginning Truncated) (marked ∷ (closing (blocks.StreamInfo i ∷ others) ++ frames_of frames)) (head_spelling i others ++ bits_of (bytes_in frames))
native_written profile i others frames p ready is e fits are kept =
    let there : (seen : Seen) (m : Mark) → m.unread ≡ 0 → Joined grammar (after profile i true 0 seen) m (frames_of frames) (bits_of (bytes_in frames)) =
    λ seen m z. frames_joined (after profile i true 0 seen) m frames refl (after_begun profile i seen is.rules) z (frames_after p (after profile i true 0 seen) frames ready.profile_is ready.info_is ready.before are) in
    let head = head_state profile i others e fits in
    let q = after profile i true 0 head.0 in
    let state : state_after grammar (opening profile) (marked ∷ (closing (blocks.StreamInfo i ∷ others) ++ frames_of frames)) ≡ state_after grammar q (frames_of frames) =
    state_append (next (opening profile) marked) (closing (blocks.StreamInfo i ∷ others)) (frames_of frames) ∙ ap (λ s. state_after grammar s (frames_of frames)) head.1 in
    record {
      spelled = head_joined profile i (frames_of frames) (bits_of (bytes_in frames)) there others (beginning Truncated) refl is e fits;
      ends = ap (λ (s : Progress). grammar.may_end s) state ∙ may_end q i frames refl refl;
      kept = subst (λ (s : Progress). AllKept (grammar.at_end s)) (sym state) (alike p q frames ready.info_is ready.samples ready.message kept);
    }

-- a fault that is not of the blocks
pub untouched : {W : Type 0} (before after : W) (e : CopyFault) → is_of_blocks e ≡ false → IsUntouched e before after
untouched before after (faults.Input fault) other = tt
untouched before after (faults.Blocks why) other = absurd cc
untouched before after faults.Write other = tt

module _ {S W : Type 0} (g : source.Ghosts S) (h : target.Ghosts W) where
  -- the head was sent, and then all frames
  pub sends_native : (c : Copying S) (given : List Block) (head : List ℕ) (w0 w1 end : W) → IsHeadOf c.info given head → (h.known w0 ≡ true → h.known w1 ≡ true) → (h.known w0 ≡ true → h.sent w1 ≡ h.sent w0 ++ head)
      → CopiesFrames g h c.track c.input Native w1 end → WritesNative g h c given w0 end
  sends_native c given head w0 w1 end is stays sent copies known sends p at =
      let all = copies known (stays sends) p at in
      let head_is : bits_of head ≡ head_of given = is.bits ∙ ap head_of (sym is.first) in
      record {
        frames = all.frames;
        come = all.come;
        first = (is.others, is.first);
        sent = all.sent ∙ ap (λ l. l ++ bits_of (bytes_in all.frames)) (ap bits_of (sent sends) ∙ bits_of-append (h.sent w0) head ∙ ap (λ l. bits_of (h.sent w0) ++ l) head_is)
            ∙ append_assoc (bits_of (h.sent w0)) (head_of given) (bits_of (bytes_in all.frames));
        stream = λ profile ready.
            subst (λ l. Stream grammar (opening profile) (beginning Truncated) (marked ∷ (closing l ++ frames_of all.frames)) (head_of l ++ bits_of (bytes_in all.frames))) (sym is.first)
            (native_written profile c.info is.others all.frames p ready is.is_info is.may is.fits all.come.are all.come.kept);
      }

  -- the header packets were begun, and then all frames were written
  pub sends_ogg : (serial : ℕ) (c : Copying S) (given : List Block) (o : Outgoing) (w0 w1 end : W) → StartsWith c.info given → BeginsOgg h serial c.info given (pending_in o) w0 w1
      → CopiesFrames g h c.track c.input (Ogg o) w1 end → WritesOgg g h serial c given w0 end
  sends_ogg serial c given o w0 w1 end first begins copies known sends p at =
      let all = copies known (begins.known sends) p at in
      let pages : begins.written ++ pages_to_come (pending_in o) all.frames ≡ stream_spelling o.serial (begins.packets ++ frames_placed o.samples all.frames) =
      pages_all begins.packets _ _ (pending_in o) all.frames begins.written begins.are.texts begins.pages in
      record {
        frames = all.frames;
        come = all.come;
        first = first;
        packets = begins.packets;
        headers = begins.are;
        sent = all.sent ∙ ap (λ l. l ++ pages_to_come (pending_in o) all.frames) (begins.sent sends) ∙ append_assoc (bits_of (h.sent w0)) begins.written (pages_to_come (pending_in o) all.frames)
            ∙ ap (λ l. bits_of (h.sent w0) ++ l) pages ∙ ap (λ n. bits_of (h.sent w0) ++ stream_spelling n (begins.packets ++ frames_placed o.samples all.frames)) begins.number
            ∙ ap (λ n. bits_of (h.sent w0) ++ stream_spelling serial (begins.packets ++ frames_placed n all.frames)) begins.none;
      }

-- a stream was opened, and its own blocks were written in Ogg
pub copies_to_ogg : {S W : Type 0} (g : source.Ghosts S) (h : target.Ghosts W) (serial : ℕ) (profile : Profile) (s : S) (list given : List Block) (c : Copying (Fronted S)) (w0 w1 : W) → given ≡ list → Opens g profile s list c
    → WritesOgg (fronted g) h serial c given w0 w1 → CopiesToOgg g h serial profile s w0 w1
copies_to_ogg g h serial profile s list given c w0 w1 same opens writes known sends =
    let o = opens known in
    let w = writes o.known sends o.state o.at in
    record {
      parts = o.parts;
      info = c.info;
      first = subst (HasOneInfo c.info) o.list_is o.first;
      frames = w.frames;
      input = o.stream w.frames w.come;
      state = o.state;
      ready = o.ready;
      are = w.come.are;
      packets = w.packets;
      headers = subst (λ l. AreHeadersOfCopy c.info l w.packets) (same ∙ o.list_is) w.headers;
      sent = w.sent;
    }

-- a stream was opened, and its own blocks were written in this container
pub copies_as : {S W : Type 0} (g : source.Ghosts S) (h : target.Ghosts W) (serial : Option ℕ) (profile : Profile) (s : S) (list given : List Block) (c : Copying (Fronted S)) (w0 w1 : W) → given ≡ list → Opens g profile s list c
    → WritesAs (fronted g) h serial c given w0 w1 → CopiesAs g h serial profile s w0 w1
copies_as g h None profile s list given c w0 w1 same opens writes known sends =
    let o = opens known in
    let w = writes o.known sends o.state o.at in
    let blocks_are = same ∙ o.list_is in
    record {
      parts = o.parts;
      info = c.info;
      first = subst (HasOneInfo c.info) o.list_is o.first;
      frames = w.frames;
      input = o.stream w.frames w.come;
      state = o.state;
      ready = o.ready;
      are = w.come.are;
      adds = (
        w.sent ∙ ap (λ l. bits_of (h.sent w0) ++ (head_of l ++ bits_of (bytes_in w.frames))) blocks_are,
        subst (λ l. Stream grammar (opening profile) (beginning Truncated) (marked ∷ (closing l ++ frames_of w.frames)) (head_of l ++ bits_of (bytes_in w.frames))) blocks_are (w.stream profile o.ready),
      );
    }
copies_as g h (Some serial) profile s list given c w0 w1 same opens writes known sends =
    let o = opens known in
    let w = writes o.known sends o.state o.at in
    record {
      parts = o.parts;
      info = c.info;
      first = subst (HasOneInfo c.info) o.list_is o.first;
      frames = w.frames;
      input = o.stream w.frames w.come;
      state = o.state;
      ready = o.ready;
      are = w.come.are;
      adds = (w.packets, subst (λ l. AreHeadersOfCopy c.info l w.packets) (same ∙ o.list_is) w.headers, w.sent);
    }
