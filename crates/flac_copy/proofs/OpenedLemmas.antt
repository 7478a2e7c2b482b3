-- A stream of blocks that were read and of frames that are left.
use Rattle.std.proofs.Common.{◌≡◌, ℕ, zero, suc, ◌/◌, ◌%◌, ◌<◌, Bool, true, false, not, ◌&&◌, List, [], ◌∷◌, ◌++◌, length, length-append, replicate, Option, Some, None, refl, sym, ap, subst, ◌∙◌, append-nil, add-zero, arith}
use Rattle.std.specs.List.{flat_map, list_all}
use Rattle.flac_bits.specs.Bits.{bits_of}
use Rattle.flac_bits.specs.State.{Mark}
use Rattle.flac_bits.specs.Meaning.{AllKept}
use Rattle.flac_bits.specs.Items.{Joined, Stream, state_after}
use Rattle.flac_bits.specs.declared.why.Why.TheVariants.{Truncated}
use Rattle.flac_bits.proofs.Holding.{bits_of-append}
use Rattle.flac_info.specs.Info.{Info, KeepsRules}
use Rattle.flac_meta.specs.declared.block.Block.{Block}
use Rattle.flac_meta.specs.declared.block.Block.TheVariants as blocks
use Rattle.flac_header.specs.declared.subset.Profile.{Profile}
use Rattle.flac_frame.specs.declared.before.Before.{Before}
use Rattle.flac_native.specs.Stream.{Progress, marked, grammar, opening, next, info_after, before_after_block}
use Rattle.flac_native.specs.Track.{is_after_blocks}
use Rattle.flac_native.specs.declared.track.Track.{Track}
use Rattle.flac_native.specs.declared.track.Phase.{Phase}
use Rattle.flac_native.specs.declared.track.Phase.TheVariants.{Opening, Blocks, Frames}
use Rattle.flac_pages.specs.Packets.{Place, Ahead, ahead, after_of, lacing_of}
use Rattle.flac_pages.specs.Given.{Takes, PacketsAhead}
use Rattle.flac_pages.proofs.PacketList.{packet_list}
use Rattle.flac_ogg.specs.Stream.{start, AreItems, OggStream, Contents}
use Rattle.flac_ogg.proofs.MeaningContents.{ahead_of, some_contents, contents_ahead, contents_stop}
use Rattle.flac_copy.specs.Frames.{Copied, AreFramesOf}
use Rattle.flac_copy.specs.Heads.{pieces, blocks_in, IsBegun, Leads, HasHeaders}
use Rattle.flac_copy.specs.Inputs.{bytes_in, PacketsEnd}
use Rattle.flac_copy.specs.Opened.{is_info, HasOneInfo, IsReady, frames_of}
use Rattle.flac_copy.specs.Parts.{Marked, piece}
use Rattle.flac_copy.proofs.FrameLemmas.{frames_joined, frame_items, state_append, may_end, items_append}

-- ---- after the blocks

-- between STREAMINFO and the first frame
record IsAfterInfo (profile : Profile) (info : Info) (p : Progress) : Type 0 where
  profile_is : p.stand.profile ≡ profile
  info_is : p.stand.info ≡ Some info
  before : p.stand.before ≡ None
  samples : p.samples ≡ 0
  message : p.message ≡ []

info_stays : (o : Option Info) (b : Block) → not (is_info b) ≡ true → info_after o b ≡ o
info_stays o (blocks.StreamInfo i) e = absurd cc
info_stays o (blocks.Padding n) e = refl
info_stays o (blocks.Application id bytes) e = refl
info_stays o (blocks.SeekTable points) e = refl
info_stays o (blocks.VorbisComment found) e = refl
info_stays o (blocks.CueSheet found) e = refl
info_stays o (blocks.Picture found) e = refl
info_stays o (blocks.Other kind bytes) e = refl

before_stays : (o : Option Before) (b : Block) → o ≡ None → before_after_block o b ≡ None
before_stays o (blocks.StreamInfo i) e = refl
before_stays o (blocks.Padding n) e = e
before_stays o (blocks.Application id bytes) e = e
before_stays o (blocks.SeekTable points) e = e
before_stays o (blocks.VorbisComment found) e = e
before_stays o (blocks.CueSheet found) e = e
before_stays o (blocks.Picture found) e = e
before_stays o (blocks.Other kind bytes) e = e

and_parts : (a b : Bool) → (a && b) ≡ true → (a ≡ true) × (b ≡ true)
and_parts true b e = (refl, e)
and_parts false b e = absurd cc

others_kept : (profile : Profile) (info : Info) (p : Progress) (parts : List Marked) → list_all (λ b. not (is_info b)) (blocks_in parts) ≡ true → IsAfterInfo profile info p → IsAfterInfo profile info (state_after grammar p (pieces parts))
others_kept profile info p [] none h = h
others_kept profile info p (x ∷ xs) none h =
    others_kept profile info (next p (piece x)) xs (and_parts (not (is_info x.block)) (list_all (λ b. not (is_info b)) (blocks_in xs)) none).1 (record {
      profile_is = h.profile_is;
      info_is = info_stays p.stand.info x.block (and_parts (not (is_info x.block)) (list_all (λ b. not (is_info b)) (blocks_in xs)) none).0 ∙ h.info_is;
      before = before_stays p.stand.before x.block h.before;
      samples = add-zero p.samples ∙ h.samples;
      message = append-nil p.message ∙ h.message;
    })

first_same : (x y : Block) (xs ys : List Block) → (x ∷ xs) ≡ (y ∷ ys) → (x ≡ y) × (xs ≡ ys)
first_same x y xs ys e = (cc, cc)

after_info : (profile : Profile) (info : Info) (parts : List Marked) → HasOneInfo info (blocks_in parts) → IsAfterInfo profile info (state_after grammar (start profile) (pieces parts))
after_info profile info [] one = absurd (let e = one.list_is in cc)
after_info profile info (x ∷ xs) one =
    let e = first_same x.block (blocks.StreamInfo info) (blocks_in xs) one.others one.list_is in
    others_kept profile info (next (start profile) (piece x)) xs (ap (λ (l : List Block). list_all (λ b. not (is_info b)) l) e.1 ∙ one.none) (record {
      profile_is = refl;
      info_is = ap (λ b. info_after None b) e.0;
      before = before_stays None x.block refl;
      samples = refl;
      message = refl;
    })

frames_next : (phase : Phase) → is_after_blocks phase ≡ true → phase ≡ Frames
frames_next Opening e = absurd cc
frames_next Blocks e = absurd cc
frames_next Frames e = refl

pub is_ready : (profile : Profile) (info : Info) (parts : List Marked) → HasOneInfo info (blocks_in parts) → is_after_blocks (state_after grammar (start profile) (pieces parts)).stand.phase ≡ true → KeepsRules info
    → IsReady profile info (state_after grammar (start profile) (pieces parts))
is_ready profile info parts one after rules =
    let h = after_info profile info parts one in
    record { profile_is = h.profile_is; phase = frames_next _ after; info_is = h.info_is; rules = rules; before = h.before; samples = h.samples; message = h.message }

pub ready_begun : (profile : Profile) (info : Info) (p : Progress) → IsReady profile info p → IsBegun p.stand
ready_begun profile info p r = record { opened = λ e. frames_open p.stand.phase r.phase e; rules = λ i e. subst KeepsRules (same_info info i (sym r.info_is ∙ e)) r.rules }
  where
    frames_open : (phase : Phase) → phase ≡ Frames → phase ≡ Opening → ⊥
    frames_open Frames e f = absurd cc
    frames_open Opening e f = absurd cc
    frames_open Blocks e f = absurd cc

    some_info : Info → Option Info
    some_info i = Some i

    same_info : (i j : Info) → some_info i ≡ some_info j → i ≡ j
    same_info i j e = cc

-- ---- a native stream

pub native_stream : (profile : Profile) (info : Info) (parts : List Marked) (frames : List Copied) (mark : Mark) (head : List ℕ) (all : List ℕ) → mark.unread ≡ 0 → all ≡ head ++ bytes_in frames → Leads (opening profile) (marked ∷ pieces parts) (bits_of head)
    → IsReady profile info (state_after grammar (start profile) (pieces parts)) → AreFramesOf Truncated (state_after grammar (start profile) (pieces parts)) frames
    → AllKept (grammar.at_end (state_after grammar (state_after grammar (start profile) (pieces parts)) (frames_of frames)))
    → Stream grammar (opening profile) mark (marked ∷ (pieces parts ++ frames_of frames)) (bits_of all)
native_stream profile info parts frames mark head all z split leads ready are kept =
    let p = state_after grammar (start profile) (pieces parts) in
    let text : bits_of all ≡ bits_of head ++ bits_of (bytes_in frames) = ap bits_of split ∙ bits_of-append head (bytes_in frames) in
    let state = state_append (start profile) (pieces parts) (frames_of frames) in
    record {
      spelled = subst (λ t. Joined grammar (opening profile) mark (marked ∷ (pieces parts ++ frames_of frames)) t) (sym text)
          (leads mark z (frames_of frames) (bits_of (bytes_in frames)) (λ k w. frames_joined p k frames ready.phase (ready_begun profile info p ready) w are));
      ends = ap (λ (q : Progress). grammar.may_end q) state ∙ may_end p info frames ready.phase ready.info_is;
      kept = subst (λ (q : Progress). AllKept (grammar.at_end q)) (sym state) kept;
    }

-- ---- an Ogg stream

takes_append : (p q r : Place) (xs ys : List (List ℕ)) → Takes p xs q → Takes q ys r → Takes p (xs ++ ys) r
takes_append p q r [] ys a b = subst (λ k. Takes k ys r) (sym a) b
takes_append p q r (x ∷ xs) ys (b, n, begins, rest, ended, after, more) c = (b, n, begins, rest, ended, after, takes_append n q r xs ys more c)

stop_of_after : (p : Place) → (after_of p).stop ≡ (ahead p).stop
unfolding after_of
stop_of_after p = refl

takes_stop : (p q : Place) (xs : List (List ℕ)) → p.known ≡ true → Takes p xs q → (ahead q).stop ≡ (ahead p).stop
takes_stop p q [] known same = ap (λ (k : Place). (ahead k).stop) (sym same)
takes_stop p q (x ∷ xs) known (b, n, begins, rest, ended, after, more) =
    takes_stop n q xs after.known more ∙ after.stop ∙ stop_of_after b ∙ ap (λ (a : Ahead). a.stop) (begins.ahead known)

laced : (packet : List ℕ) → 0 < length (lacing_of packet)
unfolding lacing_of
laced packet = omega (arith, length-append (replicate (length packet / 255) 255) (length packet % 255 ∷ []))

-- without a lacing value there is no packet
none_ahead : (a : Ahead) (packets : List (List ℕ)) (begun : List ℕ) → PacketsAhead a packets begun → a.lacing ≡ [] → (packets ≡ []) × (begun ≡ [])
none_ahead a [] begun h e = (refl, no_bytes begun (omega (arith, h.part, no_part h.full (sym h.lacing ∙ e))))
  where
    no_bytes : (xs : List ℕ) → length xs ≡ 0 → xs ≡ []
    no_bytes [] e = refl
    no_bytes (x ∷ xs) e = absurd cc

    no_part : (n : ℕ) → replicate {A = ℕ} n 255 ≡ [] → n ≡ 0
    no_part zero e = refl
    no_part (suc n) e = absurd cc
none_ahead a (x ∷ xs) begun h e =
    let l : a.lacing ≡ (lacing_of x ++ flat_map lacing_of xs) ++ replicate h.full 255 = h.lacing in
    absurd (omega (
      arith,
      laced x,
      ap (λ (k : List ℕ). length k) (sym e ∙ l),
      length-append (lacing_of x ++ flat_map lacing_of xs) (replicate h.full 255),
      length-append (lacing_of x) (flat_map lacing_of xs),
    ))

pub ogg_stream : (profile : Profile) (info : Info) (frames : List Copied) (mark : Mark) (text : List Bool) (t : Track) (p0 p1 : Place) (list : List Block) → ahead p0 ≡ ahead_of mark text → p0.known ≡ true
    → (h : HasHeaders (start profile) t p0 p1 [] list) → PacketsEnd p1 frames → IsReady profile info (state_after grammar (start profile) (pieces h.parts)) → AreFramesOf Truncated (state_after grammar (start profile) (pieces h.parts)) frames
    → AllKept (grammar.at_end (state_after grammar (state_after grammar (start profile) (pieces h.parts)) (frames_of frames)))
    → OggStream profile mark (pieces h.parts ++ frames_of frames) text
ogg_stream profile info frames mark text t p0 p1 list there known h end ready are kept =
    let p = state_after grammar (start profile) (pieces h.parts) in
    let c : Contents mark text = some_contents mark text in
    let all = h.packets ++ end.packets in
    let takes : Takes p0 all end.last = takes_append p0 p1 end.last h.packets end.packets h.taken end.taken in
    let ahead_is : PacketsAhead (ahead p0) c.packets c.begun = subst (λ (a : Ahead). PacketsAhead a c.packets c.begun) (sym there) (contents_ahead c) in
    let got = packet_list.taken p0 end.last all c.packets c.begun known ahead_is takes in
    let left = got.1 in
    let none = none_ahead (ahead end.last) left.0 c.begun left.2 end.ends.none in
    let packets_are : all ≡ c.packets = sym (left.1 ∙ ap (λ l. all ++ l) none.0 ∙ append-nil all) in
    let items : AreItems (start profile) all (pieces h.parts ++ frames_of frames) =
    items_append (start profile) h.packets end.packets (pieces h.parts) (frames_of frames) h.are (frame_items p end.packets frames end.bits ready.phase are) in
    let state = state_append (start profile) (pieces h.parts) (frames_of frames) in
    record {
      contents = c;
      no_fault = sym (contents_stop c) ∙ ap (λ (a : Ahead). a.stop) (sym there) ∙ sym (takes_stop p0 end.last all known takes) ∙ end.ends.no_fault;
      no_part = none.1;
      spelled = subst (λ l. AreItems (start profile) l (pieces h.parts ++ frames_of frames)) packets_are items;
      ends = ap (λ (q : Progress). grammar.may_end q) state ∙ may_end p info frames ready.phase ready.info_is;
      kept = subst (λ (q : Progress). AllKept (grammar.at_end q)) (sym state) kept;
    }
