-- A draft in Ogg, from the header packets to the last.
use Rattle.std.proofs.Common.{◌≡◌, ℕ, zero, suc, ◌+◌, ◌*◌, ◌/◌, ◌%◌, ◌^◌, ◌<◌, min, max, ℤ, Bool, true, false, Option, Some, None, List, [], ◌∷◌, ◌++◌, length, length-append, append_assoc, map, take, drop, get_or, replicate, refl, sym, ap, subst, ◌∙◌, arith}
use Rattle.std.specs.List.{All, flat_map, range_with_len}
use Rattle.std.specs.Option.{option_or}
use Rattle.std.specs.Prelude.{cond, option_map}
use Rattle.std.proofs.lemmas.List.{append-nil, length-take, length-drop, length-map, length-replicate, take_at}
use Rattle.std.proofs.lemmas.List.Concat.{flat_map-cons}
use Rattle.std.proofs.lemmas.List.Elements.{All-append, All-head, All-tail, All-cons}
use Rattle.std.specs.Int.{to_le_bytes, w32, w64}
use Rattle.flac_bits.specs.Bits.{bits_of, is_nil}
use Rattle.flac_bits.specs.Forms.{AreBytes, IsBytes}
use Rattle.flac_bits.specs.declared.target.Target as target
use Rattle.flac_bits.proofs.Fencing.{take_bits}
use Rattle.flac_bits.proofs.Holding.{length-bits_of, bits_of-append}
use Rattle.flac_info.specs.Info.{Info}
use Rattle.flac_meta.specs.Listed.{list_fault, info_seen}
use Rattle.flac_meta.specs.Spelling.{block_spelling}
use Rattle.flac_meta.specs.Valid.{AllAre, FitsFields}
use Rattle.flac_meta.specs.declared.block.Block.{Block}
use Rattle.flac_meta.specs.declared.block.Block.TheVariants.{StreamInfo}
use Rattle.flac_subframe.specs.declared.format.linear.LinearPredictor.{LinearPredictor}
use Rattle.flac_frame.specs.Audio.{Sound, samples_each}
use Rattle.flac_native.specs.Given.{Cut, with_predictors, with_found, blocks_in, info_of, sound_message}
use Rattle.flac_native.specs.Message.{sample_width, rows_bytes, Feeds}
use Rattle.flac_native.specs.Writing.{SpellsFrame, AreFrames, AreLeastFrames}
use Rattle.flac_native.specs.declared.fault.EncodeFault.TheVariants.{BadMapping, Setup}
use Rattle.flac_native.proofs.Digests.{digest_is_bytes}
use Rattle.flac_native.proofs.Gathered.{snoc}
use Rattle.flac_native.proofs.WholeBytes.{length-joined}
use Rattle.flac_pages.specs.declared.writing.PacketKind.{PacketKind}
use Rattle.flac_pages.specs.declared.writing.PacketKind.TheVariants.{Header, Frame}
use Rattle.flac_pages.specs.declared.writing.PacketMarks.{PacketMarks}
use Rattle.flac_pages.specs.Page.{Page, page_spelling}
use Rattle.flac_pages.specs.Packets.{lacing_of}
use Rattle.flac_pages.specs.Placed.{Placed, IsPlaced, marks_of, sequence_after, pages_from, stream_spelling}
use Rattle.flac_pages.specs.Written.{page_at, packet_spelling}
use Rattle.flac_ogg.specs.Headers.{AreHeadersOf}
use Rattle.flac_ogg.specs.Held.{open_from, ArePages}
use Rattle.flac_ogg.specs.Listed.{texts_of, kinds_in}
use Rattle.flac_ogg.specs.Native.{mapping_spelling, block_spellings, packet_spellings}
use Rattle.flac_ogg.specs.Writing.{header_count, frames_to, begins_with_comment, EncodesOgg}
use Rattle.flac_ogg.specs.declared.headers.Headers.{Headers}
use Rattle.flac_ogg.proofs.Headed.{alone}
use Rattle.flac_ogg.proofs.Listing.{texts_append, kinds_append}
use Rattle.flac_ogg.proofs.NativeFrames.{encoded_are_ogg_items}
use Rattle.flac_ogg.proofs.OpenPages.{pages_more}
use Rattle.flac_ogg.proofs.Packing.{mapping_long, count_blocks}
use Rattle.flac_ogg.proofs.SentPackets.{first_packet}
use Rattle.flac_ogg.proofs.Whole.{block_long, count_small, ogg_stream}
use Rattle.flac_predict.specs.declared.search.Search.{Search}
use Rattle.flac_encoder.specs.Pushing.{Shape, Pushed, unpushed, after_block, with_target, shape_fault, open_info, sound_of, frame_with, SpellsLeastFound}
use Rattle.flac_encoder.specs.PushingOgg.{frame_pages, open_fault}
use Rattle.md5.specs.Md5.{Holds, md5}
use Rattle.md5.specs.declared.Md5.{Md5}
use Rattle.flac_draft.specs.Table.{Table, no_table}
use Rattle.flac_draft.specs.Draft.{AreLeastFound, IsNextBlock, HasAll, sound_for, cut_for, plan_for}
use Rattle.flac_draft.specs.OggDraft.{OggDraft, trying_draft, searching_draft, OggDrafts, StaysOggDraft, EncodesOggFound}
use Rattle.flac_draft.specs.inner.Ending.{header_packet, IsFirstPage, EndsAs}
use Rattle.flac_draft.specs.inner.Gathering.{info_with, least_after}
use Rattle.flac_draft.proofs.FoundLists.{found_for}
use Rattle.flac_draft.proofs.Gathered.{gathers_none, gathers_trying, gathers_searching, gathers_more, all_came, info_known}
use Rattle.flac_draft.proofs.Heads.{written_bits}
use Rattle.flac_draft.proofs.Planned.{planned_for, fits_for, none_fits}

-- ---- an encoder of these parts

abbrev pub ogg_of : {R S : Type 0} → Pushed R → S → List Block → Md5 → (least greatest start serial sequence : ℕ) → (middle last : List ℕ) → OggDraft S
ogg_of b t list h least greatest start serial sequence middle last = record {
  draft = record { pushed = with_target b t; list = list; hasher = h; least = least; greatest = greatest; start = start; table = no_table };
  serial = serial;
  sequence = sequence;
  middle = middle;
  last = last;
}

-- ---- the first page

-- the packet of the mapping and STREAMINFO has 51 bytes
first_long : (info : Info) (list : List Block) (packet : List ℕ) → IsBytes 16 info.digest → bits_of packet ≡ mapping_spelling (header_count (length list)) ++ block_spelling (is_nil list) (StreamInfo info) → length packet ≡ 51
first_long info list packet digest is =
    let mapping = mapping_spelling (header_count (length list)) in
    let block = block_spelling (is_nil list) (StreamInfo info) in
    omega (arith, length-bits_of packet, ap (λ (k : List Bool). length k) is, length-append mapping block, mapping_long (header_count (length list)), block_long (is_nil list) info digest)

page_bits : (p : Page) → length p.lacing ≡ 1 → length p.body ≡ 51 → length (page_spelling p) ≡ 632
unfolding page_spelling
page_bits p few small =
    let parts =
    bits_of (0x4F ∷ 0x67 ∷ 0x67 ∷ 0x53 ∷ 0 ∷ p.head.flags ∷ []) ∷ bits_of (to_le_bytes w64 p.head.granule) ∷ bits_of (to_le_bytes w32 p.head.serial) ∷
    bits_of (to_le_bytes w32 p.head.sequence) ∷ bits_of (to_le_bytes w32 p.head.sum) ∷ bits_of (length p.lacing ∷ []) ∷ bits_of p.lacing ∷ bits_of p.body ∷ [] in
    omega (
      arith,
      length-joined parts,
      length-bits_of (0x4F ∷ 0x67 ∷ 0x67 ∷ 0x53 ∷ 0 ∷ p.head.flags ∷ []),
      length-bits_of (to_le_bytes w64 p.head.granule),
      length-bits_of (to_le_bytes w32 p.head.serial),
      length-bits_of (to_le_bytes w32 p.head.sequence),
      length-bits_of (to_le_bytes w32 p.head.sum),
      length-bits_of (length p.lacing ∷ []),
      length-bits_of p.lacing,
      length-bits_of p.body,
      few,
      small,
    )

-- its page has 79
page_long : (m : PacketMarks) (packet : List ℕ) → length packet ≡ 51 → length (packet_spelling m packet) ≡ 632
unfolding packet_spelling lacing_of
page_long m packet long =
    let f : ℕ → List Bool = λ k. page_spelling (page_at m packet k) in
    let one : length packet / 65025 + 1 ≡ 1 = omega (arith, long) in
    let all : flat_map f (range_with_len 0 (length packet / 65025 + 1)) ≡ f 0 ++ [] = ap (λ n. flat_map f (range_with_len 0 n)) one ∙ flat_map-cons f 0 [] in
    let values = lacing_of packet in
    let full : ℕ = 255 in
    let some : length values ≡ 1 = omega (arith, length-append (replicate (length packet / 255) full) (length packet % 255 ∷ []), length-replicate (length packet / 255) full, long) in
    let lacing : length (take 255 (drop (255 * 0) values)) ≡ 1 = omega (arith, length-take 255 (drop (255 * 0) values), length-drop (255 * 0) values, some) in
    let body : length (take 65025 (drop (65025 * 0) packet)) ≡ 51 = omega (arith, length-take 65025 (drop (65025 * 0) packet), length-drop (65025 * 0) packet, long) in
    ap (λ (t : List Bool). length t) (all ∙ append-nil (f 0)) ∙ page_bits (page_at m packet 0) lacing body

-- the first kind of header packets and others
first_kind : (n : ℕ) (k : PacketKind) (ks more : List PacketKind) → k ∷ ks ≡ replicate (n + 1) Header ++ more → k ≡ Header
first_kind n k ks more e = let up : n + 1 ≡ suc n = omega arith in ap (λ (l : List PacketKind). get_or l 0 Header) (e ∙ ap (λ m. replicate m Header ++ more) up)

-- the same packet
as_header : (q : Placed) → q.kind ≡ Header → q ≡ header_packet q.packet
as_header q e = ap (λ (k : PacketKind). record { packet = q.packet; kind = k }) e

-- the first page of header packets
pub page_of_headers : (serial : ℕ) (info : Info) (list : List Block) (h : Headers) (page : List ℕ) → h.serial ≡ serial → IsBytes 16 info.digest → AreHeadersOf info list h → page ≡ take 79 (h.sent.items ++ h.held.middle.items) → IsFirstPage serial info list page
page_of_headers serial info list h page same digest are is = go are.packets are.texts_are are.kinds_are are.good are.pages.middle_is
  where
    count : ℕ
    count = header_count (length list)

    many : length (packet_spellings count info list []) ≡ length list + 1
    many = omega (arith, length-append (block_spellings list) [], count_blocks list)

    go : (packets : List Placed) → texts_of packets ≡ packet_spellings count info list [] → kinds_in packets ≡ replicate (length (packet_spellings count info list [])) Header → All IsPlaced packets
        → bits_of h.sent.items ++ bits_of h.held.middle.items ≡ open_from h.serial 0 true packets → IsFirstPage serial info list page
    go [] texts kinds good pages = absurd (omega (arith, ap (λ (x : List (List Bool)). length x) texts))
    go (q ∷ qs) texts kinds good pages =
        let text : bits_of q.packet ≡ mapping_spelling count ++ block_spelling (is_nil list) (StreamInfo info) = ap (λ (t : List (List Bool)). get_or t 0 []) texts in
        let kind = first_kind (length list) q.kind (kinds_in qs) [] (kinds ∙ ap (λ n. replicate n Header) many ∙ sym (append-nil (replicate (length list + 1) Header))) in
        let m = marks_of h.serial 0 true false q in
        let rest = open_from h.serial (sequence_after 0 q.packet) false qs in
        let all : bits_of (h.sent.items ++ h.held.middle.items) ≡ packet_spelling m q.packet ++ rest = bits_of-append h.sent.items h.held.middle.items ∙ pages in
        let long = page_long m q.packet (first_long info list q.packet digest text) in
        record {
          packet = q.packet;
          small = (All-head IsPlaced q qs good).bytes;
          text = text;
          is = ap bits_of is ∙ sym (take_bits 79 (h.sent.items ++ h.held.middle.items)) ∙ ap (take 632) all ∙ take_at (packet_spelling m q.packet) rest 632 long
              ∙ ap (λ (p : Placed). packet_spelling (marks_of h.serial 0 true false p) q.packet) (as_header q kind) ∙ ap (λ n. packet_spelling (marks_of n 0 true false (header_packet q.packet)) q.packet) same;
        }

-- ---- at first

commented : (b : Bool) → cond b None (Some BadMapping) ≡ None → b ≡ true
commented true e = refl
commented false e = absurd cc

-- the list begins with a Vorbis comment
pub has_comment : (s : Shape) (list : List Block) → shape_fault s ≡ None → open_fault s list ≡ None → begins_with_comment list ≡ true
has_comment s list shape e = commented (begins_with_comment list) (ap (λ o. option_or (option_map Setup o) (cond (begins_with_comment list) None (Some BadMapping))) (sym shape) ∙ e)

pub ogg_none : {S : Type 0} (g : target.Ghosts S) (samples : List (List ℤ)) (before : List Bool) (s : Shape) (t : S) (list : List Block) (h : Md5) (start serial : ℕ) (headers : Headers) → shape_fault s ≡ None → list_fault info_seen list ≡ None
    → AllAre FitsFields list → begins_with_comment list ≡ true → serial < 2 ^ 32 → headers.serial ≡ serial → AreHeadersOf (open_info s) list headers → length samples ≡ s.channels → Holds h [] → length before ≡ 8 * start
    → bits_of (g.sent t) ≡ before ++ bits_of headers.sent.items
    → OggDrafts g samples before (record {
      draft = record { pushed = unpushed s t; list = list; hasher = h; least = 0; greatest = 0; start = start; table = no_table };
      serial = serial;
      sequence = headers.held.next;
      middle = headers.held.middle.items;
      last = headers.held.last.items;
    })
ogg_none g samples before s t list h start serial headers shape listed fields comment small same are channels held far sent =
    let many : length (packet_spellings (header_count (length list)) (open_info s) list []) ≡ length list + 1 = omega (arith, length-append (block_spellings list) [], count_blocks list) in
    record {
      frames = [];
      gathers = gathers_none samples s t list h start no_table shape listed fields channels held;
      table = refl;
      comment = comment;
      small = small;
      packets = are.packets;
      texts = are.texts_are;
      kinds = are.kinds_are ∙ ap (λ n. replicate n Header) many ∙ sym (append-nil (replicate (length list + 1) Header));
      good = are.good;
      written = bits_of headers.sent.items;
      pages = subst (λ n. ArePages n are.packets (bits_of headers.sent.items) (bits_of headers.held.middle.items) (bits_of headers.held.last.items) headers.held.next) same are.pages;
      start = far;
      sent = sent;
    }

-- ---- what is tried

module _ {S : Type 0} (g : target.Ghosts S) (d : OggDraft S) where
  pub ogg_trying : (ps : List LinearPredictor) → StaysOggDraft g d (trying_draft d ps)
  ogg_trying ps none samples before o = record {
    frames = o.frames;
    gathers = gathers_trying samples o.frames d.draft none o.gathers ps;
    table = o.table;
    comment = o.comment;
    small = o.small;
    packets = o.packets;
    texts = o.texts;
    kinds = o.kinds;
    good = o.good;
    written = o.written;
    pages = o.pages;
    start = o.start;
    sent = o.sent;
  }

  pub ogg_searching : (search : Option Search) → StaysOggDraft g d (searching_draft d search)
  ogg_searching search none samples before o = record {
    frames = o.frames;
    gathers = gathers_searching samples o.frames d.draft none o.gathers search;
    table = o.table;
    comment = o.comment;
    small = o.small;
    packets = o.packets;
    texts = o.texts;
    kinds = o.kinds;
    good = o.good;
    written = o.written;
    pages = o.pages;
    start = o.start;
    sent = o.sent;
  }

-- ---- one more block

pages_next : (serial n m : ℕ) (packets : List Placed) (q : Placed) (written middle last middle' last' : List Bool) → 0 < length packets → ArePages serial packets written middle last n
    → middle' ≡ packet_spelling (marks_of serial n false false q) q.packet → last' ≡ packet_spelling (marks_of serial n false true q) q.packet → m ≡ sequence_after n q.packet → ArePages serial (packets ++ q ∷ []) (written ++ middle) middle' last' m
pages_next serial n m [] q written middle last middle' last' some h middle_is last_is next = absurd (omega (arith, some))
pages_next serial n m (p ∷ ps) q written middle last middle' last' some h middle_is last_is next = pages_more serial n m p ps q written middle last middle' last' h middle_is last_is next

-- as many packets as texts
as_many : (packets : List Placed) (texts : List (List Bool)) → texts_of packets ≡ texts → length packets ≡ length texts
as_many packets texts e = omega (arith, ap (λ (x : List (List Bool)). length x) e, length-map (map (λ q. q.packet) packets) bits_of, length-map packets (λ q. q.packet))

module _ {S : Type 0} (g : target.Ghosts S) (samples block : List (List ℤ)) (before : List Bool) (d : OggDraft S) (t : S) (h : Md5) (packet : List ℕ) (sequence : ℕ) (middle last : List ℕ) where
  abbrev pub ogg_drafted : OggDraft S
  ogg_drafted = record {
    draft = record {
      pushed = after_block d.draft.pushed (samples_each block) t;
      list = d.draft.list;
      hasher = h;
      least = least_after d.draft.pushed.samples d.draft.least (length packet);
      greatest = max d.draft.greatest (length packet);
      start = d.draft.start;
      table = d.draft.table;
    };
    serial = d.serial;
    sequence = sequence;
    middle = middle;
    last = last;
  }

  pub ogg_more : OggDrafts g samples before d → IsNextBlock d.draft samples block → d.draft.pushed.number < 2 ^ 31 → d.draft.pushed.samples + samples_each block < 2 ^ 36 → AreBytes packet
      → SpellsFrame (sound_of d.draft.pushed.shape block) (frame_with d.draft.pushed.number block) (bits_of packet)
      → SpellsLeastFound d.draft.pushed.search d.draft.pushed.predictors (sound_of d.draft.pushed.shape block) (frame_with d.draft.pushed.number block) (bits_of packet)
      → Feeds d.draft.hasher (rows_bytes (sample_width d.draft.pushed.shape.bits) block (samples_each block) 0) h → sequence ≡ sequence_after d.sequence packet
      → bits_of middle ≡ frame_pages d.serial d.sequence (d.draft.pushed.samples + samples_each block) false packet → bits_of last ≡ frame_pages d.serial d.sequence (d.draft.pushed.samples + samples_each block) true packet
      → g.sent t ≡ g.sent d.draft.pushed.target ++ d.middle → OggDrafts g samples before ogg_drafted
  ogg_more o next few small bytes spells least feeds next_page middle_is last_is sent =
      let e = d.draft in
      let b = e.pushed.shape.block_size in
      let n = e.pushed.number in
      let total = samples_each samples in
      let text = bits_of packet in
      let end = e.pushed.samples + samples_each block in
      let q : Placed = record { packet = packet; kind = Frame end } in
      let k = gathers_more samples block o.frames e t h packet e.table o.gathers next few spells least feeds in
      let up : n + 1 ≡ suc n = omega arith in
      let ends : end ≡ min total (b * suc n) = k.count ∙ ap (λ m. min total (b * m)) up in
      let headers = replicate (length e.list + 1) Header in
      let some : 0 < length o.packets = omega (arith, as_many o.packets _ o.texts) in
      let spelled = packet_spellings (header_count (length e.list)) (open_info e.pushed.shape) e.list in
      record {
        frames = snoc o.frames text;
        gathers = k;
        table = o.table;
        comment = o.comment;
        small = o.small;
        packets = o.packets ++ q ∷ [];
        texts = texts_append o.packets (q ∷ []) ∙ ap (λ (l : List (List Bool)). l ++ text ∷ []) o.texts
            ∙ ap (λ (l : List (List Bool)). (mapping_spelling (header_count (length e.list)) ++ block_spelling (is_nil e.list) (StreamInfo (open_info e.pushed.shape))) ∷ l) (append_assoc (block_spellings e.list) o.frames (text ∷ []));
        kinds = kinds_append o.packets (q ∷ []) ∙ ap (λ (l : List PacketKind). l ++ Frame end ∷ []) o.kinds ∙ append_assoc headers (frames_to b total n) (Frame end ∷ [])
            ∙ ap (λ m. headers ++ (frames_to b total n ++ Frame m ∷ [])) ends ∙ ap (λ m. headers ++ frames_to b total m) (sym up);
        good = All-append IsPlaced o.packets (q ∷ []) o.good (alone q (record { bytes = bytes; position = omega (arith, small) }));
        written = o.written ++ bits_of d.middle;
        pages = pages_next d.serial d.sequence sequence o.packets q o.written (bits_of d.middle) (bits_of d.last) (bits_of middle) (bits_of last) some o.pages middle_is last_is next_page;
        start = o.start;
        sent = ap bits_of sent ∙ bits_of-append (g.sent e.pushed.target) d.middle ∙ ap (λ l. l ++ bits_of d.middle) o.sent ∙ append_assoc before o.written (bits_of d.middle);
      }

-- the same, as the encoder is left
pub ogg_next : {S : Type 0} (g : target.Ghosts S) (samples block : List (List ℤ)) (before : List Bool) (d : OggDraft S) (t : S) (h : Md5) (packet : List ℕ) (sequence : ℕ) (middle last : List ℕ) (p : Pushed S) (w n least greatest : ℕ) → OggDrafts g samples before d
    → IsNextBlock d.draft samples block → d.draft.pushed.number < 2 ^ 31 → d.draft.pushed.samples + samples_each block < 2 ^ 36 → AreBytes packet → SpellsFrame (sound_of d.draft.pushed.shape block) (frame_with d.draft.pushed.number block) (bits_of packet)
    → SpellsLeastFound d.draft.pushed.search d.draft.pushed.predictors (sound_of d.draft.pushed.shape block) (frame_with d.draft.pushed.number block) (bits_of packet) → Feeds d.draft.hasher (rows_bytes w block n 0) h → sequence ≡ sequence_after d.sequence packet
    → bits_of middle ≡ frame_pages d.serial d.sequence (d.draft.pushed.samples + samples_each block) false packet → bits_of last ≡ frame_pages d.serial d.sequence (d.draft.pushed.samples + samples_each block) true packet
    → g.sent t ≡ g.sent d.draft.pushed.target ++ d.middle → w ≡ sample_width d.draft.pushed.shape.bits → n ≡ samples_each block → p ≡ after_block d.draft.pushed (samples_each block) t → least ≡ least_after d.draft.pushed.samples d.draft.least (length packet)
    → greatest ≡ max d.draft.greatest (length packet)
    → OggDrafts g samples before (record {
      draft = record { pushed = p; list = d.draft.list; hasher = h; least = least; greatest = greatest; start = d.draft.start; table = d.draft.table };
      serial = d.serial;
      sequence = sequence;
      middle = middle;
      last = last;
    })
ogg_next g samples block before d t h packet sequence middle last p w n least greatest o next few small bytes spells shortest feeds next_page middle_is last_is sent w_is n_is p_is least_is greatest_is =
    let fed : Feeds d.draft.hasher (rows_bytes (sample_width d.draft.pushed.shape.bits) block (samples_each block) 0) h =
    subst (λ k. Feeds d.draft.hasher (rows_bytes k block (samples_each block) 0) h) w_is (subst (λ k. Feeds d.draft.hasher (rows_bytes w block k 0) h) n_is feeds) in
    rw (p_is, least_is, greatest_is) (ogg_more g samples block before d t h packet sequence middle last o next few small bytes spells shortest fed next_page middle_is last_is sent)

-- ---- at the end

-- what was sought, as what `encode_ogg` writes
chosen : (sought : Option Search) (serial : ℕ) (p : Cut) (ps : List LinearPredictor) (list : List Block) (a : Sound) (frames : List (List Bool)) (before after : List Bool) → AreLeastFound sought ps p.block_size a frames
    → ((found : List (List (List LinearPredictor))) → AreLeastFrames (with_found (with_predictors p ps) found) a frames → EncodesOgg serial (with_found (with_predictors p ps) found) list a before after)
    → EncodesOggFound sought serial (with_predictors p ps) list a before after
chosen None serial p ps list a frames before after least encodes = encodes [] least
chosen (Some search) serial p ps list a frames before after least encodes = let f = found_for (Some search) p ps a frames least in (f.found, f.begin, encodes f.found f.least)

some_block : (list : List Block) → begins_with_comment list ≡ true → 0 < length list
some_block [] e = absurd cc
some_block (b ∷ bs) e = omega arith

not_nil : (qs : List Placed) → 0 < length qs → is_nil qs ≡ false
not_nil [] some = absurd (omega (arith, some))
not_nil (q ∷ qs) some = refl

-- a stream is its first page and those of the other packets
two_pages : (serial : ℕ) (q : Placed) (qs : List Placed) → 0 < length qs → length q.packet ≡ 51
    → stream_spelling serial (q ∷ qs) ≡ packet_spelling (marks_of serial 0 true false q) q.packet ++ flat_map page_spelling (pages_from serial 1 false qs)
unfolding stream_spelling
two_pages serial q qs some long =
    let number : sequence_after 0 q.packet ≡ 1 = omega (arith, long) in
    let tail = flat_map page_spelling (pages_from serial 1 false qs) in
    first_packet serial 0 true q qs ∙ ap (λ l. packet_spelling (marks_of serial 0 true l q) q.packet ++ flat_map page_spelling (pages_from serial (sequence_after 0 q.packet) false qs)) (not_nil qs some)
    ∙ ap (λ n. packet_spelling (marks_of serial 0 true false q) q.packet ++ flat_map page_spelling (pages_from serial n false qs)) number

zeros_small : (n : ℕ) → AreBytes (replicate n 0)
zeros_small zero = tt
zeros_small (suc n) = (omega arith, zeros_small n)

pub zero_bytes : IsBytes 16 (replicate 16 0)
zero_bytes = record { many = refl; small = zeros_small 16 }

module _ {S : Type 0} (g : target.Ghosts S) (samples : List (List ℤ)) (before : List Bool) (d : OggDraft S) (new : S) (digest page : List ℕ) (o : OggDrafts g samples before d) (all : HasAll d.draft samples) (few : d.draft.pushed.samples < 2 ^ 36)
    (md : (m : List ℕ) → Holds d.draft.hasher m → digest ≡ md5 m)
    (first : IsFirstPage d.serial (info_with d.draft.pushed.shape d.draft.least d.draft.greatest d.draft.pushed.samples digest) d.draft.list page) (over : EndsAs d.draft.start d.last page (g.sent d.draft.pushed.target) (g.sent new)) where
  abbrev list : List Block
  list = d.draft.list

  abbrev s : Shape
  s = d.draft.pushed.shape

  abbrev a : Sound
  a = sound_for d.draft samples

  abbrev total : ℕ
  total = samples_each samples

  abbrev p : Cut
  p = plan_for d.draft samples

  abbrev count : ℕ
  count = header_count (length list)

  abbrev info : Info
  info = info_of p a d.draft.least d.draft.greatest

  abbrev q' : Placed
  q' = header_packet first.packet

  text : bits_of first.packet ≡ mapping_spelling count ++ block_spelling (is_nil list) (StreamInfo info)
  text = first.text ∙ ap (λ i. mapping_spelling count ++ block_spelling (is_nil list) (StreamInfo i)) (info_known samples o.frames d.draft digest o.gathers all md)

  long : length first.packet ≡ 51
  long = first_long info list first.packet (digest_is_bytes (sound_message a)) text

  are : AreFrames (cut_for d.draft samples) a o.frames
  are = record { many = o.gathers.many ∙ all; each = o.gathers.each }

  module _ (q : Placed) (qs : List Placed) (texts : texts_of (q ∷ qs) ≡ packet_spellings count (open_info s) list o.frames) (kinds : kinds_in (q ∷ qs) ≡ replicate (length list + 1) Header ++ frames_to s.block_size total d.draft.pushed.number)
      (good : All IsPlaced (q ∷ qs)) (last_is : o.written ++ bits_of d.last ≡ stream_spelling d.serial (q ∷ qs)) where
    abbrev rest : List Bool
    rest = flat_map page_spelling (pages_from d.serial 1 false qs)

    some : 0 < length qs
    some = omega (arith, as_many (q ∷ qs) _ texts, length-append (block_spellings list) o.frames, count_blocks list, some_block list o.comment)

    old_long : length q.packet ≡ 51
    old_long = first_long (open_info s) list q.packet zero_bytes (ap (λ (t : List (List Bool)). get_or t 0 []) texts)

    texts_now : texts_of (q' ∷ qs) ≡ packet_spellings count info list o.frames
    texts_now = ap (λ (t : List (List Bool)). bits_of first.packet ∷ t) (ap (λ (t : List (List Bool)). drop 1 t) texts) ∙ ap (λ (t : List Bool). t ∷ (block_spellings list ++ o.frames)) text

    kinds_now : kinds_in (q' ∷ qs) ≡ replicate (length list + 1) Header ++ frames_to s.block_size total (blocks_in s.block_size total)
    kinds_now = ap (λ k. k ∷ kinds_in qs) (sym (first_kind (length list) q.kind (kinds_in qs) _ kinds)) ∙ kinds ∙ ap (λ n. replicate (length list + 1) Header ++ frames_to s.block_size total n) all

    good_now : All IsPlaced (q' ∷ qs)
    good_now = All-cons IsPlaced q' qs (record { bytes = first.small; position = omega arith }) (All-tail IsPlaced q qs good)

    sent : bits_of (g.sent d.draft.pushed.target ++ d.last) ≡ before ++ (packet_spelling (marks_of d.serial 0 true false q) q.packet ++ rest)
    sent = bits_of-append (g.sent d.draft.pushed.target) d.last ∙ ap (λ l. l ++ bits_of d.last) o.sent ∙ append_assoc before o.written (bits_of d.last) ∙ ap (λ l. before ++ l) (last_is ∙ two_pages d.serial q qs some old_long)

    as_long : length (packet_spelling (marks_of d.serial 0 true false q) q.packet) ≡ length (bits_of page)
    as_long = page_long (marks_of d.serial 0 true false q) q.packet old_long ∙ sym (ap (λ (l : List Bool). length l) first.is ∙ page_long (marks_of d.serial 0 true false q') first.packet long)

    written : bits_of (g.sent new) ≡ before ++ stream_spelling d.serial (q' ∷ qs)
    written = written_bits d.draft.start page (g.sent d.draft.pushed.target ++ d.last) (g.sent new) before (packet_spelling (marks_of d.serial 0 true false q) q.packet) rest over sent o.start as_long
        ∙ ap (λ l. before ++ (l ++ rest)) first.is ∙ ap (λ l. before ++ l) (sym (two_pages d.serial q' qs some long))

    encodes : (found : List (List (List LinearPredictor))) → AreLeastFrames (with_found p found) a o.frames → EncodesOgg d.serial (with_found p found) list a before (bits_of (g.sent new))
    encodes found least =
        let p0 = cut_for d.draft samples in
        let came = all_came samples o.frames d.draft o.gathers all in
        let untabled = none_fits s list d.draft.table o.table in
        let not_stated : 0 < d.draft.table.every → total ≡ d.draft.table.total = λ asked. absurd (omega (arith, asked, ap (λ (t : Table). t.every) o.table)) in
        let planned = planned_for s samples list d.draft.table o.gathers.shape o.gathers.channels (omega (arith, few, came)) (omega (arith, o.gathers.few, all)) untabled not_stated in
        let items = encoded_are_ogg_items p0 list a d.draft.least d.draft.greatest count o.frames (map (λ (x : Placed). x.packet) (q' ∷ qs)) planned (fits_for s samples d.draft.table.every) o.gathers.listed o.gathers.fields are o.gathers.sizes (count_small (length list)) texts_now in
        record {
          packets = q' ∷ qs;
          are = record {
            least = d.draft.least;
            greatest = d.draft.greatest;
            frames = o.frames;
            are = record { many = are.many; each = are.each };
            are_least = least;
            sizes = o.gathers.sizes;
            texts = texts_now;
            kinds = kinds_now;
          };
          written = written;
          stream = ogg_stream s.profile d.serial q' qs _ o.small long good_now items;
        }

  pub ogg_whole : EncodesOggFound d.draft.pushed.search d.serial p list a before (bits_of (g.sent new))
  ogg_whole = go o.packets o.texts o.kinds o.good o.pages.last_is
    where
      go : (packets : List Placed) → texts_of packets ≡ packet_spellings count (open_info s) list o.frames → kinds_in packets ≡ replicate (length list + 1) Header ++ frames_to s.block_size total d.draft.pushed.number → All IsPlaced packets
          → o.written ++ bits_of d.last ≡ stream_spelling d.serial packets → EncodesOggFound d.draft.pushed.search d.serial p list a before (bits_of (g.sent new))
      go [] texts kinds good last_is = absurd (omega (arith, ap (λ (x : List (List Bool)). length x) texts))
      go (q ∷ qs) texts kinds good last_is =
          chosen d.draft.pushed.search d.serial (cut_for d.draft samples) d.draft.pushed.predictors list a o.frames before (bits_of (g.sent new)) o.gathers.least (encodes q qs texts kinds good last_is)
