-- A draft, from the first block to the last.
use Rattle.std.proofs.Common.{◌≡◌, ℕ, ◌+◌, ◌*◌, ◌^◌, ◌<◌, ◌≤◌, min, max, ℤ, Bool, true, false, cond, ◌||◌, nat_eq, Option, None, Result, Ok, Err, List, [], ◌∷◌, ◌++◌, length, append_assoc, inl, inr, refl, sym, ap, subst, ◌∙◌, arith}
use Rattle.std.specs.Prelude.{OnOk}
use Rattle.std.proofs.lemmas.Bool.{cases_lt}
use Rattle.std.proofs.lemmas.Bool.Decides.{nat_tests}
use Rattle.std.proofs.lemmas.List.{append-nil, length-replicate}
use Rattle.flac_bits.specs.Bits.{unsigned, bits_of}
use Rattle.flac_bits.specs.Forms.{joined}
use Rattle.flac_bits.specs.Items.{Stream}
use Rattle.flac_bits.specs.declared.target.Target as target
use Rattle.flac_bits.specs.declared.why.Why.TheVariants.{Truncated}
use Rattle.flac_bits.proofs.Holding.{length-bits_of, bits_of-append}
use Rattle.flac_meta.specs.Listed.{list_fault, info_seen}
use Rattle.flac_meta.specs.Valid.{AllAre, FitsFields}
use Rattle.flac_meta.specs.declared.block.Block.{Block}
use Rattle.flac_meta.specs.declared.block.Block.TheVariants as blocks
use Rattle.flac_meta.specs.declared.seek_table.SeekPoint.{SeekPoint}
use Rattle.flac_meta.proofs.Steps.{joined_two}
use Rattle.flac_subframe.specs.declared.format.linear.LinearPredictor.{LinearPredictor}
use Rattle.flac_frame.specs.Audio.{Sound, samples_each}
use Rattle.flac_frame.specs.Frame.{Frame}
use Rattle.flac_native.specs.Decoding.{beginning}
use Rattle.flac_native.specs.Given.{cut_in, blocks_in, has_point, points_before, info_of, given, sound_message}
use Rattle.flac_native.specs.Message.{sample_width, rows_bytes, Feeds}
use Rattle.flac_native.specs.Seeking.{point_at, points_of, table_of}
use Rattle.flac_native.specs.Stream.{grammar, opening}
use Rattle.flac_native.specs.Writing.{SpellsFrame, AreFrames, blocks_spelling, head_spelling, stream_spelling}
use Rattle.flac_native.proofs.Digests.{digest_is_bytes}
use Rattle.flac_native.proofs.Gathered.{no_sizes, snoc}
use Rattle.flac_native.proofs.Streams.{encoded_are_streams}
use Rattle.flac_native.proofs.Planned.{planned, fit}
use Rattle.flac_native.proofs.Tables.{bytes_of, counted, points_more, tabled}
use Rattle.flac_predict.specs.declared.search.Search.{Search}
use Rattle.flac_encoder.specs.Pushing.{Shape, Pushed, unpushed, after_block, with_target, trying, searching, shape_fault, open_info, sound_of, frame_with, SpellsLeastFound}
use Rattle.flac_encoder.proofs.Pushing.{shaped}
use Rattle.md5.specs.Md5.{Holds, md5}
use Rattle.md5.specs.declared.Md5.{Md5}
use Rattle.flac_draft.specs.Rewriting.{IsWrittenOver}
use Rattle.flac_draft.specs.Table.{Table, cut_stated, table_fault, vacant, reserved, with_place, next_point, pointed, lengthened, takes}
use Rattle.flac_draft.specs.Draft.{Draft, Drafts, IsNextBlock, HasAll, StaysDraft, EncodesFound, DraftsAreEncoded, bytes_in, sound_for, cut_for, plan_for}
use Rattle.flac_draft.specs.inner.Gathering.{info_with, least_after}
use Rattle.flac_draft.proofs.Heads.{heads_alike, written_bits}
use Rattle.flac_draft.proofs.Planned.{planned_for, fits_for, table_fits, not_twice}
use Rattle.flac_draft.proofs.Points.{asked_for, none_before, bytes_alike, bytes_more, points_alike, room_left, same_point}
use Rattle.flac_draft.proofs.Gathered.{gathered, gathers_more, all_came, info_known}

-- ---- an encoder of these parts

abbrev pub draft_of : {R S : Type 0} → Pushed R → S → List Block → Md5 → (least greatest start : ℕ) → Table → Draft S
draft_of b t list h least greatest start table = record { pushed = with_target b t; list = list; hasher = h; least = least; greatest = greatest; start = start; table = table }

-- a result that is Ok says less
pub on_ok : {X E P Q : Type 0} (r : Result X E) → (P → Q) → OnOk r P → OnOk r Q
on_ok (Ok x) f p = f p
on_ok (Err e) f p = tt

-- ---- at first

pub draft_none : {S : Type 0} (g : target.Ghosts S) (samples : List (List ℤ)) (before : List Bool) (s : Shape) (t : S) (list : List Block) (h : Md5) (start : ℕ) (table : Table) → shape_fault s ≡ None → list_fault info_seen list ≡ None → AllAre FitsFields list
    → table_fault s list table ≡ None → table.points ≡ [] → table.bytes ≡ 0 → length samples ≡ s.channels → Holds h [] → length before ≡ 8 * start → bits_of (g.sent t) ≡ before ++ head_spelling (open_info s) (with_place s.block_size table list)
    → Drafts g samples before (record { pushed = unpushed s t; list = list; hasher = h; least = 0; greatest = 0; start = start; table = table })
unfolding rows_bytes
draft_none g samples before s t list h start table shape listed fields fits none nothing channels held far sent = record {
  shape = shape;
  listed = listed;
  fields = fields;
  table = fits;
  channels = channels;
  frames = [];
  many = refl;
  few = omega arith;
  each = λ i lt. absurd (omega (arith, lt));
  least = λ i lt. absurd (omega (arith, lt));
  sizes = no_sizes;
  count = omega arith;
  digest = held;
  bytes = nothing;
  points = λ stated. none;
  start = far;
  sent = sent ∙ ap (λ l. before ++ l) (sym (append-nil (head_spelling (open_info s) (with_place s.block_size table list))));
}

-- ---- what is tried

module _ {S : Type 0} (g : target.Ghosts S) (d : Draft S) where
  pub stays_trying : (ps : List LinearPredictor) → StaysDraft g d (record d { pushed = trying d.pushed ps })
  stays_trying ps none samples before h = record {
    shape = h.shape;
    listed = h.listed;
    fields = h.fields;
    table = h.table;
    channels = h.channels;
    frames = h.frames;
    many = h.many;
    few = h.few;
    each = h.each;
    least = λ i lt. absurd (omega (arith, lt, h.many, none));
    sizes = h.sizes;
    count = h.count;
    digest = h.digest;
    bytes = h.bytes;
    points = h.points;
    start = h.start;
    sent = h.sent;
  }

  pub stays_searching : (search : Option Search) → StaysDraft g d (record d { pushed = searching d.pushed search })
  stays_searching search none samples before h = record {
    shape = h.shape;
    listed = h.listed;
    fields = h.fields;
    table = h.table;
    channels = h.channels;
    frames = h.frames;
    many = h.many;
    few = h.few;
    each = h.each;
    least = λ i lt. absurd (omega (arith, lt, h.many, none));
    sizes = h.sizes;
    count = h.count;
    digest = h.digest;
    bytes = h.bytes;
    points = h.points;
    start = h.start;
    sent = h.sent;
  }

-- ---- one more block

abbrev pub drafted : {S : Type 0} → Draft S → S → Md5 → (block : List (List ℤ)) (bytes : List ℕ) → Draft S
drafted d t h block bytes = record {
  pushed = after_block d.pushed (samples_each block) t;
  list = d.list;
  hasher = h;
  least = least_after d.pushed.samples d.least (length bytes);
  greatest = max d.greatest (length bytes);
  start = d.start;
  table = lengthened (length bytes) (pointed d.pushed.shape.block_size d.pushed.samples d.table);
}

sent_more : (before head : List Bool) (frames : List (List Bool)) (text all : List Bool) → all ≡ before ++ (head ++ joined frames) → all ++ text ≡ before ++ (head ++ joined (snoc frames text))
sent_more before head frames text all e =
    ap (λ l. l ++ text) e ∙ append_assoc before (head ++ joined frames) text ∙ ap (λ l. before ++ l) (append_assoc head (joined frames) text
    ∙ ap (λ l. head ++ l) (ap (λ l. joined frames ++ l) (sym (append-nil text)) ∙ sym (joined_two frames (text ∷ []))))

-- the points with that of one more frame
points_with : (s : Shape) (list : List Block) (samples : List (List ℤ)) (t : Table) (frames : List (List Bool)) (n start : ℕ) (text : List Bool) → 16 ≤ s.block_size → table_fault s list t ≡ None → length samples ≡ s.channels
    → length frames ≡ n → start ≡ s.block_size * n → s.block_size * n < samples_each samples → t.bytes ≡ bytes_in frames → (0 < t.every → samples_each samples ≡ t.total)
    → t.points ≡ points_of (cut_in s.profile s.block_size (sound_of s samples) t.every) frames
    → (pointed s.block_size start t).points ≡ points_of (cut_in s.profile s.block_size (sound_of s samples) t.every) (snoc frames text)
points_with s list samples t frames n start text some fits channels many from here bytes stated is =
    let b = s.block_size in
    let total = samples_each samples in
    let p = cut_in s.profile b (sound_of s samples) t.every in
    let number : 0 + length frames ≡ n = omega (arith, many) in
    let offset : 0 + bytes_of frames ≡ t.bytes = omega (arith, bytes, bytes_alike frames) in
    let more : points_of p (snoc frames text) ≡ points_of p frames ++ point_at p n t.bytes =
    points_more p 0 0 frames text ∙ ap (λ k. points_of p frames ++ point_at p k (0 + bytes_of frames)) number ∙ ap (λ k. points_of p frames ++ point_at p n k) offset in
    let count : length t.points ≡ points_before b total t.every n = omega (arith, counted p 0 0 frames, ap (λ k. points_before b total t.every k) number, ap (λ (l : List SeekPoint). length l) is) in
    let few : 0 < t.every → points_before b total t.every (blocks_in b total) ≤ 932067 = λ asked.
    subst (λ m. points_before b m t.every (blocks_in b m) ≤ 932067) (sym (stated asked)) (planned (cut_stated s t.total t.every) (table_fits s list t fits asked).0).points in
    let room : has_point b total t.every n ≡ true → length t.points < 932067 = λ has. let lt = room_left b total t.every n 932067 some here has (few (asked_for b total t.every n has)) in omega (arith, lt, count) in
    let same : next_point b start t ≡ point_at p n t.bytes = same_point b n start t.bytes (length t.points) total t.total some from here t.every stated room in
    ap (λ l. t.points ++ l) same ∙ ap (λ l. l ++ point_at p n t.bytes) is ∙ sym more

pub draft_more : {S : Type 0} (g : target.Ghosts S) (samples block : List (List ℤ)) (before : List Bool) (d : Draft S) (t : S) (h : Md5) (bytes : List ℕ) → Drafts g samples before d → IsNextBlock d samples block → d.pushed.number < 2 ^ 31
    → SpellsFrame (sound_of d.pushed.shape block) (frame_with d.pushed.number block) (bits_of bytes)
    → SpellsLeastFound d.pushed.search d.pushed.predictors (sound_of d.pushed.shape block) (frame_with d.pushed.number block) (bits_of bytes)
    → Feeds d.hasher (rows_bytes (sample_width d.pushed.shape.bits) block (samples_each block) 0) h → g.sent t ≡ g.sent d.pushed.target ++ bytes → Drafts g samples before (drafted d t h block bytes)
unfolding table_fault
draft_more g samples block before d t h bytes o next few spells least feeds sent =
    let s = d.pushed.shape in
    let q = shaped s o.shape in
    let b = s.block_size in
    let n = d.pushed.number in
    let text = bits_of bytes in
    let so_far : d.pushed.samples ≡ b * n = omega (arith, o.count, next.some) in
    let k = gathers_more samples block o.frames d t h bytes (lengthened (length bytes) (pointed b d.pushed.samples d.table)) (gathered g samples before d o) next few spells least feeds in
    record {
      shape = o.shape;
      listed = o.listed;
      fields = o.fields;
      table = o.table;
      channels = o.channels;
      frames = snoc o.frames text;
      many = k.many;
      few = k.few;
      each = k.each;
      least = k.least;
      sizes = k.sizes;
      count = k.count;
      digest = k.digest;
      bytes = omega (arith, o.bytes, bytes_more o.frames text (length bytes) (length-bits_of bytes));
      points = λ stated. points_with s d.list samples d.table o.frames n d.pushed.samples text q.least o.table o.channels o.many so_far next.some o.bytes stated (o.points stated);
      start = o.start;
      sent = ap bits_of sent ∙ bits_of-append (g.sent d.pushed.target) bytes ∙ sent_more before (head_spelling (open_info s) (with_place b d.table d.list)) o.frames text (bits_of (g.sent d.pushed.target)) o.sent;
    }

-- the same, as the encoder is left
pub draft_next : {S : Type 0} (g : target.Ghosts S) (samples block : List (List ℤ)) (before : List Bool) (d : Draft S) (t : S) (h : Md5) (bytes : List ℕ) (p : Pushed S) (w n least greatest : ℕ) (table : Table) → Drafts g samples before d → IsNextBlock d samples block
    → d.pushed.number < 2 ^ 31 → SpellsFrame (sound_of d.pushed.shape block) (frame_with d.pushed.number block) (bits_of bytes)
    → SpellsLeastFound d.pushed.search d.pushed.predictors (sound_of d.pushed.shape block) (frame_with d.pushed.number block) (bits_of bytes) → Feeds d.hasher (rows_bytes w block n 0) h → g.sent t ≡ g.sent d.pushed.target ++ bytes
    → w ≡ sample_width d.pushed.shape.bits → n ≡ samples_each block → p ≡ after_block d.pushed (samples_each block) t → least ≡ least_after d.pushed.samples d.least (length bytes) → greatest ≡ max d.greatest (length bytes)
    → table ≡ lengthened (length bytes) (pointed d.pushed.shape.block_size d.pushed.samples d.table)
    → Drafts g samples before (record { pushed = p; list = d.list; hasher = h; least = least; greatest = greatest; start = d.start; table = table })
draft_next g samples block before d t h bytes p w n least greatest table o next few spells shortest feeds sent w_is n_is p_is least_is greatest_is table_is =
    let added = lengthened (length bytes) (pointed d.pushed.shape.block_size d.pushed.samples d.table) in
    let fed : Feeds d.hasher (rows_bytes (sample_width d.pushed.shape.bits) block (samples_each block) 0) h = subst (λ k. Feeds d.hasher (rows_bytes k block (samples_each block) 0) h) w_is (subst (λ k. Feeds d.hasher (rows_bytes w block k 0) h) n_is feeds) in
    let one = draft_more g samples block before d t h bytes o next few spells shortest fed sent in
    let two = subst (λ k. Drafts g samples before (record { pushed = after_block d.pushed (samples_each block) t; list = d.list; hasher = h; least = least_after d.pushed.samples d.least (length bytes); greatest = k; start = d.start; table = added })) (sym greatest_is) one in
    let three = subst (λ k. Drafts g samples before (record { pushed = after_block d.pushed (samples_each block) t; list = d.list; hasher = h; least = k; greatest = greatest; start = d.start; table = added })) (sym least_is) two in
    let four = subst (λ k. Drafts g samples before (record { pushed = k; list = d.list; hasher = h; least = least; greatest = greatest; start = d.start; table = added })) (sym p_is) three in
    subst (λ k. Drafts g samples before (record { pushed = p; list = d.list; hasher = h; least = least; greatest = greatest; start = d.start; table = k })) (sym table_is) four

-- a frame is short, and so are the sizes with one more
pub short_frame : (a : Sound) (f : Frame) (bytes : List ℕ) → SpellsFrame a f (bits_of bytes) → length bytes < 2 ^ 24
short_frame a f bytes k = omega (arith, k.short, length-bits_of bytes)

pub least_small : (x least bytes : ℕ) → least < 2 ^ 24 → bytes < 2 ^ 24 → least_after x least bytes < 2 ^ 24
least_small x least bytes l b = go (nat_eq x 0)
  where
    go : (c : Bool) → cond c bytes (min least bytes) < 2 ^ 24
    go true = b
    go false = omega (arith, l)

-- ---- at the end

-- the table takes as many samples as came
taken : (t : Table) (n total : ℕ) → takes t n ≡ true → n ≡ total → 0 < t.every → total ≡ t.total
taken t n total e same some = let is : n ≡ t.total = go (nat_eq t.every 0) refl in omega (arith, is, same)
  where
    go : (c : Bool) → nat_eq t.every 0 ≡ c → n ≡ t.total
    go true nil = absurd (let z : t.every ≡ 0 = grind (arith, nat_tests) in omega (arith, z, some))
    go false other = let is : nat_eq n t.total ≡ true = ap (λ c. c || nat_eq n t.total) (sym other) ∙ e in grind (arith, nat_tests)

-- the table has as many points as there are places
as_many : (s : Shape) (samples : List (List ℤ)) (t : Table) (frames : List (List Bool)) → length frames ≡ blocks_in s.block_size (samples_each samples) → (0 < t.every → samples_each samples ≡ t.total)
    → length (points_of (cut_in s.profile s.block_size (sound_of s samples) t.every) frames) ≡ length (reserved s.block_size t)
as_many s samples t frames all stated =
    let b = s.block_size in
    let total = samples_each samples in
    let p = cut_in s.profile b (sound_of s samples) t.every in
    let number : 0 + length frames ≡ blocks_in b total = omega (arith, all) in
    let places = length-replicate (points_before b t.total t.every (blocks_in b t.total)) vacant in
    let same : points_before b total t.every (blocks_in b total) ≡ points_before b t.total t.every (blocks_in b t.total) = elim (cases_lt 0 t.every) [
      | inl some ↦ ap (λ m. points_before b m t.every (blocks_in b m)) (stated some)
      | inr nil ↦
          let none : t.every ≡ 0 = omega (arith, nil) in
          ap (λ e. points_before b total e (blocks_in b total)) none ∙ none_before b total (blocks_in b total) ∙ sym (none_before b t.total (blocks_in b t.total)) ∙ sym (ap (λ e. points_before b t.total e (blocks_in b t.total)) none)
    ] in
    omega (arith, counted p 0 0 frames, ap (λ k. points_before b total t.every k) number, same, places)

pub draft_whole : {S : Type 0} (g : target.Ghosts S) (samples : List (List ℤ)) (before : List Bool) (d : Draft S) (new : S) (digest head : List ℕ) → Drafts g samples before d → HasAll d samples → d.pushed.samples < 2 ^ 36
    → takes d.table d.pushed.samples ≡ true → ((m : List ℕ) → Holds d.hasher m → digest ≡ md5 m) → bits_of head ≡ head_spelling (info_with d.pushed.shape d.least d.greatest d.pushed.samples digest) (d.list ++ table_of d.table.points)
    → IsWrittenOver d.start head (g.sent d.pushed.target) (g.sent new) → EncodesFound d.pushed.search (plan_for d samples) d.list (sound_for d samples) before (bits_of (g.sent new))
draft_whole g samples before d new digest head o all few takes_it md is over =
    let s = d.pushed.shape in
    let q = shaped s o.shape in
    let b = s.block_size in
    let a = sound_of s samples in
    let total = samples_each samples in
    let t = d.table in
    let p = plan_for d samples in
    let p0 = cut_for d samples in
    let k = gathered g samples before d o in
    let count = all_came samples o.frames d k all in
    let stated : 0 < t.every → total ≡ t.total = taken t d.pushed.samples total takes_it count in
    let enough : length o.frames ≡ blocks_in b total = o.many ∙ all in
    let info = info_known samples o.frames d digest k all md in
    let points : t.points ≡ points_of p o.frames = o.points stated ∙ sym (points_alike p0 d.pushed.predictors 0 0 o.frames) in
    let list = d.list ++ table_of (points_of p o.frames) in
    let head_is : bits_of head ≡ head_spelling (info_of p a d.least d.greatest) list = is ∙ ap (λ i. head_spelling i (d.list ++ table_of t.points)) info ∙ ap (λ x. head_spelling (info_of p a d.least d.greatest) (d.list ++ table_of x)) points in
    let many : length (reserved b t) ≡ length (points_of p o.frames) = sym (as_many s samples t o.frames enough stated) ∙ ap (λ (l : List SeekPoint). length l) (sym (points_alike p0 d.pushed.predictors 0 0 o.frames)) in
    let place = with_place b t d.list in
    let long : length (head_spelling (open_info s) place) ≡ length (bits_of head) =
    heads_alike (open_info s) (info_of p a d.least d.greatest) d.list (reserved b t) (points_of p o.frames) refl (digest_is_bytes (sound_message a)).many many ∙ sym (ap (λ (l : List Bool). length l) head_is) in
    let are : AreFrames p0 a o.frames = record { many = enough; each = o.each } in
    let fault = planned_for s samples d.list t o.shape o.channels (omega (arith, few, count)) (omega (arith, o.few, all)) o.table stated in
    let fits = fits_for s samples t.every in
    let good = tabled p0 a d.list o.frames (planned p0 fault) (fit p0 a fits) are (not_twice s d.list t o.table) (o.listed, o.fields) in
    let same : d.list ++ table_of (points_of p0 o.frames) ≡ list = ap (λ x. d.list ++ table_of x) (sym (points_alike p0 d.pushed.predictors 0 0 o.frames)) in
    let stream = encoded_are_streams p0 (d.list ++ table_of (points_of p0 o.frames)) a d.least d.greatest o.frames fault fits good.0 good.1 are o.sizes in
    let written : bits_of (g.sent new) ≡ before ++ stream_spelling p list a d.least d.greatest o.frames =
    written_bits d.start head (g.sent d.pushed.target) (g.sent new) before (head_spelling (open_info s) place) (joined o.frames) over o.sent o.start long
    ∙ ap (λ l. before ++ l) (ap (λ l. l ++ joined o.frames) head_is ∙ append_assoc (unsigned 32 0x664C6143) (blocks_spelling (blocks.StreamInfo (info_of p a d.least d.greatest) ∷ list)) (joined o.frames)) in
    record {
      least = d.least;
      greatest = d.greatest;
      frames = o.frames;
      are = record { many = enough; each = o.each };
      are_least = o.least;
      sizes = o.sizes;
      written = written;
      stream = subst (λ l. Stream grammar (opening s.profile) (beginning Truncated) (given p l a d.least d.greatest) (stream_spelling p l a d.least d.greatest o.frames)) same stream;
    }

-- ---- without a search

pub drafts_are_encoded : DraftsAreEncoded
drafts_are_encoded p ps list a before after e = record {
  least = e.least;
  greatest = e.greatest;
  frames = e.frames;
  are = e.are;
  are_least = e.are_least;
  sizes = e.sizes;
  written = e.written;
  stream = e.stream;
}
