-- What is gathered of the blocks that were pushed.
use Rattle.std.proofs.Common.{◌≡◌, ℕ, zero, suc, ◌+◌, ◌*◌, ◌^◌, ◌<◌, ◌≤◌, min, max, ℤ, Bool, cond, nat_eq, Option, None, List, [], ◌++◌, length, refl, sym, ap, subst, ◌∙◌, arith}
use Rattle.std.proofs.lemmas.Bool.Decides.{nat_tests}
use Rattle.std.proofs.Math.Nat.{mul-suc}
use Rattle.flac_bits.specs.Bits.{bits_of}
use Rattle.flac_bits.specs.declared.target.Target as target
use Rattle.flac_bits.proofs.Holding.{length-bits_of}
use Rattle.flac_meta.specs.Listed.{list_fault, info_seen}
use Rattle.flac_meta.specs.Valid.{AllAre, FitsFields}
use Rattle.flac_meta.specs.declared.block.Block.{Block}
use Rattle.flac_subframe.specs.declared.format.linear.LinearPredictor.{LinearPredictor}
use Rattle.flac_frame.specs.Audio.{samples_each}
use Rattle.flac_native.specs.Given.{blocks_in, size_of, frame_of, info_of, sound_message}
use Rattle.flac_native.specs.Message.{sample_width, rows_bytes, Feeds}
use Rattle.flac_native.specs.Writing.{SpellsFrame, AreSizes}
use Rattle.flac_native.proofs.Encoded.{part_rows, all_parts}
use Rattle.flac_native.proofs.Gathered.{no_sizes, snoc, length-snoc, each_more, sizes_with}
use Rattle.flac_native.proofs.Messages.{fed_more, fed_all}
use Rattle.flac_predict.specs.declared.search.Search.{Search}
use Rattle.flac_encoder.specs.Pushing.{Shape, unpushed, after_block, trying, searching, shape_fault, sound_of, frame_with, SpellsLeastFound}
use Rattle.flac_encoder.proofs.Pushing.{shaped}
use Rattle.md5.specs.Md5.{Holds, md5}
use Rattle.md5.specs.declared.Md5.{Md5}
use Rattle.flac_draft.specs.Table.{Table}
use Rattle.flac_draft.specs.Draft.{Draft, Drafts, IsNextBlock, HasAll, sound_for, plan_for}
use Rattle.flac_draft.specs.OggDraft.{Gathers}
use Rattle.flac_draft.specs.inner.Gathering.{info_with, least_after}
use Rattle.flac_draft.proofs.Moved.{spells_moved, found_moved, block_long, frame_is}

-- what a draft of a native stream has gathered
pub gathered : {S : Type 0} (g : target.Ghosts S) (samples : List (List ℤ)) (before : List Bool) (d : Draft S) (o : Drafts g samples before d) → Gathers samples o.frames d
gathered g samples before d o = record {
  shape = o.shape;
  listed = o.listed;
  fields = o.fields;
  channels = o.channels;
  many = o.many;
  few = o.few;
  each = o.each;
  least = o.least;
  sizes = o.sizes;
  count = o.count;
  digest = o.digest;
}

-- ---- at first

pub gathers_none : {S : Type 0} (samples : List (List ℤ)) (s : Shape) (t : S) (list : List Block) (h : Md5) (start : ℕ) (table : Table) → shape_fault s ≡ None → list_fault info_seen list ≡ None → AllAre FitsFields list → length samples ≡ s.channels → Holds h []
    → Gathers samples [] (record { pushed = unpushed s t; list = list; hasher = h; least = 0; greatest = 0; start = start; table = table })
unfolding rows_bytes
gathers_none samples s t list h start table shape listed fields channels held = record {
  shape = shape;
  listed = listed;
  fields = fields;
  channels = channels;
  many = refl;
  few = omega arith;
  each = λ i lt. absurd (omega (arith, lt));
  least = λ i lt. absurd (omega (arith, lt));
  sizes = no_sizes;
  count = omega arith;
  digest = held;
}

-- ---- what is tried

module _ {S : Type 0} (samples : List (List ℤ)) (frames : List (List Bool)) (d : Draft S) (none : d.pushed.number ≡ 0) (k : Gathers samples frames d) where
  pub gathers_trying : (ps : List LinearPredictor) → Gathers samples frames (record d { pushed = trying d.pushed ps })
  gathers_trying ps = record {
    shape = k.shape;
    listed = k.listed;
    fields = k.fields;
    channels = k.channels;
    many = k.many;
    few = k.few;
    each = k.each;
    least = λ i lt. absurd (omega (arith, lt, k.many, none));
    sizes = k.sizes;
    count = k.count;
    digest = k.digest;
  }

  pub gathers_searching : (search : Option Search) → Gathers samples frames (record d { pushed = searching d.pushed search })
  gathers_searching search = record {
    shape = k.shape;
    listed = k.listed;
    fields = k.fields;
    channels = k.channels;
    many = k.many;
    few = k.few;
    each = k.each;
    least = λ i lt. absurd (omega (arith, lt, k.many, none));
    sizes = k.sizes;
    count = k.count;
    digest = k.digest;
  }

-- ---- one more block

zero_alike : (b n x : ℕ) → 16 ≤ b → x ≡ b * n → nat_eq x 0 ≡ nat_eq n 0
zero_alike b zero x some e = let z : x ≡ 0 = omega (arith, e) in ap (λ k. nat_eq k 0) z
zero_alike b (suc n) x some e = let p : 0 < x = omega (arith, some, e, mul-suc b n) in grind (arith, nat_tests)

pub least_alike : (b n x least bytes : ℕ) → 16 ≤ b → x ≡ b * n → least_after x least bytes ≡ cond (nat_eq n 0) bytes (min least bytes)
least_alike b n x least bytes some e = ap (λ k. cond k bytes (min least bytes)) (zero_alike b n x some e)

pub gathers_more : {S : Type 0} (samples block : List (List ℤ)) (frames : List (List Bool)) (d : Draft S) (t : S) (h : Md5) (bytes : List ℕ) (table : Table) → Gathers samples frames d → IsNextBlock d samples block → d.pushed.number < 2 ^ 31
    → SpellsFrame (sound_of d.pushed.shape block) (frame_with d.pushed.number block) (bits_of bytes)
    → SpellsLeastFound d.pushed.search d.pushed.predictors (sound_of d.pushed.shape block) (frame_with d.pushed.number block) (bits_of bytes)
    → Feeds d.hasher (rows_bytes (sample_width d.pushed.shape.bits) block (samples_each block) 0) h
    → Gathers samples (snoc frames (bits_of bytes)) (record {
      pushed = after_block d.pushed (samples_each block) t;
      list = d.list;
      hasher = h;
      least = least_after d.pushed.samples d.least (length bytes);
      greatest = max d.greatest (length bytes);
      start = d.start;
      table = table;
    })
gathers_more samples block frames d t h bytes table o next few spells least feeds =
    let s = d.pushed.shape in
    let q = shaped s o.shape in
    let b = s.block_size in
    let n = d.pushed.number in
    let a = sound_of s samples in
    let total = samples_each samples in
    let size = size_of b total n in
    let w = sample_width s.bits in
    let text = bits_of bytes in
    let so_far : d.pushed.samples ≡ b * n = omega (arith, o.count, next.some) in
    let long : samples_each block ≡ size = ap samples_each next.is ∙ block_long (b * n) size samples next.some (omega arith) in
    let same = frame_is b n s samples block next.some next.is in
    let here : SpellsFrame a (frame_of b a n) text = subst (λ f. SpellsFrame a f text) same (spells_moved s block samples (frame_with n block) text spells) in
    let here_least : SpellsLeastFound d.pushed.search d.pushed.predictors a (frame_of b a n) text = subst (λ f. SpellsLeastFound d.pushed.search d.pushed.predictors a f text) same (found_moved s block samples d.pushed.search d.pushed.predictors (frame_with n block) text least) in
    let rows : rows_bytes w block (samples_each block) 0 ≡ rows_bytes w samples size d.pushed.samples =
    ap (λ k. rows_bytes w block k 0) long ∙ ap (λ k. rows_bytes w k size 0) next.is ∙ part_rows w (b * n) size size 0 samples (omega arith) ∙ ap (λ j. rows_bytes w samples size j) (let e : b * n + 0 ≡ d.pushed.samples = omega (arith, so_far) in e) in
    record {
      shape = o.shape;
      listed = o.listed;
      fields = o.fields;
      channels = o.channels;
      many = omega (arith, length-snoc frames text, o.many);
      few = omega (arith, few);
      each = each_more (λ i k. SpellsFrame a (frame_of b a i) k) frames text o.each (subst (λ i. SpellsFrame a (frame_of b a i) text) (sym o.many) here);
      least = each_more (λ i k. SpellsLeastFound d.pushed.search d.pushed.predictors a (frame_of b a i) k) frames text o.least (subst (λ i. SpellsLeastFound d.pushed.search d.pushed.predictors a (frame_of b a i) text) (sym o.many) here_least);
      sizes = subst (λ k. AreSizes (snoc frames text) k (max d.greatest (length bytes))) (sym (least_alike b n d.pushed.samples d.least (length bytes) q.least so_far))
          (sizes_with frames text n d.least d.greatest (length bytes) o.many (length-bits_of bytes) o.sizes);
      count = omega (arith, so_far, long, next.some, mul-suc b n);
      digest = fed_more a d.hasher h d.pushed.samples (samples_each block) size (sym long) (λ m held. subst (λ l. Holds h (m ++ l)) rows (feeds m held)) o.digest;
    }

-- ---- at the end

stated_info : (s : Shape) (least greatest m n total : ℕ) (x y : List ℕ) → m ≡ s.channels → n ≡ total → x ≡ y
    → info_with s least greatest n x ≡ record { least_block = s.block_size; greatest_block = s.block_size; least_frame = least; greatest_frame = greatest; rate = s.rate; channels = m; depth = s.bits; total = total; digest = y }
stated_info s least greatest m n total x y channels count digest = rw (channels, count, digest) refl

module _ {S : Type 0} (samples : List (List ℤ)) (frames : List (List Bool)) (d : Draft S) where
  -- all samples came
  pub all_came : Gathers samples frames d → HasAll d samples → d.pushed.samples ≡ samples_each samples
  all_came k all =
      let b = d.pushed.shape.block_size in
      let total = samples_each samples in
      let far : b * d.pushed.number ≡ b * blocks_in b total = ap (λ n. b * n) all in
      omega (arith, k.count, far, all_parts b total (shaped d.pushed.shape k.shape).least)

  -- so STREAMINFO is that of what was given
  pub info_known : (digest : List ℕ) → Gathers samples frames d → HasAll d samples → ((m : List ℕ) → Holds d.hasher m → digest ≡ md5 m)
      → info_with d.pushed.shape d.least d.greatest d.pushed.samples digest ≡ info_of (plan_for d samples) (sound_for d samples) d.least d.greatest
  info_known digest k all md =
      let a = sound_for d samples in
      let count = all_came k all in
      let digest_is : digest ≡ md5 (sound_message a) = md (sound_message a) (fed_all a d.hasher d.pushed.samples count k.digest) in
      stated_info d.pushed.shape d.least d.greatest (length samples) d.pushed.samples (samples_each samples) digest (md5 (sound_message a)) k.channels count digest_is
