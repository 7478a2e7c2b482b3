use Rattle.std.proofs.Common.{ℤ, Vec, Global, Fits, w32, w64, map, ◌≡◌, ◌≤◌, ◌<◌, ◌-◌, ◌*◌, ◌+◌, ◌^◌, min, max, refl, sym, ap, subst, ◌∙◌, arith, ℕ, List, length, None}
use Rattle.std.proofs.Math.Nat.{mul-suc}
use Rattle.std.proofs.lemmas.Bool.Decides.{nat_tests}
use Rattle.std.proofs.lemmas.List.{length-map}
use Rattle.std.proofs.lemmas.Result.{err_from_is_err_and}
use Rattle.flac_meta.specs.Listed.{block_fault}
use Rattle.flac_meta.specs.declared.seek_table.SeekPoint.{SeekPoint}
use Rattle.flac_meta.specs.declared.block.Block.TheVariants as block_of
use Rattle.flac_header.specs.declared.subset.Profile.{Profile}
use Rattle.flac_subframe.specs.search.Capacity.{Capacity}
use Rattle.flac_frame.specs.Audio.{Sound, samples_each}
use Rattle.flac_frame.specs.Chosen.{IsChoiceByPlane, HasPlaces}
use Rattle.flac_frame.specs.Encoding.{block_of, most_in}
use Rattle.flac_frame.specs.PlaneLists.{Lists}
use Rattle.flac_frame.specs.declared.frame_choice.FrameChoice.{FrameChoice}
use Rattle.flac_native.specs.Given.{Cut, tried, blocks_in, size_of, room_of, sound_message}
use Rattle.flac_native.specs.Message.{sample_width, rows_bytes}
use Rattle.flac_native.specs.Writing.{AreChoices, AreCounted, IsChoiceOf}
use Rattle.md5.specs.Md5.{Holds}
use Rattle.flac_native.proofs.Messages.{fed_none, fed_more, fed_all}
use Rattle.flac_native.proofs.Planned.{Planned, planned, fit, block_small, orders_at, partition_of}
use Rattle.flac_native.proofs.Tables.{table_good}
use Rattle.flac_native.proofs.Gathered.{Gathered, least_with, gathered_none, gathered_more, choice_of, kept_choice, no_choices, choices_more, still_some, all_gathered, all_counted}
use Rattle.flac_native.proofs.chosen_frames.ChosenFrames.new.Goals as goal

many_channels : (vecs : List (Vec ℤ Global)) (channels : List (List ℤ)) → map (λ v. v.items) vecs ≡ channels → length vecs ≡ length channels
many_channels vecs channels is = sym (length-map vecs (λ v. v.items)) ∙ ap length is

-- the places that were made for the plan's profile
first_places : (p : Cut) (a : Sound) (r : Capacity) (channels : ℕ) (profile : Profile) (c : FrameChoice) → channels ≡ length a.channels → profile ≡ p.profile → r ≡ room_of p → HasPlaces channels (most_in profile) c
    → HasPlaces (length a.channels) r.most c
first_places p a r channels profile c many same room places =
    let most : most_in profile ≡ r.most = ap most_in same ∙ ap (λ (x : Capacity). x.most) (sym room) in
    subst (λ n. HasPlaces n r.most c) many (subst (λ m. HasPlaces channels m c) most places)

ordered : (n least greatest bytes : ℕ) {l m : ℕ} → least ≤ greatest → l ≡ least_with n least bytes → m ≡ max greatest bytes → l ≤ m
ordered n least greatest bytes h e f = grind (arith, nat_tests)

-- samples are left
more_left : (b n total start len : ℕ) → start ≡ min total (b * n) → start < len → len ≡ total → b * n < total
more_left b n total start len at lt is = omega arith

one_on : (n m : ℕ) → n < m → n + 1 ≤ m
one_on n m h = omega arith

least_of : (a b : ℕ) → a < b → a ≤ b
least_of a b h = omega arith

room_at : (n m k : ℕ) → n ≤ m → k ≡ m → n ≤ k
room_at n m k h e = omega arith

same_start : (start total m from : ℕ) → start ≡ min total m → m < total → from ≡ m → start ≡ from
same_start start total m from at more e = omega arith

whole_size : (from to : ℕ) → from < to → from + (to - from) ≡ to
whole_size from to h = omega arith

-- where the next block starts
start_next : (b n total from to : ℕ) → from ≡ b * n → to - from ≡ size_of b total n → from < to → b * n < total → to ≡ min total (b * (n + 1))
start_next b n total from to at size some more = omega (arith, mul-suc b n)

max_small : (m a b : ℕ) → m ≡ max a b → a ≤ 16777215 → b ≤ 16777215 → m ≤ 16777215
max_small m a b e h k = omega arith

falls : (len start from to total m : ℕ) → start ≡ min total m → from ≡ m → from < to → to ≤ total → len ≡ total → len - to < len - start
falls len start from to total m at is some within e = omega arith

at_end : (start len total m : ℕ) → start ≡ min total m → len ≤ start → len ≡ total → start ≡ total
at_end start len total m at over is = omega arith

over_is : (len total start : ℕ) → len ≤ start → len ≡ total → total ≤ start
over_is len total start h e = omega arith

none_kept : (most : ℕ) → 0 ≡ min 0 most
none_kept most = omega arith

at_start : (total size : ℕ) → 0 ≡ min total (size * 0)
at_start total size = omega arith

zero_least : (n : ℕ) → 0 ≤ n
zero_least n = omega arith

-- the sizes of frames fit their bits
small_size : (n m : ℕ) → n ≤ m → m ≤ 16777215 → Fits w32 n
small_size n m h k = omega arith

below_bits : (m : ℕ) → m ≤ 16777215 → Fits w32 m
below_bits m h = omega arith

few_bits : (n : ℕ) → n ≤ 16777215 → n < 2 ^ 24
few_bits n h = omega arith

pub returns-in_err-choice : goal.returns-in_err-choice
returns-in_err-choice c =
    let p = err_from_is_err_and c.from_residual.result c.from_residual.ensures.1 in
    rw (p.1, p.2) (record { kept = refl; counted = tt; choices = tt; table = tt; sizes = tt; digest = tt; memory = c.in_err-choice.ensures.memory })

pub returns-in_err-note_point : goal.returns-in_err-note_point
returns-in_err-note_point c =
    let p = err_from_is_err_and c.from_residual-in_err-note_point.result c.from_residual-in_err-note_point.ensures.1 in
    rw (p.1, p.2) (record { kept = c.loop-start.invariant.buffers ∙ sym c.requires.room; counted = tt; choices = tt; table = tt; sizes = tt; digest = tt; memory = c.in_err-note_point.ensures.memory })

pub returns-in_err-keep : goal.returns-in_err-keep
returns-in_err-keep c =
    let p = err_from_is_err_and c.from_residual-in_err-keep.result c.from_residual-in_err-keep.ensures.1 in
    rw (p.1, p.2) (record { kept = c.choose_frame_by_plane.ensures.kept ∙ c.loop-start.invariant.buffers ∙ sym c.requires.room; counted = tt; choices = tt; table = tt; sizes = tt; digest = tt; memory = c.in_err-keep.ensures.memory })

pub range-range-requires-clause-fits : goal.range-range-requires-clause-fits
range-range-requires-clause-fits c = c.requires.fits

pub overflow_cast-result : goal.overflow_cast-result
overflow_cast-result c = small_size _ _ c.loop-start.invariant.least c.loop-start.invariant.greatest

pub overflow_cast-result-2 : goal.overflow_cast-result-2
overflow_cast-result-2 c = below_bits _ c.loop-start.invariant.greatest

pub returns-clause-kept : goal.returns-clause-kept
returns-clause-kept c = c.loop-start.invariant.buffers ∙ sym c.requires.room

pub returns-clause-choices : goal.returns-clause-choices
returns-clause-choices c = c.loop-start.invariant.choices

pub returns-clause-sizes : goal.returns-clause-sizes
returns-clause-sizes c = (c.loop-start.invariant.least, few_bits _ c.loop-start.invariant.greatest)

pub loop-start-init : goal.loop-start-init
loop-start-init c = record {
  gathered = subst (λ l. Gathered c.args.plan.now c.args.audio.now 0 0 0 0 l) (sym c.new-points.ensures.items) (gathered_none c.args.plan.now c.args.audio.now);
  choices = subst (AreChoices c.args.plan.now c.args.audio.now) (sym c.new-choices.ensures.items) (no_choices c.args.plan.now c.args.audio.now);
  kept = ap length c.new-choices.ensures.items ∙ none_kept _;
  places = first_places c.args.plan.now c.args.audio.now c.args.buffers.now _ _ c.in_ok-choice.choice (many_channels c.channels-channels.result.now _ c.channels-channels.ensures.items) c.profile.ensures c.requires.room c.in_ok-choice.ensures.places;
  fed = fed_none c.args.audio.now c.new-hasher.result c.new-hasher.ensures;
  buffers = c.requires.room;
  start = at_start _ _;
  few = zero_least _;
  greatest = zero_least _;
  least = zero_least _;
}

pub choose_frame_by_plane-requires-clause-some : goal.choose_frame_by_plane-requires-clause-some
choose_frame_by_plane-requires-clause-some c = c.range-range.ensures.range.some

pub choose_frame_by_plane-requires-clause-number : goal.choose_frame_by_plane-requires-clause-number
choose_frame_by_plane-requires-clause-number c = c.range-range.ensures.range.few

pub range-range-requires-clause-few : goal.range-range-requires-clause-few
range-range-requires-clause-few c =
    let p = c.args.plan.now in
    let total = samples_each c.args.audio.now.channels in
    let more : p.block_size * c.loop-start.number < total = more_left _ _ _ _ _ c.loop-start.invariant.start c.loop-start-test.true c.len-total.ensures in
    still_some p.block_size total c.loop-start.number (planned p c.block_size-size.ensures.good).least more

pub overflow_sub-len : goal.overflow_sub-len
overflow_sub-len c = least_of _ _ c.range-range.ensures.range.some

pub feed_block-requires : goal.feed_block-requires
feed_block-requires c = omega (arith, c.range-range.ensures.range.some, c.range-range.ensures.range.within)

pub choose_frame_by_plane-requires-clause-within : goal.choose_frame_by_plane-requires-clause-within
choose_frame_by_plane-requires-clause-within c = c.range-range.ensures.range.within

pub choose_frame_by_plane-requires-clause-partition : goal.choose_frame_by_plane-requires-clause-partition
choose_frame_by_plane-requires-clause-partition c = partition_of c.args.plan.now c.args.audio.now _ (fit c.args.plan.now c.args.audio.now c.requires.fits) c.loop-start.invariant.buffers

pub choose_frame_by_plane-requires-clause-orders : goal.choose_frame_by_plane-requires-clause-orders
choose_frame_by_plane-requires-clause-orders c =
    let p = c.args.plan.now in
    let a = c.args.audio.now in
    orders_at p a _ (fit p a c.requires.fits) c.predictors_at-predictors.ensures.orders

pub choose_frame_by_plane-requires-clause-room : goal.choose_frame_by_plane-requires-clause-room
choose_frame_by_plane-requires-clause-room c = room_at _ _ _ c.range-range.ensures.range.room (ap (λ (r : Capacity). r.block) c.loop-start.invariant.buffers)

pub choose_frame_by_plane-requires-clause-places : goal.choose_frame_by_plane-requires-clause-places
choose_frame_by_plane-requires-clause-places c = c.loop-start.invariant.places

pub frame_bytes_by_plane-bytes-requires-clause-few : goal.frame_bytes_by_plane-bytes-requires-clause-few
frame_bytes_by_plane-bytes-requires-clause-few c = omega (arith, c.range-range.ensures.range.room, block_small c.args.plan.now (planned c.args.plan.now c.block_size-size.ensures.good))

pub frame_bytes_by_plane-bytes-requires-clause-chosen : goal.frame_bytes_by_plane-bytes-requires-clause-chosen
frame_bytes_by_plane-bytes-requires-clause-chosen c = (_, _, c.choose_frame_by_plane.ensures.chosen)

few_fit : (n m : ℕ) → n < m → m ≤ 2 ^ 31 → Fits w64 (n + 1)
few_fit n m h k = omega arith

pub overflow_add-number : goal.overflow_add-number
overflow_add-number c =
    let p = c.args.plan.now in
    let total = samples_each c.args.audio.now.channels in
    let q = planned p c.block_size-size.ensures.good in
    let f = fit p c.args.audio.now c.requires.fits in
    let more : p.block_size * c.loop-start.number < total = more_left _ _ _ _ _ c.loop-start.invariant.start c.loop-start-test.true c.len-total.ensures in
    let blocks : blocks_in p.block_size total ≤ 2 ^ 31 = subst (λ t. blocks_in p.block_size t ≤ 2 ^ 31) f.total q.blocks in
    few_fit c.loop-start.number _ (still_some p.block_size total c.loop-start.number q.least more) blocks

pub overflow_add-offset : goal.overflow_add-offset
overflow_add-offset c =
    let is = c.choose_frame_by_plane.ensures.chosen in
    let p = c.args.plan.now in
    let total = samples_each c.args.audio.now.channels in
    let q = planned p c.block_size-size.ensures.good in
    let more : p.block_size * c.loop-start.number < total = more_left _ _ _ _ _ c.loop-start.invariant.start c.loop-start-test.true c.len-total.ensures in
    let f = fit p c.args.audio.now c.requires.fits in
    let blocks : blocks_in p.block_size total ≤ 2 ^ 31 = subst (λ t. blocks_in p.block_size t ≤ 2 ^ 31) f.total q.blocks in
    omega (arith, c.frame_bytes_by_plane-bytes.ensures.bytes _ _ is, is.short, c.loop-start.invariant.gathered.count, still_some p.block_size total c.loop-start.number q.least more, blocks)

pub loop-start-preserved : goal.loop-start-preserved
loop-start-preserved c =
    let p = c.args.plan.now in
    let a = c.args.audio.now in
    let b = p.block_size in
    let n = c.loop-start.number in
    let total = samples_each a.channels in
    let inv = c.loop-start.invariant in
    let q = planned p c.block_size-size.ensures.good in
    let more : b * n < total = more_left _ _ _ _ _ c.loop-start.invariant.start c.loop-start-test.true c.len-total.ensures in
    let few : n < blocks_in b total = still_some b total n q.least more in
    let r = c.range-range.result in
    let k = c.range-range.ensures.range in
    let size : ℕ = r.end - r.start in
    let choice = c.choose_frame_by_plane.new.choice in
    let is : IsChoiceByPlane (tried p n) a size n (block_of r.start size a.channels) choice =
    subst (λ (l : Lists). IsChoiceByPlane l a size n (block_of r.start size a.channels) choice) c.predictors_at-predictors.ensures.tried c.choose_frame_by_plane.ensures.chosen in
    let from : c.loop-start.start ≡ r.start = same_start _ _ _ _ inv.start more k.start in
    let to : r.start + size ≡ r.end = whole_size _ _ k.some in
    let fed = fed_more a c.loop-start.hasher c.feed_block.new.hasher r.start size size refl c.feed_block.ensures (subst (λ at. Holds c.loop-start.hasher (rows_bytes (sample_width a.bits) a.channels at 0)) from inv.fed) in
    let bytes : ℕ = c.frame_bytes_by_plane-bytes.result in
    let now = c.note_point.new.points.items in
    let g = gathered_more p a n c.loop-start.offset c.loop-start.least c.loop-start.greatest bytes r.start _ choice c.loop-start.points.items now inv.gathered c.in_ok-note_point.ensures.noted k.start k.size is (c.frame_bytes_by_plane-bytes.ensures.bytes _ _ is) in
    let keeps = c.in_ok-keep.ensures.kept in
    let chosen : IsChoiceOf p a n choice = record { chosen = choice_of p a n r.start _ choice k.start k.size is; places = c.choose_frame_by_plane.ensures.places.many } in
    let kept = choices_more p a c.loop-start.choices.items c.keep.new.choices.items keeps.0 n _ inv.choices inv.kept (kept_choice p a n choice keeps.0 keeps.1 chosen) keeps.2 in
    let max_is : c.greatest_with-greatest.result ≡ max c.loop-start.greatest bytes = c.greatest_with-greatest.ensures in
    let least_is : c.least_with-least.result ≡ least_with n c.loop-start.least bytes = c.least_with-least.ensures in
    let made = subst (λ l. Gathered p a (n + 1) (c.loop-start.offset + bytes) l c.greatest_with-greatest.result now) (sym least_is) (subst (λ m. Gathered p a (n + 1) (c.loop-start.offset + bytes) (least_with n c.loop-start.least bytes) m now) (sym max_is) g.0) in
    record {
      gathered = made;
      choices = kept.0;
      kept = kept.1;
      places = subst (λ (r : Capacity). HasPlaces (length a.channels) r.most choice) (sym c.choose_frame_by_plane.ensures.kept) c.choose_frame_by_plane.ensures.places;
      fed = subst (λ at. Holds c.feed_block.new.hasher (rows_bytes (sample_width a.bits) a.channels at 0)) to fed;
      buffers = c.choose_frame_by_plane.ensures.kept ∙ inv.buffers;
      start = start_next b n total r.start r.end k.start k.size k.some more;
      few = one_on _ _ few;
      greatest = max_small _ _ _ max_is inv.greatest g.1;
      least = ordered n c.loop-start.least c.loop-start.greatest bytes inv.least least_is max_is;
    }

pub loop-start-smaller : goal.loop-start-smaller
loop-start-smaller c = falls _ _ _ _ _ _ c.loop-start.invariant.start c.range-range.ensures.range.start c.range-range.ensures.range.some c.range-range.ensures.range.within c.len-total.ensures

pub returns-clause-digest : goal.returns-clause-digest
returns-clause-digest c =
    let a = c.args.audio.now in
    let inv = c.loop-start.invariant in
    let all : c.loop-start.start ≡ samples_each a.channels = at_end _ _ _ _ inv.start c.loop-start-test.false c.len-total.ensures in
    c.finalize.ensures (sound_message a) (fed_all a c.loop-start.hasher c.loop-start.start all inv.fed)

all_frames : (p : Cut) (a : Sound) (number offset least greatest start : ℕ) (points : List SeekPoint) → Planned p → Gathered p a number offset least greatest points → number ≤ blocks_in p.block_size (samples_each a.channels)
    → start ≡ min (samples_each a.channels) (p.block_size * number) → samples_each a.channels ≤ start → AreCounted p a least greatest points
all_frames p a number offset least greatest start points q g few at over =
    all_counted p a number offset least greatest points g (all_gathered p.block_size (samples_each a.channels) number q.least few (omega (arith, at, over)))

pub returns-clause-counted : goal.returns-clause-counted
returns-clause-counted c =
    let inv = c.loop-start.invariant in
    let q = planned c.args.plan.now c.block_size-size.ensures.good in
    all_frames c.args.plan.now c.args.audio.now c.loop-start.number c.loop-start.offset c.loop-start.least c.loop-start.greatest c.loop-start.start c.loop-start.points.items q inv.gathered inv.few inv.start
    (over_is _ _ _ c.loop-start-test.false c.len-total.ensures)

pub returns-clause-table : goal.returns-clause-table
returns-clause-table c =
    let p = c.args.plan.now in
    let inv = c.loop-start.invariant in
    let q = planned p c.block_size-size.ensures.good in
    let e = all_frames p c.args.audio.now c.loop-start.number c.loop-start.offset c.loop-start.least c.loop-start.greatest c.loop-start.start c.loop-start.points.items q inv.gathered inv.few inv.start
    (over_is _ _ _ c.loop-start-test.false c.len-total.ensures) in
    let t = table_good p c.args.audio.now e.frames q (fit p c.args.audio.now c.requires.fits) e.are in
    subst (λ l. block_fault (block_of.SeekTable l) ≡ None) (sym e.pointed) t.0
