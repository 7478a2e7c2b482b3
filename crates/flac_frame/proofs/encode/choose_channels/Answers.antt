use Rattle.std.proofs.Common.{◌≡◌, ◌∙◌, refl, ap, sym, subst, ◌+◌, ◌*◌, ◌++◌, ◌≤◌, ◌<◌, length, take, drop, map, set, get_or, flat_map, All, [], ◌∷◌, List, ℤ, ℕ, vec_len, ◌^◌, Fits, w64, arith}
use Rattle.std.proofs.lemmas.List.{length-map, length-take-le, take_all}
use Rattle.std.proofs.lemmas.List.Elements.{All-set}
use Rattle.std.proofs.lemmas.Nat.{mul-le}
use borrow.Author.Count.{falls}
use Rattle.flac_bits.specs.Signed.{FitsBits}
use Rattle.flac_subframe.specs.search.Capacity.{Capacity}
use Rattle.flac_subframe.specs.format.Spelling.{subframe_spelling}
use Rattle.flac_subframe.specs.declared.search.wide_choice.WideChoice.{WideChoice}
use Rattle.flac_frame.specs.Audio.{Sound, IsSound}
use Rattle.flac_frame.specs.Chosen.{forms_by_plane}
use Rattle.flac_frame.specs.inner.Chosen.{AreChosen}
use Rattle.flac_frame.specs.Encoding.{block_of, partition_limit}
use Rattle.flac_frame.specs.PlaneLists.{lists_of}
use Rattle.flac_frame.proofs.Chosen.{FirstChosen, none_chosen, one_chosen, all_chosen}
use Rattle.flac_frame.proofs.Encoded.{block_more}
use Rattle.flac_frame.proofs.Frames.{many_channels, few_channels, part_small, bits_small}
use Rattle.flac_frame.proofs.Capacities.{below_33, as_few, few_of, room_for, some_of, in_reach, codings_for, codings_still}
use Rattle.flac_frame.proofs.Short.{one_short}
use Rattle.flac_frame.proofs.Sounds.{limit_few}
use Rattle.flac_frame.proofs.encode.choose_channels.Goals as goal

-- channel i is one of the samples' channels
in_range : {V : Type 0} (items : V → List ℤ) (xs : List V) (a : Sound) → IsSound a → map items xs ≡ a.channels → (i : ℕ) → i < length xs → i < length a.channels
in_range items xs a good are i lt = subst (λ n. i < n) (many_channels items xs a good are) lt

-- how many bits the subframes so far take at most
none_more : 0 ≤ 0 * 2097160
none_more = omega arith

below : (i n : ℕ) → i < n → i ≤ n
below i n lt = omega arith

more_bits : (bits more i : ℕ) → bits ≤ i * 2097160 → more ≤ 2097160 → bits + more ≤ (i + 1) * 2097160
more_bits bits more i few one = omega arith

sum_fits : (bits more own i n : ℕ) → bits ≤ i * 2097160 → more ≡ own → own ≤ 2 ^ 61 → i < n → n ≤ 8 → Fits w64 (bits + more)
sum_fits bits more own i n few is small lt many = omega arith

-- where a channel's choice is, of 88 bytes each
offset_fits : (i n : ℕ) → i < n → n ≤ 8 → Fits w64 (i * 88)
offset_fits i n lt few = omega arith

pub offset_bounds-subframes-i : goal.offset_bounds-subframes-i
offset_bounds-subframes-i c =
    let e = c.channels-channels.ensures in
    offset_fits _ _ c.loop-i-test.true (few_channels (λ v. v.items) c.channels-channels.result.now c.args.subject.now.audio.now e.sound e.items).1

pub bounds-subframes-i : goal.bounds-subframes-i
bounds-subframes-i c =
    let e = c.channels-channels.ensures in
    in_reach _ _ _ _ _ c.loop-i-test.true (many_channels (λ v. v.items) c.channels-channels.result.now c.args.subject.now.audio.now e.sound e.items) c.requires.choices c.loop-i.auto.subframes

pub part-requires : goal.part-requires
part-requires c =
    let e = c.channels-channels.ensures in
    let s = c.args.subject.now in
    record { channel = in_range (λ v. v.items) c.channels-channels.result.now s.audio.now e.sound e.items c.loop-i.i c.loop-i-test.true; within = s.within }

pub widen-requires : goal.widen-requires
widen-requires c = c.loop-i.auto.samples ∙ c.requires.size ∙ sym c.part.ensures.long

pub overflow_add-bits : goal.overflow_add-bits
overflow_add-bits c =
    let e = c.channels-channels.ensures in
    sum_fits _ _ _ _ _ c.loop-i.invariant.few c.bits-bits.ensures c.choose_plane.ensures.small c.loop-i-test.true (few_channels (λ v. v.items) c.channels-channels.result.now c.args.subject.now.audio.now e.sound e.items).1

pub choose_plane-requires : goal.choose_plane-requires
choose_plane-requires c =
    let e = c.channels-channels.ensures in
    let s = c.args.subject.now in
    let a = s.audio.now in
    let deep = bits_small a e.sound c.bits-depth.result c.bits-depth.ensures in
    let long = c.widen.auto.out ∙ c.loop-i.auto.samples ∙ c.requires.size in
    let within = in_range (λ v. v.items) c.channels-channels.result.now a e.sound e.items c.loop-i.i c.loop-i-test.true in
    let lt : c.loop-i.i < length c.loop-i.subframes = in_reach _ _ _ _ _ within refl c.requires.choices c.loop-i.auto.subframes in
    record {
      some = some_of _ _ long s.some;
      block = room_for _ _ _ _ long (ap (λ (r : Capacity). r.block) c.loop-i.invariant.room) c.requires.block;
      depth = (deep.0, few_of c.bits-depth.result 32 33 deep.1 below_33);
      fits = subst (All (FitsBits c.bits-depth.result)) (sym (c.widen.ensures ∙ c.part.ensures.part)) (part_small a e.sound s.start s.size c.loop-i.i c.bits-depth.result c.bits-depth.ensures within);
      partition = codings_still _ _ _ (ap (λ (r : Capacity). r.most) c.loop-i.invariant.room) c.requires.partition;
      places = codings_for (partition_limit a) c.args.workspace.now.most _ c.requires.partition (c.loop-i.invariant.codings c.loop-i.i c.index-subframes-i.result lt);
      orders = c.requires.orders;
    }

pub loop-i-smaller : goal.loop-i-smaller
loop-i-smaller c = falls _ _ c.loop-i-test.true

pub loop-i-init : goal.loop-i-init
loop-i-init c = record {
  first = none_chosen (partition_limit c.args.subject.now.audio.now) (lists_of c.args.subject.now.predictors.now) c.bits-depth.result c.args.subject.now.size c.args.subframes.now;
  few = none_more;
  codings = c.requires.codings;
  room = refl;
}

block_long : (start size i : ℕ) (xs : List (List ℤ)) → i ≤ length xs → length (block_of start size (take i xs)) ≡ i
block_long start size i xs few = length-map (take i xs) (λ c. take size (drop start c)) ∙ length-take-le i xs few

few_bits : (depth size bits : ℕ) → depth ≤ 32 → size ≤ 65535 → bits ≤ 8 + depth + depth * size → bits ≤ 2097160
few_bits depth size bits shallow few h = omega (arith, h, shallow, mul-le depth size 32 65535 shallow few)

pub loop-i-preserved : goal.loop-i-preserved
loop-i-preserved c =
    let w = c.channels-channels.ensures in
    let a = c.args.subject.now.audio.now in
    let lists = lists_of c.args.subject.now.predictors.now in
    let most : ℕ = partition_limit a in
    let depth : ℕ = c.bits-depth.result in
    let start : ℕ = c.args.subject.now.start in
    let size : ℕ = c.args.subject.now.size in
    let i = c.loop-i.i in
    let s = c.widen.new.out in
    let y = c.choose_plane.new.choice in
    let deep = bits_small a w.sound depth c.bits-depth.ensures in
    let so : s ≡ take size (drop start (get_or a.channels i [])) = c.widen.ensures ∙ c.part.ensures.part in
    let e = c.choose_plane.ensures in
    let k = e.chosen in
    let block = block_of start size (take i a.channels) in
    let long : length s ≡ size = c.widen.auto.out ∙ c.loop-i.auto.samples ∙ c.requires.size in
    let within : i < length a.channels = in_range (λ v. v.items) c.channels-channels.result.now a w.sound w.items i c.loop-i-test.true in
    let lt : i < length c.loop-i.subframes = in_reach _ _ _ _ _ within refl c.requires.choices c.loop-i.auto.subframes in
    let made = one_chosen most lists depth size c.loop-i.subframes i block y s c.loop-i.bits c.bits-bits.result (block_long start size i a.channels (below i (length a.channels) within)) lt c.loop-i.invariant.first
    (record { made = e.made; valid = k.valid; samples = k.samples; least = k.least; cost = c.bits-bits.ensures ∙ k.cost }) long in
    let is : block ++ s ∷ [] ≡ block_of start size (take (i + 1) a.channels) = ap (λ k. block ++ k ∷ []) so ∙ sym (block_more start size a.channels i within) in
    let fits : All (FitsBits depth) s = subst (All (FitsBits depth)) (sym so) (part_small a w.sound start size i depth c.bits-depth.ensures within) in
    let one = one_short most (limit_few a.profile a.rate) (lists i) depth deep.0 _ s (some_of _ _ long c.args.subject.now.some) fits k.least in
    let more : c.bits-bits.result ≤ 2097160 = few_bits depth (length s) c.bits-bits.result deep.1 (as_few _ _ _ long c.args.subject.now.few) (as_few _ _ _ (c.bits-bits.ensures ∙ k.cost) one) in
    let here : 2 ^ c.args.workspace.now.most ≤ vec_len y.codings = codings_still _ _ _ e.places (c.loop-i.invariant.codings i c.index-subframes-i.result lt) in
    record {
      first = subst (λ b. FirstChosen most lists depth size (set c.loop-i.subframes i y) (i + 1) b (c.loop-i.bits + c.bits-bits.result)) is made;
      few = more_bits _ _ _ c.loop-i.invariant.few more;
      codings = All-set (λ (v : WideChoice). 2 ^ c.args.workspace.now.most ≤ vec_len v.codings) c.loop-i.subframes i y here c.loop-i.invariant.codings;
      room = e.room ∙ c.loop-i.invariant.room;
    }

-- the block has all channels
whole : (start size i : ℕ) (xs : List (List ℤ)) → length xs ≤ i → i ≤ length xs → (block_of start size (take i xs) ≡ block_of start size xs) × (length (block_of start size (take i xs)) ≡ i)
whole start size i xs over few = (ap (block_of start size) (take_all i xs over), block_long start size i xs few)

pub returns-clause-chosen : goal.returns-clause-chosen
returns-clause-chosen c =
    let e = c.channels-channels.ensures in
    let a = c.args.subject.now.audio.now in
    let lists = lists_of c.args.subject.now.predictors.now in
    let size : ℕ = c.args.subject.now.size in
    let many = many_channels (λ v. v.items) c.channels-channels.result.now a e.sound e.items in
    let k = whole c.args.subject.now.start size c.loop-i.i a.channels (subst (λ n. n ≤ c.loop-i.i) many c.loop-i-test.false) (subst (λ n. c.loop-i.i ≤ n) many c.loop-i.auto.i-end) in
    subst (λ d. AreChosen (partition_limit a) lists d size c.loop-i.subframes (block_of c.args.subject.now.start size a.channels)) c.bits-depth.ensures
    (subst (λ b. AreChosen (partition_limit a) lists c.bits-depth.result size c.loop-i.subframes b) k.0 (all_chosen (partition_limit a) lists c.bits-depth.result size c.loop-i.subframes c.loop-i.i _ c.loop-i.bits k.1 c.loop-i.invariant.first).0)

pub returns-clause-bits : goal.returns-clause-bits
returns-clause-bits c =
    let e = c.channels-channels.ensures in
    let a = c.args.subject.now.audio.now in
    let lists = lists_of c.args.subject.now.predictors.now in
    let size : ℕ = c.args.subject.now.size in
    let many = many_channels (λ v. v.items) c.channels-channels.result.now a e.sound e.items in
    let k = whole c.args.subject.now.start size c.loop-i.i a.channels (subst (λ n. n ≤ c.loop-i.i) many c.loop-i-test.false) (subst (λ n. c.loop-i.i ≤ n) many c.loop-i.auto.i-end) in
    (all_chosen (partition_limit a) lists c.bits-depth.result size c.loop-i.subframes c.loop-i.i _ c.loop-i.bits k.1 c.loop-i.invariant.first).1 ∙ ap (λ b. length (flat_map (subframe_spelling c.bits-depth.result) (forms_by_plane lists c.loop-i.subframes b))) k.0
    ∙ ap (λ d. length (flat_map (subframe_spelling d) (forms_by_plane lists c.loop-i.subframes (block_of c.args.subject.now.start size a.channels)))) c.bits-depth.ensures

pub returns-clause-codings : goal.returns-clause-codings
returns-clause-codings c = c.loop-i.invariant.codings

pub returns-clause-room : goal.returns-clause-room
returns-clause-room c = c.loop-i.invariant.room
