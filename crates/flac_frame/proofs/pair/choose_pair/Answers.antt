use Rattle.std.proofs.Common.{List, [], ◌∷◌, ◌≡◌, ◌∙◌, ◌+◌, ◌*◌, ◌<◌, ◌≤◌, sym, ap, subst, length, ℕ, All, arith}
use Rattle.std.proofs.lemmas.List.{with_items_is, length-take-le}
use Rattle.std.specs.Vec.{with_items}
use Rattle.flac_bits.specs.Signed.{FitsBits}
use Rattle.flac_subframe.specs.declared.search.wide_choice.WideChoice.{WideChoice}
use Rattle.flac_frame.specs.declared.frame_choice.FrameChoice.{FrameChoice}
use Rattle.flac_header.specs.Assignment.{code_of}
use Rattle.flac_frame.specs.Audio.{samples_each}
use Rattle.flac_frame.specs.Chosen.{AllHaveCodings}
use Rattle.flac_frame.specs.Encoding.{block_of, partition_limit}
use Rattle.flac_frame.specs.PlaneLists.{lists_of}
use Rattle.flac_frame.specs.inner.Pair.{ArePlanes}
use Rattle.flac_frame.proofs.PairLeast.{pair_choice}
use Rattle.flac_frame.proofs.Capacities.{as_few, some_of, quarter}
use Rattle.flac_frame.proofs.Sounds.{depth_small}
use Rattle.flac_frame.proofs.pair.choose_pair.Goals as goal

-- the parts that the places are split into
second_room : (n all a : ℕ) → 4 * n ≤ all → a + n ≡ all → n ≤ a
second_room n all a room first = omega arith

third_room : (n all a b : ℕ) → 4 * n ≤ all → a + n ≡ all → b + n ≡ a → n ≤ b
third_room n all a b room first second = omega arith

fourth_room : (n all a b d : ℕ) → 4 * n ≤ all → a + n ≡ all → b + n ≡ a → d + n ≡ b → n ≤ d
fourth_room n all a b d room first second third = omega arith

at_least_one : (n : ℕ) → 0 < n → 1 ≤ n
at_least_one n some = omega arith

pub split_at_mut-left-requires : goal.split_at_mut-left-requires
split_at_mut-left-requires c = quarter _ _ c.requires.places

pub split_at_mut-right-requires : goal.split_at_mut-right-requires
split_at_mut-right-requires c = second_room _ _ _ c.requires.places c.split_at_mut-left.ensures.back_len

pub split_at_mut-side-requires : goal.split_at_mut-side-requires
split_at_mut-side-requires c = third_room _ _ _ _ c.requires.places c.split_at_mut-left.ensures.back_len c.split_at_mut-right.ensures.back_len

pub split_pair-requires : goal.split_pair-requires
split_pair-requires c =
    let s = c.args.subject.now in
    let first = c.split_at_mut-left.ensures.front_len in
    let room = fourth_room s.size _ _ _ _ c.requires.places c.split_at_mut-left.ensures.back_len c.split_at_mut-right.ensures.back_len c.split_at_mut-side.ensures.back_len in
    record {
      two = c.requires.two;
      within = subst (λ n. s.start + n ≤ samples_each s.audio.now.channels) (sym first) s.within;
      right = c.split_at_mut-right.ensures.front_len ∙ sym first;
      side = c.split_at_mut-side.ensures.front_len ∙ sym first;
      middle = length-take-le s.size c.split_at_mut-side.result.1.now room ∙ sym first;
    }

pub choose_planes-assignment-requires : goal.choose_planes-assignment-requires
choose_planes-assignment-requires c = record {
  block = as_few _ _ _ (c.split_pair.auto.left ∙ c.split_at_mut-left.ensures.front_len) c.requires.block;
  partition = c.requires.partition;
  codings = c.requires.codings;
  orders = c.requires.orders;
}

pub keep-requires : goal.keep-requires
keep-requires c = record {
  valid = c.choose_planes-assignment.ensures.valid;
  two = subst (λ (l : List WideChoice). 2 ≤ length l) (sym c.deref_mut.ensures.value) c.requires.choices.many;
}

pub returns-clause-room : goal.returns-clause-room
returns-clause-room c = c.choose_planes-assignment.ensures.room

pub returns-clause-many : goal.returns-clause-many
returns-clause-many c =
    let kept = c.keep.auto.places ∙ ap length c.deref_mut.ensures.value in
    ap length (with_items_is c.args.choice.now.subframes c.keep.new.places (kept ∙ sym c.args.choice.now.subframes.ok.0)) ∙ kept

pub invariant_of-planes : goal.invariant_of-planes
invariant_of-planes c =
    let s = c.split_pair in
    let a = c.args.subject.now.audio.now in
    let some = c.args.subject.now.some in
    let is = sym c.bits-depth.ensures in
    let left_long = s.auto.left ∙ c.split_at_mut-left.ensures.front_len in
    record {
      some = some_of _ _ left_long some;
      long = s.auto.right ∙ c.split_at_mut-right.ensures.front_len ∙ sym left_long;
      sides = s.ensures.side;
      middles = s.ensures.middle;
      deep = rw c.bits-depth.ensures (depth_small a.profile a.bits c.channels-channels.ensures.sound.bits);
      left_fits = subst (λ b. All (FitsBits b) s.new.left) is s.ensures.left_fits;
      right_fits = subst (λ b. All (FitsBits b) s.new.right) is s.ensures.right_fits;
    }

pub returns-clause-chosen : goal.returns-clause-chosen
returns-clause-chosen c =
    let s = c.split_pair in
    let a = c.args.subject.now.audio.now in
    let n : ℕ = c.args.subject.now.size in
    let k = c.choose_planes-assignment in
    let old = c.deref_mut.result.now in
    let made : FrameChoice = record { code = c.code-code.result; bits = k.result.1; subframes = with_items c.args.choice.now.subframes c.keep.new.places } in
    let back : made.subframes.items ≡ c.keep.new.places = with_items_is c.args.choice.now.subframes c.keep.new.places (c.keep.auto.places ∙ ap length c.deref_mut.ensures.value ∙ sym c.args.choice.now.subframes.ok.0) in
    let planes = subst (λ b. ArePlanes (partition_limit a) (lists_of c.args.subject.now.predictors.now) b s.new.left s.new.right k.new.choices) c.bits-depth.ensures k.ensures.planes in
    let long : length s.new.left ≡ n = s.auto.left ∙ c.split_at_mut-left.ensures.front_len in
    let right_long : length s.new.right ≡ length s.new.left = s.auto.right ∙ c.split_at_mut-right.ensures.front_len ∙ sym long in
    let front : length c.split_at_mut-left.result.0.now ≡ n = c.split_at_mut-left.ensures.front_len in
    let block : s.new.left ∷ s.new.right ∷ [] ≡ block_of c.args.subject.now.start n a.channels = s.ensures.block ∙ ap (λ (m : ℕ). block_of c.args.subject.now.start m a.channels) front in
    pair_choice (lists_of c.args.subject.now.predictors.now) a c.args.subject.now.number n s.new.left s.new.right (block_of c.args.subject.now.start n a.channels) k.new.choices (code_of k.result.0) planes k.ensures.best c.channels-channels.ensures.sound c.requires.orders
    (at_least_one n c.args.subject.now.some) c.args.subject.now.few long right_long s.ensures.left_fits s.ensures.right_fits block
    c.profile.result c.rate.result c.bits-depth.result c.chosen_in-header.result c.profile.ensures c.rate.ensures c.bits-depth.ensures (rw c.code-code.ensures.code at c.chosen_in-header.ensures.chosen) c.chosen_in-header.ensures.valid c.requires.number
    made old (subst (λ (l : List WideChoice). 2 ≤ length l) (sym c.deref_mut.ensures.value) c.requires.choices.many) c.code-code.ensures.code (back ∙ c.keep.ensures.kept) k.ensures.bits

pub returns-clause-codings : goal.returns-clause-codings
returns-clause-codings c = (c.keep.ensures.codings c.args.workspace.now.most c.choose_planes-assignment.ensures.codings (subst (λ l. AllHaveCodings c.args.workspace.now.most l) (sym c.deref_mut.ensures.value) c.requires.choices.codings)).0

pub returns-clause-choices : goal.returns-clause-choices
returns-clause-choices c =
    let most : ℕ = c.args.workspace.now.most in
    let made : FrameChoice = record { code = c.code-code.result; bits = c.choose_planes-assignment.result.1; subframes = with_items c.args.choice.now.subframes c.keep.new.places } in
    let back : made.subframes.items ≡ c.keep.new.places = with_items_is c.args.choice.now.subframes c.keep.new.places (c.keep.auto.places ∙ ap length c.deref_mut.ensures.value ∙ sym c.args.choice.now.subframes.ok.0) in
    let codings = (c.keep.ensures.codings most c.choose_planes-assignment.ensures.codings (subst (λ l. AllHaveCodings most l) (sym c.deref_mut.ensures.value) c.requires.choices.codings)).1 in
    record {
      many = subst (λ n. 2 ≤ n) (sym (ap length back ∙ c.keep.auto.places ∙ ap length c.deref_mut.ensures.value)) c.requires.choices.many;
      codings = subst (λ (l : List WideChoice). AllHaveCodings most l) (sym back) codings;
    }
