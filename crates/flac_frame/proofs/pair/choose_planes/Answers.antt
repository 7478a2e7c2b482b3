use Rattle.std.proofs.Common.{◌≡◌, ◌∙◌, ◌+◌, ◌≤◌, ℕ, Fits, w32, ap, subst, sym, length, All, arith}
use Rattle.flac_bits.specs.Signed.{FitsBits}
use Rattle.flac_header.specs.Assignment.{code_of}
use Rattle.flac_subframe.specs.search.Capacity.{Capacity}
use Rattle.flac_frame.specs.Encoding.{partition_limit}
use Rattle.flac_frame.specs.PlaneLists.{lists_of}
use Rattle.flac_frame.specs.inner.Pair.{IsFirstLeast, IsPlane, pair_cost}
use Rattle.flac_frame.proofs.Pairs.{side_long, middle_long, side_fits, middle_fits}
use Rattle.flac_frame.proofs.Capacities.{as_few, room_for, some_of, codings_for, codings_still}
use Rattle.flac_frame.proofs.pair.choose_planes.Goals as goal

-- the depth of a plane
within_33 : (n : ℕ) → (1 ≤ n) × (n ≤ 32) → (1 ≤ n) × (n ≤ 33)
within_33 n few = let most = few.1 in (few.0, omega (arith, most))

one_more : (n : ℕ) → n ≤ 32 → (1 ≤ n + 1) × (n + 1 ≤ 33)
one_more n few = (omega arith, omega arith)

more_fits : (n : ℕ) → n ≤ 32 → Fits w32 (n + 1)
more_fits n few = omega arith

-- the cost of a code, from equal parts
same_cost : (l r s m a b c d : ℕ) → l ≡ a → r ≡ b → s ≡ c → m ≡ d → pair_cost l r s m ≡ pair_cost a b c d
same_cost l r s m a b c d left right side middle = ap (λ k. pair_cost k r s m) left ∙ ap (λ k. pair_cost a k s m) right ∙ ap (λ k. pair_cost a b k m) side ∙ ap (pair_cost a b c) middle

pub overflow_add-depth : goal.overflow_add-depth
overflow_add-depth c = let p = c.args.planes.now in more_fits p.depth p.deep.1

pub choose_plane-requires : goal.choose_plane-requires
choose_plane-requires c =
    let p = c.args.planes.now in
    record {
      some = p.some;
      block = c.requires.block;
      depth = within_33 p.depth p.deep;
      fits = p.left_fits;
      partition = c.requires.partition;
      places = codings_for _ _ _ c.requires.partition c.requires.codings.left;
      orders = c.requires.orders;
    }

pub choose_plane-requires-2 : goal.choose_plane-requires-2
choose_plane-requires-2 c =
    let p = c.args.planes.now in
    let room = c.choose_plane.ensures.room in
    record {
      some = some_of _ _ p.long p.some;
      block = room_for _ _ _ _ p.long (ap (λ (r : Capacity). r.block) room) c.requires.block;
      depth = within_33 p.depth p.deep;
      fits = p.right_fits;
      partition = codings_still _ _ _ (ap (λ (r : Capacity). r.most) room) c.requires.partition;
      places = codings_for _ _ _ c.requires.partition c.requires.codings.right;
      orders = c.requires.orders;
    }

pub choose_plane-requires-3 : goal.choose_plane-requires-3
choose_plane-requires-3 c =
    let p = c.args.planes.now in
    let room = c.choose_plane-2.ensures.room ∙ c.choose_plane.ensures.room in
    let long : length p.side.now ≡ length p.left.now = ap length p.sides ∙ side_long p.left.now p.right.now p.long in
    record {
      some = some_of _ _ long p.some;
      block = room_for _ _ _ _ long (ap (λ (r : Capacity). r.block) room) c.requires.block;
      depth = one_more p.depth p.deep.1;
      fits = subst (All (FitsBits (p.depth + 1))) (sym p.sides) (side_fits p.left.now p.right.now p.long p.depth p.deep.0 p.left_fits p.right_fits);
      partition = codings_still _ _ _ (ap (λ (r : Capacity). r.most) room) c.requires.partition;
      places = codings_for _ _ _ c.requires.partition c.requires.codings.side;
      orders = c.requires.orders;
    }

pub choose_plane-requires-4 : goal.choose_plane-requires-4
choose_plane-requires-4 c =
    let p = c.args.planes.now in
    let room = c.choose_plane-3.ensures.room ∙ c.choose_plane-2.ensures.room ∙ c.choose_plane.ensures.room in
    let long : length p.middle.now ≡ length p.left.now = ap length p.middles ∙ middle_long p.left.now p.right.now p.long in
    record {
      some = some_of _ _ long p.some;
      block = room_for _ _ _ _ long (ap (λ (r : Capacity). r.block) room) c.requires.block;
      depth = within_33 p.depth p.deep;
      fits = subst (All (FitsBits p.depth)) (sym p.middles) (middle_fits p.left.now p.right.now p.long p.depth p.left_fits p.right_fits);
      partition = codings_still _ _ _ (ap (λ (r : Capacity). r.most) room) c.requires.partition;
      places = codings_for _ _ _ c.requires.partition c.requires.codings.middle;
      orders = c.requires.orders;
    }

pub least_assignment-requires : goal.least_assignment-requires
least_assignment-requires c = record {
  left = as_few _ _ _ c.bits.ensures c.choose_plane.ensures.small;
  right = as_few _ _ _ c.bits-2.ensures c.choose_plane-2.ensures.small;
  side = as_few _ _ _ c.bits-3.ensures c.choose_plane-3.ensures.small;
  middle = as_few _ _ _ c.bits-4.ensures c.choose_plane-4.ensures.small;
}

pub returns : goal.returns
returns c =
    let p = c.args.planes.now in
    let most : ℕ = partition_limit c.args.subject.now.audio.now in
    let lists = lists_of c.args.subject.now.predictors.now in
    let l = c.choose_plane.ensures in
    let r = c.choose_plane-2.ensures in
    let s = c.choose_plane-3.ensures in
    let m = c.choose_plane-4.ensures in
    let code = code_of c.least_assignment.result.0 in
    let cost = same_cost _ _ _ _ _ _ _ _ c.bits.ensures c.bits-2.ensures c.bits-3.ensures c.bits-4.ensures in
    record {
      planes = record {
        lefts = record { chosen = l.chosen; made = l.made };
        rights = record { chosen = r.chosen; made = r.made };
        sides = subst (λ k. IsPlane most (lists 2) (p.depth + 1) k c.choose_plane-3.new.choice) p.sides (record { chosen = s.chosen; made = s.made });
        middles = subst (λ k. IsPlane most (lists 3) p.depth k c.choose_plane-4.new.choice) p.middles (record { chosen = m.chosen; made = m.made });
      };
      valid = c.least_assignment.ensures.valid;
      best = subst (λ f. IsFirstLeast f code) cost c.least_assignment.ensures.best;
      bits = c.least_assignment.ensures.bits ∙ ap (λ f. f code) cost;
      codings = record {
        left = codings_still _ _ _ l.places c.requires.codings.left;
        right = codings_still _ _ _ r.places c.requires.codings.right;
        side = codings_still _ _ _ s.places c.requires.codings.side;
        middle = codings_still _ _ _ m.places c.requires.codings.middle;
      };
      room = m.room ∙ s.room ∙ r.room ∙ l.room;
    }
