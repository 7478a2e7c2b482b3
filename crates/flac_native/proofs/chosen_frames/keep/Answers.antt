use Rattle.std.proofs.Common.{◌≡◌, ◌∷◌, ◌++◌, [], cond, nat_lt, true, false, length, ap, sym, ◌∙◌, arith}
use Rattle.std.proofs.lemmas.Bool.Decides.{nat_tests}
use Rattle.flac_native.proofs.Gathered.{itself}
use Rattle.flac_native.proofs.chosen_frames.keep.Goals as goal

pub returns-then-len-most-clause-kept : goal.returns-then-len-most-clause-kept
returns-then-len-most-clause-kept c =
    let old = c.args.choices.now.items in
    let over : nat_lt (length old) c.args.most ≡ false = grind (arith, nat_tests) in
    (c.args.choice.now, itself c.args.choice.now, ap (λ b. cond b (old ++ c.args.choice.now ∷ []) old) (sym over))

pub returns-clause-kept : goal.returns-clause-kept
returns-clause-kept c =
    let old = c.args.choices.now.items in
    let kept = c.in_ok-kept.kept in
    let below : nat_lt (length old) c.args.most ≡ true = grind (arith, nat_tests) in
    (kept, record { same = c.in_ok-kept.ensures.same_by_plane; many = c.in_ok-kept.ensures.many }, c.in_ok-push.ensures.items ∙ ap (λ b. cond b (old ++ kept ∷ []) old) (sym below))
