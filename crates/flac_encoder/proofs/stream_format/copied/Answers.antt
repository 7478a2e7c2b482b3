use Rattle.std.proofs.Common.{◌≡◌, ℕ, ◌+◌, ◌<◌, ◌++◌, List, [], ◌∷◌, length, take, get_or, map, refl, sym, ap, ◌∙◌}
use Rattle.std.proofs.lemmas.List.{map_push, map_more, take_all}
use Rattle.std.proofs.lemmas.Result.{err_from_is_err_and}
use Rattle.flac_encoder.proofs.stream_format.copied.Goals as goal

-- one more that is copied
one_more : {X Y Z : Type 0} (f : X → Z) (g : Y → Z) (all new : List X) (x : X) (xs : List Y) (i : ℕ) (d : Y) → new ≡ all ++ x ∷ [] → f x ≡ g (get_or xs i d) → i < length xs
    → map f all ≡ map g (take i xs) → map f new ≡ map g (take (i + 1) xs)
one_more f g all new x xs i d push one lt so =
    ap (map f) push ∙ map_push f all x ∙ ap (λ l. l ++ f x ∷ []) so ∙ ap (λ z. map g (take i xs) ++ z ∷ []) one ∙ sym (map_more g xs i d lt)

pub loop-channel-init : goal.loop-channel-init
loop-channel-init c = ap (map (λ v. v.items)) c.in_ok-channels.ensures.items

pub loop-channel-preserved : goal.loop-channel-preserved
loop-channel-preserved c =
    one_more (λ v. v.items) (λ b. b.now) _ _ c.in_ok-samples.samples c.args.block.now c.loop-channel.channel-index _ c.in_ok-push.ensures.items c.in_ok-samples.ensures.items c.loop-channel-test.true c.loop-channel.invariant

pub returns-in_err-push-clause-memory : goal.returns-in_err-push-clause-memory
returns-in_err-push-clause-memory c =
    let p = err_from_is_err_and c.from_residual-in_err-push.result c.from_residual-in_err-push.ensures.1 in
    rw p.1 p.2

pub returns-in_err-samples-clause-memory : goal.returns-in_err-samples-clause-memory
returns-in_err-samples-clause-memory c =
    let p = err_from_is_err_and c.from_residual-in_err-samples.result c.from_residual-in_err-samples.ensures.1 in
    rw p.1 p.2

pub returns-in_err-channels-clause-memory : goal.returns-in_err-channels-clause-memory
returns-in_err-channels-clause-memory c =
    let p = err_from_is_err_and c.from_residual.result c.from_residual.ensures.1 in
    rw p.1 p.2

pub slice_bounds-from_slice-end : goal.slice_bounds-from_slice-end
slice_bounds-from_slice-end c = refl

pub bounds-block-channel-index : goal.bounds-block-channel-index
bounds-block-channel-index c = c.loop-channel-test.true

pub returns-clause-items : goal.returns-clause-items
returns-clause-items c = c.loop-channel.invariant ∙ ap (map (λ b. b.now)) (take_all c.loop-channel.channel-index c.args.block.now c.loop-channel-test.false)
