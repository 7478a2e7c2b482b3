use Rattle.std.proofs.Common.{◌≡◌, length, inl, refl, sym, subst, ◌∙◌, arith}
use Rattle.std.proofs.lemmas.Result.{on_ok_weaker}
use Rattle.flac_edit.specs.Device.{Torn, Whole, Holds, Only}
use Rattle.flac_edit.proofs.Moments.{writes, writes_synced}
use Rattle.flac_edit.proofs.Writes.{torn_same, holds_long}
use Rattle.flac_edit.proofs.store.store.Goals as goal

pub returns-in_err-write_at-clause-any_moment : goal.returns-in_err-write_at-clause-any_moment
returns-in_err-write_at-clause-any_moment g c =
    λ k. writes _ _ _ (Torn c.args.at (length c.args.bytes.now)) (torn_same c.args.at (length c.args.bytes.now) _) (c.requires.durable k) (λ f left. g.met.D.Device.only_now c.args.device.now f k left) (c.write_at.ensures.crash k) (c.write_at.ensures.time k)

pub returns-in_err-write_at-clause-whole : goal.returns-in_err-write_at-clause-whole
returns-in_err-write_at-clause-whole g c =
    λ k word. writes _ _ _ (Whole c.args.at c.args.bytes.now) (inl refl) (c.requires.durable k) (λ f left. g.met.D.Device.only_now c.args.device.now f k left) (c.write_at.ensures.whole k word) (c.write_at.ensures.time k)

pub returns-clause-stored : goal.returns-clause-stored
returns-clause-stored g c =
    on_ok_weaker
    c.sync.result
    (λ durable k. subst (λ l. Holds (g.D.Device.seen c.args.device.now) c.args.at c.args.bytes.now l) (sym (c.sync.ensures.seen (c.write_at.ensures.known ∙ k))) (c.in_ok-write_at.ensures.written k))
    c.sync.ensures.durable

pub returns-clause-long : goal.returns-clause-long
returns-clause-long g c =
    on_ok_weaker
    c.sync.result
    (λ durable k. subst (λ l. length l ≡ length (g.D.Device.seen c.args.device.now)) (sym (c.sync.ensures.seen (c.write_at.ensures.known ∙ k))) (holds_long _ _ c.args.bytes.now c.args.at (c.requires.fits k) (c.in_ok-write_at.ensures.written k)))
    c.sync.ensures.durable

pub returns-clause-durable : goal.returns-clause-durable
returns-clause-durable g c =
    on_ok_weaker
    c.sync.result
    (λ durable k.
    let j = c.write_at.ensures.known ∙ k in
    subst (λ l. Only l (g.D.Device.time c.sync.new.self)) (sym (c.sync.ensures.seen j)) (durable j))
    c.sync.ensures.durable

pub returns-clause-any_moment : goal.returns-clause-any_moment
returns-clause-any_moment g c =
    λ k.
    let j = c.write_at.ensures.known ∙ k in
    writes_synced _ _ _ _ (Torn c.args.at (length c.args.bytes.now)) (torn_same c.args.at (length c.args.bytes.now) _) (c.requires.durable k) (λ f left. g.met.D.Device.only_now c.args.device.now f k left) (λ f left. g.met.D.Device.only_now c.write_at.new.self f j left) (c.write_at.ensures.crash k) (c.write_at.ensures.time k) (c.sync.ensures.crash j) (c.sync.ensures.time j)

pub returns-clause-whole : goal.returns-clause-whole
returns-clause-whole g c =
    λ k word.
    let j = c.write_at.ensures.known ∙ k in
    writes_synced _ _ _ _ (Whole c.args.at c.args.bytes.now) (inl refl) (c.requires.durable k) (λ f left. g.met.D.Device.only_now c.args.device.now f k left) (λ f left. g.met.D.Device.only_now c.write_at.new.self f j left) (c.write_at.ensures.whole k word) (c.write_at.ensures.time k) (c.sync.ensures.crash j) (c.sync.ensures.time j)

pub returns-clause-faults : goal.returns-clause-faults
returns-clause-faults g c =
    λ k.
    let a = (c.write_at.ensures.cause k).later in
    let b = (c.sync.ensures.cause (c.write_at.ensures.known ∙ k)).later in
    omega (arith, a, b)

pub returns-clause-failed : goal.returns-clause-failed
returns-clause-failed g c =
    λ k is.
    let a = (c.write_at.ensures.cause k).later in
    let b = (c.sync.ensures.cause (c.write_at.ensures.known ∙ k)).failed is in
    omega (arith, a, b)
