use Rattle.std.proofs.Common.{◌≡◌, ◌≤◌, ◌<◌, Bool, true, false, Result, Ok, Err, ℕ, List, length, [], refl, ap, ◌∙◌, arith}
use Rattle.std.proofs.lemmas.List.{nil_from_length}
use Rattle.flac_bits.specs.Store.{Store}
use Rattle.flac_bits.specs.inner.Store.{HoldsSame}
use Rattle.flac_bits.specs.declared.why.Why.{Why}
use Rattle.flac_bits.proofs.Pulled.{held_pulls, pulls_same}
use Rattle.flac_bits.proofs.reader.fill.Goals as goal

begun_is : (b : Bool) (pulled begun : Store) → (b ≡ true → HoldsSame pulled begun × (length begun.word ≡ 8)) → (b ≡ false → (begun ≡ pulled) × (pulled.bytes ≡ [])) → HoldsSame pulled begun
begun_is true pulled begun more none = (more refl).0
begun_is false pulled begun more none = rw ((none refl).0) (refl, refl, refl)

-- a byte was begun if there is one
begun_long : (b : Bool) (r : Result Bool Why) (pulled begun : Store) → (b ≡ true → HoldsSame pulled begun × (length begun.word ≡ 8)) → (b ≡ false → (begun ≡ pulled) × (pulled.bytes ≡ [])) → (r ≡ Ok true → 0 < length pulled.bytes) → r ≡ Ok true → 1 ≤ length begun.word
begun_long true r pulled begun more none some is = omega (arith, (more refl).1)
begun_long false r pulled begun more none some is = absurd (omega (arith, rw (none refl).1 at (some is)))

none_ready : (n : ℕ) (w : List Bool) → n ≤ 0 → n ≡ length w → w ≡ []
none_ready n w le is = nil_from_length w (omega (arith, le, is))

failed : (e : Why) → Err e ≡ Ok true → ⊥
failed e is = cc

pub returns-then-ready-gt0-clause-pulls : goal.returns-then-ready-gt0-clause-pulls
returns-then-ready-gt0-clause-pulls g c = held_pulls g.R.Source c.args.held.now c.args.held.now c.args.source.now (refl, refl, refl)

pub returns-then-ready-gt0-clause-more : goal.returns-then-ready-gt0-clause-more
returns-then-ready-gt0-clause-more g c = λ _. omega (arith, c.if-ready-gt0.true, c.ready.ensures.0)

pub returns-then-begin_byte-clause-pulls : goal.returns-then-begin_byte-clause-pulls
returns-then-begin_byte-clause-pulls g c = held_pulls g.R.Source c.args.held.now c.begin_byte.new.self c.args.source.now (c.begin_byte.ensures.more c.if-begin_byte.true).0

pub returns-then-begin_byte-clause-more : goal.returns-then-begin_byte-clause-more
returns-then-begin_byte-clause-more g c = λ _. omega (arith, (c.begin_byte.ensures.more c.if-begin_byte.true).1)

pub returns-in-Ok-clause-pulls : goal.returns-in-Ok-clause-pulls
returns-in-Ok-clause-pulls g c =
    let same = begun_is _ _ _ c.begin_byte-begun.ensures.more c.begin_byte-begun.ensures.none in
    let unchanged : c.begin_byte.new.self ≡ c.args.held.now = (c.begin_byte.ensures.none c.if-begin_byte.false).0 in
    rw (← unchanged) (pulls_same g.R.Source c.begin_byte.new.self c.pull.new.self c.begin_byte-begun.new.self c.args.source.now c.pull.new.source c.in-Ok.more c.in-Ok.ensures.pulls same)

pub returns-in-Ok-clause-more : goal.returns-in-Ok-clause-more
returns-in-Ok-clause-more g c = begun_long _ _ _ _ c.begin_byte-begun.ensures.more c.begin_byte-begun.ensures.none c.in-Ok.ensures.more

pub returns-in-Err-clause-pulls : goal.returns-in-Err-clause-pulls
returns-in-Err-clause-pulls g c =
    let unchanged : c.begin_byte.new.self ≡ c.args.held.now = (c.begin_byte.ensures.none c.if-begin_byte.false).0 in
    rw (← unchanged) c.in-Err.ensures.pulls

pub returns-in-Err-clause-more : goal.returns-in-Err-clause-more
returns-in-Err-clause-more g c = λ is. absurd (failed _ is)

pub begin_byte-requires : goal.begin_byte-requires
begin_byte-requires g c = none_ready _ _ c.if-ready-gt0.false c.ready.ensures.0

pub pull-requires : goal.pull-requires
pull-requires g c =
    let none = c.begin_byte.ensures.none c.if-begin_byte.false in
    (ap (λ (s : Store). s.word) none.0 ∙ none_ready _ _ c.if-ready-gt0.false c.ready.ensures.0, ap (λ (s : Store). s.bytes) none.0 ∙ none.1)

pub begin_byte-begun-requires : goal.begin_byte-begun-requires
begin_byte-begun-requires g c = c.in-Ok.ensures.word
