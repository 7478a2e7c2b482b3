use Rattle.std.proofs.Common.{◌≡◌, ◌<◌, ℕ, Bool, true, false, List, [], ◌∷◌, length, refl, ◌∙◌, arith}
use Rattle.std.specs.Prelude.{IsTrue, ◌↔◌}
use Rattle.std.proofs.lemmas.List.{nil_from_length}
use Rattle.flac_bits.proofs.Pulled.{held_pulls, same_pulls}
use Rattle.flac_bits.proofs.reader.refill.Goals as goal

some_held : (b : Bool) (xs : List ℕ) → b ≡ false → IsTrue b ↔ (xs ≡ []) → 0 < length xs
some_held b [] e h = let t : b ≡ true = h.1 refl in absurd cc
some_held b (x ∷ xs) e h = omega arith

pub returns-then-not-is_drained-clause-pulls : goal.returns-then-not-is_drained-clause-pulls
returns-then-not-is_drained-clause-pulls g c = held_pulls g.R.Source c.args.held.now c.put_back.new.self c.args.source.now c.put_back.ensures.same

pub returns-clause-pulls : goal.returns-clause-pulls
returns-clause-pulls g c = same_pulls g.R.Source c.args.held.now c.put_back.new.self c.pull.new.self c.args.source.now c.pull.new.source c.pull.result c.put_back.ensures.same c.pull.ensures.pulls

pub returns-clause-more : goal.returns-clause-more
returns-clause-more g c = c.pull.ensures.more

pub returns-clause-word : goal.returns-clause-word
returns-clause-word g c = c.pull.ensures.word

pub returns-then-not-is_drained-clause-more : goal.returns-then-not-is_drained-clause-more
returns-then-not-is_drained-clause-more g c = λ _. some_held c.is_drained.result c.put_back.new.self.bytes c.if-not-is_drained.true c.is_drained.ensures

pub returns-then-not-is_drained-clause-word : goal.returns-then-not-is_drained-clause-word
returns-then-not-is_drained-clause-word g c = nil_from_length c.put_back.new.self.word (c.put_back.ensures.part ∙ c.requires)

pub pull-requires : goal.pull-requires
pull-requires g c = (nil_from_length c.put_back.new.self.word (c.put_back.ensures.part ∙ c.requires), c.is_drained.ensures.0 c.if-not-is_drained.false)
