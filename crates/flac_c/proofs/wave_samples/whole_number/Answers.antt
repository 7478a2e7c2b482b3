use Rattle.std.proofs.Common.{◌<◌, ℕ, get_or, arith, ◌∙◌, refl, length, w32, FitsSigned}
use Rattle.std.proofs.lemmas.Int.{ints}
use Rattle.std.proofs.lemmas.Bool.{ne_eqb}
use Rattle.flac_c.proofs.WaveNumbers.{twos_word, narrowed}
use Rattle.flac_c.proofs.wave_samples.whole_number.Goals as goal

pub overflow_cast-result : goal.overflow_cast-result
overflow_cast-result c =
    let bs = c.args.sample.now in
    let small : (i : ℕ) → get_or bs i 0 < 256 = λ i. let f = c.type_inv.sample i in omega (arith, f) in
    let word : FitsSigned w32 c.read_int.result = rw c.read_int.ensures (twos_word bs c.requires.0 c.requires.1 small) in
    omega (arith, ints)

pub returns : goal.returns
returns c =
    let bs = c.args.sample.now in
    let small : (i : ℕ) → get_or bs i 0 < 256 = λ i. let f = c.type_inv.sample i in omega (arith, f) in
    let word : FitsSigned w32 c.read_int.result = rw c.read_int.ensures (twos_word bs c.requires.0 c.requires.1 small) in
    let same = narrowed c.read_int.result word ∙ c.read_int.ensures in
    let more = ne_eqb (length bs) 1 c.if-sample-eq1.false in
    same ∙ (rw more refl)
