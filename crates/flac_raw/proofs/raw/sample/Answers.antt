use Rattle.std.proofs.Common.{◌<◌, ◌*◌, ℕ, length, get_or, ap, ◌∙◌, arith, w32, FitsSigned}
use Rattle.std.proofs.lemmas.Int.{ints}
use Rattle.flac_bits.specs.Signed.{FitsBits}
use Rattle.flac_native.specs.Message.{sample_bytes}
use Rattle.flac_raw.proofs.TwosComplement.{twos_fit, twos_bytes, fits_word, narrowed}
use Rattle.flac_raw.proofs.raw.sample.Goals as goal

pub overflow_cast-result : goal.overflow_cast-result
overflow_cast-result c =
    let bs = c.args.bytes.now in
    let small : (i : ℕ) → get_or bs i 0 < 256 = λ i. let f = c.type_inv.bytes i in omega (arith, f) in
    let fits : FitsBits (8 * length bs) c.read_int.result = rw c.read_int.ensures (twos_fit bs c.requires.0 c.requires.1 small) in
    let word : FitsSigned w32 c.read_int.result = fits_word (length bs) _ c.requires.1 fits in
    omega (arith, ints)

pub returns-clause-number : goal.returns-clause-number
returns-clause-number c =
    let bs = c.args.bytes.now in
    let small : (i : ℕ) → get_or bs i 0 < 256 = λ i. let f = c.type_inv.bytes i in omega (arith, f) in
    let fits : FitsBits (8 * length bs) c.read_int.result = rw c.read_int.ensures (twos_fit bs c.requires.0 c.requires.1 small) in
    narrowed c.read_int.result (fits_word (length bs) _ c.requires.1 fits) ∙ c.read_int.ensures

pub returns-clause-bytes : goal.returns-clause-bytes
returns-clause-bytes c =
    let bs = c.args.bytes.now in
    let small : (i : ℕ) → get_or bs i 0 < 256 = λ i. let f = c.type_inv.bytes i in omega (arith, f) in
    let fits : FitsBits (8 * length bs) c.read_int.result = rw c.read_int.ensures (twos_fit bs c.requires.0 c.requires.1 small) in
    let same = narrowed c.read_int.result (fits_word (length bs) _ c.requires.1 fits) in
    ap (sample_bytes (length bs)) (same ∙ c.read_int.ensures) ∙ twos_bytes bs c.requires.1 small

pub returns-clause-fits : goal.returns-clause-fits
returns-clause-fits c =
    let bs = c.args.bytes.now in
    let small : (i : ℕ) → get_or bs i 0 < 256 = λ i. let f = c.type_inv.bytes i in omega (arith, f) in
    let fits : FitsBits (8 * length bs) c.read_int.result = rw c.read_int.ensures (twos_fit bs c.requires.0 c.requires.1 small) in
    rw (narrowed c.read_int.result (fits_word (length bs) _ c.requires.1 fits)) fits
