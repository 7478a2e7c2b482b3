-- The layout of a frame header spells headers, and each of them in one way.
use Rattle.std.proofs.Common.{◌≡◌, ℕ, zero, suc, ◌<◌, ◌≤◌, Bool, true, false, not, nat_eq, nat_lt, List, [], ◌∷◌, ◌++◌, refl, sym, ap, subst, ◌∙◌, arith}
use Rattle.std.proofs.lemmas.Bool.Decides.{nat_tests}
use Rattle.flac_bits.specs.Bits.{unsigned, bit_value}
use Rattle.flac_bits.specs.State.{Mark}
use Rattle.flac_bits.specs.Check.{remainder}
use Rattle.flac_bits.specs.Number.{number}
use Rattle.flac_bits.specs.Coded.{number_spelling, IsNumber}
use Rattle.flac_bits.specs.Forms.{joined}
use Rattle.flac_bits.specs.inner.Forms.{Ties}
use Rattle.flac_bits.proofs.CodedTie.{number_tie}
use Rattle.flac_bits.specs.Meaning.{Spells}
use Rattle.flac_bits.proofs.Meaning.{again}
use Rattle.flac_bits.proofs.Ties.{tie, each_tied, some_tied}
use Rattle.flac_header.specs.Header.{Header, header, IsHeader, IsSize, IsRate, size_field, rate_field, number_bits}
use Rattle.flac_header.specs.Spelling.{header_parts, header_front, header_spelling, HeadersAreSpelled, HeadersAreReadAgain, size_spelling, rate_spelling}
use Rattle.flac_header.proofs.Checked.{before, pasts, parts_check, with_check, check_small}
use Rattle.flac_header.proofs.Fields.{size_tie, rate_tie}

one_bit : (v : ℕ) → v < 2 → bit_value (nat_eq v 1) ≡ v
one_bit zero h = refl
one_bit (suc zero) h = refl
one_bit (suc (suc v)) h = absurd (omega arith)

bit_one : (b : Bool) → nat_eq (bit_value b) 1 ≡ b
bit_one true = refl
bit_one false = refl

bit_less : (b : Bool) → bit_value b < 2
bit_less true = omega arith
bit_less false = omega arith

is_same : (a b : ℕ) → not (nat_eq a b) ≡ false → a ≡ b
is_same a b h = grind (arith, nat_tests)

no_other : (a b : ℕ) → a ≡ b → not (nat_eq a b) ≡ false
no_other a b h = grind (arith, nat_tests)

some_code : (a : ℕ) → nat_eq a 0 ≡ false → 1 ≤ a
some_code a h = grind (arith, nat_tests)

code_some : (a : ℕ) → 1 ≤ a → nat_eq a 0 ≡ false
code_some a h = grind (arith, nat_tests)

not_15 : (a : ℕ) → a < 16 → nat_eq a 15 ≡ false → a < 15
not_15 a lt h = grind (arith, nat_tests)

below_15 : (a : ℕ) → a < 15 → nat_eq a 15 ≡ false
below_15 a h = grind (arith, nat_tests)

at_most_10 : (a : ℕ) → nat_lt 10 a ≡ false → a < 11
at_most_10 a h = grind (arith, nat_tests)

above_10 : (a : ℕ) → a < 11 → nat_lt 10 a ≡ false
above_10 a h = grind (arith, nat_tests)

-- what was read in these fields is the spelling of the form that they make
made : (f : Header) (parts : List (List Bool)) (m : Mark) (stored : ℕ) → m.check8 ≡ 0 → parts ≡ header_parts f → stored ≡ (pasts parts m).check8
    → before parts (unsigned 8 stored ++ []) ≡ header_spelling f
made f parts m stored z same is = with_check parts m stored z is ∙ ap (λ ps. joined ps ++ unsigned 8 (remainder 8 7 (joined ps))) same

pub header_tie : (m : Mark) → m.check8 ≡ 0 → Ties header m IsHeader header_spelling
unfolding header header_parts
header_tie m z = tie header m IsHeader header_spelling
    (λ sync a is_sync variable b size_code c some_size rate_code d no_rate channel_code e channels depth_code f no_depth reserved g zero_bit.
    each_tied (number (number_bits (nat_eq variable 1))) _ (IsNumber (number_bits (nat_eq variable 1))) number_spelling _ (number_tie (number_bits (nat_eq variable 1)) _) (λ count n.
    each_tied (size_field size_code) _ (IsSize size_code) (size_spelling size_code) _ (size_tie size_code _) (λ size s.
    each_tied (rate_field rate_code) _ (IsRate rate_code) (rate_spelling rate_code) _ (rate_tie rate_code _ (not_15 rate_code d no_rate.0)) (λ rate r stored h kept.
    let form : Header = record { variable = nat_eq variable 1; size_code = size_code; size = size; rate_code = rate_code; rate = rate; channel_code = channel_code; depth_code = depth_code; number = count } in
    let parts : List (List Bool) = unsigned 15 sync ∷ unsigned 1 variable ∷ unsigned 4 size_code ∷ unsigned 4 rate_code ∷ unsigned 4 channel_code ∷ unsigned 3 depth_code ∷ unsigned 1 reserved ∷
    number_spelling count ∷ size_spelling size_code size ∷ rate_spelling rate_code rate ∷ [] in
    let same : parts ≡ header_parts form = rw (is_same sync 0x7FFC is_sync.0, one_bit variable b, is_same reserved 0 zero_bit.0) refl in (
      record {
        some_size = some_code size_code some_size.0;
        size_code = c;
        size = s;
        rate_code = not_15 rate_code d no_rate.0;
        rate = r;
        channel_code = at_most_10 channel_code channels.0;
        depth_code = f;
        no_depth = no_depth.0;
        number = n;
      },
      made form parts m stored z same (is_same stored _ kept.0),
    )))))
    (λ x v.
    let form_bits : IsNumber (number_bits (nat_eq (bit_value x.variable) 1)) x.number = rw (bit_one x.variable) v.number in
    let check = remainder 8 7 (header_front x) in (
      0x7FFC,
      omega arith,
      (
        (refl, tt),
        (
          bit_value x.variable,
          bit_less x.variable,
          (
            x.size_code,
            v.size_code,
            (
              (code_some x.size_code v.some_size, tt),
              (
                x.rate_code,
                omega (arith, v.rate_code),
                (
                  (below_15 x.rate_code v.rate_code, tt),
                  (
                    x.channel_code,
                    omega (arith, v.channel_code),
                    (
                      (above_10 x.channel_code v.channel_code, tt),
                      (
                        x.depth_code,
                        v.depth_code,
                        (
                          (v.no_depth, tt),
                          (
                            0,
                            omega arith,
                            (
                              (refl, tt),
                              some_tied (number (number_bits (nat_eq (bit_value x.variable) 1))) _ (IsNumber (number_bits (nat_eq (bit_value x.variable) 1))) number_spelling _ x.number
                                  (number_tie (number_bits (nat_eq (bit_value x.variable) 1)) _) form_bits
                                  (some_tied (size_field x.size_code) _ (IsSize x.size_code) (size_spelling x.size_code) _ x.size (size_tie x.size_code _) v.size
                                  (some_tied (rate_field x.rate_code) _ (IsRate x.rate_code) (rate_spelling x.rate_code) _ x.rate (rate_tie x.rate_code _ v.rate_code) v.rate (
                                    check,
                                    check_small (header_front x),
                                    (
                                      (no_other check _ (sym (parts_check (header_parts x) m z)), tt),
                                      (with_check (header_parts x) m check z (sym (parts_check (header_parts x) m z)), rw (bit_one x.variable) refl),
                                    ),
                                  ))),
                            ),
                          ),
                        ),
                      ),
                    ),
                  ),
                ),
              ),
            ),
          ),
        ),
      ),
    ))

pub headers_spelled : HeadersAreSpelled
headers_spelled h m text z = (λ s. (header_tie m z).only text h s, λ k. subst (λ (t : List Bool). Spells header m t h) (sym k.1) ((header_tie m z).each h k.0))

pub headers_again : HeadersAreReadAgain
headers_again h m rest z v = again header m (header_spelling h) rest h ((header_tie m z).each h v)
