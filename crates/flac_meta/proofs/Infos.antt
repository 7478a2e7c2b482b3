-- STREAMINFO made of what was read.
use Rattle.std.proofs.Common.{◌≡◌, ℕ, ◌+◌, ◌-◌, ◌<◌, ◌≤◌, ◌^◌, Bool, true, false, List, [], ◌∷◌, ◌++◌, nat_eq, nat_lt, ◌||◌, Result, Ok, Err, refl, ◌∙◌, arith}
use Rattle.std.proofs.lemmas.Bool.Decides.{nat_tests}
use Rattle.std.specs.Prelude.{⊤, IfOk, IfErr, OnOk}
use Rattle.flac_bits.specs.Bits.{unsigned}
use Rattle.flac_bits.specs.State.{State, Cursor}
use Rattle.flac_bits.specs.Layout.{Reason, and_then, unless_broken}
use Rattle.flac_bits.specs.Reading.{Counts, Gives}
use Rattle.flac_bits.specs.declared.why.Why.{Why}
use Rattle.flac_bits.specs.declared.why.Why.TheVariants.{BadStreamInfo}
use Rattle.flac_bits.proofs.Counting.{Answered, refused_then}
use Rattle.flac_bits.proofs.Telling.{Told}
use Rattle.flac_info.specs.Info.{Info, KeepsRules, is_bad}
use Rattle.flac_meta.proofs.Short.{told_kept, told_broken}

-- each number fits its field
pub record Fits (i : Info) : Type 0 where
  pub greatest_block : i.greatest_block < 2 ^ 16
  pub least_frame : i.least_frame < 2 ^ 24
  pub greatest_frame : i.greatest_frame < 2 ^ 24
  pub rate : i.rate < 2 ^ 20
  pub least_channels : 1 ≤ i.channels
  pub channels : i.channels ≤ 8
  pub depth : i.depth ≤ 32
  pub total : i.total < 2 ^ 36

-- values in their ranges, as the rule says it
pub ranges : (a b r d : ℕ) → (nat_lt a 16 || nat_lt b a || nat_eq r 0 || nat_lt d 4) ≡ false → (16 ≤ a) × (a ≤ b) × (1 ≤ r) × (4 ≤ d)
ranges a b r d h = grind (arith, nat_tests)

pub in_ranges : (a b r d : ℕ) → 16 ≤ a → a ≤ b → 1 ≤ r → 4 ≤ d → (nat_lt a 16 || nat_lt b a || nat_eq r 0 || nat_lt d 4) ≡ false
in_ranges a b r d h k l m = grind (arith, nat_tests)

keeps : (i : Info) → Fits i → is_bad i ≡ false → KeepsRules i
keeps i f h =
    let k = ranges i.least_block i.greatest_block i.rate i.depth h in
    record {
      least_block = k.0;
      blocks = k.1;
      greatest_block = f.greatest_block;
      least_frame = f.least_frame;
      greatest_frame = f.greatest_frame;
      least_rate = k.2;
      rate = f.rate;
      least_channels = f.least_channels;
      channels = f.channels;
      least_depth = k.3;
      depth = f.depth;
      total = f.total;
    }

not_bad : (i : Info) → KeepsRules i → is_bad i ≡ false
not_bad i k = in_ranges i.least_block i.greatest_block i.rate i.depth k.least_block k.blocks k.least_rate k.least_depth

is_true : (b : Bool) → (b ≡ false → ⊥) → b ≡ true
is_true true h = refl
is_true false h = absurd (h refl)

-- what its fields were read as, and then judged
pub told_made : {read : Result (Info × Cursor) Reason} (i : Info) (old new : State) (made : Result Info Why)
    → Told read (and_then {A = ⊤} (unless_broken (record { broken = is_bad i; why = BadStreamInfo } ∷ []) (Ok (tt, new.cursor))) (λ u d. Ok (i, d))) old new
    → Fits i → IfOk made (λ x. x ≡ i) → IfOk made (λ x. KeepsRules x) → IfErr made (λ e. (e ≡ BadStreamInfo) × (KeepsRules i → ⊥))
    → Gives (λ x. x) read old new made
told_made i old new (Ok x) t fits is rules refused =
    let good : is_bad i ≡ false = rw (← is) (not_bad x rules) in
    λ known same. t known same ∙ told_kept {answer = Ok (x, new.cursor)} (is_bad i) BadStreamInfo old new new.cursor (λ u d. Ok (i, d)) good (λ known same. rw is refl) known same
told_made i old new (Err e) t fits is rules refused =
    let bad : is_bad i ≡ true = is_true (is_bad i) (λ h. refused.1 (keeps i fits h)) in
    λ known same. t known same ∙ rw (refused.0) (told_broken (is_bad i) BadStreamInfo old new new.cursor (λ u d. Ok (i, d)) bad known same)

pub counted_made : {X : Type 0} (P : Type 0) (old new : State) (made : Result X Why) → Answered old new → IfErr made (λ e. (e ≡ BadStreamInfo) × P) → Counts old new made
counted_made P old new (Ok x) a h = a
counted_made P old new (Err e) a h = rw (h.0) (refused_then old new a refl)

pub spent_made : {X : Type 0} (a b old mid new : ℕ) (made : Result X Why) → mid + a ≤ old → new + b ≤ mid → OnOk made (new + 0 ≤ old)
spent_made a b old mid new (Ok x) h k = omega arith
spent_made a b old mid new (Err e) h k = tt

-- the fields in which it is written
pub fields_of : (i : Info) (rest : List Bool) {a b c d r channels depth t : ℕ}
    → a ≡ i.least_block → b ≡ i.greatest_block → c ≡ i.least_frame → d ≡ i.greatest_frame → r ≡ i.rate → channels ≡ i.channels → depth ≡ i.depth → t ≡ i.total
    → unsigned 16 i.least_block ++ (unsigned 16 i.greatest_block ++ (unsigned 24 i.least_frame ++ (unsigned 24 i.greatest_frame
    ++ (unsigned 20 i.rate ++ (unsigned 3 (i.channels - 1) ++ (unsigned 5 (i.depth - 1) ++ (unsigned 36 i.total ++ rest)))))))
    ≡ unsigned 16 a ++ (unsigned 16 b ++ (unsigned 24 c ++ (unsigned 24 d ++ (unsigned 20 r ++ (unsigned 3 (channels - 1) ++ (unsigned 5 (depth - 1) ++ (unsigned 36 t ++ rest)))))))
fields_of i rest h k l m n o p q = rw (h, k, l, m, n, o, p, q) refl
