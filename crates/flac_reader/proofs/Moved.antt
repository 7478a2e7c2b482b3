-- A device that was moved, as a source.
use Rattle.std.proofs.Common.{◌≡◌, ℕ, Bool, true, false, cond, ◌&&◌, nat_lt, List, [], take, Option, Some, None, IfSome, Result, Ok, Err, IfOk, refl, ap, subst, ◌∙◌, ◌<◌, arith}
use Rattle.std.specs.Prelude.{is_some, unwrap_or}
use Rattle.std.proofs.lemmas.Bool.Decides.{nat_tests}
use Rattle.flac_bits.specs.Bits.{bits_of}
use Rattle.flac_bits.specs.State.{Rises}
use Rattle.flac_bits.specs.Handing.{InputReading, by_grammar}
use Rattle.flac_bits.specs.declared.why.Why.TheVariants.{Truncated}
use Rattle.flac_info.specs.Info.{Info}
use Rattle.flac_header.specs.declared.subset.Profile.{Profile}
use Rattle.flac_native.specs.Decoding.{beginning}
use Rattle.flac_native.specs.Resuming.{resumed}
use Rattle.flac_native.specs.Stream.{Piece, grammar}
use Rattle.flac_native.specs.declared.fault.Place.{Place}
use Rattle.flac_native.specs.declared.fault.Fault.{Fault}
use Rattle.flac_native.specs.declared.container.Container as container
use Rattle.flac_reader.specs.Opening.{IsOver}
use Rattle.flac_reader.specs.Seeking.{Sought, RefusesSeek}
use Rattle.flac_reader.specs.Moved.{read_resumed}
use Rattle.flac_reader.specs.declared.reader.Reader.{Reader}

pub there : (old new : Option ℕ) (to at n : ℕ) → at ≡ to → IfSome old (λ _. (n ≡ at) × (new ≡ Some n)) → IfSome old (λ _. new ≡ Some to)
there None new to at n e h = tt
there (Some p) new to at n e h = h.1 ∙ ap (λ k. Some k) (h.0 ∙ e)

pub both_ok : {X E : Type 0} (r : Result X E) (P Q : X → Type 0) → IfOk r P → IfOk r Q → IfOk r (λ x. P x × Q x)
both_ok (Ok x) P Q p q = (p, q)
both_ok (Err e) P Q p q = tt

abbrev most : ℕ
most = 18446744073709551615

both : (b : Bool) → b ≡ true → (b && nat_lt 0 most) ≡ true
both true e = refl
both false e = absurd cc

only : (b : Bool) → (b && nat_lt 0 most) ≡ b
only true = refl
only false = refl

pub moved_found : {T C : Type 0} {g : container.Ghosts C} (remaining : T → Option (List ℕ)) (device d : T) (errors room : ℕ) (profile : Profile) (info : Info) (sample : ℕ) (reader : Reader C g) → d ≡ device → errors ≡ 0 → room ≡ most
    → ((is_some (remaining d) && nat_lt errors most) ≡ true → Sought info sample (by_grammar grammar (resumed profile info) (beginning Truncated) (bits_of (take room (unwrap_or (remaining d) [])))) reader)
    → is_some (remaining device) ≡ true → Sought info sample (read_resumed profile info (remaining device)) reader
moved_found {T = T} remaining device d errors room profile info sample reader e z full h k =
    let P : T → ℕ → ℕ → Type 0 = λ x n m. (is_some (remaining x) && nat_lt n most) ≡ true → Sought info sample (by_grammar grammar (resumed profile info) (beginning Truncated) (bits_of (take m (unwrap_or (remaining x) [])))) reader in
    let done : P device 0 most = subst (λ x. P x 0 most) e (subst (λ n. P d n most) z (subst (λ m. P d errors m) full h)) in
    done (both (is_some (remaining device)) k)

pub moved_over : {T C : Type 0} {g : container.Ghosts C} (remaining : T → Option (List ℕ)) (device d : T) (errors : ℕ) (reader : Reader C g) → d ≡ device → errors ≡ 0
    → IsOver (is_some (remaining d) && nat_lt errors most) errors errors [] reader → IsOver (is_some (remaining device)) 0 0 [] reader
moved_over {T = T} remaining device d errors reader e z over =
    let P : T → ℕ → Type 0 = λ x n. IsOver (is_some (remaining x) && nat_lt n most) n n [] reader in
    let done : P device 0 = subst (λ x. P x 0) e (subst (λ n. P d n) z over) in
    subst (λ b. IsOver b 0 0 [] reader) (only (is_some (remaining device))) done

pub moved_refused : {T : Type 0} (remaining : T → Option (List ℕ)) (device d : T) (errors room left : ℕ) (profile : Profile) (info : Info) (sample : ℕ) (f : Fault) → d ≡ device → errors ≡ 0 → room ≡ most
    → RefusesSeek info sample (by_grammar grammar (resumed profile info) (beginning Truncated) (bits_of (take room (unwrap_or (remaining d) [])))) (is_some (remaining d) && nat_lt errors most) errors errors left left f
    → RefusesSeek info sample (read_resumed profile info (remaining device)) (is_some (remaining device)) 0 0 left left f
moved_refused {T = T} remaining device d errors room left profile info sample f e z full h =
    let P : T → ℕ → ℕ → Type 0 = λ x n m. RefusesSeek info sample (by_grammar grammar (resumed profile info) (beginning Truncated) (bits_of (take m (unwrap_or (remaining x) [])))) (is_some (remaining x) && nat_lt n most) n n left left f in
    let done : P device 0 most = subst (λ x. P x 0 most) e (subst (λ n. P d n most) z (subst (λ m. P d errors m) full h)) in
    subst (λ b. RefusesSeek info sample (read_resumed profile info (remaining device)) b 0 0 left left f) (only (is_some (remaining device))) done

-- ---- the last error

-- a count that rose from 0 is of an error, which is kept
pub some_kept : (is : Bool) (errors : ℕ) → is ≡ nat_lt 0 errors → Rises 0 errors → is ≡ true
some_kept is errors e h = let some : 0 < errors = h (omega arith) in grind (arith, nat_tests)

-- at least one error, if it is kept
abbrev one_if : Bool → ℕ
one_if is = cond is 1 0

none_kept : (is : Bool) (errors : ℕ) → is ≡ nat_lt 0 errors → one_if is ≡ 0 → errors ≡ 0
none_kept true errors e none = omega (arith, none)
none_kept false errors e none = grind (arith, nat_tests)

one_kept : (is : Bool) → is ≡ true → Rises 0 (one_if is)
one_kept true e = λ _. omega arith
one_kept false e = absurd cc

-- the errors that were counted, by the last of them
pub by_the_last : (info : Info) (sample : ℕ) (r : InputReading Piece Place) (known : Bool) (errors : ℕ) (f : Fault) (is : Bool) → is ≡ nat_lt 0 errors → RefusesSeek info sample r known 0 0 errors errors f
    → RefusesSeek info sample r known 0 0 (cond is 1 0) (cond is 1 0) f
by_the_last info sample r known errors f is e x = record {
  kept = omega arith;
  risen = λ read. one_kept is (some_kept is errors e (x.risen read));
  output = x.output;
  refused = λ k none _. let zero_errors = none_kept is errors e none in x.refused k zero_errors zero_errors;
}

first_true : (a b : Bool) → (a && b) ≡ true → a ≡ true
first_true true b e = refl
first_true false b e = absurd cc

-- the bytes of a device are known, as they were
pub moved_known : {T : Type 0} (remaining : T → Option (List ℕ)) (device d left : T) (errors after : ℕ) → d ≡ device → errors ≡ 0
    → ((is_some (remaining d) && nat_lt errors most) ≡ true → (is_some (remaining left) && nat_lt after most) ≡ true) → is_some (remaining device) ≡ true → is_some (remaining left) ≡ true
moved_known {T = T} remaining device d left errors after e z h k =
    let P : T → ℕ → Type 0 = λ x n. (is_some (remaining x) && nat_lt n most) ≡ true → (is_some (remaining left) && nat_lt after most) ≡ true in
    let done : P device 0 = subst (λ x. P x 0) e (subst (λ n. P d n) z h) in
    first_true (is_some (remaining left)) (nat_lt after most) (done (both (is_some (remaining device)) k))
