-- What was read before the checks began anew.
use Rattle.std.proofs.Common.{◌≡◌, Result, Ok, Err, sym, ap}
use Rattle.flac_bits.specs.State.{Cursor, fresh}
use Rattle.flac_bits.specs.Layout.{Reason}
use Rattle.flac_bits.specs.Unchecked.{begun_anew}

pub anew_is : {A : Type 0} (r : Result (A × Cursor) Reason) (x : A) (c : Cursor) → begun_anew r ≡ Ok (x, c) → (d : Cursor) × (r ≡ Ok (x, d)) × (c ≡ record d { mark = fresh d.mark })
anew_is {A = A} (Ok y) x c e =
    let both : (y.0, record y.1 { mark = fresh y.1.mark }) ≡ (x, c) = ap value e in
    (y.1, ap (λ a. okay (a, y.1)) (ap (λ (z : A × Cursor). z.0) both), sym (ap (λ (z : A × Cursor). z.1) both))
  where
    okay : A × Cursor → Result (A × Cursor) Reason
    okay z = Ok z

    value : Result (A × Cursor) Reason → A × Cursor
    value (Ok z) = z
    value (Err w) = y
anew_is (Err w) x c e = absurd cc

pub anew_err : {A : Type 0} (r : Result (A × Cursor) Reason) (w : Reason) → begun_anew r ≡ Err w → r ≡ Err w
anew_err (Ok y) w e = absurd cc
anew_err (Err v) w e = e
