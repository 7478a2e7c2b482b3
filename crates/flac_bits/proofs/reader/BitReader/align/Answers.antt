use Rattle.std.proofs.Common.{◌≡◌, ◌+◌, ◌<◌, ◌≤◌, ℕ, Bool, true, nat_eq, Result, Ok, Err, sym, ap, ◌∙◌, arith}
use Rattle.std.proofs.lemmas.Result.{err_from_is_err_and}
use Rattle.flac_bits.specs.State.{State, Cursor}
use Rattle.flac_bits.specs.Layout.{align, run, number_at, because, and_then, Reason}
use Rattle.flac_bits.specs.declared.why.Why.{Why}
use Rattle.flac_bits.proofs.Telling.{Told}
use Rattle.flac_bits.proofs.Needing.{bits_before}
use Rattle.flac_bits.proofs.reader.BitReader.align.Goals as goal

few : (n : ℕ) → n < 8 → n ≤ 64
few n lt = omega (arith, lt)

-- whether the bits that were read are zeros
zeros : ℕ → Cursor → Result (Bool × Cursor) Reason
zeros v d = Ok (nat_eq v 0, d)

align_cut : (n : ℕ) (e : Why) (old new : State) → n ≡ old.cursor.mark.unread → (old.known ≡ true → new.errors ≡ old.errors → number_at n old.cursor ≡ Err (because e)) → Told (run align old.cursor) (Err (because e)) old new
unfolding zeros
align_cut n e old new is cut = λ known same. ap (λ p. and_then p zeros) (ap (λ m. number_at m old.cursor) (sym is) ∙ cut known same)

align_read : (n v : ℕ) (old new : State) → n ≡ old.cursor.mark.unread → (old.known ≡ true → new.errors ≡ old.errors → number_at n old.cursor ≡ Ok (v, new.cursor)) → Told (run align old.cursor) (Ok (nat_eq v 0, new.cursor)) old new
unfolding zeros
align_read n v old new is read = λ known same. ap (λ p. and_then p zeros) (ap (λ m. number_at m old.cursor) (sym is) ∙ read known same)

spent : (n old new : ℕ) → new + n ≤ old → new + 0 ≤ old
spent n old new le = omega (arith, le)

no_more : {n m : ℕ} → n ≡ m → n ≤ m
no_more is = omega (arith, is)

enough : (n m old new : ℕ) → n ≡ m → old ≤ new + n → old ≤ new + m
enough n m old new is le = omega (arith, is, le)

pub take-requires : goal.take-requires
take-requires g c = few _ c.unread-unread.ensures.1

pub returns-in_err-bits : goal.returns-in_err-bits
returns-in_err-bits g c =
    let p = err_from_is_err_and c.from_residual.result c.from_residual.ensures.1 in
    let cut = c.in_err-bits.ensures.reading in
    let unread = c.unread-unread.ensures.0 ∙ ap (λ (s : State). s.cursor.mark.unread) c.self.view_is in
    rw (p.1, p.2) (record { reading = record { spends = tt; counts = cut.counts; memory = cut.memory; reads = align_cut c.unread-unread.result _ c.args.self.now c.take.new.self unread cut.reads }; needed = bits_before _ _ c.args.self.now.held _ (no_more unread) c.in_err-bits.ensures.needed })

pub returns : goal.returns
returns g c =
    let got = c.in_ok-bits.ensures.reading in
    let unread = c.unread-unread.ensures.0 ∙ ap (λ (s : State). s.cursor.mark.unread) c.self.view_is in
    record { reading = record { spends = spent c.unread-unread.result _ _ got.spends; counts = got.counts; memory = tt; reads = align_read c.unread-unread.result c.in_ok-bits.bits c.args.self.now c.take.new.self unread got.reads }; needed = enough _ _ _ _ unread c.in_ok-bits.ensures.needed }
