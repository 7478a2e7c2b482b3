-- Rows of samples that are sent.
use Rattle.std.proofs.Common.{◌≡◌, ℕ, ℤ, ◌+◌, List, [], ◌++◌, refl, ap, sym, ◌∙◌, append_assoc, arith}
use Rattle.flac_native.specs.Message.{rows_bytes}
use Rattle.flac_native.proofs.Messages.{rows_split}

-- No rows.
pub rows_none : (width : ℕ) (channels : List (List ℤ)) (i : ℕ) → rows_bytes width channels 0 i ≡ []
unfolding rows_bytes
rows_none width channels i = refl

-- What was sent is n rows after the whole; k more are sent.
pub rows_step : (width : ℕ) (channels : List (List ℤ)) (n k : ℕ) (whole sent later piece : List ℕ)
    → sent ≡ whole ++ rows_bytes width channels n 0
    → piece ≡ rows_bytes width channels k n
    → later ≡ sent ++ piece
    → later ≡ whole ++ rows_bytes width channels (n + k) 0
rows_step width channels n k whole sent later piece before put more =
    let e : 0 + n ≡ n = omega arith in
    let grown : rows_bytes width channels (n + k) 0 ≡ rows_bytes width channels n 0 ++ rows_bytes width channels k n = rw e at (rows_split width channels n k 0) in
    more
    ∙ (ap (λ l. l ++ piece) before
    ∙ (append_assoc whole (rows_bytes width channels n 0) piece
    ∙ ap (λ l. whole ++ l) (ap (λ l. rows_bytes width channels n 0 ++ l) put ∙ sym grown)))
