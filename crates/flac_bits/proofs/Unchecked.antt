-- Bytes of which no check is computed.
use Rattle.std.proofs.Common.{◌≡◌, ℕ, zero, suc, ◌*◌, ◌<◌, ◌^◌, Bool, true, false, List, [], ◌∷◌, ◌++◌, length, take, get_or, nat_eq, Result, Ok, Err, refl, sym, ap, ◌∙◌, arith}
use Rattle.std.proofs.lemmas.List.{append-nil}
use Rattle.flac_bits.specs.Bits.{bits_of}
use Rattle.flac_bits.specs.State.{Mark, Cursor, step, past, fresh, Consumes}
use Rattle.flac_bits.specs.Layout.{bits, run, because, Reason}
use Rattle.flac_bits.specs.Lists.{list_of}
use Rattle.flac_bits.specs.Unchecked.{Passes, begun_anew}
use Rattle.flac_bits.specs.inner.Unchecked.{marked, Fills}
use Rattle.flac_bits.specs.declared.why.Why.{Why}
use Rattle.flac_bits.proofs.Readings.{at_}
use Rattle.flac_bits.proofs.Copied.{consumes_more, exact, missing, bits_cut}
use Rattle.flac_bits.proofs.Meaning.{past-short}

-- all that is known but the checks
abbrev pub strip : Mark → Mark
strip m = record m { check8 = 0; check16 = 0 }

pub strip_fresh : (m : Mark) → strip (fresh m) ≡ strip m
strip_fresh m = go (nat_eq m.unread 0) refl
  where
    go : (b : Bool) → nat_eq m.unread 0 ≡ b → strip (fresh m) ≡ strip m
    go true e = rw e refl
    go false e = rw e refl

fresh_strip : (m : Mark) → m.unread ≡ 0 → fresh m ≡ strip m
fresh_strip m z = rw z refl

strip_step : (b : Bool) (m k : Mark) → strip m ≡ strip k → strip (step b m) ≡ strip (step b k)
strip_step b m k e =
    let one : strip (step b m) ≡ strip (step b (strip m)) = refl in
    let two : strip (step b (strip k)) ≡ strip (step b k) = refl in
    one ∙ ap (λ n. strip (step b n)) e ∙ two

pub strip_past : (bs : List Bool) (m k : Mark) → strip m ≡ strip k → strip (past bs m) ≡ strip (past bs k)
strip_past [] m k e = e
strip_past (b ∷ bs) m k e = strip_past bs (step b m) (step b k) (strip_step b m k e)

pub fresh_same : (m k : Mark) → strip m ≡ strip k → m.unread ≡ 0 → fresh m ≡ fresh k
fresh_same m k e z = let z' : k.unread ≡ 0 = sym (ap (λ (n : Mark). n.unread) e) ∙ z in fresh_strip m z ∙ e ∙ sym (fresh_strip k z')

-- the position after such bytes, as if their checks were computed
pub after_bytes : List ℕ → Cursor → Cursor → Cursor
after_bytes xs old new = at_ new.left (past (bits_of xs) old.mark)

passed_left : (xs : List ℕ) (old new : Cursor) → Passes (bits_of xs) old new → Consumes (bits_of xs) old (after_bytes xs old new)
unfolding after_bytes
passed_left xs old new p = (p.0, refl)

-- more of them, and the checks begin anew
passes_more : (xs ys zs : List ℕ) (old now mid new : Cursor) → zs ≡ xs ++ ys → Passes (bits_of xs) old now → Consumes (bits_of ys) now mid → mid.mark.unread ≡ 0 → new.left ≡ mid.left → new.mark ≡ fresh mid.mark
    → Passes (bits_of zs) old new
unfolding after_bytes
passes_more xs ys zs old now mid new e a b z left mark =
    let k = past (bits_of xs) old.mark in
    let all = consumes_more xs ys zs old (after_bytes xs old now) (at_ mid.left (past (bits_of ys) k)) e (passed_left xs old now a) (b.0, refl) in
    let same : strip mid.mark ≡ strip (past (bits_of ys) k) = ap strip (b.1) ∙ strip_past (bits_of ys) now.mark k (ap strip (a.1) ∙ strip_fresh k) in (
      all.0 ∙ ap (λ bs. bits_of zs ++ bs) (sym left),
      mark ∙ fresh_same mid.mark (past (bits_of ys) k) same z ∙ ap fresh (all.1),
    )

okay : List ℕ × Cursor → Result (List ℕ × Cursor) Reason
okay x = Ok x

-- as many bytes as are wanted
pub exact_anew : (xs : List ℕ) (n : ℕ) (old new : Cursor) → length xs ≡ n → ((k : ℕ) → k < length xs → get_or xs k 0 < 2 ^ 8) → Passes (bits_of xs) old new → begun_anew (run (list_of n (bits 8)) old) ≡ Ok (xs, new)
unfolding after_bytes okay
exact_anew xs n old new e small p = ap begun_anew (exact xs n old (after_bytes xs old new) e small (passed_left xs old new p)) ∙ ap (λ m. okay (xs, at_ new.left m)) (sym (p.1))

-- fewer of them
pub missing_anew : (xs : List ℕ) (n : ℕ) (why : Why) (old new : Cursor) → length xs < n → new.left ≡ [] → why ≡ new.mark.short → Passes (bits_of xs) old new → begun_anew (run (list_of n (bits 8)) old) ≡ Err (because why)
unfolding after_bytes
missing_anew xs n why old new lt none is p =
    let m = past (bits_of xs) old.mark in
    let short : new.mark.short ≡ m.short = ap (λ (k : Mark). k.short) (p.1) ∙ ap (λ (k : Mark). k.short) (strip_fresh m) in
    ap begun_anew (missing xs n why old (after_bytes xs old new) lt none (is ∙ short) (passed_left xs old new p))

-- too few of them are left
pub cut_anew : (n : ℕ) (why : Why) (old : Cursor) → length old.left < 8 * n → why ≡ old.mark.short → begun_anew (run (list_of n (bits 8)) old) ≡ Err (because why)
cut_anew n why old few is = ap begun_anew (bits_cut n old.left old.mark few) ∙ ap (λ (w : Why). Err (because w)) (sym is)

-- ---- and with the checks, if they go on

pub fills_zero : (checked : Bool) (m k : Mark) → m.unread ≡ 0 → k ≡ marked checked m → k.unread ≡ 0
fills_zero true m k z e = ap (λ (n : Mark). n.unread) e ∙ z
fills_zero false m k z e = ap (λ (n : Mark). n.unread) e ∙ ap (λ (n : Mark). n.unread) (strip_fresh m) ∙ z

pub fills_more : (checked : Bool) (xs ys zs : List ℕ) (old now mid new : Cursor) → zs ≡ xs ++ ys → Fills checked (bits_of xs) old now → Consumes (bits_of ys) now mid → mid.mark.unread ≡ 0 → new.left ≡ mid.left
    → new.mark ≡ marked checked mid.mark → Fills checked (bits_of zs) old new
fills_more true xs ys zs old now mid new e a b z left mark =
    let all = consumes_more xs ys zs old now mid e a b in
    (all.0 ∙ ap (λ bs. bits_of zs ++ bs) (sym left), mark ∙ all.1)
fills_more false xs ys zs old now mid new e a b z left mark = passes_more xs ys zs old now mid new e a b z left mark

pub fills_short : (checked : Bool) (text : List Bool) (old new : Cursor) → Fills checked text old new → new.mark.short ≡ old.mark.short
fills_short true text old new p = ap (λ (k : Mark). k.short) (p.1) ∙ past-short text old.mark
fills_short false text old new p = ap (λ (k : Mark). k.short) (p.1) ∙ ap (λ (k : Mark). k.short) (strip_fresh (past text old.mark)) ∙ past-short text old.mark

-- none more
pub fills_still : (checked : Bool) (n : ℕ) (xs ys zs : List ℕ) (old now new : Cursor) → n ≡ 0 → zs ≡ xs ++ take n ys → Fills checked (bits_of xs) old now → Consumes (bits_of (take n ys)) now new → Fills checked (bits_of zs) old new
fills_still checked zero xs ys zs old now new z e p c =
    let same : zs ≡ xs = e ∙ append-nil xs in
    let here : Fills checked (bits_of xs) old new = (p.0 ∙ ap (λ bs. bits_of xs ++ bs) (c.0), c.1 ∙ p.1) in
    rw same here
fills_still checked (suc n) xs ys zs old now new z e p c = absurd (omega (arith, z))
