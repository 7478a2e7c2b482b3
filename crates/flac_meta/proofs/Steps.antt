-- Writing piece by piece.
use Rattle.std.proofs.Common.{◌≡◌, ℕ, zero, suc, ◌+◌, ◌-◌, ◌*◌, ◌/◌, ◌%◌, ◌<◌, ◌≤◌, Bool, false, nat_eq, List, [], ◌∷◌, ◌++◌, length, drop, get_or, Result, refl, sym, ap, subst, ◌∙◌, arith, append_assoc}
use Rattle.std.specs.Int.{bit_at}
use Rattle.std.proofs.lemmas.List.{at_drop_more, at_drop_all, append-nil}
use Rattle.flac_bits.specs.Bits.{unsigned}
use Rattle.flac_bits.specs.Forms.{joined}
use Rattle.flac_bits.specs.Written.{Written, Adds, Writes, Fails}
use Rattle.flac_bits.specs.declared.why.Why.{Why}
use Rattle.flac_bits.proofs.Writing.{Towards, towards_last, writes_then, fails_first}
use Rattle.flac_meta.specs.Spelling.{each_spelled, zero_bits}
use Rattle.flac_meta.specs.inner.Fielded.{field_spelling, fields_spelling}
use Rattle.flac_meta.specs.declared.fields.Field.{Field}

-- one more item
pub each_step : {A : Type 0} (spelling : A → List Bool) (xs : List A) (i : ℕ) (x : A) → i < length xs → x ≡ get_or xs i x
    → each_spelled spelling (drop i xs) ≡ spelling x ++ each_spelled spelling (drop (i + 1) xs)
unfolding each_spelled
each_step spelling xs i x lt is = at_drop_more (each_spelled spelling) xs i x lt ∙ ap (λ y. spelling y ++ each_spelled spelling (drop (i + 1) xs)) (sym is)

pub each_end : {A : Type 0} (spelling : A → List Bool) (xs : List A) (i : ℕ) → length xs ≤ i → each_spelled spelling (drop i xs) ≡ []
unfolding each_spelled
each_end spelling xs i le = at_drop_all (each_spelled spelling) xs i le

-- fields before other pieces
abbrev pub fields_before : List Field → List Bool → List Bool
fields_before [] rest = rest
fields_before (field ∷ fields) rest = field_spelling field ++ fields_before fields rest

fields_then : (fields : List Field) (rest : List Bool) → fields_before fields rest ≡ fields_spelling fields ++ rest
unfolding each_spelled
fields_then [] rest = refl
fields_then (field ∷ fields) rest = ap (λ t. field_spelling field ++ t) (fields_then fields rest) ∙ sym (append_assoc (field_spelling field) (fields_spelling fields) rest)

pub fields_are : (fields : List Field) (rest rest' : List Bool) → rest' ≡ fields_before fields rest → rest' ≡ fields_spelling fields ++ rest
fields_are fields rest rest' is = is ∙ fields_then fields rest

-- ---- zeros

no_bit : (k : ℕ) → bit_at 0 k ≡ 0
no_bit k = grind arith

pub zeros_are : (n : ℕ) → unsigned n 0 ≡ zero_bits n
unfolding zero_bits
zeros_are zero = refl
zeros_are (suc n) = ap (λ d. nat_eq d 1 ∷ unsigned n 0) (no_bit n) ∙ ap (λ bs. false ∷ bs) (zeros_are n)

zeros_two : (m n : ℕ) → zero_bits (m + n) ≡ zero_bits m ++ zero_bits n
unfolding zero_bits
zeros_two zero n = let k : 0 + n ≡ n = omega arith in rw k refl
zeros_two (suc m) n = let k : suc m + n ≡ suc (m + n) = omega arith in rw k (ap (λ bs. false ∷ bs) (zeros_two m n))

pub zeros_first : (count : ℕ) → zero_bits count ≡ unsigned (count % 64) 0 ++ zero_bits (64 * (count / 64 - 0))
zeros_first count =
    let k : count ≡ count % 64 + 64 * (count / 64 - 0) = omega arith in
    ap zero_bits k ∙ zeros_two (count % 64) (64 * (count / 64 - 0)) ∙ ap (λ bs. bs ++ zero_bits (64 * (count / 64 - 0))) (sym (zeros_are (count % 64)))

pub zeros_step : (k i : ℕ) → i < k → zero_bits (64 * (k - i)) ≡ unsigned 64 0 ++ zero_bits (64 * (k - (i + 1)))
zeros_step k i lt =
    let e : 64 * (k - i) ≡ 64 + 64 * (k - (i + 1)) = omega arith in
    ap zero_bits e ∙ zeros_two 64 (64 * (k - (i + 1))) ∙ ap (λ bs. bs ++ zero_bits (64 * (k - (i + 1)))) (sym (zeros_are 64))

pub zeros_over : (k i : ℕ) → k ≤ i → zero_bits (64 * (k - i)) ≡ []
unfolding zero_bits
zeros_over k i le = let e : 64 * (k - i) ≡ 0 = omega arith in rw e refl

-- one more item of a list whose items are copied
pub each_step_at : {A : Type 0} (spelling : A → List Bool) (xs : List A) (i : ℕ) (d : A) → i < length xs
    → each_spelled spelling (drop i xs) ≡ spelling (get_or xs i d) ++ each_spelled spelling (drop (i + 1) xs)
unfolding each_spelled
each_step_at spelling xs i d lt = at_drop_more (each_spelled spelling) xs i d lt

-- ---- pieces

-- the pieces of two lists
pub joined_two : (front back : List (List Bool)) → joined (front ++ back) ≡ joined front ++ joined back
joined_two [] back = refl
joined_two (piece ∷ front) back = ap (λ t. piece ++ t) (joined_two front back) ∙ sym (append_assoc piece (joined front) (joined back))

-- what came of the last piece
pub towards_done : {X : Type 0} {whole : List Bool} {old now : Written} (part : List Bool) (new : Written) (result : Result X Why) → Towards (part ++ []) whole old now → Writes part now new result → Writes whole old new result
towards_done {whole = whole} {old = old} {now = now} part new result t w = towards_last new result (subst (λ (rest : List Bool). Towards rest whole old now) (append-nil part) t) w

-- fields and what is written after them
pub fields_first : {X : Type 0} {old mid : Written} {whole : List Bool} (fields : List Field) (rest : List Bool) (new : Written) (result : Result X Why)
    → Adds (fields_spelling fields) old mid → Writes rest mid new result → whole ≡ fields_before fields rest → Writes whole old new result
fields_first fields rest new result a w is = rw (is, fields_then fields rest) (writes_then rest new result a w)

pub fields_fail : {old new : Written} {e : Why} {whole : List Bool} (fields : List Field) (rest : List Bool)
    → Fails (old.bits ++ fields_spelling fields) old new e → whole ≡ fields_before fields rest → Fails (old.bits ++ whole) old new e
fields_fail fields rest f is = rw (is, fields_then fields rest) (fails_first (fields_spelling fields) rest f)

-- the last piece of a whole
pub writes_only : {X : Type 0} (part : List Bool) (old new : Written) (result : Result X Why) → Writes part old new result → Writes (part ++ []) old new result
writes_only part old new result w = rw (append-nil part) w
