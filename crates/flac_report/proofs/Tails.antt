-- The members of a line after others, one after another.
use Rattle.std.proofs.Common.{◌≡◌, ◌<◌, ◌+◌, ◌^◌, ℕ, true, false, cond, List, [], ◌∷◌, ◌++◌, length, drop, decimal, Option, Some, None, refl, sym, ap, ◌∙◌, append_assoc}
use Rattle.std.proofs.Math.Seq.{drop-append_seam, drop-append-add}
use Rattle.flac_json.specs.Json.{number, json_text, more_members}
use Rattle.flac_json.specs.Texts.{quoted}
use Rattle.flac_report.specs.Entries.{IsSmall}
use Rattle.flac_report.specs.Objects.{Member, members_of, counted, present}
use Rattle.flac_report.specs.inner.Reading.{begins, digits_in, number_in, value_in, past_value, after_in}
use Rattle.flac_report.proofs.Decimals.{Stops, digits_end, number_is}

-- the text of members and of what comes after them
abbrev pub tail_text : List (Option Member) → List ℕ
tail_text ms = more_members (members_of (present ms)) ++ (125 ∷ 10 ∷ [])

-- what the text of a member of this name begins with
abbrev pub opening : (name : List ℕ) → List ℕ
opening name = 44 ∷ (quoted name ++ 58 ∷ [])

shape : (name d rest last : List ℕ) → ((44 ∷ (quoted name ++ (58 ∷ d))) ++ rest) ++ last ≡ opening name ++ (d ++ (rest ++ last))
shape name d rest last =
    ap (λ l. 44 ∷ l) (append_assoc (quoted name ++ (58 ∷ d)) rest last ∙ append_assoc (quoted name) (58 ∷ d) (rest ++ last) ∙ sym (append_assoc (quoted name) (58 ∷ []) (d ++ (rest ++ last))))

pub some_text : (m : Member) (ms : List (Option Member)) → tail_text (Some m ∷ ms) ≡ opening m.name ++ (json_text m.value ++ tail_text ms)
some_text m ms = shape m.name (json_text m.value) (more_members (members_of (present ms))) (125 ∷ 10 ∷ [])

pub stops : (ms : List (Option Member)) → Stops (tail_text ms)
stops [] = refl
stops (None ∷ ms) = stops ms
stops (Some m ∷ ms) = refl

-- ---- members that do not begin so

abbrev pub Differs : (front : List ℕ) → Option Member → Type 0
Differs front None = Unit {0}
Differs front (Some m) = (rest : List ℕ) → begins front (opening m.name ++ rest) ≡ false

abbrev pub AllDiffer : (front : List ℕ) → List (Option Member) → Type 0
AllDiffer front [] = begins front (125 ∷ 10 ∷ []) ≡ false
AllDiffer front (m ∷ ms) = Differs front m × AllDiffer front ms

pub counted_differs : (front name : List ℕ) (v : Option ℕ) → ((rest : List ℕ) → begins front (opening name ++ rest) ≡ false) → Differs front (counted name v)
counted_differs front name None d = tt
counted_differs front name (Some n) d = d

pub none_begins : (front : List ℕ) (ms : List (Option Member)) → AllDiffer front ms → begins front (tail_text ms) ≡ false
none_begins front [] d = d
none_begins front (None ∷ ms) d = none_begins front ms d.1
none_begins front (Some m ∷ ms) d = ap (begins front) (some_text m ms) ∙ d.0 (json_text m.value ++ tail_text ms)

-- ---- a number that may be there

pub record Reads (front : List ℕ) (v : Option ℕ) (text rest : List ℕ) : Type 0 where
  pub value : value_in front text ≡ v
  pub after : after_in front text ≡ rest

not_read : (front text : List ℕ) → begins front text ≡ false → Reads front None text text
unfolding value_in after_in
not_read front text other = record { value = rw other refl; after = rw other refl }

own_value : (front : List ℕ) (n : ℕ) (tail : List ℕ) → begins front (front ++ (decimal n ++ tail)) ≡ true → n < 2 ^ 64 → Stops tail → value_in front (front ++ (decimal n ++ tail)) ≡ Some n
unfolding value_in
own_value front n tail is lt t =
    ap (λ b. cond b (number_in (drop (length front) (front ++ (decimal n ++ tail)))) None) is ∙ ap number_in (drop-append_seam front (decimal n ++ tail)) ∙ number_is n tail lt t

own_after : (front : List ℕ) (n : ℕ) (tail : List ℕ) → begins front (front ++ (decimal n ++ tail)) ≡ true → n < 2 ^ 64 → Stops tail → after_in front (front ++ (decimal n ++ tail)) ≡ tail
unfolding after_in
own_after front n tail is lt t =
    ap (λ v. past_value v front (front ++ (decimal n ++ tail))) (own_value front n tail is lt t)
    ∙ ap (λ l. drop (length front + digits_in l) (front ++ (decimal n ++ tail))) (drop-append_seam front (decimal n ++ tail))
    ∙ drop-append-add front (decimal n ++ tail) (digits_in (decimal n ++ tail))
    ∙ ap (λ k. drop k (decimal n ++ tail)) (digits_end n tail lt t) ∙ drop-append_seam (decimal n) tail

pub counted_read : (name : List ℕ) (v : Option ℕ) (ms : List (Option Member)) → ((rest : List ℕ) → begins (opening name) (opening name ++ rest) ≡ true) → AllDiffer (opening name) ms → IsSmall v
    → Reads (opening name) v (tail_text (counted name v ∷ ms)) (tail_text ms)
counted_read name None ms own others small = not_read (opening name) (tail_text ms) (none_begins (opening name) ms others)
counted_read name (Some n) ms own others small =
    let is = some_text (record { name = name; value = number n }) ms in
    record {
      value = ap (value_in (opening name)) is ∙ own_value (opening name) n (tail_text ms) (own (decimal n ++ tail_text ms)) small (stops ms);
      after = ap (after_in (opening name)) is ∙ own_after (opening name) n (tail_text ms) (own (decimal n ++ tail_text ms)) small (stops ms);
    }
