-- Parts of the bytes of a source.
use Rattle.std.proofs.Common.{◌≡◌, ◌≤◌, ◌<◌, ◌+◌, ◌-◌, ◌++◌, ◌∷◌, [], ℕ, zero, suc, Bool, true, false, List, Option, Some, None, length, take, drop, min, ◌⊎◌, inl, inr, refl, sym, ap, ◌∙◌, arith, length-append}
use Rattle.std.specs.Prelude.{nat_lt}
use Rattle.std.proofs.lemmas.List.{take-append-le, take-append-drop, drop-append-le, drop-drop, length-take-le}
use Rattle.std.proofs.lemmas.Bool.{lt-ltb, le-ltb, cases_lt}
use Rattle.flac_bits.specs.State.{After}
use Rattle.flac_wave.specs.Parts.{given, beyond, is_cut, room_in, size_after, end_of}

-- the part is these bytes and then those beyond
pub part_whole : (size : Option ℕ) (bytes : List ℕ) → given size bytes ++ beyond size bytes ≡ bytes
part_whole None [] = refl
part_whole None (b ∷ bs) = ap (λ l. b ∷ l) (part_whole None bs)
part_whole (Some n) bytes = take-append-drop n bytes

take_past : (k : ℕ) (xs ys : List ℕ) → length xs ≤ k → take k (xs ++ ys) ≡ xs ++ take (k - length xs) ys
take_past k [] ys few = ap (λ n. take n ys) (let e : k ≡ k - 0 = omega arith in e)
take_past zero (x ∷ xs) ys few = absurd (omega (arith, few))
take_past (suc k) (x ∷ xs) ys few =
    let e : suc k - suc (length xs) ≡ k - length xs = omega arith in
    ap (λ l. x ∷ l) (take_past k xs ys (omega (arith, few))) ∙ ap (λ n. x ∷ (xs ++ take n ys)) (sym e)

drop_past : (k : ℕ) (xs ys : List ℕ) → length xs ≤ k → drop k (xs ++ ys) ≡ drop (k - length xs) ys
drop_past k [] ys few = ap (λ n. drop n ys) (let e : k ≡ k - 0 = omega arith in e)
drop_past zero (x ∷ xs) ys few = absurd (omega (arith, few))
drop_past (suc k) (x ∷ xs) ys few =
    let e : suc k - suc (length xs) ≡ k - length xs = omega arith in
    drop_past k xs ys (omega (arith, few)) ∙ ap (λ n. drop n ys) (sym e)

room_least : (n k room : ℕ) → n ≤ min k room → n ≤ k
room_least n k room few = omega (arith, few)

-- n bytes of the part came
pub part_next : (size : Option ℕ) (room n : ℕ) (front coming later : List ℕ) → length front ≡ n → n ≤ room_in size room → coming ≡ front ++ later → given size coming ≡ front ++ given (size_after size n) later
part_next None room n front coming later long few is = is
part_next (Some k) room n front coming later long few is =
    ap (take k) is ∙ (take_past k front later (omega (arith, long, room_least n k room few)) ∙ ap (λ m. front ++ take (k - m) later) long)

pub beyond_next : (size : Option ℕ) (room n : ℕ) (front coming later : List ℕ) → length front ≡ n → n ≤ room_in size room → coming ≡ front ++ later → beyond (size_after size n) later ≡ beyond size coming
beyond_next None room n front coming later long few is = refl
beyond_next (Some k) room n front coming later long few is =
    sym (ap (drop k) is ∙ (drop_past k front later (omega (arith, long, room_least n k room few)) ∙ ap (λ m. drop (k - m) later) long))

lt_by : (a b c d : ℕ) → (a < b → c < d) → (b ≤ a → d ≤ c) → nat_lt a b ≡ nat_lt c d
lt_by a b c d f g = by_cases (cases_lt a b)
  where
    by_cases : (a < b) ⊎ (b ≤ a) → nat_lt a b ≡ nat_lt c d
    by_cases (inl l) = lt-ltb a b l ∙ sym (lt-ltb c d (f l))
    by_cases (inr m) = le-ltb a b m ∙ sym (le-ltb c d (g m))

pub cut_next : (size : Option ℕ) (room n : ℕ) (front coming later : List ℕ) → length front ≡ n → n ≤ room_in size room → coming ≡ front ++ later → is_cut (size_after size n) later ≡ is_cut size coming
cut_next None room n front coming later long few is = refl
cut_next (Some k) room n front coming later long few is =
    let all : length coming ≡ n + length later = ap length is ∙ (length-append front later ∙ ap (λ m. m + length later) long) in
    let within = room_least n k room few in
    lt_by (length later) (k - n) (length coming) k (λ l. omega (arith, l, all, within)) (λ m. omega (arith, m, all, within))

abbrev made : Bool → List ℕ → After
made cut bytes = record { fails = None; cut = cut; pieces = length bytes ∷ []; bytes = bytes; fault = None; stop = None; fenced = [] }

pub end_next : (size : Option ℕ) (room n : ℕ) (front coming later : List ℕ) → length front ≡ n → n ≤ room_in size room → coming ≡ front ++ later → end_of (size_after size n) later ≡ end_of size coming
end_next size room n front coming later long few is =
    ap (λ (b : Bool). made b (beyond (size_after size n) later)) (cut_next size room n front coming later long few is)
    ∙ ap (made (is_cut size coming)) (beyond_next size room n front coming later long few is)

-- no room is left in the part, or there is none for any byte
pub no_room : (size : Option ℕ) (room : ℕ) (coming : List ℕ) → room_in size room ≡ 0 → 0 < room → given size coming ≡ []
no_room None room coming none some = absurd (omega (arith, none, some))
no_room (Some k) room coming none some =
    let e : k ≡ 0 = omega (arith, none, some) in
    ap (λ n. take n coming) e ∙ none_taken coming
  where
    none_taken : (bytes : List ℕ) → take 0 bytes ≡ []
    none_taken [] = refl
    none_taken (x ∷ xs) = refl

-- and of no bytes none belong to it
pub none_given : (size : Option ℕ) (coming : List ℕ) → coming ≡ [] → given size coming ≡ []
none_given None coming is = is
none_given (Some zero) [] is = refl
none_given (Some (suc k)) [] is = refl
none_given (Some k) (c ∷ cs) is = absurd cc

-- ---- at the end of the part

-- the source has the bytes beyond
pub ended_beyond : (size : Option ℕ) (coming : List ℕ) → given size coming ≡ [] → coming ≡ beyond size coming
ended_beyond None coming e = e
ended_beyond (Some zero) [] e = refl
ended_beyond (Some zero) (c ∷ cs) e = refl
ended_beyond (Some (suc k)) [] e = refl
ended_beyond (Some (suc k)) (c ∷ cs) e = absurd cc

-- it is cut if bytes of it are missing
pub ended_cut : (size : Option ℕ) (coming : List ℕ) → given size coming ≡ [] → is_cut size [] ≡ is_cut size coming
ended_cut None coming e = refl
ended_cut (Some zero) coming e = sym (le-ltb (length coming) 0 (omega arith))
ended_cut (Some (suc k)) [] e = refl
ended_cut (Some (suc k)) (c ∷ cs) e = absurd cc

-- after a whole part was read
pub record PartRead (size : Option ℕ) (bytes : List ℕ) (left : Option ℕ) (coming : List ℕ) : Type 0 where
  pub rest : coming ≡ beyond size bytes
  pub cut : is_cut left [] ≡ is_cut size bytes

pub part_read : (size left : Option ℕ) (bytes coming : List ℕ) → given left coming ≡ [] → end_of left coming ≡ end_of size bytes → PartRead size bytes left coming
part_read size left bytes coming e same = record {
  rest = ended_beyond left coming e ∙ ap (λ (a : After). a.bytes) same;
  cut = ended_cut left coming e ∙ ap (λ (a : After). a.cut) same;
}
