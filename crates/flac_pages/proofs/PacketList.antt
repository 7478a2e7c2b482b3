-- The packets that calls one after another give are those that the pages have.
use Rattle.std.proofs.Common.{◌≡◌, ℕ, zero, suc, ◌*◌, ◌<◌, Bool, true, false, List, [], ◌∷◌, ◌++◌, length, take, drop, replicate, Option, Some, None, Result, Ok, Err, refl, sym, ap, subst, ◌∙◌, arith, append_assoc, length-append}
use Rattle.std.specs.List.{flat_map}
use Rattle.std.proofs.lemmas.List.{take_all}
use Rattle.std.proofs.Math.Seq.{drop-append_seam}
use Rattle.flac_bits.specs.State.{After}
use Rattle.flac_bits.specs.declared.why.Why.{Why}
use Rattle.flac_pages.specs.Page.{Page}
use Rattle.flac_pages.specs.Packets.{Place, Ahead, Packets, ahead, to_come, size, ends, past_packet, lacing_of, left_in, rest_in, after_in, rest_of, after_of, Begins}
use Rattle.flac_pages.specs.Items.{whole, end_in, end_of}
use Rattle.flac_pages.specs.Given.{PacketsAhead, answered, stops, Takes, PacketListIsGiven}
use Rattle.flac_pages.proofs.Stepping.{rest_same, after_same}
use Rattle.flac_pages.proofs.PacketMeaning.{packet_closes, given_rest, begun_packet}

abbrev bytes_of : List (List ℕ) → List ℕ
bytes_of packets = flat_map (λ (packet : List ℕ). packet) packets

-- ---- one packet off the front

lacing_front : (a : Ahead) (x : List ℕ) (xs : List (List ℕ)) (s : List ℕ) (h : PacketsAhead a (x ∷ xs) s) → a.lacing ≡ lacing_of x ++ (flat_map lacing_of xs ++ replicate h.full 255)
lacing_front a x xs s h = h.lacing ∙ append_assoc (lacing_of x) (flat_map lacing_of xs) (replicate h.full 255)

bytes_front : (a : Ahead) (x : List ℕ) (xs : List (List ℕ)) (s : List ℕ) → PacketsAhead a (x ∷ xs) s → a.bytes ≡ x ++ (bytes_of xs ++ s)
bytes_front a x xs s h = h.bytes ∙ append_assoc x (bytes_of xs) s

-- after the first packet
after_first : Ahead → Ahead
after_first a = record a { lacing = past_packet a.lacing; bytes = drop (size a.lacing) a.bytes }

-- a whole packet is the first ahead
record IsFirst (a : Ahead) (x : List ℕ) (xs : List (List ℕ)) (s : List ℕ) : Type 0 where
  ends : ends a.lacing ≡ true
  rest : rest_in 0 true a ≡ x
  others : PacketsAhead (after_first a) xs s

first_is : (a : Ahead) (x : List ℕ) (xs : List (List ℕ)) (s : List ℕ) → PacketsAhead a (x ∷ xs) s → IsFirst a x xs s
unfolding after_first
first_is a x xs s h =
    let ls : List ℕ = flat_map lacing_of xs ++ replicate h.full 255 in
    let bs : List ℕ = bytes_of xs ++ s in
    let c = packet_closes x ls in
    let l = lacing_front a x xs s h in
    let b = bytes_front a x xs s h in
    let long : size a.lacing ≡ length x = ap size l ∙ c.size in
    record {
      ends = ap ends l ∙ c.ends;
      rest = given_rest a x ls bs l b;
      others = record { full = h.full; lacing = ap past_packet l ∙ c.past; bytes = ap (λ k. drop k a.bytes) long ∙ ap (drop (length x)) b ∙ drop-append_seam x bs; part = h.part };
    }

-- lacing values that end no packet
full_size : (k : ℕ) → size (replicate k 255) ≡ 255 * k
full_size zero = refl
full_size (suc k) = omega (arith, full_size k)

full_ends : (k : ℕ) → ends (replicate k 255) ≡ false
full_ends zero = refl
full_ends (suc k) = full_ends k

-- none is whole
record IsLast (a : Ahead) (s : List ℕ) : Type 0 where
  ends : ends a.lacing ≡ false
  rest : rest_in 0 true a ≡ s

last_is : (a : Ahead) (s : List ℕ) → PacketsAhead a [] s → IsLast a s
last_is a s h =
    let n : left_in 0 true a.lacing ≡ 255 * h.full = omega (arith, ap size h.lacing, full_size h.full) in
    record {
      ends = ap ends h.lacing ∙ full_ends h.full;
      rest = ap (λ k. take k a.bytes) n ∙ ap (take (255 * h.full)) h.bytes ∙ take_all (255 * h.full) s (omega (arith, h.part));
    }

two : true ≡ false → ⊥
two e = absurd cc

-- what is ahead is one list of packets
one_list : (a : Ahead) (xs ys : List (List ℕ)) (s t : List ℕ) → PacketsAhead a xs s → PacketsAhead a ys t → (xs ≡ ys) × (s ≡ t)
one_list a [] [] s t h k = (refl, sym (last_is a s h).rest ∙ (last_is a t k).rest)
one_list a [] (y ∷ ys) s t h k = absurd (two (sym (first_is a y ys t k).ends ∙ (last_is a s h).ends))
one_list a (x ∷ xs) [] s t h k = absurd (two (sym (first_is a x xs s h).ends ∙ (last_is a t k).ends))
one_list a (x ∷ xs) (y ∷ ys) s t h k =
    let first = first_is a x xs s h in
    let second = first_is a y ys t k in
    let more = one_list (after_first a) xs ys s t first.others second.others in
    let same : x ≡ y = sym first.rest ∙ second.rest in
    (ap (λ z. z ∷ xs) same ∙ ap (λ zs. y ∷ zs) more.0, more.1)

-- ---- the calls

none_left : (a : Ahead) (x : List ℕ) (xs : List (List ℕ)) (s : List ℕ) → PacketsAhead a (x ∷ xs) s → a.lacing ≡ [] → ⊥
none_left a x xs s h e = two (sym (first_is a x xs s h).ends ∙ ap ends e)

next_is : (p q : Place) (packet : List ℕ) (packets : List (List ℕ)) (begun : List ℕ) (result : Result Bool (ℕ × Why)) → p.known ≡ true → q.errors ≡ p.errors → PacketsAhead (ahead p) (packet ∷ packets) begun → Begins p q result
    → (result ≡ answered true) × (rest_of q ≡ packet) × (end_of (after_of q) ≡ whole)
next_is p q x xs s (Ok true) known same h b =
    let ahead_is : ahead q ≡ ahead p = b.ahead known in
    let ls : List ℕ = flat_map lacing_of xs ++ replicate h.full 255 in
    let bs : List ℕ = bytes_of xs ++ s in
    let is = begun_packet q x ls bs b.stands.0 b.stands.1 (ap (λ (a : Ahead). a.lacing) ahead_is ∙ lacing_front (ahead p) x xs s h) (ap (λ (a : Ahead). a.bytes) ahead_is ∙ bytes_front (ahead p) x xs s h) in
    (refl, is.0, ap (λ (b : After). end_of b) is.1)
next_is p q x xs s (Ok false) known same h b = absurd (none_left (ahead p) x xs s h (b.over known).0)
next_is p q x xs s (Err f) known same h b = absurd (none_left (ahead p) x xs s h (b.fault known same).0)

-- a packet that was begun where none is whole
open_end : (a : Ahead) (s : List ℕ) → PacketsAhead a [] s → end_of (after_in 0 true a) ≡ end_in a.fault true
open_end a s h = let e = (last_is a s h).ends in rw e refl

open_is : (p q : Place) (s : List ℕ) → p.known ≡ true → PacketsAhead (ahead p) [] s → Begins p q (answered true) → (rest_of q ≡ s) × (end_of (after_of q) ≡ end_in (ahead p).fault true)
unfolding rest_of after_of
open_is p q s known h b =
    let ahead_is : ahead q ≡ ahead p = b.ahead known in (
      rest_same q.rest 0 q.more true (ahead q) (ahead p) b.stands.0 b.stands.1 ahead_is ∙ (last_is (ahead p) s h).rest,
      ap (λ (b : After). end_of b) (after_same q.rest 0 q.more true (ahead q) (ahead p) b.stands.0 b.stands.1 ahead_is) ∙ open_end (ahead p) s h,
    )

part_left : (a : Ahead) (s : List ℕ) → PacketsAhead a [] s → a.lacing ≡ [] → length s ≡ 0
part_left a s h e = let none : 255 * h.full ≡ 0 = sym (full_size h.full) ∙ ap size (sym h.lacing ∙ e) in h.part ∙ none

last_begun : (p q : Place) (begun : List ℕ) (result : Result Bool (ℕ × Why)) → p.known ≡ true → q.errors ≡ p.errors → PacketsAhead (ahead p) [] begun → 0 < length begun → Begins p q result
    → (result ≡ answered true) × (rest_of q ≡ begun) × (end_of (after_of q) ≡ end_in (ahead p).fault true)
last_begun p q s (Ok true) known same h some b = let is = open_is p q s known h b in (refl, is.0, is.1)
last_begun p q s (Ok false) known same h some b = absurd (omega (arith, some, part_left (ahead p) s h (b.over known).0))
last_begun p q s (Err f) known same h some b = absurd (omega (arith, some, part_left (ahead p) s h (b.fault known same).0))

some_ahead : (q : Place) → 0 < length q.lacing → 0 < length (ahead q).lacing
unfolding ahead
some_ahead q some = omega (arith, some, length-append q.lacing (flat_map (λ (r : Page). r.lacing) (to_come q).pages))

none_ahead : (a : Ahead) → PacketsAhead a [] [] → length a.lacing ≡ 0
none_ahead a h = let none : h.full ≡ 0 = omega (arith, h.part) in ap length h.lacing ∙ ap (λ k. length (replicate k 255)) none

over_is : (p q : Place) (result : Result Bool (ℕ × Why)) → p.known ≡ true → q.errors ≡ p.errors → PacketsAhead (ahead p) [] [] → Begins p q result → result ≡ stops (ahead p).stop
over_is p q (Ok true) known same h b = absurd (omega (arith, some_ahead q b.some, ap (λ (a : Ahead). length a.lacing) (b.ahead known), none_ahead (ahead p) h))
over_is p q (Ok false) known same h b = ap stops (sym (b.over known).1)
over_is p q (Err f) known same h b = ap stops (sym (b.fault known same).1)

-- ---- and the list

unended_is : (o : Option (ℕ × Why)) → end_in o true ≡ whole → ⊥
unended_is None e = absurd cc
unended_is (Some f) e = absurd cc

taken : (p q : Place) (given packets : List (List ℕ)) (begun : List ℕ) → p.known ≡ true → PacketsAhead (ahead p) packets begun → Takes p given q
    → (q.known ≡ true) × ((left : List (List ℕ)) × (packets ≡ given ++ left) × PacketsAhead (ahead q) left begun)
taken p q [] packets s known h e = (ap (λ (r : Place). r.known) (sym e) ∙ known, (packets, refl, subst (λ (r : Place). PacketsAhead (ahead r) packets s) e h))
taken p q (x ∷ xs) [] s known h (b, n, begins, rest, ended, after, more) = absurd (unended_is (ahead p).fault (sym (open_is p b s known h begins).1 ∙ ended))
taken p q (x ∷ xs) (y ∷ ys) s known h (b, n, begins, rest, ended, after, more) =
    let ahead_is : ahead b ≡ ahead p = begins.ahead known in
    let ls : List ℕ = flat_map lacing_of ys ++ replicate h.full 255 in
    let bs : List ℕ = bytes_of ys ++ s in
    let is = begun_packet b y ls bs begins.stands.0 begins.stands.1 (ap (λ (a : Ahead). a.lacing) ahead_is ∙ lacing_front (ahead p) y ys s h) (ap (λ (a : Ahead). a.bytes) ahead_is ∙ bytes_front (ahead p) y ys s h) in
    let next : PacketsAhead (ahead n) ys s = record { full = h.full; lacing = after.lacing ∙ ap (λ (k : After). k.pieces) is.1; bytes = after.bytes ∙ ap (λ (k : After). k.bytes) is.1; part = h.part } in
    let others = taken n q xs ys s after.known next more in
    let same : y ≡ x = sym is.0 ∙ rest in
    (others.0, (others.1.0, ap (λ z. z ∷ ys) same ∙ ap (λ zs. x ∷ zs) others.1.1, others.1.2))

of_pages : (p : Place) (packets : List (List ℕ)) (begun : List ℕ) → p.lacing ≡ [] → p.body ≡ [] → Packets (to_come p).pages packets begun → PacketsAhead (ahead p) packets begun
unfolding ahead
of_pages p packets s l b given = record {
  full = given.full;
  lacing = ap (λ k. k ++ flat_map (λ (q : Page). q.lacing) (to_come p).pages) l ∙ given.lacing;
  bytes = ap (λ k. k ++ flat_map (λ (q : Page). q.body) (to_come p).pages) b ∙ given.bytes;
  part = given.part;
}

pub packet_list : PacketListIsGiven
packet_list = record { of_pages = of_pages; one = one_list; taken = taken; next = next_is; last = last_begun; over = over_is }
