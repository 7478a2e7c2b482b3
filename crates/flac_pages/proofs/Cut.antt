-- A packet's pages: their lacing values and bytes, and all of them one after another.
use Rattle.std.proofs.Common.{◌≡◌, ◌∙◌, refl, sym, ap, ℕ, zero, suc, ◌+◌, ◌-◌, ◌*◌, ◌/◌, ◌%◌, ◌≤◌, ◌<◌, arith, Bool, List, [], ◌∷◌, ◌++◌, length, length-append, map, take, drop, replicate, set}
use Rattle.std.specs.List.{flat_map, range_with_len}
use Rattle.std.proofs.Math.Nat.{mul_comm, suc-mul}
use Rattle.std.proofs.Math.Seq.{take-add}
use Rattle.std.proofs.lemmas.List.Concat.{flat_map-cons}
use Rattle.std.proofs.lemmas.List.{append-nil, drop-drop, take-replicate, drop-replicate, drop-append-le, take-append-le, take_more_set, take_all, length-replicate, length-drop}
use Rattle.flac_pages.specs.declared.page.Head.{Head}
use Rattle.flac_pages.specs.declared.writing.PacketMarks.{PacketMarks}
use Rattle.flac_pages.specs.Page.{Page, page_spelling}
use Rattle.flac_pages.specs.Packets.{lacing_of}
use Rattle.flac_pages.specs.Written.{page_at, head_at, summed, PagesHavePackets}

-- where no more than whole pages are taken off, the lacing values after them
after_full : (packet : List ℕ) (k : ℕ) → k ≤ length packet / 65025 → drop (255 * k) (lacing_of packet) ≡ replicate (length packet / 255 - 255 * k) 255 ++ (length packet % 255) ∷ []
unfolding lacing_of
after_full packet k h =
    let n = length packet in
    let q : ℕ = n / 255 in
    let room : 255 * k ≤ q = omega (arith, h) in
    drop-append-le (255 * k) (replicate q 255) ((n % 255) ∷ []) (omega (arith, length-replicate {A = ℕ} q 255, room)) ∙ ap (λ l. l ++ (n % 255) ∷ []) (drop-replicate (255 * k) q 255)

pub full_lacing : (packet : List ℕ) (k : ℕ) → k < length packet / 65025 → take 255 (drop (255 * k) (lacing_of packet)) ≡ replicate 255 255
full_lacing packet k h =
    let n = length packet in
    let m : ℕ = n / 255 - 255 * k in
    let room : 255 ≤ m = omega (arith, h) in
    rw (after_full packet k (omega (arith, h))) (take-append-le 255 (replicate m 255) ((n % 255) ∷ []) (omega (arith, length-replicate {A = ℕ} m 255, room)) ∙ take-replicate 255 m 255 room)

module _ (packet : List ℕ) where
  abbrev last : ℕ
  last = length packet / 65025

  abbrev rest : List ℕ
  rest = drop (65025 * last) packet

  rest_long : length rest ≡ length packet - 65025 * last
  rest_long = length-drop (65025 * last) packet

  pub rest_short : length rest < 65025
  rest_short = omega (arith, rest_long)

  pub last_lacing : take 255 (drop (255 * last) (lacing_of packet)) ≡ lacing_of rest
  unfolding lacing_of
  last_lacing =
      let n = length packet in
      let m : ℕ = n / 255 - 255 * last in
      let whole : length rest / 255 ≡ m = omega (arith, rest_long) in
      let part : length rest % 255 ≡ n % 255 = omega (arith, rest_long) in
      let room : m + 1 ≤ 255 = omega (arith, rest_long) in
      rw (after_full packet last (omega arith), whole, part) (take_all 255 (replicate m 255 ++ (n % 255) ∷ []) (omega (arith, length-append (replicate m 255) ((n % 255) ∷ []), length-replicate {A = ℕ} m 255, room)))

  pub last_body : take 65025 rest ≡ rest
  last_body = take_all 65025 rest (omega (arith, rest_short))

-- as the code makes them
pub made_lacing : (n : ℕ) (at_first : List ℕ) → n < 65025 → at_first ≡ replicate 255 255 → take (n / 255 + 1) (set at_first (n / 255) (n % 255)) ≡ replicate (n / 255) 255 ++ (n % 255) ∷ []
made_lacing n at_first short is =
    let q : ℕ = n / 255 in
    let room : q < 255 = omega (arith, short) in
    rw is (take_more_set (replicate 255 255) q (n % 255) (omega (arith, length-replicate {A = ℕ} 255 255, room)) ∙ ap (λ l. l ++ (n % 255) ∷ []) (take-replicate q 255 255 (omega (arith, room))))

-- ---- pages as they are written

pub slice_is : (packet : List ℕ) (k : ℕ) → take (65025 * k + 65025 - 65025 * k) (drop (65025 * k) packet) ≡ take 65025 (drop (65025 * k) packet)
slice_is packet k = let e : 65025 * k + 65025 - 65025 * k ≡ 65025 = omega arith in rw e refl

pub full_page : (m : PacketMarks) (packet : List ℕ) (k : ℕ) (h : Head) (body : List ℕ) → k < length packet / 65025 → h ≡ head_at m (length packet / 65025) k → body ≡ take 65025 (drop (65025 * k) packet)
    → page_spelling (page_at m packet k) ≡ page_spelling (summed (record { head = h; lacing = replicate 255 255; body = body }))
full_page m packet k h body lt head_is body_is = rw (full_lacing packet k lt, head_is, body_is) refl

pub last_page : (m : PacketMarks) (packet : List ℕ) (h : Head) (body : List ℕ) → h ≡ head_at m (length packet / 65025) (length packet / 65025) → body ≡ drop (65025 * (length packet / 65025)) packet
    → page_spelling (page_at m packet (length packet / 65025)) ≡ page_spelling (summed (record { head = h; lacing = lacing_of body; body = body }))
last_page m packet h body head_is body_is = rw (body_is, last_lacing packet, last_body packet, head_is) refl

pub rest_is : (packet : List ℕ) (from : ℕ) → take (length packet - from) (drop from packet) ≡ drop from packet
rest_is packet from = take_all (length packet - from) (drop from packet) (omega (arith, length-drop from packet))

-- one page, and those after it
pub page_more : (f : ℕ → List Bool) (k last : ℕ) → k ≤ last → flat_map f (range_with_len k (last + 1 - k)) ≡ f k ++ flat_map f (range_with_len (k + 1) (last + 1 - (k + 1)))
page_more f k last h = let e : last + 1 - k ≡ suc (last + 1 - (k + 1)) = omega (arith, h) in rw e (flat_map-cons f k (range_with_len (k + 1) (last + 1 - (k + 1))))

pub page_none : (f : ℕ → List Bool) (last : ℕ) → flat_map f (range_with_len (last + 1) (last + 1 - (last + 1))) ≡ []
page_none f last = let e : last + 1 - (last + 1) ≡ 0 = omega arith in rw e refl

-- ---- a packet's pages have just the packet

chunks : {X : Type 0} (c : ℕ) (xs : List X) (a j : ℕ) → flat_map (λ k. take c (drop (c * k) xs)) (range_with_len a j) ≡ take (c * j) (drop (c * a) xs)
chunks c xs a zero = let e : c * 0 ≡ 0 = omega arith in rw e refl
chunks {X = X} c xs a (suc j) =
    let f : ℕ → List X = λ k. take c (drop (c * k) xs) in
    let more : c * suc j ≡ c + c * j = omega (arith, mul_comm c (suc j), suc-mul j c, mul_comm j c) in
    let next : c * a + c ≡ c * (a + 1) = omega (arith, mul_comm c (a + 1), suc-mul a c, mul_comm a c) in
    let after : drop c (drop (c * a) xs) ≡ drop (c * (a + 1)) xs = drop-drop c (c * a) xs ∙ ap (λ n. drop n xs) next in
    flat_map-cons f a (range_with_len (a + 1) j) ∙ ap (λ l. f a ++ l) (chunks c xs (a + 1) j)
    ∙ rw (more, ← after) (sym (take-add c (c * j) (drop (c * a) xs)))

whole : {X : Type 0} (c : ℕ) (xs : List X) (j : ℕ) → length xs ≤ c * j → flat_map (λ k. take c (drop (c * k) xs)) (range_with_len 0 j) ≡ xs
whole c xs j enough = let none : c * 0 ≡ 0 = omega arith in chunks c xs 0 j ∙ rw none (take_all (c * j) xs enough)

over_map : {X Y Z : Type 0} (f : Y → List Z) (g : X → Y) (xs : List X) → flat_map f (map g xs) ≡ flat_map (λ x. f (g x)) xs
over_map f g [] = refl
over_map f g (x ∷ xs) = flat_map-cons f (g x) (map g xs) ∙ ap (λ l. f (g x) ++ l) (over_map f g xs) ∙ sym (flat_map-cons (λ y. f (g y)) x xs)

lacing_long : (packet : List ℕ) → length (lacing_of packet) ≡ length packet / 255 + 1
unfolding lacing_of
lacing_long packet = omega (arith, length-append (replicate (length packet / 255) 255) ((length packet % 255) ∷ []), length-replicate {A = ℕ} (length packet / 255) 255)

pub pages_have_packets : PagesHavePackets
pages_have_packets m packet =
    let last : ℕ = length packet / 65025 in
    let ks = range_with_len 0 (last + 1) in
    record {
      full = 0;
      lacing = over_map (λ (p : Page). p.lacing) (page_at m packet) ks ∙ whole 255 (lacing_of packet) (last + 1) (omega (arith, lacing_long packet)) ∙ sym (append-nil (lacing_of packet)) ∙ ap (λ l. l ++ []) (sym (append-nil (lacing_of packet)));
      bytes = over_map (λ (p : Page). p.body) (page_at m packet) ks ∙ whole 65025 packet (last + 1) (omega arith) ∙ sym (append-nil packet) ∙ ap (λ l. l ++ []) (sym (append-nil packet));
      part = refl;
    }
