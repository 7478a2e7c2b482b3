-- The bytes of a packet that was begun are the first packet's.
use Rattle.std.proofs.Common.{◌≡◌, ℕ, zero, suc, ◌+◌, ◌*◌, ◌/◌, ◌%◌, ◌<◌, true, false, nat_eq, List, [], ◌∷◌, ◌++◌, length, take, drop, replicate, refl, ap, ◌∙◌, arith, append_assoc}
use Rattle.std.specs.List.{flat_map}
use Rattle.std.proofs.Math.Seq.{take-append_seam, drop-append_seam}
use Rattle.flac_pages.specs.Page.{Page}
use Rattle.flac_pages.specs.Packets.{Place, Ahead, Packets, ahead, size, ends, past_packet, left_in, lacing_of, rest_of, after_of, rest_in, after_in, to_come}
use Rattle.flac_pages.specs.Given.{whole_packet}
use Rattle.flac_pages.proofs.Stepping.{rest_same, after_same, after_is}

-- lacing values that end a packet: n full ones, and one below 255
pub record Closes (vs ls : List ℕ) (bytes : ℕ) : Type 0 where
  pub size : size vs ≡ bytes
  pub ends : ends vs ≡ true
  pub past : past_packet vs ≡ ls

closes : (k r : ℕ) (ls : List ℕ) → r < 255 → Closes (replicate k 255 ++ (r ∷ ls)) ls (255 * k + r)
closes zero r ls lt = let no : nat_eq r 255 ≡ false = grind arith in record { size = rw no (omega arith); ends = rw no refl; past = rw no refl }
closes (suc k) r ls lt = let more = closes k r ls lt in record { size = omega (arith, more.size); ends = more.ends; past = more.past }

pub packet_closes : (packet ls : List ℕ) → Closes (lacing_of packet ++ ls) ls (length packet)
unfolding lacing_of
packet_closes packet ls =
    let k = length packet / 255 in
    let r = length packet % 255 in
    let whole = closes k r ls (omega arith) in
    let same : (replicate k 255 ++ r ∷ []) ++ ls ≡ replicate k 255 ++ (r ∷ ls) = append_assoc (replicate k 255) (r ∷ []) ls in
    let all : 255 * k + r ≡ length packet = omega arith in
    record { size = ap size same ∙ whole.size ∙ all; ends = ap ends same ∙ whole.ends; past = ap past_packet same ∙ whole.past }

pub given_rest : (a : Ahead) (packet ls bs : List ℕ) → a.lacing ≡ lacing_of packet ++ ls → a.bytes ≡ packet ++ bs → rest_in 0 true a ≡ packet
given_rest a packet ls bs l b =
    let c = packet_closes packet ls in
    let n : left_in 0 true a.lacing ≡ length packet = omega (arith, ap size l, c.size) in
    ap (λ k. take k a.bytes) n ∙ ap (take (length packet)) b ∙ take-append_seam packet bs

given_after : (a : Ahead) (packet ls bs : List ℕ) → a.lacing ≡ lacing_of packet ++ ls → a.bytes ≡ packet ++ bs → after_in 0 true a ≡ whole_packet ls bs a.fault a.stop
given_after a packet ls bs l b =
    let c = packet_closes packet ls in
    let n : left_in 0 true a.lacing ≡ length packet = omega (arith, ap size l, c.size) in
    let e : ends a.lacing ≡ true = ap ends l ∙ c.ends in
    after_is _ _ _ _ _ _ _ _ _ _ _ _ (rw e refl) (rw e refl) (ap past_packet l ∙ c.past) (ap (λ k. drop k a.bytes) n ∙ ap (drop (length packet)) b ∙ drop-append_seam packet bs) refl refl

pub begun_packet : (p : Place) (packet ls bs : List ℕ) → p.rest ≡ 0 → p.more ≡ true → (ahead p).lacing ≡ lacing_of packet ++ ls → (ahead p).bytes ≡ packet ++ bs
    → (rest_of p ≡ packet) × (after_of p ≡ whole_packet ls bs (ahead p).fault (ahead p).stop)
unfolding rest_of after_of
begun_packet p packet ls bs r m l b =
    (rest_same p.rest 0 p.more true (ahead p) (ahead p) r m refl ∙ given_rest (ahead p) packet ls bs l b, after_same p.rest 0 p.more true (ahead p) (ahead p) r m refl ∙ given_after (ahead p) packet ls bs l b)

pub page_packet : (p : Place) (packet : List ℕ) (packets : List (List ℕ)) (part : List ℕ) (given : Packets (to_come p).pages (packet ∷ packets) part) → p.rest ≡ 0 → p.more ≡ true → p.lacing ≡ [] → p.body ≡ []
    → (rest_of p ≡ packet) × (after_of p ≡ whole_packet (flat_map lacing_of packets ++ replicate given.full 255) (flat_map (λ packet. packet) packets ++ part) (ahead p).fault (ahead p).stop)
unfolding ahead
page_packet p packet packets part given r m l b =
    let pages = (to_come p).pages in
    let lacing : p.lacing ++ flat_map (λ (q : Page). q.lacing) pages ≡ lacing_of packet ++ (flat_map lacing_of packets ++ replicate given.full 255) =
    ap (λ k. k ++ flat_map (λ (q : Page). q.lacing) pages) l ∙ given.lacing ∙ append_assoc (lacing_of packet) (flat_map lacing_of packets) (replicate given.full 255) in
    let bytes : p.body ++ flat_map (λ (q : Page). q.body) pages ≡ packet ++ (flat_map (λ packet. packet) packets ++ part) =
    ap (λ k. k ++ flat_map (λ (q : Page). q.body) pages) b ∙ given.bytes ∙ append_assoc packet (flat_map (λ packet. packet) packets) part in
    begun_packet p packet (flat_map lacing_of packets ++ replicate given.full 255) (flat_map (λ packet. packet) packets ++ part) r m lacing bytes
