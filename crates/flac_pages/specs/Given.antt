-- What a reader of packets reads of the packets in pages.
use Rattle.std.specs.Prelude.{◌≡◌, ◌<◌, ◌*◌, ℕ, Bool, true, false, List, [], ◌∷◌, ◌++◌, length, replicate, Option, Some, None, Result, Ok, Err}
use Rattle.std.specs.List.{flat_map}
use Rattle.flac_bits.specs.State.{After}
use Rattle.flac_bits.specs.declared.why.Why.{Why}
use Rattle.flac_pages.specs.Packets.{Place, Ahead, Packets, ahead, to_come, lacing_of, rest_of, after_of, Begins}
use Rattle.flac_pages.specs.Items.{whole, end_in, end_of, HasAfter}

-- after a whole packet: no fault, the lacing values and bytes of what follows it, and how that ends
abbrev pub whole_packet : List ℕ → List ℕ → Option (ℕ × Why) → Option (ℕ × Why) → After
whole_packet pieces bytes fault stop = record { fails = None; cut = false; pieces = pieces; bytes = bytes; fault = fault; stop = stop; fenced = [] }

pub record PacketsAreGiven : Type 0 where
  -- If a packet was begun, of which nothing was taken, and good pages still have it and these lacing values and bytes
  -- after it: its bytes are to come, and after it these.
  pub next : (p : Place) (packet ls bs : List ℕ) → p.rest ≡ 0 → p.more ≡ true → (ahead p).lacing ≡ lacing_of packet ++ ls → (ahead p).bytes ≡ packet ++ bs
      → (rest_of p ≡ packet) × (after_of p ≡ whole_packet ls bs (ahead p).fault (ahead p).stop)
  -- this holds at a page's front, if the pages to come have a first packet
  pub of_pages : (p : Place) (packet : List ℕ) (packets : List (List ℕ)) (part : List ℕ) (given : Packets (to_come p).pages (packet ∷ packets) part) → p.rest ≡ 0 → p.more ≡ true → p.lacing ≡ [] → p.body ≡ []
      → (rest_of p ≡ packet) × (after_of p ≡ whole_packet (flat_map lacing_of packets ++ replicate given.full 255) (flat_map (λ packet. packet) packets ++ part) (ahead p).fault (ahead p).stop)

-- ---- all packets

-- good pages still have these packets one after another, and the bytes of a packet that goes on after them
pub record PacketsAhead (a : Ahead) (packets : List (List ℕ)) (begun : List ℕ) : Type 0 where
  pub full : ℕ
  pub lacing : a.lacing ≡ flat_map lacing_of packets ++ replicate full 255
  pub bytes : a.bytes ≡ flat_map (λ packet. packet) packets ++ begun
  pub part : length begun ≡ 255 * full

-- the result of a call that is to begin a packet
abbrev pub answered : Bool → Result Bool (ℕ × Why)
answered more = Ok more

-- if no packet is left
abbrev pub stops : Option (ℕ × Why) → Result Bool (ℕ × Why)
stops None = Ok false
stops (Some f) = Err f

-- by calls one after another these packets were begun and taken, and each ended
abbrev pub Takes : Place → List (List ℕ) → Place → Type 0
Takes p [] q = p ≡ q
Takes p (packet ∷ packets) q =
    (begun : Place) × (next : Place) × Begins p begun (answered true) × (rest_of begun ≡ packet) × (end_of (after_of begun) ≡ whole) × HasAfter begun next × Takes next packets q

pub record PacketListIsGiven : Type 0 where
  -- at a page's front the packets ahead are those of the pages to come
  pub of_pages : (p : Place) (packets : List (List ℕ)) (begun : List ℕ) → p.lacing ≡ [] → p.body ≡ [] → Packets (to_come p).pages packets begun → PacketsAhead (ahead p) packets begun
  -- they are one list
  pub one : (a : Ahead) (xs ys : List (List ℕ)) (s t : List ℕ) → PacketsAhead a xs s → PacketsAhead a ys t → (xs ≡ ys) × (s ≡ t)
  -- the packets that were taken are the first of them, and the others are left
  pub taken : (p q : Place) (given packets : List (List ℕ)) (begun : List ℕ) → p.known ≡ true → PacketsAhead (ahead p) packets begun → Takes p given q
      → (q.known ≡ true) × ((left : List (List ℕ)) × (packets ≡ given ++ left) × PacketsAhead (ahead q) left begun)
  -- if one is left, the next is begun, and it is whole
  pub next : (p q : Place) (packet : List ℕ) (packets : List (List ℕ)) (begun : List ℕ) (result : Result Bool (ℕ × Why)) → p.known ≡ true → q.errors ≡ p.errors → PacketsAhead (ahead p) (packet ∷ packets) begun → Begins p q result
      → (result ≡ answered true) × (rest_of q ≡ packet) × (end_of (after_of q) ≡ whole)
  -- if none is left, the one that goes on is begun, and does not end
  pub last : (p q : Place) (begun : List ℕ) (result : Result Bool (ℕ × Why)) → p.known ≡ true → q.errors ≡ p.errors → PacketsAhead (ahead p) [] begun → 0 < length begun → Begins p q result
      → (result ≡ answered true) × (rest_of q ≡ begun) × (end_of (after_of q) ≡ end_in (ahead p).fault true)
  -- if there is no such one either, no packet is begun: the pages are over, or the next one's fault is returned
  pub over : (p q : Place) (result : Result Bool (ℕ × Why)) → p.known ≡ true → q.errors ≡ p.errors → PacketsAhead (ahead p) [] [] → Begins p q result → result ≡ stops (ahead p).stop
