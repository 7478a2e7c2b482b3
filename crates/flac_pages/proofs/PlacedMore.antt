-- Packets put one after another in memory.
use Rattle.std.proofs.Common.{◌≡◌, ℕ, ◌-◌, ◌^◌, ◌<◌, ◌≤◌, true, List, [], ◌∷◌, ◌++◌, length, take, drop, refl, sym, ap, ◌∙◌, arith, length-append}
use Rattle.std.proofs.lemmas.List.{drop-append-le, take-append-le, take_all, drop_at, length-drop}
use Rattle.std.proofs.lemmas.List.Elements.{All-cons, All-tail}
use Rattle.flac_pages.specs.declared.writing.PacketAt.{PacketAt}
use Rattle.flac_pages.specs.declared.writing.PacketKind.{PacketKind}
use Rattle.flac_pages.specs.Placed.{AreInOrder, placed_in, end_of, IsPlaced, PacketsArePlaced, BytesArePlaced}
use Rattle.flac_pages.specs.Written.{granule_at}
use Rattle.flac_pages.proofs.PageStands.{bytes_take, bytes_drop}

-- the packet after the last end
last_cut : (bytes packet : List ℕ) (from : ℕ) → from ≡ length bytes → take (length (bytes ++ packet) - from) (drop from (bytes ++ packet)) ≡ packet
last_cut bytes packet from is =
    ap (λ l. take (length (bytes ++ packet) - from) l) (drop_at bytes packet from (sym is)) ∙ take_all (length (bytes ++ packet) - from) packet (omega (arith, length-append bytes packet, is))

-- one that lies before it
cut_same : (bytes packet : List ℕ) (from end : ℕ) → from ≤ end → end ≤ length bytes → take (end - from) (drop from (bytes ++ packet)) ≡ take (end - from) (drop from bytes)
cut_same bytes packet from end le fits =
    ap (λ l. take (end - from) l) (drop-append-le from bytes packet (omega (arith, le, fits))) ∙ take-append-le (end - from) (drop from bytes) packet (omega (arith, le, fits, length-drop from bytes))

module _ (bytes packet : List ℕ) (kind : PacketKind) where
  more_order : (from : ℕ) (ps : List PacketAt) → from ≤ length bytes → AreInOrder from (length bytes) ps → AreInOrder from (length (bytes ++ packet)) (ps ++ record { end = length (bytes ++ packet); kind = kind } ∷ [])
  more_order from [] le order = (omega (arith, le, length-append bytes packet), omega arith, tt)
  more_order from (p ∷ ps) le (a, b, others) = (a, omega (arith, b, length-append bytes packet), more_order p.end ps b others)

  more_ends : (from : ℕ) (ps : List PacketAt) → end_of from (ps ++ record { end = length (bytes ++ packet); kind = kind } ∷ []) ≡ length (bytes ++ packet)
  more_ends from [] = refl
  more_ends from (p ∷ ps) = more_ends p.end ps

  more_placed : (from : ℕ) (ps : List PacketAt) → AreInOrder from (length bytes) ps → end_of from ps ≡ length bytes
      → placed_in (bytes ++ packet) from (ps ++ record { end = length (bytes ++ packet); kind = kind } ∷ []) ≡ placed_in bytes from ps ++ record { packet = packet; kind = kind } ∷ []
  more_placed from [] order ends = ap (λ (x : List ℕ). record { packet = x; kind = kind } ∷ []) (last_cut bytes packet from ends)
  more_placed from (p ∷ ps) (a, b, others) ends =
      ap (λ (x : List ℕ). record { packet = x; kind = p.kind } ∷ placed_in (bytes ++ packet) p.end (ps ++ record { end = length (bytes ++ packet); kind = kind } ∷ [])) (cut_same bytes packet from p.end a b)
      ∙ ap (λ l. record { packet = take (p.end - from) (drop from bytes); kind = p.kind } ∷ l) (more_placed p.end ps others ends)

pub packets_placed : PacketsArePlaced
packets_placed bytes packet kind packets order ends = record {
  order = more_order bytes packet kind 0 packets (omega arith) order;
  ends = more_ends bytes packet kind 0 packets;
  placed = more_placed bytes packet kind 0 packets order ends;
}

pub bytes_placed : BytesArePlaced
bytes_placed bytes from [] small all = λ k d lt. absurd (omega (arith, lt))
bytes_placed bytes from (p ∷ ps) small all =
    All-cons IsPlaced (record { packet = take (p.end - from) (drop from bytes); kind = p.kind }) (placed_in bytes p.end ps)
    (record { bytes = bytes_take (p.end - from) (drop from bytes) (bytes_drop from bytes small); position = all 0 p (omega arith) })
    (bytes_placed bytes p.end ps small (All-tail (λ (q : PacketAt). granule_at q.kind true < 2 ^ 64) p ps all))
