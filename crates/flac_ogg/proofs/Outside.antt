-- Without the subset's limits no Ogg stream is refused as outside the subset.
use Rattle.std.proofs.Common.{◌≡◌, ℕ, Bool, true, false, not, cond, ◌&&◌, nat_eq, List, [], ◌∷◌, ◌++◌, Option, Some, None, refl, sym, ap, subst, inl, inr, ◌⊎◌}
use Rattle.std.proofs.lemmas.Bool.{not-false}
use Rattle.flac_bits.specs.Bits.{bits_of, is_nil}
use Rattle.flac_bits.specs.State.{Mark, past}
use Rattle.flac_bits.specs.Layout.{Layout, choose}
use Rattle.flac_bits.specs.Fence.{InRoom}
use Rattle.flac_bits.specs.Meaning.{BreaksFirst, Shows, Spells}
use Rattle.flac_bits.specs.Items.{state_after}
use Rattle.flac_bits.specs.declared.why.Why.{Why}
use Rattle.flac_bits.specs.declared.why.Why.TheVariants.{NotSubset, BadMapping, NotStreamInfoFirst, ForbiddenType, RepeatedBlock, BlockLength, BadStreamInfo, Read, Truncated, FrameTooLong, PacketLength}
use Rattle.flac_info.specs.Info.{Info}
use Rattle.flac_meta.specs.Block.{block as block_layout, content}
use Rattle.flac_meta.specs.Header.{block_header, nothing_seen}
use Rattle.flac_meta.specs.Info.{stream_info, info_sizes, info_format}
use Rattle.flac_meta.specs.declared.block.BlockHeader.{BlockHeader}
use Rattle.flac_header.specs.declared.subset.Profile.TheVariants.{Lax}
use Rattle.flac_native.specs.Stream.{Piece, Progress, grammar, layout, next, room_in, end_rules as stream_rules}
use Rattle.flac_native.specs.declared.fault.Place.{Place}
use Rattle.flac_native.proofs.Onwards.{after_profile}
use Rattle.flac_native.proofs.Outside.{nothing_is_outside}
use Rattle.flac_pages.specs.Items.{PacketEnd, whole, unended, cut_at, Packet, cut_off, in_packet, IsNoItem, breaks_rule, bits_missing, too_many_bytes, bits_left, not_ended}
use Rattle.flac_ogg.specs.Mapping.{mapping, is_first_block, packet_layout}
use Rattle.flac_ogg.specs.Stream.{start, packet_start, closed_packet, open_packet, AreItems, StopsAtPacket, packet_refused, part_refused, pages_refused, block_missing, end_refused, fault_in, stop_in}
use Rattle.flac_ogg.specs.LaxProfile.{NothingIsOutsideLaxInOgg}
use Rattle.flac_ogg.proofs.NativeItems.{Begun, moved, first_moved, later_layout, packet_at}
use Rattle.flac_ogg.proofs.PageReasons.{Tells, some_fault, none_breaks, Never, never_shown, never_list, IsForeign, fault_for, stop_for}

foreign : IsForeign NotSubset
foreign = record { page = λ e. absurd cc; check = λ e. absurd cc; stream = λ e. absurd cc; order = λ e. absurd cc; mapping = λ e. absurd cc; end = λ e. absurd cc }

not_too_long : FrameTooLong ≡ NotSubset → ⊥
not_too_long e = absurd cc

not_length : PacketLength ≡ NotSubset → ⊥
not_length e = absurd cc

-- ---- the first packet

mapping_rule : (b : Bool) → BreaksFirst (record { broken = b; why = BadMapping } ∷ []) NotSubset → ⊥
mapping_rule b = none_breaks NotSubset (record { broken = b; why = BadMapping } ∷ []) ((λ e. absurd cc), tt)

never_mapping : Never NotSubset mapping
unfolding mapping
never_mapping = (tt, λ name. (tt, λ version. (tt, λ count. (tt, λ marker. mapping_rule _))))

header_rules : (a b c d : Bool)
    → BreaksFirst (record { broken = a; why = NotStreamInfoFirst } ∷ record { broken = b; why = ForbiddenType } ∷ record { broken = c; why = RepeatedBlock } ∷ record { broken = d; why = BlockLength } ∷ []) NotSubset → ⊥
header_rules a b c d =
    none_breaks NotSubset (record { broken = a; why = NotStreamInfoFirst } ∷ record { broken = b; why = ForbiddenType } ∷ record { broken = c; why = RepeatedBlock } ∷ record { broken = d; why = BlockLength } ∷ [])
    ((λ e. absurd cc), ((λ e. absurd cc), ((λ e. absurd cc), ((λ e. absurd cc), tt))))

never_header : Never NotSubset (block_header nothing_seen)
unfolding block_header
never_header = (tt, λ last. (tt, λ kind. (tt, λ length. (header_rules _ _ _ _, λ good. tt))))

info_rule : (b : Bool) → BreaksFirst (record { broken = b; why = BadStreamInfo } ∷ []) NotSubset → ⊥
info_rule b = none_breaks NotSubset (record { broken = b; why = BadStreamInfo } ∷ []) ((λ e. absurd cc), tt)

never_info : Never NotSubset stream_info
unfolding stream_info info_sizes info_format
never_info = (
  (tt, λ a. (tt, λ b. (tt, λ c. (tt, λ d. tt)))),
  λ sizes. ((tt, λ a. (tt, λ b. (tt, λ c. (tt, λ d. tt)))), λ format. (never_list NotSubset 16, λ digest. (info_rule _, λ good. tt))),
)

-- the first block is STREAMINFO
first_kind : (m : Mark) (text : List Bool) (h : BlockHeader) → Spells (block_header nothing_seen) m text h → nat_eq h.kind 0 ≡ true
unfolding block_header
first_kind m text h (last, a, b, c, d, (kind, e, f, g, i, (length, j, k, l, n, (good, o, p, q, (none, kept), (nothing, same))))) =
    subst (λ (x : BlockHeader). nat_eq x.kind 0 ≡ true) same (not-false (nat_eq kind 0) kept.0)

chosen_first : {A : Type 0} (b : Bool) (l r : Layout A) (m : Mark) (front : List Bool) → b ≡ true → Never NotSubset l → Shows (choose b l r) m front NotSubset → ⊥
chosen_first true l r m front e never shows = never_shown l m front NotSubset never shows
chosen_first false l r m front e never shows = absurd cc

content_clean : (kind length : ℕ) (m : Mark) (front : List Bool) → nat_eq kind 0 ≡ true → Shows (content kind length) m front NotSubset → ⊥
unfolding content
content_clean kind length m front e shows = chosen_first (nat_eq kind 0) _ _ m front e (never_info, λ info. tt) shows

block_clean : (m : Mark) (front : List Bool) → Shows (block_layout nothing_seen) m front NotSubset → ⊥
unfolding block_layout
block_clean m front (inl shows) = never_shown (block_header nothing_seen) m front NotSubset never_header shows
block_clean m front (inr (h, part, rest, split, spelled, inl shows)) = content_clean h.kind h.length (past part m) rest (first_kind m part h spelled) shows
block_clean m front (inr (h, part, rest, split, spelled, inr (b, x, y, z, own, shows))) = absurd shows

first_clean : (m : Mark) (front : List Bool) → Shows (packet_layout (start Lax).stand) m front NotSubset → ⊥
unfolding packet_layout layout
first_clean m front (inl shows) = never_shown mapping m front NotSubset never_mapping shows
first_clean m front (inr (u, part, rest, split, map, inl shows)) = block_clean (past part m) rest shows
first_clean m front (inr (u, part, rest, split, map, inr (b, x, y, z, own, shows))) = absurd shows

-- ---- a later packet

-- it is not the first, in the state after these items
later : (p : Progress) (packets : List (List ℕ)) (items : List Piece) → Begun p.stand → is_first_block p.stand.phase p.stand.index ≡ false → AreItems p packets items
    → is_first_block (state_after grammar p items).stand.phase (state_after grammar p items).stand.index ≡ false
later p [] [] begun e are = e
later p [] (x ∷ xs) begun e are = absurd are
later p (packet ∷ packets) [] begun e are = absurd are
later p (packet ∷ packets) (x ∷ xs) begun e (is, others) =
    let bits = bits_of packet in
    let here : Spells (layout p.stand) (packet_start None) bits x = subst (λ (l : Layout Piece). Spells l (packet_start None) bits x) (later_layout p.stand e) is.spelled in
    let on = moved p.stand (packet_start None) (packet_start None) bits x begun (λ k. packet_at) (λ k. packet_at) here in
    later (next p x) packets xs on.begun on.later others

more_left : (b : Bool) (front : List Bool) → (b && is_nil (front ++ true ∷ [])) ≡ false
more_left true [] = refl
more_left true (x ∷ xs) = refl
more_left false front = refl

later_clean : (p : Progress) (fault : Option (ℕ × Why)) (front : List Bool) → p.stand.profile ≡ Lax → is_first_block p.stand.phase p.stand.index ≡ false → Shows (packet_layout p.stand) (packet_start fault) front NotSubset
    → InRoom (room_in p.stand.phase) (packet_start fault) front → ⊥
later_clean p fault front judged e shows fits =
    let here : Shows (layout p.stand) (packet_start fault) front NotSubset = subst (λ (l : Layout Piece). Shows l (packet_start fault) front NotSubset) (later_layout p.stand e) shows in
    nothing_is_outside p (packet_start fault) [] (front ++ true ∷ []) (grammar.place p) NotSubset judged (short fault) (record {
      front = [];
      left = front ++ true ∷ [];
      stands = refl;
      spelled = refl;
      stops = inl (more_left (grammar.may_end p) front, refl, inl (front, true ∷ [], refl, here, fits));
    }) refl
  where
    short : (o : Option (ℕ × Why)) → (packet_start o).short ≡ NotSubset → ⊥
    short None e = absurd cc
    short (Some f) e = absurd cc

-- ---- any packet

-- in this state no packet shows that the bits are outside the subset
abbrev Clean : Progress → Type 0
Clean p = (fault : Option (ℕ × Why)) (front : List Bool) → Shows (packet_layout p.stand) (packet_start fault) front NotSubset → InRoom (room_in p.stand.phase) (packet_start fault) front → ⊥

all_clean : (packets : List (List ℕ)) (items : List Piece) → AreItems (start Lax) packets items → Clean (state_after grammar (start Lax) items)
all_clean [] [] are = λ fault front shows fits. first_clean (packet_start fault) front shows
all_clean [] (x ∷ xs) are = absurd are
all_clean (packet ∷ packets) [] are = absurd are
all_clean (packet ∷ packets) (x ∷ xs) (is, others) =
    let on = first_moved Lax packet (packet_start None) x is.spelled in
    λ fault front shows fits. later_clean (state_after grammar (start Lax) (x ∷ xs)) fault front (after_profile (start Lax) (x ∷ xs)) (later (next (start Lax) x) packets xs on.begun on.later others) shows fits

cut_outside : (e : PacketEnd) → NotSubset ≡ (cut_off e).1 → (k : ℕ) × (e ≡ cut_at k NotSubset)
cut_outside whole is = absurd (not_length (sym is))
cut_outside unended is = absurd (not_length (sym is))
cut_outside (cut_at k why) is = (k, ap (λ w. cut_at k w) (sym is))

own_outside : (e : PacketEnd) (own : Why) → NotSubset ≡ (in_packet e own).1 → (own ≡ NotSubset) ⊎ ((k : ℕ) × (e ≡ cut_at k NotSubset))
own_outside e Truncated is = absurd (not_length (sym is))
own_outside e Read is = inr (cut_outside e is)
own_outside e own is = inl (sym is)

no_item_outside : (p : Progress) (fault : Option (ℕ × Why)) (q : Packet) (n : Option ℕ) → Clean p → IsNoItem (room_in p.stand.phase) (packet_layout p.stand) (packet_start fault) q (n, NotSubset) → (k : ℕ) × (q.ends ≡ cut_at k NotSubset)
no_item_outside p fault q n clean (breaks_rule own front rest split shows fits is) = elim (own_outside q.ends own (ap (λ (t : Option ℕ × Why). t.1) is)) [
  | inl same ↦ absurd (clean fault front (subst (λ (w : Why). Shows (packet_layout p.stand) (packet_start fault) front w) same shows) fits)
  | inr cut ↦ cut
]
no_item_outside p fault q n clean (bits_missing cut leaves is) = cut_outside q.ends (ap (λ (t : Option ℕ × Why). t.1) is)
no_item_outside p fault q n clean (too_many_bytes fills is) = absurd (not_too_long (ap (λ (t : Option ℕ × Why). t.1) (sym is)))
no_item_outside p fault q n clean (bits_left x text rest split more spelled fits is) = absurd (not_length (ap (λ (t : Option ℕ × Why). t.1) (sym is)))
no_item_outside p fault q n clean (not_ended x spelled fits ends is) = cut_outside q.ends (ap (λ (t : Option ℕ × Why). t.1) is)

closed_outside : (bytes : List ℕ) → (k : ℕ) × ((closed_packet bytes).ends ≡ cut_at k NotSubset) → ⊥
closed_outside bytes (k, e) = absurd cc

same_cut : (k n : ℕ) (v w : Why) → cut_at k v ≡ cut_at n w → v ≡ w
same_cut k n v w e = cc

open_outside : (bytes : List ℕ) (fault : Option (ℕ × Why)) → (k : ℕ) × ((open_packet bytes fault).ends ≡ cut_at k NotSubset) → Tells NotSubset fault
open_outside bytes None (k, e) = absurd (differ e)
  where
    differ : unended ≡ cut_at k NotSubset → ⊥
    differ e = absurd cc
open_outside bytes (Some f) (k, e) = (f.0, ap (λ w. some_fault (f.0, w)) (same_cut f.0 k f.1 NotSubset e))

-- ---- and so the input

end_outside : (info : Option Info) (samples : ℕ) (message : List ℕ) → BreaksFirst (stream_rules info samples message) NotSubset → ⊥
unfolding stream_rules
end_outside None samples message first = absurd first
end_outside (Some i) samples message first = none_breaks NotSubset (stream_rules (Some i) samples message) ((λ e. absurd cc), ((λ e. absurd cc), tt)) first

either_outside : (b : Bool) (fault stop : Option (ℕ × Why)) → Tells NotSubset (cond b stop fault) → Tells NotSubset fault ⊎ Tells NotSubset stop
either_outside true fault stop tells = inr tells
either_outside false fault stop tells = inl tells

stops_outside : (p : Progress) (left : List (List ℕ)) (begun : List ℕ) (fault stop : Option (ℕ × Why)) (at : Place) → Clean p → StopsAtPacket p left begun fault stop at NotSubset → Tells NotSubset fault ⊎ Tells NotSubset stop
stops_outside p left begun fault stop at clean (packet_refused packet others own follows none is) = absurd (closed_outside packet (no_item_outside p None (closed_packet packet) own clean none))
stops_outside p left begun fault stop at clean (part_refused own follows some none is) = inl (open_outside begun fault (no_item_outside p fault (open_packet begun fault) own clean none))
stops_outside p left begun fault stop at clean (pages_refused n follows nothing stops is) = either_outside (grammar.may_end p) fault stop (n, stops)
stops_outside p left begun fault stop at clean (block_missing follows nothing none due is why) = absurd (not_length (sym why))
stops_outside p left begun fault stop at clean (end_refused follows nothing none may is first) = absurd (end_outside p.stand.info p.samples p.message first)

pub nothing_is_outside_ogg : NothingIsOutsideLaxInOgg
nothing_is_outside_ogg m items text at why own r e = own (go (subst (λ (w : Why). StopsAtPacket (state_after grammar (start Lax) items) r.left r.contents.begun (fault_in r.contents) (stop_in r.contents) at w) e r.stops))
  where
    go : StopsAtPacket (state_after grammar (start Lax) items) r.left r.contents.begun (fault_in r.contents) (stop_in r.contents) at NotSubset → m.short ≡ NotSubset
    go stops =
        let run = r.contents.is_run in
        elim (stops_outside _ r.left r.contents.begun (fault_in r.contents) (stop_in r.contents) at (all_clean r.taken items r.spelled) stops) [
          | inl tells ↦ fault_for NotSubset None m r.contents.run.pages run.text run.rest r.contents.run.stop _ foreign run.ends tells
          | inr tells ↦ stop_for NotSubset None m r.contents.run.pages run.text run.rest r.contents.run.stop _ foreign run.ends tells
        ]
