-- An input is refused by `Read` only where its bits run short by an error.
use Rattle.std.proofs.Common.{◌≡◌, ℕ, Bool, true, false, cond, List, Option, Some, None, refl, sym, ap, ◌∙◌, inl, inr, ◌⊎◌}
use Rattle.flac_bits.specs.State.{Mark}
use Rattle.flac_bits.specs.Layout.{Layout}
use Rattle.flac_bits.specs.Meaning.{BreaksFirst}
use Rattle.flac_bits.specs.declared.why.Why.{Why}
use Rattle.flac_bits.specs.declared.why.Why.TheVariants.{Read, Truncated, FrameTooLong, PacketLength}
use Rattle.flac_info.specs.Info.{Info}
use Rattle.flac_header.specs.declared.subset.Profile.{Profile}
use Rattle.flac_native.specs.Stream.{Piece, Progress, grammar, end_rules as stream_rules}
use Rattle.flac_native.specs.declared.fault.Place.{Place}
use Rattle.flac_pages.specs.declared.page.Before.{Before}
use Rattle.flac_pages.specs.Page.{Page}
use Rattle.flac_pages.specs.Pages.{Stop}
use Rattle.flac_pages.specs.Packets.{fault_of, stop_of}
use Rattle.flac_pages.specs.Runs.{EndsSo}
use Rattle.flac_pages.specs.Items.{PacketEnd, whole, unended, cut_at, Packet, cut_off, in_packet, IsNoItem, breaks_rule, bits_missing, too_many_bytes, bits_left, not_ended}
use Rattle.flac_ogg.specs.Coming.{TellsRead}
use Rattle.flac_ogg.specs.Stream.{closed_packet, open_packet, StopsAtPacket, packet_refused, part_refused, pages_refused, block_missing, end_refused, OggRefused, fault_in, stop_in}
use Rattle.flac_ogg.proofs.PageReasons.{some_fault, none_breaks, IsForeign, fault_for, stop_for}

-- ---- pages

foreign : IsForeign Read
foreign = record { page = λ e. absurd cc; check = λ e. absurd cc; stream = λ e. absurd cc; order = λ e. absurd cc; mapping = λ e. absurd cc; end = λ e. absurd cc }

pub fault_read : (before : Option Before) (m : Mark) (pages : List Page) (text rest : List Bool) (stop : Stop) (n : ℕ) → EndsSo before m pages text rest stop → TellsRead (fault_of n stop) → m.short ≡ Read
fault_read before m pages text rest stop n ends tells = fault_for Read before m pages text rest stop n foreign ends tells

pub stop_read : (before : Option Before) (m : Mark) (pages : List Page) (text rest : List Bool) (stop : Stop) (n : ℕ) → EndsSo before m pages text rest stop → TellsRead (stop_of n stop) → m.short ≡ Read
stop_read before m pages text rest stop n ends tells = stop_for Read before m pages text rest stop n foreign ends tells

-- ---- packets

abbrev is_read : Why → Bool
is_read Read = true
is_read other = false

not_read : (w : Why) → is_read w ≡ false → w ≡ Read → ⊥
not_read w other is = absurd (differ (sym other ∙ ap is_read is))
  where
    differ : false ≡ true → ⊥
    differ e = absurd cc

-- a packet's item has no rule of this reason, so that a page's fault broke the packet off
cut_read : (e : PacketEnd) → Read ≡ (cut_off e).1 → (k : ℕ) × (e ≡ cut_at k Read)
cut_read whole is = absurd (not_read PacketLength refl (sym is))
cut_read unended is = absurd (not_read PacketLength refl (sym is))
cut_read (cut_at k why) is = (k, ap (λ w. cut_at k w) (sym is))

own_read : (e : PacketEnd) (own : Why) → Read ≡ (in_packet e own).1 → (k : ℕ) × (e ≡ cut_at k Read)
own_read e Truncated is = absurd (not_read PacketLength refl (sym is))
own_read e Read is = cut_read e is
own_read e own is = absurd (not_read own refl (sym is))

no_item_read : {A : Type 0} (room : Option ℕ) (l : Layout A) (m : Mark) (p : Packet) (n : Option ℕ) → IsNoItem room l m p (n, Read) → (k : ℕ) × (p.ends ≡ cut_at k Read)
no_item_read room l m p n (breaks_rule own front rest split shows fits is) = own_read p.ends own (ap (λ (t : Option ℕ × Why). t.1) is)
no_item_read room l m p n (bits_missing cut leaves is) = cut_read p.ends (ap (λ (t : Option ℕ × Why). t.1) is)
no_item_read room l m p n (too_many_bytes fills is) = absurd (not_read FrameTooLong refl (ap (λ (t : Option ℕ × Why). t.1) (sym is)))
no_item_read room l m p n (bits_left x text rest split more spelled fits is) = absurd (not_read PacketLength refl (ap (λ (t : Option ℕ × Why). t.1) (sym is)))
no_item_read room l m p n (not_ended x spelled fits ends is) = cut_read p.ends (ap (λ (t : Option ℕ × Why). t.1) is)

closed_read : (bytes : List ℕ) → (k : ℕ) × ((closed_packet bytes).ends ≡ cut_at k Read) → ⊥
closed_read bytes (k, e) = absurd cc

same_cut : (k n : ℕ) (v w : Why) → cut_at k v ≡ cut_at n w → v ≡ w
same_cut k n v w e = cc

open_read : (bytes : List ℕ) (fault : Option (ℕ × Why)) → (k : ℕ) × ((open_packet bytes fault).ends ≡ cut_at k Read) → TellsRead fault
open_read bytes None (k, e) = absurd (differ e)
  where
    differ : unended ≡ cut_at k Read → ⊥
    differ e = absurd cc
open_read bytes (Some f) (k, e) = (f.0, ap (λ w. some_fault (f.0, w)) (same_cut f.0 k f.1 Read e))

end_read : (info : Option Info) (samples : ℕ) (message : List ℕ) → BreaksFirst (stream_rules info samples message) Read → ⊥
unfolding stream_rules
end_read None samples message first = absurd first
end_read (Some i) samples message first = none_breaks Read (stream_rules (Some i) samples message) ((λ e. absurd cc), ((λ e. absurd cc), tt)) first

either_read : (b : Bool) (fault stop : Option (ℕ × Why)) → TellsRead (cond b stop fault) → TellsRead fault ⊎ TellsRead stop
either_read true fault stop tells = inr tells
either_read false fault stop tells = inl tells

pub stops_read : (p : Progress) (left : List (List ℕ)) (begun : List ℕ) (fault stop : Option (ℕ × Why)) (at : Place) → StopsAtPacket p left begun fault stop at Read → TellsRead fault ⊎ TellsRead stop
stops_read p left begun fault stop at (packet_refused packet others own next none is) = absurd (closed_read packet (no_item_read _ _ _ (closed_packet packet) own none))
stops_read p left begun fault stop at (part_refused own next some none is) = inl (open_read begun fault (no_item_read _ _ _ (open_packet begun fault) own none))
stops_read p left begun fault stop at (pages_refused n next nothing stops is) = either_read (grammar.may_end p) fault stop (n, stops)
stops_read p left begun fault stop at (block_missing next nothing none due is why) = absurd (not_read PacketLength refl (sym why))
stops_read p left begun fault stop at (end_refused next nothing none may is first) = absurd (end_read p.stand.info p.samples p.message first)

-- ---- and so the input

pub refused_read : (profile : Profile) (m : Mark) (text : List Bool) (items : List Piece) (at : Place) → OggRefused profile m items text at Read → m.short ≡ Read
refused_read profile m text items at r =
    let run = r.contents.is_run in
    elim (stops_read _ r.left r.contents.begun (fault_in r.contents) (stop_in r.contents) at r.stops) [
      | inl tells ↦ fault_read None m r.contents.run.pages run.text run.rest r.contents.run.stop _ run.ends tells
      | inr tells ↦ stop_read None m r.contents.run.pages run.text run.rest r.contents.run.stop _ run.ends tells
    ]
