-- An Ogg stream of the streamable subset is one of the same items without the subset's limits.
use Rattle.std.proofs.Common.{◌≡◌, ℕ, true, false, List, [], ◌∷◌, None, refl, sym, subst, ◌∙◌}
use Rattle.flac_bits.specs.Bits.{bits_of}
use Rattle.flac_bits.specs.State.{past}
use Rattle.flac_bits.specs.Layout.{Layout}
use Rattle.flac_bits.specs.Meaning.{Spells, AllKept}
use Rattle.flac_header.specs.declared.subset.Profile.TheVariants.{Subset, Lax}
use Rattle.flac_native.specs.Stream.{Piece, Progress, grammar, layout, next, room_in}
use Rattle.flac_native.proofs.Onwards.{next_profile}
use Rattle.flac_native.proofs.LaxProfile.{lax, in_lax, part_lax, next_lax, after_lax, IsBegun}
use Rattle.flac_pages.specs.Items.{IsItem}
use Rattle.flac_ogg.specs.Mapping.{is_first_block, packet_layout}
use Rattle.flac_ogg.specs.Stream.{start, packet_start, closed_packet, AreItems}
use Rattle.flac_ogg.specs.LaxProfile.{SubsetOggIsLax}
use Rattle.flac_ogg.proofs.NativeItems.{Begun, moved, first_moved, later_layout, packet_at}

begun_here : IsBegun (packet_start None)
begun_here = (refl, refl, refl)

abbrev IsIn : Progress → List ℕ → Piece → Type 0
IsIn p packet x = IsItem (room_in p.stand.phase) (packet_layout p.stand) (packet_start None) (closed_packet packet) x

-- after the first packet
each_lax : (p : Progress) (packets : List (List ℕ)) (items : List Piece) → p.stand.profile ≡ Subset → Begun p.stand → is_first_block p.stand.phase p.stand.index ≡ false → AreItems p packets items → AreItems (in_lax p) packets items
each_lax p [] [] judged begun later are = tt
each_lax p [] (x ∷ xs) judged begun later are = absurd are
each_lax p (packet ∷ packets) [] judged begun later are = absurd are
each_lax p (packet ∷ packets) (x ∷ xs) judged begun later (is, others) =
    let bits = bits_of packet in
    let here : Spells (layout p.stand) (packet_start None) bits x = subst (λ (l : Layout Piece). Spells l (packet_start None) bits x) (later_layout p.stand later) is.spelled in
    let there = part_lax p.stand (packet_start None) bits x judged begun.rules (λ e. begun_here) here in
    let on = moved p.stand (packet_start None) (packet_start None) bits x begun (λ e. packet_at) (λ e. packet_at) here in
    let first : IsIn (in_lax p) packet x = record {
      spelled = subst (λ (l : Layout Piece). Spells l (packet_start None) bits x) (sym (later_layout (lax p.stand) later)) there;
      fits = is.fits;
      ended = is.ended;
    } in
    (first, subst (λ q. AreItems q packets xs) (sym (next_lax p x)) (each_lax (next p x) packets xs (next_profile p x ∙ judged) on.begun on.later others))

first_spelled : (packet : List ℕ) (x : Piece) → Spells (packet_layout (start Subset).stand) (packet_start None) (bits_of packet) x → Spells (packet_layout (start Lax).stand) (packet_start None) (bits_of packet) x
unfolding packet_layout
first_spelled packet x (u, front, rest, split, map, spelled) =
    (u, front, rest, split, map, part_lax (start Subset).stand (past front (packet_start None)) rest x refl (λ i e. absurd cc) (λ e. absurd cc) spelled)

all_lax : (packets : List (List ℕ)) (items : List Piece) → AreItems (start Subset) packets items → AreItems (start Lax) packets items
all_lax [] [] are = tt
all_lax [] (x ∷ xs) are = absurd are
all_lax (packet ∷ packets) [] are = absurd are
all_lax (packet ∷ packets) (x ∷ xs) (is, others) =
    let on = first_moved Subset packet (packet_start None) x is.spelled in
    let first : IsIn (start Lax) packet x = record { spelled = first_spelled packet x is.spelled; fits = is.fits; ended = is.ended } in
    (first, subst (λ q. AreItems q packets xs) (sym (next_lax (start Subset) x)) (each_lax (next (start Subset) x) packets xs (next_profile (start Subset) x) on.begun on.later others))

pub subset_is_lax : SubsetOggIsLax
subset_is_lax mark items text s =
    let same = sym (after_lax (start Subset) items) in
    record {
      contents = s.contents;
      no_fault = s.no_fault;
      no_part = s.no_part;
      spelled = all_lax s.contents.packets items s.spelled;
      ends = subst (λ (q : Progress). grammar.may_end q ≡ true) same s.ends;
      kept = subst (λ (q : Progress). AllKept (grammar.at_end q)) same s.kept;
    }
