-- Blocks, each in a packet of its own, are items.
use Rattle.std.proofs.Common.{◌≡◌, ◌^◌, ◌<◌, ℕ, Bool, true, false, cond, List, [], ◌∷◌, ◌++◌, map, Some, None, refl, sym, subst, arith}
use Rattle.flac_bits.specs.Bits.{unsigned, bits_of}
use Rattle.flac_bits.specs.State.{Mark, past}
use Rattle.flac_bits.specs.Layout.{Layout}
use Rattle.flac_bits.specs.Fence.{InRoom}
use Rattle.flac_bits.specs.Meaning.{Spells}
use Rattle.flac_info.specs.Info.{Info}
use Rattle.flac_meta.specs.Header.{nothing_seen}
use Rattle.flac_meta.specs.Block.{seen_after}
use Rattle.flac_meta.specs.Listed.{fault_after, list_fault, info_seen}
use Rattle.flac_meta.specs.Spelling.{block_spelling}
use Rattle.flac_meta.specs.Valid.{AllAre, FitsFields, IsInfo, IsBlock}
use Rattle.flac_meta.specs.declared.block.Seen.{Seen}
use Rattle.flac_meta.specs.declared.block.Block.{Block}
use Rattle.flac_meta.specs.declared.block.Block.TheVariants as blocks
use Rattle.flac_meta.proofs.Listed.{listed, or_else_none}
use Rattle.flac_header.specs.declared.subset.Profile.{Profile}
use Rattle.flac_native.specs.Stream.{Piece, block, Progress, layout, next, raised, phase_after, room_in}
use Rattle.flac_native.specs.Given.{closing}
use Rattle.flac_native.specs.declared.track.Phase.TheVariants.{Blocks}
use Rattle.flac_native.proofs.Streams.{block_by_layout, goes_on}
use Rattle.flac_pages.specs.Items.{whole, IsItem}
use Rattle.flac_ogg.specs.Mapping.{mapping, is_first_block, packet_layout}
use Rattle.flac_ogg.specs.Stream.{start, packet_start, AreItems}
use Rattle.flac_ogg.specs.Native.{mapping_spelling, block_spellings, packet_spellings}
use Rattle.flac_ogg.proofs.NativeItems.{later_layout, after_block}

-- ---- items, each spelled by the bits of a packet

-- the packet of these bits is this item
abbrev pub IsPacked : Progress → List Bool → Piece → Type 0
IsPacked p text x = IsItem (room_in p.stand.phase) (packet_layout p.stand) (packet_start None) (record { bits = text; ends = whole }) x

abbrev pub ArePacked : Progress → List (List Bool) → List Piece → Type 0
ArePacked p [] [] = Unit {0}
ArePacked p [] (x ∷ xs) = ⊥
ArePacked p (text ∷ texts) [] = ⊥
ArePacked p (text ∷ texts) (x ∷ xs) = IsPacked p text x × ArePacked (next p x) texts xs

pub are_items : (p : Progress) (packets : List (List ℕ)) (items : List Piece) → ArePacked p (map bits_of packets) items → AreItems p packets items
are_items p [] [] are = tt
are_items p [] (x ∷ xs) are = absurd are
are_items p (packet ∷ packets) [] are = absurd are
are_items p (packet ∷ packets) (x ∷ xs) (is, others) = (is, are_items (next p x) packets xs others)

pub packed_later : (p : Progress) (text : List Bool) (x : Piece) → is_first_block p.stand.phase p.stand.index ≡ false → Spells (layout p.stand) (packet_start None) text x → InRoom (room_in p.stand.phase) (packet_start None) text → IsPacked p text x
packed_later p text x later spelled fits = record {
  spelled = subst (λ (l : Layout Piece). Spells l (packet_start None) text x) (sym (later_layout p.stand later)) spelled;
  fits = fits;
  ended = refl;
}

-- ---- the blocks after STREAMINFO

module _ (profile : Profile) (i : Info) where
  abbrev at_block : ℕ → Seen → Progress
  at_block index seen = record { stand = record { profile = profile; phase = Blocks; index = index; seen = seen; info = Some i; before = None }; samples = 0; message = [] }

  abbrev pub after : Bool → ℕ → Seen → Progress
  after last index seen = record { stand = record { profile = profile; phase = phase_after last; index = cond last 0 (raised index); seen = seen; info = Some i; before = None }; samples = 0; message = [] }

  -- where what follows them is there
  module _ (items : List Piece) (texts : List (List Bool)) (there : (seen : Seen) → ArePacked (after true 0 seen) texts items) where
    blocks_packed : (b : Block) (bs : List Block) (index : ℕ) (seen : Seen) → seen.stream_info ≡ true → is_first_block Blocks index ≡ false → list_fault seen (b ∷ bs) ≡ None → AllAre FitsFields (b ∷ bs)
        → ArePacked (at_block index seen) (block_spellings (b ∷ bs) ++ texts) (closing (b ∷ bs) ++ items)
    blocks_packed b [] index seen first later e fits =
        let faults = or_else_none (fault_after seen b) None e in
        let is = listed seen b first faults.0 fits.0 in
        let on = goes_on profile i true b index seen first is.once in (
          packed_later (at_block index seen) (block_spelling true b) (block true b) later (block_by_layout (at_block index seen).stand (packet_start None) true b refl is) tt,
          subst (λ s. ArePacked s texts items) (sym on.0) (there (seen_after seen b)),
        )
    blocks_packed b (c ∷ cs) index seen first later e fits =
        let faults = or_else_none (fault_after seen b) _ e in
        let is = listed seen b first faults.0 fits.0 in
        let on = goes_on profile i false b index seen first is.once in
        let more = blocks_packed c cs (raised index) (seen_after seen b) on.1 (after_block false index) faults.1 fits.1 in (
          packed_later (at_block index seen) (block_spelling false b) (block false b) later (block_by_layout (at_block index seen).stand (packet_start None) false b refl is) tt,
          subst (λ s. ArePacked s (block_spellings (c ∷ cs) ++ texts) (closing (c ∷ cs) ++ items)) (sym on.0) more,
        )

    -- ---- the first packet

    mapping_here : (count : ℕ) (m : Mark) → count < 2 ^ 16 → Spells mapping m (mapping_spelling count) tt
    unfolding mapping
    mapping_here count m small =
        let name = unsigned 40 0x7F464C4143 in
        let version = unsigned 16 0x0100 in
        let marker = unsigned 32 0x664C6143 in (
          0x7F464C4143,
          name,
          version ++ (unsigned 16 count ++ (marker ++ [])),
          refl,
          (omega arith, refl),
          (0x0100, version, unsigned 16 count ++ (marker ++ []), refl, (omega arith, refl), (count, unsigned 16 count, marker ++ [], refl, (small, refl), (0x664C6143, marker, [], refl, (omega arith, refl), (refl, (refl, tt))))),
        )

    first_here : (count : ℕ) (last : Bool) → count < 2 ^ 16 → IsInfo i → IsPacked (start profile) (mapping_spelling count ++ block_spelling last (blocks.StreamInfo i)) (block last (blocks.StreamInfo i))
    unfolding packet_layout
    first_here count last small is =
        let b = blocks.StreamInfo i in
        let front = mapping_spelling count in
        let valid : IsBlock nothing_seen b = record { first = λ h. refl; once = refl; written = refl; fits = is } in
        record {
          spelled = (tt, front, block_spelling last b, refl, mapping_here count (packet_start None) small, block_by_layout (start profile).stand (past front (packet_start None)) last b refl valid);
          fits = tt;
          ended = refl;
        }

    pub head_packed : (count : ℕ) (list : List Block) → count < 2 ^ 16 → IsInfo i → list_fault info_seen list ≡ None → AllAre FitsFields list
        → ArePacked (start profile) (packet_spellings count i list texts) (closing (blocks.StreamInfo i ∷ list) ++ items)
    head_packed count [] small is e fits = (first_here count true small is, there info_seen)
    head_packed count (c ∷ cs) small is e fits = (first_here count false small is, blocks_packed c cs (raised 0) info_seen refl (after_block false 0) e fits)
