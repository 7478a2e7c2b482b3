-- The bytes of one packet as a source, and a reader of their bits before the first one.
use Rattle.std.specs.Prelude.{◌≡◌, List, None}
use Rattle.std.specs.Borrow.{GName}
use Rattle.flac_bits.specs.State.{State}
use Rattle.flac_bits.specs.declared.source.Source as source
use Rattle.flac_pages.specs.Packets.{on_page}
use Rattle.flac_pages.specs.Items.{IsAtPacket, lent_names}
use Rattle.flac_pages.specs.declared.packet_bytes.PacketBytes.{PacketBytes}

-- what stays of the pages that these bytes borrow
abbrev pub names_of : {R : Type 0} {g : source.Ghosts R} → PacketBytes R g → List GName
names_of b = lent_names b.pages.ghost_name b.lent.value b.pages.now.names

-- a reader of these bytes is at the packet's first bit, if none of them was pulled
abbrev pub StartsAt : {R : Type 0} {g : source.Ghosts R} → PacketBytes R g → State → Type 0
StartsAt b s = b.fault ≡ None → b.errors ≡ 0 → IsAtPacket b.pages.ghost_name (on_page b.lent.value) b.pages.now s
