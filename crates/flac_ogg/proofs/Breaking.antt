-- Where it is told that a call was broken off: by the device, or where memory is wanting.
use Rattle.std.proofs.Common.{◌≡◌, ◌≢◌, ℕ, Option, sym, ap, ◌∙◌, inl, inr}
use Rattle.flac_bits.specs.Handing.{IsOutside}
use Rattle.flac_bits.specs.Reasons.{of_output}
use Rattle.flac_bits.specs.declared.why.Why.{Why}
use Rattle.flac_bits.specs.declared.why.Why.TheVariants.{PacketLength, Read, Memory}
use Rattle.flac_native.specs.Stream.{Progress}
use Rattle.flac_native.specs.declared.fault.Fault.{Fault}
use Rattle.flac_native.specs.declared.fault.Place.TheVariants as place
use Rattle.flac_native.specs.declared.track.Phase.TheVariants.{Frames}
use Rattle.flac_pages.specs.Packets.{Met}
use Rattle.flac_pages.specs.Items.{HasItsPage}
use Rattle.flac_ogg.specs.Mapping.{page_place, item_place, packet_place}
use Rattle.flac_ogg.specs.Decoding.{IsBrokenAt}

pub in_page : (n : ℕ) (why : Why) → IsOutside why → page_place n why ≡ place.Page n
in_page n why (inl e) = ap (page_place n) e
in_page n why (inr e) = ap (page_place n) e

-- in a packet
pub in_packet : (n : ℕ) (p : Progress) (told : Option ℕ × Why) (f : Fault) → f.at ≡ packet_place p.stand told → f.why ≡ told.1 → HasItsPage n told → (p.stand.phase ≡ Frames → told.1 ≢ Memory) → IsBrokenAt n p f.at f.why
in_packet n p (page, why) f at is of room = (
  λ e. at ∙ ap (λ (o : Option ℕ). packet_place p.stand (o, why)) (of.0 (sym is ∙ e)) ∙ ap (λ (w : Why). page_place n w) (sym is ∙ e),
  λ e. (λ frames. room frames (sym is ∙ e), at ∙ ap (λ (o : Option ℕ). packet_place p.stand (o, why)) (of.1 (sym is ∙ e)) ∙ ap (λ (w : Why). item_place p.stand w) (sym is ∙ e)),
)

-- between packets
pub in_next : (n page : ℕ) (p : Progress) (f : Fault) → (IsOutside f.why → f.at ≡ place.Page page) → page ≡ n → f.why ≢ Memory → IsBrokenAt n p f.at f.why
in_next n page p f at is room = (λ e. at (inl e) ∙ ap (λ (k : ℕ). place.Page k) is, λ e. absurd (room e))

-- a block that is due is no such reason
pub none_due : (why : Why) → why ≡ PacketLength → IsOutside why → ⊥
none_due why e (inl read) = absurd cc
none_due why e (inr memory) = absurd cc

-- nor one that tells of a device
pub due_met : (why : Why) (old new : ℕ) → why ≡ PacketLength → Met why old new
due_met why old new e = (λ q. absurd (read_due (sym q ∙ e)), ap of_output e)
  where
    read_due : Read ≡ PacketLength → ⊥
    read_due e = absurd cc
