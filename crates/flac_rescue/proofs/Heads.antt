-- Metadata blocks that are read from bytes in memory.
use Rattle.std.proofs.Common.{◌≡◌, ◌≢◌, ◌⊎◌, inl, inr, ℕ, ◌+◌, ◌-◌, ◌*◌, ◌^◌, ◌<◌, ◌≤◌, Bool, true, List, [], ◌∷◌, length, drop, get_or, min, refl, sym, ap, subst, ◌∙◌, append-nil, arith}
use Rattle.flac_bits.specs.Bits.{bits_of}
use Rattle.flac_bits.specs.State.{State, Cursor}
use Rattle.flac_bits.specs.Fencing.{lifted}
use Rattle.flac_bits.specs.declared.why.Why.{Why}
use Rattle.flac_bits.specs.declared.why.Why.TheVariants.{Truncated, Memory}
use Rattle.flac_bits.proofs.Readings.{at_}
use Rattle.flac_meta.specs.Spelling.{length_of}
use Rattle.flac_meta.specs.declared.block.Block.{Block}
use Rattle.flac_native.specs.Decoding.{beginning}
use Rattle.flac_native.specs.Retag.{AreRead, AreReadFrom, IsRefused, IsRefusedAt, RefusalIsDue}
use Rattle.flac_native.specs.declared.fault.Fault.{Fault}
use Rattle.flac_native.proofs.FramesRead.{at_bytes}
use Rattle.flac_rescue.specs.Head.{IsHead, and_block, and_blocks, head_bytes}
use Rattle.flac_rescue.proofs.Lists.{drop_past, item_at}

here : (bytes : List ℕ) → (lifted (at_bytes bytes)).cursor ≡ at_ (bits_of bytes) (beginning Truncated)
here bytes = ap (λ (l : List Bool). at_ l (beginning Truncated)) (append-nil (bits_of bytes))

pub head_is : (bytes src : List ℕ) (old new : State) (blocks : List Block) (front : ℕ) → src ≡ bytes → old ≡ at_bytes src → AreReadFrom old blocks new → front ≡ head_bytes blocks → IsHead bytes blocks front
head_is bytes src old new blocks front same is read long =
    let start : old ≡ at_bytes bytes = is ∙ ap (λ (l : List ℕ). at_bytes l) same in
    let there : AreReadFrom (at_bytes bytes) blocks new = subst (λ (s : State). AreReadFrom s blocks new) start read in
    let r : AreRead (at_ (bits_of bytes) (beginning Truncated)) blocks new.cursor.left = subst (λ (c : Cursor). AreRead c blocks new.cursor.left) (here bytes) (there refl) in
    record { info = r.info; list = r.others; rest = new.cursor.left; begins = r.begins; are = r.are; long = long }

memory_or_not : (w : Why) → (w ≡ Memory) ⊎ (w ≢ Memory)
memory_or_not Memory = inl refl
memory_or_not w = inr (λ e. absurd cc)

pub head_refused : (bytes src : List ℕ) (old new : State) (f : Fault) → src ≡ bytes → old ≡ at_bytes src → 0 ≡ new.errors → RefusalIsDue old new f.at f.why → (f.why ≡ Memory) ⊎ IsRefused (beginning Truncated) (bits_of bytes) f.at f.why
head_refused bytes src old new f same is quiet due = elim (memory_or_not f.why) [
  | inl m ↦ inl m
  | inr other ↦
      let start : old ≡ at_bytes bytes = is ∙ ap (λ (l : List ℕ). at_bytes l) same in
      let there : RefusalIsDue (at_bytes bytes) new f.at f.why = subst (λ (s : State). RefusalIsDue s new f.at f.why) start due in
      inr (subst (λ (c : Cursor). IsRefusedAt c f.at f.why) (here bytes) (there refl (sym quiet) other))
]

pub bytes_end : (i n whole : ℕ) (blocks : List Block) → length blocks ≤ i → and_blocks n (drop i blocks) ≡ whole → n ≡ whole
unfolding and_blocks
bytes_end i n whole blocks past so_far = ap (λ (l : List Block). and_blocks n l) (sym (drop_past blocks i past)) ∙ so_far

pub bytes_more : (i n m whole : ℕ) (blocks : List Block) (b : Block) → i < length blocks → and_blocks n (drop i blocks) ≡ whole → b ≡ get_or blocks i b → m ≡ and_block n b → and_blocks m (drop (i + 1) blocks) ≡ whole
unfolding and_blocks
bytes_more i n m whole blocks b h so_far item is =
    ap (λ k. and_blocks k (drop (i + 1) blocks)) is ∙ ap (λ (x : Block). and_blocks n (x ∷ drop (i + 1) blocks)) item ∙ ap (λ (l : List Block). and_blocks n l) (sym (item_at blocks i b h)) ∙ so_far
