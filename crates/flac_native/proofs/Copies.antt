-- Bytes that are read and sent, one piece after another.
use Rattle.std.proofs.Common.{◌≡◌, ℕ, Bool, List, [], ◌++◌, sym, ap, ◌∙◌, append_assoc}
use Rattle.std.proofs.lemmas.List.{append-nil}
use Rattle.flac_bits.specs.Bits.{bits_of}
use Rattle.flac_bits.proofs.Holding.{bits_of-append}

-- the bits that were sent, after those before, and the bits that are left are these
abbrev pub Copied : (old now : List ℕ) (left whole : List Bool) → Type 0
Copied old now left whole = (front : List Bool) × (bits_of now ≡ bits_of old ++ front) × (front ++ left ≡ whole)

pub copied_more : (old mid new piece : List ℕ) (left rest whole : List Bool) → Copied old mid left whole → left ≡ bits_of piece ++ rest → new ≡ mid ++ piece → Copied old new rest whole
copied_more old mid new piece left rest whole (front, sent, is) split more = (
  front ++ bits_of piece,
  ap bits_of more ∙ bits_of-append mid piece ∙ ap (λ k. k ++ bits_of piece) sent ∙ append_assoc (bits_of old) front (bits_of piece),
  append_assoc front (bits_of piece) rest ∙ ap (λ k. front ++ k) (sym split) ∙ is,
)

-- nothing is left
pub copied_all : (old new : List ℕ) (left whole : List Bool) → Copied old new left whole → left ≡ [] → bits_of new ≡ bits_of old ++ whole
copied_all old new left whole (front, sent, is) none = sent ∙ ap (λ k. bits_of old ++ k) (sym (append-nil front) ∙ ap (λ k. front ++ k) (sym none) ∙ is)

-- a beginning of a piece was sent
pub copied_part : (old mid new piece some others : List ℕ) (left rest whole : List Bool) → Copied old mid left whole → left ≡ bits_of piece ++ rest → piece ≡ some ++ others → new ≡ mid ++ some
    → (front : List Bool) × (after : List Bool) × (bits_of new ≡ bits_of old ++ front) × (front ++ after ≡ whole)
copied_part old mid new piece some others left rest whole so_far split cut more =
    let k = copied_more old mid new some left (bits_of others ++ rest) whole so_far (split ∙ ap (λ k. bits_of k ++ rest) cut ∙ ap (λ k. k ++ rest) (bits_of-append some others) ∙ append_assoc (bits_of some) (bits_of others) rest) more in
    (k.0, bits_of others ++ rest, k.1, k.2)

-- what stands before the rest, and the rest
pub rest_sent : (old mid new head : List ℕ) (text rest : List Bool) → bits_of head ≡ text → mid ≡ old ++ head → bits_of new ≡ bits_of mid ++ rest → bits_of new ≡ bits_of old ++ (text ++ rest)
rest_sent old mid new head text rest is sent more =
    more ∙ ap (λ k. k ++ rest) (ap bits_of sent ∙ bits_of-append old head) ∙ append_assoc (bits_of old) (bits_of head) rest ∙ ap (λ k. bits_of old ++ (k ++ rest)) is
