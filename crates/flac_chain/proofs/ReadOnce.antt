-- A chain has one reading.
use Rattle.std.proofs.Common.{◌≡◌, ℕ, ◌∷◌, [], Bool, true, false, List, inl, inr, refl, sym, ap, ◌∙◌}
use Rattle.flac_bits.specs.Bits.{bits_of}
use Rattle.flac_bits.specs.State.{Mark, the_end}
use Rattle.flac_bits.specs.Handing.{InputReading, ReadsOnce}
use Rattle.flac_bits.specs.declared.why.Why.{Why}
use Rattle.flac_header.specs.declared.subset.Profile.{Profile}
use Rattle.flac_native.specs.Decoding.{start_mark}
use Rattle.flac_native.specs.Stream.{Piece, opening}
use Rattle.flac_native.specs.declared.fault.Place.{Place}
use Rattle.flac_native.proofs.Deciding.{one_answer}
use Rattle.flac_ogg.specs.Either.{begins_page, by_first_byte, read_any}
use Rattle.flac_ogg.proofs.MeaningReadings.{one_ogg_reading}
use Rattle.flac_around.specs.Chains.{first_link, later_links}
use Rattle.flac_around.specs.EmptyPackets.{trimmed}
use Rattle.flac_chain.specs.Chained.{link_reading, IsChain, AreLater, IsChainRefused, IsLaterRefused, ChainIsReadOnce}

by_byte : (r : InputReading Piece Place) → ReadsOnce r → ReadsOnce (by_first_byte r)
by_byte r h = record { streams = h.streams; either = h.either; refusals = h.refusals }

any_once : (profile : Profile) (b : Bool) (mark : Mark) (text : List Bool) → ReadsOnce (read_any profile b mark text)
any_once profile true mark text = by_byte _ (one_ogg_reading profile mark text)
any_once profile false mark text = by_byte _ (one_answer (opening profile) mark text)

link_once : (profile : Profile) (link : List ℕ) → ReadsOnce (link_reading profile link)
link_once profile link = let bytes = trimmed false link in any_once profile (begins_page bytes) (start_mark the_end) (bits_of bytes)

clash : {X : Type 0} (b : Bool) → b ≡ true → b ≡ false → X
clash true e f = absurd cc
clash false e f = absurd cc

empty_page : {X : Type 0} (bytes : List ℕ) → bytes ≡ [] → begins_page bytes ≡ true → X
empty_page bytes none page = clash (begins_page []) (ap begins_page (sym none) ∙ page) refl

module _ (profile : Profile) where
  once_at : (bytes : List ℕ) → ReadsOnce (link_reading profile (first_link bytes))
  once_at bytes = link_once profile (first_link bytes)

  same_later : (bytes : List ℕ) (ps qs : List (List Piece)) → AreLater profile bytes ps → AreLater profile bytes qs → ps ≡ qs
  same_later bytes [] [] a b = refl
  same_later bytes [] (q ∷ qs) a b = empty_page bytes a b.0
  same_later bytes (p ∷ ps) [] a b = empty_page bytes b a.0
  same_later bytes (p ∷ ps) (q ∷ qs) a b = ap (λ x. x ∷ ps) ((once_at bytes).streams p q a.1 b.1) ∙ ap (λ xs. q ∷ xs) (same_later (later_links bytes) ps qs a.2 b.2)

  not_later : (bytes : List ℕ) (ps qs : List (List Piece)) (items : List Piece) (at : Place) (why : Why) → AreLater profile bytes ps → IsLaterRefused profile bytes qs items at why → ⊥
  not_later bytes [] [] items at why a (inl b) = b.0 a
  not_later bytes [] [] items at why a (inr b) = empty_page bytes a b.0
  not_later bytes [] (q ∷ qs) items at why a b = empty_page bytes a b.0
  not_later bytes (p ∷ ps) [] items at why a (inl b) = clash (begins_page bytes) a.0 b.1
  not_later bytes (p ∷ ps) [] items at why a (inr b) = (once_at bytes).either p items at why a.1 b.1
  not_later bytes (p ∷ ps) (q ∷ qs) items at why a b = not_later (later_links bytes) ps qs items at why a.2 b.2

  abbrev Same : (ps qs : List (List Piece)) (xs ys : List Piece) (at to : Place) (v w : Why) → Type 0
  Same ps qs xs ys at to v w = (ps ≡ qs) × (at ≡ to) × (v ≡ w) × (xs ≡ ys)

  later_once : (bytes : List ℕ) (ps qs : List (List Piece)) (xs ys : List Piece) (at to : Place) (v w : Why) → IsLaterRefused profile bytes ps xs at v → IsLaterRefused profile bytes qs ys to w → Same ps qs xs ys at to v w
  later_once bytes [] [] xs ys at to v w (inl a) (inl b) = (refl, a.3 ∙ sym b.3, a.4 ∙ sym b.4, a.2 ∙ sym b.2)
  later_once bytes [] [] xs ys at to v w (inl a) (inr b) = clash (begins_page bytes) b.0 a.1
  later_once bytes [] [] xs ys at to v w (inr a) (inl b) = clash (begins_page bytes) a.0 b.1
  later_once bytes [] [] xs ys at to v w (inr a) (inr b) = let h = (once_at bytes).refusals xs ys at to v w a.1 b.1 in (refl, h.1, h.2, h.0)
  later_once bytes [] (q ∷ qs) xs ys at to v w (inl a) b = clash (begins_page bytes) b.0 a.1
  later_once bytes [] (q ∷ qs) xs ys at to v w (inr a) b = absurd ((once_at bytes).either q xs at v b.1 a.1)
  later_once bytes (p ∷ ps) [] xs ys at to v w a (inl b) = clash (begins_page bytes) a.0 b.1
  later_once bytes (p ∷ ps) [] xs ys at to v w a (inr b) = absurd ((once_at bytes).either p ys to w a.1 b.1)
  later_once bytes (p ∷ ps) (q ∷ qs) xs ys at to v w a b =
      let h = later_once (later_links bytes) ps qs xs ys at to v w a.2 b.2 in
      (ap (λ x. x ∷ ps) ((once_at bytes).streams p q a.1 b.1) ∙ ap (λ zs. q ∷ zs) h.0, h.1, h.2, h.3)

  same_chain : (bytes : List ℕ) (ps qs : List (List Piece)) → IsChain profile bytes ps → IsChain profile bytes qs → ps ≡ qs
  same_chain bytes [] qs a b = absurd a
  same_chain bytes (p ∷ ps) [] a b = absurd b
  same_chain bytes (p ∷ ps) (q ∷ qs) a b = ap (λ x. x ∷ ps) ((once_at bytes).streams p q a.0 b.0) ∙ ap (λ xs. q ∷ xs) (same_later (later_links bytes) ps qs a.1 b.1)

  not_both : (bytes : List ℕ) (ps qs : List (List Piece)) (items : List Piece) (at : Place) (why : Why) → IsChain profile bytes ps → IsChainRefused profile bytes qs items at why → ⊥
  not_both bytes [] qs items at why a b = absurd a
  not_both bytes (p ∷ ps) [] items at why a b = (once_at bytes).either p items at why a.0 b
  not_both bytes (p ∷ ps) (q ∷ qs) items at why a b = not_later (later_links bytes) ps qs items at why a.1 b.1

  chain_once : (bytes : List ℕ) (ps qs : List (List Piece)) (xs ys : List Piece) (at to : Place) (v w : Why) → IsChainRefused profile bytes ps xs at v → IsChainRefused profile bytes qs ys to w → Same ps qs xs ys at to v w
  chain_once bytes [] [] xs ys at to v w a b = let h = (once_at bytes).refusals xs ys at to v w a b in (refl, h.1, h.2, h.0)
  chain_once bytes [] (q ∷ qs) xs ys at to v w a b = absurd ((once_at bytes).either q xs at v b.0 a)
  chain_once bytes (p ∷ ps) [] xs ys at to v w a b = absurd ((once_at bytes).either p ys to w a.0 b)
  chain_once bytes (p ∷ ps) (q ∷ qs) xs ys at to v w a b =
      let h = later_once (later_links bytes) ps qs xs ys at to v w a.1 b.1 in
      (ap (λ x. x ∷ ps) ((once_at bytes).streams p q a.0 b.0) ∙ ap (λ zs. q ∷ zs) h.0, h.1, h.2, h.3)

pub once : (profile : Profile) (bytes : List ℕ) → ChainIsReadOnce profile bytes
once profile bytes = record { streams = same_chain profile bytes; either = not_both profile bytes; refusals = chain_once profile bytes }
