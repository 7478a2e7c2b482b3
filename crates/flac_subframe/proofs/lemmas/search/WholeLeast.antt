-- The least whole subframe, from the least content.
use Rattle.std.proofs.Common.{◌≡◌, ◌∙◌, refl, sym, ℕ, zero, suc, ◌+◌, ◌-◌, ◌≤◌, arith, ℤ, List, [], ◌∷◌, length, map, length-append}
use Rattle.flac_bits.specs.Bits.{unsigned}
use Rattle.flac_bits.specs.Forms.{joined}
use Rattle.flac_subframe.specs.format.Least.{IsLeast}
use Rattle.flac_subframe.specs.format.Bodies.{Chooses, Body, content_of, StandsFor, spelled}
use Rattle.flac_subframe.specs.format.Subframe.{Form}
use Rattle.flac_subframe.specs.format.Spelling.{type_of, flag_of, wasted_spelling, header_spelling, content_spelling, subframe_spelling}
use Rattle.flac_subframe.specs.format.Wasted.{times_power, IsWasted}
use Rattle.flac_subframe.specs.format.Family.{Stands}
use Rattle.flac_subframe.proofs.lemmas.search.Lengths.{length-unsigned, length-unary, length-two, length-three}
use Rattle.flac_subframe.proofs.lemmas.format.Powers.{shortened_is, wasted_once}

length-wasted : (k : ℕ) → length (wasted_spelling k) ≡ k
length-wasted zero = refl
length-wasted (suc k) = length-unary k ∙ omega arith

length-header : (kind wasted : ℕ) → length (header_spelling kind wasted) ≡ 8 + wasted
unfolding header_spelling
length-header kind wasted =
    length-append (unsigned 1 0) (joined (unsigned 6 kind ∷ unsigned 1 (flag_of wasted) ∷ wasted_spelling wasted ∷ []))
    ∙ rw (length-three (unsigned 6 kind) (unsigned 1 (flag_of wasted)) (wasted_spelling wasted), length-unsigned 6 kind, length-unsigned 1 (flag_of wasted), length-wasted wasted) (omega arith)

pub length-subframe : (d : ℕ) (f : Form) → length (subframe_spelling d f) ≡ 8 + f.wasted + length (content_spelling (d - f.wasted) f.content)
unfolding subframe_spelling
length-subframe d f = length-two (header_spelling (type_of f.content) f.wasted) (content_spelling (d - f.wasted) f.content) ∙ rw (length-header (type_of f.content) f.wasted) refl

module _ (most d k : ℕ) (ps : List Chooses) (s t : List ℤ) (b : Body) (wasted : IsWasted k s) (times : s ≡ map (times_power k) t)
    (so : IsLeast (λ x. StandsFor most ps x t) (λ x. length (spelled (d - k) x)) b) where
  whole : Form
  whole = record { wasted = k; content = content_of b }

  pub whole_least : IsLeast (λ f. Stands most ps f s) (λ f. length (subframe_spelling d f)) (record { wasted = k; content = content_of b })
  whole_least = record { member = record { wasted = wasted; body = (b, t, refl, times, so.member) }; least = below }
    where
      below : (f : Form) → Stands most ps f s → length (subframe_spelling d (record { wasted = k; content = content_of b })) ≤ length (subframe_spelling d f)
      below f m =
          let e : f.wasted ≡ k = wasted_once f.wasted k s m.wasted wasted in
          let u : List ℤ = m.body.1 in
          let same : u ≡ t = sym (shortened_is k s u (rw e at m.body.3)) ∙ shortened_is k s t times in
          let stands : StandsFor most ps m.body.0 t = rw same at m.body.4 in
          rw (length-subframe d (record { wasted = k; content = content_of b }), length-subframe d f, e, m.body.2) (omega (arith, so.least m.body.0 stands))
