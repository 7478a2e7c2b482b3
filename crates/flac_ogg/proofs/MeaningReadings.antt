-- No input has two readings, and each has one.
use Rattle.std.proofs.Common.{◌≡◌, ℕ, Bool, List, [], ◌∷◌, ◌++◌, inl, inr, refl, sym, ap, subst, ◌∙◌}
use Rattle.std.specs.Prelude.{⊤}
use Rattle.flac_bits.specs.State.{Mark}
use Rattle.flac_native.specs.Stream.{Piece, Progress, next}
use Rattle.flac_pages.specs.Packets.{Ahead}
use Rattle.flac_pages.specs.Given.{PacketsAhead}
use Rattle.flac_ogg.specs.Stream.{start}
use Rattle.flac_ogg.specs.Steps.{PacketStep, item, over, refused, packet_step, Goes}
use Rattle.flac_bits.specs.Handing.{ReadsOnce, IsRead}
use Rattle.flac_ogg.specs.Decoding.{ogg_reading}
use Rattle.flac_ogg.proofs.MeaningContents.{ahead_of, some_contents, contents_ahead}
use Rattle.flac_ogg.proofs.MeaningSteps.{over_is_no_refusal, same_item, same_refusal, step_item}
use Rattle.flac_ogg.proofs.MeaningStreams.{goes_over, goes_refused, stream_goes, refused_goes}
use Rattle.flac_header.specs.declared.subset.Profile.{Profile}

-- ---- one item more

pub goes_more : (p : Progress) (a : Ahead) (xs : List Piece) (q : Progress) (b : Ahead) (x : Piece) (c : Ahead) → Goes p a xs q b → packet_step q b ≡ item x c → Goes p a (xs ++ x ∷ []) (next q x) c
goes_more p a [] q b x c (state, ahead) step = (c, ap (λ k. packet_step k a) state ∙ ap (λ k. packet_step q k) ahead ∙ step, (ap (λ k. next k x) state, refl))
goes_more p a (y ∷ ys) q b x c (d, first, more) step = (d, first, goes_more (next p y) d ys q b x c more step)

-- ---- one way to go

-- after this step there is none
abbrev pub IsFinal : PacketStep → Type 0
IsFinal (item x c) = ⊥
IsFinal over = ⊤
IsFinal (refused at why) = ⊤

final_here : (p q : Progress) (a b : Ahead) (f : PacketStep) → Goes p a [] q b → packet_step q b ≡ f → packet_step p a ≡ f
final_here p q a b f (state, ahead) e = ap (λ k. packet_step k a) state ∙ ap (λ k. packet_step q k) ahead ∙ e

no_item : (f : PacketStep) (x : Piece) (c : Ahead) → IsFinal f → f ≡ item x c → ⊥
no_item f x c final e = subst (λ (k : PacketStep). IsFinal k) e final

pub one_way : (p : Progress) (a : Ahead) (xs ys : List Piece) (q r : Progress) (b c : Ahead) (f g : PacketStep) → IsFinal f → IsFinal g → Goes p a xs q b → packet_step q b ≡ f → Goes p a ys r c → packet_step r c ≡ g → (xs ≡ ys) × (f ≡ g)
one_way p a [] [] q r b c f g is_f is_g go_f step_f go_g step_g = (refl, sym (final_here p q a b f go_f step_f) ∙ final_here p r a c g go_g step_g)
one_way p a [] (y ∷ ys) q r b c f g is_f is_g go_f step_f (d, first, more) step_g = absurd (no_item f y d is_f (sym (final_here p q a b f go_f step_f) ∙ first))
one_way p a (x ∷ xs) [] q r b c f g is_f is_g (d, first, more) step_f go_g step_g = absurd (no_item g x d is_g (sym (final_here p r a c g go_g step_g) ∙ first))
one_way p a (x ∷ xs) (y ∷ ys) q r b c f g is_f is_g (d, first, more) step_f (e, second, others) step_g =
    let same = same_item x y d e (sym first ∙ second) in
    let moved : Goes (next p x) d ys r c = subst (λ (k : Ahead). Goes (next p x) k ys r c) (sym same.1) (subst (λ (z : Piece). Goes (next p z) e ys r c) (sym same.0) others) in
    let rest = one_way (next p x) d xs ys q r b c f g is_f is_g more step_f moved step_g in
    (ap (λ z. z ∷ xs) same.0 ∙ ap (λ zs. y ∷ zs) rest.0, rest.1)

pub one_ogg_reading : (profile : Profile) (mark : Mark) (text : List Bool) → ReadsOnce (ogg_reading profile mark text)
one_ogg_reading profile mark text = record {
  streams = λ xs ys s t.
      let a = stream_goes profile mark text xs s in
      let b = stream_goes profile mark text ys t in
      (one_way (start profile) (ahead_of mark text) xs ys a.state b.state a.ahead b.ahead over over tt tt a.goes a.step b.goes b.step).0;
  either = λ xs ys at why s t.
      let a = stream_goes profile mark text xs s in
      let b = refused_goes profile mark text ys at why t in
      over_is_no_refusal at why (one_way (start profile) (ahead_of mark text) xs ys a.state b.state a.ahead b.ahead over (refused at why) tt tt a.goes a.step b.goes b.step).1;
  refusals = λ xs ys at to v w s t.
      let a = refused_goes profile mark text xs at v s in
      let b = refused_goes profile mark text ys to w t in
      let same = one_way (start profile) (ahead_of mark text) xs ys a.state b.state a.ahead b.ahead (refused at v) (refused to w) tt tt a.goes a.step b.goes b.step in
      let refusal = same_refusal at to v w same.1 in
      (same.0, refusal.0, refusal.1);
}

-- ---- and each input has an answer

record AllRead (p : Progress) (a : Ahead) : Type 0 where
  items : List Piece
  state : Progress
  ahead : Ahead
  goes : Goes p a items state ahead
  final : IsFinal (packet_step state ahead)

nothing_more : (p : Progress) (a : Ahead) (f : PacketStep) → packet_step p a ≡ f → IsFinal f → AllRead p a
nothing_more p a f e final = record { items = []; state = p; ahead = a; goes = (refl, refl); final = subst (λ (k : PacketStep). IsFinal k) (sym e) final }

rest_of : List (List ℕ) → List (List ℕ)
rest_of [] = []
rest_of (x ∷ xs) = xs

read_all : (p : Progress) (a : Ahead) (packets : List (List ℕ)) (begun : List ℕ) → PacketsAhead a packets begun → AllRead p a
unfolding rest_of
read_all p a [] begun h = go (packet_step p a) refl
  where
    go : (f : PacketStep) → packet_step p a ≡ f → AllRead p a
    go (item x c) e = absurd (none (step_item p a [] begun x c h e).split)
      where
        none : {x : List ℕ} {xs : List (List ℕ)} → [] ≡ x ∷ xs → ⊥
        none e = absurd cc
    go over e = nothing_more p a over e tt
    go (refused at why) e = nothing_more p a (refused at why) e tt
read_all p a (y ∷ ys) begun h = go (packet_step p a) refl (λ q b k. read_all q b ys begun k)
  where
    go : (f : PacketStep) → packet_step p a ≡ f → ((q : Progress) (b : Ahead) → PacketsAhead b ys begun → AllRead q b) → AllRead p a
    go (item x c) e others =
        let one = step_item p a (y ∷ ys) begun x c h e in
        let same : one.others ≡ ys = sym (ap rest_of one.split) in
        let r = others (next p x) c (subst (λ (k : List (List ℕ)). PacketsAhead c k begun) same one.ahead) in
        record { items = x ∷ r.items; state = r.state; ahead = r.ahead; goes = (c, e, r.goes); final = r.final }
    go over e others = nothing_more p a over e tt
    go (refused at why) e others = nothing_more p a (refused at why) e tt

pub some_ogg_reading : (profile : Profile) (mark : Mark) (text : List Bool) → IsRead (ogg_reading profile mark text)
some_ogg_reading profile mark text =
    let c = some_contents mark text in
    let r = read_all (start profile) (ahead_of mark text) c.packets c.begun (contents_ahead c) in
    go r (packet_step r.state r.ahead) refl r.final
  where
    go : (r : AllRead (start profile) (ahead_of mark text)) (f : PacketStep) → packet_step r.state r.ahead ≡ f → IsFinal f → IsRead (ogg_reading profile mark text)
    go r (item x c) e final = absurd final
    go r over e final = inl (r.items, goes_over profile mark text r.items r.state r.ahead r.goes e)
    go r (refused at why) e final = inr (r.items, at, why, goes_refused profile mark text r.items r.state r.ahead at why r.goes e)
