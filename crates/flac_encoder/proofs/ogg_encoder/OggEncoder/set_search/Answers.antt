use Rattle.std.specs.Prelude.{⊤, OnOk}
use Rattle.std.proofs.Common.{ℕ, List, Result, Ok, Err, sym, subst}
use Rattle.flac_encoder.specs.Pushing.{Pushed, with_target}
use Rattle.flac_encoder.specs.PushingOgg.{PushedOgg, StandsForOgg}
use Rattle.flac_encoder.proofs.PushedOgg.{stands_searching}
use Rattle.flac_encoder.proofs.ogg_encoder.OggEncoder.set_search.Goals as goal

on_ok : {X E A B : Type 0} (r : Result X E) → OnOk r A → (A → B) → OnOk r B
on_ok (Ok x) a f = f a
on_ok (Err e) a f = tt

abbrev with_held : {S : Type 0} → Pushed ⊤ → S → ℕ → ℕ → List ℕ → List ℕ → PushedOgg S
with_held b t serial sequence middle last = record { pushed = with_target b t; serial = serial; sequence = sequence; middle = middle; last = last }

pub returns-clause-stands : goal.returns-clause-stands
returns-clause-stands g c =
    let k = c.self.inside in
    rw (← c.self.view_is) (on_ok c.set_search.result c.set_search.ensures.set (λ is items packets written h.
    subst (λ (b : Pushed ⊤). StandsForOgg (with_held b k.target k.serial k.held.next k.held.middle.items k.held.last.items) items packets written) (sym is)
    (stands_searching (with_held k.blocks k.target k.serial k.held.next k.held.middle.items k.held.last.items) c.args.search items packets written h)))
