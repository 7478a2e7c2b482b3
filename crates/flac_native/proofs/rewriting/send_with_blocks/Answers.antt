use Rattle.std.proofs.Common.{◌≡◌, arith, Some, None, ◌++◌, Result, Ok, Err, ◌∙◌, inl, inr, refl, ap}
use Rattle.std.proofs.lemmas.Result.{IfErr-weaker}
use Rattle.std.specs.Prelude.{OnOk}
use Rattle.flac_bits.specs.declared.why.Why.{Why}
use Rattle.flac_native.specs.declared.fault.Place.TheVariants as place
use Rattle.flac_native.specs.declared.retagging.RetagFault.{RetagFault}
use Rattle.flac_native.specs.Retag.{not_read}
use Rattle.flac_native.specs.Rewriting.{head_of}
use Rattle.flac_native.proofs.Copies.{rest_sent}
use Rattle.flac_native.proofs.rewriting.send_with_blocks.Goals as goal

when_ok : {X E : Type 0} {A B : Type 0} (r : Result X E) → (A → B) → OnOk r A → OnOk r B
when_ok (Ok x) f a = f a
when_ok (Err e) f a = tt

abbrev faulty : Why → RetagFault
faulty w = record { at = None; why = w }

-- a fault without a place is none of reading
no_place : {X : Type 0} (w : Why) → faulty w ≡ not_read → X
no_place w is = let at : None ≡ Some (place.Frame 0) = ap (λ (f : RetagFault). f.at) is in absurd cc

pub returns-in-Err : goal.returns-in-Err
returns-in-Err g c = record { written = tt; nothing = λ one other. refl; write = λ is. absurd (c.in-Err.ensures.unwritten is); read = no_place _ }

pub returns-in-Err-sent : goal.returns-in-Err-sent
returns-in-Err-sent g c = record { written = tt; nothing = λ one other. absurd (other refl); write = λ is. c.in-Err-sent.ensures.sends.rises; read = no_place _ }

pub returns-in-Ok-sent : goal.returns-in-Ok-sent
returns-in-Ok-sent g c =
    let r = c.copy_rest.result in
    let sends = c.in-Ok-sent.ensures.sends in
    let copy = c.copy_rest.ensures in
    record {
      written = when_ok r (λ copied known told.
          let sent = sends.sent told ∙ ap (λ k. g.W.Target.sent c.args.target.now ++ k) c.as_slice.ensures.value in
          rest_sent _ _ _ c.in-Ok.head.items (head_of c.args.blocks.now) _ c.in-Ok.ensures.made sent (copied known (sends.known told))) copy.copied;
      nothing = IfErr-weaker r _ _ (λ f fault one other. absurd (elim fault [ inl e ↦ one e | inr e ↦ other e ])) copy.fault;
      write = IfErr-weaker r _ _ (λ f failed is known. omega (arith, sends.kept, failed is (sends.known known))) copy.write;
      read = IfErr-weaker r _ _ (λ f failed is. failed (ap (λ x. x.why) is)) copy.read;
    }
