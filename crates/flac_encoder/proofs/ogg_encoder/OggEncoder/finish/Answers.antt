use Rattle.std.proofs.Common.{◌≡◌, ◌++◌, List, ℕ, Bool, true, false, Result, Ok, Err, inl, inr, refl, sym, ap, subst, ◌∙◌}
use Rattle.std.specs.Prelude.{IfOk, IfErr, ◌⊎◌}
use Rattle.flac_bits.specs.Bits.{bits_of}
use Rattle.flac_bits.specs.declared.target.Target as target
use Rattle.flac_bits.proofs.Holding.{bits_of-append}
use Rattle.flac_native.specs.declared.fault.EncodeFault.{EncodeFault}
use Rattle.flac_native.specs.declared.fault.EncodeFault.TheVariants as fault
use Rattle.flac_native.proofs.EncodeFaults.{done_fails, failed, same_fault, write_spent}
use Rattle.flac_encoder.specs.Pushing.{FailsIn}
use Rattle.flac_encoder.specs.PushingOgg.{PushedOgg, EndsOgg}
use Rattle.flac_encoder.proofs.ogg_encoder.OggEncoder.finish.Goals as goal

-- the encoder is not spent
not_spent : (found spent : Bool) → found ≡ spent → found ≡ false → spent ≡ true → ⊥
not_spent found spent e f t = absurd cc

-- the stream ends with the pages that were held
ends : {S : Type 0} (g : target.Ghosts S) (p : PushedOgg S) (last : List ℕ) (r : Result S EncodeFault) → last ≡ p.last → IfOk r (λ n. g.known p.pushed.target ≡ true → g.sent n ≡ g.sent p.pushed.target ++ last)
    → IfOk r (λ n. g.known p.pushed.target ≡ true → EndsOgg g p n)
ends g p last (Ok n) is sent = λ known. record {
  sent = ap bits_of (sent known ∙ ap (λ l. g.sent p.pushed.target ++ l) is) ∙ bits_of-append (g.sent p.pushed.target) p.last;
  whole = λ items packets written h. (h.pages.last_is, h.stream);
}
ends g p last (Err e) is sent = tt

not_told : {S : Type 0} (r : Result S EncodeFault) → IfErr r (λ e. e ≡ fault.Write) → r ≡ failed fault.Spent → ⊥
not_told (Ok n) write is = done_fails _ _ is
not_told (Err e) write is = write_spent (sym write ∙ same_fault _ _ is)

write_only : {S : Type 0} (r : Result S EncodeFault) → IfErr r (λ e. e ≡ fault.Write) → IfErr r (λ e. (e ≡ fault.Spent) ⊎ (e ≡ fault.Write))
write_only (Ok n) write = tt
write_only (Err e) write = inr write

-- the target that is left has counted an error
fails : {S : Type 0} (g : target.Ghosts S) (bytes last : List ℕ) (t old : S) (r : Result S EncodeFault) → bytes ≡ last → t ≡ old → IfErr r (λ e. (left : S) × FailsIn g (bits_of bytes) t left) → IfErr r (λ e. e ≡ fault.Write → (left : S) × FailsIn g (bits_of last) old left)
fails g bytes last t old (Ok n) is same told = tt
fails {S} g bytes last t old (Err e) is same told = λ write. subst (λ x. (left : S) × FailsIn g (bits_of last) x left) same (subst (λ b. (left : S) × FailsIn g (bits_of b) t left) is told)

pub returns-then-spent : goal.returns-then-spent
returns-then-spent g c =
    rw (← c.self.view_is) (record {
      written = tt;
      known = tt;
      counted = tt;
      names = tt;
      spent = (λ is. sym c.is_spent-spent.ensures ∙ c.if-spent.true, λ is. refl);
      only = inl refl;
      failed = λ is. absurd (write_spent (sym is));
    })

pub returns : goal.returns
returns g c =
    let p : PushedOgg _ = c.args.self in
    let given = c.into_parts-held.ensures in
    let t = given.target in
    let r = c.send_owned.result in
    let W = g.W.Target in
    let told = c.send_owned.ensures in
    record {
      written = ends W p c.as_slice.result.now r (c.as_slice.ensures.value ∙ given.last) (subst (λ x. IfOk r (λ n. W.known x ≡ true → W.sent n ≡ W.sent x ++ c.as_slice.result.now)) t told.sent);
      known = subst (λ x. IfOk r (λ n. W.known x ≡ true → W.known n ≡ true)) t told.known;
      counted = subst (λ x. IfOk r (λ n. W.errors n ≡ W.errors x)) t told.counted;
      names = subst (λ x. IfOk r (λ n. W.names n ≡ W.names x)) t told.names;
      spent = (
        λ is. absurd (not_told r told.write is),
        λ is. absurd (not_spent _ _ (c.is_spent-spent.ensures ∙ ap (λ (x : PushedOgg _). x.pushed.spent) c.self.view_is) c.if-spent.false is),
      );
      only = write_only r told.write;
      failed = fails W c.as_slice.result.now p.last _ p.pushed.target r (c.as_slice.ensures.value ∙ given.last) t told.failed;
    }
