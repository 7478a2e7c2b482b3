use Rattle.std.proofs.Common.{◌≡◌, ◌≤◌, ◌<◌, ◌∙◌, ◌++◌, ◌∷◌, ℕ, List, false, Some, None, ap, sym, subst, refl, drop, append_assoc, arith}
use Rattle.flac_bits.specs.Bits.{bit_value}
use Rattle.flac_native.specs.Stream.{Piece}
use Rattle.flac_ogg.specs.Either.{begins_page}
use Rattle.flac_cli.specs.Outcomes.{Fits, ReadsWave, IsWaveOutOfMemory, streamed}
use Rattle.flac_cli.specs.Waves.{wave_in}
use Rattle.flac_cli.specs.inner.Waving.{Held, nothing_held, held_fault, ending}
use Rattle.flac_native.specs.declared.fault.Fault.{Fault}
use Rattle.flac_bits.specs.declared.why.Why.TheVariants as why
use Rattle.flac_cli.proofs.BlocksFirst.{stream_ordered}
use Rattle.flac_cli.proofs.Outcomes.{counts_on, same_first, same_second}
use Rattle.flac_cli.proofs.Reported.{unfailed}
use Rattle.flac_cli.proofs.WaveDecoded.{ok_fits, done_fits, fault_fits, fault_of_input, kept_is}
use Rattle.flac_cli.proofs.Waving.{Ordered, after_parts, added, all_held, all_known, all_added, wave_written}
use Rattle.flac_cli.proofs.decode_wave.decode_wave_into.Goals as goal

-- the parts of a stream, and what follows them, are its file
joined : (xs : List Piece) (s t : Held) (old mid new : List ℕ) → t.depth ≤ 32 → s ≡ nothing_held → Ordered false xs → t ≡ after_parts s xs → held_fault t ≡ None → mid ≡ old ++ added s xs → new ≡ mid ++ ending t → new ≡ old ++ wave_in xs
joined xs s t old mid new deep none order is good sent ended =
    let begun : t ≡ after_parts nothing_held xs = is ∙ ap (λ h. after_parts h xs) none in
    ended ∙ (ap (λ l. l ++ ending t) (sent ∙ ap (λ h. old ++ added h xs) none) ∙ (append_assoc old (added nothing_held xs) (ending t)
    ∙ ap (λ l. old ++ l) (ap (λ h. added nothing_held xs ++ ending h) begun ∙ wave_written xs (subst (λ h. h.depth ≤ 32) begun deep) order (subst (λ h. held_fault h ≡ None) begun good))))

same_rest : (a b k l : ℕ) (xs ys : List ℕ) → a ∷ (b ∷ xs) ≡ k ∷ (l ∷ ys) → xs ≡ ys
same_rest a b k l xs ys e = ap (λ zs. drop 2 zs) e

-- a count that did not fall, and then rose, is not as it was
rose_later : {X : Type 0} (a b c d : ℕ) → b ≤ c → b ≡ a → c < d → d ≡ a → X
rose_later a b c d first was then same = absurd (omega (arith, first, was, then, same))

pub returns-in-Ok : goal.returns-in-Ok
returns-in-Ok g c =
    let bytes = g.R.Source.coming c.args.source.now in
    let after = g.R.Source.after c.args.source.now in
    let old = c.args.sink.now in
    let sink = c.decode_any-decoded.new.sink in
    let known = counts_on _ c.requires.none in
    let e = c.in_default.ensures in
    let good : held_fault sink.held ≡ None = sym c.fault.ensures.value ∙ c.in_default-fault.is in
    record {
      written = λ tells sending.
          let d = (e.hands tells.0 known).done (tells.1, tells.2) refl in
          let held = all_held (λ s. g.W.Target.known s.target) (λ s. g.W.Target.sent s.target) (λ s. s.held) old d.0 sink d.2 in
          let sends = all_known (λ s. g.W.Target.known s.target) (λ s. g.W.Target.sent s.target) (λ s. s.held) old d.0 sink d.2 sending in
          let sent = all_added (λ s. g.W.Target.known s.target) (λ s. g.W.Target.sent s.target) (λ s. s.held) old d.0 sink d.2 sending in (
            d.0,
            d.1,
            joined d.0 old.held sink.held (g.W.Target.sent old.target) (g.W.Target.sent sink.target) _ c.fault.ensures.few c.requires.held (stream_ordered c.args.profile (begins_page bytes) _ d.0 _ d.1) held good sent (c.in-Ok.ensures.sent sends),
          );
      outcome = λ tells served.
          let h = e.hands tells.0 known in
          let d = h.done (tells.1, tells.2) refl in
          let held = all_held (λ s. g.W.Target.known s.target) (λ s. g.W.Target.sent s.target) (λ s. s.held) old d.0 sink d.2 in
          let kept = kept_is d.0 old.held sink.held None c.requires.held held (stream_ordered c.args.profile (begins_page bytes) _ d.0 _ d.1) (sym good) in
          done_fits c.args.profile bytes after d.0 None d.1 kept (ok_fits c.args.profile bytes after _ _ _ _ _ h (tells.1, tells.2) c.requires.none (e.decides tells.0 known tells.1 tells.2));
      served = λ tells served. tt;
      names = c.end.ensures.names ∙ same_rest _ _ _ _ _ _ c.decode_any-decoded.ensures.names;
    }

pub returns-in-Some : goal.returns-in-Some
returns-in-Some g c =
    let bytes = g.R.Source.coming c.args.source.now in
    let after = g.R.Source.after c.args.source.now in
    let old = c.args.sink.now in
    let sink = c.decode_any-decoded.new.sink in
    let known = counts_on _ c.requires.none in
    let e = c.in_default.ensures in
    let bad = sym c.in-Some.is ∙ c.fault.ensures.value in
    record {
      written = λ tells sending. tt;
      outcome = λ tells served.
          let h = e.hands tells.0 known in
          let d = h.done (tells.1, tells.2) refl in
          let held = all_held (λ s. g.W.Target.known s.target) (λ s. g.W.Target.sent s.target) (λ s. s.held) old d.0 sink d.2 in
          let kept = kept_is d.0 old.held sink.held (Some c.in-Some.fault) c.requires.held held (stream_ordered c.args.profile (begins_page bytes) _ d.0 _ d.1) bad in
          done_fits c.args.profile bytes after d.0 (Some c.in-Some.fault) d.1 kept (ok_fits c.args.profile bytes after _ _ _ _ _ h (tells.1, tells.2) c.requires.none (e.decides tells.0 known tells.1 tells.2));
      served = λ tells served. tt;
      names = same_rest _ _ _ _ _ _ c.decode_any-decoded.ensures.names;
    }

-- If its target has not failed, the sink did only since an allocation did.
pub returns-in-Err : goal.returns-in-Err
returns-in-Err g c =
    let bytes = g.R.Source.coming c.args.source.now in
    let after = g.R.Source.after c.args.source.now in
    let old = c.args.sink.now in
    let sink = c.decode_any-decoded.new.sink in
    let known = counts_on _ c.requires.none in
    let names = c.decode_any-decoded.ensures.names in
    let bits : bit_value (g.W.Target.known sink.began.value) ≡ bit_value (g.W.Target.known old.began.value) = same_first _ _ _ _ _ _ names in
    let stays : g.W.Target.errors sink.began.value ≡ g.W.Target.errors old.began.value = same_second _ _ _ _ _ _ names in
    let e = c.in-Err.ensures in
    let f = c.in-Err.fault in
    record {
      written = λ tells sending. tt;
      outcome = λ tells served.
          let never : sink.short ≡ false → sink.failures.count ≡ 0 = λ full.
          unfailed g.W.Target.known g.W.Target.errors old.target sink.target old.began.value sink.began.value sink.failures.count c.requires.began served.0 served.1 bits stays (λ k some. c.failures-failures.ensures.failed k some full) in
          subst (λ (x : Fault). Fits IsWaveOutOfMemory (ReadsWave c.args.profile bytes after) (streamed (Some (Some x.at, x.why)))) (sym c.fault_of.ensures)
          (fault_fits c.args.profile bytes after _ _ _ _ _ f sink.short (e.hands tells.0 known) (tells.1, tells.2) c.requires.none (e.decides tells.0 known tells.1 tells.2) never);
      served = λ tells served.
          let never : sink.short ≡ false → sink.failures.count ≡ 0 = λ full.
          unfailed g.W.Target.known g.W.Target.errors old.target sink.target old.began.value sink.began.value sink.failures.count c.requires.began served.0 served.1 bits stays (λ k some. c.failures-failures.ensures.failed k some full) in
          subst (λ (x : Fault). x.why ≡ why.Sink → ⊥) (sym c.fault_of.ensures) (fault_of_input f sink.short old.failures.count sink.failures.count e.sink c.requires.none never);
      names = same_rest _ _ _ _ _ _ names;
    }

pub returns-in-Err-end : goal.returns-in-Err-end
returns-in-Err-end g c =
    let old = c.args.sink.now in
    let sink = c.decode_any-decoded.new.sink in
    let known = counts_on _ c.requires.none in
    let names = c.decode_any-decoded.ensures.names in
    let stays : g.W.Target.errors sink.began.value ≡ g.W.Target.errors old.target = same_second _ _ _ _ _ _ names ∙ ap g.W.Target.errors c.requires.began in
    record {
      written = λ tells sending. tt;
      outcome = λ tells served.
          let d = (c.in_default.ensures.hands tells.0 known).done (tells.1, tells.2) refl in
          let sends = all_known (λ s. g.W.Target.known s.target) (λ s. g.W.Target.sent s.target) (λ s. s.held) old d.0 sink d.2 served.0 in
          rose_later _ _ _ _ c.failures-failures.ensures.kept stays (c.in-Err-end.ensures.rises sends) served.1;
      served = λ tells served.
          let d = (c.in_default.ensures.hands tells.0 known).done (tells.1, tells.2) refl in
          let sends = all_known (λ s. g.W.Target.known s.target) (λ s. g.W.Target.sent s.target) (λ s. s.held) old d.0 sink d.2 served.0 in
          rose_later _ _ _ _ c.failures-failures.ensures.kept stays (c.in-Err-end.ensures.rises sends) served.1;
      names = c.end.ensures.names ∙ same_rest _ _ _ _ _ _ names;
    }
