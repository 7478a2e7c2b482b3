-- Calls of a source, one after another.
use Rattle.std.proofs.Common.{◌≡◌, ◌≤◌, ◌<◌, ℕ, true, List, sym, ap, ◌∙◌, arith, subst}
use Rattle.std.specs.Prelude.{is_some}
use Rattle.flac_bits.specs.State.{After, Rises}
use Rattle.flac_bits.specs.declared.source.Source as source
use Rattle.flac_around.specs.inner.Pulling.{Goes, Fails}

at_most : (a b c : ℕ) → a ≤ b → b ≤ c → a ≤ c
at_most a b c h k = omega (arith, h, k)

module _ {S : Type 0} (g : source.Ghosts S) where
  pub goes_on : {old mid new : S} → Goes g old mid → Goes g mid new → Goes g old new
  goes_on a b = record {
    names = b.names ∙ a.names;
    known = λ known. b.known (a.known known);
    errors = b.errors ∙ a.errors;
    raised = b.raised ∙ a.raised;
    after = λ known. b.after (a.known known) ∙ a.after known;
    most = at_most _ _ _ b.most a.most;
  }

  -- one that failed after others
  pub fails_later : {Now Left : List ℕ → Type 0} {old mid new : S} → Goes g old mid → (g.known old ≡ true → Now (g.coming mid) → Left (g.coming old)) → Fails g Now mid new → Fails g Left old new
  fails_later {new = new} a back f = record {
    names = f.names ∙ a.names;
    kept = subst (λ n. n ≤ g.errors new) a.errors f.kept;
    after = λ known same. f.after (a.known known) (same ∙ sym a.errors) ∙ a.after known;
    foreseen = λ known same.
        let h = f.foreseen (a.known known) (same ∙ sym a.errors) in
        (back known h.0, sym (ap (λ (e : After). is_some e.fails) (a.after known)) ∙ h.1);
    rises = λ known. subst (λ n. n < g.raised new) a.raised (f.rises (a.known known));
    risen = subst (λ n. Rises n (g.raised new)) a.raised f.risen;
  }

  -- the same, said of other bytes
  pub fails_of : {Now Left : List ℕ → Type 0} {old new : S} → (Now (g.coming old) → Left (g.coming old)) → Fails g Now old new → Fails g Left old new
  fails_of back f = record {
    names = f.names;
    kept = f.kept;
    after = f.after;
    foreseen = λ known same. let h = f.foreseen known same in (back h.0, h.1);
    rises = f.rises;
    risen = f.risen;
  }
