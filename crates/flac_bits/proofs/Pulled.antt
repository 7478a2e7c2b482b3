-- What a call that pulls bytes does, with what changes nothing of the bits held before it or after it.
use Rattle.std.proofs.Common.{◌≡◌, Bool, true, false, List, ℕ, Result, Ok, Err, refl, sym, ap, ◌∙◌, arith}
use Rattle.flac_bits.specs.Store.{Store, Fence, reached, reason_of, state_of}
use Rattle.flac_bits.specs.State.{State, After}
use Rattle.flac_bits.specs.inner.Store.{HoldsSame}
use Rattle.flac_bits.specs.inner.Pulling.{Pulls}
use Rattle.flac_bits.specs.declared.source.Source as source
use Rattle.flac_bits.specs.declared.why.Why.{Why}
use Rattle.flac_bits.specs.declared.why.Why.TheVariants.{Read}
use Rattle.flac_bits.specs.Reasons.{of_output}
use Rattle.flac_bits.proofs.Counting.{Answered, Failed}
use Rattle.flac_bits.proofs.Standing.{same_bits, then_same, same_most, same_after, fenced_same}

reason_same : (old new : Store) (coming : List ℕ) (after : After) → HoldsSame old new → reason_of (reached new.fence.room coming) after ≡ reason_of (reached old.fence.room coming) after
reason_same old new coming after same = ap (λ (f : Fence). reason_of (reached f.room coming) after) same.2

module _ {S : Type 0} (g : source.Ghosts S) where
  -- bits are held, and none was pulled
  pub held_pulls : (old new : Store) (s : S) → HoldsSame old new → Pulls g old new s s (Ok true)
  held_pulls old new s same = record {
    names = refl;
    mark = same.1;
    moved = record { known = λ known. known; errors = refl; raised = refl; most = omega (arith, same_most old new same); held = omega (arith, same_most old new same); same = λ _. same_bits old new (g.coming s) same };
    over = λ is. absurd cc;
    kept = omega arith;
    foretold = λ _ _. refl;
    read = tt;
    none = tt;
    ended = tt;
    rises = tt;
    risen = tt;
  }

  pub same_pulls : (old mid new : Store) (before after : S) (result : Result Bool Why) → HoldsSame old mid → Pulls g mid new before after result → Pulls g old new before after result
  same_pulls old mid new before after (Ok more) same p =
      let bits = same_bits old mid (g.coming before) same in
      let most = same_most old mid same in
      record {
        names = p.names;
        mark = p.mark ∙ same.1;
        moved = record {
          known = p.moved.known;
          errors = p.moved.errors;
          raised = p.moved.raised;
          most = omega (arith, p.moved.most, most);
          held = omega (arith, p.moved.held, most);
          same = λ known. then_same old mid new _ _ _ bits (p.moved.same known);
        };
        over = λ is known. let over = p.over is known in (sym bits.left ∙ over.0, λ e. over.1 (reason_same old mid _ _ same ∙ e));
        kept = p.kept;
        foretold = p.foretold;
        read = tt;
        none = tt;
        ended = tt;
        rises = tt;
        risen = tt;
      }
  same_pulls old mid new before after (Err why) same p =
      let bits = same_bits old mid (g.coming before) same in
      record {
        names = p.names;
        mark = p.mark ∙ same.1;
        moved = tt;
        over = λ is. absurd cc;
        kept = p.kept;
        foretold = p.foretold;
        read = p.read;
        none = sym (same_most old mid same) ∙ p.none;
        ended = λ known errors. let ends = p.ended known errors in record {
          left = sym bits.left ∙ ends.left;
          reason = sym (reason_same old mid _ _ same) ∙ ends.reason;
          fenced = ends.fenced ∙ bits.fenced;
        };
        rises = p.rises;
        risen = p.risen;
      }

  pub pulls_same : (old mid new : Store) (before after : S) (more : Bool) → Pulls g old mid before after (Ok more) → HoldsSame mid new → Pulls g old new before after (Ok more)
  pulls_same old mid new before after more p same =
      let most = same_most mid new same in
      record {
        names = p.names;
        mark = same.1 ∙ p.mark;
        moved = record {
          known = p.moved.known;
          errors = p.moved.errors;
          raised = p.moved.raised;
          most = omega (arith, p.moved.most, most);
          held = omega (arith, p.moved.held, most);
          same = λ known. then_same old mid new _ _ _ (p.moved.same known) (same_bits mid new (g.coming after) same);
        };
        over = p.over;
        kept = p.kept;
        foretold = p.foretold;
        read = tt;
        none = tt;
        ended = tt;
        rises = tt;
        risen = tt;
      }

  -- ---- what the reader counts, by its state

  abbrev pub state : S → Store → State
  state s held = state_of (g.known s) (g.errors s) (g.raised s) (g.most s) (g.after s) (g.names s) (g.coming s) held

  -- bytes came, and then some were taken off those held
  pub pulled_counts : (old mid new : Store) (before after : S) (more : Bool) (s : State) → state before old ≡ s → Pulls g old mid before after (Ok more) → new.fence ≡ mid.fence → Answered s (state after new)
  pulled_counts old mid new before after more s is p same =
      let moved = p.moved in
      rw (← is) (
        moved.known,
        moved.errors,
        moved.raised,
        λ known. same_after _ _ _ _ (p.foretold known moved.errors) (fenced_same new.fence mid.fence (g.coming after) same ∙ (moved.same known).fenced),
        p.names,
      )

  not_output : (e : Why) → e ≡ Read → of_output e ≡ false
  not_output e is = rw is refl

  -- the source returned an error
  pub cut_counts : (old new : Store) (before after : S) (e : Why) (s : State) → state before old ≡ s → Pulls g old new before after (Err e) → Failed e s (state after new)
  cut_counts old new before after e s is p =
      rw (← is) (
        p.kept,
        λ known errors. same_after _ _ _ _ (p.foretold known errors) (p.ended known errors).fenced,
        λ known q. p.rises known,
        p.names,
        λ q. p.risen,
        not_output e p.read,
      )
