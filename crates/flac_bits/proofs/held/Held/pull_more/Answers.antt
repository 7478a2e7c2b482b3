use Rattle.std.proofs.Common.{◌≡◌, ◌≤◌, ◌++◌, ◌+◌, ◌*◌, ℕ, zero, suc, Bool, true, false, Option, Some, None, List, Result, Ok, Err, [], length, take, drop, refl, sym, ap, ◌∙◌, arith}
use Rattle.flac_bits.specs.declared.why.Why.{Why}
use Rattle.flac_bits.specs.Bits.{bits_of}
use Rattle.flac_bits.specs.Store.{Store, Fence, passed, hides_late}
use Rattle.flac_bits.specs.inner.Store.{seen}
use Rattle.flac_bits.proofs.Marks.{pulled_mark}
use Rattle.flac_bits.proofs.Standing.{came_bits, came_most, none_left}
use Rattle.std.proofs.lemmas.List.{length-take, length-drop}
use Rattle.flac_bits.proofs.Coming.{came_is, came_none, hides_none, none_allowed, none_forbidden, ends_short, foretold, not_foretold, seen_fits}
use Rattle.flac_bits.proofs.held.Held.pull_more.Goals as goal

fits_in : (n m k : ℕ) → n ≤ k → m ≡ k → n ≤ m
fits_in n m k le is = omega (arith, le, is)

went_on : (r : Result Bool Why) → r ≡ Ok true → r ≡ Ok false → ⊥
went_on r a b = cc

refused : (r : Result Bool Why) (e : Why) → r ≡ Err e → r ≡ Ok false → ⊥
refused r e a b = cc

up_to : (a b d : ℕ) → a ≤ b → b ≤ d → a ≤ d
up_to a b d x y = omega (arith, x, y)

no_less : (n : ℕ) → 0 ≤ n
no_less n = omega arith

failed : (r : Result Bool Why) (e : Why) → r ≡ Err e → r ≡ Ok true → ⊥
failed r e a b = cc

none_passed : (w : List Bool) → w ≡ [] → passed [] w ++ w ≡ []
none_passed w is = rw is refl

-- nothing is held
none_most : (s : Store) → s.word ≡ [] → s.bytes ≡ [] → length s.fence.hidden ≡ 0 → length (s.word ++ bits_of s.bytes) + 8 * length s.fence.hidden ≡ 0
none_most s word bytes hidden = rw (word, bytes, hidden) refl

none_held : (s : Store) (n : ℕ) → s.word ≡ [] → s.bytes ≡ [] → length s.fence.hidden ≡ 0 → length (s.word ++ bits_of s.bytes) + 8 * length s.fence.hidden ≤ n
none_held s n word bytes hidden = omega (arith, none_most s word bytes hidden)

none_late : (room : Option ℕ) → hides_late room 0 0 ≡ true
none_late None = refl
none_late (Some zero) = refl
none_late (Some (suc n)) = refl

pub slice_bounds-both_checked-count : goal.slice_bounds-both_checked-count
slice_bounds-both_checked-count g c = up_to _ _ _ c.self.invariant.0 c.self.invariant.1

pub invariant_of-self : goal.invariant_of-self
invariant_of-self g c =
    let none = ap (λ (s : Store). s.word) c.self.view_is ∙ c.requires.taken.0 in
    (no_less 0, no_less 0, no_less 8192, none_passed c.self.inside.word none, c.pull.auto.buf ∙ c.self.told, no_less 0, no_less 8192, none_late c.self.inside.room)

pub invariant_of-self-in-Err : goal.invariant_of-self-in-Err
invariant_of-self-in-Err g c =
    let none = ap (λ (s : Store). s.word) c.self.view_is ∙ c.requires.taken.0 in
    (no_less 0, no_less 0, no_less 8192, none_passed c.self.inside.word none, c.pull.auto.buf ∙ c.self.told, no_less 0, no_less 8192, refl)

pub returns-in-Ok-eq0-clause-more : goal.returns-in-Ok-eq0-clause-more
returns-in-Ok-eq0-clause-more g c = λ is. absurd (went_on _ is refl)

pub returns-in-Ok-eq0-clause-word : goal.returns-in-Ok-eq0-clause-word
returns-in-Ok-eq0-clause-word g c = ap (λ (s : Store). s.word) c.self.view_is ∙ c.requires.taken.0

pub returns-in-Ok-clause-word : goal.returns-in-Ok-clause-word
returns-in-Ok-clause-word g c = ap (λ (s : Store). s.word) c.self.view_is ∙ c.requires.taken.0

pub returns-in-Err-clause-more : goal.returns-in-Err-clause-more
returns-in-Err-clause-more g c = λ is. absurd (failed _ _ refl is)

pub returns-in-Err-clause-word : goal.returns-in-Err-clause-word
returns-in-Err-clause-word g c = ap (λ (s : Store). s.word) c.self.view_is ∙ c.requires.taken.0

pub returns-in-Ok-eq0-clause-pulls : goal.returns-in-Ok-eq0-clause-pulls
returns-in-Ok-eq0-clause-pulls g c =
    let inv = c.self.invariant in
    let got = c.in-Ok-eq0.ensures in
    let zero : c.in-Ok-eq0.field-0 ≡ 0 = c.in-Ok-eq0.field-0-test in
    let room = c.self.inside.room in
    let old = c.args.self.now in
    let coming = g.R.Source.coming c.args.source.now in
    let after = g.R.Source.after c.args.source.now in
    let none = ap (λ (s : Store). s.word) c.self.view_is ∙ c.requires.taken.0 in
    let out = ap (λ (s : Store). s.bytes) c.self.view_is ∙ c.requires.taken.1 in
    let open_fence = hides_none room c.self.inside.end c.self.inside.filled c.self.inside.bytes old.fence (ap (λ (s : Store). s.fence) c.self.view_is) c.requires.room inv.7 (fits_in _ _ _ inv.6 inv.4) in
    let new : Store = record { word = c.self.inside.word; bytes = []; mark = old.mark; fence = record { room = room; hidden = [] } } in
    record {
      names = got.names;
      mark = pulled_mark c.self.inside.bytes c.self.inside.from c.self.inside.place c.self.inside.end c.self.inside.before c.self.inside.check8 c.self.inside.check16 c.saturating_add-self-inside.result c.both_checked-check8.result.0 c.both_checked-check8.result.1 c.self.inside.word old.mark inv.0 inv.1 (fits_in _ _ _ inv.2 inv.4) none out c.both_checked-check8.ensures.eight c.both_checked-check8.ensures.sixteen c.saturating_add-self-inside.ensures (ap (λ (s : Store). s.mark) c.self.view_is);
      moved = record {
        known = got.known;
        errors = got.counted.0;
        raised = got.counted.1;
        most = came_most old new _ _ c.requires.taken.0 c.requires.taken.1 none (omega (arith, got.most, zero));
        held = none_held old _ c.requires.taken.0 c.requires.taken.1 (ap (λ (f : Fence). length f.hidden) (sym open_fence));
        same = λ known. came_bits old _ coming _ c.requires.taken.0 c.requires.taken.1 none (rw (← open_fence) (came_none room (g.R.Source.coming c.pull.new.self) coming (rw zero at got.bytes known)));
      };
      over = λ is known.
          let over = got.end zero (omega (arith, c.pull.auto.buf, inv.4)) known in (
            none_left old coming c.requires.taken.0 c.requires.taken.1 (none_allowed old.fence.room coming over.0),
            λ read. not_foretold after.fails over.1 (sym (ends_short old.fence.room coming after c.requires.room over.0) ∙ read),
          );
      kept = got.kept;
      foretold = got.foretold;
      read = tt;
      none = tt;
      ended = tt;
      rises = tt;
      risen = tt;
    }

pub returns-in-Ok-clause-pulls : goal.returns-in-Ok-clause-pulls
returns-in-Ok-clause-pulls g c =
    let inv = c.self.invariant in
    let got = c.in-Ok.ensures in
    let n = c.in-Ok.n in
    let buf = c.pull.new.buf in
    let room = c.self.inside.room in
    let old = c.args.self.now in
    let coming = g.R.Source.coming c.args.source.now in
    let none = ap (λ (s : Store). s.word) c.self.view_is ∙ c.requires.taken.0 in
    let out = ap (λ (s : Store). s.bytes) c.self.view_is ∙ c.requires.taken.1 in
    let open_fence = hides_none room c.self.inside.end c.self.inside.filled c.self.inside.bytes old.fence (ap (λ (s : Store). s.fence) c.self.view_is) c.requires.room inv.7 (fits_in _ _ _ inv.6 inv.4) in
    let seen_is = c.seen-self-inside.ensures in
    let few = seen_fits room n in
    let end = c.seen-self-inside.result in
    let new : Store = record { word = c.self.inside.word; bytes = take end buf; mark = old.mark; fence = record { room = c.room_after-self-inside.result; hidden = drop end (take n buf) } } in
    record {
      names = got.names;
      mark = pulled_mark c.self.inside.bytes c.self.inside.from c.self.inside.place c.self.inside.end c.self.inside.before c.self.inside.check8 c.self.inside.check16 c.saturating_add-self-inside.result c.both_checked-check8.result.0 c.both_checked-check8.result.1 c.self.inside.word old.mark inv.0 inv.1 (fits_in _ _ _ inv.2 inv.4) none out c.both_checked-check8.ensures.eight c.both_checked-check8.ensures.sixteen c.saturating_add-self-inside.ensures (ap (λ (s : Store). s.mark) c.self.view_is);
      moved = record {
        known = got.known;
        errors = got.counted.0;
        raised = got.counted.1;
        most = came_most old new _ _ c.requires.taken.0 c.requires.taken.1 none (rw (← open_fence, seen_is) (omega (arith, got.most, length-take (seen room n) buf, length-drop (seen room n) (take n buf), length-take n buf, few, got.bound.0)));
        held = none_held old _ c.requires.taken.0 c.requires.taken.1 (ap (λ (f : Fence). length f.hidden) (sym open_fence));
        same = λ known. came_bits old _ coming _ c.requires.taken.0 c.requires.taken.1 none (rw (← open_fence, c.room_after-self-inside.ensures, seen_is) (came_is room n buf (g.R.Source.coming c.pull.new.self) coming got.bound.0 (got.bytes known)));
      };
      over = λ is. absurd (went_on _ refl is);
      kept = got.kept;
      foretold = got.foretold;
      read = tt;
      none = tt;
      ended = tt;
      rises = tt;
      risen = tt;
    }

pub returns-in-Err-clause-pulls : goal.returns-in-Err-clause-pulls
returns-in-Err-clause-pulls g c =
    let inv = c.self.invariant in
    let failed = c.in-Err.ensures in
    let room = c.self.inside.room in
    let old = c.args.self.now in
    let coming = g.R.Source.coming c.args.source.now in
    let after = g.R.Source.after c.args.source.now in
    let none = ap (λ (s : Store). s.word) c.self.view_is ∙ c.requires.taken.0 in
    let out = ap (λ (s : Store). s.bytes) c.self.view_is ∙ c.requires.taken.1 in
    let open_fence = hides_none room c.self.inside.end c.self.inside.filled c.self.inside.bytes old.fence (ap (λ (s : Store). s.fence) c.self.view_is) c.requires.room inv.7 (fits_in _ _ _ inv.6 inv.4) in
    record {
      names = failed.names;
      mark = pulled_mark c.self.inside.bytes c.self.inside.from c.self.inside.place c.self.inside.end c.self.inside.before c.self.inside.check8 c.self.inside.check16 c.saturating_add-self-inside.result c.both_checked-check8.result.0 c.both_checked-check8.result.1 c.self.inside.word old.mark inv.0 inv.1 (fits_in _ _ _ inv.2 inv.4) none out c.both_checked-check8.ensures.eight c.both_checked-check8.ensures.sixteen c.saturating_add-self-inside.ensures (ap (λ (s : Store). s.mark) c.self.view_is);
      moved = tt;
      over = λ is. absurd (refused _ _ refl is);
      kept = failed.kept;
      foretold = failed.foretold;
      read = refl;
      none = none_most old c.requires.taken.0 c.requires.taken.1 (ap (λ (f : Fence). length f.hidden) (sym open_fence));
      ended = λ known same.
          let end = failed.failed known same in
          record {
            left = none_left old coming c.requires.taken.0 c.requires.taken.1 (none_allowed old.fence.room coming end.0);
            reason = ends_short old.fence.room coming after c.requires.room end.0 ∙ foretold after.fails end.1;
            fenced = rw (← open_fence) (ap bits_of (sym (none_forbidden room coming end.0)));
          };
      rises = failed.rises;
      risen = failed.risen;
    }
