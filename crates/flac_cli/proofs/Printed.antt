-- What calls that print one after another do to the target.
use Rattle.std.proofs.Common.{◌≡◌, ◌≤◌, List, ℕ, true, Result, Ok, Err, refl, ◌∙◌, arith}
use Rattle.flac_bits.specs.declared.target.Target as target
use Rattle.flac_cli.specs.inner.Lined.{Adds, Prints}

module _ {T : Type 0} (g : target.Ghosts T) where
  -- calls that returned Ok
  abbrev pub Printed : T → T → Type 0
  Printed old new = record {
    names : g.names new ≡ g.names old;
    kept : g.errors old ≤ g.errors new;
    known : g.known old ≡ true → g.known new ≡ true;
  }

  pub none_printed : (t : T) → Printed t t
  none_printed t = record {
    names = refl;
    kept = omega arith;
    known = λ k. k;
  }

  -- one more
  pub printed_more : {X E : Type 0} {old mid new : T} {x : X} → Printed old mid → Prints {E = E} g mid new (Ok x) → Printed old new
  printed_more p q = record {
    names = q.names ∙ p.names;
    kept = omega (arith, p.kept, q.kept);
    known = λ k. q.known (p.known k);
  }

  -- where it returned an error, which is handed on
  pub not_printed : {X Y E F : Type 0} {old mid new : T} {e : E} {f : F} → Printed old mid → Prints {X = X} g mid new (Err e) → Prints {X = Y} g old new (Err f)
  not_printed p q = record {
    names = q.names ∙ p.names;
    kept = omega (arith, p.kept, q.kept);
    known = tt;
    rises = λ k. omega (arith, q.rises (p.known k), p.kept);
  }

  pub first_printed : {X E : Type 0} {old new : T} {x : X} → Prints {E = E} g old new (Ok x) → Printed old new
  first_printed q = record {
    names = q.names;
    kept = q.kept;
    known = q.known;
  }

  pub all_printed : {X E : Type 0} {old new : T} {x : X} → Printed old new → Prints {E = E} g old new (Ok x)
  all_printed p = record {
    names = p.names;
    kept = p.kept;
    known = p.known;
    rises = tt;
  }

  -- what came of one more
  pub printed_then : {X E : Type 0} {old mid new : T} (r : Result X E) → Printed old mid → Prints g mid new r → Prints g old new r
  printed_then (Ok x) p q = all_printed (printed_more p q)
  printed_then (Err e) p q = not_printed p q

  -- a text that was added was printed
  pub added_prints : {X E : Type 0} {text : List ℕ} {old new : T} {had has : List ℕ} (r : Result X E) → Adds g text old new had has r → Prints g old new r
  added_prints r p = record {
    names = p.names;
    kept = p.kept;
    known = p.known;
    rises = p.rises;
  }
