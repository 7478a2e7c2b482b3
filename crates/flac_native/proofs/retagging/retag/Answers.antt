use Rattle.std.proofs.Common.{rules, ◌≡◌, ◌<◌, ◌≤◌, ℕ, min, inl, inr, refl, arith}
use Rattle.std.proofs.lemmas.List.{append-nil}
use Rattle.std.proofs.lemmas.Result.{IfErr-weaker}
use Rattle.flac_bits.specs.Bits.{bits_of}
use Rattle.flac_bits.specs.State.{short_of}
use Rattle.flac_native.specs.Decoding.{beginning}
use Rattle.flac_native.specs.Retag.{IsRefused}
use Rattle.flac_native.proofs.RetagFaults.{no_fewer, length_no_read, length_memory, long_written, long_device, never_long}
use Rattle.flac_native.proofs.Broken.{foretold_calmer}
use Rattle.flac_native.proofs.Retagged.{calmer}
use Rattle.flac_native.proofs.Decided.{exact_ok, accepted, shown}
use Rattle.flac_native.proofs.retagging.retag.Goals as goal

-- the length that is counted stops above the most bytes
too_many : (n m : ℕ) → m ≡ min n 16777216 → 16777215 < m → 16777215 < n
too_many n m e h = omega arith

none_within : (n m : ℕ) → m ≡ min n 16777216 → 16777215 < m → n ≤ 16777215 → ⊥
none_within n m e h k = absurd (omega arith)

none_above : (n m : ℕ) → m ≡ min n 16777216 → m ≤ 16777215 → 16777215 < n → ⊥
none_above n m e h k = absurd (omega arith)

pub returns-clause-long : goal.returns-clause-long
returns-clause-long g c = λ more. absurd (none_above _ _ c.length.ensures c.if-length-gt-MOST_BYTES.false more)

pub returns-clause-short : goal.returns-clause-short
returns-clause-short g c = λ is. absurd (never_long c.retag_from-outcome.result c.retag_from-outcome.ensures.placeless is)

pub returns-clause-written : goal.returns-clause-written
returns-clause-written g c =
    let written = rw c.new-reader.ensures at c.retag_from-outcome.ensures.written in
    rw (append-nil (bits_of (g.R.Source.coming c.args.source.now))) at written

pub returns-clause-nothing : goal.returns-clause-nothing
returns-clause-nothing g c = c.retag_from-outcome.ensures.nothing

pub returns-clause-placeless : goal.returns-clause-placeless
returns-clause-placeless g c =
    IfErr-weaker c.retag_from-outcome.result _ _ (λ f is none. inr (is none)) c.retag_from-outcome.ensures.placeless

pub returns-clause-output : goal.returns-clause-output
returns-clause-output g c = c.retag_from-outcome.ensures.output

pub returns-clause-write : goal.returns-clause-write
returns-clause-write g c = c.retag_from-outcome.ensures.write

pub returns-clause-write_risen : goal.returns-clause-write_risen
returns-clause-write_risen g c = c.retag_from-outcome.ensures.write_risen

pub returns-clause-names : goal.returns-clause-names
returns-clause-names g c = c.retag_from-outcome.ensures.names.1

pub returns-clause-refused : goal.returns-clause-refused
returns-clause-refused g c =
    let R = g.R.Source in
    let refused = rw c.new-reader.ensures at c.retag_from-outcome.ensures.refused in
    let whole = rw (append-nil (bits_of (g.R.Source.coming c.args.source.now))) at refused in
    calmer _ _ _ _ (IsRefused (beginning (short_of ((R.after c.args.source.now).fails))) (bits_of (R.coming c.args.source.now))) c.retag_from-outcome.result (λ e r. (search (rules, e), search (rules, r))) whole

pub returns-clause-foretold : goal.returns-clause-foretold
returns-clause-foretold g c =
    let R = g.R.Source in
    let foretold = rw c.new-reader.ensures at c.retag_from-outcome.ensures.foretold in
    let whole = rw (append-nil (bits_of (R.coming c.args.source.now))) at foretold in
    foretold_calmer _ _ _ (IsRefused (beginning (short_of ((R.after c.args.source.now).fails))) (bits_of (R.coming c.args.source.now))) c.retag_from-outcome.result (λ e. search (rules, e)) whole

pub returns-clause-placed : goal.returns-clause-placed
returns-clause-placed g c =
    let placed = rw c.new-reader.ensures at c.retag_from-outcome.ensures.placed in
    rw (append-nil (bits_of (g.R.Source.coming c.args.source.now))) at placed

pub returns-clause-memory : goal.returns-clause-memory
returns-clause-memory g c = c.retag_from-outcome.ensures.memory

pub returns-clause-begun : goal.returns-clause-begun
returns-clause-begun g c =
    let begun = rw c.new-reader.ensures at c.retag_from-outcome.ensures.begun in
    rw (append-nil (bits_of (g.R.Source.coming c.args.source.now))) at begun

pub returns-clause-copied : goal.returns-clause-copied
returns-clause-copied g c =
    let copied = rw c.new-reader.ensures at c.retag_from-outcome.ensures.copied in
    rw (append-nil (bits_of (g.R.Source.coming c.args.source.now))) at copied

pub returns-clause-exact : goal.returns-clause-exact
returns-clause-exact g c =
    let written = rw c.new-reader.ensures at c.retag_from-outcome.ensures.written in
    let whole = rw (append-nil (bits_of (g.R.Source.coming c.args.source.now))) at written in
    exact_ok _ _ (beginning (short_of ((g.R.Source.after c.args.source.now).fails))) (bits_of (g.R.Source.coming c.args.source.now)) c.args.comments.now _ _ c.retag_from-outcome.result whole

pub returns-clause-after : goal.returns-clause-after
returns-clause-after g c = rw c.new-reader.ensures at c.retag_from-outcome.ensures.after

pub returns-clause-accepted : goal.returns-clause-accepted
returns-clause-accepted g c =
    let R = g.R.Source in
    let refused = rw c.new-reader.ensures at c.retag_from-outcome.ensures.refused in
    let whole = rw (append-nil (bits_of (R.coming c.args.source.now))) at refused in
    accepted _ _ _ _ (beginning (short_of ((R.after c.args.source.now).fails))) (bits_of (R.coming c.args.source.now)) c.retag_from-outcome.result (λ e r. (search (rules, e), search (rules, r))) c.retag_from-outcome.ensures.placeless whole

pub returns-clause-shown : goal.returns-clause-shown
returns-clause-shown g c = λ short.
    let R = g.R.Source in
    let refused = rw c.new-reader.ensures at c.retag_from-outcome.ensures.refused in
    let whole = rw (append-nil (bits_of (R.coming c.args.source.now))) at refused in
    let head = rw c.new-reader.ensures at c.retag_from-outcome.ensures.head in
    let all_head = rw (append-nil (bits_of (R.coming c.args.source.now))) at head in
    let found = rw c.new-reader.ensures at c.retag_from-outcome.ensures.found in
    let all_found = rw (append-nil (bits_of (R.coming c.args.source.now))) at found in
    shown _ _ _ _ (beginning (short_of ((R.after c.args.source.now).fails))) (bits_of (R.coming c.args.source.now)) c.retag_from-outcome.result (λ e r. (search (rules, e), search (rules, r))) all_head all_found c.retag_from-outcome.ensures.placeless whole

pub returns-then-length-gt-MOST_BYTES : goal.returns-then-length-gt-MOST_BYTES
returns-then-length-gt-MOST_BYTES g c = record {
  long = λ more. (refl, refl, refl);
  short = λ is. too_many _ _ c.length.ensures c.if-length-gt-MOST_BYTES.true;
  written = tt;
  exact = tt;
  refused = tt;
  foretold = tt;
  placed = tt;
  memory = λ is. absurd (length_memory is);
  after = tt;
  accepted = λ other. absurd (other refl);
  shown = λ few. absurd (none_within _ _ c.length.ensures c.if-length-gt-MOST_BYTES.true few);
  nothing = λ one other. refl;
  begun = λ either. absurd (long_device either);
  copied = λ is. absurd (long_device (inl is));
  placeless = λ none. inl refl;
  output = tt;
  read = λ is. absurd (length_no_read is);
  write = λ is. absurd (long_written is);
  read_risen = λ is. absurd (length_no_read is);
  write_risen = λ is. absurd (long_written is);
  kept = no_fewer _ _ refl;
  names = refl;
}
