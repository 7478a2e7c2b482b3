use Rattle.std.proofs.Common.{◌≡◌, ◌≤◌, ◌<◌, ◌*◌, ◌/◌, ◌%◌, ◌∙◌, refl, ap, sym, ℕ, List, Some, None, length, take, arith}
use Rattle.std.proofs.lemmas.List.{length-take-le}
use Rattle.std.proofs.lemmas.Result.{err_from_is_err_and}
use Rattle.std.proofs.Math.Nat.{div-mul-le_self}
use Rattle.flac_wave.specs.Format.{row_of}
use Rattle.flac_cli.proofs.HeldWaves.{first_held, next_held, all_held, part_held}
use Rattle.flac_raw.proofs.Rows.{not_full, whole_rows}
use Rattle.flac_cli.proofs.wave_samples.read_held.Goals as goal

-- a count that rose is not as it was
rose : {X : Type 0} (began before now : ℕ) → before < now → before ≡ began → now ≡ began → X
rose began before now more was same = absurd (omega (arith, more, was, same))

some_none : {X Y : Type 0} (x : X) → Some x ≡ None → Y
some_none x e = absurd cc

-- n bytes are there
long_front : {X : Type 0} (n most : ℕ) (xs : List X) → n ≤ most → most ≤ 16384 → length xs ≡ 16384 → length (take n xs) ≡ n
long_front n most xs few size long = length-take-le n xs (omega (arith, few, size, long))

-- they are whole rows
rows_of : (n count row due : ℕ) → n ≡ count → row ≡ due → count % row ≡ 0 → n % due ≡ 0
rows_of n count row due is same whole = ap (λ k. k % due) is ∙ (ap (λ r. count % r) (sym same) ∙ whole)

pub returns-in_err-count : goal.returns-in_err-count
returns-in_err-count g c =
    let p = err_from_is_err_and c.from_residual-in_err-count.result c.from_residual-in_err-count.ensures.1 in
    let inv = c.pieces.invariant in
    rw (p.1, p.2) (record { held = tt; room = tt; part = tt; read = tt; memory = λ known same. rose _ _ _ (c.in_err-count.ensures.failed (inv.known known)) inv.raised same; names = c.in_err-count.ensures.names ∙ inv.names })

pub returns-in_err-hold_piece : goal.returns-in_err-hold_piece
returns-in_err-hold_piece g c =
    let p = err_from_is_err_and c.from_residual-in_err-hold_piece.result c.from_residual-in_err-hold_piece.ensures.1 in
    rw (p.1, p.2) (record { held = tt; room = tt; part = tt; read = tt; memory = λ known same. c.in_err-hold_piece.ensures.memory; names = c.in_ok-count.ensures.names ∙ c.pieces.invariant.names })

pub pieces-init : goal.pieces-init
pieces-init g c = record {
  known = λ known. known;
  read = λ known. first_held c.args.format.now (g.R.Source.coming c.args.source.now) c.in_ok-held.held c.in_ok-held.ensures.none;
  after = λ known. refl;
  raised = refl;
  names = refl;
  many = c.in_ok-held.ensures.many;
  room = c.in_ok-held.ensures.room;
}

pub hold_piece-requires-clause-many : goal.hold_piece-requires-clause-many
hold_piece-requires-clause-many g c = c.pieces.invariant.many

pub hold_piece-requires-clause-room : goal.hold_piece-requires-clause-room
hold_piece-requires-clause-room g c = c.pieces.invariant.room

pub hold_piece-requires-clause-whole : goal.hold_piece-requires-clause-whole
hold_piece-requires-clause-whole g c =
    let count = c.in_ok-count.count in
    let long = long_front count _ c.fill.new.places c.in_ok-count.ensures.few (div-mul-le_self 16384 c.row-row.result) c.if-count-row-ne0.array_long in
    rows_of _ count c.row-row.result (row_of c.args.format.now) long c.row-row.ensures c.if-count-row-ne0.false

pub returns-then-count-row-ne0 : goal.returns-then-count-row-ne0
returns-then-count-row-ne0 g c =
    let inv = c.pieces.invariant in
    let e = c.in_ok-count.ensures in
    let f = c.args.format.now in
    let row = c.row-row.result in
    let count = c.in_ok-count.count in
    let lt = not_full count row (16384 / row) e.few c.if-count-row-ne0.true in
    let size : 16384 / row * row ≤ 16384 = div-mul-le_self 16384 row in
    let long : length (take count c.fill.new.places) ≡ count = length-take-le count c.fill.new.places (omega (arith, c.fill.auto.places, e.few, size)) in
    record {
      held = tt;
      room = tt;
      part = λ same known.
          part_held f (g.R.Source.coming c.args.source.now) (g.R.Source.coming c.pieces.source) (take count c.fill.new.places) (g.R.Source.coming c.fill.new.source) count c.pieces.held
          (inv.read known) (e.bytes (inv.known known)) (e.end lt (inv.known known)) long (λ none. c.if-count-row-ne0.true (ap (λ r. count % r) c.row-row.ensures ∙ none));
      read = record {
        known = λ known. e.known (inv.known known);
        end = λ known. e.end lt (inv.known known);
        after = λ known. e.after (inv.known known) ∙ inv.after known;
        raised = e.counted ∙ inv.raised;
      };
      memory = tt;
      names = e.names ∙ inv.names;
    }

pub returns-then-count-size : goal.returns-then-count-size
returns-then-count-size g c =
    let inv = c.pieces.invariant in
    let e = c.in_ok-count.ensures in
    let f = c.args.format.now in
    let row = c.row-row.result in
    let count = c.in_ok-count.count in
    let piece = take count c.fill.new.places in
    let long : length piece ≡ count = long_front count _ c.fill.new.places e.few (div-mul-le_self 16384 row) c.if-count-row-ne0.array_long in
    let whole = whole_rows (length piece) (row_of f) (rows_of (length piece) count row (row_of f) long c.row-row.ensures c.if-count-row-ne0.false) in
    record {
      held = λ known.
          all_held f c.requires.range (g.R.Source.coming c.args.source.now) (g.R.Source.coming c.fill.new.source) c.hold_piece.new.held
          (next_held f (g.R.Source.coming c.args.source.now) (g.R.Source.coming c.pieces.source) (g.R.Source.coming c.fill.new.source) piece (length piece / row_of f) c.pieces.held c.hold_piece.new.held (inv.read known) (e.bytes (inv.known known)) whole c.in_ok-hold_piece.ensures.more)
          (e.end c.if-count-size.true (inv.known known));
      room = c.in_ok-hold_piece.ensures.room;
      part = some_none _;
      read = record {
        known = λ known. e.known (inv.known known);
        end = λ known. e.end c.if-count-size.true (inv.known known);
        after = λ known. e.after (inv.known known) ∙ inv.after known;
        raised = e.counted ∙ inv.raised;
      };
      memory = tt;
      names = e.names ∙ inv.names;
    }

pub pieces-preserved : goal.pieces-preserved
pieces-preserved g c =
    let inv = c.pieces.invariant in
    let e = c.in_ok-count.ensures in
    let f = c.args.format.now in
    let row = c.row-row.result in
    let count = c.in_ok-count.count in
    let piece = take count c.fill.new.places in
    let long : length piece ≡ count = long_front count _ c.fill.new.places e.few (div-mul-le_self 16384 row) c.if-count-row-ne0.array_long in
    let whole = whole_rows (length piece) (row_of f) (rows_of (length piece) count row (row_of f) long c.row-row.ensures c.if-count-row-ne0.false) in
    record {
      known = λ known. e.known (inv.known known);
      read = λ known.
          next_held f (g.R.Source.coming c.args.source.now) (g.R.Source.coming c.pieces.source) (g.R.Source.coming c.fill.new.source) piece (length piece / row_of f) c.pieces.held c.hold_piece.new.held (inv.read known) (e.bytes (inv.known known)) whole c.in_ok-hold_piece.ensures.more;
      after = λ known. e.after (inv.known known) ∙ inv.after known;
      raised = e.counted ∙ inv.raised;
      names = e.names ∙ inv.names;
      many = c.in_ok-hold_piece.ensures.many;
      room = c.in_ok-hold_piece.ensures.room;
    }
