use Rattle.std.proofs.Common.{◌≡◌, ◌≤◌, ◌<◌, ◌+◌, ◌*◌, ◌/◌, ◌∙◌, refl, ap, sym, ℕ, true, ℤ, List, Vec, Global, Some, None, length, map, take, arith, w64, Fits}
use Rattle.std.proofs.lemmas.List.{length-map, length-take-le}
use Rattle.std.proofs.lemmas.Result.{err_from_is_err_and}
use Rattle.std.proofs.Math.Nat.{div-mul-le_self, mod-add-div', mod-lt, mul-le-mul_right, mul-pos}
use Rattle.flac_raw.proofs.Rows.{none_read, more_read, all_read, part_read, not_full, whole_rows, whole_back}
use Rattle.flac_raw.proofs.raw.read_channels.Goals as goal

-- a row has at most 32 bytes
narrow : (channels width : ℕ) → channels ≤ 8 → width ≤ 4 → channels * width ≤ 32
narrow channels width few small = omega (arith, mul-le-mul_right {m = channels} {n = 8} width few, small)

row_fits : (n : ℕ) → n ≤ 32 → Fits w64 n
row_fits n few = omega (arith, few)

size_fits : (n : ℕ) → n ≤ 16384 → Fits w64 n
size_fits n few = omega (arith, few)

-- each turn reads a byte at least
fewer : (new old count row : ℕ) → 0 < row → row ≤ 32 → new + count ≤ old → 16384 / row * row ≤ count → new < old
fewer new old count row some few most full =
    let parts = mod-add-div' 16384 row in
    let small = mod-lt 16384 {m = row} some in
    omega (arith, parts, small, few, most, full)

-- a count that rose is not as it was
rose : {X : Type 0} (began before now : ℕ) → before < now → before ≡ began → now ≡ began → X
rose began before now more was same = absurd (omega (arith, more, was, same))

some_none : {X Y : Type 0} (x : X) → Some x ≡ None → Y
some_none x e = absurd cc

-- n bytes are there
long_front : {X : Type 0} (n most : ℕ) (xs : List X) → n ≤ most → most ≤ 16384 → length xs ≡ 16384 → length (take n xs) ≡ n
long_front n most xs few size long = length-take-le n xs (omega (arith, few, size, long))

pub overflow_mul-stride : goal.overflow_mul-stride
overflow_mul-stride g c = row_fits _ (narrow c.args.channels c.args.width c.requires.channels.1 c.requires.width.1)

pub nonzero_div-size : goal.nonzero_div-size
nonzero_div-size g c = mul-pos c.requires.channels.0 c.requires.width.0

pub overflow_mul-size : goal.overflow_mul-size
overflow_mul-size g c = size_fits _ (div-mul-le_self 16384 (c.args.channels * c.args.width))

pub nonzero_rem-count : goal.nonzero_rem-count
nonzero_rem-count g c = mul-pos c.requires.channels.0 c.requires.width.0

pub nonzero_div-count : goal.nonzero_div-count
nonzero_div-count g c = mul-pos c.requires.channels.0 c.requires.width.0

pub slice_bounds-push_piece-end : goal.slice_bounds-push_piece-end
slice_bounds-push_piece-end g c = sym (long_front c.in_ok-count.count _ c.fill.new.places c.in_ok-count.ensures.few (div-mul-le_self 16384 (c.args.channels * c.args.width)) c.if-count-stride-ne0.array_long)

pub push_piece-requires-clause-channels : goal.push_piece-requires-clause-channels
push_piece-requires-clause-channels g c = rw (c.deref_mut.ensures.value, c.pieces.invariant.many) c.requires.channels

pub push_piece-requires-clause-width : goal.push_piece-requires-clause-width
push_piece-requires-clause-width g c = c.requires.width

pub push_piece-requires-clause-whole : goal.push_piece-requires-clause-whole
push_piece-requires-clause-whole g c =
    let count = c.in_ok-count.count in
    let row = c.args.channels * c.args.width in
    let long = long_front count _ c.fill.new.places c.in_ok-count.ensures.few (div-mul-le_self 16384 row) c.if-count-stride-ne0.array_long in
    rw (c.deref_mut.ensures.value, c.pieces.invariant.many) (long ∙ whole_rows count row c.if-count-stride-ne0.false)

pub pieces-smaller : goal.pieces-smaller
pieces-smaller g c =
    let row = c.args.channels * c.args.width in
    fewer _ _ c.in_ok-count.count row (mul-pos c.requires.channels.0 c.requires.width.0) (narrow c.args.channels c.args.width c.requires.channels.1 c.requires.width.1) c.in_ok-count.ensures.most c.if-count-size.false

pub returns-in_err-lists : goal.returns-in_err-lists
returns-in_err-lists g c =
    let p = err_from_is_err_and c.from_residual.result c.from_residual.ensures.1 in
    rw (p.1, p.2) (record { whole = tt; channels = tt; part = tt; read = tt; memory = λ known same. c.in_err-lists.ensures.memory; names = refl })

pub returns-in_err-count : goal.returns-in_err-count
returns-in_err-count g c =
    let p = err_from_is_err_and c.from_residual-in_err-count.result c.from_residual-in_err-count.ensures.1 in
    let inv = c.pieces.invariant in
    rw (p.1, p.2) (record { whole = tt; channels = tt; part = tt; read = tt; memory = λ known same. rose _ _ _ (c.in_err-count.ensures.failed (inv.known known)) inv.raised same; names = c.in_err-count.ensures.names ∙ inv.names })

pub returns-in_err-push_piece : goal.returns-in_err-push_piece
returns-in_err-push_piece g c =
    let p = err_from_is_err_and c.from_residual-in_err-push_piece.result c.from_residual-in_err-push_piece.ensures.1 in
    rw (p.1, p.2) (record { whole = tt; channels = tt; part = tt; read = tt; memory = λ known same. c.in_err-push_piece.ensures.memory; names = c.in_ok-count.ensures.names ∙ c.pieces.invariant.names })

pub pieces-init : goal.pieces-init
pieces-init g c = record {
  known = λ known. known;
  read = λ known. none_read (g.R.Source.coming c.args.source.now) c.args.channels c.args.width (map (λ v. v.items) c.in_ok-lists.lists.items) (length-map c.in_ok-lists.lists.items (λ v. v.items) ∙ c.in_ok-lists.ensures.many) c.in_ok-lists.ensures.none;
  after = λ known. refl;
  raised = refl;
  names = refl;
  many = c.in_ok-lists.ensures.many;
}

pub returns-then-count-stride-ne0 : goal.returns-then-count-stride-ne0
returns-then-count-stride-ne0 g c =
    let inv = c.pieces.invariant in
    let e = c.in_ok-count.ensures in
    let stride = c.args.channels * c.args.width in
    let count = c.in_ok-count.count in
    let lt = not_full count stride (16384 / stride) e.few c.if-count-stride-ne0.true in
    let size : 16384 / stride * stride ≤ 16384 = div-mul-le_self 16384 stride in
    let long : length (take count c.fill.new.places) ≡ count = length-take-le count c.fill.new.places (omega (arith, c.fill.auto.places, e.few, size)) in
    record {
      whole = tt;
      channels = tt;
      part = λ same known.
          part_read (g.R.Source.coming c.args.source.now) (g.R.Source.coming c.pieces.source) (take count c.fill.new.places) (g.R.Source.coming c.fill.new.source) c.args.channels c.args.width count (map (λ v. v.items) c.pieces.lists.items)
          (inv.read known) (e.bytes (inv.known known)) (e.end lt (inv.known known)) long c.if-count-stride-ne0.true;
      read = record {
        known = λ known. e.known (inv.known known);
        end = λ known. e.end lt (inv.known known);
        after = λ known. e.after (inv.known known) ∙ inv.after known;
        raised = e.counted ∙ inv.raised;
      };
      memory = tt;
      names = e.names ∙ inv.names;
    }

pub returns-then-count-size : goal.returns-then-count-size
returns-then-count-size g c =
    let inv = c.pieces.invariant in
    let e = c.in_ok-count.ensures in
    let stride = c.args.channels * c.args.width in
    let count = c.in_ok-count.count in
    let items : Vec ℤ Global → List ℤ = λ v. v.items in
    let long = long_front count _ c.fill.new.places e.few (div-mul-le_self 16384 stride) c.if-count-stride-ne0.array_long in
    let more = rw (c.deref_mut.ensures.value, inv.many) at c.in_ok-push_piece.ensures.more in
    let all = λ (known : g.R.Source.known c.args.source.now ≡ true).
    let so = more_read (g.R.Source.coming c.args.source.now) (g.R.Source.coming c.pieces.source) (g.R.Source.coming c.fill.new.source) (take count c.fill.new.places) c.args.channels c.args.width (count / stride) (map items c.pieces.lists.items) (map items c.push_piece.new.lists)
    (inv.read known) (e.bytes (inv.known known)) (long ∙ whole_rows count stride c.if-count-stride-ne0.false) more in
    all_read (g.R.Source.coming c.args.source.now) (g.R.Source.coming c.fill.new.source) c.args.channels c.args.width (map items c.push_piece.new.lists) so (e.end c.if-count-size.true (inv.known known)) c.requires.channels.0 c.requires.width.0 in
    let same : length c.push_piece.new.lists ≡ length c.pieces.lists.items = c.push_piece.auto.lists ∙ ap length c.deref_mut.ensures.value in
    let back = whole_back c.pieces.lists.len c.push_piece.new.lists c.pieces.lists.items same c.pieces.lists.ok.0 in
    record {
      whole = λ known. (all known).0;
      channels = λ known. rw back (all known).1;
      part = some_none _;
      read = record {
        known = λ known. e.known (inv.known known);
        end = λ known. e.end c.if-count-size.true (inv.known known);
        after = λ known. e.after (inv.known known) ∙ inv.after known;
        raised = e.counted ∙ inv.raised;
      };
      memory = tt;
      names = e.names ∙ inv.names;
    }

pub pieces-preserved : goal.pieces-preserved
pieces-preserved g c =
    let inv = c.pieces.invariant in
    let e = c.in_ok-count.ensures in
    let stride = c.args.channels * c.args.width in
    let count = c.in_ok-count.count in
    let items : Vec ℤ Global → List ℤ = λ v. v.items in
    let long = long_front count _ c.fill.new.places e.few (div-mul-le_self 16384 stride) c.if-count-stride-ne0.array_long in
    let more = rw (c.deref_mut.ensures.value, inv.many) at c.in_ok-push_piece.ensures.more in
    let same : length c.push_piece.new.lists ≡ length c.pieces.lists.items = c.push_piece.auto.lists ∙ ap length c.deref_mut.ensures.value in
    let back = whole_back c.pieces.lists.len c.push_piece.new.lists c.pieces.lists.items same c.pieces.lists.ok.0 in
    rw back (record {
      known = λ known. e.known (inv.known known);
      read = λ known.
          more_read (g.R.Source.coming c.args.source.now) (g.R.Source.coming c.pieces.source) (g.R.Source.coming c.fill.new.source) (take count c.fill.new.places) c.args.channels c.args.width (count / stride) (map items c.pieces.lists.items) (map items c.push_piece.new.lists)
          (inv.read known) (e.bytes (inv.known known)) (long ∙ whole_rows count stride c.if-count-stride-ne0.false) more;
      after = λ known. e.after (inv.known known) ∙ inv.after known;
      raised = e.counted ∙ inv.raised;
      names = e.names ∙ inv.names;
      many = same ∙ inv.many;
    })
