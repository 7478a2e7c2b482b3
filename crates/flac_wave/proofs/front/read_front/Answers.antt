use Rattle.std.proofs.Common.{◌≡◌, ◌+◌, ◌∙◌, ◌++◌, ◌∷◌, [], ℕ, List, Vec, Global, true, false, Some, None, length, map, refl, ap, sym, subst, arith, length-append}
use Rattle.std.proofs.lemmas.List.{map-append}
use Rattle.std.proofs.lemmas.Result.{err_from_is_err_and}
use Rattle.flac_wave.specs.Chunks.{header_fault, seen_first, is_data, size_of, stated, chunk_fault}
use Rattle.flac_wave.specs.Wave.{IsNoWave, IsErrorOf}
use Rattle.flac_wave.proofs.Formats.{range_after, range_known}
use Rattle.flac_wave.proofs.NextPieces.{header_front, first_walked, first_range, error_walked, no_format, front_read, piece_refused, piece_walked}
use Rattle.flac_wave.proofs.front.read_front.Goals as goal

abbrev items : Vec ℕ Global → List ℕ
items v = v.items

pub returns-in-Some-clause-fault : goal.returns-in-Some-clause-fault
returns-in-Some-clause-fault g c = λ known same.
    let e = c.in_ok-header.ensures in
    ap header_fault (e.bytes known) ∙ (header_front c.in_ok-header.header.items (g.R.Source.coming c.read_at_most.new.source) (λ short. e.end short known)
    ∙ (ap header_fault (sym c.as_slice.ensures.value) ∙ sym c.in-Some.ensures.value))

pub chunks-init : goal.chunks-init
chunks-init g c =
    let e = c.in_ok-header.ensures in
    let h = c.in_ok-header.header.items in
    let all = g.R.Source.coming c.args.source.now in
    let rest = g.R.Source.coming c.read_at_most.new.source in
    let push : c.push.new.self.items ≡ c.in_ok-header.header ∷ [] = c.in_ok-push.ensures.items ∙ ap (λ l. l ++ c.in_ok-header.header ∷ []) c.new-pieces.ensures.items in
    let first = c.first-seen.ensures ∙ ap (seen_first c.args.to_end) c.as_slice-2.ensures.value in
    let twelve : length h ≡ 12 = omega (arith, e.few, c.in_default.ensures.long refl, ap length c.as_slice.ensures.value) in
    record {
      many = ap length push;
      range = first_range c.args.to_end h c.first-seen.result first;
      known = e.known;
      header = λ known. ap header_fault (e.bytes known) ∙ (header_front h rest (λ short. e.end short known) ∙ (ap header_fault (sym c.as_slice.ensures.value) ∙ sym c.in_default.ensures.value));
      walked = λ known. first_walked c.args.to_end all h rest (map items c.push.new.self.items) c.first-seen.result (e.bytes known) twelve first (ap (map items) push);
      raised = e.counted;
      names = e.names;
    }

pub returns-in_err-piece-clause-fault : goal.returns-in_err-piece-clause-fault
returns-in_err-piece-clause-fault g c =
    let p = err_from_is_err_and c.from_residual-in_err-piece.result c.from_residual-in_err-piece.ensures.1 in
    let inv = c.chunks.invariant in
    rw (p.1, p.2) (λ known same. error_walked c.args.to_end (g.R.Source.coming c.args.source.now) (g.R.Source.coming c.chunks.source) (map items c.chunks.pieces.items) c.chunks.seen c.chunks.count _
    (inv.header known) (inv.walked known) (c.in_err-piece.ensures.fault (inv.known known) (same ∙ sym inv.raised)))

pub returns-in-Err-clause-fault : goal.returns-in-Err-clause-fault
returns-in-Err-clause-fault g c = λ known same.
    let inv = c.chunks.invariant in
    let all = g.R.Source.coming c.args.source.now in
    let piece = c.in_ok-piece.piece.items in
    let here : is_data piece ≡ true = ap is_data (sym c.as_slice-in-chunks.ensures.value) ∙ (sym c.is_data.ensures ∙ c.if-is_data.true) in
    let fault = c.in-Err.ensures.fault in
    subst (IsErrorOf c.args.to_end all) (sym c.chunk_error.ensures)
    (subst (IsNoWave c.args.to_end all (Some c.chunks.count)) (sym fault.1)
    (no_format c.args.to_end all (g.R.Source.coming c.chunks.source) piece (g.R.Source.coming c.next_piece.new.source) (map items c.chunks.pieces.items) c.chunks.seen c.chunks.count
    (inv.header known) (inv.walked known) (c.in_ok-piece.ensures.found (inv.known known)) here fault.0))

pub returns-then-is_data-clause-found : goal.returns-then-is_data-clause-found
returns-then-is_data-clause-found g c = λ known.
    let inv = c.chunks.invariant in
    let piece = c.in_ok-piece.piece.items in
    let here : is_data piece ≡ true = ap is_data (sym c.as_slice-in-chunks.ensures.value) ∙ (sym c.is_data.ensures ∙ c.if-is_data.true) in
    let found = c.in-Ok.ensures.found in
    front_read c.args.to_end (g.R.Source.coming c.args.source.now) (g.R.Source.coming c.chunks.source) piece (g.R.Source.coming c.next_piece.new.source) (map items c.chunks.pieces.items) (map items c.push-then-is_data.new.self.items)
    c.chunks.seen c.chunks.count c.in-Ok.samples.0 c.in-Ok.samples.1 (inv.header known) (inv.walked known) (c.in_ok-piece.ensures.found (inv.known known)) here found.0 (range_known c.chunks.seen.format c.in-Ok.samples.0 found.0 inv.range)
    (found.1 ∙ ap (λ b. stated c.chunks.seen (size_of b)) c.as_slice-then-is_data.ensures.value)
    (ap (map items) c.in_ok-push-2.ensures.items ∙ map-append items c.chunks.pieces.items (c.in_ok-piece.piece ∷ []))

pub returns-in-Err-next-clause-fault : goal.returns-in-Err-next-clause-fault
returns-in-Err-next-clause-fault g c = λ known same.
    let inv = c.chunks.invariant in
    let all = g.R.Source.coming c.args.source.now in
    let piece = c.in_ok-piece.piece.items in
    let other : is_data piece ≡ false = ap is_data (sym c.as_slice-in-chunks.ensures.value) ∙ (sym c.is_data.ensures ∙ c.if-is_data.false) in
    subst (IsErrorOf c.args.to_end all) (sym c.chunk_error-in-Err-next.ensures)
    (piece_refused c.args.to_end all (g.R.Source.coming c.chunks.source) piece (g.R.Source.coming c.next_piece.new.source) (map items c.chunks.pieces.items) c.chunks.seen c.chunks.count c.in-Err-next.why
    (inv.header known) (inv.walked known) (c.in_ok-piece.ensures.found (inv.known known)) other (ap (chunk_fault c.chunks.seen) (sym c.as_slice-in-chunks-2.ensures.value) ∙ c.in-Err-next.ensures.fault))

pub chunks-preserved : goal.chunks-preserved
chunks-preserved g c =
    let inv = c.chunks.invariant in
    let e = c.in_ok-piece.ensures in
    let piece = c.in_ok-piece.piece.items in
    let other : is_data piece ≡ false = ap is_data (sym c.as_slice-in-chunks.ensures.value) ∙ (sym c.is_data.ensures ∙ c.if-is_data.false) in
    let k = rw c.as_slice-in-chunks-2.ensures.value at c.in-Ok-next.ensures.found in
    record {
      many = ap length c.in_ok-push-3.ensures.items ∙ (length-append c.chunks.pieces.items (c.in_ok-piece.piece ∷ []) ∙ ap (λ n. n + 1) inv.many);
      range = range_after c.chunks.seen c.in-Ok-next.known piece k.0 k.1 inv.range;
      known = λ known. e.known (inv.known known);
      header = inv.header;
      walked = λ known.
          piece_walked c.args.to_end (g.R.Source.coming c.args.source.now) (g.R.Source.coming c.chunks.source) piece (g.R.Source.coming c.next_piece.new.source) (map items c.chunks.pieces.items) (map items c.push-in-chunks.new.self.items) c.chunks.seen c.in-Ok-next.known c.chunks.count
          (inv.walked known) (e.found (inv.known known)) other k.0 k.1
          (ap (map items) c.in_ok-push-3.ensures.items ∙ map-append items c.chunks.pieces.items (c.in_ok-piece.piece ∷ []));
      raised = e.counted ∙ inv.raised;
      names = e.names ∙ inv.names;
    }
