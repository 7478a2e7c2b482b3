use Rattle.std.proofs.Common.{◌≡◌, ℕ, ◌+◌, ◌-◌, ◌*◌, ◌/◌, List, ◌++◌, Bool, length, arith, ap, ◌∙◌}
use Rattle.std.specs.List.{flat_map, range_with_len}
use Rattle.std.proofs.lemmas.Result.{err_from_is_err_and}
use Rattle.flac_bits.proofs.Writing.{towards_start, towards_more, towards_end, towards_fail}
use Rattle.flac_pages.specs.Page.{page_spelling}
use Rattle.flac_pages.specs.Written.{page_at, packet_spelling}
use Rattle.flac_pages.proofs.Cut.{page_more, page_none, full_page, last_page, slice_is, rest_is}
use Rattle.flac_pages.proofs.writing.write_packet.Goals as goal

pub loop-page-init : goal.loop-page-init
unfolding packet_spelling
loop-page-init g c =
    let all : length c.args.packet.now / 65025 + 1 - 0 ≡ length c.args.packet.now / 65025 + 1 = omega arith in
    rw all (towards_start _ c.args.writer.now)

pub returns-in_err-write_page-clause-wrote : goal.returns-in_err-write_page-clause-wrote
returns-in_err-write_page-clause-wrote g c =
    let p = err_from_is_err_and c.from_residual.result c.from_residual.ensures.1 in
    let m = c.args.marks in let packet = c.args.packet.now in let k = c.loop-page.page in
    let last : ℕ = length packet / 65025 in
    let f : ℕ → List Bool = λ i. page_spelling (page_at m packet i) in
    let rest = flat_map f (range_with_len (k + 1) (last + 1 - (k + 1))) in
    let here = full_page m packet k c.head_of-head.result _ c.loop-page-test.true c.head_of-head.ensures (slice_is packet k) in
    rw (p.1, p.2) (towards_fail _ rest (page_more f k last (omega (arith, c.loop-page-test.true)) ∙ ap (λ t. t ++ rest) here) c.loop-page.invariant c.in_err-write_page.ensures)

pub loop-page-preserved : goal.loop-page-preserved
loop-page-preserved g c =
    let m = c.args.marks in let packet = c.args.packet.now in let k = c.loop-page.page in
    let last : ℕ = length packet / 65025 in
    let f : ℕ → List Bool = λ i. page_spelling (page_at m packet i) in
    let rest = flat_map f (range_with_len (k + 1) (last + 1 - (k + 1))) in
    let here = full_page m packet k c.head_of-head.result _ c.loop-page-test.true c.head_of-head.ensures (slice_is packet k) in
    towards_more rest (page_more f k last (omega (arith, c.loop-page-test.true)) ∙ ap (λ t. t ++ rest) here) c.loop-page.invariant c.in_ok-write_page.ensures

pub returns-in_err-write_last-clause-wrote : goal.returns-in_err-write_last-clause-wrote
returns-in_err-write_last-clause-wrote g c =
    let p = err_from_is_err_and c.from_residual-in_err-write_last.result c.from_residual-in_err-write_last.ensures.1 in
    let m = c.args.marks in let packet = c.args.packet.now in
    let last : ℕ = length packet / 65025 in
    let f : ℕ → List Bool = λ i. page_spelling (page_at m packet i) in
    let rest = flat_map f (range_with_len (last + 1) (last + 1 - (last + 1))) in
    let e : c.loop-page.page ≡ last = omega (arith, c.loop-page-test.false, c.loop-page.auto.page-end) in
    let so = rw e at c.loop-page.invariant in
    rw (p.1, p.2) (towards_fail _ rest (page_more f last last (omega arith) ∙ ap (λ t. t ++ rest) (last_page m packet c.head_of-head-2.result _ c.head_of-head-2.ensures (rest_is packet (65025 * last)))) so c.in_err-write_last.ensures)

pub returns-clause-wrote : goal.returns-clause-wrote
returns-clause-wrote g c =
    let m = c.args.marks in let packet = c.args.packet.now in
    let last : ℕ = length packet / 65025 in
    let f : ℕ → List Bool = λ i. page_spelling (page_at m packet i) in
    let rest = flat_map f (range_with_len (last + 1) (last + 1 - (last + 1))) in
    let e : c.loop-page.page ≡ last = omega (arith, c.loop-page-test.false, c.loop-page.auto.page-end) in
    let so = rw e at c.loop-page.invariant in
    towards_end (page_none f last) (towards_more rest (page_more f last last (omega arith) ∙ ap (λ t. t ++ rest) (last_page m packet c.head_of-head-2.result _ c.head_of-head-2.ensures (rest_is packet (65025 * last)))) so c.in_ok-write_last.ensures)
