use Rattle.std.proofs.Common.{inl, inr, ◌≡◌, ◌≤◌, ◌∙◌, ◌+◌, ◌*◌, ◌%◌, ◌++◌, ℕ, List, min, ap, sym, refl, arith, append-nil, length, length-append, take, drop}
use Rattle.std.proofs.lemmas.List.{length-take-le, length-drop}
use Rattle.std.proofs.Math.Nat.{mod-lt}
use Rattle.flac_frame.specs.Viewed.{frame_of}
use Rattle.flac_native.specs.Message.{sample_width, rows_bytes}
use Rattle.flac_native.proofs.SampleRows.{rows_none}
use Rattle.std.proofs.lemmas.Result.{err_from_is_err_and}
use Rattle.flac_cli.specs.inner.Waving.{Holds}
use Rattle.flac_cli.proofs.Waved.{kept_more, rises_later, file_none, rows_more, rows_whole, whole_rest, odd_none, odd_more}
use Rattle.flac_cli.proofs.decode_wave.send_samples.Goals as goal

fits_out : (end count left most room : ℕ) → end ≤ 32 * count → count ≡ min left most → most ≤ 4096 → room ≡ 131072 → end ≤ room
fits_out end count left most room few is small all = omega (arith, few, is, small, all)

few_raised : (end count left most : ℕ) → end ≤ 32 * count → count ≡ min left most → most ≤ 256 → end ≤ 8192
few_raised end count left most few is small = omega (arith, few, is, small)

deep_by : (wide depth : ℕ) → Holds wide depth → depth ≤ 32
deep_by wide depth h = let few = h.few in let room = h.room in omega (arith, few, room)

narrow : (width depth : ℕ) → width ≡ sample_width depth → depth ≤ 32 → width ≤ 4
narrow width depth is deep = omega (arith, is, deep)

kept_room : (xs out : List ℕ) (end : ℕ) → length xs ≡ end → end ≤ length out → length out ≡ 131072 → length (xs ++ drop end out) ≡ 131072
kept_room xs out end long within all = length-append xs (drop end out) ∙ omega (arith, long, within, all, length-drop end out)

pub loop-start-init : goal.loop-start-init
loop-start-init g c =
    let none = rows_none (sample_width c.args.depth) (frame_of c.args.frame.now).channels 0 in
    record {
      within = omega arith;
      room = c.requires.room;
      few = c.requires.odd;
      known = λ k. k;
      sent = λ k. sym (ap (λ l. g.W.Target.sent c.args.target.now ++ l) (file_none c.args.wide c.args.depth _ c.requires.holds none) ∙ append-nil (g.W.Target.sent c.args.target.now));
      odd = odd_none c.args.odd _ c.requires.odd (ap length (file_none c.args.wide c.args.depth _ c.requires.holds none));
      names = refl;
      kept = omega arith;
    }

pub put_rows-end-requires-clause-width : goal.put_rows-end-requires-clause-width
put_rows-end-requires-clause-width g c = narrow _ c.args.depth (c.sample_width-width.ensures ∙ ap sample_width c.from.ensures) (deep_by c.args.wide c.args.depth c.requires.holds)

pub send_as_file-requires-clause-room : goal.send_as_file-requires-clause-room
send_as_file-requires-clause-room g c =
    let out = c.put_rows-end.new.out in
    let end = c.put_rows-end.result in
    let long_out : length out ≡ 131072 = c.put_rows-end.auto.out ∙ c.loop-start.invariant.room in
    let long : length (take end out) ≡ end = length-take-le end out (fits_out end c.min-count.result _ _ (length out) c.put_rows-end.ensures.end c.min-count.ensures c.most_rows-most.ensures.few long_out) in
    elim c.most_rows-most.ensures.raised [
      | inl all ↦ inl all
      | inr few ↦ inr (let f = few_raised end c.min-count.result _ _ c.put_rows-end.ensures.end c.min-count.ensures few in omega (arith, f, long))
    ]

pub send_as_file-requires-clause-whole : goal.send_as_file-requires-clause-whole
send_as_file-requires-clause-whole g c =
    let w : c.sample_width-width.result ≡ sample_width c.args.depth = c.sample_width-width.ensures ∙ ap sample_width c.from.ensures in
    let rows = rows_bytes (sample_width c.args.depth) (frame_of c.args.frame.now).channels c.min-count.result c.loop-start.start in
    let put : take c.put_rows-end.result c.put_rows-end.new.out ≡ rows =
    c.put_rows-end.ensures.bytes ∙ ap (λ k. rows_bytes k (frame_of c.args.frame.now).channels c.min-count.result c.loop-start.start) w in
    ap (λ l. length l % sample_width c.args.depth) put
    ∙ whole_rest (sample_width c.args.depth) rows (rows_whole (sample_width c.args.depth) (frame_of c.args.frame.now).channels c.min-count.result c.loop-start.start (narrow _ c.args.depth refl (deep_by c.args.wide c.args.depth c.requires.holds)))

pub loop-start-preserved : goal.loop-start-preserved
loop-start-preserved g c =
    let inv = c.loop-start.invariant in
    let frame = frame_of c.args.frame.now in
    let out = c.put_rows-end.new.out in
    let end = c.put_rows-end.result in
    let long_out : length out ≡ 131072 = c.put_rows-end.auto.out ∙ inv.room in
    let w : c.sample_width-width.result ≡ sample_width c.args.depth = c.sample_width-width.ensures ∙ ap sample_width c.from.ensures in
    let put : take end out ≡ rows_bytes (sample_width c.args.depth) frame.channels c.min-count.result c.loop-start.start = c.put_rows-end.ensures.bytes ∙ ap (λ k. rows_bytes k frame.channels c.min-count.result c.loop-start.start) w in
    let small = c.most_rows-most.ensures.few in
    let deep = deep_by c.args.wide c.args.depth c.requires.holds in
    let long : length (take end out) ≡ end = length-take-le end out (fits_out end c.min-count.result _ _ (length out) c.put_rows-end.ensures.end c.min-count.ensures small long_out) in
    record {
      within = omega (arith, inv.within, c.loop-start-test.true, c.min-count.ensures);
      room = kept_room c.send_as_file.new.bytes out end (c.send_as_file.auto.bytes ∙ long) (fits_out end c.min-count.result _ _ (length out) c.put_rows-end.ensures.end c.min-count.ensures small long_out) long_out;
      few = mod-lt (c.loop-start.odd + c.in_ok-sent.sent % 2) {m = 2} (omega arith);
      known = λ k. c.in_ok-sent.ensures.known (inv.known k);
      sent = λ k. rows_more c.args.wide c.args.depth frame.channels c.loop-start.start c.min-count.result _ _ _ _ c.requires.holds deep (inv.sent k) put (c.in_ok-sent.ensures.sent (inv.known k));
      odd = odd_more c.args.wide c.args.depth frame.channels c.loop-start.start c.min-count.result c.loop-start.odd c.args.odd c.in_ok-sent.sent (take end out) c.requires.holds deep inv.odd put c.in_ok-sent.ensures.count;
      names = c.in_ok-sent.ensures.names ∙ inv.names;
      kept = kept_more _ _ _ inv.kept c.in_ok-sent.ensures.kept;
    }

pub returns-in_err-sent-clause-kept : goal.returns-in_err-sent-clause-kept
returns-in_err-sent-clause-kept g c = kept_more _ _ _ c.loop-start.invariant.kept c.in_err-sent.ensures.kept

pub returns-in_err-sent-clause-rises : goal.returns-in_err-sent-clause-rises
returns-in_err-sent-clause-rises g c =
    let p = err_from_is_err_and c.from_residual.result c.from_residual.ensures.1 in
    rw p.1 (λ k. rises_later _ _ _ c.loop-start.invariant.kept (c.in_err-sent.ensures.rises (c.loop-start.invariant.known k)))

pub returns-clause-kept : goal.returns-clause-kept
returns-clause-kept g c = c.loop-start.invariant.kept
