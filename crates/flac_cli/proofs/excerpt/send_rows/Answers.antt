use Rattle.std.proofs.Common.{inl, inr, ◌≡◌, ◌≤◌, ◌∙◌, ◌*◌, ◌-◌, ◌++◌, ℕ, List, min, ap, refl, arith, length, length-append, take, drop}
use Rattle.std.proofs.lemmas.List.{length-take-le, length-drop}
use Rattle.std.proofs.lemmas.Result.{err_from_is_err_and}
use Rattle.flac_frame.specs.Viewed.{frame_of}
use Rattle.flac_native.specs.Message.{sample_width, rows_bytes}
use Rattle.flac_compare.specs.Samples.{samples_from}
use Rattle.flac_cli.specs.Excerpts.{samples_text}
use Rattle.flac_cli.proofs.Excerpts.{sent_none, sent_more, bytes_whole, width_few}
use Rattle.flac_cli.proofs.Waved.{kept_more, rises_later}
use Rattle.flac_cli.proofs.excerpt.send_rows.Goals as goal

fits_out : (end count left most room : ℕ) → end ≤ 32 * count → count ≡ min left most → most ≤ 4096 → room ≡ 131072 → end ≤ room
fits_out end count left most room few is small all = omega (arith, few, is, small, all)

few_raised : (end count left most : ℕ) → end ≤ 32 * count → count ≡ min left most → most ≤ 256 → end ≤ 8192
few_raised end count left most few is small = omega (arith, few, is, small)

has_room : (count left most room : ℕ) → count ≡ min left most → most ≤ 4096 → room ≡ 131072 → 32 * count ≤ room
has_room count left most room is small all = omega (arith, is, small, all)

kept_room : (xs out : List ℕ) (end : ℕ) → length xs ≡ end → end ≤ length out → length out ≡ 131072 → length (xs ++ drop end out) ≡ 131072
kept_room xs out end long within all = length-append xs (drop end out) ∙ omega (arith, long, within, all, length-drop end out)

pub loop-at-init : goal.loop-at-init
loop-at-init g c = record {
  after = omega arith;
  within = c.requires.rows.0;
  room = c.requires.room;
  known = λ k. k;
  sent = λ k. sent_none c.args.form.wave c.args.form.depth (frame_of c.args.frame.now).channels c.args.start (g.W.Target.sent c.args.target.now) c.requires.depth;
  names = refl;
  kept = omega arith;
}

pub put_rows-size-requires : goal.put_rows-size-requires
put_rows-size-requires g c =
    let w : c.sample_width-width.result ≡ sample_width c.args.form.depth = c.sample_width-width.ensures ∙ ap sample_width c.from.ensures in
    record {
      width = let few = width_few c.args.form.depth c.requires.depth in omega (arith, w, few);
      rows = omega (arith, c.loop-at-test.true, c.min-count.ensures, c.requires.rows.1);
      room = has_room c.min-count.result _ _ _ c.min-count.ensures c.most_rows-most.ensures.few c.loop-at.invariant.room;
    }

pub send_piece-requires : goal.send_piece-requires
send_piece-requires g c =
    let out = c.put_rows-size.new.out in
    let end = c.put_rows-size.result in
    let w : c.sample_width-width.result ≡ sample_width c.args.form.depth = c.sample_width-width.ensures ∙ ap sample_width c.from.ensures in
    let long_out : length out ≡ 131072 = c.put_rows-size.auto.out ∙ c.loop-at.invariant.room in
    let long : length (take end out) ≡ end = length-take-le end out (fits_out end c.min-count.result _ _ (length out) c.put_rows-size.ensures.end c.min-count.ensures c.most_rows-most.ensures.few long_out) in
    let put : take end out ≡ rows_bytes (sample_width c.args.form.depth) (frame_of c.args.frame.now).channels c.min-count.result c.loop-at.at =
    c.put_rows-size.ensures.bytes ∙ ap (λ k. rows_bytes k (frame_of c.args.frame.now).channels c.min-count.result c.loop-at.at) w in
    record {
      depth = c.requires.depth;
      whole = bytes_whole c.args.form.depth c.requires.depth (frame_of c.args.frame.now).channels c.min-count.result c.loop-at.at (take end out) put;
      room = elim c.most_rows-most.ensures.raised [
        | inl all ↦ inl (all ∙ ap (λ k. 8 * k) w)
        | inr few ↦ inr (let f = few_raised end c.min-count.result _ _ c.put_rows-size.ensures.end c.min-count.ensures few in omega (arith, f, long))
      ];
    }

pub loop-at-preserved : goal.loop-at-preserved
loop-at-preserved g c =
    let inv = c.loop-at.invariant in
    let out = c.put_rows-size.new.out in
    let end = c.put_rows-size.result in
    let w : c.sample_width-width.result ≡ sample_width c.args.form.depth = c.sample_width-width.ensures ∙ ap sample_width c.from.ensures in
    let long_out : length out ≡ 131072 = c.put_rows-size.auto.out ∙ inv.room in
    let fits = fits_out end c.min-count.result _ _ (length out) c.put_rows-size.ensures.end c.min-count.ensures c.most_rows-most.ensures.few long_out in
    let long : length (take end out) ≡ end = length-take-le end out fits in
    let put : take end out ≡ rows_bytes (sample_width c.args.form.depth) (frame_of c.args.frame.now).channels c.min-count.result c.loop-at.at =
    c.put_rows-size.ensures.bytes ∙ ap (λ k. rows_bytes k (frame_of c.args.frame.now).channels c.min-count.result c.loop-at.at) w in
    record {
      after = let a = inv.after in omega (arith, a);
      within = omega (arith, c.loop-at-test.true, c.min-count.ensures);
      room = kept_room c.send_piece.new.bytes out end (c.send_piece.auto.bytes ∙ long) fits long_out;
      known = λ k. c.in_ok-send_piece.ensures.known (inv.known k);
      sent = λ k. sent_more c.args.form.wave c.args.form.depth (frame_of c.args.frame.now).channels c.args.start c.loop-at.at c.min-count.result _ _ _ _ c.requires.depth inv.after (inv.sent k) put (c.in_ok-send_piece.ensures.sent (inv.known k));
      names = c.in_ok-send_piece.ensures.names ∙ inv.names;
      kept = kept_more _ _ _ inv.kept c.in_ok-send_piece.ensures.kept;
    }

pub returns-in_err-send_piece-clause-kept : goal.returns-in_err-send_piece-clause-kept
returns-in_err-send_piece-clause-kept g c = kept_more _ _ _ c.loop-at.invariant.kept c.in_err-send_piece.ensures.kept

pub returns-in_err-send_piece-clause-rises : goal.returns-in_err-send_piece-clause-rises
returns-in_err-send_piece-clause-rises g c =
    let p = err_from_is_err_and c.from_residual.result c.from_residual.ensures.1 in
    rw p.1 (λ k. rises_later _ _ _ c.loop-at.invariant.kept (c.in_err-send_piece.ensures.rises (c.loop-at.invariant.known k)))

pub returns : goal.returns
returns g c =
    let inv = c.loop-at.invariant in
    let e : c.loop-at.at ≡ c.args.end = let w = inv.within in omega (arith, w, c.loop-at-test.false) in
    record {
      known = inv.known;
      sent = λ k. inv.sent k ∙ ap (λ j. g.W.Target.sent c.args.target.now ++ samples_text c.args.form.wave c.args.form.depth (samples_from (frame_of c.args.frame.now).channels (j - c.args.start) c.args.start)) e;
      names = inv.names;
      kept = inv.kept;
      rises = tt;
    }
