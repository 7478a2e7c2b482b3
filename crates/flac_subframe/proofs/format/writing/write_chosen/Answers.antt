use Rattle.std.proofs.Common.{arith, ◌≡◌, ◌∙◌, ◌+◌, ◌-◌, ◌*◌, ◌≤◌, ◌<◌, ℕ, ℤ, List, length, sym, map}
use Rattle.std.proofs.lemmas.List.{length-take-le, length-map}
use Rattle.std.proofs.lemmas.Result.{err_from_is_err_and}
use Rattle.flac_bits.proofs.Writing.{writes_then, fails_first}
use Rattle.flac_subframe.specs.format.Bodies.{content_of}
use Rattle.flac_subframe.specs.format.Chosen.{body_as}
use Rattle.flac_subframe.specs.format.inner.Codes.{type_code}
use Rattle.flac_subframe.specs.format.inner.Cost.{codings_lent}
use Rattle.flac_subframe.specs.format.Spelling.{type_of, header_spelling, content_spelling}
use Rattle.flac_subframe.specs.format.Subframe.{Form, Content}
use Rattle.flac_subframe.specs.format.Wasted.{times_power}
use Rattle.flac_subframe.proofs.lemmas.format.Powers.{shortened_is}
use Rattle.flac_subframe.proofs.lemmas.format.Powers.{wasted_once}
use Rattle.flac_subframe.proofs.lemmas.format.Made.{type_is}
use Rattle.flac_subframe.proofs.lemmas.format.WriteSteps.{subframe_text}
use Rattle.flac_subframe.proofs.format.writing.write_chosen.Goals as goal

longer : (n m : ℕ) → 2 * n + 256 ≤ m → n + 256 ≤ m
longer n m h = omega arith

within : (n m : ℕ) → m ≡ n + 256 → n ≤ m
within n m e = omega arith

below : (n m : ℕ) → n < m → n ≤ m
below n m h = omega arith

same_length : (k : ℕ) (s t : List ℤ) → s ≡ map (times_power k) t → length t ≡ length s
same_length k s t e = rw e (sym (length-map t (times_power k)))

some_left : (n m : ℕ) → m ≡ n → 0 < n → 0 < m
some_left n m e h = rw e h

up_to : (n m all : ℕ) → m ≡ n → n ≤ all → m ≤ all
up_to n m all e h = rw e h

bits_left : (n m : ℕ) → n < m → m ≤ 33 → (1 ≤ m - n) × (m - n ≤ 33)
bits_left n m h k = (omega arith, omega arith)

enough_left : (n m more all : ℕ) → m ≡ n → 2 * n + 256 ≤ all → more + (n + 256) ≡ all → m ≤ more
enough_left n m more all e h s = omega arith

at_most_33 : (n m : ℕ) → n < m → m ≤ 33 → n ≤ 33
at_most_33 n m h k = omega arith

pub write_content-requires : goal.write_content-requires
write_content-requires g c =
    let w = c.args.choice.now.form.wasted in
    let s = c.args.samples.now in
    let dropped = c.without_wasted-wasted.ensures in
    let e : c.without_wasted-wasted.result.0 ≡ w = wasted_once _ w s dropped.wasted c.requires.made.wasted in
    let same = shortened_is w s c.without_wasted-wasted.result.1.now (rw e at dropped.shortened) in
    let long = same_length _ _ _ dropped.shortened in
    record {
      some = some_left _ _ long c.requires.some;
      few = up_to _ _ _ long c.requires.few;
      depth = bits_left _ _ dropped.some c.requires.depth.1;
      fits = dropped.fits;
      places = enough_left _ _ _ _ long c.requires.places c.split_at_mut-shortened.ensures.back_len;
      handed = c.requires.made.within;
      stands = rw same at c.requires.made.stands;
    }

pub returns-in_err-write_header : goal.returns-in_err-write_header
returns-in_err-write_header g c =
    let w = c.args.choice.now.form.wasted in
    let s = c.args.samples.now in
    let t = c.without_wasted-wasted.result.1.now in
    let dropped = c.without_wasted-wasted.ensures in
    let e : c.without_wasted-wasted.result.0 ≡ w = wasted_once _ w s dropped.wasted c.requires.made.wasted in
    let same = shortened_is w s t (rw e at dropped.shortened) in
    let stands = rw same at c.requires.made.stands in
    let content : Content = content_of (body_as c.args.predictors.now c.args.choice.now.form.content (codings_lent c.args.choice.now) t) in
    let form : Form = record { wasted = w; content = content } in
    let kind : type_code c.type_of_content.result ≡ type_of content = c.type_of_content.ensures.code ∙ type_is c.args.predictors.now 15 c.args.choice.now.form.content (codings_lent c.args.choice.now) t c.requires.made.within stands in
    let head = rw (kind, e) at c.in_err-write_header.ensures in
    let p = err_from_is_err_and c.from_residual.result c.from_residual.ensures.1 in
    rw (p.1, p.2, same, subframe_text c.args.depth form) (fails_first (header_spelling (type_of content) w) (content_spelling (c.args.depth - w) content) head)

pub returns : goal.returns
returns g c =
    let w = c.args.choice.now.form.wasted in
    let s = c.args.samples.now in
    let t = c.without_wasted-wasted.result.1.now in
    let dropped = c.without_wasted-wasted.ensures in
    let e : c.without_wasted-wasted.result.0 ≡ w = wasted_once _ w s dropped.wasted c.requires.made.wasted in
    let same = shortened_is w s t (rw e at dropped.shortened) in
    let stands = rw same at c.requires.made.stands in
    let content : Content = content_of (body_as c.args.predictors.now c.args.choice.now.form.content (codings_lent c.args.choice.now) t) in
    let form : Form = record { wasted = w; content = content } in
    let kind : type_code c.type_of_content.result ≡ type_of content = c.type_of_content.ensures.code ∙ type_is c.args.predictors.now 15 c.args.choice.now.form.content (codings_lent c.args.choice.now) t c.requires.made.within stands in
    let head = rw (kind, e) at c.in_ok-write_header.ensures in
    let rest = rw e at c.write_content.ensures in
    rw (same, subframe_text c.args.depth form) (writes_then (content_spelling (c.args.depth - w) content) c.write_content.new.writer c.write_content.result head rest)

pub split_at_mut-shortened-requires : goal.split_at_mut-shortened-requires
split_at_mut-shortened-requires g c = longer _ _ c.requires.places

pub slice_bounds-shortened-end : goal.slice_bounds-shortened-end
slice_bounds-shortened-end g c = within _ _ c.split_at_mut-shortened.ensures.front_len

pub slice_bounds-shortened-end-2 : goal.slice_bounds-shortened-end-2
slice_bounds-shortened-end-2 g c = sym (length-take-le _ _ (within _ _ c.split_at_mut-shortened.ensures.front_len))

pub without_wasted-wasted-requires : goal.without_wasted-wasted-requires
without_wasted-wasted-requires g c = record {
  positive = c.requires.depth.0;
  bits = c.requires.depth.1;
  fits = c.requires.fits;
  places = length-take-le _ _ (within _ _ c.split_at_mut-shortened.ensures.front_len);
}

pub overflow_sub-depth : goal.overflow_sub-depth
overflow_sub-depth g c = below _ _ c.without_wasted-wasted.ensures.some

pub write_header-requires : goal.write_header-requires
write_header-requires g c = record { kind = c.type_of_content.ensures.within; wasted = at_most_33 _ _ c.without_wasted-wasted.ensures.some c.requires.depth.1 }
