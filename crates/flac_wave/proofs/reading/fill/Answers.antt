use Rattle.std.proofs.Common.{◌≡◌, ◌≤◌, ◌<◌, ◌+◌, ◌∙◌, ◌-◌, ◌++◌, ◌∷◌, ℕ, List, [], append_assoc, rules, refl, ap, sym, length, min, take, drop, arith}
use Rattle.std.proofs.lemmas.List.{length-take, length-drop}
use borrow.Rule.Slice.PartMut.{put_mid}
use Rattle.flac_bits.proofs.Copied.{put_taken}
use Rattle.flac_wave.proofs.reading.fill.Goals as goal

none_taken : (bytes : List ℕ) → take 0 bytes ≡ []
none_taken [] = refl
none_taken (x ∷ xs) = refl

least : (n : ℕ) → 0 ≤ n
least n = omega arith

none_more : (n : ℕ) → n + 0 ≤ n
none_more n = omega arith

not_fewer : {X : Type 0} (n most : ℕ) → most ≤ n → n < most → X
not_fewer n most all few = absurd (omega (arith, all, few))

-- it has risen since the beginning
rises_on : (began before now : ℕ) → before < now → before ≡ began → began < now
rises_on began before now more same = omega (arith, more, same)

pub loop-count-init : goal.loop-count-init
loop-count-init g c = record { few = least _; long = refl; known = λ known. known; bytes = λ known. refl; raised = refl; errors = refl; after = λ known. refl; names = refl; most = none_more _ }

pub returns : goal.returns
returns g c =
    let inv = c.loop-count.invariant in
    record {
      few = inv.few;
      bytes = inv.bytes;
      end = λ few. not_fewer _ _ c.loop-count-test.false few;
      known = inv.known;
      counted = inv.raised;
      errors = inv.errors;
      after = inv.after;
      most = inv.most;
      failed = tt;
      names = inv.names;
    }

-- of no bytes that were read nothing is left
none_left : (n : ℕ) (front coming later : List ℕ) → n ≡ 0 → coming ≡ take n front ++ later → coming ≡ [] → later ≡ []
none_left n front coming later none is end = sym (is ∙ ap (λ k. take k front ++ later) none ∙ ap (λ l. l ++ later) (none_taken front)) ∙ end

no_further : (n more : ℕ) → more ≡ 0 → n + more ≡ n
no_further n more none = omega (arith, none)

some_room : (n most long whole : ℕ) {rest part got : ℕ} → n < most → most ≤ whole → long ≡ whole → rest ≡ long - n → part ≡ min (most - n) rest → got ≡ part → 0 < got
some_room n most long whole few within same left lent same_part = omega (arith, few, within, same, left, lent, same_part)

fewer : (now before began n more : ℕ) → more ≡ 0 → now + more ≤ before → before + n ≤ began → now + n ≤ began
fewer now before began n more none here all = omega (arith, none, here, all)

pub returns-then-more-eq0 : goal.returns-then-more-eq0
returns-then-more-eq0 g c =
    let inv = c.loop-count.invariant in
    let xs = c.loop-count.places in
    let ys = c.pull.new.buf in
    let count = c.loop-count.count in
    let later = g.R.Source.coming c.pull.new.self in
    let e = c.in-Ok.ensures in
    let none = c.if-more-eq0.true in
    let within : count ≤ length xs = omega (arith, inv.few, inv.long, c.requires) in
    let lent = length-take (c.args.most - count) (drop count xs) in
    let left = length-drop count xs in
    let room = λ (few : count < c.args.most). some_room count c.args.most (length xs) (length c.args.places.now) few c.requires inv.long left lent c.pull.auto.buf in
    record {
      few = inv.few;
      bytes = λ known.
          inv.bytes known ∙ ap (λ l. take count xs ++ l) (e.bytes (inv.known known)) ∙ sym (append_assoc (take count xs) (take c.in-Ok.more ys) later)
          ∙ ap (λ l. l ++ later) (sym (put_taken count (c.args.most - count) c.in-Ok.more xs ys within e.bound.0) ∙ ap (λ n. take n (put_mid count (c.args.most - count) xs ys)) (no_further count c.in-Ok.more none));
      end = λ few known. none_left c.in-Ok.more ys (g.R.Source.coming c.loop-count.source) later none (e.bytes (inv.known known)) (e.end none (room few) (inv.known known)).0;
      known = λ known. e.known (inv.known known);
      counted = e.counted.1 ∙ inv.raised;
      errors = e.counted.0 ∙ inv.errors;
      after = λ known. e.foretold (inv.known known) e.counted.0 ∙ inv.after known;
      most = fewer _ _ _ _ _ none e.most inv.most;
      failed = tt;
      names = e.names ∙ inv.names;
    }

pub returns-in_default : goal.returns-in_default
returns-in_default g c = record {
  few = tt;
  bytes = tt;
  end = tt;
  known = tt;
  counted = tt;
  errors = tt;
  after = tt;
  most = tt;
  failed = λ known. rises_on _ _ _ (c.in_default.ensures.rises (c.loop-count.invariant.known known)) c.loop-count.invariant.raised;
  names = c.in_default.ensures.names ∙ c.loop-count.invariant.names;
}

pub loop-count-preserved : goal.loop-count-preserved
loop-count-preserved g c =
    let inv = c.loop-count.invariant in
    let xs = c.loop-count.places in
    let ys = c.pull.new.buf in
    let count = c.loop-count.count in
    let later = g.R.Source.coming c.pull.new.self in
    let e = c.in-Ok.ensures in
    let within : count ≤ length xs = omega (arith, inv.few, inv.long, c.requires) in
    record {
      few = search rules;
      long = search rules;
      known = λ known. e.known (inv.known known);
      bytes = λ known.
          inv.bytes known ∙ ap (λ l. take count xs ++ l) (e.bytes (inv.known known)) ∙ sym (append_assoc (take count xs) (take c.in-Ok.more ys) later)
          ∙ ap (λ l. l ++ later) (sym (put_taken count (c.args.most - count) c.in-Ok.more xs ys within e.bound.0));
      raised = e.counted.1 ∙ inv.raised;
      errors = e.counted.0 ∙ inv.errors;
      after = λ known. e.foretold (inv.known known) e.counted.0 ∙ inv.after known;
      names = e.names ∙ inv.names;
      most = omega (arith, e.most, inv.most);
    }
