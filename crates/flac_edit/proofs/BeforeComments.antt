-- New comments in the place of padding before the old ones.
use Rattle.std.proofs.Common.{◌≡◌, ℕ, ◌+◌, ◌-◌, ◌*◌, ◌≤◌, Bool, false, List, [], ◌∷◌, ◌++◌, length, take, drop, refl, sym, ◌∙◌, ap, subst, arith, rules, length-append, length-drop, take-append-drop, append_assoc}
use Rattle.std.proofs.lemmas.List.{length-take-le}
use Rattle.flac_bits.specs.Bits.{bits_of}
use Rattle.flac_bits.proofs.Holding.{length-bits_of}
use Rattle.flac_meta.specs.Spelling.{header_spelling, block_spelling, content_spelling, comments_length}
use Rattle.flac_meta.specs.declared.comments.Comments.{Comments}
use Rattle.flac_meta.specs.declared.block.Block.{Block}
use Rattle.flac_meta.specs.declared.block.Block.TheVariants as block_of
use Rattle.flac_edit.specs.Device.{Holds, Torn}
use Rattle.flac_edit.specs.inner.Reads.{IsMarkedBlock, HasRun}
use Rattle.flac_edit.specs.inner.Changed.{news_before}
use Rattle.flac_edit.specs.inner.Flips.{Flips}
use Rattle.flac_edit.specs.inner.Planned.{IsBefore}
use Rattle.flac_edit.specs.declared.flipping.Change.{Change}
use Rattle.flac_edit.proofs.Writes.{torn_inside, holds_inside}
use Rattle.flac_edit.proofs.Lengths.{length-comment_block}
use Rattle.flac_edit.proofs.Spelled.{length-header, front_bytes, Padded, padded, any_padding, append_blocks, one_block, more_blocks}

-- a comment block as bytes
pub comments_one : (new : Comments) (one : List ℕ) → bits_of one ≡ block_spelling false (block_of.VorbisComment new) → comments_length new ≤ 16777215 → IsMarkedBlock (false, block_of.VorbisComment new) one
unfolding block_spelling
comments_one new one is small = record {
  spelled = (content_spelling (block_of.VorbisComment new), refl, is);
  short = small;
  long = omega (arith, length-bits_of one, ap (λ (l : List Bool). length l) is, length-comment_block false new);
}

-- a file's parts in other brackets
pub assoc_old : (m b h x y o r : List ℕ) → m ++ (b ++ (((h ++ (x ++ y)) ++ o) ++ r)) ≡ ((m ++ b) ++ h) ++ (x ++ (y ++ (o ++ r)))
assoc_old m b h x y o r = search (rules, append_assoc)

pub assoc_head : (m b h z y o a f : List ℕ) → ((m ++ b) ++ h) ++ (z ++ (y ++ (o ++ (a ++ f)))) ≡ m ++ ((b ++ (((h ++ (z ++ y)) ++ o) ++ a)) ++ f)
assoc_head m b h z y o a f = search (rules, append_assoc)

pub assoc_staged : (m h w b : List ℕ) → (m ++ h) ++ (w ++ b) ≡ m ++ (h ++ (w ++ b))
assoc_staged m h w b = append_assoc m h (w ++ b)

pub assoc_flipped : (m k w y o r : List ℕ) → m ++ (k ++ (w ++ (y ++ (o ++ r)))) ≡ ((m ++ k) ++ w) ++ ((y ++ o) ++ r)
assoc_flipped m k w y o r = search (rules, append_assoc)

pub assoc_new : (m b k w t q v a f : List ℕ) → t ++ q ≡ k ++ w → (((m ++ b) ++ k) ++ w) ++ (v ++ (a ++ f)) ≡ m ++ ((b ++ ((t ++ (q ++ v)) ++ a)) ++ f)
assoc_new m b k w t q v a f is =
    let left : (((m ++ b) ++ k) ++ w) ++ (v ++ (a ++ f)) ≡ (m ++ b) ++ ((k ++ w) ++ (v ++ (a ++ f))) = search (rules, append_assoc) in
    let right : (m ++ b) ++ ((t ++ q) ++ (v ++ (a ++ f))) ≡ m ++ ((b ++ ((t ++ (q ++ v)) ++ a)) ++ f) = search (rules, append_assoc) in
    left ∙ ap (λ (l : List ℕ). (m ++ b) ++ (l ++ (v ++ (a ++ f)))) (sym is) ∙ right

module _ (front more rest : List (Bool × Block)) (frames : List ℕ) (mark last : Bool) (new : Comments) (at padding following : ℕ) (plan : Change) (file : List ℕ) (s : HasRun front ((mark, block_of.Padding padding) ∷ more) rest frames at (4 + padding + following) file) (p : IsBefore at padding following last new plan) where
  abbrev pub run : List (Bool × Block)
  run = (mark, block_of.Padding padding) ∷ more

  abbrev pub left : ℕ
  left = padding + following - (comments_length new + 4)

  abbrev pub news : List (Bool × Block)
  news = news_before padding following last new

  pub before_flips : Flips (front ++ (run ++ rest)) (front ++ (news ++ rest)) frames plan file
  before_flips =
      let W = plan.bytes.items in
      let H = plan.header.items in
      let n = length W in
      let q = left in
      let whole : n + q ≡ padding + following = omega (arith, p.long, p.fits) in
      let q_small : q ≤ 16777215 = omega (arith, p.small) in
      let one = s.run_is.0 in
      let others = s.run_is.1 in
      let pd : Padded mark padding one = padded mark padding one s.run_is.2.spelled in
      let h = pd.header in
      let F = s.marker ++ s.before in
      let X = take n pd.body in
      let Y = drop n pd.body in
      let R = s.after ++ frames in
      let B = Y ++ (others ++ R) in
      let x_long : length X ≡ n = length-take-le n pd.body (omega (arith, p.fits, pd.long)) in
      let y_long : n + length Y ≡ padding = omega (arith, length-drop n pd.body, p.fits, pd.long) in
      let inside_is : s.inside ≡ (h ++ (X ++ Y)) ++ others =
      s.run_is.4 ∙ ap (λ (l : List ℕ). l ++ others) (pd.is ∙ ap (λ (l : List ℕ). h ++ l) (sym (take-append-drop n pd.body))) in
      let file_is : file ≡ (F ++ h) ++ (X ++ B) = s.is ∙ ap (λ (l : List ℕ). s.marker ++ (s.before ++ (l ++ R))) inside_is ∙ assoc_old s.marker s.before h X Y others R in
      let h_at : length (F ++ h) ≡ plan.at = omega (arith, length-append F h, s.begins, pd.four, p.bytes_at) in
      let others_long : length others ≡ following =
      omega (arith, ap (λ (l : List ℕ). length l) inside_is, s.long, length-append (h ++ (X ++ Y)) others, length-append h (X ++ Y), length-append X Y, pd.four, x_long, y_long) in
      let all_long : length (H ++ W) ≡ n + 4 = omega (arith, length-append H W, p.header) in
      let block_long : length (block_spelling false (block_of.VorbisComment new)) ≡ 8 * n =
      omega (arith, length-bits_of (H ++ W), all_long, ap (λ (l : List Bool). length l) p.spelled, length-append (block_spelling false (block_of.VorbisComment new)) (header_spelling last 1 q), length-header last 1 q) in
      let parts = front_bytes (H ++ W) (block_spelling false (block_of.VorbisComment new)) (header_spelling last 1 q) n block_long p.spelled in
      let T = take n (H ++ W) in
      let Q = drop n (H ++ W) in
      record {
        old = λ c torn.
            let t = torn_inside (F ++ h) X B c plan.at n h_at x_long (subst (λ (f : List ℕ). Torn plan.at n f c) file_is torn) in
            let Z = t.0 in
            let long : length (Z ++ Y) ≡ padding = omega (arith, length-append Z Y, t.1, y_long) in
            record {
              marker = s.marker;
              marker_is = s.marker_is;
              head = s.before ++ (((h ++ (Z ++ Y)) ++ others) ++ s.after);
              file_is = t.2 ∙ assoc_head s.marker s.before h Z Y others s.after frames;
              spelled = append_blocks front (run ++ rest) s.before (((h ++ (Z ++ Y)) ++ others) ++ s.after) s.front_is
                  (append_blocks run rest ((h ++ (Z ++ Y)) ++ others) s.after
                  (more_blocks (mark, block_of.Padding padding) more (h ++ (Z ++ Y)) others (any_padding mark padding h (Z ++ Y) long pd.bits s.run_is.2.short) s.run_is.3)
                  s.rest_is);
            };
        new = λ staged flipped c holds turn torn.
            let staged_is : staged ≡ F ++ (h ++ (W ++ B)) =
            holds_inside (F ++ h) X B W staged plan.at h_at (sym x_long) (subst (λ (f : List ℕ). Holds f plan.at W staged) file_is holds) ∙ assoc_staged F h W B in
            let flipped_is : flipped ≡ ((F ++ H) ++ W) ++ ((Y ++ others) ++ R) =
            holds_inside F h (W ++ B) H flipped plan.header_at (s.begins ∙ sym p.header_at) (p.header ∙ sym pd.four) (subst (λ (f : List ℕ). Holds f plan.header_at H flipped) staged_is turn)
            ∙ assoc_flipped F H W Y others R in
            let z_at : length ((F ++ H) ++ W) ≡ plan.zeros_at = omega (arith, length-append (F ++ H) W, length-append F H, s.begins, p.header, p.zeros_at) in
            let z_long : length (Y ++ others) ≡ q = omega (arith, length-append Y others, y_long, others_long, whole) in
            let t = torn_inside ((F ++ H) ++ W) (Y ++ others) R c plan.zeros_at q z_at z_long (subst (λ (f : List ℕ). Torn plan.zeros_at q f c) flipped_is (subst (λ k. Torn plan.zeros_at k flipped c) p.zeros torn)) in
            let V = t.0 in
            record {
              marker = s.marker;
              marker_is = s.marker_is;
              head = s.before ++ ((T ++ (Q ++ V)) ++ s.after);
              file_is = t.2 ∙ assoc_new s.marker s.before H W T Q V s.after frames (take-append-drop n (H ++ W));
              spelled = append_blocks front (news ++ rest) s.before ((T ++ (Q ++ V)) ++ s.after) s.front_is
                  (append_blocks news rest (T ++ (Q ++ V)) s.after
                  (more_blocks (false, block_of.VorbisComment new) ((last, block_of.Padding q) ∷ []) T (Q ++ V) (comments_one new T parts.0 p.short)
                  (one_block (last, block_of.Padding q) (Q ++ V) (any_padding last q Q V t.1 parts.1 q_small)))
                  s.rest_is);
            };
      }
