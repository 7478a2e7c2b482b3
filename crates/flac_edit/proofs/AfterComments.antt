-- New comments inside padding after the old ones.
use Rattle.std.proofs.Common.{◌≡◌, ℕ, ◌+◌, ◌-◌, ◌*◌, ◌≤◌, Bool, false, List, [], ◌∷◌, ◌++◌, length, take, drop, sym, ◌∙◌, ap, subst, arith, rules, length-append, length-drop, take-append-drop, append_assoc}
use Rattle.std.proofs.lemmas.List.{length-take-le, append-nil}
use Rattle.flac_bits.proofs.Holding.{length-bits_of}
use Rattle.flac_meta.specs.Spelling.{header_spelling, block_spelling, comments_length}
use Rattle.flac_meta.specs.declared.comments.Comments.{Comments}
use Rattle.flac_meta.specs.declared.block.Block.{Block}
use Rattle.flac_meta.specs.declared.block.Block.TheVariants as block_of
use Rattle.flac_edit.specs.Device.{Holds, Torn}
use Rattle.flac_edit.specs.inner.Reads.{HasRun}
use Rattle.flac_edit.specs.inner.Changed.{news_after}
use Rattle.flac_edit.specs.inner.Flips.{Flips}
use Rattle.flac_edit.specs.inner.Planned.{IsAfter}
use Rattle.flac_edit.specs.declared.flipping.Change.{Change}
use Rattle.flac_edit.proofs.Writes.{torn_inside, holds_inside}
use Rattle.flac_edit.proofs.Spelled.{length-header, front_bytes, Padded, padded, any_padding, append_blocks, split_blocks, one_block, more_blocks}
use Rattle.flac_edit.proofs.BeforeComments.{comments_one}

pub assoc_old : (m b a h x y r : List ℕ) → m ++ (b ++ ((a ++ (h ++ (x ++ y))) ++ r)) ≡ ((m ++ b) ++ (a ++ h)) ++ (x ++ (y ++ r))
assoc_old m b a h x y r = search (rules, append_assoc)

pub assoc_head : (m b a h z y r f : List ℕ) → ((m ++ b) ++ (a ++ h)) ++ (z ++ (y ++ (r ++ f))) ≡ m ++ ((b ++ ((a ++ (h ++ (z ++ y))) ++ r)) ++ f)
assoc_head m b a h z y r f = search (rules, append_assoc)

pub assoc_staged : (m i j h w r : List ℕ) → (m ++ ((i ++ j) ++ h)) ++ (w ++ r) ≡ m ++ (i ++ (j ++ (h ++ (w ++ r))))
assoc_staged m i j h w r = search (rules, append_assoc)

pub assoc_flipped : (m k j h b : List ℕ) → m ++ (k ++ (j ++ (h ++ b))) ≡ (m ++ k) ++ ((j ++ h) ++ b)
assoc_flipped m k j h b = search (rules, append_assoc)

pub assoc_new : (m b k v w t q y a f : List ℕ) → t ++ q ≡ w → ((m ++ b) ++ k) ++ (v ++ (w ++ (y ++ (a ++ f)))) ≡ m ++ ((b ++ (((k ++ v) ++ (t ++ (q ++ y))) ++ a)) ++ f)
assoc_new m b k v w t q y a f is =
    let right : ((m ++ b) ++ k) ++ (v ++ ((t ++ q) ++ (y ++ (a ++ f)))) ≡ m ++ ((b ++ (((k ++ v) ++ (t ++ (q ++ y))) ++ a)) ++ f) = search (rules, append_assoc) in
    ap (λ (l : List ℕ). ((m ++ b) ++ k) ++ (v ++ (l ++ (y ++ (a ++ f))))) (sym is) ∙ right

module _ (front heads rest : List (Bool × Block)) (frames : List ℕ) (last : Bool) (new : Comments) (at preceding padding : ℕ) (plan : Change) (file : List ℕ) (s : HasRun front (heads ++ (last, block_of.Padding padding) ∷ []) rest frames at (preceding + 4 + padding) file) (p : IsAfter at preceding padding last new plan) where
  abbrev pub left : ℕ
  left = padding - (comments_length new + 8)

  abbrev pub run : List (Bool × Block)
  run = heads ++ (last, block_of.Padding padding) ∷ []

  abbrev pub news : List (Bool × Block)
  news = news_after preceding padding last new

  pub after_flips : Flips (front ++ (run ++ rest)) (front ++ (news ++ rest)) frames plan file
  after_flips =
      let W = plan.bytes.items in
      let H = plan.header.items in
      let n = length W in
      let whole : n + left ≡ padding = omega (arith, p.long, p.fits) in
      let d = split_blocks heads ((last, block_of.Padding padding) ∷ []) s.inside s.run_is in
      let a = d.0 in
      let one = d.3.0 in
      let pd : Padded last padding one = padded last padding one d.3.2.spelled in
      let h = pd.header in
      let F = s.marker ++ s.before in
      let X = take n pd.body in
      let Y = drop n pd.body in
      let R = s.after ++ frames in
      let x_long : length X ≡ n = length-take-le n pd.body (omega (arith, whole, pd.long)) in
      let y_long : length Y ≡ left = omega (arith, length-drop n pd.body, whole, pd.long) in
      let padding_is : d.1 ≡ h ++ (X ++ Y) =
      d.3.4 ∙ ap (λ (l : List ℕ). one ++ l) d.3.3 ∙ append-nil one ∙ pd.is ∙ ap (λ (l : List ℕ). h ++ l) (sym (take-append-drop n pd.body)) in
      let inside_is : s.inside ≡ a ++ (h ++ (X ++ Y)) = d.4 ∙ ap (λ (l : List ℕ). a ++ l) padding_is in
      let a_long : length a ≡ preceding =
      omega (arith, ap (λ (l : List ℕ). length l) inside_is, s.long, length-append a (h ++ (X ++ Y)), length-append h (X ++ Y), length-append X Y, pd.four, x_long, y_long, whole) in
      let I = take 4 a in
      let J = drop 4 a in
      let i_long : length I ≡ 4 = length-take-le 4 a (omega (arith, a_long, p.some)) in
      let j_long : length J + 4 ≡ preceding = omega (arith, length-drop 4 a, a_long, p.some) in
      let file_is : file ≡ (F ++ (a ++ h)) ++ (X ++ (Y ++ R)) = s.is ∙ ap (λ (l : List ℕ). s.marker ++ (s.before ++ (l ++ R))) inside_is ∙ assoc_old s.marker s.before a h X Y R in
      let w_at : length (F ++ (a ++ h)) ≡ plan.at = omega (arith, length-append F (a ++ h), length-append a h, s.begins, a_long, pd.four, p.bytes_at) in
      let k = n - 4 in
      let spelled_long : 8 * n ≡ length (block_spelling false (block_of.VorbisComment new)) + 32 =
      omega (arith, length-bits_of W, ap (λ (l : List Bool). length l) p.spelled, length-append (block_spelling false (block_of.VorbisComment new)) (header_spelling last 1 left), length-header last 1 left) in
      let block_long : length (block_spelling false (block_of.VorbisComment new)) ≡ 8 * k = omega (arith, spelled_long) in
      let parts = front_bytes W (block_spelling false (block_of.VorbisComment new)) (header_spelling last 1 left) k block_long p.spelled in
      let T = take k W in
      let Q = drop k W in
      record {
        old = λ c torn.
            let t = torn_inside (F ++ (a ++ h)) X (Y ++ R) c plan.at n w_at x_long (subst (λ (f : List ℕ). Torn plan.at n f c) file_is torn) in
            let Z = t.0 in
            let long : length (Z ++ Y) ≡ padding = omega (arith, length-append Z Y, t.1, y_long, whole) in
            record {
              marker = s.marker;
              marker_is = s.marker_is;
              head = s.before ++ ((a ++ (h ++ (Z ++ Y))) ++ s.after);
              file_is = t.2 ∙ assoc_head s.marker s.before a h Z Y s.after frames;
              spelled = append_blocks front (run ++ rest) s.before ((a ++ (h ++ (Z ++ Y))) ++ s.after) s.front_is
                  (append_blocks run rest (a ++ (h ++ (Z ++ Y))) s.after
                  (append_blocks heads ((last, block_of.Padding padding) ∷ []) a (h ++ (Z ++ Y)) d.2 (one_block (last, block_of.Padding padding) (h ++ (Z ++ Y)) (any_padding last padding h (Z ++ Y) long pd.bits d.3.2.short)))
                  s.rest_is);
            };
        new = λ staged flipped c holds turn torn.
            let staged_is : staged ≡ F ++ (I ++ (J ++ (h ++ (W ++ (Y ++ R))))) =
            holds_inside (F ++ (a ++ h)) X (Y ++ R) W staged plan.at w_at (sym x_long) (subst (λ (f : List ℕ). Holds f plan.at W staged) file_is holds)
            ∙ ap (λ (l : List ℕ). (F ++ (l ++ h)) ++ (W ++ (Y ++ R))) (sym (take-append-drop 4 a))
            ∙ assoc_staged F I J h W (Y ++ R) in
            let flipped_is : flipped ≡ (F ++ H) ++ ((J ++ h) ++ (W ++ (Y ++ R))) =
            holds_inside F I (J ++ (h ++ (W ++ (Y ++ R)))) H flipped plan.header_at (s.begins ∙ sym p.header_at) (p.header ∙ sym i_long) (subst (λ (f : List ℕ). Holds f plan.header_at H flipped) staged_is turn)
            ∙ assoc_flipped F H J h (W ++ (Y ++ R)) in
            let z_at : length (F ++ H) ≡ plan.zeros_at = omega (arith, length-append F H, s.begins, p.header, p.zeros_at) in
            let z_long : length (J ++ h) ≡ length plan.zeros.items = omega (arith, length-append J h, j_long, pd.four, p.zeros) in
            let t = torn_inside (F ++ H) (J ++ h) (W ++ (Y ++ R)) c plan.zeros_at (length plan.zeros.items) z_at z_long (subst (λ (f : List ℕ). Torn plan.zeros_at (length plan.zeros.items) f c) flipped_is torn) in
            let V = t.0 in
            record {
              marker = s.marker;
              marker_is = s.marker_is;
              head = s.before ++ (((H ++ V) ++ (T ++ (Q ++ Y))) ++ s.after);
              file_is = t.2 ∙ assoc_new s.marker s.before H V W T Q Y s.after frames (take-append-drop k W);
              spelled = append_blocks front (news ++ rest) s.before (((H ++ V) ++ (T ++ (Q ++ Y))) ++ s.after) s.front_is
                  (append_blocks news rest ((H ++ V) ++ (T ++ (Q ++ Y))) s.after
                  (more_blocks (false, block_of.Padding preceding) ((false, block_of.VorbisComment new) ∷ (last, block_of.Padding left) ∷ []) (H ++ V) (T ++ (Q ++ Y)) (any_padding false preceding H V (t.1 ∙ p.zeros) p.header_is p.small)
                  (more_blocks (false, block_of.VorbisComment new) ((last, block_of.Padding left) ∷ []) T (Q ++ Y) (comments_one new T parts.0 p.short)
                  (one_block (last, block_of.Padding left) (Q ++ Y) (any_padding last left Q Y y_long parts.1 (left_small padding left d.3.2.short whole)))))
                  s.rest_is);
            };
      }
    where
      left_small : (padding left : ℕ) → padding ≤ 16777215 → length plan.bytes.items + left ≡ padding → left ≤ 16777215
      left_small padding left small whole = omega (arith, small, whole)
