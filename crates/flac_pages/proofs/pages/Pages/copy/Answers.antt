use Rattle.std.proofs.Common.{◌≡◌, ℕ, ◌+◌, ◌-◌, ◌≤◌, List, ◌++◌, drop, take, length, sym, ap, ◌∙◌, arith, length-drop}
use Rattle.std.proofs.Math.Seq.{take-append_seam}
use Rattle.std.proofs.lemmas.List.{length-take}
use Rattle.flac_pages.specs.Packets.{Place}
use Rattle.flac_pages.proofs.Stepping.{copied, drop_more}
use Rattle.flac_pages.proofs.pages.Pages.copy.Goals as goal

seam : (xs ys : List ℕ) (n : ℕ) → length xs ≡ n → take n (xs ++ ys) ≡ xs
seam xs ys n e = ap (λ k. take k (xs ++ ys)) (sym e) ∙ take-append_seam xs ys

pub returns-clause-copies : goal.returns-clause-copies
returns-clause-copies g c =
    let inside = c.self.inside in
    let is = c.self.view_is in
    let n = c.min-n.result in
    let at = inside.at in
    let small : n ≤ inside.rest = omega (arith, c.min-n.ensures) in
    let within : at + n ≤ length inside.page.body = omega (arith, c.self.invariant.2, small) in
    let all : at + n - at ≡ n = omega arith in
    let mid : c.copy_from_slice.new.self ≡ take n (drop at inside.page.body) = c.copy_from_slice.ensures.after ∙ ap (λ k. take k (drop at c.body.result.now)) all ∙ ap (λ bs. take n (drop at bs)) c.body.ensures.bytes in
    let long : length c.copy_from_slice.new.self ≡ n = omega (arith, c.copy_from_slice.ensures.len, length-take n c.args.out.now, c.min-n.ensures) in
    let body = ap (λ (p : Place). p.body) is in
    copied c.args.self.now _ _ n (omega (arith, small, ap (λ (p : Place). p.rest) is)) (omega (arith, ap length body, length-drop at inside.page.body, within))
    (seam c.copy_from_slice.new.self (drop n c.args.out.now) n long ∙ mid ∙ ap (take n) body)
    (ap (λ (p : Place). p.known) is) (ap (λ (p : Place). p.errors) is) (ap (λ (p : Place). p.raised) is) (ap (λ (p : Place). p.names) is) (ap (λ (p : Place). p.most) is) (ap (λ (p : Place). p.rest - n) is) (ap (λ (p : Place). p.more) is) (ap (λ (p : Place). p.lacing) is)
    (drop_more inside.page.body at n ∙ ap (drop n) body) (ap (λ (p : Place). p.last) is) (ap (λ (p : Place). p.before) is) (ap (λ (p : Place). p.count) is) (ap (λ (p : Place). p.cursor) is)
