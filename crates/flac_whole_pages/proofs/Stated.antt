-- What a page states is determined by its bytes.
use Rattle.std.proofs.Common.{◌≡◌, ℕ, ◌+◌, List, sym, ap, subst, ◌∙◌}
use Rattle.std.specs.List.{sum}
use Rattle.flac_whole_pages.specs.Standing.{between, IsStated, Stands}
use Rattle.flac_whole_pages.specs.declared.page_at.WholePage.{WholePage}

same_page : (p q : WholePage) → p.at ≡ q.at → p.serial ≡ q.serial → p.body ≡ q.body → p.end ≡ q.end → p ≡ q
same_page p q a s b e =
    let at : ℕ → WholePage = λ k. record { at = k; serial = p.serial; body = p.body; end = p.end } in
    let serial : ℕ → WholePage = λ k. record { at = q.at; serial = k; body = p.body; end = p.end } in
    let body : ℕ → WholePage = λ k. record { at = q.at; serial = q.serial; body = k; end = p.end } in
    let end : ℕ → WholePage = λ k. record { at = q.at; serial = q.serial; body = q.body; end = k } in
    ap at a ∙ ap serial s ∙ ap body b ∙ ap end e

module _ (bytes : List ℕ) (at : ℕ) (p q : WholePage) where
  pub same_stated : IsStated bytes at p → IsStated bytes at q → p ≡ q
  same_stated a b =
      let body : p.body ≡ q.body = a.body ∙ sym b.body in
      same_page p q (a.is ∙ sym b.is) (a.serial ∙ sym b.serial) body
      (a.end ∙ ap (λ k. k + sum (between (at + 27) k bytes)) body ∙ sym b.end)

  -- a page that stands there states what is there
  pub stated_there : p.at ≡ at → Stands bytes p → IsStated bytes at p
  stated_there is there = subst (λ k. IsStated bytes k p) is there.stated

-- two pages that stand at one offset are one
pub same_standing : (bytes : List ℕ) (p q : WholePage) → p.at ≡ q.at → Stands bytes p → Stands bytes q → p ≡ q
same_standing bytes p q is a b = same_stated bytes q.at p q (stated_there bytes q.at p q is a) b.stated
