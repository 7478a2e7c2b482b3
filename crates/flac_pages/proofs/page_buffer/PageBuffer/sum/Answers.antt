use Rattle.std.proofs.Common.{◌≡◌, ◌∙◌, List, ℕ, refl, ap}
use Rattle.flac_pages.specs.declared.page.Head.{Head}
use Rattle.flac_pages.specs.Page.{Page, page_sum}
use Rattle.flac_pages.proofs.page_buffer.PageBuffer.sum.Goals as goal

same : (p : Page) (h : Head) (l b : List ℕ) → h ≡ p.head → l ≡ p.lacing → b ≡ p.body → page_sum (record { head = h; lacing = l; body = b }) ≡ page_sum p
same p h l b e f g = rw (e, f, g) refl

pub returns : goal.returns
returns c = c.page_checksum.ensures ∙ same c.args.self.now _ _ _ (ap (λ (p : Page). p.head) c.self.view_is) c.lacing.ensures.values c.body.ensures.bytes
