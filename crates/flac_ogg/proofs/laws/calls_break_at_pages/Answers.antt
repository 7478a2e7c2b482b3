use Rattle.flac_ogg.proofs.Arriving.{calls_at_pages}
use Rattle.flac_ogg.proofs.laws.calls_break_at_pages.Goals as goal

pub returns : goal.returns
returns g c = calls_at_pages _ (λ k. k.pages) (λ k known. known) (λ k p items end come. come) (λ k p at why breaks. breaks) (λ a b gave. gave) (λ a b why broke. broke)
