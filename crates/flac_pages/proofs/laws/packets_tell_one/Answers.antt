use Rattle.std.proofs.Common.{ℕ, List, Option, None, Result, subst}
use Rattle.flac_bits.specs.Layout.{bits}
use Rattle.flac_bits.specs.Lists.{list_of}
use Rattle.flac_bits.specs.declared.why.Why.{Why}
use Rattle.flac_pages.specs.Packets.{after_of}
use Rattle.flac_pages.specs.Items.{packet_of, packet_mark, TellsItem}
use Rattle.flac_pages.proofs.ItemMeaning.{item_means, tells_one}
use Rattle.flac_pages.proofs.ItemReading.{short_is}
use Rattle.flac_pages.proofs.laws.packets_tell_one.Goals as goal

pub returns : goal.returns
returns c = λ n p result.
    let l = list_of n (bits 8) in
    let short = short_is (after_of p).fails (after_of p).cut in (
      tells_one None l (packet_mark p) (packet_of p) result short,
      λ e. subst (λ (r : Result (List ℕ) (Option ℕ × Why)). TellsItem (λ x. x) None l (packet_mark p) (packet_of p) r) e (item_means None l (packet_mark p) (packet_of p) short),
    )
