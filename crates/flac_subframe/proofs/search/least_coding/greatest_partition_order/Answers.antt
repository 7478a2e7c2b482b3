use Rattle.std.proofs.Common.{arith, inl, inr}
use Rattle.std.proofs.lemmas.Bool.{cases_lt}
use Rattle.flac_subframe.specs.search.inner.Halves.{Halves}
use Rattle.flac_subframe.proofs.lemmas.search.Splits.{halves_at}
use Rattle.flac_subframe.proofs.search.least_coding.greatest_partition_order.Goals as goal
use Rattle.flac_subframe.proofs.search.least_coding.greatest_partition_order.Goals.{then-block-power-ne0-via-then-block-power-ne0, then-block-power-ne0-via-else-block-power-ne0+then-block-next}

pub returns-then-block-power-ne0-clause-greatest : goal.returns-then-block-power-ne0-clause-greatest
returns-then-block-power-ne0-clause-greatest c = λ p le h.
    elim (cases_lt p c.loop-next.next) [
      | inl b ↦ omega arith
      | inr b ↦
          let at : Halves c.args.order c.args.values.now c.loop-next.next = halves_at c.args.order c.args.values.now p c.loop-next.next b h in
          absurd (elim c.then-block-power-ne0.branch [
            | then-block-power-ne0-via-then-block-power-ne0 w ↦ w.if-block-power-ne0.true (rw c.power.ensures at.even)
            | then-block-power-ne0-via-else-block-power-ne0+then-block-next w ↦ omega (arith, at.room, w.if-block-next.true)
          ])
    ]
