use Rattle.std.proofs.Common.{arith, refl, ◌+◌}
use Rattle.flac_subframe.specs.format.Cost.{parameter_bits_of}
use Rattle.flac_subframe.proofs.lemmas.format.Methods.{four_or_five}
use Rattle.flac_subframe.proofs.lemmas.search.Splits.{halves_at}
use Rattle.flac_subframe.proofs.lemmas.search.Orders.{halved_cost, first_order, order_kept, order_taken, all_orders}
use Rattle.flac_subframe.proofs.search.least_coding.best_order.Goals as goal
use Rattle.flac_subframe.proofs.search.least_coding.best_order.Goals.{then-bits-best, else-bits-best}

pub loop-partition_order-init : goal.loop-partition_order-init
loop-partition_order-init c =
    let w = parameter_bits_of c.args.method in let rs = c.args.residual.now.values.now in let order = c.args.residual.now.order in let h = c.args.residual.now.partition_order in
    let halves = halves_at order rs h 0 (omega arith) c.args.residual.now.halves in
    let here = halved_cost w 0 h order rs (four_or_five c.args.method) (omega arith) halves c.total.result c.total.ensures.least in
    record {
      method = refl;
      within = omega arith;
      least = first_order w h order rs (6 + c.total.result) 0 0 here;
      here = here;
      small = omega arith;
    }

pub loop-partition_order-preserved : goal.loop-partition_order-preserved
loop-partition_order-preserved c =
    let w = parameter_bits_of c.args.method in let rs = c.args.residual.now.values.now in let order = c.args.residual.now.order in let h = c.args.residual.now.partition_order in
    let p = c.loop-partition_order.partition_order in let so = c.loop-partition_order.invariant in
    let halves = halves_at order rs h p (omega arith) c.args.residual.now.halves in
    let here = halved_cost w p h order rs (four_or_five c.args.method) (omega arith) halves c.total-bits.result c.total-bits.ensures.least in
    elim c.if-bits-best.branch [
      | then-bits-best x ↦ rw x.best-is (record {
        method = refl;
        within = omega arith;
        least = order_taken w h order rs c.loop-partition_order.best.bits (6 + c.total-bits.result) p so.least here x.if-bits-best.true;
        here = here;
        small = omega arith;
      })
      | else-bits-best x ↦ rw x.best-is (record {
        method = so.method;
        within = so.within;
        least = order_kept w h order rs c.loop-partition_order.best.bits (6 + c.total-bits.result) p so.least here x.if-bits-best.false;
        here = so.here;
        small = so.small;
      })
    ]

pub returns-clause-least : goal.returns-clause-least
returns-clause-least c = all_orders (parameter_bits_of c.args.method) c.args.residual.now.partition_order c.args.residual.now.order c.args.residual.now.values.now c.loop-partition_order.best.bits 0 c.loop-partition_order.partition_order (omega arith) c.loop-partition_order.invariant.least
