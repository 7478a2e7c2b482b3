use Rattle.flac_cli.proofs.Outcomes.{same_or_begun}
use Rattle.flac_native.specs.Seeking.{repeats_table}
use Rattle.flac_ogg.specs.Writing.{may_be_ogg}
use Rattle.flac_cli.proofs.Refused.{native_accepts, native_refuses, ogg_accepts, ogg_refuses}
use Rattle.flac_cli.proofs.encode.write_stream.Goals as goal

pub returns-in-Native-clause-written : goal.returns-in-Native-clause-written
returns-in-Native-clause-written g c = rw c.in-Native.is c.encode.ensures.written

pub returns-in-Native-clause-begun : goal.returns-in-Native-clause-begun
returns-in-Native-clause-begun g c = rw c.in-Native.is (same_or_begun _ _ c.encode.result _ _ c.encode.ensures.begun c.encode.ensures.kept)

pub returns-in-Ogg-clause-written : goal.returns-in-Ogg-clause-written
returns-in-Ogg-clause-written g c = rw c.in-Ogg.is c.encode_ogg.ensures.written

pub returns-in-Ogg-clause-begun : goal.returns-in-Ogg-clause-begun
returns-in-Ogg-clause-begun g c = rw c.in-Ogg.is (same_or_begun _ _ c.encode_ogg.result _ _ c.encode_ogg.ensures.begun c.encode_ogg.ensures.kept)

pub returns-in-Native-clause-accepted : goal.returns-in-Native-clause-accepted
returns-in-Native-clause-accepted g c = rw c.in-Native.is (native_accepts c.encode.result (repeats_table c.args.plan.now c.args.list.now) c.encode.ensures.repeated)

pub returns-in-Native-clause-refused : goal.returns-in-Native-clause-refused
returns-in-Native-clause-refused g c = rw c.in-Native.is (native_refuses c.encode.result (repeats_table c.args.plan.now c.args.list.now) c.encode.ensures.repeated c.encode.ensures.mapping c.encode.ensures.whole)

pub returns-in-Ogg-clause-accepted : goal.returns-in-Ogg-clause-accepted
returns-in-Ogg-clause-accepted g c = rw c.in-Ogg.is (ogg_accepts c.encode_ogg.result (may_be_ogg c.args.plan.now c.args.list.now) c.encode_ogg.ensures.mapping)

pub returns-in-Ogg-clause-refused : goal.returns-in-Ogg-clause-refused
returns-in-Ogg-clause-refused g c = rw c.in-Ogg.is (ogg_refuses c.encode_ogg.result (may_be_ogg c.args.plan.now c.args.list.now) c.encode_ogg.ensures.mapping c.encode_ogg.ensures.repeated c.encode_ogg.ensures.whole)
