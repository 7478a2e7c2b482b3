use Rattle.std.proofs.lemmas.Result.{on_ok_weaker}
use Rattle.flac_bits.proofs.Handing.{calmer}
use Rattle.flac_ogg.proofs.decoding.decode_as.Goals as goal

pub returns-then-is_ogg-clause-hands : goal.returns-then-is_ogg-clause-hands
returns-then-is_ogg-clause-hands g c = λ known receives. rw c.if-is_ogg.true (calmer _ _ (λ q. q.0) (c.decode_ogg.ensures.hands known receives))

pub returns-else-is_ogg-clause-hands : goal.returns-else-is_ogg-clause-hands
returns-else-is_ogg-clause-hands g c = λ known receives. rw c.if-is_ogg.false (c.decode.ensures.hands known receives)

pub returns-else-is_ogg-clause-counted : goal.returns-else-is_ogg-clause-counted
returns-else-is_ogg-clause-counted g c = on_ok_weaker c.decode.result (λ q. q.0) c.decode.ensures.counted

pub returns-else-is_ogg-clause-raised : goal.returns-else-is_ogg-clause-raised
returns-else-is_ogg-clause-raised g c = on_ok_weaker c.decode.result (λ q. q.1) c.decode.ensures.counted
