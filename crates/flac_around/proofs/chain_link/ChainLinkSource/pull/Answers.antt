use Rattle.std.proofs.Common.{◌≡◌, ◌≤◌, length, take, drop, ℕ, List, ◌++◌, sym, ap, ◌∙◌}
use Rattle.std.specs.Prelude.{not}
use Rattle.std.proofs.lemmas.Bool.{and_parts}
use Rattle.std.proofs.lemmas.List.{take-append-le}
use Rattle.flac_around.specs.Chains.{past, up_to}
use Rattle.flac_around.specs.Walks.{end_for}
use Rattle.flac_around.proofs.ChainWalks.{passed_past, passed_up_to}
use Rattle.flac_around.proofs.chain_link.ChainLinkSource.pull.Goals as goal

-- the bytes that came, in their place
in_place : (n : ℕ) (new rest coming later : List ℕ) → n ≤ length new → coming ≡ take n new ++ later → coming ≡ take n (new ++ rest) ++ later
in_place n new rest coming later few is = is ∙ ap (λ l. l ++ later) (sym (take-append-le n new rest few))

pub invariant_of-self-clause-still : goal.invariant_of-self-clause-still
invariant_of-self-clause-still g c = λ calm known.
    let walk = c.args.self.now.walk in
    let still = c.args.self.now.still calm known in
    let coming = g.S.Source.coming c.args.self.now.source in
    let later = g.S.Source.coming c.pull.new.self in
    let bytes = take c.in-Ok.count (c.pull.new.buf ++ drop c.room-room.result c.args.buf.now) in
    let came = in_place c.in-Ok.count c.pull.new.buf (drop c.room-room.result c.args.buf.now) coming later c.in-Ok.ensures.bound.0 (c.in-Ok.ensures.bytes still.0) in
    let passed = ap (λ l. past (end_for walk l) l) came ∙ passed_past (end_for walk (bytes ++ later)) (end_for c.pass.new.self later) bytes later (c.pass.ensures later) in
    (c.in-Ok.ensures.known still.0, sym passed ∙ still.1)

pub returns-in-Ok-clause-bytes : goal.returns-in-Ok-clause-bytes
returns-in-Ok-clause-bytes g c = λ known.
    let walk = c.args.self.now.walk in
    let coming = g.S.Source.coming c.args.self.now.source in
    let later = g.S.Source.coming c.pull.new.self in
    let bytes = take c.in-Ok.count (c.pull.new.buf ++ drop c.room-room.result c.args.buf.now) in
    let known_source = (and_parts (g.S.Source.known c.args.self.now.source) (not c.args.self.now.failed) known).0 in
    let came = in_place c.in-Ok.count c.pull.new.buf (drop c.room-room.result c.args.buf.now) coming later c.in-Ok.ensures.bound.0 (c.in-Ok.ensures.bytes known_source) in
    ap (λ l. up_to (end_for walk l) l) came ∙ passed_up_to (end_for walk (bytes ++ later)) (end_for c.pass.new.self later) bytes later (c.pass.ensures later)
