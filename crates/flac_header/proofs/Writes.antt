-- The fields of a header with their check after them, as a writer writes them.
use Rattle.std.proofs.Common.{◌≡◌, ℕ, Bool, List, [], ◌∷◌, ◌++◌, Result, Ok, Err, refl, sym, ap, ◌∙◌, append_assoc}
use Rattle.std.proofs.lemmas.List.{append-nil}
use Rattle.flac_bits.specs.Bits.{unsigned}
use Rattle.flac_bits.specs.State.{Mark, past, fresh}
use Rattle.flac_bits.specs.Check.{remainder}
use Rattle.flac_bits.specs.Written.{Written, Fails, Adds, Restarts, Writes}
use Rattle.flac_bits.specs.inner.Written.{WritesParts, Wrote, after_parts}
use Rattle.flac_bits.specs.declared.why.Why.{Why}
use Rattle.flac_bits.proofs.Check.{check8_is}
use Rattle.flac_bits.proofs.Writing.{fails_later, fails_more, writes_then, parts_written, wrote_more, wrote_fails}
use Rattle.flac_header.specs.Header.{Header}
use Rattle.flac_header.specs.Spelling.{header_parts, header_front, header_spelling, restarted}

fresh_check : (m : Mark) → m.unread ≡ 0 → (fresh m).check8 ≡ 0
fresh_check m e = rw e refl

-- the target failed before anything was written
pub started_fails : {old new : Written} {e : Why} (h : Header) → Fails old.bits old new e → Fails ((restarted old).bits ++ header_spelling h) (restarted old) new e
started_fails {old = old} {new = new} {e = e} h f =
    let g : Fails (old.bits ++ header_spelling h) old new e = fails_more (header_spelling h) f in
    record { reason = g.reason; kept = g.kept; names = g.names; rises = g.rises; begun = g.begun; risen = g.risen }

-- the writer as it is after the beginning of the checks
begun : {old mid : Written} → Restarts old mid → Adds [] (restarted old) mid
begun {old = old} r = record { known = r.known; errors = r.errors; names = r.names; mark = r.mark; bits = λ k. r.bits k ∙ sym (append-nil old.bits) }

pub fields_fail : {old mid new : Written} {e : Why} (h : Header) → Restarts old mid → Fails (after_parts mid.bits (header_parts h)) mid new e → Fails ((restarted old).bits ++ header_spelling h) (restarted old) new e
fields_fail {old = old} {mid = mid} {new = new} {e = e} h r f =
    let joined_fails = parts_written {X = Unit {0}} (header_parts h) mid new (Err e) f in
    fails_later ((restarted old).bits ++ header_spelling h) r.known r.errors r.names (unsigned 8 (remainder 8 7 (header_front h)))
    (λ k. sym (append_assoc old.bits (header_front h) (unsigned 8 (remainder 8 7 (header_front h)))) ∙ ap (λ bs. bs ++ header_front h ++ unsigned 8 (remainder 8 7 (header_front h))) (sym (r.bits k))) joined_fails

pub written : {X : Type 0} (h : Header) (check : ℕ) (old mid end new : Written) (result : Result X Why) → old.mark.unread ≡ 0 → Restarts old mid → Wrote (header_parts h) mid end → check ≡ end.mark.check8
    → Writes (unsigned 8 check) end new result → Writes (header_spelling h) (restarted old) new result
written h check old mid end new result whole r w is last =
    let nothing : Unit {0} = tt in
    let front : Adds (header_front h) mid end = parts_written (header_parts h) mid end (Ok nothing) w in
    let mark : end.mark ≡ past (header_front h) (fresh old.mark) = front.mark ∙ ap (past (header_front h)) r.mark in
    let sum : check ≡ remainder 8 7 (header_front h) = is ∙ ap (λ (m : Mark). m.check8) mark ∙ check8_is (header_front h) (fresh old.mark) (fresh_check old.mark whole) in
    let fields = writes_then (unsigned 8 check) new result front last in
    let all = writes_then (header_front h ++ unsigned 8 check) new result (begun r) fields in
    rw (← sum) all

-- the last part
pub wrote_last : {X : Type 0} {parts : List (List Bool)} {old mid : Written} (last : List Bool) (new : Written) (result : Result X Why) → Wrote parts old mid → Writes last mid new result → WritesParts (parts ++ last ∷ []) old new result
wrote_last last new (Ok x) w a = wrote_more w a
wrote_last last new (Err e) w f = wrote_fails last [] w f
