use Rattle.std.proofs.Common.{◌≡◌, ◌+◌, ◌<◌, [], ◌∷◌, ◌++◌, None, true, false, length, drop, get_or, refl, sym, ap, ◌∙◌, arith, rules}
use Rattle.flac_edit.specs.Lines.{escape_at, is_itself, bytes_after}
use Rattle.flac_edit.proofs.LinesRead.{escape_next, itself_next, wrong_byte}
use Rattle.flac_edit.proofs.lines.unescaped.Goals as goal

pub loop-i-preserved-in-Some : goal.loop-i-preserved-in-Some
loop-i-preserved-in-Some c =
    let line = c.args.line.now in
    let i = c.loop-i.i in
    ap (λ b. bytes_after b 0 (drop (i + 4) line)) c.in_ok-push-in-Some.ensures.items
    ∙ (sym (escape_next line c.loop-i.bytes.items (drop i line) i c.in-Some.byte refl (sym c.escape_of.ensures.value ∙ c.in-Some.is)) ∙ c.loop-i.invariant)

pub returns-then-not-is_itself : goal.returns-then-not-is_itself
returns-then-not-is_itself c =
    let line = c.args.line.now in
    let i = c.loop-i.i in
    let below : i < length line = omega arith in
    let none : escape_at (drop i line) ≡ None = sym c.escape_of.ensures.value ∙ c.in-None.is in
    let wrong : is_itself (get_or line i 0) ≡ false = search rules in
    sym (sym c.loop-i.invariant ∙ wrong_byte line c.loop-i.bytes.items (drop i line) i (get_or line i 0) below refl refl none wrong)

pub loop-i-preserved : goal.loop-i-preserved
loop-i-preserved c =
    let line = c.args.line.now in
    let i = c.loop-i.i in
    let below : i < length line = omega arith in
    let none : escape_at (drop i line) ≡ None = sym c.escape_of.ensures.value ∙ c.in-None.is in
    let itself : is_itself (get_or line i 0) ≡ true = search rules in
    let pushed : c.push-in-None.new.self.items ≡ c.loop-i.bytes.items ++ get_or line i 0 ∷ [] = c.in_ok-push-in-None.ensures.items in
    ap (λ b. bytes_after b 0 (drop (i + 1) line)) pushed
    ∙ (sym (itself_next line c.loop-i.bytes.items (drop i line) i (get_or line i 0) below refl refl none itself) ∙ c.loop-i.invariant)
