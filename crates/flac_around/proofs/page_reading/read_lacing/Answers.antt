use Rattle.std.proofs.Common.{◌≡◌, ◌≤◌, ◌+◌, ◌-◌, ◌++◌, append_assoc, ℕ, List, true, length, take, sym, ap, subst, ◌∙◌, arith}
use Rattle.std.proofs.lemmas.List.{length-append, length-take-le, length-drop, get_or-take}
use borrow.Rule.Slice.PartMut.{put_mid}
use Rattle.flac_bits.proofs.Copied.{put_taken}
use Rattle.flac_around.specs.EmptyPackets.{count_at, begins_page}
use Rattle.flac_around.specs.inner.Pages.{IsLead}
use Rattle.flac_around.proofs.EmptyPages.{begins_front, count_front, lead_cut, cut_plain}
use Rattle.flac_around.proofs.Pulls.{fails_of}
use Rattle.flac_around.proofs.Sourced.{from_start, few_came, ends_so}
use Rattle.flac_around.proofs.page_reading.read_lacing.Goals as goal

first : (lead : List ℕ) → length lead ≡ 282 → length (take 27 lead) ≡ 27
first lead room = length-take-le 27 lead (omega (arith, room))

count_first : (lead : List ℕ) → count_at (take 27 lead) ≡ count_at lead
count_first lead = get_or-take 27 lead 26 0 (omega arith)

-- all lacing values came
whole_lead : (lead more : List ℕ) → length lead ≡ 282 → begins_page (take 27 lead) ≡ true → length more ≡ count_at lead → IsLead (take 27 lead ++ more)
whole_lead lead more room begins all =
    let long = first lead room in
    record {
      begins = begins_front (take 27 lead) more (omega (arith, long)) ∙ begins;
      count = omega (arith, long, all, length-append (take 27 lead) more, count_front (take 27 lead) more (omega (arith, long)), count_first lead);
    }

put_front : (k n : ℕ) (lead new : List ℕ) → length lead ≡ 282 → n ≤ length new → take (27 + n) (put_mid 27 k lead new) ≡ take 27 lead ++ take n new
put_front k n lead new room few = put_taken 27 k n lead new (omega (arith, room)) few

came : (places new coming later lead : List ℕ) (k n : ℕ) → length lead ≡ 282 → n ≤ length new → take 0 places ++ coming ≡ take n new ++ later → take 27 lead ++ coming ≡ take (27 + n) (put_mid 27 k lead new) ++ later
came places new coming later lead k n room few is =
    ap (λ l. take 27 lead ++ l) (from_start places coming _ is) ∙ sym (append_assoc (take 27 lead) (take n new) later) ∙ ap (λ l. l ++ later) (sym (put_front k n lead new room few))

pub returns-in-Err-clause-fails : goal.returns-in-Err-clause-fails
returns-in-Err-clause-fails g c =
    let lead = c.args.lead.now in
    fails_of g.S.Source (λ few. lead_cut (take 27 lead) _ (first lead c.requires.room) c.requires.begins (omega (arith, few, count_first lead, c.from-count.ensures))) c.in-Err.ensures.fails

pub returns-then-more-count-clause-bytes : goal.returns-then-more-count-clause-bytes
returns-then-more-count-clause-bytes g c = λ known.
    came c.args.lead.now c.fill.new.places (g.S.Source.coming c.args.source.now) (g.S.Source.coming c.fill.new.source) c.args.lead.now (length c.args.lead.now - 27) c.in-Ok.more c.requires.room (omega (arith, c.requires.room, c.in-Ok.ensures.few, length-drop 27 c.args.lead.now)) (c.in-Ok.ensures.bytes known)

pub returns-then-more-count-clause-part : goal.returns-then-more-count-clause-part
returns-then-more-count-clause-part g c = λ part known.
    let lead = c.args.lead.now in
    let over = c.in-Ok.ensures.end c.if-more-count.true known in
    let few = few_came c.in-Ok.more c.fill.new.places _ _ (from_start c.args.lead.now (g.S.Source.coming c.args.source.now) _ (c.in-Ok.ensures.bytes known)) over.0 in
    cut_plain _ _ (lead_cut (take 27 lead) _ (first lead c.requires.room) c.requires.begins (omega (arith, few, c.if-more-count.true, count_first lead, c.from-count.ensures)))
    (ends_so _ _ (c.in-Ok.ensures.goes.after known) over.1)

pub returns-clause-bytes : goal.returns-clause-bytes
returns-clause-bytes g c = λ known.
    came c.args.lead.now c.fill.new.places (g.S.Source.coming c.args.source.now) (g.S.Source.coming c.fill.new.source) c.args.lead.now (length c.args.lead.now - 27) c.in-Ok.more c.requires.room (omega (arith, c.requires.room, c.in-Ok.ensures.few, length-drop 27 c.args.lead.now)) (c.in-Ok.ensures.bytes known)

pub returns-clause-whole : goal.returns-clause-whole
returns-clause-whole g c = λ all.
    let lead = c.args.lead.now in
    let n = c.in-Ok.more in
    let room : n ≤ length c.fill.new.places = omega (arith, c.requires.room, c.in-Ok.ensures.few, length-drop 27 lead) in
    let same : n ≡ count_at lead = omega (arith, c.in-Ok.ensures.few, c.if-more-count.false, c.from-count.ensures) in
    subst IsLead (sym (put_front (length lead - 27) n lead c.fill.new.places c.requires.room room))
    (whole_lead lead (take n c.fill.new.places) c.requires.room c.requires.begins (length-take-le n c.fill.new.places room ∙ same))
