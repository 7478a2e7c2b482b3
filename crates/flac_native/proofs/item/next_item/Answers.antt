use Rattle.std.proofs.Common.{◌≡◌, true, [], ◌∷◌, Ok, Some, inl, inr, refl, sym, ap, subst, ◌∙◌}
use Rattle.std.proofs.lemmas.Result.{IfOk-weaker, IfErr-weaker}
use Rattle.flac_native.specs.declared.track.Phase.TheVariants.{Opening, Frames}
use Rattle.flac_native.specs.Stream.{Stand, marked, next}
use Rattle.flac_bits.specs.State.{without_fence}
use Rattle.flac_bits.specs.Handing.{IsOutside, reason_of}
use Rattle.flac_native.specs.Item.{fault_pair}
use Rattle.flac_native.specs.Giving.{IsFirst, BreaksOff, seen_by, found}
use Rattle.flac_native.specs.declared.container.Part.TheVariants as part
use Rattle.flac_native.proofs.Giving.{item_first, after_marker, inside, made_as, made_after, in_order, marker_before}
use Rattle.flac_native.proofs.Handed.{no_fault}
use Rattle.flac_native.proofs.Passing.{passes_none, passes_one, passes_found, ok_inside, err_both}
use Rattle.flac_native.proofs.SameStart.{less_at, most_at, rises_at}
use Rattle.flac_native.proofs.item.next_item.Goals as goal

opening_frames : Opening ≡ Frames → ⊥
opening_frames e = absurd cc

pub returns-clause-stands : goal.returns-clause-stands
returns-clause-stands g c = c.next-outcome.ensures.stands

pub returns-clause-counts : goal.returns-clause-counts
returns-clause-counts g c =
    let ens = c.next-outcome.ensures in
    record { met = ens.counts; kept = ens.kept; read = ens.read; risen = ens.risen; output = ens.output; after = ens.after; names = ens.names }

pub returns-clause-memory : goal.returns-clause-memory
returns-clause-memory g c = c.next-outcome.ensures.memory

pub returns-then-is_marker-clause-stands : goal.returns-then-is_marker-clause-stands
returns-then-is_marker-clause-stands g c = c.next.ensures.stands

pub returns-then-is_marker-clause-counts : goal.returns-then-is_marker-clause-counts
returns-then-is_marker-clause-counts g c =
    let first = rw (c.is_marker.ensures.is c.if-is_marker.true) at c.next-outcome.ensures in
    let at = first.counts in
    let r = c.next.result in
    let ens = c.next.ensures in
    record {
      met = IfOk-weaker r _ _ (λ o counts. (λ known. counts.0 (at.0 known), counts.1 ∙ at.1, counts.2 ∙ at.2, counts.3 ∙ at.3)) ens.counts;
      kept = most_at _ _ _ at.1 ens.kept;
      read = IfErr-weaker r _ _ (λ f read known is clear. less_at _ _ _ at.2 (read (at.0 known) is (first.clear known clear))) ens.read;
      risen = IfErr-weaker r _ _ (λ f risen is. rises_at _ _ _ at.3 (risen is)) ens.risen;
      output = ens.output;
      after = λ known same. ens.after (at.0 known) (same ∙ sym at.1) ∙ ap without_fence (first.after known at.1);
      names = ens.names ∙ first.names;
    }

pub returns-then-is_marker-clause-memory : goal.returns-then-is_marker-clause-memory
returns-then-is_marker-clause-memory g c =
    let first = rw (c.is_marker.ensures.is c.if-is_marker.true) at c.next-outcome.ensures in
    λ is. absurd (opening_frames (sym first.made.0 ∙ is))

pub returns-clause-gives : goal.returns-clause-gives
returns-clause-gives g c = λ p at known same quiet room items end still.
    let result = c.next-outcome.result in
    let ens = c.next-outcome.ensures in
    let now = c.next-outcome.new in
    let C = g.C.Container in
    subst (λ i. IsFirst (C.gives now.self) i end (seen_by (found now.track) result) now.track) (sym still.1)
    (item_first (C.gives now.self) p now.track result
    (inside result (λ y is made. made_as c.args.track.now now.track y (λ e. c.is_marker.ensures.other c.if-is_marker.false (is ∙ ap (λ k. Ok (Some k)) e)) made) ens.made)
    (inside result (λ y is noted. noted p at) ens.next) still.0 end (ens.gives p at known same quiet room still.0 end still.2))

pub returns-then-is_marker-clause-gives : goal.returns-then-is_marker-clause-gives
returns-then-is_marker-clause-gives g c = λ p at known same quiet room items end still.
    let C = g.C.Container in
    let first = rw (c.is_marker.ensures.is c.if-is_marker.true) at c.next-outcome.ensures in
    let mid = c.next-outcome.new in
    let told = first.counts.0 known in
    let stands = first.next p at in
    let later = after_marker (C.gives mid.self) p mid.track still.0 end (first.gives p at known first.counts.1 first.counts.2 (no_fault (Some _)) still.0 end still.2) in
    let result = c.next.result in
    let second = c.next.ensures in
    let now = c.next.new in
    subst (λ i. IsFirst (C.gives now.self) i end (seen_by (found now.track) result) now.track) (sym (still.1 ∙ later.1))
    (item_first (C.gives now.self) (next p marked) now.track result
    (inside result (λ y is made. made_after mid.track now.track y first.made.1 made) second.made)
    (inside result (λ y is noted. noted (next p marked) stands) second.next) later.0 end
    (second.gives (next p marked) stands told (same ∙ sym first.counts.1) (quiet ∙ sym first.counts.2) room later.0 end later.2))

pub returns-clause-ordered : goal.returns-clause-ordered
returns-clause-ordered g c =
    let result = c.next-outcome.result in
    let now = c.next-outcome.new in
    let ens = c.next-outcome.ensures in
    in_order c.args.track.now now.track result
    (inside result (λ y is made. made_as c.args.track.now now.track y (λ e. c.is_marker.ensures.other c.if-is_marker.false (is ∙ ap (λ k. Ok (Some k)) e)) made) ens.made) ens.ordered

pub returns-then-is_marker-clause-ordered : goal.returns-then-is_marker-clause-ordered
returns-then-is_marker-clause-ordered g c =
    let first = rw (c.is_marker.ensures.is c.if-is_marker.true) at c.next-outcome.ensures in
    let mid = c.next-outcome.new in
    let result = c.next.result in
    let now = c.next.new in
    let ens = c.next.ensures in
    marker_before c.args.track.now mid.track now.track result first.made.0 first.made.1
    (in_order mid.track now.track result (inside result (λ y is made. made_after mid.track now.track y first.made.1 made) ens.made) ens.ordered)

pub returns-clause-passes : goal.returns-clause-passes
returns-clause-passes g c = λ p at.
    let C = g.C.Container in
    let old = c.args.container.now in
    let now = c.next-outcome.new in
    let result = c.next-outcome.result in
    let ens = c.next-outcome.ensures in
    passes_found C p [] old old now.self now.track result (inl refl) (passes_none C p old) ens.gave
    (IfOk-weaker result _ (λ _. C.known old ≡ true → C.known now.self ≡ true) (λ o counts. counts.0) ens.counts)
    (ok_inside result (λ o is counts known all end come. ens.gives p at known counts.1 counts.2 (λ e. no_fault o (ap (reason_of fault_pair) (sym is) ∙ e)) all end come) ens.counts)
    (inside result (λ y is noted. noted p at) ens.next)

pub returns-then-is_marker-clause-passes : goal.returns-then-is_marker-clause-passes
returns-then-is_marker-clause-passes g c = λ p at.
    let C = g.C.Container in
    let old = c.args.container.now in
    let first = rw (c.is_marker.ensures.is c.if-is_marker.true) at c.next-outcome.ensures in
    let mid = c.next-outcome.new in
    let now = c.next.new in
    let result = c.next.result in
    let ens = c.next.ensures in
    let stands = first.next p at in
    let opens : p.stand.phase ≡ Opening = ap (λ (s : Stand). s.phase) (sym at.stand) ∙ first.made.0 in
    passes_found C p (marked ∷ []) old mid.self now.self now.track result (inr (opens, refl))
    (passes_one C p old mid.self mid.track part.Marker first.gave first.counts.0 (λ known all end come. first.gives p at known first.counts.1 first.counts.2 (no_fault (Some part.Marker)) all end come)) ens.gave
    (IfOk-weaker result _ (λ _. C.known mid.self ≡ true → C.known now.self ≡ true) (λ o counts. counts.0) ens.counts)
    (ok_inside result (λ o is counts known all end come. ens.gives (next p marked) stands known counts.1 counts.2 (λ e. no_fault o (ap (reason_of fault_pair) (sym is) ∙ e)) all end come) ens.counts)
    (inside result (λ y is noted. noted (next p marked) stands) ens.next)

pub returns-clause-broken : goal.returns-clause-broken
returns-clause-broken g c = λ p at.
    let C = g.C.Container in
    let old = c.args.container.now in
    let now = c.next-outcome.new.self in
    let result = c.next-outcome.result in
    err_both result (λ f. IsOutside f.why → C.breaks now p f.at f.why) (λ f. IsOutside f.why → C.broke old now f.why) (λ f. IsOutside f.why → BreaksOff C p old now f)
    (λ f told broke out. record { front = []; before = inl refl; first = λ known all end come. (all, refl); after = (told out, (old, refl, broke out)) })
    (c.next-outcome.ensures.broken p at) c.next-outcome.ensures.broke

pub returns-then-is_marker-clause-broken : goal.returns-then-is_marker-clause-broken
returns-then-is_marker-clause-broken g c = λ p at.
    let C = g.C.Container in
    let old = c.args.container.now in
    let first = rw (c.is_marker.ensures.is c.if-is_marker.true) at c.next-outcome.ensures in
    let mid = c.next-outcome.new in
    let now = c.next.new.self in
    let opens : p.stand.phase ≡ Opening = ap (λ (s : Stand). s.phase) (sym at.stand) ∙ first.made.0 in
    let marker = passes_one C p old mid.self mid.track part.Marker first.gave first.counts.0 (λ known all end come. first.gives p at known first.counts.1 first.counts.2 (no_fault (Some part.Marker)) all end come) in
    err_both c.next.result (λ f. IsOutside f.why → C.breaks now (next p marked) f.at f.why) (λ f. IsOutside f.why → C.broke mid.self now f.why) (λ f. IsOutside f.why → BreaksOff C p old now f)
    (λ f told broke out. record { front = marked ∷ []; before = inr (opens, refl); first = λ known all end come. let k = marker.first known all end come in (k.0, k.1); after = (told out, (mid.self, marker.gave, broke out)) })
    (c.next.ensures.broken (next p marked) (first.next p at)) c.next.ensures.broke
