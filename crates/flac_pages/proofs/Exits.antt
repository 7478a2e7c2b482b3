-- The exits of the calls of a reader of packets.
use Rattle.std.proofs.Common.{◌≡◌, ℕ, ◌<◌, ◌≤◌, Bool, true, false, cond, List, [], ◌∷◌, length, Option, Some, None, Result, Ok, Err, refl, sym, ap, subst, ◌∙◌, arith, ◌^◌}
use Rattle.std.specs.Prelude.{⊤, IfSome}
use Rattle.flac_bits.specs.declared.why.Why.{Why}
use Rattle.flac_pages.specs.Pages.{end_fault}
use Rattle.flac_pages.specs.Packets.{Place, Ahead, Met, ahead, on_page, Begins}
use Rattle.flac_pages.specs.inner.Packets.{only_fault, next_segment, Turns, Steps, ended}
use Rattle.flac_pages.proofs.Paged.{reads_then, none_read, follows_segment}
use Rattle.flac_pages.proofs.Stepping.{Same, Waits, met_then, segment_same, same_ahead, packet_over, pages_over, none_ahead, broken_ahead, closed_ahead}

abbrev turn_ok : Result ⊤ Why
turn_ok = Ok tt

abbrev turn_err : Why → Result ⊤ Why
turn_err why = Err why

-- ---- a step

pub step_over : (old : Place) → old.rest ≡ 0 → old.more ≡ false → Steps old old (Ok false)
step_over old r m = let over = packet_over old r m in record { same = refl; bytes = over.bytes; fault = over.fault; none = λ more. absurd (differ (sym m ∙ more)) }
  where
    differ : false ≡ true → ⊥
    differ e = absurd cc

pub step_last : (old : Place) → old.rest ≡ 0 → old.lacing ≡ [] → old.last ≡ true → Steps old old (Ok false)
step_last old r l la = let over = pages_over old r l la in record { same = refl; bytes = over.bytes; fault = over.fault; none = λ more. none_ahead old l la }

segment_step : (old new : Place) (l : List ℕ) → old.rest ≡ 0 → old.more ≡ true → 0 < length old.lacing → old.lacing ≡ l → new ≡ next_segment old l → Steps old new (Ok true)
segment_step old new [] r m some eq e = absurd (omega (arith, ap length eq, some))
segment_step old new (v ∷ vs) r m some eq e =
    let same = segment_same old v vs r m eq in
    subst (λ (p : Place). Steps old p (Ok true)) (sym e) (record {
      known = λ known. known;
      errors = refl;
      raised = refl;
      names = refl;
      bytes = λ known. same.bytes;
      after = λ known. same.after;
      room = omega arith;
      spends = omega (arith, ap length eq);
      follows = follows_segment old v vs m eq;
    })

pub step_segment : (old new : Place) → old.rest ≡ 0 → old.more ≡ true → 0 < length old.lacing → new ≡ next_segment old old.lacing → Steps old new (Ok true)
step_segment old new r m some e = segment_step old new old.lacing r m some refl e

pub step_turned : (old new : Place) → old.rest ≡ 0 → old.lacing ≡ [] → Turns old new turn_ok → Steps old new (Ok true)
step_turned old new r l t =
    let same : old.known ≡ true → Same old new = λ known. same_ahead old new (t.rest ∙ sym r) t.more (t.ahead known) in
    record {
      known = t.known;
      errors = t.errors;
      raised = t.raised;
      names = t.names;
      bytes = λ known. (same known).bytes;
      after = λ known. (same known).after;
      room = omega (arith, t.room);
      spends = omega (arith, t.spends);
      follows = record { known = t.known; more = λ more. sym t.more ∙ more; pages = t.pages; breaks = λ known more. t.breaks known };
    }

pub step_refused : (old new : Place) (why : Why) → old.rest ≡ 0 → old.more ≡ true → Turns old new (turn_err why) → Steps old new (Err why)
step_refused old new why r m t = record {
  errors = t.errors;
  met = t.met;
  names = t.names;
  count = t.count;
  bytes = λ known same. (broken_ahead old (old.count, why) r m (t.ahead known same)).bytes;
  after = λ known same. (broken_ahead old (old.count, why) r m (t.ahead known same)).after;
  breaks = (m, t.breaks);
}

-- ---- the next packet

abbrev unless_last : Bool → ℕ × Why → Option (ℕ × Why)
unless_last b f = cond b None (Some f)

closed_fault : (old : Place) → old.last ≡ true → (ahead old).fault ≡ None
unfolding ahead
closed_fault old la = rw la refl

pub waits_turned : (old now new : Place) → Waits old now → Turns now new turn_ok → Waits old new
waits_turned old now new w t = record {
  known = λ known. t.known (w.known known);
  errors = t.errors ∙ w.errors;
  raised = t.raised ∙ w.raised;
  names = t.names ∙ w.names;
  rest = t.rest;
  more = t.more ∙ w.more;
  room = omega (arith, w.room, t.room);
  ahead = λ known. t.ahead (w.known known) ∙ w.ahead known;
  pages = λ known. reads_then (on_page old) (on_page now) (on_page new) (w.pages known) (t.pages (w.known known));
  breaks = λ known n at. w.breaks known n (t.breaks (w.known known) n at);
}

pub waits_refused : (old now new : Place) (why : Why) → Waits old now → Turns now new (turn_err why) → Begins old new (Err (new.count, why))
waits_refused old now new why w t = record {
  errors = omega (arith, w.errors, t.errors);
  met = met_then why old.raised now.raised new.raised w.raised t.met;
  names = t.names ∙ w.names;
  fault = λ known same.
      let is : ahead old ≡ only_fault (new.count, why) = sym (w.ahead known) ∙ t.ahead (w.known known) (same ∙ sym w.errors) ∙ ap (λ k. only_fault (k, why)) (sym t.count) in
      (ap (λ (a : Ahead). a.lacing) is, ap (λ (a : Ahead). a.stop) is);
  breaks = λ known same.
      let is : ahead old ≡ only_fault (new.count, why) = sym (w.ahead known) ∙ t.ahead (w.known known) (same ∙ sym w.errors) ∙ ap (λ k. only_fault (k, why)) (sym t.count) in
      ap (λ (a : Ahead). a.fault) is ∙ ap (λ b. unless_last b (new.count, why)) (sym t.last);
  pages = λ known. w.breaks known new.count t.breaks;
}

pub waits_begun : (old now : Place) → Waits old now → 0 < length now.lacing → Begins old (record now { more = true }) (Ok true)
unfolding ahead on_page
waits_begun old now w some = record {
  known = w.known;
  errors = w.errors;
  raised = w.raised;
  names = w.names;
  stands = (w.rest, refl);
  some = some;
  room = omega (arith, w.room);
  ahead = w.ahead;
  pages = λ known. let p = w.pages known in record { fewer = p.fewer; after = p.after; count = p.count };
  breaks = λ known n at. w.breaks known n (record { index = at.index; from = at.from; below = at.below });
}

pub waits_begins : (old now new : Place) (result : Result Bool (ℕ × Why)) → Waits old now → Begins now new result → Begins old new result
waits_begins old now new (Ok true) w b = record {
  known = λ known. b.known (w.known known);
  errors = b.errors ∙ w.errors;
  raised = b.raised ∙ w.raised;
  names = b.names ∙ w.names;
  stands = b.stands;
  some = b.some;
  room = omega (arith, w.room, b.room);
  ahead = λ known. b.ahead (w.known known) ∙ w.ahead known;
  pages = λ known. reads_then (on_page old) (on_page now) (on_page new) (w.pages known) (b.pages (w.known known));
  breaks = λ known n at. w.breaks known n (b.breaks (w.known known) n at);
}
waits_begins old now new (Ok false) w b = record {
  known = λ known. b.known (w.known known);
  errors = b.errors ∙ w.errors;
  raised = b.raised ∙ w.raised;
  names = b.names ∙ w.names;
  over = λ known.
      let over = b.over (w.known known) in
      (ap (λ (a : Ahead). a.lacing) (sym (w.ahead known)) ∙ over.0, ap (λ (a : Ahead). a.stop) (sym (w.ahead known)) ∙ over.1);
}
waits_begins old now new (Err f) w b = record {
  errors = omega (arith, w.errors, b.errors);
  met = met_then f.1 old.raised now.raised new.raised w.raised b.met;
  names = b.names ∙ w.names;
  fault = λ known same.
      let over = b.fault (w.known known) (same ∙ sym w.errors) in
      (ap (λ (a : Ahead). a.lacing) (sym (w.ahead known)) ∙ over.0, ap (λ (a : Ahead). a.stop) (sym (w.ahead known)) ∙ over.1);
  breaks = λ known same. ap (λ (a : Ahead). a.fault) (sym (w.ahead known)) ∙ b.breaks (w.known known) (same ∙ sym w.errors);
  pages = λ known. w.breaks known f.0 (b.pages (w.known known));
}

pub met_at : (o : Option Why) (old mid new : ℕ) → mid ≡ old → IfSome o (λ why. Met why mid new) → IfSome o (λ why. Met why old new)
met_at None old mid new same met = tt
met_at (Some why) old mid new same met = met_then why old mid new same met

-- after the last page
pub closes : (old new : Place) (o : Option Why) (result : Result Bool (ℕ × Why)) → result ≡ ended old.count o → old.count < 2 ^ 64 → old.lacing ≡ [] → old.last ≡ true → new.last ≡ true → old.errors ≤ new.errors → new.names ≡ old.names
    → (o ≡ None → (old.known ≡ true → new.known ≡ true) × (new.errors ≡ old.errors) × (new.raised ≡ old.raised)) → IfSome o (λ why. Met why old.raised new.raised) → (old.known ≡ true → new.errors ≡ old.errors → o ≡ end_fault old.cursor) → Begins old new result
closes old new o result e small l la nla errors names over met fault = subst (λ (r : Result Bool (ℕ × Why)). Begins old new r) (sym e) (go o over met fault)
  where
    go : (o : Option Why) → (o ≡ None → (old.known ≡ true → new.known ≡ true) × (new.errors ≡ old.errors) × (new.raised ≡ old.raised)) → IfSome o (λ why. Met why old.raised new.raised) → (old.known ≡ true → new.errors ≡ old.errors → o ≡ end_fault old.cursor) → Begins old new (ended old.count o)
    go None over met fault =
        let calm = over refl in
        record { known = calm.0; errors = calm.1; raised = calm.2; names = names; over = λ known. closed_ahead old None small l la (sym (fault known calm.1)) }
    go (Some why) over met fault = record {
      errors = errors;
      met = met;
      names = names;
      fault = λ known same. closed_ahead old (Some why) small l la (sym (fault known same));
      breaks = λ known same. closed_fault old la ∙ ap (λ b. unless_last b (old.count, why)) (sym nla);
      pages = λ known. none_read old old.count small l refl;
    }
