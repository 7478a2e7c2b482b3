use Rattle.std.proofs.Common.{◌≡◌, ◌*◌, ◌+◌, ◌<◌, ℕ, Bool, true, false, length, Result, Ok, Err, refl, subst, sym, ap, ◌∙◌, arith}
use Rattle.flac_bits.specs.declared.why.Why.{Why}
use Rattle.flac_bits.specs.State.{After}
use Rattle.flac_pages.specs.Packets.{Place, broken_off}
use Rattle.flac_pages.specs.inner.Packets.{Steps, Finds}
use Rattle.flac_pages.proofs.Paged.{follows_none, follows_then}
use Rattle.flac_pages.proofs.Stepping.{Kept, met_then}
use Rattle.flac_pages.proofs.pages.Pages.find.Goals as goal

abbrev gone : Bool → Result Bool Why
gone more = Ok more

abbrev stuck : Why → Result Bool Why
stuck why = Err why

differ : false ≡ true → ⊥
differ e = absurd cc

positive : (n : ℕ) → (n ≡ 0 → ⊥) → 0 < n
positive n some = omega (arith, some)

kept_none : (p : Place) → Kept p p
kept_none p = record { known = λ known. known; errors = refl; raised = refl; names = refl; room = omega arith; bytes = λ known. refl; after = λ known. refl; follows = follows_none p }

kept_true : (old now new : Place) → Kept old now → Steps now new (gone true) → Kept old new
kept_true old now new k s = record {
  known = λ known. s.known (k.known known);
  errors = s.errors ∙ k.errors;
  raised = s.raised ∙ k.raised;
  names = s.names ∙ k.names;
  room = omega (arith, k.room, s.room);
  bytes = λ known. s.bytes (k.known known) ∙ k.bytes known;
  after = λ known. s.after (k.known known) ∙ k.after known;
  follows = follows_then old now new k.follows s.follows;
}

kept_more : (old now new : Place) (more : Bool) → more ≡ true → Kept old now → Steps now new (gone more) → Kept old new
kept_more old now new more t k s = kept_true old now new k (subst (λ b. Steps now new (gone b)) t s)

nearer_true : (now new : Place) → Steps now new (gone true) → 256 * new.most + length new.lacing < 256 * now.most + length now.lacing
nearer_true now new s = s.spends

nearer : (now new : Place) (more : Bool) → more ≡ true → Steps now new (gone more) → 256 * new.most + length new.lacing < 256 * now.most + length now.lacing
nearer now new more t s = nearer_true now new (subst (λ b. Steps now new (gone b)) t s)

found_err : (old now new : Place) (why : Why) → Kept old now → Steps now new (stuck why) → Finds old new (stuck why)
found_err old now new why k s = record {
  errors = omega (arith, k.errors, s.errors);
  met = met_then why old.raised now.raised new.raised k.raised s.met;
  names = s.names ∙ k.names;
  bytes = λ known same. sym (k.bytes known) ∙ s.bytes (k.known known) (same ∙ sym k.errors);
  after = λ known same. sym (k.after known) ∙ s.after (k.known known) (same ∙ sym k.errors) ∙ ap (λ n. broken_off (n, why)) (sym s.count);
  breaks = λ known. (k.follows.more s.breaks.0, k.follows.breaks known s.breaks.0 new.count s.breaks.1);
}

found_none : (old now new : Place) → Kept old now → now.rest ≡ 0 → Steps now new (gone false) → Finds old new (gone false)
found_none old now new k none s = subst (λ (p : Place). Finds old p (gone false)) (sym s.same) (record {
  known = k.known;
  errors = k.errors;
  raised = k.raised;
  names = k.names;
  room = k.room;
  bytes = k.bytes;
  after = k.after;
  byte = λ e. absurd (differ e);
  over = λ e known. (sym (k.bytes known) ∙ s.bytes, ap (λ (b : After). b.fails) (sym (k.after known)) ∙ s.fault);
  stands = λ e. (none, s.none);
  follows = k.follows;
})

found_byte : (old now : Place) (rest : ℕ) → Kept old now → rest ≡ now.rest → (rest ≡ 0 → ⊥) → Finds old now (gone true)
found_byte old now rest k is some = record {
  known = k.known;
  errors = k.errors;
  raised = k.raised;
  names = k.names;
  room = k.room;
  bytes = k.bytes;
  after = k.after;
  byte = λ e. positive now.rest (λ z. some (is ∙ z));
  over = λ e. absurd (differ (sym e));
  stands = λ e. absurd (differ (sym e));
  follows = k.follows;
}

pub loop-self-init : goal.loop-self-init
loop-self-init g c = kept_none _

pub loop-self-preserved : goal.loop-self-preserved
loop-self-preserved g c = kept_more c.args.self.now c.loop-self.self c.step.new.self c.in-Ok-true.field-0 c.in-Ok-true.field-0-test c.loop-self.invariant c.in-Ok-true.ensures.steps

pub loop-self-smaller : goal.loop-self-smaller
loop-self-smaller g c = nearer c.loop-self.self c.step.new.self c.in-Ok-true.field-0 c.in-Ok-true.field-0-test c.in-Ok-true.ensures.steps

pub returns-in-Err : goal.returns-in-Err
returns-in-Err g c = record { memory = c.in-Err.ensures.memory; finds = found_err c.args.self.now c.loop-self.self c.step.new.self c.in-Err.why c.loop-self.invariant c.in-Err.ensures.steps }

pub returns-in-Ok-false : goal.returns-in-Ok-false
returns-in-Ok-false g c = record {
  memory = tt;
  finds = found_none c.args.self.now c.loop-self.self c.step.new.self c.loop-self.invariant (sym c.rest.ensures ∙ c.loop-self-test.true)
      (subst (λ b. Steps c.loop-self.self c.step.new.self (gone b)) c.in-Ok-false.field-0-test c.in-Ok-false.ensures.steps);
}

pub returns : goal.returns
returns g c = record { memory = tt; finds = found_byte c.args.self.now c.loop-self.self c.rest.result c.loop-self.invariant c.rest.ensures c.loop-self-test.false }
