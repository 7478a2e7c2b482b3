use Rattle.std.proofs.Common.{◌≡◌, ◌≢◌, ℕ, ◌+◌, ◌-◌, ◌^◌, min, true, Option, Some, None, refl, sym, subst, ◌∙◌, arith, rules}
use Rattle.std.specs.Option.{ForSome}
use Rattle.flac_bits.specs.declared.why.Why.{Why}
use Rattle.flac_bits.specs.declared.why.Why.TheVariants.{Memory}
use Rattle.flac_pages.specs.Packets.{Place, Met, BreaksAt, on_page}
use Rattle.flac_pages.specs.inner.Packets.{Follows}
use Rattle.flac_pages.proofs.Stepping.{met_then}
use Rattle.flac_pages.proofs.Paged.{follows_then}
use Rattle.flac_pages.proofs.packet_bytes.PacketBytesSource.pull.Goals as goal

abbrev fault_at : ℕ → Why → Option (ℕ × Why)
fault_at n why = Some (n, why)

some_none : (n : ℕ) (why : Why) → fault_at n why ≡ None → ⊥
some_none n why is = absurd cc

counted_up : (old new : ℕ) → new ≡ min (old + 1) (2 ^ 64 - 1) → new ≡ 0 → ⊥
counted_up old new is zero = omega (arith, is, zero)

same_fault : (n : ℕ) (why : Why) (f : ℕ × Why) → fault_at n why ≡ Some f → (f.0 ≡ n) × (f.1 ≡ why)
same_fault n why f is = (cc, cc)

met_now : (start old mid new n : ℕ) (why : Why) → old ≡ start → mid ≡ old → Met why mid new → ForSome (fault_at n why) (λ f. Met f.1 start new)
met_now start old mid new n why is same met = λ f e. subst (λ w. Met w start new) (sym (same_fault n why f e).1) (met_then why start mid new (same ∙ is) met)

memory_now : (n : ℕ) (why : Why) → why ≢ Memory → ForSome (fault_at n why) (λ f. f.1 ≢ Memory)
memory_now n why room = λ f e m. room (sym (same_fault n why f e).1 ∙ m)

page_now : (n count : ℕ) (why : Why) → n ≡ count → ForSome (fault_at n why) (λ f. f.0 ≡ count)
page_now n count why is = λ f e. (same_fault n why f e).0 ∙ is

breaks_now : (start old : Place) (n count : ℕ) (why : Why) → n ≡ count → Follows start old → (old.known ≡ true → (old.more ≡ true) × BreaksAt (on_page old) count) → ForSome (fault_at n why) (λ f. start.known ≡ true → BreaksAt (on_page start) f.0)
breaks_now start old n count why is follows broke = λ f e known.
    let there = broke (follows.known known) in
    subst (λ k. BreaksAt (on_page start) k) (sym ((same_fault n why f e).0 ∙ is)) (follows.breaks known there.0 count there.1)

pub invariant_of-self-in-Err : goal.invariant_of-self-in-Err
invariant_of-self-in-Err g c =
    let packet = c.args.self.now in
    let start = packet.lent.value in
    let calm : packet.fault ≡ None = search rules in
    record {
      quiet = λ none. absurd (some_none _ _ none);
      counted = λ zero. absurd (counted_up _ _ c.saturating_add-self-in-Err.ensures zero);
      calm = λ none. absurd (some_none _ _ none);
      met = met_now start.raised packet.pages.now.raised packet.pages.now.raised c.find.new.self.raised c.count.result c.in-Err.why (packet.calm calm) refl c.in-Err.ensures.finds.met;
      memory = memory_now c.count.result c.in-Err.why c.in-Err.ensures.memory;
      page = page_now c.count.result c.find.new.self.count c.in-Err.why c.count.ensures;
      follows = λ none. absurd (some_none _ _ none);
      same = λ none. absurd (some_none _ _ none);
      breaks = breaks_now start packet.pages.now c.count.result c.find.new.self.count c.in-Err.why c.count.ensures (packet.follows calm) c.in-Err.ensures.finds.breaks;
    }

none_some : (o : Option (ℕ × Why)) (f : ℕ × Why) → o ≡ None → o ≡ Some f → ⊥
none_some o f none some = absurd cc

pub invariant_of-self-in-Ok-true : goal.invariant_of-self-in-Ok-true
invariant_of-self-in-Ok-true g c =
    let packet = c.args.self.now in
    let start = packet.lent.value in
    let calm : packet.fault ≡ None = search rules in
    let finds = c.in-Ok-true.ensures.finds in
    let copies = c.copy_in_page.ensures.copies in
    record {
      quiet = packet.quiet;
      counted = packet.counted;
      calm = λ none. copies.raised ∙ finds.raised ∙ packet.calm none;
      met = λ f some. absurd (none_some _ f calm some);
      memory = packet.memory;
      page = λ f some. absurd (none_some _ f calm some);
      follows = λ none. follows_then start c.find.new.self c.copy_in_page.new.self (follows_then start packet.pages.now c.find.new.self (packet.follows none) finds.follows) copies.follows;
      same = λ none known. copies.after ∙ finds.after ((packet.follows none).known known) ∙ packet.same none known;
      breaks = packet.breaks;
    }

pub invariant_of-self-in-Ok-false : goal.invariant_of-self-in-Ok-false
invariant_of-self-in-Ok-false g c =
    let packet = c.args.self.now in
    let start = packet.lent.value in
    let calm : packet.fault ≡ None = search rules in
    let finds = c.in-Ok-false.ensures.finds in
    record {
      quiet = packet.quiet;
      counted = packet.counted;
      calm = λ none. finds.raised ∙ packet.calm none;
      met = λ f some. absurd (none_some _ f calm some);
      memory = packet.memory;
      page = λ f some. absurd (none_some _ f calm some);
      follows = λ none. follows_then start packet.pages.now c.find.new.self (packet.follows none) finds.follows;
      same = λ none known. finds.after ((packet.follows none).known known) ∙ packet.same none known;
      breaks = packet.breaks;
    }
