-- How a packet ends, told by where a reader of packets stands after its last byte.
use Rattle.std.proofs.Common.{◌≡◌, ◌≢◌, ◌≤◌, ◌+◌, ℕ, length, Bool, true, false, List, [], Option, Some, None, Result, Ok, Err, refl, sym, ap, ◌∙◌, arith}
use Rattle.std.specs.Prelude.{⊤}
use Rattle.flac_bits.specs.State.{After}
use Rattle.flac_bits.specs.declared.why.Why.{Why}
use Rattle.flac_bits.specs.declared.why.Why.TheVariants.{PacketLength, Read, Memory}
use Rattle.flac_pages.specs.Packets.{Place, ahead, after_of, after_in, broken_off}
use Rattle.flac_pages.specs.inner.Packets.{Follows, Finds, Copies}
use Rattle.flac_pages.specs.Items.{whole, unended, cut_at, end_in, end_of, cut_off, HasItsPage}
use Rattle.flac_pages.specs.inner.Items.{EndsPacket}
use Rattle.flac_pages.proofs.Paged.{follows_then}
use Rattle.flac_pages.proofs.Stepping.{met_then}

-- what a way to the packet's end keeps
pub record Passes (old now : Place) : Type 0 where
  pub known : old.known ≡ true → now.known ≡ true
  pub errors : now.errors ≡ old.errors
  pub raised : now.raised ≡ old.raised
  pub names : now.names ≡ old.names
  pub room : now.most + length now.body ≤ old.most + length old.body
  pub after : old.known ≡ true → after_of now ≡ after_of old
  pub follows : Follows old now

abbrev ends_ok : Result ⊤ (Option ℕ × Why)
ends_ok = Ok tt

abbrev ends_err : Option ℕ × Why → Result ⊤ (Option ℕ × Why)
ends_err why = Err why

abbrev found : Bool → Result Bool Why
found more = Ok more

abbrev not_found : Why → Result Bool Why
not_found why = Err why

pub passed_more : (old now mid new : Place) (out : List ℕ) (n : ℕ) → Passes old now → Finds now mid (found true) → Copies mid new out n → Passes old new
passed_more old now mid new out n p f c = record {
  known = λ known. c.known ∙ f.known (p.known known);
  errors = c.errors ∙ f.errors ∙ p.errors;
  raised = c.raised ∙ f.raised ∙ p.raised;
  names = c.names ∙ f.names ∙ p.names;
  room = omega (arith, p.room, f.room, c.room);
  after = λ known. c.after ∙ f.after (p.known known) ∙ p.after known;
  follows = follows_then old mid new (follows_then old now mid p.follows f.follows) c.follows;
}

pub ends_between : (old now new : Place) → Passes old now → Finds now new (found false) → (new.rest ≡ 0) × (new.more ≡ false) → EndsPacket old new ends_ok
unfolding after_of
ends_between old now new p f stands =
    let after : old.known ≡ true → after_of new ≡ after_of old = λ known. f.after (p.known known) ∙ p.after known in
    record {
      known = λ known. f.known (p.known known);
      errors = f.errors ∙ p.errors;
      raised = f.raised ∙ p.raised;
      names = f.names ∙ p.names;
      stands = stands;
      room = omega (arith, p.room, f.room);
      ended = λ known. ap (λ (b : After). end_of b) (sym (after known)) ∙ ap (λ b. end_of (after_in new.rest b (ahead new))) stands.1;
      after = after;
      pages = (follows_then old now new p.follows f.follows).pages;
    }

pub ends_inside : (old now new : Place) → Passes old now → Finds now new (found false) → ((new.rest ≡ 0) × (new.more ≡ false) → ⊥) → EndsPacket old new (ends_err (None, PacketLength))
unfolding after_of ahead
ends_inside old now new p f inside =
    let goes_on : new.more ≡ true = go new.more refl in
    record {
      errors = omega (arith, f.errors, p.errors);
      met = (λ e. absurd (read_not e), refl);
      names = f.names ∙ p.names;
      fault = λ known same.
          let after : after_of new ≡ after_of old = f.after (p.known known) ∙ p.after known in
          let calm : (after_of old).fails ≡ None = ap (λ (b : After). b.fails) (sym (p.after known)) ∙ (f.over refl (p.known known)).1 in
          let none : (ahead new).lacing ≡ [] = (f.stands refl).1 goes_on in
          let cut : (after_of old).cut ≡ true = ap (λ (b : After). b.cut) (sym after) ∙ rw (goes_on, none) refl in
          let is : end_of (after_of old) ≡ unended = ap (λ o. end_in o (after_of old).cut) calm ∙ ap (λ b. end_in None b) cut in
          (λ e. differ (sym is ∙ e), ap cut_off (sym is));
      breaks = λ known. tt;
    }
  where
    differ : unended ≡ whole → ⊥
    differ e = absurd cc

    read_not : PacketLength ≡ Read → ⊥
    read_not e = absurd cc

    go : (b : Bool) → new.more ≡ b → new.more ≡ true
    go true e = e
    go false e = absurd (inside ((f.stands refl).0, e))

pub ends_broken : (old now new : Place) (why : Why) → Passes old now → Finds now new (not_found why) → EndsPacket old new (ends_err (Some new.count, why))
ends_broken old now new why p f = record {
  errors = omega (arith, f.errors, p.errors);
  met = met_then why old.raised now.raised new.raised p.raised f.met;
  names = f.names ∙ p.names;
  fault = λ known same.
      let after : after_of old ≡ broken_off (new.count, why) = sym (p.after known) ∙ f.after (p.known known) (same ∙ sym p.errors) in
      let is : end_of (after_of old) ≡ cut_at new.count why = ap (λ (b : After). end_of b) after in
      (λ e. differ (sym is ∙ e), ap cut_off (sym is));
  breaks = λ known. let broke = f.breaks (p.known known) in (p.follows.more broke.0, p.follows.breaks known broke.0 new.count broke.1);
}
  where
    differ : cut_at new.count why ≡ whole → ⊥
    differ e = absurd cc

-- ---- the page of an error of the device

-- a packet of another length is no fault of a page
pub length_of_none : (count : ℕ) → HasItsPage count (None, PacketLength)
length_of_none count = (λ e. absurd cc, λ e. absurd cc)

-- the next page's fault has its number
pub told_of_next : (count : ℕ) (why : Why) → why ≢ Memory → HasItsPage count (Some count, why)
told_of_next count why room = (λ e. refl, λ e. absurd (room e))
