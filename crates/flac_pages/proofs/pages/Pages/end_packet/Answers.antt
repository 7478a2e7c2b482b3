use Rattle.std.proofs.Common.{◌≡◌, ◌≢◌, ◌+◌, ◌<◌, ℕ, Bool, true, false, List, length, Option, Some, Result, Ok, Err, refl, sym, ap, subst, arith}
use Rattle.std.specs.Prelude.{⊤}
use Rattle.flac_bits.specs.declared.why.Why.{Why}
use Rattle.flac_bits.specs.declared.why.Why.TheVariants.{PacketLength, Memory}
use Rattle.flac_pages.specs.Packets.{Place}
use Rattle.flac_pages.specs.Items.{HasItsPage}
use Rattle.flac_pages.specs.inner.Items.{EndsPacket}
use Rattle.flac_pages.specs.inner.Packets.{Finds, Copies}
use Rattle.flac_pages.proofs.Paged.{follows_none}
use Rattle.flac_pages.proofs.PacketEnds.{Passes, passed_more, ends_between, ends_inside, ends_broken, length_of_none}
use Rattle.flac_pages.proofs.pages.Pages.end_packet.Goals as goal

abbrev found : Bool → Result Bool Why
found more = Ok more

abbrev refused : ℕ → Why → Result ⊤ (Option ℕ × Why)
refused n why = Err (Some n, why)

abbrev some_page : ℕ → Option ℕ
some_page n = Some n

passes_none : (p : Place) → Passes p p
passes_none p = record { known = λ known. known; errors = refl; raised = refl; names = refl; room = omega arith; after = λ known. refl; follows = follows_none p }

passed : (old now mid new : Place) (out : List ℕ) (n : ℕ) (more : Bool) → more ≡ true → Passes old now → Finds now mid (found more) → Copies mid new out n → Passes old new
passed old now mid new out n more t p f c = passed_more old now mid new out n p (subst (λ b. Finds now mid (found b)) t f) c

nearer : (now mid new : Place) (out : List ℕ) (n : ℕ) (more : Bool) → Finds now mid (found more) → Copies mid new out n → 0 < n → new.most + length new.body < now.most + length now.body
nearer now mid new out n more f c some = omega (arith, f.room, c.room, some)

page_refused : (count n : ℕ) (why : Why) → n ≡ count → why ≢ Memory → HasItsPage count (Some n, why)
page_refused count n why is room = (λ read. ap some_page is, λ e. absurd (room e))

length_memory : PacketLength ≢ Memory
length_memory e = absurd cc

not_between : (b : Bool) → b ≡ false → b ≡ true → ⊥
not_between b f t = absurd cc

some_room : 0 < 255
some_room = omega arith

pub loop-self-init : goal.loop-self-init
loop-self-init g c = passes_none _

pub loop-self-preserved : goal.loop-self-preserved
loop-self-preserved g c = passed _ c.loop-self.self c.find.new.self _ _ _ c.in-Ok-true.field-0 c.in-Ok-true.field-0-test c.loop-self.invariant c.in-Ok-true.ensures.finds c.copy-passed.ensures.copies

pub loop-self-smaller : goal.loop-self-smaller
loop-self-smaller g c = nearer c.loop-self.self c.find.new.self _ _ _ c.in-Ok-true.field-0 c.in-Ok-true.ensures.finds c.copy-passed.ensures.copies (c.copy-passed.ensures.some some_room (c.in-Ok-true.ensures.finds.byte c.in-Ok-true.field-0-test))

pub returns-then-is_between_packets : goal.returns-then-is_between_packets
returns-then-is_between_packets g c = record {
  memory = tt;
  page = tt;
  ends = ends_between _ c.loop-self.self _ c.loop-self.invariant (subst (λ b. Finds c.loop-self.self c.find.new.self (found b)) c.in-Ok-false.field-0-test c.in-Ok-false.ensures.finds) (c.is_between_packets.ensures.between c.if-is_between_packets.true);
}

pub returns-in-Ok-false : goal.returns-in-Ok-false
returns-in-Ok-false g c = record {
  memory = length_memory;
  page = length_of_none _;
  ends = ends_inside _ c.loop-self.self _ c.loop-self.invariant (subst (λ b. Finds c.loop-self.self c.find.new.self (found b)) c.in-Ok-false.field-0-test c.in-Ok-false.ensures.finds)
      (λ stands. not_between _ c.if-is_between_packets.false (c.is_between_packets.ensures.exact stands.0 stands.1));
}

pub returns-in-Err : goal.returns-in-Err
returns-in-Err g c = record {
  memory = c.in-Err.ensures.memory;
  page = page_refused _ _ _ c.count.ensures c.in-Err.ensures.memory;
  ends = subst (λ n. EndsPacket c.args.self.now c.find.new.self (refused n c.in-Err.why)) (sym c.count.ensures) (ends_broken c.args.self.now c.loop-self.self c.find.new.self c.in-Err.why c.loop-self.invariant c.in-Err.ensures.finds);
}
