use Rattle.std.proofs.Common.{◌≡◌, ◌≢◌, ℕ, ◌≤◌, Bool, true, false, List, [], ◌∷◌, Option, Some, None, Result, Ok, refl, sym, ap, subst, ◌∙◌, arith}
use Rattle.std.specs.Prelude.{IfSome}
use Rattle.flac_bits.specs.Bits.{is_nil}
use Rattle.flac_bits.specs.State.{Cursor}
use Rattle.flac_bits.specs.Reasons.{of_output}
use Rattle.flac_bits.specs.declared.why.Why.{Why}
use Rattle.flac_bits.specs.declared.why.Why.TheVariants.{Read, Memory, Truncated, PageOrder}
use Rattle.flac_pages.specs.Pages.{unless_over, end_fault}
use Rattle.flac_pages.specs.Packets.{Met}
use Rattle.flac_pages.proofs.pages.end_fault.Goals as goal

abbrev some_why : Why → Option Why
some_why e = Some e

abbrev found : Bool → Result Bool Why
found over = Ok over

some_none : (e : Why) → some_why e ≡ None → ⊥
some_none e is = absurd cc

order_memory : PageOrder ≢ Memory
order_memory e = absurd cc

order_read : PageOrder ≢ Read
order_read e = absurd cc

no_fewer : (old new : ℕ) → new ≡ old → old ≤ new
no_fewer old new same = omega arith

nil_is : (l : List Bool) → is_nil l ≡ true → l ≡ []
nil_is [] e = refl
nil_is (b ∷ l) e = absurd cc

met_over : (why : Why) (o : Option Why) (old new : ℕ) → o ≡ unless_over why → (why ≢ Read) × (of_output why ≡ false) → IfSome o (λ e. Met e old new)
met_over Truncated o old new is device = subst (λ (x : Option Why). IfSome x (λ e. Met e old new)) (sym is) tt
met_over why o old new is device = subst (λ (x : Option Why). IfSome x (λ e. Met e old new)) (sym is) (λ read. absurd (device.0 read), device.1)

-- the input is over
over_fault : (old now : Cursor) (over : Bool) (short : Why) (o : Option Why) → o ≡ unless_over short → over ≡ true → (now ≡ old) × (over ≡ is_nil old.left) → (old.mark.short ≡ Read → ⊥) → (now.left ≡ [] → (now.mark.short ≡ Read → ⊥) → short ≡ now.mark.short) → o ≡ end_fault old
unfolding end_fault
over_fault old now over short o is t same calm told =
    let nil : is_nil old.left ≡ true = sym same.1 ∙ t in
    let left : now.left ≡ [] = ap (λ (c : Cursor). c.left) same.0 ∙ nil_is old.left nil in
    let mark : now.mark.short ≡ old.mark.short = ap (λ (c : Cursor). c.mark.short) same.0 in
    rw nil (is ∙ ap unless_over (told left (λ e. calm (sym mark ∙ e)) ∙ mark))

-- more bits are left
left_fault : (old : Cursor) (over : Bool) → over ≡ false → over ≡ is_nil old.left → some_why PageOrder ≡ end_fault old
unfolding end_fault
left_fault old over f same = let more : is_nil old.left ≡ false = sym same ∙ f in rw more refl

-- the source fails in place of the end
read_fault : (old : Cursor) (why : Why) → why ≡ Read → (old.left ≡ []) × (old.mark.short ≡ Read) → some_why why ≡ end_fault old
unfolding end_fault
read_fault old why is there =
    let nil : is_nil old.left ≡ true = ap is_nil there.0 in
    rw (nil, there.1) (ap some_why is)

pub returns-in-Ok-true : goal.returns-in-Ok-true
returns-in-Ok-true g c =
    let now = c.in-Ok-true.ensures in
    record {
      kept = no_fewer _ _ now.counts.1;
      names = now.counts.4;
      memory = c.unless_over.ensures.memory c.short.ensures.memory;
      calm = λ none. (now.counts.0, now.counts.1, now.counts.2);
      met = met_over c.short.result _ _ _ c.unless_over.ensures.value c.short.ensures.device;
      fault = λ known same. over_fault _ c.at_end.new.self.cursor c.in-Ok-true.field-0 c.short.result _ c.unless_over.ensures.value c.in-Ok-true.field-0-test (now.over known) (λ e. now.ended (ap found c.in-Ok-true.field-0-test) known e) (c.short.ensures.short (now.counts.0 known));
    }

pub returns-in-Ok-false : goal.returns-in-Ok-false
returns-in-Ok-false g c =
    let now = c.in-Ok-false.ensures in
    record {
      kept = no_fewer _ _ now.counts.1;
      names = now.counts.4;
      memory = order_memory;
      calm = λ none. absurd (some_none _ none);
      met = (λ read. absurd (order_read read), refl);
      fault = λ known same. left_fault _ c.in-Ok-false.field-0 c.in-Ok-false.field-0-test (now.over known).1;
    }

pub returns-in-Err : goal.returns-in-Err
returns-in-Err g c =
    let now = c.in-Err.ensures in
    record {
      kept = now.counts.0;
      names = now.counts.3;
      memory = now.memory;
      calm = λ none. absurd (some_none _ none);
      met = (now.counts.4, now.counts.5);
      fault = λ known same. read_fault _ c.in-Err.why now.read.0 (now.read.1 known same);
    }
