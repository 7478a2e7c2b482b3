use Rattle.std.proofs.Common.{◌≡◌, ◌*◌, ◌≤◌, ◌<◌, ◌^◌, ℕ, ℤ, List, Bool, Option, Some, Result, Ok, min, length, take, refl, ap, sym, ◌∙◌, arith}
use Rattle.std.proofs.lemmas.List.{with_items_is}
use Rattle.std.proofs.lemmas.Nat.{mul-le}
use Rattle.std.proofs.lemmas.Result.{err_from_is_err_and}
use Rattle.flac_bits.specs.State.{Cursor}
use Rattle.flac_bits.specs.Layout.{Reason}
use Rattle.flac_header.specs.Header.{greatest_in}
use Rattle.flac_header.specs.Strategy.{is_variable}
use Rattle.flac_frame.specs.declared.before.Before.{Before}
use Rattle.flac_frame.specs.Frame.{Frame, left_by}
use Rattle.flac_frame.specs.Kept.{Kept}
use Rattle.flac_frame.specs.View.{chunks}
use Rattle.flac_frame.proofs.buffers.FrameBuffers.read_in.Goals as goal

-- places enough for fewer channels of shorter blocks
enough : (a b c d n : ℕ) → a ≤ c → b ≤ d → n ≡ c * d → a * b ≤ n
enough a b c d n p q is = omega (arith, is, mul-le a b c d p q)

-- no more than there is room for
within : (a b c d : ℕ) → a ≡ b → b ≤ c → d ≡ c → a ≤ d
within a b c d p q r = omega arith

between : (a b m c d : ℕ) → a ≡ b → b ≤ m → m ≤ c → d ≡ c → a ≤ d
between a b m c d p q r s = omega arith

least : (n : ℕ) → 0 ≤ n
least n = omega arith

few : 0 < 2 ^ 36
few = omega arith

-- the state after a frame, by equal parts
left_same : (a b : Option Before) (v w : Bool) (n m s t : ℕ) → a ≡ b → v ≡ w → n ≡ m → s ≡ t → Some (left_by a v n s) ≡ Some (left_by b w m t)
left_same a b v w n m s t before variable number size = ap (λ k. Some (left_by k v n s)) before ∙ ap (λ k. Some (left_by b k n s)) variable ∙ ap (λ k. Some (left_by b w k s)) number ∙ ap (λ k. Some (left_by b w m k)) size

abbrev with_samples : Bool → ℕ → ℕ → ℕ → List ℤ → Cursor → Result (Frame × Cursor) Reason
with_samples variable number size channels samples at = Ok (record { variable = variable; number = number; size = size; channels = chunks channels size (take (channels * size) samples) }, at)

-- and the frame itself
same_frame : (v w : Bool) (n m s t c d : ℕ) (xs ys : List ℤ) (at : Cursor) → v ≡ w → n ≡ m → s ≡ t → c ≡ d → xs ≡ ys → with_samples v n s c xs at ≡ with_samples w m t d ys at
same_frame v w n m s t c d xs ys at variable number size channels samples =
    ap (λ k. with_samples k n s c xs at) variable ∙ ap (λ k. with_samples w k s c xs at) number ∙ ap (λ k. with_samples w m k c xs at) size ∙ ap (λ k. with_samples w m t k xs at) channels ∙ ap (λ k. with_samples w m t d k at) samples

pub read_into-requires : goal.read_into-requires
read_into-requires g c =
    let inside = c.self.inside in
    let inv = c.self.invariant in
    record {
      wide = enough c.args.info.now.channels (min c.args.info.now.greatest_block (greatest_in c.args.profile c.args.info.now.rate)) c.args.self.now.channels c.args.self.now.max_block (length c.deref_mut.result.now) c.requires.channels c.requires.block
          (c.deref_mut.ensures.len ∙ inv.wide ∙ ap (λ (k : Kept). k.channels * k.max_block) c.self.view_is);
      out = c.deref_mut-2.ensures.len ∙ inv.narrow ∙ sym inv.wide ∙ sym c.deref_mut.ensures.len;
    }

pub invariant_of-self : goal.invariant_of-self
invariant_of-self g c =
    let inv = c.self.invariant in
    record { wide = inv.wide; narrow = inv.narrow; channels = inv.channels; max_block = inv.max_block; used = least _; block = least _; number = few }

pub invariant_of-self-2 : goal.invariant_of-self-2
invariant_of-self-2 g c =
    let inv = c.self.invariant in
    record {
      wide = inv.wide;
      narrow = inv.narrow;
      channels = inv.channels;
      max_block = inv.max_block;
      used = within _ _ _ _ c.channels.ensures.value c.requires.channels (ap (λ (k : Kept). k.channels) c.self.view_is);
      block = between _ _ _ _ _ c.size.ensures.size c.in_ok-header.ensures.size c.requires.block (ap (λ (k : Kept). k.max_block) c.self.view_is);
      number = c.number-self-inside.ensures.small;
    }

pub returns-in_err-header : goal.returns-in_err-header
returns-in_err-header g c =
    let p = err_from_is_err_and c.from_residual.result c.from_residual.ensures.1 in
    let is = c.self.view_is in
    let before : c.self.inside.before ≡ c.args.self.now.before = ap (λ (k : Kept). k.before) is in
    let told = c.in_err-header.ensures.reading in
    rw (p.1, p.2) (record {
      room = (ap (λ (k : Kept). k.channels) is, ap (λ (k : Kept). k.max_block) is);
      before = tt;
      refused = (before, refl);
      reading = record { spends = tt; counts = told.counts; memory = told.memory; reads = rw before at told.reads };
    })

pub returns : goal.returns
returns g c =
    let is = c.self.view_is in
    let before : c.self.inside.before ≡ c.args.self.now.before = ap (λ (k : Kept). k.before) is in
    let told = c.in_ok-header.ensures.reading in
    let reads = rw before at told.reads in
    let h = c.in_ok-header.header in
    let variable = sym c.blocking_strategy-self-inside.ensures.variable in
    let number = sym c.number-self-inside.ensures.number in
    let size = sym c.size.ensures.size in
    let samples = sym (with_items_is c.self.inside.narrow c.read_into.new.out (c.read_into.auto.out ∙ c.deref_mut-2.ensures.len)) in
    record {
      room = (ap (λ (k : Kept). k.channels) is, ap (λ (k : Kept). k.max_block) is);
      before = ap Some c.after.ensures ∙ left_same c.self.inside.before c.args.self.now.before h.variable (is_variable c.blocking_strategy-self-inside.result) h.number c.number-self-inside.result h.size c.size.result before variable number size;
      refused = tt;
      reading = record {
        spends = told.spends;
        counts = told.counts;
        memory = tt;
        reads = λ known same.
            reads known same ∙ same_frame h.variable (is_variable c.blocking_strategy-self-inside.result) h.number c.number-self-inside.result h.size c.size.result c.args.info.now.channels c.channels.result c.read_into.new.out _ c.read_into.new.bits.cursor variable number size (sym c.channels.ensures.value) samples;
      };
    }
