use Rattle.std.proofs.Common.{◌≡◌, ℕ, ◌+◌, ◌%◌, ◌≤◌, Bool, true, false, not, nat_eq, nat_lt, ◌&&◌, ◌||◌, List, [], ◌∷◌, Result, Ok, Err, ◌⊎◌, inl, inr, refl, sym, ap, ◌∙◌, arith}
use Rattle.std.proofs.lemmas.Result.{err_from_is_err_and}
use Rattle.flac_bits.proofs.Counting.{answered_then, failed_then, refused_then}
use Rattle.flac_bits.proofs.Telling.{told_then, told_fault}
use Rattle.std.specs.Prelude.{⊤}
use Rattle.flac_bits.specs.State.{Cursor}
use Rattle.flac_bits.specs.Layout.{Rule, Reason, and_then, because, unless_broken}
use Rattle.flac_bits.specs.declared.why.Why.TheVariants.{NotStreamInfoFirst, ForbiddenType, RepeatedBlock, BlockLength}
use Rattle.flac_meta.specs.Header.{block_header, is_repeated, is_wrong_length}
use Rattle.flac_meta.specs.declared.block.Seen.{Seen}
use Rattle.flac_meta.specs.declared.block.BlockHeader.{BlockHeader}
use Rattle.flac_meta.proofs.Exits.{not_same}
use Rattle.flac_meta.proofs.block.read_block_header.Goals as goal
use Rattle.flac_meta.proofs.block.read_block_header.Goals.{in-0, in-2, in-3, in_default}

-- the bits of all three fields
spends_all : (old mid after new : ℕ) → mid + 1 ≤ old → after + 7 ≤ mid → new + 24 ≤ after → new + 32 ≤ old
spends_all old mid after new h k l = omega arith

-- ---- the rules of a header

abbrev rules_of : Seen → ℕ → ℕ → List Rule
rules_of seen kind length =
    record { broken = not seen.stream_info && not (nat_eq kind 0); why = NotStreamInfoFirst } ∷
    record { broken = nat_eq kind 127; why = ForbiddenType } ∷
    record { broken = is_repeated seen kind; why = RepeatedBlock } ∷
    record { broken = is_wrong_length kind length; why = BlockLength } ∷ []

may_come : (come : Bool) (kind : ℕ) → ((come ≡ false) × (kind ≡ 0)) ⊎ (come ≡ true) → (not come && not (nat_eq kind 0)) ≡ false
may_come come kind (inl h) = rw (h.0, h.1) refl
may_come come kind (inr e) = rw e refl

not_first : {X : Type 0} (seen : Seen) (kind length : ℕ) (read : Result X Reason) → seen.stream_info ≡ false → (kind ≡ 0 → ⊥)
    → unless_broken (rules_of seen kind length) read ≡ Err (because NotStreamInfoFirst)
not_first seen kind length read none other = rw (none, not_same kind 0 other) refl

forbidden : {X : Type 0} (seen : Seen) (kind length : ℕ) (read : Result X Reason) → ((seen.stream_info ≡ false) × (kind ≡ 0)) ⊎ (seen.stream_info ≡ true) → kind ≡ 127
    → unless_broken (rules_of seen kind length) read ≡ Err (because ForbiddenType)
forbidden seen kind length read come is =
    let test : nat_eq kind 127 ≡ true = rw is refl in
    rw (may_come seen.stream_info kind come, test) refl

repeated : {X : Type 0} (seen : Seen) (kind length : ℕ) (read : Result X Reason) → ((seen.stream_info ≡ false) × (kind ≡ 0)) ⊎ (seen.stream_info ≡ true) → (kind ≡ 127 → ⊥) → is_repeated seen kind ≡ true
    → unless_broken (rules_of seen kind length) read ≡ Err (because RepeatedBlock)
repeated seen kind length read come other twice = rw (may_come seen.stream_info kind come, not_same kind 127 other, twice) refl

too_wrong : {X : Type 0} (seen : Seen) (kind length : ℕ) (read : Result X Reason) → ((seen.stream_info ≡ false) × (kind ≡ 0)) ⊎ (seen.stream_info ≡ true) → (kind ≡ 127 → ⊥) → is_repeated seen kind ≡ false
    → is_wrong_length kind length ≡ true → unless_broken (rules_of seen kind length) read ≡ Err (because BlockLength)
too_wrong seen kind length read come other once wrong = rw (may_come seen.stream_info kind come, not_same kind 127 other, once, wrong) refl

kept : {X : Type 0} (seen : Seen) (kind length : ℕ) (read : Result X Reason) → ((seen.stream_info ≡ false) × (kind ≡ 0)) ⊎ (seen.stream_info ≡ true) → (kind ≡ 127 → ⊥) → is_repeated seen kind ≡ false
    → is_wrong_length kind length ≡ false → unless_broken (rules_of seen kind length) read ≡ read
kept seen kind length read come other once right = rw (may_come seen.stream_info kind come, not_same kind 127 other, once, right) refl

or_last : (x : Bool) → (x || false) ≡ x
or_last true = refl
or_last false = refl

or_first : (x : Bool) → (x || false || false) ≡ x
or_first true = refl
or_first false = refl

wrong_info : (kind length : ℕ) (wrong : Bool) → kind ≡ 0 → wrong ≡ not (nat_eq length 34) → is_wrong_length kind length ≡ wrong
wrong_info kind length wrong k w = rw (k, w) (or_first (not (nat_eq length 34)))

wrong_application : (kind length : ℕ) (wrong : Bool) → kind ≡ 2 → wrong ≡ nat_lt length 4 → is_wrong_length kind length ≡ wrong
wrong_application kind length wrong k w = rw (k, w) (or_last (nat_lt length 4))

wrong_table : (kind length : ℕ) (wrong : Bool) → kind ≡ 3 → wrong ≡ not (nat_eq (length % 18) 0) → is_wrong_length kind length ≡ wrong
wrong_table kind length wrong k w = rw (k, w) refl

wrong_other : (kind length : ℕ) (wrong : Bool) → (kind ≡ 0 → ⊥) → (kind ≡ 2 → ⊥) → (kind ≡ 3 → ⊥) → wrong ≡ false → is_wrong_length kind length ≡ wrong
wrong_other kind length wrong a b d w = rw (not_same kind 0 a, not_same kind 2 b, not_same kind 3 d, w) refl

pub returns-in_err-kind-clause-reading : goal.returns-in_err-kind-clause-reading
unfolding block_header
returns-in_err-kind-clause-reading g c =
    let p = err_from_is_err_and c.from_residual-in_err-kind.result c.from_residual-in_err-kind.ensures.1 in
    rw (p.1, p.2) (record {
      spends = tt;
      counts = failed_then c.args.bits.now c.take.new.self c.take-2.new.self c.in_ok-last.ensures.reading.counts c.in_err-kind.ensures.reading.counts;
      reads = told_then c.args.bits.now c.take.new.self c.take-2.new.self _ c.in_ok-last.ensures.reading.counts c.in_ok-last.ensures.reading.reads (told_fault c.take.new.self c.take-2.new.self _ c.in_err-kind.ensures.reading.reads);
    })

pub returns-in_err-length-clause-reading : goal.returns-in_err-length-clause-reading
unfolding block_header
returns-in_err-length-clause-reading g c =
    let p = err_from_is_err_and c.from_residual-in_err-length.result c.from_residual-in_err-length.ensures.1 in
    rw (p.1, p.2) (record {
      spends = tt;
      counts = failed_then c.args.bits.now c.take.new.self c.take-3.new.self c.in_ok-last.ensures.reading.counts (failed_then c.take.new.self c.take-2.new.self c.take-3.new.self c.in_ok-kind.ensures.reading.counts c.in_err-length.ensures.reading.counts);
      reads = told_then c.args.bits.now c.take.new.self c.take-3.new.self _ c.in_ok-last.ensures.reading.counts c.in_ok-last.ensures.reading.reads (told_then c.take.new.self c.take-2.new.self c.take-3.new.self _ c.in_ok-kind.ensures.reading.counts c.in_ok-kind.ensures.reading.reads (told_fault c.take-2.new.self c.take-3.new.self _ c.in_err-length.ensures.reading.reads));
    })

pub returns-clause-reading : goal.returns-clause-reading
unfolding block_header
returns-clause-reading g c =
    let kind = c.in_ok-kind.field-0 in
    let length = c.in_ok-length.field-0 in
    let wrong : is_wrong_length kind length ≡ c.match-kind.wrong_length = elim c.match-kind.branch [
      | in-0 w ↦ wrong_info kind length c.match-kind.wrong_length w.in-0.is w.wrong_length-is
      | in-2 w ↦ wrong_application kind length c.match-kind.wrong_length w.in-2.is w.wrong_length-is
      | in-3 w ↦ wrong_table kind length c.match-kind.wrong_length w.in-3.is w.wrong_length-is
      | in_default w ↦ wrong_other kind length c.match-kind.wrong_length (λ e. omega arith) (λ e. omega arith) (λ e. omega arith) w.wrong_length-is
    ] in
    let more : ⊤ → Cursor → Result (BlockHeader × Cursor) Reason = λ u d. Ok (record { last = nat_eq c.in_ok-last.field-0 1; kind = kind; length = length }, d) in
    record {
      spends = spends_all c.args.bits.now.most c.take.new.self.most c.take-2.new.self.most c.take-3.new.self.most c.in_ok-last.ensures.reading.spends c.in_ok-kind.ensures.reading.spends c.in_ok-length.ensures.reading.spends;
      counts = answered_then c.args.bits.now c.take.new.self c.take-3.new.self c.in_ok-last.ensures.reading.counts (answered_then c.take.new.self c.take-2.new.self c.take-3.new.self c.in_ok-kind.ensures.reading.counts c.in_ok-length.ensures.reading.counts);
      reads = told_then c.args.bits.now c.take.new.self c.take-3.new.self _ c.in_ok-last.ensures.reading.counts c.in_ok-last.ensures.reading.reads (told_then c.take.new.self c.take-2.new.self c.take-3.new.self _ c.in_ok-kind.ensures.reading.counts c.in_ok-kind.ensures.reading.reads
          (told_then c.take-2.new.self c.take-3.new.self c.take-3.new.self _ c.in_ok-length.ensures.reading.counts c.in_ok-length.ensures.reading.reads
          (λ known same. ap (λ r. and_then r more) (kept c.args.seen.now kind length (Ok (tt, c.take-3.new.self.cursor)) c.else-not-seen.either c.if-kind-eq127.false (sym c.has.ensures ∙ c.if-has.false) (wrong ∙ c.if-wrong_length.false)))));
    }

pub returns-in_err-last-clause-reading : goal.returns-in_err-last-clause-reading
unfolding block_header
returns-in_err-last-clause-reading g c =
    let p = err_from_is_err_and c.from_residual.result c.from_residual.ensures.1 in
    rw (p.1, p.2) (record {
      spends = tt;
      counts = c.in_err-last.ensures.reading.counts;
      reads = told_fault c.args.bits.now c.take.new.self _ c.in_err-last.ensures.reading.reads;
    })

pub returns-then-kind-ne0-clause-reading : goal.returns-then-kind-ne0-clause-reading
unfolding block_header
returns-then-kind-ne0-clause-reading g c = record {
  spends = tt;
  counts = refused_then c.args.bits.now c.take-3.new.self (answered_then c.args.bits.now c.take.new.self c.take-3.new.self c.in_ok-last.ensures.reading.counts (answered_then c.take.new.self c.take-2.new.self c.take-3.new.self c.in_ok-kind.ensures.reading.counts c.in_ok-length.ensures.reading.counts)) refl;
  reads = told_then c.args.bits.now c.take.new.self c.take-3.new.self _ c.in_ok-last.ensures.reading.counts c.in_ok-last.ensures.reading.reads (told_then c.take.new.self c.take-2.new.self c.take-3.new.self _ c.in_ok-kind.ensures.reading.counts c.in_ok-kind.ensures.reading.reads
      (told_then c.take-2.new.self c.take-3.new.self c.take-3.new.self _ c.in_ok-length.ensures.reading.counts c.in_ok-length.ensures.reading.reads
      (told_fault c.take-3.new.self c.take-3.new.self _ (λ known same. not_first c.args.seen.now c.in_ok-kind.field-0 c.in_ok-length.field-0 (Ok (tt, c.take-3.new.self.cursor)) c.if-not-seen.true c.if-kind-ne0.true))));
}

pub returns-then-kind-eq127-clause-reading : goal.returns-then-kind-eq127-clause-reading
unfolding block_header
returns-then-kind-eq127-clause-reading g c = record {
  spends = tt;
  counts = refused_then c.args.bits.now c.take-3.new.self (answered_then c.args.bits.now c.take.new.self c.take-3.new.self c.in_ok-last.ensures.reading.counts (answered_then c.take.new.self c.take-2.new.self c.take-3.new.self c.in_ok-kind.ensures.reading.counts c.in_ok-length.ensures.reading.counts)) refl;
  reads = told_then c.args.bits.now c.take.new.self c.take-3.new.self _ c.in_ok-last.ensures.reading.counts c.in_ok-last.ensures.reading.reads (told_then c.take.new.self c.take-2.new.self c.take-3.new.self _ c.in_ok-kind.ensures.reading.counts c.in_ok-kind.ensures.reading.reads
      (told_then c.take-2.new.self c.take-3.new.self c.take-3.new.self _ c.in_ok-length.ensures.reading.counts c.in_ok-length.ensures.reading.reads
      (told_fault c.take-3.new.self c.take-3.new.self _ (λ known same. forbidden c.args.seen.now c.in_ok-kind.field-0 c.in_ok-length.field-0 (Ok (tt, c.take-3.new.self.cursor)) c.else-not-seen.either c.if-kind-eq127.true))));
}

pub returns-then-has-clause-reading : goal.returns-then-has-clause-reading
unfolding block_header
returns-then-has-clause-reading g c = record {
  spends = tt;
  counts = refused_then c.args.bits.now c.take-3.new.self (answered_then c.args.bits.now c.take.new.self c.take-3.new.self c.in_ok-last.ensures.reading.counts (answered_then c.take.new.self c.take-2.new.self c.take-3.new.self c.in_ok-kind.ensures.reading.counts c.in_ok-length.ensures.reading.counts)) refl;
  reads = told_then c.args.bits.now c.take.new.self c.take-3.new.self _ c.in_ok-last.ensures.reading.counts c.in_ok-last.ensures.reading.reads (told_then c.take.new.self c.take-2.new.self c.take-3.new.self _ c.in_ok-kind.ensures.reading.counts c.in_ok-kind.ensures.reading.reads
      (told_then c.take-2.new.self c.take-3.new.self c.take-3.new.self _ c.in_ok-length.ensures.reading.counts c.in_ok-length.ensures.reading.reads
      (told_fault c.take-3.new.self c.take-3.new.self _ (λ known same. repeated c.args.seen.now c.in_ok-kind.field-0 c.in_ok-length.field-0 (Ok (tt, c.take-3.new.self.cursor)) c.else-not-seen.either c.if-kind-eq127.false (sym c.has.ensures ∙ c.if-has.true)))));
}

pub returns-then-wrong_length-clause-reading : goal.returns-then-wrong_length-clause-reading
unfolding block_header
returns-then-wrong_length-clause-reading g c =
    let kind = c.in_ok-kind.field-0 in
    let length = c.in_ok-length.field-0 in
    let wrong : is_wrong_length kind length ≡ c.match-kind.wrong_length = elim c.match-kind.branch [
      | in-0 w ↦ wrong_info kind length c.match-kind.wrong_length w.in-0.is w.wrong_length-is
      | in-2 w ↦ wrong_application kind length c.match-kind.wrong_length w.in-2.is w.wrong_length-is
      | in-3 w ↦ wrong_table kind length c.match-kind.wrong_length w.in-3.is w.wrong_length-is
      | in_default w ↦ wrong_other kind length c.match-kind.wrong_length (λ e. omega arith) (λ e. omega arith) (λ e. omega arith) w.wrong_length-is
    ] in
    record {
      spends = tt;
      counts = refused_then c.args.bits.now c.take-3.new.self (answered_then c.args.bits.now c.take.new.self c.take-3.new.self c.in_ok-last.ensures.reading.counts (answered_then c.take.new.self c.take-2.new.self c.take-3.new.self c.in_ok-kind.ensures.reading.counts c.in_ok-length.ensures.reading.counts)) refl;
      reads = told_then c.args.bits.now c.take.new.self c.take-3.new.self _ c.in_ok-last.ensures.reading.counts c.in_ok-last.ensures.reading.reads (told_then c.take.new.self c.take-2.new.self c.take-3.new.self _ c.in_ok-kind.ensures.reading.counts c.in_ok-kind.ensures.reading.reads
          (told_then c.take-2.new.self c.take-3.new.self c.take-3.new.self _ c.in_ok-length.ensures.reading.counts c.in_ok-length.ensures.reading.reads
          (told_fault c.take-3.new.self c.take-3.new.self _ (λ known same. too_wrong c.args.seen.now kind length (Ok (tt, c.take-3.new.self.cursor)) c.else-not-seen.either c.if-kind-eq127.false (sym c.has.ensures ∙ c.if-has.false) (wrong ∙ c.if-wrong_length.true)))));
    }
