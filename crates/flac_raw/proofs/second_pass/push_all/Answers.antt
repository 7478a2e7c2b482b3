use Rattle.std.proofs.Common.{◌≡◌, ◌≤◌, ◌<◌, ◌-◌, ◌∙◌, Bool, true, false, refl, sym, ap, ℕ, ℤ, List, [], Vec, Global, length, map, arith, inl, inr}
use Rattle.std.proofs.lemmas.Result.{err_from_is_err_and}
use Rattle.std.specs.Prelude.{◌⊎◌, Option, Some}
use Rattle.flac_native.specs.declared.fault.EncodeFault.{EncodeFault}
use Rattle.flac_encoder.specs.Pushing.{Shape, push_fault}
use Rattle.flac_raw.specs.Encoded.{IsOutside}
use Rattle.flac_raw.specs.inner.Pushed.{draft_in, pushed_as, AreFit}
use Rattle.flac_raw.specs.declared.raw_fault.RawEncodeFault.{RawEncodeFault}
use Rattle.flac_raw.specs.declared.raw_fault.RawEncodeFault.TheVariants.{Changed}
use Rattle.flac_raw.specs.Raw.{raw_channels}
use Rattle.flac_raw.proofs.Taken.{taken_bytes, read_none, read_more}
use Rattle.flac_raw.proofs.Stepping.{pushed_none, pushed_more, too_many, next_is, refused_is, fit_is, rows_each, nothing_came, still_going, last_block, all_fit, too_few, part_left, fails_since}
use Rattle.flac_raw.proofs.second_pass.push_all.Goals as goal

ended_not : {X : Type 0} (b : Bool) → b ≡ false → b ≡ true → X
ended_not b e f = absurd cc

pub pieces-init : goal.pieces-init
pieces-init g c = record {
  known = λ known. known;
  raised = refl;
  channels = refl;
  width = refl;
  size = refl;
  container = refl;
  read = λ known. read_none (draft_in c.args.draft.now).pushed.shape.bits (length c.args.blocks.now.lists.items) c.args.blocks.now.width (g.R.Source.coming c.args.source.now);
  so = pushed_none (draft_in c.args.draft.now) c.args.blocks.now.size c.args.total c.requires.fresh c.requires.same.least;
  last = λ known ended. ended_not (draft_in c.args.draft.now).pushed.ended c.requires.fresh.ended ended;
  drafts = λ known told before d. d;
  told = λ told. told;
  counted = refl;
  names = refl;
  through = refl;
}

pub returns-in_err-taken : goal.returns-in_err-taken
returns-in_err-taken g c =
    let p = err_from_is_err_and c.from_residual.result c.from_residual.ensures.1 in
    let inv = c.pieces.invariant in
    rw (p.1, p.2) (record {
      all = tt;
      draft = tt;
      has = tt;
      container = inv.container;
      asked = tt;
      samples = tt;
      known = tt;
      counted = tt;
      refused = λ known same. part_left (draft_in c.args.draft.now).pushed.shape.bits (length c.pieces.blocks.lists.items) (length c.args.blocks.now.lists.items) c.pieces.blocks.width c.args.blocks.now.width c.args.total c.pieces.pushed (g.R.Source.coming c.args.source.now)
          (g.R.Source.coming c.pieces.source) _ inv.channels inv.width (inv.read known) (c.in_err-taken.ensures.refused (inv.known known) (same ∙ sym inv.raised));
      failed = λ is. absurd (c.in_err-taken.ensures.unwritten is);
      names = inv.names;
      through = c.in_err-taken.ensures.names ∙ inv.through;
    })

pub pieces-preserved : goal.pieces-preserved
pieces-preserved g c =
    let inv = c.pieces.invariant in
    let e = c.in_ok-taken.ensures in
    let ok = c.in_ok-push_block.ensures in
    let items : Vec ℤ Global → List ℤ = λ v. v.items in
    let first = draft_in c.args.draft.now in
    let was = draft_in c.pieces.draft in
    let now = draft_in c.push_block.new.draft in
    let bits = first.pushed.shape.bits in
    let count : ℕ = length c.args.blocks.now.lists.items in
    let width : ℕ = c.args.blocks.now.width in
    let size : ℕ = c.args.blocks.now.size in
    let total : ℕ = c.args.total in
    let pushed : ℕ = c.pieces.pushed in
    let n : ℕ = c.in_ok-taken.taken in
    let all = g.R.Source.coming c.args.source.now in
    let coming = g.R.Source.coming c.pieces.source in
    let later = g.R.Source.coming c.next_block.new.source in
    let channels : List (List ℤ) = map items c.next_block.new.blocks.lists.items in
    let took = λ (known : g.R.Source.known c.args.source.now ≡ true).
    taken_bytes g.R.Source (length c.pieces.blocks.lists.items) count c.pieces.blocks.width width n c.pieces.source c.next_block.new.source channels inv.channels inv.width e.rows (inv.known known) in
    let each = rows_each g.R.Source (length c.pieces.blocks.lists.items) c.pieces.blocks.width n c.pieces.source c.next_block.new.source channels e.rows c.pieces.blocks.channels.0 in
    let more : 0 < n = omega (arith, c.if-count-eq0.false) in
    let room : n ≤ total - pushed = omega (arith, c.if-count-total.false) in
    let few : n ≤ size = omega (arith, e.few, inv.size) in
    let end = λ (known : g.R.Source.known c.args.source.now ≡ true) (lt : n < size). e.end (omega (arith, lt, inv.size)) (inv.known known) in
    let size_is : was.pushed.shape.block_size ≡ size = ap (λ (s : Shape). s.block_size) inv.so.asked.shape ∙ c.requires.same.block in
    let going = λ (known : g.R.Source.known c.args.source.now ≡ true). still_going was.pushed.ended count width n coming later channels (took known) c.requires.same.some c.requires.same.wide (inv.last known) more in
    record {
      known = λ known. e.known (inv.known known);
      raised = e.raised ∙ inv.raised;
      channels = e.channels ∙ inv.channels;
      width = e.width ∙ inv.width;
      size = e.size ∙ inv.size;
      container = ok.container ∙ inv.container;
      read = λ known.
          let fit = fit_is first was bits count width size total pushed n all coming later channels inv.so (inv.read known) (took known) c.requires.same c.requires.fresh.spent c.requires.total c.requires.few refl (going known) more few room ok.accepted in
          read_more bits count width all coming later pushed n true true channels (inv.read known) (took known) (sym fit);
      so = pushed_more first was now channels size total pushed n inv.so c.requires.shape c.requires.same.block c.requires.same.least ok.accepted ok.next ok.list ok.stated each room;
      last = λ known ended. last_block was.pushed now.pushed channels size n later ok.next size_is each (end known) ended;
      drafts = λ known told before d.
          ok.draft (inv.told told) (raw_channels count width all) before (inv.drafts known told before d)
          (next_is first was bits count width size total pushed n all coming later channels inv.so (inv.read known) (took known) c.requires.same (going known) more few (end known));
      told = λ told. ok.known (inv.told told);
      counted = ok.counted ∙ inv.counted;
      names = ok.names ∙ inv.names;
      through = e.names ∙ inv.through;
    }

pub returns-then-count-total-clause-refused : goal.returns-then-count-total-clause-refused
returns-then-count-total-clause-refused g c = λ known same.
    let inv = c.pieces.invariant in
    let e = c.in_ok-taken.ensures in
    let items : Vec ℤ Global → List ℤ = λ v. v.items in
    let first = draft_in c.args.draft.now in
    let was = draft_in c.pieces.draft in
    let bits = first.pushed.shape.bits in
    let count : ℕ = length c.args.blocks.now.lists.items in
    let width : ℕ = c.args.blocks.now.width in
    let size : ℕ = c.args.blocks.now.size in
    let total : ℕ = c.args.total in
    let pushed : ℕ = c.pieces.pushed in
    let n : ℕ = c.in_ok-taken.taken in
    let all = g.R.Source.coming c.args.source.now in
    let coming = g.R.Source.coming c.pieces.source in
    let later = g.R.Source.coming c.next_block.new.source in
    let channels : List (List ℤ) = map items c.next_block.new.blocks.lists.items in
    let took = taken_bytes g.R.Source (length c.pieces.blocks.lists.items) count c.pieces.blocks.width width n c.pieces.source c.next_block.new.source channels inv.channels inv.width e.rows (inv.known known) in
    inr (refl, too_many first was bits count width size total pushed n all coming later channels inv.so (inv.read known) took c.requires.same (omega (arith, c.if-count-total.true)))

pub returns-then-pushed-total-clause-refused : goal.returns-then-pushed-total-clause-refused
returns-then-pushed-total-clause-refused g c = λ known same.
    let inv = c.pieces.invariant in
    let e = c.in_ok-taken.ensures in
    let items : Vec ℤ Global → List ℤ = λ v. v.items in
    let first = draft_in c.args.draft.now in
    let was = draft_in c.pieces.draft in
    let bits = first.pushed.shape.bits in
    let count : ℕ = length c.args.blocks.now.lists.items in
    let width : ℕ = c.args.blocks.now.width in
    let size : ℕ = c.args.blocks.now.size in
    let total : ℕ = c.args.total in
    let pushed : ℕ = c.pieces.pushed in
    let n : ℕ = c.in_ok-taken.taken in
    let all = g.R.Source.coming c.args.source.now in
    let coming = g.R.Source.coming c.pieces.source in
    let later = g.R.Source.coming c.next_block.new.source in
    let channels : List (List ℤ) = map items c.next_block.new.blocks.lists.items in
    let took = taken_bytes g.R.Source (length c.pieces.blocks.lists.items) count c.pieces.blocks.width width n c.pieces.source c.next_block.new.source channels inv.channels inv.width e.rows (inv.known known) in
    let none : n ≡ 0 = omega (arith, c.if-count-eq0.true) in
    let end : later ≡ [] = e.end (omega (arith, none, inv.size, c.requires.same.least)) (inv.known known) in
    let left : coming ≡ [] = nothing_came count width n coming later channels took none end in
    inr (refl, too_few bits count width total pushed all coming (inv.read known) left c.requires.same.some c.requires.same.wide (omega (arith, c.if-pushed-total.true)))

pub returns-then-count-eq0-clause-all : goal.returns-then-count-eq0-clause-all
returns-then-count-eq0-clause-all g c = λ known.
    let inv = c.pieces.invariant in
    let e = c.in_ok-taken.ensures in
    let items : Vec ℤ Global → List ℤ = λ v. v.items in
    let first = draft_in c.args.draft.now in
    let was = draft_in c.pieces.draft in
    let bits = first.pushed.shape.bits in
    let count : ℕ = length c.args.blocks.now.lists.items in
    let width : ℕ = c.args.blocks.now.width in
    let size : ℕ = c.args.blocks.now.size in
    let total : ℕ = c.args.total in
    let pushed : ℕ = c.pieces.pushed in
    let n : ℕ = c.in_ok-taken.taken in
    let all = g.R.Source.coming c.args.source.now in
    let coming = g.R.Source.coming c.pieces.source in
    let later = g.R.Source.coming c.next_block.new.source in
    let channels : List (List ℤ) = map items c.next_block.new.blocks.lists.items in
    let took = taken_bytes g.R.Source (length c.pieces.blocks.lists.items) count c.pieces.blocks.width width n c.pieces.source c.next_block.new.source channels inv.channels inv.width e.rows (inv.known known) in
    let none : n ≡ 0 = omega (arith, c.if-count-eq0.true) in
    let end : later ≡ [] = e.end (omega (arith, none, inv.size, c.requires.same.least)) (inv.known known) in
    let left : coming ≡ [] = nothing_came count width n coming later channels took none end in
    all_fit bits count width total pushed all coming (inv.read known) left c.requires.same.some c.requires.same.wide (omega (arith, c.if-pushed-total.false, inv.so.most))

-- what a push was refused for
stopped : (bits count width total : ℕ) (all : List ℕ) (o : Option EncodeFault) (e : RawEncodeFault) → ((f : EncodeFault) → o ≡ Some f → e ≡ pushed_as f → (e ≡ Changed) × (AreFit bits count width total all → ⊥))
    → IsOutside e ⊎ ((f : EncodeFault) × (o ≡ Some f) × (e ≡ pushed_as f)) → IsOutside e ⊎ ((e ≡ Changed) × (AreFit bits count width total all → ⊥))
stopped bits count width total all o e why (inl outside) = inl outside
stopped bits count width total all o e why (inr bad) = inr (why bad.0 bad.1 bad.2)

pub returns-in_err-push_block-clause-refused : goal.returns-in_err-push_block-clause-refused
returns-in_err-push_block-clause-refused g c =
    let p = err_from_is_err_and c.from_residual-in_err-push_block.result c.from_residual-in_err-push_block.ensures.1 in
    rw (p.1, p.2) (λ known same.
    let inv = c.pieces.invariant in
    let e = c.in_ok-taken.ensures in
    let items : Vec ℤ Global → List ℤ = λ v. v.items in
    let first = draft_in c.args.draft.now in
    let was = draft_in c.pieces.draft in
    let bits = first.pushed.shape.bits in
    let count : ℕ = length c.args.blocks.now.lists.items in
    let width : ℕ = c.args.blocks.now.width in
    let size : ℕ = c.args.blocks.now.size in
    let total : ℕ = c.args.total in
    let pushed : ℕ = c.pieces.pushed in
    let n : ℕ = c.in_ok-taken.taken in
    let all = g.R.Source.coming c.args.source.now in
    let coming = g.R.Source.coming c.pieces.source in
    let later = g.R.Source.coming c.next_block.new.source in
    let channels : List (List ℤ) = map items c.next_block.new.blocks.lists.items in
    let took = taken_bytes g.R.Source (length c.pieces.blocks.lists.items) count c.pieces.blocks.width width n c.pieces.source c.next_block.new.source channels inv.channels inv.width e.rows (inv.known known) in
    let more : 0 < n = omega (arith, c.if-count-eq0.false) in
    let room : n ≤ total - pushed = omega (arith, c.if-count-total.false) in
    let few : n ≤ size = omega (arith, e.few, inv.size) in
    let going = still_going was.pushed.ended count width n coming later channels took c.requires.same.some c.requires.same.wide (inv.last known) more in
    stopped bits count width total all (push_fault was.pushed channels) _
    (λ f fault is. refused_is first was bits count width size total pushed n all coming later channels inv.so (inv.read known) took c.requires.same c.requires.fresh.spent c.requires.total c.requires.few refl going more few room f _ fault is)
    c.in_err-push_block.ensures.refused)

pub returns-in_err-push_block-clause-failed : goal.returns-in_err-push_block-clause-failed
returns-in_err-push_block-clause-failed g c =
    let p = err_from_is_err_and c.from_residual-in_err-push_block.result c.from_residual-in_err-push_block.ensures.1 in
    let inv = c.pieces.invariant in
    rw (p.1, p.2) (λ is. (
      (draft_in c.push_block.new.draft).pushed.target,
      fails_since g.W.Target (draft_in c.args.draft.now).pushed.target (draft_in c.pieces.draft).pushed.target (draft_in c.push_block.new.draft).pushed.target inv.told inv.counted inv.names (c.in_err-push_block.ensures.failed is),
    ))
