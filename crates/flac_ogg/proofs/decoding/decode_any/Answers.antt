use Rattle.std.proofs.Common.{rules, ◌≡◌, ◌<◌, ◌++◌, ℕ, Bool, List, Option, Result, Ok, ◌∙◌, inr, refl, sym, ap, arith}
use Rattle.std.proofs.lemmas.Result.{err_from_is_err_and}
use Rattle.flac_bits.specs.Bits.{bits_of}
use Rattle.flac_bits.specs.State.{After, short_of}
use Rattle.flac_bits.specs.Handing.{Hands, Decides}
use Rattle.flac_bits.specs.declared.why.Why.{Why}
use Rattle.flac_bits.specs.declared.why.Why.TheVariants.{Read, Sink, Write}
use Rattle.flac_header.specs.declared.subset.Profile.{Profile}
use Rattle.flac_native.specs.Stream.{Piece}
use Rattle.flac_native.specs.declared.fault.Fault.{Fault}
use Rattle.flac_native.specs.declared.fault.Place.{Place}
use Rattle.flac_ogg.specs.Fronts.{front_bytes}
use Rattle.flac_native.specs.Decoding.{taken, beginning}
use Rattle.flac_native.proofs.Received.{same_end}
use Rattle.flac_ogg.specs.Either.{begins_page, read_either, read_any}
use Rattle.flac_ogg.proofs.FirstByte.{nothing_came, hands_by_byte, decides_by_byte, first_of}
use Rattle.flac_ogg.proofs.decoding.decode_any.Goals as goal

-- a stream is yielded from its first byte on
hands_all : {K : Type 0} (profile : Profile) (takes : K → Piece → K → Type 0) (errors : K → ℕ) (b b' : Bool) (h h' : After) (l l' : List ℕ) (e e' r r' en en' rn rn' : ℕ) (sink new : K) (outcome : Option (Place × Why)) → b ≡ b' → h ≡ h' → l ≡ l' → e ≡ e' → r ≡ r'
    → en ≡ en' → rn ≡ rn' → Hands (read_either profile b' (beginning (short_of h'.fails)) (bits_of l')) takes errors ((en' ≡ e') × (rn' ≡ r')) sink new outcome
    → Hands (read_any profile b (beginning (short_of h.fails)) (bits_of l)) takes errors ((en ≡ e) × (rn ≡ r)) sink new outcome
hands_all profile takes errors b b' h h' l l' e e' r r' en en' rn rn' sink new outcome bs hs ls es rs ens rns given = rw (bs, hs, ls, es, rs, ens, rns) (hands_by_byte _ takes errors _ sink new outcome given)

decides_all : (profile : Profile) (b b' : Bool) (h h' : After) (l l' : List ℕ) (e e' r r' en en' rn rn' : ℕ) (outcome : Option (Place × Why)) → b ≡ b' → h ≡ h' → l ≡ l' → e ≡ e' → r ≡ r' → en ≡ en' → rn ≡ rn' → en ≡ e → rn ≡ r
    → (en' ≡ e' → rn' ≡ r' → Decides (read_either profile b' (beginning (short_of h'.fails)) (bits_of l')) outcome) → Decides (read_any profile b (beginning (short_of h.fails)) (bits_of l)) outcome
decides_all profile b b' h h' l l' e e' r r' en en' rn rn' outcome bs hs ls es rs ens rns same kept given = rw (bs, hs, ls) (decides_by_byte _ outcome (given (sym ens ∙ same ∙ es) (sym rns ∙ kept ∙ rs)))

abbrev ok_front : Option ℕ → Result (Option ℕ) Fault
ok_front o = Ok o

pub returns-clause-hands : goal.returns-clause-hands
returns-clause-hands g c = λ known receives.
    let R = g.R.Source in
    let source = c.args.source.now in
    let mid = c.pull_front.new.source in
    let front = c.in_ok-front.front in
    let ok = c.in_ok-front.ensures in
    let bytes = ok.bytes known in
    hands_all c.args.profile (taken g.S.Sink.takes) g.S.Sink.errors (begins_page (R.coming source)) c.begins_page.result (R.after source) (R.after mid) (R.coming source) (front_bytes front ++ R.coming mid) (R.errors source) (R.errors mid) (R.raised source) (R.raised mid) _ (R.errors c.decode_as-outcome.new.source.source.now) _ (R.raised c.decode_as-outcome.new.source.source.now) _ _ _
    (first_of front (R.coming mid) (R.coming source) bytes (λ none. ok.end (ap ok_front none) known) ∙ sym c.begins_page.ensures)
    (sym (ok.after known ok.counted.0))
    bytes
    (sym ok.counted.0)
    (sym ok.counted.1)
    (search rules)
    (search rules)
    (c.decode_as-outcome.ensures.hands (ok.known known) receives)

pub returns-clause-decides : goal.returns-clause-decides
returns-clause-decides g c = λ known receives errors raised same.
    let R = g.R.Source in
    let source = c.args.source.now in
    let mid = c.pull_front.new.source in
    let front = c.in_ok-front.front in
    let ok = c.in_ok-front.ensures in
    let bytes = ok.bytes known in
    decides_all c.args.profile (begins_page (R.coming source)) c.begins_page.result (R.after source) (R.after mid) (R.coming source) (front_bytes front ++ R.coming mid) (R.errors source) (R.errors mid) (R.raised source) (R.raised mid) _ (R.errors c.decode_as-outcome.new.source.source.now) _ (R.raised c.decode_as-outcome.new.source.source.now) _
    (first_of front (R.coming mid) (R.coming source) bytes (λ none. ok.end (ap ok_front none) known) ∙ sym c.begins_page.ensures)
    (sym (ok.after known ok.counted.0))
    bytes
    (sym ok.counted.0)
    (sym ok.counted.1)
    (search rules)
    (search rules)
    errors
    raised
    (λ e r. c.decode_as-outcome.ensures.decides (ok.known known) receives e r same)

not_risen : (old new : ℕ) → old < new → new ≡ old → ⊥
not_risen old new rose same = omega (arith, rose, same)

read_sink : (why : Why) → why ≡ Read → why ≡ Sink → ⊥
read_sink why is e = let t : Read ≡ Sink = sym is ∙ e in absurd cc

read_write : (why : Why) → why ≡ Read → why ≡ Write → ⊥
read_write why is e = let t : Read ≡ Write = sym is ∙ e in absurd cc

pub returns-in_err-front : goal.returns-in_err-front
returns-in_err-front g c =
    let p = err_from_is_err_and c.from_residual.result c.from_residual.ensures.1 in
    let e = c.in_err-front.ensures in
    let R = g.R.Source in
    let source = c.args.source.now in
    rw (p.1, p.2) (record {
      hands = λ known receives.
          nothing_came c.args.profile (begins_page (R.coming source)) (beginning (short_of ((R.after source).fails))) (bits_of (R.coming source)) (taken g.S.Sink.takes) g.S.Sink.errors _ c.args.sink.now _ (λ q. not_risen _ _ (e.rises known) q.1)
          (λ at why is. let told = same_end _ at _ why is in (sym told.0 ∙ e.place, sym told.1 ∙ e.why));
      decides = λ known receives errors raised same. absurd (not_risen _ _ (e.rises known) raised);
      counted = tt;
      raised = tt;
      kept = e.kept;
      read = λ known calm is. inr (e.rises known);
      risen = λ is. e.risen;
      sink = λ is. absurd (read_sink _ e.why is);
      write = λ is. read_write _ e.why is;
      names = refl;
      source_names = e.names;
    })
