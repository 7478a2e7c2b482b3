-- Inter-channel samples that are counted to the end.
use Rattle.std.proofs.Common.{◌≡◌, ℕ, ◌+◌, ◌≤◌, true, false, ℤ, List, [], ◌∷◌, ◌++◌, length, length-append, append_assoc, Option, Ok, Err, refl, sym, ap, ◌∙◌, arith}
use Rattle.std.proofs.lemmas.List.{append-nil}
use Rattle.flac_bits.specs.declared.why.Why.{Why}
use Rattle.flac_bits.specs.declared.why.Why.TheVariants.{Memory}
use Rattle.flac_native.specs.declared.fault.Place.{Place}
use Rattle.flac_native.specs.declared.fault.Fault.{Fault}
use Rattle.flac_native.specs.declared.container.Container as container
use Rattle.flac_reader.specs.Coming.{size_of}
use Rattle.flac_reader.specs.Giving.{last_frame}
use Rattle.flac_reader.specs.declared.reader.Reader.{Reader}
use Rattle.flac_compare.specs.Samples.{samples_of}
use Rattle.flac_compare.specs.Compared.{counted}
use Rattle.flac_compare.specs.inner.Stepping.{Stays, MeetsNone, IsKnown, left_in, SamplesLeft, Enters, CountsRest}
use Rattle.flac_compare.proofs.Counts.{counted_more}
use Rattle.flac_compare.proofs.Samples.{left_none, left_length}
use Rattle.flac_compare.proofs.Onwards.{stays_same, stays_both, met_same, met_both, calm_last}

-- some samples were counted, and these come
pub record Counts {C : Type 0} {g : container.Ghosts C} (now : Reader C g) (left count : ℕ) (samples : List (List ℤ)) (end : Option (Place × Why)) : Type 0 where
  pub passed : List (List ℤ)
  pub rest : List (List ℤ)
  pub split : samples ≡ passed ++ rest
  pub counts : count ≡ counted (length passed)
  pub come : SamplesLeft now left rest end

pub record CountsSoFar {C : Type 0} {g : container.Ghosts C} (old : Reader C g) (from : ℕ) (now : Reader C g) (left count : ℕ) : Type 0 where
  pub stays : Stays old now
  pub met : MeetsNone old now
  pub within : left ≤ size_of (last_frame now)
  pub counts : IsKnown old → (samples : List (List ℤ)) (end : Option (Place × Why)) → SamplesLeft old from samples end → Counts now left count samples end

pub counts_start : {C : Type 0} {g : container.Ghosts C} (old : Reader C g) (from : ℕ) → from ≤ size_of (last_frame old) → CountsSoFar old from old from 0
counts_start old from within = record {
  stays = stays_same old;
  met = met_same old;
  within = within;
  counts = λ known samples end q. record { passed = []; rest = samples; split = refl; counts = refl; come = q };
}

-- what is left of a frame is passed
pub passed_left : {C : Type 0} {g : container.Ghosts C} (r : Reader C g) (left : ℕ) (samples : List (List ℤ)) (end : Option (Place × Why)) (q : SamplesLeft r left samples end) → SamplesLeft r 0 (samples_of q.frames) end
passed_left r left samples end q = record {
  frames = q.frames;
  split = ap (λ l. l ++ samples_of q.frames) (sym (left_none (last_frame r)));
  come = q.come;
}

pub counts_turn : {C : Type 0} {g : container.Ghosts C} (old : Reader C g) (from : ℕ) (now new : Reader C g) (left more count total : ℕ) → CountsSoFar old from now left count → Stays now new → MeetsNone now new → more ≤ size_of (last_frame new)
    → Enters now left new more (Ok true) → total ≡ counted (count + more) → CountsSoFar old from new 0 total
counts_turn old from now new left more count total far stays met within enters sums = record {
  stays = stays_both old now new far.stays stays;
  met = met_both old now new far.met met;
  within = omega arith;
  counts = λ known samples end q.
      let p = far.counts known samples end q in
      let e = enters (far.met.0 known) p.rest end p.come in
      let held = left_in (last_frame new) more in
      record {
        passed = p.passed ++ held;
        rest = samples_of e.frames;
        split = p.split ∙ ap (λ l. p.passed ++ l) e.split ∙ sym (append_assoc p.passed held (samples_of e.frames));
        counts = sums ∙ ap (λ n. counted (n + more)) p.counts ∙ counted_more (length p.passed) more ∙ ap counted (ap (λ n. length p.passed + n) (sym (left_length (last_frame new) more within)) ∙ sym (length-append p.passed held));
        come = passed_left new more p.rest end e;
      };
}

pub counts_end : {C : Type 0} {g : container.Ghosts C} (old : Reader C g) (from : ℕ) (now new : Reader C g) (left more count : ℕ) → CountsSoFar old from now left count → Enters now left new more (Ok false) → CountsRest old from new (Ok count)
counts_end old from now new left more count far enters = λ known samples end q.
    let p = far.counts known samples end q in
    let e = enters (far.met.0 known) p.rest end p.come in
    (p.counts ∙ ap (λ l. counted (length l)) (sym (p.split ∙ ap (λ l. p.passed ++ l) e.0 ∙ append-nil p.passed)), e.1)

pub counts_refusal : {C : Type 0} {g : container.Ghosts C} (old : Reader C g) (from : ℕ) (now new : Reader C g) (left more count : ℕ) (f : Fault) → CountsSoFar old from now left count → Enters now left new more (Err f) → CountsRest old from new (Err f)
counts_refusal old from now new left more count f far enters = λ calm other samples end q.
    let p = far.counts calm.0 samples end q in
    (enters (calm_last old now new far.met calm) other p.rest end p.come).1

pub counts_no_more : {C : Type 0} {g : container.Ghosts C} (old : Reader C g) (from : ℕ) (new : Reader C g) (f : Fault) → f.why ≡ Memory → CountsRest old from new (Err f)
counts_no_more old from new f is = λ calm other. absurd (other is)
