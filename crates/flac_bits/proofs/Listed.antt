-- Why a list of fields cannot be read: the next of them cannot.
use Rattle.std.proofs.Common.{◌≡◌, ℕ, ◌+◌, ◌-◌, ◌<◌, true, List, [], ◌∷◌, ◌++◌, Err, sym, ap, ◌∙◌}
use Rattle.flac_bits.specs.State.{State}
use Rattle.flac_bits.specs.Layout.{Layout, run, and_then, Reason}
use Rattle.flac_bits.specs.Lists.{list_of, after}
use Rattle.flac_bits.specs.inner.Reading.{Goes}
use Rattle.flac_bits.proofs.Lists.{list_more}

pub list_cut : {A : Type 0} (n i : ℕ) (field : Layout A) (front : List A) (why : Reason) (old now : State) → i < n
    → Goes old now (and_then (run (list_of (n - i) field) now.cursor) (after front)) (run (list_of n field) old.cursor) → old.known ≡ true
    → run field now.cursor ≡ Err why → run (list_of n field) old.cursor ≡ Err why
list_cut n i field front why old now lt goes known cut =
    sym (goes.reads known) ∙ list_more n i field now.cursor front lt
    ∙ ap (λ r. and_then r (λ v d. and_then (run (list_of (n - (i + 1)) field) d) (after (front ++ v ∷ [])))) cut
