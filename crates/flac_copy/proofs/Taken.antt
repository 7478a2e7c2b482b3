-- Packets that are taken whole.
use Rattle.std.proofs.Common.{◌≡◌, ℕ, Bool, true, false, List, [], ◌∷◌, ◌++◌, Option, Result, Ok, Err, OnOk, IfOk, refl, sym, ap, subst, ◌∙◌, append_assoc}
use Rattle.std.specs.Bool.{⊤}
use Rattle.std.specs.Borrow.{GName}
use Rattle.std.proofs.lemmas.List.{append-nil}
use Rattle.flac_bits.specs.Bits.{bits_of, is_nil}
use Rattle.flac_bits.specs.State.{Mark, Cursor, State, After, Consumes, short_of, without_fence}
use Rattle.flac_bits.specs.Reading.{Counts}
use Rattle.flac_bits.specs.declared.why.Why.{Why}
use Rattle.flac_bits.proofs.Copied.{consumes_more}
use Rattle.flac_bits.proofs.Meaning.{past-short}
use Rattle.flac_pages.specs.Packets.{Place, OnPage, rest_of, after_of, Begins}
use Rattle.flac_pages.specs.Items.{PacketEnd, whole, unended, cut_at, end_of, after_item, IsAtPacket, JudgesPacket, GoesAfter}
use Rattle.flac_copy.specs.Packets.{TakesBytes, HoldsPacket, HoldsNext}

-- nothing was taken yet
pub none_taken : (s : State) (from : List ℕ) → TakesBytes s s from from
none_taken s from known = ([], sym (append-nil from), (refl, refl))

-- further bytes were taken
pub more_taken : (s0 s1 s2 : State) (from mid to piece : List ℕ) → (s0.known ≡ true → s1.known ≡ true) → TakesBytes s0 s1 from mid → (s1.known ≡ true → Consumes (bits_of piece) s1.cursor s2.cursor) → to ≡ mid ++ piece → TakesBytes s0 s2 from to
more_taken s0 s1 s2 from mid to piece stays taken more added known =
    let t = taken known in (
      t.0 ++ piece,
      added ∙ ap (λ l. l ++ piece) t.1 ∙ append_assoc from t.0 piece,
      consumes_more t.0 piece (t.0 ++ piece) s0.cursor s1.cursor s2.cursor refl t.2 (more (stays known)),
    )

abbrev okay : ⊤ → Result ⊤ (Option ℕ × Why)
okay u = Ok u

-- the packet ends after its last byte
ends_there : (e : PacketEnd) (b : Bool) (u v : ⊤) → okay u ≡ after_item e b v → (b ≡ true) × (e ≡ whole)
ends_there whole true u v is = (refl, refl)
ends_there unended true u v is = absurd cc
ends_there (cut_at n why) true u v is = absurd cc
ends_there e false u v is = absurd cc

nothing_left : (bits : List Bool) → is_nil bits ≡ true → bits ≡ []
nothing_left [] e = refl
nothing_left (b ∷ bits) e = absurd cc

abbrev read_ok : ⊤ → Result ⊤ Why
read_ok u = Ok u

abbrev read_err : Why → Result ⊤ Why
read_err why = Err why

not_both : (why : Why) (u : ⊤) → read_err why ≡ read_ok u → ⊥
not_both why u e = absurd cc

-- all bytes of the packet were taken
pub held : {name : GName} {page : OnPage} (p : Place) (s0 s1 : State) (new : Place) (bytes : List ℕ) (read : Result ⊤ Why) (result : Result ⊤ (Option ℕ × Why))
    → IsAtPacket name page p s0 → Counts s0 s1 read → OnOk read (TakesBytes s0 s1 [] bytes) → IfOk result (λ u. read ≡ Ok u) → JudgesPacket s1 new read result → OnOk result (GoesAfter s1 new) → OnOk result (HoldsPacket p new bytes)
held p s0 s1 new bytes read (Err why) at counts taken same judges goes = tt
held p s0 s1 new bytes (Err why) (Ok u) at counts taken same judges goes = absurd (not_both why u same)
held p s0 s1 new bytes (Ok v) (Ok u) at counts taken same judges goes = λ known.
    let here : s0.known ≡ true = at.known ∙ known in
    let now : s1.known ≡ true = counts.0 here in
    let t = taken here in
    let after : s1.after ≡ s0.after = counts.3 here in
    let short : s1.cursor.mark.short ≡ short_of s1.after.fails =
    ap (λ (m : Mark). m.short) t.2.1 ∙ past-short (bits_of t.0) s0.cursor.mark ∙ ap (λ (c : Cursor). c.mark.short) at.cursor ∙ ap (λ (b : After). short_of b.fails) (sym (after ∙ at.after)) in
    let e = ends_there (end_of s1.after) (is_nil s1.cursor.left) u v (judges now goes.errors short) in
    let left = nothing_left s1.cursor.left e.0 in
    let same_after : s1.after ≡ without_fence (after_of p) = after ∙ at.after in
    record {
      bits = ap (λ (c : Cursor). c.left) (sym at.cursor) ∙ t.2.0 ∙ ap (λ l. bits_of t.0 ++ l) left ∙ append-nil (bits_of t.0) ∙ ap bits_of (sym t.1);
      ended = ap (λ (b : After). end_of b) (sym same_after) ∙ e.1;
      after = record {
        known = goes.known now;
        errors = goes.errors ∙ counts.1 ∙ at.errors;
        lacing = goes.lacing now short ∙ ap (λ (b : After). b.pieces) same_after;
        bytes = goes.bytes now short ∙ ap (λ (b : After). b.bytes) same_after;
        fault = goes.fault now short ∙ ap (λ (b : After). b.fault) same_after;
        stop = goes.stop now short ∙ ap (λ (b : After). b.stop) same_after;
      };
    }

abbrev begun : Bool → Result Bool (ℕ × Why)
begun b = Ok b

pub begins_so : (p q : Place) (a b : Bool) → a ≡ b → Begins p q (begun a) → Begins p q (begun b)
begins_so p q a b e h = subst (λ c. Begins p q (begun c)) e h

-- the next packet was begun, and held
pub next_held : (p q new : Place) (bytes : List ℕ) → Begins p q (begun true) → HoldsPacket q new bytes → HoldsNext p new bytes true
next_held p q new bytes begins holds known =
    let h = holds (begins.known known) in
    record { packet = rest_of q; taken = (q, new, begins, refl, h.ended, h.after, refl); bits = h.bits; known = h.after.known }

-- none was left
pub none_held : (p q new : Place) (bytes : List ℕ) → Begins p q (begun false) → HoldsNext p new bytes false
none_held p q new bytes begins known = let o = begins.over known in record { none = o.0; no_fault = o.1 }
