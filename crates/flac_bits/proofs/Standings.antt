-- The state of a writer after what it sent and put.
use Rattle.std.proofs.Common.{◌≡◌, true, Bool, List, [], ◌++◌, Result, Ok, Err, IfErr, OnOk, refl, sym, ap, ◌∙◌, append_assoc}
use Rattle.std.proofs.lemmas.List.{append-nil}
use Rattle.flac_bits.specs.Bits.{bits_of}
use Rattle.flac_bits.specs.State.{Mark}
use Rattle.flac_bits.specs.Unsent.{Unsent, Puts, KeepsBits}
use Rattle.flac_bits.specs.Sending.{Sends}
use Rattle.flac_bits.specs.Standing.{standing}
use Rattle.flac_bits.specs.Written.{Adds, Writes}
use Rattle.flac_bits.specs.declared.why.Why.{Why}
use Rattle.flac_bits.specs.declared.why.Why.TheVariants.{Write}
use Rattle.flac_bits.specs.declared.target.Target as target
use Rattle.flac_bits.proofs.Holding.{bits_of-append}
use Rattle.flac_bits.proofs.Writing.{begins_at}

module _ {S : Type 0} (g : target.Ghosts S) where
  -- whole bytes were sent
  pub sent_writes : {X : Type 0} (old new : S) (held held' : Unsent) (result : Result X Why) → Sends g held.bytes old new result → (held'.rest ≡ held.rest) × (held'.mark ≡ held.mark)
      → ((x : X) → result ≡ Ok x → held'.bytes ≡ []) → IfErr result (λ e. e ≡ Write) → Writes [] (standing g old held) (standing g new held') result
  sent_writes old new held held' (Ok x) s k none w = record {
    known = s.known;
    errors = s.counted;
    names = s.names;
    mark = k.1;
    bits = λ known. ap (λ bs. bs ++ (bits_of held'.bytes ++ held'.rest)) (ap bits_of (s.sent known) ∙ bits_of-append (g.sent old) held.bytes)
        ∙ ap (λ xs. (bits_of (g.sent old) ++ bits_of held.bytes) ++ (bits_of xs ++ held'.rest)) (none x refl)
        ∙ ap (λ r. (bits_of (g.sent old) ++ bits_of held.bytes) ++ r) k.0 ∙ append_assoc (bits_of (g.sent old)) (bits_of held.bytes) held.rest
        ∙ sym (append-nil (bits_of (g.sent old) ++ (bits_of held.bytes ++ held.rest)));
  }
  sent_writes old new held held' (Err e) s k none w = record {
    reason = w;
    kept = s.kept;
    names = s.names;
    rises = s.rises;
    risen = s.risen;
    begun = λ known.
        let b = s.begun known in
        let bits = bits_of (g.sent old) ++ (bits_of held.bytes ++ held.rest) in
        begins_at (bits_of (g.sent new)) (bits ++ []) (bits_of b.1 ++ held.rest)
        (append-nil bits ∙ ap (λ xs. bits_of (g.sent old) ++ (bits_of xs ++ held.rest)) b.2
        ∙ ap (λ bs. bits_of (g.sent old) ++ (bs ++ held.rest)) (bits_of-append b.0 b.1) ∙ ap (λ bs. bits_of (g.sent old) ++ bs) (append_assoc (bits_of b.0) (bits_of b.1) held.rest)
        ∙ sym (append_assoc (bits_of (g.sent old)) (bits_of b.0) (bits_of b.1 ++ held.rest)) ∙ ap (λ bs. bs ++ (bits_of b.1 ++ held.rest)) (sym (ap bits_of b.3 ∙ bits_of-append (g.sent old) b.0)));
  }

  -- bits were put after those held
  pub put_writes : (t : S) (text : List Bool) (held held' : Unsent) → Puts text held held' → Adds text (standing g t held) (standing g t held')
  put_writes t text held held' p = record {
    known = λ known. known;
    errors = refl;
    names = refl;
    mark = p.1;
    bits = λ _. ap (λ bs. bits_of (g.sent t) ++ bs) p.0 ∙ sym (append_assoc (bits_of (g.sent t)) (bits_of held.bytes ++ held.rest) text);
  }

  -- the same bits are held
  pub kept_writes : (t : S) (held held' : Unsent) → KeepsBits held held' → Adds [] (standing g t held) (standing g t held')
  kept_writes t held held' k = put_writes t [] held held' (k.0 ∙ sym (append-nil (bits_of held.bytes ++ held.rest)), k.1)

  -- all bits were sent
  pub whole_sent : {X : Type 0} {mid : S} (old new : S) (held mid_held last : Unsent) (result : Result X Why) → Adds [] (standing g old held) (standing g mid mid_held) → KeepsBits mid_held last
      → (last.mark.unread ≡ 0 → last.rest ≡ []) → Sends g last.bytes mid new result → OnOk result (g.known old ≡ true → held.mark.unread ≡ 0 → bits_of (g.sent new) ≡ bits_of (g.sent old) ++ (bits_of held.bytes ++ held.rest))
  whole_sent {mid = mid} old new held mid_held last (Ok x) a k none s = λ known zero.
      let rest : last.rest ≡ [] = none (ap (λ (m : Mark). m.unread) (k.1 ∙ a.mark) ∙ zero) in
      ap bits_of (s.sent (a.known known)) ∙ bits_of-append (g.sent mid) last.bytes
      ∙ ap (λ bs. bits_of (g.sent mid) ++ bs) (sym (append-nil (bits_of last.bytes)) ∙ ap (λ r. bits_of last.bytes ++ r) (sym rest) ∙ k.0)
      ∙ a.bits known ∙ append-nil _
  whole_sent old new held mid_held last (Err e) a k none s = tt
