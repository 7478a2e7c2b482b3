-- Frames that are written one after another.
use Rattle.std.proofs.Common.{◌≡◌, ℕ, true, List, ◌++◌, Result, Ok, Err, OnOk, sym, ap, ◌∙◌, append_assoc}
use Rattle.std.proofs.lemmas.List.{append-nil}
use Rattle.std.specs.Bool.{⊤}
use Rattle.flac_bits.specs.Bits.{bits_of}
use Rattle.flac_bits.specs.Sending.{Sends}
use Rattle.flac_bits.specs.declared.why.Why.{Why}
use Rattle.flac_bits.specs.declared.target.Target as target
use Rattle.flac_bits.proofs.Holding.{bits_of-append}
use Rattle.flac_copy.specs.Inputs.{bytes_in}
use Rattle.flac_copy.specs.Outgoing.{pending_in, after_frame, pages_to_come}
use Rattle.flac_copy.specs.Outputs.{Puts, Finishes}
use Rattle.flac_copy.specs.declared.outgoing.Outgoing.{Outgoing}
use Rattle.flac_copy.specs.declared.output.Output.TheVariants.{Native, Ogg}

pub on_ok_both : {T E P Q R : Type 0} (r : Result T E) → (P → Q → R) → OnOk r P → OnOk r Q → OnOk r R
on_ok_both (Ok x) f p q = f p q
on_ok_both (Err e) f p q = tt

module _ {W : Type 0} (h : target.Ghosts W) (w0 w1 : W) where
  pub put_native : (bytes : List ℕ) (count : ℕ) → (h.known w0 ≡ true → h.known w1 ≡ true) → (h.known w0 ≡ true → h.sent w1 ≡ h.sent w0 ++ bytes) → Puts h Native Native bytes count w0 w1
  put_native bytes count stays sent known = (
    stays known,
    λ f frames size.
        ap (λ l. bits_of l ++ bits_of (bytes_in frames)) (sent known) ∙ ap (λ l. l ++ bits_of (bytes_in frames)) (bits_of-append (h.sent w0) bytes) ∙ append_assoc (bits_of (h.sent w0)) (bits_of bytes) (bits_of (bytes_in frames))
        ∙ ap (λ l. bits_of (h.sent w0) ++ l) (sym (bits_of-append bytes (bytes_in frames))),
  )

  pub put_in_ogg : (o q : Outgoing) (bytes : List ℕ) (count : ℕ) → pending_in q ≡ after_frame (pending_in o) bytes count → (h.known w0 ≡ true → h.known w1 ≡ true) → (h.known w0 ≡ true → h.sent w1 ≡ h.sent w0 ++ o.held.middle.items)
      → Puts h (Ogg o) (Ogg q) bytes count w0 w1
  put_in_ogg o q bytes count next stays sent known = (
    stays known,
    λ f frames size.
        let middle = bits_of o.held.middle.items in
        ap (λ l. bits_of l ++ pages_to_come (pending_in q) frames) (sent known) ∙ ap (λ l. l ++ pages_to_come (pending_in q) frames) (bits_of-append (h.sent w0) o.held.middle.items)
        ∙ append_assoc (bits_of (h.sent w0)) middle (pages_to_come (pending_in q) frames) ∙ ap (λ k. bits_of (h.sent w0) ++ (middle ++ pages_to_come k frames)) next
        ∙ ap (λ k. bits_of (h.sent w0) ++ (middle ++ pages_to_come (after_frame (pending_in o) bytes k) frames)) size,
  )

  pub pushed : (o q : Outgoing) (bytes : List ℕ) (count : ℕ) (r : Result ⊤ Why) → OnOk r (pending_in q ≡ after_frame (pending_in o) bytes count) → OnOk r (Sends h o.held.middle.items w0 w1 r) → OnOk r (Puts h (Ogg o) (Ogg q) bytes count w0 w1)
  pushed o q bytes count (Ok u) next sends = put_in_ogg o q bytes count next sends.known sends.sent
  pushed o q bytes count (Err e) next sends = tt

  pub finish_in_ogg : (o : Outgoing) → (h.known w0 ≡ true → h.sent w1 ≡ h.sent w0 ++ o.held.last.items) → Finishes h (Ogg o) w0 w1
  finish_in_ogg o sent known = ap bits_of (sent known) ∙ bits_of-append (h.sent w0) o.held.last.items

pub finish_native : {W : Type 0} (h : target.Ghosts W) (w : W) → Finishes h Native w w
finish_native h w known = sym (append-nil (bits_of (h.sent w)))
