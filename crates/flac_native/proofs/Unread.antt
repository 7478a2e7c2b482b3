-- A block that may not be written is refused for a reason of its own, and never for one of a device.
use Rattle.std.proofs.Common.{◌≡◌, Bool, true, false, nat_lt, [], ◌∷◌, Option, Some, None, IfSome, Result, Err, refl, sym, ap, ◌∙◌}
use Rattle.flac_bits.specs.Layout.{first_broken}
use Rattle.flac_bits.specs.Reasons.{of_output}
use Rattle.flac_bits.specs.declared.why.Why.{Why}
use Rattle.flac_bits.proofs.Counting.{is_device}
use Rattle.flac_bits.specs.declared.why.Why.TheVariants as why
use Rattle.flac_meta.specs.Listed.{block_fault, is_forbidden, is_out_of_order, has_bad_sheet}
use Rattle.flac_meta.specs.Spelling.{length_of}
use Rattle.flac_meta.specs.declared.block.Block.{Block}

abbrev reason : Why → Option Why
reason w = Some w

abbrev refusal : {X : Type 0} → Why → Result X Why
refusal w = Err w

no_device : (b : Block) (d : Why) → is_device d ≡ true → block_fault b ≡ Some d → ⊥
no_device b d device e = go (is_forbidden b) (nat_lt 16777215 (length_of b)) (is_out_of_order b) (has_bad_sheet b) e
  where
    same_some : (v w : Why) → reason v ≡ Some w → v ≡ w
    same_some v w e = cc

    other : (w : Why) → is_device w ≡ false → w ≡ d → ⊥
    other w none q = let t : false ≡ true = sym none ∙ ap is_device q ∙ device in cc

    go : (forbidden long order sheet : Bool) → first_broken (
        record { broken = forbidden; why = why.ForbiddenType } ∷ record { broken = long; why = why.BlockLength } ∷ record { broken = order; why = why.SeekOrder } ∷ record { broken = sheet; why = why.CueSheet } ∷ [])
        ≡ Some d → ⊥
    go true long order sheet e = other why.ForbiddenType refl (same_some why.ForbiddenType d e)
    go false true order sheet e = other why.BlockLength refl (same_some why.BlockLength d e)
    go false false true sheet e = other why.SeekOrder refl (same_some why.SeekOrder d e)
    go false false false true e = other why.CueSheet refl (same_some why.CueSheet d e)
    go false false false false e = absurd cc

same_reason : {X : Type 0} (v w : Why) → refusal {X = X} v ≡ refusal w → v ≡ w
same_reason v w e = cc

-- so it is of a call that writes a block: what else it answers is the target's
never : (d : Why) → is_device d ≡ true → (why.Write ≡ d → ⊥) → (X : Type 0) (b : Block) (e : Why) (P F : Type 0) → IfSome (block_fault b) (λ (w : Why). (refusal {X = X} e ≡ Err w) × P) → (block_fault b ≡ None → F) → (F → e ≡ why.Write) → e ≡ d → ⊥
never d device another X b e P F refused writes failed is = go (block_fault b) refl refused writes
  where
    go : (o : Option Why) → block_fault b ≡ o → IfSome o (λ (w : Why). (refusal {X = X} e ≡ Err w) × P) → (o ≡ None → F) → ⊥
    go None at r w = another (sym (failed (w refl)) ∙ is)
    go (Some v) at r w = no_device b d device (at ∙ ap reason (sym (same_reason e v r.0) ∙ is))

pub never_read : (X : Type 0) (b : Block) (e : Why) (P F : Type 0) → IfSome (block_fault b) (λ (w : Why). (refusal {X = X} e ≡ Err w) × P) → (block_fault b ≡ None → F) → (F → e ≡ why.Write) → e ≡ why.Read → ⊥
never_read = never why.Read refl (λ e. absurd cc)

pub never_sink : (X : Type 0) (b : Block) (e : Why) (P F : Type 0) → IfSome (block_fault b) (λ (w : Why). (refusal {X = X} e ≡ Err w) × P) → (block_fault b ≡ None → F) → (F → e ≡ why.Write) → e ≡ why.Sink → ⊥
never_sink = never why.Sink refl (λ e. absurd cc)

-- in memory an error of the target is one of memory, so with no error of a sink there is none of the output
pub in_memory_output : (e told : Why) → (e ≡ why.Write → told ≡ why.Memory) → ((e ≡ why.Write → ⊥) → told ≡ e) → (e ≡ why.Sink → ⊥) → of_output told ≡ false
in_memory_output why.Write told target others sink = ap of_output (target refl)
in_memory_output why.Sink told target others sink = absurd (sink refl)
in_memory_output e told target others sink = ap of_output (others (λ is. absurd cc))
