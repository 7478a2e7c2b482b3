-- What a subject has of the arguments that it is made of.
use Rattle.std.proofs.Common.{◌≡◌, ◌*◌, ◌≤◌, ℕ, Result, sym, subst, arith}
use Rattle.flac_bits.specs.Written.{Written}
use Rattle.flac_bits.specs.declared.why.Why.{Why}
use Rattle.flac_frame.specs.declared.plane_predictors.PlanePredictors.{PlanePredictors}
use Rattle.flac_frame.specs.Audio.{Sound}
use Rattle.flac_frame.specs.Chosen.{IsChoiceByPlane}
use Rattle.flac_frame.specs.Encoding.{block_of, partition_limit, WritesFrameByPlane}
use Rattle.flac_frame.specs.PlaneLists.{lists_of, AreAllWithin}
use Rattle.flac_frame.specs.Frame.{limits_at}
use Rattle.flac_frame.specs.declared.frame_choice.FrameChoice.{FrameChoice}

-- ---- room for its samples

pub few_in : (n room block : ℕ) → n ≤ room → block ≡ room → block ≤ 65535 → n ≤ 65535
few_in n room block le is few = omega arith

pub size_in : (size n room block : ℕ) → size ≡ n → n ≤ room → block ≡ room → size ≤ block
size_in size n room block same le is = omega arith

pub four_in : (size n room block long places : ℕ) → size ≡ n → n ≤ room → block ≡ room → long ≡ places → places ≡ 4 * block → 4 * size ≤ long
four_in size n room block long places same le is all own = omega arith

pub two_in : (size n room block long places : ℕ) → size ≡ n → n ≤ room → block ≡ room → long ≡ places → places ≡ 4 * block → 2 * size ≤ long
two_in size n room block long places same le is all own = omega arith

-- ---- its parts are the arguments

pub partition_in : (a b : Sound) (most own : ℕ) → a ≡ b → partition_limit b ≤ most → own ≡ most → partition_limit a ≤ own
partition_in a b most own same le is = subst (λ s. partition_limit s ≤ own) (sym same) (subst (λ m. partition_limit b ≤ m) (sym is) le)

pub orders_in : (a b : Sound) (ps qs : PlanePredictors) → a ≡ b → ps ≡ qs → AreAllWithin (limits_at b.profile b.rate).linear (lists_of qs) → AreAllWithin (limits_at a.profile a.rate).linear (lists_of ps)
orders_in a b ps qs same is orders = subst (λ (s : Sound). AreAllWithin (limits_at s.profile s.rate).linear (lists_of ps)) (sym same) (subst (λ k. AreAllWithin (limits_at b.profile b.rate).linear (lists_of k)) (sym is) orders)

pub chosen_in : (ps qs : PlanePredictors) (a b : Sound) (start s size n number m : ℕ) (c : FrameChoice) → ps ≡ qs → a ≡ b → start ≡ s → size ≡ n → number ≡ m
    → IsChoiceByPlane (lists_of ps) a size number (block_of start size a.channels) c → IsChoiceByPlane (lists_of qs) b n m (block_of s n b.channels) c
chosen_in ps qs a b start s size n number m c predictors sound starts sizes numbers is =
    subst (λ k. IsChoiceByPlane (lists_of qs) b n k (block_of s n b.channels) c) numbers (subst (λ k. IsChoiceByPlane (lists_of qs) b k number (block_of s k b.channels) c) sizes (subst (λ k. IsChoiceByPlane (lists_of qs) b size number (block_of k size b.channels) c) starts
    (subst (λ (k : Sound). IsChoiceByPlane (lists_of qs) k size number (block_of start size k.channels) c) sound (subst (λ k. IsChoiceByPlane (lists_of k) a size number (block_of start size a.channels) c) predictors is))))

pub wrote_in : {X : Type 0} (ps qs : PlanePredictors) (a b : Sound) (start s size n number m : ℕ) (old new : Written) (r : Result X Why) → ps ≡ qs → a ≡ b → start ≡ s → size ≡ n → number ≡ m
    → WritesFrameByPlane (lists_of ps) a size number (block_of start size a.channels) old new r → WritesFrameByPlane (lists_of qs) b n m (block_of s n b.channels) old new r
wrote_in ps qs a b start s size n number m old new r predictors sound starts sizes numbers is =
    subst (λ k. WritesFrameByPlane (lists_of qs) b n k (block_of s n b.channels) old new r) numbers (subst (λ k. WritesFrameByPlane (lists_of qs) b k number (block_of s k b.channels) old new r) sizes (subst (λ k. WritesFrameByPlane (lists_of qs) b size number (block_of k size b.channels) old new r) starts
    (subst (λ (k : Sound). WritesFrameByPlane (lists_of qs) k size number (block_of start size k.channels) old new r) sound (subst (λ k. WritesFrameByPlane (lists_of k) a size number (block_of start size a.channels) old new r) predictors is))))
