-- For proofs of the bit reader: what a call does that pulls bytes from the source.
use Rattle.std.specs.Prelude.{◌≡◌, ◌<◌, ◌≤◌, ◌+◌, ◌*◌, Bool, true, false, [], Result, Ok, OnOk, OnErr, IfErr}
use Rattle.flac_bits.specs.State.{Rises}
use Rattle.flac_bits.specs.Store.{Store, left_of, fenced_of, most_of, reason_of, reached}
use Rattle.flac_bits.specs.inner.Store.{SameBits}
use Rattle.flac_bits.specs.declared.source.Source as source
use Rattle.flac_bits.specs.declared.why.Why.{Why}
use Rattle.flac_bits.specs.declared.why.Why.TheVariants.{Read}

-- the source returned no error, and the same bits are to come
pub record Moves {S : Type 0} (g : source.Ghosts S) (old new : Store) (before after : S) : Type 0 where
  pub known : g.known before ≡ true → g.known after ≡ true
  pub errors : g.errors after ≡ g.errors before
  pub raised : g.raised after ≡ g.raised before
  pub most : 8 * g.most after + most_of new ≤ 8 * g.most before + most_of old
  pub held : most_of old ≤ most_of new
  pub same : g.known before ≡ true → SameBits old (g.coming before) new (g.coming after)

-- no bit was left, and an error that was foretold came in place of the end
pub record Ends {S : Type 0} (g : source.Ghosts S) (old new : Store) (before after : S) : Type 0 where
  pub left : left_of old (g.coming before) ≡ []
  pub reason : reason_of (reached old.fence.room (g.coming before)) (g.after before) ≡ Read
  pub fenced : fenced_of new (g.coming after) ≡ fenced_of old (g.coming before)

-- A call pulls bytes if too few are held. It returns whether there are more, or Read if the source returned an error.
pub record Pulls {S : Type 0} (g : source.Ghosts S) (old new : Store) (before later : S) (result : Result Bool Why) : Type 0 where
  pub names : g.names later ≡ g.names before
  pub mark : new.mark ≡ old.mark
  pub moved : OnOk result (Moves g old new before later)
  -- false only if no bit is left, at the end or at a fence
  pub over : result ≡ Ok false → g.known before ≡ true → (left_of old (g.coming before) ≡ []) × (reason_of (reached old.fence.room (g.coming before)) (g.after before) ≡ Read → ⊥)
  pub kept : g.errors before ≤ g.errors later
  pub foretold : g.known before ≡ true → g.errors later ≡ g.errors before → g.after later ≡ g.after before
  pub read : IfErr result (λ e. e ≡ Read)
  -- bytes are pulled only if no bit is held
  pub none : OnErr result (most_of old ≡ 0)
  pub ended : OnErr result (g.known before ≡ true → g.errors later ≡ g.errors before → Ends g old new before later)
  pub rises : OnErr result (g.known before ≡ true → g.raised before < g.raised later)
  pub risen : OnErr result (Rises (g.raised before) (g.raised later))
