-- What a source of the bytes between has to give.
use Rattle.std.specs.Prelude.{ℕ, ◌+◌, ◌-◌, Bool, cond, List, ◌++◌, take, drop, is_some}
use Rattle.flac_bits.specs.declared.source.Source as source
use Rattle.flac_around.specs.Around.{middle_of, all_but_128, without_back}
use Rattle.flac_around.specs.declared.between.Between.{Between}
use Rattle.flac_around.specs.declared.between.Stage.{Stage}
use Rattle.flac_around.specs.declared.between.Stage.TheVariants.{Unread, Going, Ended}

-- the bytes between of what another source has to give
abbrev pub inside : {S : Type 0} → source.Ghosts S → S → List ℕ
inside g s = middle_of (is_some ((g.after s).fails)) (g.coming s)

-- of bytes after an ID3v2 tag, those that are given
abbrev pub given : (fails : Bool) → List ℕ → List ℕ
given fails rest = cond fails (all_but_128 rest) (without_back rest)

-- `coming` is what the other source has to give
abbrev pub left_of : Stage → (fails : Bool) → (held last coming : List ℕ) → List ℕ
left_of Unread fails held last coming = middle_of fails coming
left_of Going fails held last coming = given fails (held ++ coming)
left_of Ended fails held last coming = last ++ coming

-- how many bytes are held
abbrev pub count_of : Stage → (from to : ℕ) → ℕ
count_of Unread from to = 0
count_of Going from to = 128
count_of Ended from to = to - from

-- the part of what is held that is still to be given at the end
abbrev pub last_of : {S : Type 0} → Between S → List ℕ
last_of b = take (b.to - b.from) (drop b.from b.held)

-- the ghost fields of a source of the bytes between, by those of the other source
abbrev pub ghosts_of : {S : Type 0} → source.Ghosts S → source.Ghosts (Between S)
ghosts_of g = record {
  known = λ b. g.known b.source;
  coming = λ b. left_of b.stage (is_some ((g.after b.source).fails)) b.held (last_of b) (g.coming b.source);
  after = λ b. g.after b.source;
  errors = λ b. g.errors b.source;
  raised = λ b. g.raised b.source;
  most = λ b. g.most b.source + count_of b.stage b.from b.to;
  names = λ b. g.names b.source;
}
