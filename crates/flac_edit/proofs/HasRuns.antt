-- A file that has a run among its blocks reads as the blocks.
use Rattle.std.proofs.Common.{◌≡◌, inl, ℕ, Bool, List, ◌++◌, sym, ◌∙◌, subst, rules, append_assoc}
use Rattle.flac_meta.specs.declared.block.Block.{Block}
use Rattle.flac_edit.specs.Device.{Timeline, Only, LeavesOnly}
use Rattle.flac_edit.specs.inner.Reads.{Reads, HasRun, IsOldOrNew}
use Rattle.flac_edit.proofs.Spelled.{append_blocks}
use Rattle.flac_edit.proofs.Moments.{still}

pub reads : (front run rest : List (Bool × Block)) (frames : List ℕ) (at size : ℕ) (file : List ℕ) → HasRun front run rest frames at size file → Reads (front ++ (run ++ rest)) frames file
reads front run rest frames at size file s =
    let b = s.before in
    let i = s.inside in
    let a = s.after in
    let assoc : s.marker ++ (b ++ (i ++ (a ++ frames))) ≡ s.marker ++ ((b ++ (i ++ a)) ++ frames) = search (rules, append_assoc) in
    record {
      marker = s.marker;
      marker_is = s.marker_is;
      head = b ++ (i ++ a);
      file_is = s.is ∙ assoc;
      spelled = append_blocks front (run ++ rest) b (i ++ a) s.front_is (append_blocks run rest i a s.run_is s.rest_is);
    }

-- nothing was written
pub unwritten : (old : Timeline) (olds news : List (Bool × Block)) (frames file : List ℕ) → Reads olds frames file → Only file old → ((c : List ℕ) → old.left_since old.moment c → old.may_leave c)
    → LeavesOnly old old (IsOldOrNew olds news frames)
unwritten old olds news frames file is only now = still old (IsOldOrNew olds news frames) (λ c left. inl (subst (λ (f : List ℕ). Reads olds frames f) (sym (only c (now c left))) is))
