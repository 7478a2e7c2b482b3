-- What one call more of a file that keeps its calls means.
use Rattle.std.proofs.Common.{◌≡◌, ◌⊎◌, inl, inr, ⊎_elim, ℕ, zero, suc, ◌+◌, ◌≤◌, Bool, true, false, cond, nat_le, List, [], ◌∷◌, ◌++◌, length, take, drop, refl, sym, ◌∙◌, ap, subst, arith, length-append, Vec}
use Rattle.std.specs.declared.alloc.Global.{Global}
use Rattle.std.proofs.lemmas.Bool.Decides.{nat_tests}
use Rattle.std.proofs.lemmas.List.{take_all}
use Rattle.flac_edit.specs.Device.{Fits, Holds, Torn, Whole, IsWord, Follows, Only, Elapses}
use Rattle.flac_edit.specs.Crashes.{Image, written, after_one, after_calls, image_of, shown_after, IsCut, IsLeft, MayLeave, crash_time, leaves_shown}
use Rattle.flac_edit.specs.declared.crash_file.Call.{Call}
use Rattle.flac_edit.specs.declared.crash_file.Call.TheVariants as call
use Rattle.flac_edit.proofs.Writes.{torn_same, holds_torn}

-- ---- one call more

after_push : (i : Image) (cs : List Call) (x : Call) → after_calls i (cs ++ x ∷ []) ≡ after_one (after_calls i cs) x
after_push i [] x = refl
after_push i (c ∷ cs) x = after_push (after_one i c) cs x

image_push : (first : List ℕ) (cs : List Call) (x : Call) → image_of first (cs ++ x ∷ []) ≡ after_one (image_of first cs) x
image_push first cs x = after_push (record { stored = first; writes = []; shown = first }) cs x

take_push : (k : ℕ) (cs : List Call) (x : Call) → k ≤ length cs → take k (cs ++ x ∷ []) ≡ take k cs
take_push zero cs x le = refl
take_push (suc k) [] x le = absurd (omega (arith, le))
take_push (suc k) (c ∷ cs) x le = ap (λ (l : List Call). c ∷ l) (take_push k cs x (omega (arith, le)))

is_le : (m n : ℕ) → nat_le m n ≡ true → m ≤ n
is_le m n e = grind (arith, nat_tests)

not_le : (m n : ℕ) → nat_le m n ≡ false → n + 1 ≤ m
not_le m n e = grind (arith, nat_tests)

le_is : (m n : ℕ) → m ≤ n → nat_le m n ≡ true
le_is m n e = grind (arith, nat_tests)

push_long : (cs : List Call) (x : Call) → length (cs ++ x ∷ []) ≡ length cs + 1
push_long cs x = length-append cs (x ∷ [])

elapses_push : (first : List ℕ) (cs : List Call) (x : Call) → Elapses (crash_time first cs) (crash_time first (cs ++ x ∷ []))
elapses_push first cs x = record {
  later = omega (arith, push_long cs x);
  nothing_else = λ t c le (k, after, within, may). go t c k after within may (nat_le k (length cs)) refl;
  keeps = λ t c le (k, after, within, may). (k, after, omega (arith, within, push_long cs x), subst (λ (l : List Call). MayLeave first l c) (sym (take_push k cs x within)) may);
}
  where
    go : (t : ℕ) (c : List ℕ) (k : ℕ) → t ≤ k → k ≤ length (cs ++ x ∷ []) → MayLeave first (take k (cs ++ x ∷ [])) c → (b : Bool) → nat_le k (length cs) ≡ b → (crash_time first cs).left_since t c ⊎ MayLeave first (cs ++ x ∷ []) c
    go t c k after within may true e =
        let le = is_le k (length cs) e in
        inl (k, after, le, subst (λ (l : List Call). MayLeave first l c) (take_push k cs x le) may)
    go t c k after within may false e =
        let more = not_le k (length cs) e in
        inr (subst (λ (l : List Call). MayLeave first l c) (take_all k (cs ++ x ∷ []) (omega (arith, more, push_long cs x))) may)

pub elapses_to : (first : List ℕ) (cs ds : List Call) (x : Call) → ds ≡ cs ++ x ∷ [] → Elapses (crash_time first cs) (crash_time first ds)
elapses_to first cs ds x is = subst (λ (l : List Call). Elapses (crash_time first cs) (crash_time first l)) (sym is) (elapses_push first cs x)

pub elapses_same : (first : List ℕ) (cs ds : List Call) → ds ≡ cs → Elapses (crash_time first cs) (crash_time first ds)
elapses_same first cs ds is = subst (λ (l : List Call). Elapses (crash_time first cs) (crash_time first l)) (sym is) (record { later = omega arith; nothing_else = λ t c le left. inl left; keeps = λ t c le left. left })

-- ---- a write

written_torn : (at : ℕ) (bytes old : List ℕ) → Torn at (length bytes) old (written at bytes old)
written_torn at bytes old = go (nat_le (at + length bytes) (length old)) refl
  where
    go : (b : Bool) → nat_le (at + length bytes) (length old) ≡ b → Torn at (length bytes) old (cond b (take at old ++ (bytes ++ drop (at + length bytes) old)) old)
    go true e = holds_torn old (take at old ++ (bytes ++ drop (at + length bytes) old)) bytes at (is_le (at + length bytes) (length old) e) refl
    go false e = torn_same at (length bytes) old

written_whole : (at : ℕ) (bytes old : List ℕ) → Whole at bytes old (written at bytes old)
written_whole at bytes old = go (nat_le (at + length bytes) (length old)) refl
  where
    go : (b : Bool) → nat_le (at + length bytes) (length old) ≡ b → Whole at bytes old (cond b (take at old ++ (bytes ++ drop (at + length bytes) old)) old)
    go true e = inr refl
    go false e = inl refl

-- the state after the write
record Wrote (first : List ℕ) (cs ds : List Call) (at : ℕ) (bytes : List ℕ) : Type 0 where
  stored : (image_of first ds).stored ≡ (image_of first cs).stored
  writes : (image_of first ds).writes ≡ (at, bytes) ∷ (image_of first cs).writes
  shown : shown_after first ds ≡ written at bytes (shown_after first cs)

module _ (first : List ℕ) (cs ds : List Call) (at : ℕ) (v : Vec ℕ Global) (bytes : List ℕ) (same : v.items ≡ bytes) (is : ds ≡ cs ++ call.Write at v ∷ []) where
  wrote : Wrote first cs ds at bytes
  wrote =
      let e : image_of first ds ≡ after_one (image_of first cs) (call.Write at v) = ap (image_of first) is ∙ image_push first cs (call.Write at v) in
      record {
        stored = ap (λ (i : Image). i.stored) e;
        writes = ap (λ (i : Image). i.writes) e ∙ ap (λ (b : List ℕ). (at, b) ∷ (image_of first cs).writes) same;
        shown = ap (λ (i : Image). i.shown) e ∙ ap (λ (b : List ℕ). written at b (shown_after first cs)) same;
      }

  left_by : (c : List ℕ) → MayLeave first ds c → (d : List ℕ) × MayLeave first cs d × ((c ≡ written at bytes d) ⊎ IsCut at bytes d c)
  left_by c may =
      let w = wrote in
      subst (λ (l : List (ℕ × List ℕ)). IsLeft (image_of first cs).stored l c) w.writes (subst (λ (l : List ℕ). IsLeft l (image_of first ds).writes c) w.stored may)

  pub write_holds : Fits at bytes (shown_after first cs) → Holds (shown_after first cs) at bytes (shown_after first ds)
  write_holds fits =
      let old = shown_after first cs in
      wrote.shown ∙ ap (λ (b : Bool). cond b (take at old ++ (bytes ++ drop (at + length bytes) old)) old) (le_is (at + length bytes) (length old) fits)

  pub write_torn : Follows (Torn at (length bytes)) (crash_time first cs) (crash_time first ds)
  write_torn c may =
      let l = left_by c may in
      (l.0, l.1, ⊎_elim (λ all. subst (λ (f : List ℕ). Torn at (length bytes) l.0 f) (sym all) (written_torn at bytes l.0)) (λ cut. cut.torn) l.2)

  pub write_whole : IsWord at (length bytes) → Follows (Whole at bytes) (crash_time first cs) (crash_time first ds)
  write_whole word c may =
      let l = left_by c may in
      (l.0, l.1, ⊎_elim (λ all. subst (λ (f : List ℕ). Whole at bytes l.0 f) (sym all) (written_whole at bytes l.0)) (λ cut. cut.whole word) l.2)

-- ---- a write that was not done

pub same_torn : (first : List ℕ) (cs ds : List Call) (at n : ℕ) → ds ≡ cs → Follows (Torn at n) (crash_time first cs) (crash_time first ds)
same_torn first cs ds at n is c may = (c, subst (λ (l : List Call). MayLeave first l c) is may, torn_same at n c)

pub same_whole : (first : List ℕ) (cs ds : List Call) (at : ℕ) (bytes : List ℕ) → ds ≡ cs → Follows (Whole at bytes) (crash_time first cs) (crash_time first ds)
same_whole first cs ds at bytes is c may = (c, subst (λ (l : List Call). MayLeave first l c) is may, inl refl)

-- ---- a sync

module _ (first : List ℕ) (cs ds : List Call) (is : ds ≡ cs ++ call.Sync ∷ []) where
  synced : image_of first ds ≡ after_one (image_of first cs) call.Sync
  synced = ap (image_of first) is ∙ image_push first cs call.Sync

  pub sync_shown : shown_after first ds ≡ shown_after first cs
  sync_shown = ap (λ (i : Image). i.shown) synced

  pub sync_only : Only (shown_after first cs) (crash_time first ds)
  sync_only c may = subst (λ (i : Image). IsLeft i.stored i.writes c) synced may

  pub sync_less : (c : List ℕ) → MayLeave first ds c → MayLeave first cs c
  sync_less c may = subst (λ (f : List ℕ). MayLeave first cs f) (sym (sync_only c may)) (leaves_shown first cs)

pub same_less : (first : List ℕ) (cs ds : List Call) → ds ≡ cs → (c : List ℕ) → MayLeave first ds c → MayLeave first cs c
same_less first cs ds is c may = subst (λ (l : List Call). MayLeave first l c) is may
