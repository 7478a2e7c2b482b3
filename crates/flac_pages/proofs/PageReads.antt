-- A page after its first byte.
use Rattle.std.proofs.Common.{◌≡◌, ℕ, Bool, true, false, cond, List, [], ◌∷◌, Option, Some, None, Result, Ok, Err, refl, sym, ap, ◌∙◌}
use Rattle.std.specs.Prelude.{⊤}
use Rattle.std.specs.List.{sum}
use Rattle.flac_bits.specs.State.{Cursor}
use Rattle.flac_bits.specs.Layout.{bits, run, and_then, first_broken, unless_broken, Rule, Reason, because}
use Rattle.flac_bits.specs.Lists.{list_of}
use Rattle.flac_bits.specs.declared.why.Why.{Why}
use Rattle.flac_pages.specs.declared.page.Before.{Before}
use Rattle.flac_pages.specs.declared.page.Head.{Head}
use Rattle.flac_bits.specs.Unchecked.{begun_anew}
use Rattle.flac_pages.specs.Page.{Page, page_after, head_after, end_rules}
use Rattle.flac_pages.proofs.Anew.{anew_is, anew_err}

abbrev pub page_is : Head → List ℕ → List ℕ → Page
page_is head lacing body = record { head = head; lacing = lacing; body = body }

abbrev pub unit : ⊤
unit = tt

abbrev pub okay : Page × Cursor → Result (Page × Cursor) Reason
okay y = Ok y

pub broken_is : {X : Type 0} (rules : List Rule) (r : Result X Reason) (why : Why) → first_broken rules ≡ Some why → unless_broken rules r ≡ Err (because why)
broken_is [] r why e = absurd cc
broken_is (rule ∷ rules) r why e = go rule.broken e (broken_is rules r why)
  where
    go : (b : Bool) → cond b (Some rule.why) (first_broken rules) ≡ Some why → (first_broken rules ≡ Some why → unless_broken rules r ≡ Err (because why)) → cond b (Err (because rule.why)) (unless_broken rules r) ≡ Err (because why)
    go true e more = let w : rule.why ≡ why = cc in rw w refl
    go false e more = more e

pub kept_is : {X : Type 0} (rules : List Rule) (r : Result X Reason) → first_broken rules ≡ None → unless_broken rules r ≡ r
kept_is [] r e = refl
kept_is (rule ∷ rules) r e = go rule.broken e (kept_is rules r)
  where
    go : (b : Bool) → cond b (Some rule.why) (first_broken rules) ≡ None → (first_broken rules ≡ None → unless_broken rules r ≡ r) → cond b (Err (because rule.why)) (unless_broken rules r) ≡ r
    go true e more = absurd cc
    go false e more = more e

pub page_run : (before : Option Before) (first : ℕ) (c0 c1 c2 c3 c4 : Cursor) (h : Head) (count : ℕ) (lacing body : List ℕ) (n : ℕ)
    → run (head_after first) c0 ≡ Ok (h, c1) → run (bits 8) c1 ≡ Ok (count, c2) → run (list_of count (bits 8)) c2 ≡ Ok (lacing, c3) → n ≡ sum lacing → run (list_of n (bits 8)) c3 ≡ Ok (body, c4)
    → run (page_after before first) c0 ≡ and_then (unless_broken (end_rules before (page_is h lacing body)) (Ok (unit, c4))) (λ _ d. Ok (page_is h lacing body, d))
unfolding page_after
page_run before first c0 c1 c2 c3 c4 h count lacing body n a k b e d =
    let d' : run (list_of (sum lacing) (bits 8)) c3 ≡ Ok (body, c4) = rw e at d in
    rw (a, k, b, d') refl

-- what stands after the body, by the first broken rule
abbrev pub judged : Option Before → Page → Cursor → Option Why → Result (Page × Cursor) Reason
judged before p c None = Ok (p, c)
judged before p c (Some why) = Err (because why)

pub page_end : (before : Option Before) (first : ℕ) (c0 c1 c2 c3 c4 : Cursor) (h : Head) (count : ℕ) (lacing body : List ℕ) (n : ℕ) (o : Option Why)
    → run (head_after first) c0 ≡ Ok (h, c1) → run (bits 8) c1 ≡ Ok (count, c2) → run (list_of count (bits 8)) c2 ≡ Ok (lacing, c3) → n ≡ sum lacing → run (list_of n (bits 8)) c3 ≡ Ok (body, c4)
    → first_broken (end_rules before (page_is h lacing body)) ≡ o → run (page_after before first) c0 ≡ judged before (page_is h lacing body) c4 o
page_end before first c0 c1 c2 c3 c4 h count lacing body n (Some why) a k b e d f =
    page_run before first c0 c1 c2 c3 c4 h count lacing body n a k b e d ∙ ap (λ r. and_then r (λ _ k. okay (page_is h lacing body, k))) (broken_is (end_rules before (page_is h lacing body)) (Ok (unit, c4)) why f)
page_end before first c0 c1 c2 c3 c4 h count lacing body n None a k b e d f =
    page_run before first c0 c1 c2 c3 c4 h count lacing body n a k b e d ∙ ap (λ r. and_then r (λ _ k. okay (page_is h lacing body, k))) (kept_is (end_rules before (page_is h lacing body)) (Ok (unit, c4)) f)

-- the same where the checks begin anew after the body
pub page_end_anew : (before : Option Before) (first : ℕ) (c0 c1 c2 c3 c4 : Cursor) (h : Head) (count : ℕ) (lacing body : List ℕ) (n : ℕ) (o : Option Why)
    → run (head_after first) c0 ≡ Ok (h, c1) → run (bits 8) c1 ≡ Ok (count, c2) → run (list_of count (bits 8)) c2 ≡ Ok (lacing, c3) → n ≡ sum lacing → begun_anew (run (list_of n (bits 8)) c3) ≡ Ok (body, c4)
    → first_broken (end_rules before (page_is h lacing body)) ≡ o → begun_anew (run (page_after before first) c0) ≡ judged before (page_is h lacing body) c4 o
page_end_anew before first c0 c1 c2 c3 c4 h count lacing body n o a k b e d f =
    let read = anew_is (run (list_of n (bits 8)) c3) body c4 d in
    ap begun_anew (page_end before first c0 c1 c2 c3 read.0 h count lacing body n o a k b e read.1 f) ∙ go o
  where
    go : (o : Option Why) → begun_anew (judged before (page_is h lacing body) (anew_is (run (list_of n (bits 8)) c3) body c4 d).0 o) ≡ judged before (page_is h lacing body) c4 o
    go None = ap (λ c. okay (page_is h lacing body, c)) (sym (anew_is (run (list_of n (bits 8)) c3) body c4 d).2)
    go (Some why) = refl

-- the body cannot be read
pub page_cut_anew : (before : Option Before) (first : ℕ) (c0 c1 c2 c3 : Cursor) (h : Head) (count : ℕ) (lacing : List ℕ) (n : ℕ) (why : Why)
    → run (head_after first) c0 ≡ Ok (h, c1) → run (bits 8) c1 ≡ Ok (count, c2) → run (list_of count (bits 8)) c2 ≡ Ok (lacing, c3) → n ≡ sum lacing → begun_anew (run (list_of n (bits 8)) c3) ≡ Err (because why)
    → begun_anew (run (page_after before first) c0) ≡ Err (because why)
unfolding page_after
page_cut_anew before first c0 c1 c2 c3 h count lacing n why a k b e d =
    let cut : run (list_of n (bits 8)) c3 ≡ Err (because why) = anew_err {A = List ℕ} (run (list_of n (bits 8)) c3) (because why) d in
    let d' : run (list_of (sum lacing) (bits 8)) c3 ≡ Err (because why) = rw e at cut in
    rw (a, k, b, d') refl
