-- For which reasons pages are refused: those of their own rules, or the one for which the bits run short.
use Rattle.std.proofs.Common.{◌≡◌, ◌≢◌, ℕ, zero, suc, Bool, cond, List, [], ◌∷◌, Option, Some, None, sym, ap, subst, ◌∙◌, inl, inr}
use Rattle.std.specs.Prelude.{⊤}
use Rattle.std.specs.List.{sum}
use Rattle.flac_bits.specs.Bits.{is_nil}
use Rattle.flac_bits.specs.State.{Mark, Cursor, past}
use Rattle.flac_bits.specs.Layout.{Layout, done, bind, bits, unary, judge, refuse, mark, Rule}
use Rattle.flac_bits.specs.Lists.{list_of}
use Rattle.flac_bits.specs.LittleEndian.{little_32, little_64}
use Rattle.flac_bits.specs.Meaning.{BreaksFirst, Shows}
use Rattle.flac_bits.specs.declared.why.Why.{Why}
use Rattle.flac_bits.specs.declared.why.Why.TheVariants.{Truncated, NoEndPage, PageOrder, BadPage, PageCheck, OtherStream, BadMapping}
use Rattle.flac_bits.proofs.Meaning.{past-short}
use Rattle.flac_pages.specs.declared.page.Before.{Before}
use Rattle.flac_pages.specs.Page.{Page, page, page_after, head_after, end_rules}
use Rattle.flac_pages.specs.Pages.{Stop, closed, broken, between, unless_over, end_fault}
use Rattle.flac_pages.specs.Packets.{page_index, at_page, fault_of, stop_of}
use Rattle.flac_pages.specs.Runs.{left_by, IsNoPage, EndsSo}

-- ---- rules of other reasons

abbrev pub Others : Why → List Rule → Type 0
Others w [] = ⊤
Others w (rule ∷ rules) = (rule.why ≡ w → ⊥) × Others w rules

pub none_breaks : (w : Why) (rules : List Rule) → Others w rules → BreaksFirst rules w → ⊥
none_breaks w [] others first = absurd first
none_breaks w (rule ∷ rules) others (inl (breaks, is)) = others.0 is
none_breaks w (rule ∷ rules) others (inr (kept, first)) = none_breaks w rules others.1 first

-- ---- layouts that have no rule of this reason

abbrev pub Never : {A : Type 0} → Why → Layout A → Type 0
Never why (done x) = ⊤
Never why (bind {A = A} l f) = Never why l × ((x : A) → Never why (f x))
Never why (bits n) = ⊤
Never why (unary limit) = ⊤
Never why (judge rules) = BreaksFirst rules why → ⊥
Never why (refuse w) = w ≢ why
Never why mark = ⊤

pub never_shown : {A : Type 0} (l : Layout A) (m : Mark) (front : List Bool) (why : Why) → Never why l → Shows l m front why → ⊥
never_shown (done x) m front why never shows = absurd shows
never_shown (bind l f) m front why never (inl shows) = never_shown l m front why never.0 shows
never_shown (bind l f) m front why never (inr (x, part, rest, split, spelled, shows)) = never_shown (f x) (past part m) rest why (never.1 x) shows
never_shown (bits n) m front why never shows = absurd shows
never_shown (unary limit) m front why never shows = absurd shows
never_shown (judge rules) m front why never shows = never shows.1
never_shown (refuse w) m front why never shows = never shows.1
never_shown mark m front why never shows = absurd shows

pub never_list : (w : Why) (n : ℕ) → Never w (list_of n (bits 8))
unfolding list_of
never_list w zero = tt
never_list w (suc n) = (tt, λ x. (never_list w n, λ xs. tt))

-- ---- a page

-- no rule of a page has this reason, and it is not that of a missing page
pub record IsForeign (w : Why) : Type 0 where
  pub page : BadPage ≡ w → ⊥
  pub check : PageCheck ≡ w → ⊥
  pub stream : OtherStream ≡ w → ⊥
  pub order : PageOrder ≡ w → ⊥
  pub mapping : BadMapping ≡ w → ⊥
  pub end : NoEndPage ≡ w → ⊥

never_32 : (w : Why) → Never w little_32
unfolding little_32
never_32 w = (tt, λ a. (tt, λ b. (tt, λ c. (tt, λ d. tt))))

never_64 : (w : Why) → Never w little_64
unfolding little_64
never_64 w = (never_32 w, λ low. (never_32 w, λ high. tt))

pattern_rule : (w : Why) (b : Bool) → IsForeign w → BreaksFirst (record { broken = b; why = BadPage } ∷ []) w → ⊥
pattern_rule w b f = none_breaks w (record { broken = b; why = BadPage } ∷ []) (f.page, tt)

never_head : (w : Why) (first : ℕ) → IsForeign w → Never w (head_after first)
unfolding head_after
never_head w first f =
    (tt, λ pattern. (pattern_rule w _ f, λ good. (tt, λ version. (pattern_rule w _ f, λ known. (tt, λ flags. (never_64 w, λ granule. (never_32 w, λ serial. (never_32 w, λ sequence. (never_32 w, λ sum. tt)))))))))

page_rules : (w : Why) (before : Option Before) (p : Page) → IsForeign w → BreaksFirst (end_rules before p) w → ⊥
unfolding end_rules
page_rules w before p f = none_breaks w (end_rules before p) (f.check, (f.stream, (f.order, (f.mapping, tt))))

never_page : (w : Why) (before : Option Before) → IsForeign w → Never w (page before)
unfolding page page_after
never_page w before f =
    (tt, λ first. (never_head w first f, λ head. (tt, λ count. (never_list w count, λ lacing. (never_list w (sum lacing), λ body. (page_rules w before (record { head = head; lacing = lacing; body = body }) f, λ good. tt))))))

between_is : (w v : Why) → IsForeign w → w ≡ between v → v ≡ w
between_is w Truncated f is = absurd (f.end (sym is))
between_is w v f is = sym is

no_page_for : (w : Why) (before : Option Before) (m : Mark) (left : List Bool) → IsForeign w → IsNoPage before m left w → m.short ≡ w
no_page_for w before m left f (inl (front, rest, split, shows)) = absurd (never_shown (page before) m front w (never_page w before f) shows)
no_page_for w before m left f (inr (inl (short, is))) = between_is w m.short f is
no_page_for w before m left f (inr (inr (long, cut, is))) = sym is

-- ---- pages one after another

-- this fault has this reason
abbrev pub Tells : Why → Option (ℕ × Why) → Type 0
Tells w o = (n : ℕ) × (o ≡ Some (n, w))

abbrev pub some_fault : ℕ × Why → Option (ℕ × Why)
some_fault f = Some f

none_told : (f : ℕ × Why) → None ≡ some_fault f → ⊥
none_told f e = absurd cc

same_told : (f g : ℕ × Why) → some_fault f ≡ some_fault g → f ≡ g
same_told f g e = cc

abbrev reason : Why → Option Why
reason w = Some w

broken_for : (w : Why) (before : Option Before) (m : Mark) (text rest : List Bool) (n k : ℕ) (why : Why) → IsForeign w → IsNoPage before (past text m) rest why → some_fault (k, why) ≡ some_fault (n, w) → m.short ≡ w
broken_for w before m text rest n k why f is e =
    let same : why ≡ w = ap (λ (t : ℕ × Why). t.1) (same_told (k, why) (n, w) e) in
    sym (past-short text m) ∙ no_page_for w before (past text m) rest f (subst (λ (v : Why). IsNoPage before (past text m) rest v) same is)

byte_after : (w : Why) (d : Cursor) → IsForeign w → end_fault d ≡ reason w → d.mark.short ≡ w
unfolding end_fault
byte_after w d f e = go d.left e
  where
    same_reason : (u v : Why) → reason u ≡ reason v → u ≡ v
    same_reason u v e = cc

    over_for : (v : Why) → unless_over v ≡ reason w → v ≡ w
    over_for Truncated e = absurd cc
    over_for v e = same_reason v w e

    go : (left : List Bool) → cond (is_nil left) (unless_over d.mark.short) (Some PageOrder) ≡ reason w → d.mark.short ≡ w
    go [] e = over_for d.mark.short e
    go (b ∷ bs) e = absurd (f.order (same_reason PageOrder w e))

pub fault_for : (w : Why) (before : Option Before) (m : Mark) (pages : List Page) (text rest : List Bool) (stop : Stop) (n : ℕ) → IsForeign w → EndsSo before m pages text rest stop → Tells w (fault_of n stop) → m.short ≡ w
fault_for w before m pages text rest (closed d) n f ends (k, e) = absurd (none_told (k, w) e)
fault_for w before m pages text rest (broken why) n f ends (k, e) = broken_for w (left_by before pages) m text rest k (page_index n) why f ends.1 e

pub stop_for : (w : Why) (before : Option Before) (m : Mark) (pages : List Page) (text rest : List Bool) (stop : Stop) (n : ℕ) → IsForeign w → EndsSo before m pages text rest stop → Tells w (stop_of n stop) → m.short ≡ w
stop_for w before m pages text rest (closed d) n f ends (k, e) = sym (past-short text m) ∙ ap (λ (c : Cursor). c.mark.short) (sym ends.1) ∙ byte_after w d f (go (end_fault d) e)
  where
    go : (o : Option Why) → at_page n o ≡ some_fault (k, w) → o ≡ reason w
    go None e = absurd (none_told (k, w) e)
    go (Some v) e = ap reason (ap (λ (t : ℕ × Why). t.1) (same_told (page_index n, v) (k, w) e))
stop_for w before m pages text rest (broken why) n f ends (k, e) = broken_for w (left_by before pages) m text rest k (page_index n) why f ends.1 e
