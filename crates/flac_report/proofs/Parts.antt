-- A line that was cut off is a part of one.
use Rattle.std.proofs.Common.{◌≡◌, ◌-◌, ℕ, Bool, true, false, ◌||◌, not, eqb, List, [], ◌∷◌, ◌++◌, length, take, drop, codes, refl, sym, subst, ap, ◌∙◌, append_assoc, cond, Option, Some, None, option_map, IfSome, inl, inr}
use Rattle.std.proofs.Math.Seq.{drop-append_seam}
use Rattle.std.proofs.lemmas.Bool.Decides.{Decides-eqb}
use Rattle.std.proofs.lemmas.Slice.Eq.{starts_is, ends_is}
use Rattle.std.specs.List.{ends_with}
use Rattle.flac_json.specs.Json.{more_members}
use Rattle.flac_json.specs.Texts.{escapes}
use Rattle.flac_shelf.specs.declared.past.Past.{Past}
use Rattle.flac_report.specs.Objects.{members_of, present}
use Rattle.flac_report.specs.Entries.{Entry, status_of, line_of}
use Rattle.flac_report.specs.Lines.{IsFrontOf, BeginsSo, beginning}
use Rattle.flac_report.specs.inner.Reading.{begins, has_status, is_line, recorded_after, recorded_in, path_after, path_in}
use Rattle.flac_report.proofs.Again.{members_then, after_path, line_shape}
use Rattle.flac_report.proofs.Ends.{NoEnd, plain_end, both_end, first_end, last_end}
use Rattle.flac_report.proofs.Quoted.{escapes_plain, end_is}

-- ---- no line feed

never : {X : Type 0} → NoEnd (10 ∷ []) → X
never h = absurd (let e : true ≡ false = h.0 in cc)

ends_not : (part : List ℕ) (r : Bool) → r ≡ ends_with eqb part (10 ∷ []) → NoEnd part → r ≡ false
ends_not part true is none =
    let cut = (ends_is Decides-eqb part (10 ∷ []) true is).0 refl in
    never (last_end (take (length part - 1) part) (10 ∷ []) (subst NoEnd cut none))
ends_not part false is none = refl

-- ---- two ways to divide a text

pub data Divided (a b c d : List ℕ) : Type 0 where
  shorter : (l : List ℕ) → c ≡ a ++ l → Divided a b c d
  longer : (l : List ℕ) → a ≡ c ++ l → Divided a b c d

cons_shorter : (x y : ℕ) (a b c d : List ℕ) → x ≡ y → Divided a b c d → Divided (x ∷ a) b (y ∷ c) d
cons_shorter x y a b c d e (shorter l is) = shorter l (ap (λ k. k ∷ c) (sym e) ∙ ap (λ k. x ∷ k) is)
cons_shorter x y a b c d e (longer l is) = longer l (ap (λ k. k ∷ a) e ∙ ap (λ k. y ∷ k) is)

abbrev pub first_of : List ℕ → ℕ
first_of [] = 0
first_of (x ∷ xs) = x

abbrev pub others_of : List ℕ → List ℕ
others_of [] = []
others_of (x ∷ xs) = xs

pub divided : (a b c d : List ℕ) → a ++ b ≡ c ++ d → Divided a b c d
divided [] b c d is = shorter c refl
divided (x ∷ xs) b [] d is = longer (x ∷ xs) refl
divided (x ∷ xs) b (y ∷ ys) d is = cons_shorter x y xs b ys d (ap first_of is) (divided xs b ys d (ap others_of is))

-- ---- a part

abbrev status_front : List ℕ
status_front = codes "\",\"status\":\""

abbrev after_status : Entry → List ℕ
after_status e = ((escapes (status_of e.found) ++ 34 ∷ []) ++ more_members (members_of (present (members_then e)))) ++ (125 ∷ 10 ∷ [])

status_shape : (e : Entry) → after_path e ≡ status_front ++ after_status e
status_shape e = refl

has_it : (path l : List ℕ) → has_status (escapes path ++ (status_front ++ l)) ≡ true
has_it path l =
    ap (λ n. begins status_front (drop n (escapes path ++ (status_front ++ l)))) (end_is (escapes path) (drop 1 status_front ++ l) (escapes_plain path))
    ∙ ap (begins status_front) (drop-append_seam (escapes path) (status_front ++ l))

front_plain : (path : List ℕ) → NoEnd (escapes path ++ status_front)
front_plain path = both_end (escapes path) status_front (plain_end (escapes path) (escapes_plain path)) (refl, (refl, (refl, (refl, (refl, (refl, (refl, (refl, (refl, (refl, (refl, (refl, tt))))))))))))

begun_plain : (l : List ℕ) → NoEnd l → NoEnd (beginning ++ l)
begun_plain l plain = (refl, (refl, (refl, (refl, (refl, (refl, (refl, (refl, (refl, plain)))))))))

either_left : (a b : Bool) → a ≡ false → (not a || b) ≡ true
either_left a b is = rw is refl

either_right : (a b : Bool) → b ≡ true → (not a || b) ≡ true
either_right true b is = is
either_right false b is = refl

-- what comes after the beginning
after_by : (path l x u : List ℕ) → Divided x l (escapes path ++ status_front) u → (not (ends_with eqb (beginning ++ x) (10 ∷ [])) || has_status x) ≡ true
after_by path l x u (shorter more is) =
    either_left (ends_with eqb (beginning ++ x) (10 ∷ [])) (has_status x)
    (ends_not (beginning ++ x) (ends_with eqb (beginning ++ x) (10 ∷ [])) refl (begun_plain x (first_end x more (subst NoEnd is (front_plain path)))))
after_by path l x u (longer more is) =
    either_right (ends_with eqb (beginning ++ x) (10 ∷ [])) (has_status x)
    (ap has_status (is ∙ append_assoc (escapes path) status_front more) ∙ has_it path more)

begun : (x : List ℕ) → (not (ends_with eqb (beginning ++ x) (10 ∷ [])) || has_status x) ≡ true → is_line (beginning ++ x) ≡ true
unfolding is_line
begun x is = is

-- a part that is as long as the beginning
long_part : (e : Entry) (part rest x : List ℕ) → part ++ rest ≡ beginning ++ (escapes e.path ++ after_path e) → part ≡ beginning ++ x → is_line part ≡ true
long_part e part rest x whole is =
    let tail : x ++ rest ≡ escapes e.path ++ after_path e = ap (drop 9) (sym (append_assoc beginning x rest) ∙ ap (λ l. l ++ rest) (sym is) ∙ whole) in
    let cut = divided x rest (escapes e.path ++ status_front) (after_status e) (tail ∙ sym (append_assoc (escapes e.path) status_front (after_status e))) in
    ap is_line is ∙ begun x (after_by e.path rest x (after_status e) cut)

-- one that is not longer
short_by : (b : Bool) (part : List ℕ) → b ≡ begins beginning part → begins part beginning ≡ true → (b ≡ true → is_line part ≡ true) → is_line part ≡ true
unfolding is_line
short_by true part is short long = long refl
short_by false part is short long = rw (sym is) short

part_by : (e : Entry) (part rest : List ℕ) → part ++ rest ≡ beginning ++ (escapes e.path ++ after_path e) → Divided part rest beginning (escapes e.path ++ after_path e) → is_line part ≡ true
part_by e part rest whole (longer x is) = long_part e part rest x whole is
part_by e part rest whole (shorter l is) =
    short_by (begins beginning part) part refl ((starts_is Decides-eqb beginning part (begins part beginning) refl).1 l is)
    (λ begun_so. long_part e part rest (drop 9 part) whole ((starts_is Decides-eqb part beginning (begins beginning part) refl).0 begun_so))

pub part_is : (e : Entry) (part : List ℕ) → IsFrontOf part (line_of e) → is_line part ≡ true
part_is e part begins_it = part_by e part begins_it.0 (begins_it.1 ∙ line_shape e) (divided part begins_it.0 beginning (escapes e.path ++ after_path e) (begins_it.1 ∙ line_shape e))

-- ---- other lines

-- a text that begins so
front_of : (front whole : List ℕ) (b : Bool) → b ≡ begins front whole → b ≡ true → IsFrontOf front whole
front_of front whole b is so = (drop (length front) whole, sym ((starts_is Decides-eqb whole front b is).0 so))

so_by : (b : Bool) (line : List ℕ) → b ≡ begins beginning line → cond b (not (ends_with eqb line (10 ∷ [])) || has_status (drop 9 line)) (begins line beginning) ≡ true → BeginsSo line
so_by true line is so = inl (front_of beginning line true is refl)
so_by false line is so = inr (front_of line beginning (begins line beginning) refl so)

pub line_begins : (line : List ℕ) → is_line line ≡ true → BeginsSo line
unfolding is_line
line_begins line so = so_by (begins beginning line) line refl so

read_by : {A : Type 0} (b : Bool) (line : List ℕ) (found : Option A) → b ≡ begins beginning line → (r : Option A) → r ≡ cond b found None → IfSome r (λ _. IsFrontOf beginning line)
read_by true line found is None e = tt
read_by true line found is (Some x) e = front_of beginning line true is refl
read_by false line found is None e = tt
read_by false line found is (Some x) e = cc

view_by : {A B : Type 0} (view : A → B) (P : Type 0) (r : Option A) → IfSome (option_map view r) (λ _. P) → IfSome r (λ _. P)
view_by view P None h = tt
view_by view P (Some x) h = h

pub recorded_begins : {A : Type 0} (view : A → List ℕ × Past) (line : List ℕ) (r : Option A) → option_map view r ≡ recorded_in line → IfSome r (λ _. IsFrontOf beginning line)
unfolding recorded_in
recorded_begins view line r is = view_by view (IsFrontOf beginning line) r (read_by (begins beginning line) line (recorded_after (drop 9 line)) refl (option_map view r) is)

pub path_begins : {A : Type 0} (view : A → List ℕ) (line : List ℕ) (r : Option A) → option_map view r ≡ path_in line → IfSome r (λ _. IsFrontOf beginning line)
unfolding path_in
path_begins view line r is = view_by view (IsFrontOf beginning line) r (read_by (begins beginning line) line (path_after (drop 9 line)) refl (option_map view r) is)
