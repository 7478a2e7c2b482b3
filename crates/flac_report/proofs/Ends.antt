-- A line has one line feed, its last byte.
use Rattle.std.proofs.Common.{◌≡◌, ◌/◌, ◌%◌, ℕ, zero, suc, Bool, true, false, cond, nat_eq, List, [], ◌∷◌, ◌++◌, decimal, flat_map, refl, ap, ◌∙◌, append_assoc, arith}
use Rattle.std.proofs.lemmas.Bool.Decides.{nat_tests}
use Rattle.std.specs.Fmt.{digit_glyph, digits_onto, digits}
use Rattle.flac_json.specs.Json.{Json, number, text, truth, array, object, Items, no_items, item, Members, no_members, member, json_text, items_text, more_items, members_text, more_members}
use Rattle.flac_json.specs.Texts.{escapes, quoted}
use Rattle.flac_report.specs.Entries.{entry_members, line_of}
use Rattle.flac_report.specs.Lines.{lines_in, onto_first, LinesAreApart}
use Rattle.flac_report.specs.Objects.{Member, members_of, object_line}
use Rattle.flac_report.proofs.Quoted.{ArePlain, escapes_plain}

abbrev pub NoEnd : List ℕ → Type 0
NoEnd [] = Unit {0}
NoEnd (b ∷ bytes) = (nat_eq b 10 ≡ false) × NoEnd bytes

pub plain_end : (bytes : List ℕ) → ArePlain bytes → NoEnd bytes
plain_end [] plain = tt
plain_end (b ∷ bs) plain = (plain.1, plain_end bs plain.2)

pub both_end : (a b : List ℕ) → NoEnd a → NoEnd b → NoEnd (a ++ b)
both_end [] b first second = second
both_end (x ∷ xs) b first second = (first.0, both_end xs b first.1 second)

pub first_end : (a b : List ℕ) → NoEnd (a ++ b) → NoEnd a
first_end [] b both = tt
first_end (x ∷ xs) b both = (both.0, first_end xs b both.1)

pub last_end : (a b : List ℕ) → NoEnd (a ++ b) → NoEnd b
last_end [] b both = both
last_end (x ∷ xs) b both = last_end xs b both.1

-- ---- numbers and texts

glyph_end : (d : ℕ) → nat_eq (digit_glyph false d) 10 ≡ false
glyph_end d = grind (arith, nat_tests)

onto_by : (b : Bool) (one more : List ℕ) → NoEnd one → NoEnd more → NoEnd (cond b one more)
onto_by true one more first second = first
onto_by false one more first second = second

onto_end : (k n : ℕ) (done : List ℕ) → NoEnd done → NoEnd (digits_onto k 10 false n done)
onto_end zero n done plain = plain
onto_end (suc k) n done plain =
    let more : NoEnd (digit_glyph false (n % 10) ∷ done) = (glyph_end (n % 10), plain) in
    onto_by (nat_eq (n / 10) 0) (digit_glyph false (n % 10) ∷ done) (digits_onto k 10 false (n / 10) (digit_glyph false (n % 10) ∷ done)) more (onto_end k (n / 10) (digit_glyph false (n % 10) ∷ done) more)

decimal_end : (n : ℕ) → NoEnd (decimal n)
unfolding digits
decimal_end n = onto_end 64 n [] tt

quoted_end : (t : List ℕ) → NoEnd (quoted t)
quoted_end t = (refl, both_end (escapes t) (34 ∷ []) (plain_end (escapes t) (escapes_plain t)) (refl, tt))

-- ---- values

named_end : (n v : List ℕ) → NoEnd v → NoEnd (quoted n ++ (58 ∷ v))
named_end n v plain = both_end (quoted n) (58 ∷ v) (quoted_end n) (refl, plain)

mutual
  pub json_end : (v : Json) → NoEnd (json_text v)
  json_end (number n) = decimal_end n
  json_end (text t) = quoted_end t
  json_end (truth true) = (refl, (refl, (refl, (refl, tt))))
  json_end (truth false) = (refl, (refl, (refl, (refl, (refl, tt)))))
  json_end (array s) = (refl, both_end (items_text s) (93 ∷ []) (items_end s) (refl, tt))
  json_end (object s) = (refl, both_end (members_text s) (125 ∷ []) (members_end s) (refl, tt))

  items_end : (s : Items) → NoEnd (items_text s)
  items_end no_items = tt
  items_end (item v s) = both_end (json_text v) (more_items s) (json_end v) (more_items_end s)

  more_items_end : (s : Items) → NoEnd (more_items s)
  more_items_end no_items = tt
  more_items_end (item v s) = (refl, both_end (json_text v) (more_items s) (json_end v) (more_items_end s))

  members_end : (s : Members) → NoEnd (members_text s)
  members_end no_members = tt
  members_end (member n v s) = both_end (quoted n ++ (58 ∷ json_text v)) (more_members s) (named_end n (json_text v) (json_end v)) (more_members_end s)

  more_members_end : (s : Members) → NoEnd (more_members s)
  more_members_end no_members = tt
  more_members_end (member n v s) = (refl, both_end (quoted n ++ (58 ∷ json_text v)) (more_members s) (named_end n (json_text v) (json_end v)) (more_members_end s))

-- ---- lines

one_line : (l rest : List ℕ) → NoEnd l → lines_in (l ++ 10 ∷ rest) ≡ (l ++ 10 ∷ []) ∷ lines_in rest
one_line [] rest plain = refl
one_line (b ∷ bs) rest plain = rw plain.0 (ap (onto_first b) (one_line bs rest plain.1))

pub object_apart : (ms : List Member) (rest : List ℕ) → lines_in (object_line ms ++ rest) ≡ object_line ms ∷ lines_in rest
object_apart ms rest = ap lines_in (append_assoc (json_text (object (members_of ms))) (10 ∷ []) rest) ∙ one_line (json_text (object (members_of ms))) rest (json_end (object (members_of ms)))

pub apart : LinesAreApart
apart [] = refl
apart (e ∷ es) = object_apart (entry_members e) (flat_map line_of es) ∙ ap (λ ls. line_of e ∷ ls) (apart es)
