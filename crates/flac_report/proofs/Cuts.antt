-- A report that was cut off: the lines of its first files, and a part of one.
use Rattle.std.proofs.Common.{◌≡◌, ℕ, nat_eq, List, [], ◌∷◌, ◌++◌, flat_map, refl, sym, subst, ap, ◌∙◌, append_assoc, append-nil, inl, inr}
use Rattle.std.proofs.lemmas.List.{append_cancel_left}
use Rattle.flac_json.specs.Json.{object, json_text}
use Rattle.flac_report.specs.Entries.{Entry, entry_members, line_of}
use Rattle.flac_report.specs.Lines.{IsFrontOf, onto_first, lines_in, AreFirstLines, CutReportsAreRead}
use Rattle.flac_report.specs.Objects.{members_of}
use Rattle.flac_report.proofs.Ends.{NoEnd, json_end, object_apart}
use Rattle.flac_report.proofs.Parts.{first_of, others_of, Divided, shorter, longer, divided}

-- bytes without a line feed are one line
one_part : (b : ℕ) (bytes : List ℕ) → NoEnd (b ∷ bytes) → lines_in (b ∷ bytes) ≡ (b ∷ bytes) ∷ []
one_part b [] plain = rw plain.0 refl
one_part b (c ∷ cs) plain = rw plain.0 (ap (onto_first b) (one_part c cs plain.1))

empty : {X : Type 0} (b : ℕ) (bytes : List ℕ) → [] ≡ b ∷ bytes → X
empty b bytes e = absurd cc

nothing : {X : Type 0} (xs : List ℕ) (b : ℕ) (rest : List ℕ) → [] ≡ xs ++ (b ∷ rest) → X
nothing [] b rest e = empty b rest e
nothing (x ∷ xs) b rest e = empty x (xs ++ (b ∷ rest)) e

-- a line without its line feed
abbrev body_of : Entry → List ℕ
body_of e = json_text (object (members_of (entry_members e)))

-- a part that is a front of a line and not all of it has no line feed
short_end : (part body rest : List ℕ) (b : ℕ) → NoEnd body → body ++ 10 ∷ [] ≡ part ++ (b ∷ rest) → NoEnd part
short_end [] body rest b plain is = tt
short_end (x ∷ xs) [] rest b plain is = nothing xs b rest (ap others_of is)
short_end (x ∷ xs) (y ∷ ys) rest b plain is = (ap (λ n. nat_eq n 10) (sym (ap first_of is)) ∙ plain.0, short_end xs ys rest b plain.1 (ap others_of is))

part_lines : (e : Entry) (es : List Entry) (part l : List ℕ) → line_of e ≡ part ++ l → AreFirstLines (e ∷ es) (lines_in part)
part_lines e es [] l is = tt
part_lines e es (b ∷ bytes) [] is =
    let whole : b ∷ bytes ≡ line_of e = sym (append-nil (b ∷ bytes)) ∙ sym is in
    let lines : lines_in (b ∷ bytes) ≡ line_of e ∷ [] = ap lines_in (whole ∙ sym (append-nil (line_of e))) ∙ object_apart (entry_members e) [] in
    subst (AreFirstLines (e ∷ es)) (sym lines) (inl (refl, tt))
part_lines e es (b ∷ bytes) (c ∷ rest) is =
    let lines : lines_in (b ∷ bytes) ≡ (b ∷ bytes) ∷ [] = one_part b bytes (short_end (b ∷ bytes) (body_of e) rest c (json_end (object (members_of (entry_members e)))) is) in
    subst (AreFirstLines (e ∷ es)) (sym lines) (inr ((c ∷ rest, sym is), refl))

cut_by : (e : Entry) (es : List Entry) (part rest : List ℕ) → ((l : List ℕ) → IsFrontOf l (flat_map line_of es) → AreFirstLines es (lines_in l))
    → part ++ rest ≡ line_of e ++ flat_map line_of es → Divided part rest (line_of e) (flat_map line_of es) → AreFirstLines (e ∷ es) (lines_in part)
cut_by e es part rest others whole (shorter l is) = part_lines e es part l is
cut_by e es part rest others whole (longer l is) =
    let tail : l ++ rest ≡ flat_map line_of es = append_cancel_left (line_of e) (l ++ rest) (flat_map line_of es) (sym (append_assoc (line_of e) l rest) ∙ ap (λ t. t ++ rest) (sym is) ∙ whole) in
    subst (AreFirstLines (e ∷ es)) (sym (ap lines_in is ∙ object_apart (entry_members e) l)) (inl (refl, others l (rest, tail)))

pub cut : CutReportsAreRead
cut [] [] front = tt
cut [] (b ∷ bytes) front = empty b (bytes ++ front.0) (sym front.1)
cut (e ∷ es) part front = cut_by e es part front.0 (cut es) front.1 (divided part front.0 (line_of e) (flat_map line_of es) front.1)
