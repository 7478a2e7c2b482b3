-- The object of a block determines it, but for the data that it has the length and the MD5 of.
use Rattle.std.proofs.Common.{◌≡◌, ◌<◌, ◌≤◌, ◌+◌, ◌^◌, ℕ, zero, suc, Bool, true, false, cond, min, nat_eq, nat_lt, List, [], ◌∷◌, ◌++◌, length, take, drop, map, codes, decimal, Option, Some, None, refl, sym, ap, subst, ◌∙◌, add-one, arith, tests}
use Rattle.std.proofs.lemmas.Bool.Decides.{nat_tests}
use Rattle.std.proofs.lemmas.Fmt.{decimal_injective}
use Rattle.std.specs.Str.{is_utf8}
use Rattle.md5.specs.Md5.{md5}
use Rattle.flac_info.specs.Info.{Info}
use Rattle.flac_meta.specs.SeekTable.{placeholder}
use Rattle.flac_meta.specs.Spelling.{kind_of, length_of}
use Rattle.flac_meta.specs.Valid.{AllAre, IsPoint, IsIndex, IsTrack, IsSheet, FitsFields}
use Rattle.flac_meta.specs.declared.seek_table.SeekPoint.{SeekPoint}
use Rattle.flac_meta.specs.declared.comments.Comments.{Comments}
use Rattle.flac_meta.specs.declared.cue_sheet.CueIndex.{CueIndex}
use Rattle.flac_meta.specs.declared.cue_sheet.CueTrack.{CueTrack}
use Rattle.flac_meta.specs.declared.cue_sheet.CueSheet.{CueSheet}
use Rattle.flac_meta.specs.declared.picture.Picture.{Picture}
use Rattle.flac_meta.specs.declared.block.Block.{Block}
use Rattle.flac_meta.specs.declared.block.Block.TheVariants.{StreamInfo, Padding, Application, SeekTable, VorbisComment, CueSheet as CueSheetBlock, Picture as PictureBlock, Other}
use Rattle.flac_json.specs.Blocks.{info_members, data_members, point_json, equals_at, comment_json, comments_members, zero_before, without_zeros, index_json, track_json, sheet_members, picture_members, own_members, type_name, printed_length, block_json}
use Rattle.flac_json.specs.Determined.{without_bytes, without_data, data_of, AreAlike, BlocksAreDetermined}
use Rattle.flac_json.specs.Fields.{bytes_json}
use Rattle.flac_json.specs.Json.{Json, number, text, truth, array, object, Items, no_items, item, items_of, Members, no_members, member}
use Rattle.flac_json.specs.Texts.{all_digits, hex_digits}
use Rattle.flac_json.proofs.Reading.{firsts, special_one}

-- ---- what is in a value

abbrev tag_of : Json → ℕ
tag_of (number n) = 0
tag_of (text t) = 1
tag_of (truth b) = 2
tag_of (array s) = 3
tag_of (object s) = 4

abbrev number_in : Json → ℕ
number_in (number n) = n
number_in (text t) = 0
number_in (truth b) = 0
number_in (array s) = 0
number_in (object s) = 0

abbrev text_in : Json → List ℕ
text_in (number n) = []
text_in (text t) = t
text_in (truth b) = []
text_in (array s) = []
text_in (object s) = []

abbrev truth_in : Json → Bool
truth_in (number n) = false
truth_in (text t) = false
truth_in (truth b) = b
truth_in (array s) = false
truth_in (object s) = false

abbrev items_in : Json → Items
items_in (number n) = no_items
items_in (text t) = no_items
items_in (truth b) = no_items
items_in (array s) = s
items_in (object s) = no_items

abbrev members_in : Json → Members
members_in (number n) = no_members
members_in (text t) = no_members
members_in (truth b) = no_members
members_in (array s) = no_members
members_in (object s) = s

abbrev first_value : Members → Json
first_value no_members = number 0
first_value (member n v s) = v

abbrev rest_of : Members → Members
rest_of no_members = no_members
rest_of (member n v s) = s

abbrev count_of : Members → ℕ
count_of no_members = 0
count_of (member n v s) = suc (count_of s)

abbrev first_item : Items → Json
first_item no_items = number 0
first_item (item v s) = v

abbrev rest_items : Items → Items
rest_items no_items = no_items
rest_items (item v s) = s

abbrev some_items : Items → ℕ
some_items no_items = 0
some_items (item v s) = 1

pub numbers : {m n : List ℕ} {a b : ℕ} {s z : Members} → member m (number a) s ≡ member n (number b) z → (a ≡ b) × (s ≡ z)
numbers e = (ap (λ k. number_in (first_value k)) e, ap rest_of e)

pub texts : {m n : List ℕ} {a b : List ℕ} {s z : Members} → member m (text a) s ≡ member n (text b) z → (a ≡ b) × (s ≡ z)
texts e = (ap (λ k. text_in (first_value k)) e, ap rest_of e)

truths : {m n : List ℕ} {a b : Bool} {s z : Members} → member m (truth a) s ≡ member n (truth b) z → (a ≡ b) × (s ≡ z)
truths e = (ap (λ k. truth_in (first_value k)) e, ap rest_of e)

pub arrays : {m n : List ℕ} {a b : Items} {s z : Members} → member m (array a) s ≡ member n (array b) z → (a ≡ b) × (s ≡ z)
arrays e = (ap (λ k. items_in (first_value k)) e, ap rest_of e)

values : {m n : List ℕ} {v w : Json} {s z : Members} → member m v s ≡ member n w z → (v ≡ w) × (s ≡ z)
values e = (ap first_value e, ap rest_of e)

pub objects : {s z : Members} → object s ≡ object z → s ≡ z
objects e = ap members_in e

-- ---- texts

nothing : (h : ℕ) (l : List ℕ) → [] ≡ h ∷ l → ⊥
nothing h l e = absurd cc

digits_same : (a b : List ℕ) → all_digits a ≡ all_digits b → a ≡ b
digits_same [] [] e = refl
digits_same [] (b ∷ bs) e = absurd (nothing _ _ e)
digits_same (a ∷ rest) [] e = absurd (nothing _ _ (sym e))
digits_same (a ∷ rest) (b ∷ bs) e =
    let one = special_one a b (all_digits rest) (all_digits bs) e in
    ap (λ k. k ∷ rest) one.0 ∙ ap (λ l. b ∷ l) (digits_same rest bs one.1)

abbrev bytes_by : Bool → List ℕ → Json
bytes_by p a = cond p (text a) (object (member (codes "hex") (text (all_digits a)) no_members))

bytes_cases : (p q : Bool) (a b : List ℕ) → bytes_by p a ≡ bytes_by q b → a ≡ b
bytes_cases true true a b e = ap text_in e
bytes_cases true false a b e = absurd (let t = ap tag_of e in omega (arith, t))
bytes_cases false true a b e = absurd (let t = ap tag_of e in omega (arith, t))
bytes_cases false false a b e = digits_same a b (texts (objects e)).0

bytes_same : (a b : List ℕ) → bytes_json a ≡ bytes_json b → a ≡ b
bytes_same a b e = bytes_cases (is_utf8 a) (is_utf8 b) a b e

-- ---- lists

list_same : {A : Type 0} (P : A → Type 0) (f : A → Json) → ((x y : A) → P x → P y → f x ≡ f y → x ≡ y) → (xs ys : List A) → AllAre P xs → AllAre P ys → items_of (map f xs) ≡ items_of (map f ys) → xs ≡ ys
list_same P f one [] [] px py e = refl
list_same P f one [] (y ∷ ys) px py e = absurd (let t = ap some_items e in omega (arith, t))
list_same P f one (x ∷ xs) [] px py e = absurd (let t = ap some_items e in omega (arith, t))
list_same P f one (x ∷ xs) (y ∷ ys) px py e = ap (λ k. k ∷ xs) (one x y px.0 py.0 (ap first_item e)) ∙ ap (λ l. y ∷ l) (list_same P f one xs ys px.1 py.1 (ap rest_items e))

-- ---- seek points

is_placeholder : (n : ℕ) → nat_eq n placeholder ≡ true → n ≡ placeholder
is_placeholder n h = grind (arith, nat_tests)

abbrev made_point : (sample offset size : ℕ) → SeekPoint
made_point sample offset size = record { sample = sample; offset = offset; length = size }

abbrev point_by : Bool → SeekPoint → Json
point_by b p =
    object (cond b (member (codes "placeholder") (truth true)) (member (codes "sample") (number p.sample))
    (member (codes "offset") (number p.offset) (member (codes "samples") (number p.length) no_members)))

point_fields : (p q : SeekPoint) → p.sample ≡ q.sample → p.offset ≡ q.offset → p.length ≡ q.length → p ≡ q
point_fields p q a b c =
    ap (λ n. made_point n p.offset p.length) a ∙ ap (λ n. made_point q.sample n p.length) b ∙ ap (λ n. made_point q.sample q.offset n) c

points_by : (b d : Bool) (p q : SeekPoint) → nat_eq p.sample placeholder ≡ b → nat_eq q.sample placeholder ≡ d → point_by b p ≡ point_by d q → p ≡ q
points_by true true p q pb qd e =
    let first = truths (objects e) in
    let second = numbers first.1 in
    let third = numbers second.1 in
    point_fields p q (is_placeholder p.sample pb ∙ sym (is_placeholder q.sample qd)) second.0 third.0
points_by false false p q pb qd e =
    let first = numbers (objects e) in
    let second = numbers first.1 in
    let third = numbers second.1 in
    point_fields p q first.0 second.0 third.0
points_by true false p q pb qd e = absurd (let t = ap (λ k. tag_of (first_value (members_in k))) e in omega (arith, t))
points_by false true p q pb qd e = absurd (let t = ap (λ k. tag_of (first_value (members_in k))) e in omega (arith, t))

point_same : (p q : SeekPoint) → point_json p ≡ point_json q → p ≡ q
point_same p q e = points_by (nat_eq p.sample placeholder) (nat_eq q.sample placeholder) p q refl refl e

-- ---- comments

equals_by : (b : Bool) (x : ℕ) (xs : List ℕ) → nat_eq x 61 ≡ b → (equals_at xs < length xs → take (equals_at xs) xs ++ 61 ∷ drop (equals_at xs + 1) xs ≡ xs)
    → equals_at (x ∷ xs) < length (x ∷ xs) → take (equals_at (x ∷ xs)) (x ∷ xs) ++ 61 ∷ drop (equals_at (x ∷ xs) + 1) (x ∷ xs) ≡ x ∷ xs
equals_by true x xs is more lt = ap (λ b. take (cond b 0 (equals_at xs + 1)) (x ∷ xs) ++ 61 ∷ drop (cond b 0 (equals_at xs + 1) + 1) (x ∷ xs)) is ∙ ap (λ n. n ∷ xs) (sym (is_equals x is))
  where
    is_equals : (x : ℕ) → nat_eq x 61 ≡ true → x ≡ 61
    is_equals x h = grind (arith, nat_tests)
equals_by false x xs is more lt =
    ap (λ b. take (cond b 0 (equals_at xs + 1)) (x ∷ xs) ++ 61 ∷ drop (cond b 0 (equals_at xs + 1) + 1) (x ∷ xs)) is
    ∙ later x xs (equals_at xs) ∙ ap (λ l. x ∷ l) (more (less (equals_at (x ∷ xs)) (equals_at xs) (length xs) (ap (λ b. cond b 0 (equals_at xs + 1)) is) lt))
  where
    later : (x : ℕ) (xs : List ℕ) (n : ℕ) → take (n + 1) (x ∷ xs) ++ 61 ∷ drop (n + 1 + 1) (x ∷ xs) ≡ x ∷ (take n xs ++ 61 ∷ drop (n + 1) xs)
    later x xs n = ap (λ k. take k (x ∷ xs) ++ 61 ∷ drop (n + 1 + 1) (x ∷ xs)) (add-one n) ∙ ap (λ k. take (suc n) (x ∷ xs) ++ 61 ∷ drop k (x ∷ xs)) (add-one (n + 1))

    less : (n m k : ℕ) → n ≡ m + 1 → n < suc k → m < k
    less n m k e lt = omega (arith, e, lt)

equals_found : (t : List ℕ) → equals_at t < length t → take (equals_at t) t ++ 61 ∷ drop (equals_at t + 1) t ≡ t
equals_found [] lt = absurd (omega (arith, lt))
equals_found (x ∷ xs) lt = equals_by (nat_eq x 61) x xs refl (equals_found xs) lt

below : (n m : ℕ) → nat_lt n m ≡ true → n < m
below n m h = search tests

abbrev comment_by : Bool → List ℕ → Json
comment_by b t = cond b
    (object (member (codes "name") (bytes_json (take (equals_at t) t)) (member (codes "value") (bytes_json (drop (equals_at t + 1) t)) no_members)))
    (object (member (codes "text") (bytes_json t) no_members))

comments_by : (b d : Bool) (t u : List ℕ) → nat_lt (equals_at t) (length t) ≡ b → nat_lt (equals_at u) (length u) ≡ d → comment_by b t ≡ comment_by d u → t ≡ u
comments_by true true t u tb ud e =
    let first = values (objects e) in
    let second = values first.1 in
    sym (equals_found t (below _ _ tb)) ∙ ap (λ l. l ++ 61 ∷ drop (equals_at t + 1) t) (bytes_same (take (equals_at t) t) (take (equals_at u) u) first.0) ∙ ap (λ l. take (equals_at u) u ++ 61 ∷ l) (bytes_same (drop (equals_at t + 1) t) (drop (equals_at u + 1) u) second.0) ∙ equals_found u (below _ _ ud)
comments_by false false t u tb ud e = bytes_same t u (values (objects e)).0
comments_by true false t u tb ud e = absurd (let n = ap (λ k. count_of (members_in k)) e in omega (arith, n))
comments_by false true t u tb ud e = absurd (let n = ap (λ k. count_of (members_in k)) e in omega (arith, n))

comment_same : (t u : List ℕ) → comment_json t ≡ comment_json u → t ≡ u
comment_same t u e = comments_by (nat_lt (equals_at t) (length t)) (nat_lt (equals_at u) (length u)) t u refl refl e

-- ---- bytes without the zeros at their end, of one number

zero_is : (n : ℕ) → nat_eq n 0 ≡ true → n ≡ 0
zero_is n h = grind (arith, nat_tests)

ends_same : (b d : Bool) (x y : ℕ) → nat_eq x 0 ≡ b → nat_eq y 0 ≡ d → cond b [] (x ∷ []) ≡ cond d [] (y ∷ []) → x ≡ y
ends_same true true x y xb yd e = zero_is x xb ∙ sym (zero_is y yd)
ends_same true false x y xb yd e = absurd (nothing _ _ e)
ends_same false true x y xb yd e = absurd (nothing _ _ (sym e))
ends_same false false x y xb yd e = (firsts e).0

no_end : {X : Type 0} (b : Bool) (x y v : ℕ) (vs : List ℕ) → cond b [] (x ∷ []) ≡ y ∷ v ∷ vs → X
no_end true x y v vs e = absurd (nothing _ _ e)
no_end false x y v vs e = absurd (nothing _ _ (firsts e).1)

step_same : (x y : ℕ) (u v : List ℕ) → zero_before x u ≡ zero_before y v → (x ≡ y) × (u ≡ v)
step_same x y [] [] e = (ends_same (nat_eq x 0) (nat_eq y 0) x y refl refl e, refl)
step_same x y [] (v ∷ vs) e = no_end (nat_eq x 0) x y v vs e
step_same x y (u ∷ us) [] e = no_end (nat_eq y 0) y x u us (sym e)
step_same x y (u ∷ us) (v ∷ vs) e = firsts e

zeros_same : (a b : List ℕ) → length a ≡ length b → without_zeros a ≡ without_zeros b → a ≡ b
zeros_same [] [] same e = refl
zeros_same [] (y ∷ ys) same e = absurd (omega (arith, same))
zeros_same (x ∷ xs) [] same e = absurd (omega (arith, same))
zeros_same (x ∷ xs) (y ∷ ys) same e =
    let one = step_same x y (without_zeros xs) (without_zeros ys) e in
    ap (λ k. k ∷ xs) one.0 ∙ ap (λ l. y ∷ l) (zeros_same xs ys (omega (arith, same)) one.1)

-- ---- cue sheets

abbrev made_index : ℕ → ℕ → CueIndex
made_index at n = record { offset = at; number = n }

index_same : (i j : CueIndex) → index_json i ≡ index_json j → i ≡ j
index_same i j e =
    let first = numbers (objects e) in
    let second = numbers first.1 in
    ap (λ n. made_index n i.number) second.0 ∙ ap (λ n. made_index j.offset n) first.0

abbrev made_track : ℕ → ℕ → List ℕ → Bool → Bool → List CueIndex → CueTrack
made_track at n code audio pre points = record { offset = at; number = n; isrc = code; audio = audio; pre_emphasis = pre; indices = points }

track_same : (t u : CueTrack) → IsTrack t → IsTrack u → track_json t ≡ track_json u → t ≡ u
track_same t u ft fu e =
    let first = numbers (objects e) in
    let second = numbers first.1 in
    let third = values second.1 in
    let fourth = truths third.1 in
    let fifth = truths fourth.1 in
    let sixth = arrays fifth.1 in
    ap (λ n. made_track n t.number t.isrc t.audio t.pre_emphasis t.indices) second.0
    ∙ ap (λ n. made_track u.offset n t.isrc t.audio t.pre_emphasis t.indices) first.0
    ∙ ap (λ l. made_track u.offset u.number l t.audio t.pre_emphasis t.indices) (zeros_same t.isrc u.isrc (ft.isrc.many ∙ sym fu.isrc.many) (bytes_same (without_zeros t.isrc) (without_zeros u.isrc) third.0))
    ∙ ap (λ b. made_track u.offset u.number u.isrc b t.pre_emphasis t.indices) fourth.0
    ∙ ap (λ b. made_track u.offset u.number u.isrc u.audio b t.indices) fifth.0
    ∙ ap (λ l. made_track u.offset u.number u.isrc u.audio u.pre_emphasis l) (list_same IsIndex index_json (λ i j fi fj. index_same i j) t.indices u.indices ft.indices fu.indices sixth.0)

abbrev made_sheet : (catalogue : List ℕ) (lead_in : ℕ) (cd : Bool) (tracks : List CueTrack) → CueSheet
made_sheet catalogue lead_in cd tracks = record { catalogue = catalogue; lead_in = lead_in; cd = cd; tracks = tracks }

sheet_same : (s t : CueSheet) → IsSheet s → IsSheet t → sheet_members s ≡ sheet_members t → s ≡ t
sheet_same s t fs ft e =
    let first = values e in
    let second = numbers first.1 in
    let third = truths second.1 in
    let fourth = arrays third.1 in
    ap (λ l. made_sheet l s.lead_in s.cd s.tracks) (zeros_same s.catalogue t.catalogue (fs.catalogue.many ∙ sym ft.catalogue.many) (bytes_same (without_zeros s.catalogue) (without_zeros t.catalogue) first.0))
    ∙ ap (λ n. made_sheet t.catalogue n s.cd s.tracks) second.0
    ∙ ap (λ b. made_sheet t.catalogue t.lead_in b s.tracks) third.0
    ∙ ap (λ l. made_sheet t.catalogue t.lead_in t.cd l) (list_same IsTrack track_json track_same s.tracks t.tracks fs.tracks ft.tracks fourth.0)

-- ---- the other blocks

abbrev made_info : (a b c d rate channels depth total : ℕ) (digest : List ℕ) → Info
made_info a b c d rate channels depth total digest = record { least_block = a; greatest_block = b; least_frame = c; greatest_frame = d; rate = rate; channels = channels; depth = depth; total = total; digest = digest }

info_same : (i k : Info) → info_members i ≡ info_members k → i ≡ k
info_same i k e =
    let f1 = numbers e in
    let f2 = numbers f1.1 in
    let f3 = numbers f2.1 in
    let f4 = numbers f3.1 in
    let f5 = numbers f4.1 in
    let f6 = numbers f5.1 in
    let f7 = numbers f6.1 in
    let f8 = numbers f7.1 in
    let f9 = texts f8.1 in
    ap (λ n. made_info n i.greatest_block i.least_frame i.greatest_frame i.rate i.channels i.depth i.total i.digest) f1.0
    ∙ ap (λ n. made_info k.least_block n i.least_frame i.greatest_frame i.rate i.channels i.depth i.total i.digest) f2.0
    ∙ ap (λ n. made_info k.least_block k.greatest_block n i.greatest_frame i.rate i.channels i.depth i.total i.digest) f3.0
    ∙ ap (λ n. made_info k.least_block k.greatest_block k.least_frame n i.rate i.channels i.depth i.total i.digest) f4.0
    ∙ ap (λ n. made_info k.least_block k.greatest_block k.least_frame k.greatest_frame n i.channels i.depth i.total i.digest) f5.0
    ∙ ap (λ n. made_info k.least_block k.greatest_block k.least_frame k.greatest_frame k.rate n i.depth i.total i.digest) f6.0
    ∙ ap (λ n. made_info k.least_block k.greatest_block k.least_frame k.greatest_frame k.rate k.channels n i.total i.digest) f7.0
    ∙ ap (λ n. made_info k.least_block k.greatest_block k.least_frame k.greatest_frame k.rate k.channels k.depth n i.digest) f8.0
    ∙ ap (λ l. made_info k.least_block k.greatest_block k.least_frame k.greatest_frame k.rate k.channels k.depth k.total l) (digits_same i.digest k.digest f9.0)

abbrev made_comments : (vendor : List ℕ) (list : List (List ℕ)) → Comments
made_comments vendor list = record { vendor = vendor; list = list }

anything : (l : List (List ℕ)) → AllAre (λ t. Unit {0}) l
anything [] = tt
anything (t ∷ ts) = (tt, anything ts)

comments_same : (c d : Comments) → comments_members c ≡ comments_members d → c ≡ d
comments_same c d e =
    let first = values e in
    let second = arrays first.1 in
    ap (λ v. made_comments v c.list) (bytes_same c.vendor d.vendor first.0)
    ∙ ap (λ l. made_comments d.vendor l) (list_same (λ t. Unit {0}) comment_json (λ t u ft fu. comment_same t u) c.list d.list (anything c.list) (anything d.list) second.0)

data_same : (a b : List ℕ) → data_members a ≡ data_members b → (length a ≡ length b) × (md5 a ≡ md5 b)
data_same a b e =
    let first = numbers e in
    let second = texts first.1 in
    (first.0, digits_same (md5 a) (md5 b) second.0)

abbrev made_picture : ℕ → List ℕ → List ℕ → (width height depth colours : ℕ) → Picture
made_picture kind media words width height depth colours = record { kind = kind; media = media; text = words; width = width; height = height; depth = depth; colours = colours; bytes = [] }

picture_same : (p q : Picture) → picture_members p ≡ picture_members q → AreAlike (PictureBlock p) (PictureBlock q)
picture_same p q e =
    let f1 = numbers e in
    let f2 = values f1.1 in
    let f3 = values f2.1 in
    let f4 = numbers f3.1 in
    let f5 = numbers f4.1 in
    let f6 = numbers f5.1 in
    let f7 = numbers f6.1 in
    let bytes = data_same p.bytes q.bytes f7.1 in
    record {
      rest = ap PictureBlock (ap (λ n. made_picture n p.media p.text p.width p.height p.depth p.colours) f1.0
          ∙ ap (λ l. made_picture q.kind l p.text p.width p.height p.depth p.colours) (bytes_same p.media q.media f2.0)
          ∙ ap (λ l. made_picture q.kind q.media l p.width p.height p.depth p.colours) (bytes_same p.text q.text f3.0)
          ∙ ap (λ n. made_picture q.kind q.media q.text n p.height p.depth p.colours) f4.0
          ∙ ap (λ n. made_picture q.kind q.media q.text q.width n p.depth p.colours) f5.0
          ∙ ap (λ n. made_picture q.kind q.media q.text q.width q.height n p.colours) f6.0
          ∙ ap (λ n. made_picture q.kind q.media q.text q.width q.height q.depth n) f7.0);
      size = bytes.0;
      digest = bytes.1;
    }

same_alike : (a b : Block) → a ≡ b → AreAlike a b
same_alike a b e = record { rest = ap without_data e; size = ap (λ k. length (data_of k)) e; digest = ap (λ k. md5 (data_of k)) e }

-- ---- types: the second letters of their names differ

abbrev second_of : List ℕ → ℕ
second_of [] = 0
second_of (x ∷ []) = 0
second_of (x ∷ y ∷ l) = y

abbrev letter_of : Block → ℕ
letter_of (StreamInfo i) = 84
letter_of (Padding n) = 65
letter_of (Application id bytes) = 80
letter_of (SeekTable ps) = 69
letter_of (VorbisComment c) = 79
letter_of (CueSheetBlock s) = 85
letter_of (PictureBlock p) = 73
letter_of (Other kind bytes) = 89

is_letter : (b : Block) → second_of (type_name b) ≡ letter_of b
is_letter (StreamInfo i) = refl
is_letter (Padding n) = refl
is_letter (Application id bytes) = refl
is_letter (SeekTable ps) = refl
is_letter (VorbisComment c) = refl
is_letter (CueSheetBlock s) = refl
is_letter (PictureBlock p) = refl
is_letter (Other kind bytes) = refl

abbrev rest_five : List ℕ → List ℕ
rest_five l = drop 5 l

own_same : (a b : Block) → letter_of a ≡ letter_of b → kind_of a < 2 ^ 8 → kind_of b < 2 ^ 8 → length_of a < 2 ^ 24 → length_of b < 2 ^ 24 → FitsFields a → FitsFields b
    → type_name a ≡ type_name b → printed_length a ≡ printed_length b → own_members a ≡ own_members b → AreAlike a b
own_same (StreamInfo i) (StreamInfo k) l ka kb na nb fa fb t len e = same_alike _ _ (ap StreamInfo (info_same i k e))
own_same (StreamInfo i) (Padding m) l ka kb na nb fa fb t len e = absurd (omega (arith, l))
own_same (StreamInfo i) (Application ie other) l ka kb na nb fa fb t len e = absurd (omega (arith, l))
own_same (StreamInfo i) (SeekTable qs) l ka kb na nb fa fb t len e = absurd (omega (arith, l))
own_same (StreamInfo i) (VorbisComment d) l ka kb na nb fa fb t len e = absurd (omega (arith, l))
own_same (StreamInfo i) (CueSheetBlock z) l ka kb na nb fa fb t len e = absurd (omega (arith, l))
own_same (StreamInfo i) (PictureBlock q) l ka kb na nb fa fb t len e = absurd (omega (arith, l))
own_same (StreamInfo i) (Other kine other) l ka kb na nb fa fb t len e = absurd (omega (arith, l))
own_same (Padding n) (StreamInfo k) l ka kb na nb fa fb t len e = absurd (omega (arith, l))
own_same (Padding n) (Padding m) l ka kb na nb fa fb t len e = same_alike _ _ (ap Padding (omega (arith, len, na, nb)))
own_same (Padding n) (Application ie other) l ka kb na nb fa fb t len e = absurd (omega (arith, l))
own_same (Padding n) (SeekTable qs) l ka kb na nb fa fb t len e = absurd (omega (arith, l))
own_same (Padding n) (VorbisComment d) l ka kb na nb fa fb t len e = absurd (omega (arith, l))
own_same (Padding n) (CueSheetBlock z) l ka kb na nb fa fb t len e = absurd (omega (arith, l))
own_same (Padding n) (PictureBlock q) l ka kb na nb fa fb t len e = absurd (omega (arith, l))
own_same (Padding n) (Other kine other) l ka kb na nb fa fb t len e = absurd (omega (arith, l))
own_same (Application id bytes) (StreamInfo k) l ka kb na nb fa fb t len e = absurd (omega (arith, l))
own_same (Application id bytes) (Padding m) l ka kb na nb fa fb t len e = absurd (omega (arith, l))
own_same (Application id bytes) (Application ie other) l ka kb na nb fa fb t len e = let first = texts e in let both = data_same bytes other first.1 in record { rest = ap (λ l. Application l []) (digits_same id ie first.0); size = both.0; digest = both.1 }
own_same (Application id bytes) (SeekTable qs) l ka kb na nb fa fb t len e = absurd (omega (arith, l))
own_same (Application id bytes) (VorbisComment d) l ka kb na nb fa fb t len e = absurd (omega (arith, l))
own_same (Application id bytes) (CueSheetBlock z) l ka kb na nb fa fb t len e = absurd (omega (arith, l))
own_same (Application id bytes) (PictureBlock q) l ka kb na nb fa fb t len e = absurd (omega (arith, l))
own_same (Application id bytes) (Other kine other) l ka kb na nb fa fb t len e = absurd (omega (arith, l))
own_same (SeekTable ps) (StreamInfo k) l ka kb na nb fa fb t len e = absurd (omega (arith, l))
own_same (SeekTable ps) (Padding m) l ka kb na nb fa fb t len e = absurd (omega (arith, l))
own_same (SeekTable ps) (Application ie other) l ka kb na nb fa fb t len e = absurd (omega (arith, l))
own_same (SeekTable ps) (SeekTable qs) l ka kb na nb fa fb t len e = same_alike _ _ (ap SeekTable (list_same IsPoint point_json (λ p q fp fq. point_same p q) ps qs fa fb (arrays e).0))
own_same (SeekTable ps) (VorbisComment d) l ka kb na nb fa fb t len e = absurd (omega (arith, l))
own_same (SeekTable ps) (CueSheetBlock z) l ka kb na nb fa fb t len e = absurd (omega (arith, l))
own_same (SeekTable ps) (PictureBlock q) l ka kb na nb fa fb t len e = absurd (omega (arith, l))
own_same (SeekTable ps) (Other kine other) l ka kb na nb fa fb t len e = absurd (omega (arith, l))
own_same (VorbisComment c) (StreamInfo k) l ka kb na nb fa fb t len e = absurd (omega (arith, l))
own_same (VorbisComment c) (Padding m) l ka kb na nb fa fb t len e = absurd (omega (arith, l))
own_same (VorbisComment c) (Application ie other) l ka kb na nb fa fb t len e = absurd (omega (arith, l))
own_same (VorbisComment c) (SeekTable qs) l ka kb na nb fa fb t len e = absurd (omega (arith, l))
own_same (VorbisComment c) (VorbisComment d) l ka kb na nb fa fb t len e = same_alike _ _ (ap VorbisComment (comments_same c d e))
own_same (VorbisComment c) (CueSheetBlock z) l ka kb na nb fa fb t len e = absurd (omega (arith, l))
own_same (VorbisComment c) (PictureBlock q) l ka kb na nb fa fb t len e = absurd (omega (arith, l))
own_same (VorbisComment c) (Other kine other) l ka kb na nb fa fb t len e = absurd (omega (arith, l))
own_same (CueSheetBlock s) (StreamInfo k) l ka kb na nb fa fb t len e = absurd (omega (arith, l))
own_same (CueSheetBlock s) (Padding m) l ka kb na nb fa fb t len e = absurd (omega (arith, l))
own_same (CueSheetBlock s) (Application ie other) l ka kb na nb fa fb t len e = absurd (omega (arith, l))
own_same (CueSheetBlock s) (SeekTable qs) l ka kb na nb fa fb t len e = absurd (omega (arith, l))
own_same (CueSheetBlock s) (VorbisComment d) l ka kb na nb fa fb t len e = absurd (omega (arith, l))
own_same (CueSheetBlock s) (CueSheetBlock z) l ka kb na nb fa fb t len e = same_alike _ _ (ap CueSheetBlock (sheet_same s z fa fb e))
own_same (CueSheetBlock s) (PictureBlock q) l ka kb na nb fa fb t len e = absurd (omega (arith, l))
own_same (CueSheetBlock s) (Other kine other) l ka kb na nb fa fb t len e = absurd (omega (arith, l))
own_same (PictureBlock p) (StreamInfo k) l ka kb na nb fa fb t len e = absurd (omega (arith, l))
own_same (PictureBlock p) (Padding m) l ka kb na nb fa fb t len e = absurd (omega (arith, l))
own_same (PictureBlock p) (Application ie other) l ka kb na nb fa fb t len e = absurd (omega (arith, l))
own_same (PictureBlock p) (SeekTable qs) l ka kb na nb fa fb t len e = absurd (omega (arith, l))
own_same (PictureBlock p) (VorbisComment d) l ka kb na nb fa fb t len e = absurd (omega (arith, l))
own_same (PictureBlock p) (CueSheetBlock z) l ka kb na nb fa fb t len e = absurd (omega (arith, l))
own_same (PictureBlock p) (PictureBlock q) l ka kb na nb fa fb t len e = picture_same p q e
own_same (PictureBlock p) (Other kine other) l ka kb na nb fa fb t len e = absurd (omega (arith, l))
own_same (Other kind bytes) (StreamInfo k) l ka kb na nb fa fb t len e = absurd (omega (arith, l))
own_same (Other kind bytes) (Padding m) l ka kb na nb fa fb t len e = absurd (omega (arith, l))
own_same (Other kind bytes) (Application ie other) l ka kb na nb fa fb t len e = absurd (omega (arith, l))
own_same (Other kind bytes) (SeekTable qs) l ka kb na nb fa fb t len e = absurd (omega (arith, l))
own_same (Other kind bytes) (VorbisComment d) l ka kb na nb fa fb t len e = absurd (omega (arith, l))
own_same (Other kind bytes) (CueSheetBlock z) l ka kb na nb fa fb t len e = absurd (omega (arith, l))
own_same (Other kind bytes) (PictureBlock q) l ka kb na nb fa fb t len e = absurd (omega (arith, l))
own_same (Other kind bytes) (Other kine other) l ka kb na nb fa fb t len e = let both = data_same bytes other e in record { rest = ap (λ n. Other n []) (decimal_injective kind kine (omega (arith, ka)) (omega (arith, kb)) (ap rest_five t)); size = both.0; digest = both.1 }

pub blocks_determined : BlocksAreDetermined
blocks_determined i j a b ka kb na nb fa fb e =
    let first = numbers (objects e) in
    let second = texts first.1 in
    let third = numbers second.1 in
    (first.0, own_same a b (sym (is_letter a) ∙ ap second_of second.0 ∙ is_letter b) ka kb na nb fa fb second.0 third.0 third.1)
