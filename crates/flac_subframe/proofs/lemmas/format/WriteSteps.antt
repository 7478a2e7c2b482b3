-- What is written, one piece after another.
use Rattle.std.proofs.Common.{◌≡◌, ◌∙◌, ℕ, zero, suc, ◌+◌, ◌-◌, ◌*◌, ◌/◌, ◌%◌, ◌^◌, ◌≤◌, ◌<◌, refl, sym, ap, arith, ℤ, pos, List, [], ◌∷◌, ◌++◌, Bool, length, take, drop, flat_map, All, append_assoc}
use Rattle.std.proofs.lemmas.Nat.{div-mul-add}
use Rattle.std.proofs.Math.Nat.{mod-eq_of_lt, mul-add-mod_self_right, suc-mul}
use Rattle.std.proofs.lemmas.List.{append-nil, drop_more, drop_all, length-drop}
use Rattle.std.proofs.lemmas.List.Elements.{All-drop}
use Rattle.flac_bits.specs.Bits.{unsigned}
use Rattle.flac_bits.specs.Meaning.{unary_bits}
use Rattle.flac_bits.specs.Rice.{IsResidual, folded, value_bits}
use Rattle.flac_bits.specs.Signed.{signed}
use Rattle.flac_bits.specs.Written.{Written, Adds}
use Rattle.flac_bits.proofs.Words.{split, unsigned-mod}
use Rattle.flac_bits.proofs.Writing.{Towards, towards_more}
use Rattle.flac_subframe.specs.declared.format.coding.Coding.{Coding}
use Rattle.flac_subframe.specs.declared.format.coding.Coding.TheVariants.{Rice, Escape}
use Rattle.flac_subframe.specs.format.Numbers.{sample_at}
use Rattle.flac_subframe.specs.format.Bodies.{cut, residual_of}
use Rattle.flac_subframe.specs.format.Cost.{MayCodeEach, Codings}
use Rattle.flac_subframe.specs.format.Spelling.{value_spelling, coding_spelling, partition_spelling, residual_spelling, predictor_spelling, flag_of, type_of, wasted_spelling, header_spelling, content_spelling, subframe_spelling}
use Rattle.flac_subframe.specs.format.Residual.{Residual}
use Rattle.flac_subframe.specs.format.Subframe.{Form, Constant, Verbatim, Fixed, Linear, Predictor}

-- two fields as one
pub two_fields : (n m a b : ℕ) → b < 2 ^ m → unsigned (n + m) (a * 2 ^ m + b) ≡ unsigned n a ++ unsigned m b
two_fields n m a b lt =
    let high : (a * 2 ^ m + b) / 2 ^ m ≡ a = div-mul-add a (2 ^ m) b lt in
    let low : (a * 2 ^ m + b) % 2 ^ m ≡ b = mul-add-mod_self_right a (2 ^ m) b ∙ mod-eq_of_lt lt in
    let same : unsigned m (a * 2 ^ m + b) ≡ unsigned m b = sym (unsigned-mod m (a * 2 ^ m + b)) ∙ ap (unsigned m) low in
    split n m (a * 2 ^ m + b) ∙ rw (high, same) refl

value_text : (k : ℕ) (x : ℤ) → value_bits k x ≡ value_spelling k x
unfolding value_spelling
value_text k x = ap (λ t. unary_bits (folded x / 2 ^ k) ++ t) (sym (append-nil (unsigned k (folded x % 2 ^ k)) ∙ unsigned-mod k (folded x)))

values_text : (k : ℕ) (xs : List ℤ) → flat_map (value_bits k) xs ≡ flat_map (value_spelling k) xs
values_text k [] = refl
values_text k (x ∷ xs) = ap (λ t. t ++ flat_map (value_bits k) xs) (value_text k x) ∙ ap (λ t. value_spelling k x ++ t) (values_text k xs)

pub each_step : (f : ℤ → List Bool) (xs : List ℤ) (i : ℕ) → i < length xs → flat_map f (drop i xs) ≡ f (sample_at xs i) ++ flat_map f (drop (i + 1) xs)
each_step f xs i lt = rw (drop_more xs i (pos 0) lt) refl

pub each_end : (f : ℤ → List Bool) (xs : List ℤ) (i : ℕ) → length xs ≤ i → flat_map f (drop i xs) ≡ []
each_end f xs i le = rw (drop_all i xs le) refl

pub none_signed : (xs : List ℤ) → flat_map (signed 0) xs ≡ []
none_signed [] = refl
none_signed (x ∷ xs) = none_signed xs

pub rice_text : (w k : ℕ) (vs : List ℤ) → coding_spelling w (Rice k) vs ≡ unsigned w k ++ flat_map (value_bits k) vs
unfolding coding_spelling
rice_text w k vs = ap (λ t. unsigned w k ++ t) (append-nil (flat_map (value_spelling k) vs) ∙ sym (values_text k vs))

pub escape_text : (w n field : ℕ) (vs : List ℤ) → n < 32 → field ≡ (2 ^ w - 1) * 32 + n → coding_spelling w (Escape n) vs ≡ unsigned (w + 5) field ++ flat_map (signed n) vs
unfolding coding_spelling
escape_text w n field vs small is =
    rw (is, two_fields w 5 (2 ^ w - 1) n small) (ap (λ t. unsigned w (2 ^ w - 1) ++ (unsigned 5 n ++ t)) (append-nil (flat_map (signed n) vs)) ∙ sym (append_assoc (unsigned w (2 ^ w - 1)) (unsigned 5 n) (flat_map (signed n) vs)))

-- some partitions were written, and the last ones are left
pub record WritingTo (w size : ℕ) (whole : List Bool) (old now : Written) (long : ℕ) (rest : List ℤ) (left : List Coding) : Type 0 where
  pub towards : Towards (flat_map (partition_spelling w) (cut long size rest left)) whole old now
  pub may : MayCodeEach w long size rest left
  pub range : All IsResidual rest
  pub cuts : 0 < length left → length rest + size ≡ long + length left * size

pub writing_more : (w size : ℕ) (whole : List Bool) (old now new : Written) (long : ℕ) (rest : List ℤ) (c : Coding) (left : List Coding) → WritingTo w size whole old now long rest (c ∷ left)
    → Adds (coding_spelling w c (take long rest)) now new → WritingTo w size whole old new size (drop long rest) left
unfolding cut
writing_more w size whole old now new long rest c left so adds =
    let here : length rest ≡ long + length left * size = omega (arith, so.cuts (omega arith), suc-mul (length left) size) in
    record {
      towards = towards_more (flat_map (partition_spelling w) (cut size size (drop long rest) left)) refl so.towards adds;
      may = so.may.1;
      range = All-drop IsResidual long rest so.range;
      cuts = λ some. omega (arith, here, length-drop long rest);
    }

pub writing_within : (w size : ℕ) (whole : List Bool) (old now : Written) (long : ℕ) (rest : List ℤ) (c : Coding) (left : List Coding) → WritingTo w size whole old now long rest (c ∷ left) → long ≤ length rest
writing_within w size whole old now long rest c left so = omega (arith, so.cuts (omega arith), suc-mul (length left) size)

pub nothing_left : (w long size : ℕ) (rest : List ℤ) (left : List Coding) → length left ≡ 0 → flat_map (partition_spelling w) (cut long size rest left) ≡ []
unfolding cut
nothing_left w long size rest [] e = refl
nothing_left w long size rest (c ∷ cs) e = absurd (omega (arith, e))

pub residual_text : (order : ℕ) (rs : List ℤ) (f : Codings) (field : ℕ) → f.partition_order < 16 → field ≡ (f.parameter_bits - 4) * 16 + f.partition_order → 4 + (f.parameter_bits - 4) ≡ f.parameter_bits
    → residual_spelling (residual_of order rs f) ≡ unsigned 6 field ++ flat_map (partition_spelling f.parameter_bits) (cut ((length rs + order) / 2 ^ f.partition_order - order) ((length rs + order) / 2 ^ f.partition_order) rs f.codings)
unfolding residual_spelling
residual_text order rs f field small is e =
    let size : ℕ = (length rs + order) / 2 ^ f.partition_order in
    let ps = cut (size - order) size rs f.codings in
    let parts : List Bool = flat_map (partition_spelling f.parameter_bits) ps in
    let a : List Bool = unsigned 2 (f.parameter_bits - 4) in
    let b : List Bool = unsigned 4 f.partition_order in
    let fields : unsigned 6 field ≡ a ++ b = ap (unsigned 6) is ∙ two_fields 2 4 (f.parameter_bits - 4) f.partition_order small in
    ap (λ (n : ℕ). (a ++ (b ++ [])) ++ (flat_map (partition_spelling n) ps ++ [])) e
    ∙ ap (λ (t : List Bool). (a ++ (b ++ [])) ++ t) (append-nil parts)
    ∙ ap (λ (t : List Bool). (a ++ t) ++ parts) (append-nil b)
    ∙ ap (λ (t : List Bool). t ++ parts) (sym fields)

flag_small : (k : ℕ) → flag_of k < 2 ^ 1
flag_small zero = omega arith
flag_small (suc k) = omega arith

-- the header as one field and the zeros of the wasted bits
pub header_text : (kind wasted field : ℕ) → kind < 64 → field ≡ kind * 2 + flag_of wasted → header_spelling kind wasted ≡ unsigned 8 field ++ wasted_spelling wasted
unfolding header_spelling
header_text kind wasted field small is =
    let f : List Bool = unsigned 1 (flag_of wasted) in
    let one : unsigned 8 field ≡ unsigned 7 kind ++ f = ap (unsigned 8) is ∙ two_fields 7 1 kind (flag_of wasted) (flag_small wasted) in
    let z : 0 * 2 ^ 6 + kind ≡ kind = omega arith in
    let two : unsigned 7 kind ≡ unsigned 1 0 ++ unsigned 6 kind = ap (unsigned 7) (sym z) ∙ two_fields 1 6 0 kind small in
    ap (λ (t : List Bool). unsigned 1 0 ++ (unsigned 6 kind ++ (f ++ t))) (append-nil (wasted_spelling wasted))
    ∙ ap (λ (t : List Bool). unsigned 1 0 ++ t) (sym (append_assoc (unsigned 6 kind) f (wasted_spelling wasted)))
    ∙ sym (append_assoc (unsigned 1 0) (unsigned 6 kind ++ f) (wasted_spelling wasted))
    ∙ ap (λ (t : List Bool). t ++ wasted_spelling wasted) (sym (append_assoc (unsigned 1 0) (unsigned 6 kind) f) ∙ ap (λ (t : List Bool). t ++ f) (sym two) ∙ sym one)

pub header_none : (kind : ℕ) → kind < 64 → header_spelling kind 0 ≡ unsigned 8 (kind * 2)
header_none kind small = header_text kind 0 (kind * 2) small (omega arith) ∙ append-nil (unsigned 8 (kind * 2))

pub header_more : (kind wasted : ℕ) → kind < 64 → 0 < wasted → header_spelling kind wasted ≡ unsigned 8 (kind * 2 + 1) ++ unary_bits (wasted - 1)
header_more kind zero small some = absurd (omega arith)
header_more kind (suc k) small some = let e : suc k - 1 ≡ k = omega arith in header_text kind (suc k) (kind * 2 + 1) small refl ∙ rw e refl

pub constant_text : (d : ℕ) (v : ℤ) → content_spelling d (Constant v) ≡ signed d v
unfolding content_spelling
constant_text d v = refl

pub verbatim_text : (d : ℕ) (vs : List ℤ) → content_spelling d (Verbatim vs) ≡ flat_map (signed d) vs
unfolding content_spelling
verbatim_text d vs = refl

pub fixed_text : (d : ℕ) (ws : List ℤ) (r : Residual) → content_spelling d (Fixed ws r) ≡ flat_map (signed d) ws ++ residual_spelling r
unfolding content_spelling
fixed_text d ws r = ap (λ (t : List Bool). flat_map (signed d) ws ++ t) (append-nil (residual_spelling r))

-- the precision less one and the shift as one field
pub predictor_text : (p : Predictor) (field : ℕ) → p.shift < 32 → field ≡ (p.precision - 1) * 32 + p.shift → predictor_spelling p ≡ unsigned 9 field ++ flat_map (signed p.precision) p.coefficients
unfolding predictor_spelling
predictor_text p field small is =
    let a : List Bool = unsigned 4 (p.precision - 1) in
    let b : List Bool = unsigned 5 p.shift in
    let cs : List Bool = flat_map (signed p.precision) p.coefficients in
    let fields : unsigned 9 field ≡ a ++ b = ap (unsigned 9) is ∙ two_fields 4 5 (p.precision - 1) p.shift small in
    ap (λ (t : List Bool). a ++ (b ++ t)) (append-nil cs) ∙ sym (append_assoc a b cs) ∙ ap (λ (t : List Bool). t ++ cs) (sym fields)

pub linear_text : (d : ℕ) (ws : List ℤ) (p : Predictor) (r : Residual) → content_spelling d (Linear ws p r) ≡ flat_map (signed d) ws ++ (predictor_spelling p ++ residual_spelling r)
unfolding content_spelling
linear_text d ws p r = ap (λ (t : List Bool). flat_map (signed d) ws ++ (predictor_spelling p ++ t)) (append-nil (residual_spelling r))

pub subframe_text : (d : ℕ) (f : Form) → subframe_spelling d f ≡ header_spelling (type_of f.content) f.wasted ++ content_spelling (d - f.wasted) f.content
unfolding subframe_spelling
subframe_text d f = ap (λ (t : List Bool). header_spelling (type_of f.content) f.wasted ++ t) (append-nil (content_spelling (d - f.wasted) f.content))
