use Rattle.std.proofs.Common.{arith, ◌≡◌, ◌∙◌, ◌+◌, ◌*◌, ◌/◌, ◌%◌, ◌-◌, ◌≤◌, ◌<◌, ◌^◌, flat_map, length, sym, refl, ℕ}
use Rattle.std.proofs.lemmas.List.{length-map}
use Rattle.std.proofs.lemmas.Nat.{pow_pos}
use Rattle.std.proofs.lemmas.Result.{err_from_is_err_and}
use Rattle.flac_bits.specs.Bits.{unsigned}
use Rattle.flac_bits.proofs.Writing.{writes_then, fails_first}
use Rattle.flac_subframe.specs.format.Bodies.{cut}
use Rattle.flac_subframe.specs.format.Cost.{coding_of}
use Rattle.flac_subframe.specs.declared.format.coding_method.CodingMethod.{CodingMethod}
use Rattle.flac_subframe.specs.declared.format.coding_method.CodingMethod.TheVariants.{FourBits, FiveBits}
use Rattle.flac_subframe.specs.format.inner.Codes.{method_code}
use Rattle.flac_subframe.specs.format.inner.Cost.{codings_lent}
use Rattle.flac_subframe.specs.format.Spelling.{partition_spelling}
use Rattle.flac_subframe.proofs.lemmas.format.Methods.{method_bits, code_of_bits}
use Rattle.flac_subframe.proofs.lemmas.format.WriteSteps.{residual_text}
use Rattle.flac_subframe.proofs.format.writing.write_residual.Goals as goal

not_zero : (p k : ℕ) → p ≡ 2 ^ k → 0 < p
not_zero p k e = rw e (pow_pos k)

before : (order n p q : ℕ) → p ≡ q → order < n / q → order ≤ n / p
before order n p q e h = rw e (omega arith)

code_small : (m : CodingMethod) (code : ℕ) → code ≡ method_code m → code < 2
code_small FourBits code e = omega arith
code_small FiveBits code e = omega arith

field_small : (code order : ℕ) → code < 2 → order ≤ 15 → code * 16 + order < 64
field_small code order c o = omega arith

six : 6 ≤ 64
six = omega arith

cut_evenly : (n order k p : ℕ) → 0 < p → k ≡ p → (n + order) % p ≡ 0 → order < (n + order) / p → n + (n + order) / p ≡ (n + order) / p - order + k * ((n + order) / p)
cut_evenly n order k p some e even room = rw e (omega arith)

pub returns : goal.returns
returns g c =
    let f = codings_lent c.args.choice.now in
    let rs = c.args.values.now in
    let size : ℕ = (length rs + c.args.order) / 2 ^ f.partition_order in
    let m = c.args.choice.now.form.residual.method in
    let field : ℕ = method_code m * 16 + f.partition_order in
    rw (residual_text c.args.order rs f field (omega (arith, c.requires.may.few)) (rw (code_of_bits m) refl) (method_bits f.parameter_bits c.requires.may.method))
    (writes_then (flat_map (partition_spelling f.parameter_bits) (cut (size - c.args.order) size rs f.codings)) c.write_partitions.new.writer c.write_partitions.result (rw c.code.ensures at c.in_ok-put.ensures)
    (rw c.power.ensures at c.write_partitions.ensures))

pub returns-in_err-put : goal.returns-in_err-put
returns-in_err-put g c =
    let f = codings_lent c.args.choice.now in
    let rs = c.args.values.now in
    let size : ℕ = (length rs + c.args.order) / 2 ^ f.partition_order in
    let m = c.args.choice.now.form.residual.method in
    let field : ℕ = method_code m * 16 + f.partition_order in
    let p = err_from_is_err_and c.from_residual.result c.from_residual.ensures.1 in
    rw (p.1, p.2, residual_text c.args.order rs f field (omega (arith, c.requires.may.few)) (rw (code_of_bits m) refl) (method_bits f.parameter_bits c.requires.may.method))
    (fails_first (unsigned 6 field) (flat_map (partition_spelling f.parameter_bits) (cut (size - c.args.order) size rs f.codings)) (rw c.code.ensures at c.in_err-put.ensures))

pub power-requires : goal.power-requires
power-requires g c = c.requires.may.few

pub nonzero_div-size : goal.nonzero_div-size
nonzero_div-size g c = not_zero _ _ c.power.ensures

pub put-requires : goal.put-requires
put-requires g c = record { small = six; fits = field_small _ _ (code_small _ _ c.code.ensures) c.requires.may.few }

pub overflow_sub-size : goal.overflow_sub-size
overflow_sub-size g c = before _ _ _ _ c.power.ensures c.requires.may.room

pub write_partitions-requires : goal.write_partitions-requires
write_partitions-requires g c =
    let f = codings_lent c.args.choice.now in
    let rs = c.args.values.now in
    rw c.power.ensures (record {
      may = c.requires.may.codings;
      range = c.requires.range;
      cut = cut_evenly (length rs) c.args.order (length c.args.choice.now.codings.now) (2 ^ f.partition_order) (pow_pos f.partition_order) (sym (length-map c.args.choice.now.codings.now coding_of) ∙ c.requires.may.each) c.requires.may.even c.requires.may.room;
    })
