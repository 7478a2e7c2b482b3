-- The bytes of a block, and its content.
use Rattle.std.proofs.Common.{◌≡◌, ℕ, ◌+◌, ◌*◌, ◌≤◌, false, List, [], ◌++◌, length, length-append, drop, sym, ap, ◌∙◌, arith}
use Rattle.std.proofs.lemmas.List.{append-nil}
use Rattle.flac_bits.specs.Bits.{bits_of}
use Rattle.flac_bits.proofs.Holding.{length-bits_of}
use Rattle.flac_meta.specs.Spelling.{kind_of, length_of, header_spelling, content_spelling, block_spelling}
use Rattle.flac_meta.specs.declared.block.Block.{Block}
use Rattle.flac_edit.proofs.Spelled.{length-header, front_bytes}

parts_are : (b : Block) (bytes : List ℕ) → bits_of bytes ≡ block_spelling false b → bits_of bytes ≡ header_spelling false (kind_of b) (length_of b) ++ (content_spelling b ++ [])
unfolding block_spelling
parts_are b bytes is = is

pub has_header : (b : Block) (bytes : List ℕ) → bits_of bytes ≡ block_spelling false b → 4 ≤ length bytes
has_header b bytes is =
    let header = header_spelling false (kind_of b) (length_of b) in
    let more = content_spelling b ++ [] in
    let long : 8 * length bytes ≡ length header + length more = sym (length-bits_of bytes) ∙ ap length (parts_are b bytes is) ∙ length-append header more in
    omega (arith, long, length-header false (kind_of b) (length_of b))

pub content_is : (b : Block) (bytes : List ℕ) → bits_of bytes ≡ block_spelling false b → bits_of (drop 4 bytes) ≡ content_spelling b
content_is b bytes is =
    (front_bytes bytes (header_spelling false (kind_of b) (length_of b)) (content_spelling b ++ []) 4 (length-header false (kind_of b) (length_of b)) (parts_are b bytes is)).1 ∙ append-nil (content_spelling b)

-- a copy of what comes after the header
pub content_from : (b : Block) (bytes read back copy : List ℕ) → bits_of bytes ≡ block_spelling false b → read ≡ bytes → back ≡ drop 4 read → copy ≡ back → bits_of copy ≡ content_spelling b
content_from b bytes read back copy is same behind copied = ap bits_of (copied ∙ behind ∙ ap (drop 4) same) ∙ content_is b bytes is
