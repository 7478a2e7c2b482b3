-- How long a frame is that is not written yet.
use Rattle.std.proofs.Common.{◌≡◌, ◌∙◌, sym, ap, ℕ, ◌+◌, ◌*◌, ◌-◌, ◌/◌, ◌%◌, ◌≤◌, arith, ◌++◌, length, length-append, Some}
use Rattle.flac_header.specs.Header.{Header}
use Rattle.flac_header.specs.Spelling.{header_spelling}
use Rattle.flac_frame.specs.Encoding.{subframes_cost}
use Rattle.flac_frame.specs.Spelling.{FrameForm, frame_spelling, subframes_spelling}
use Rattle.flac_frame.proofs.Short.{whole_long}

frame_long : (depth : ℕ) (f : FrameForm) → length (frame_spelling depth f) ≡ 16 + (length (header_spelling f.header) + subframes_cost depth f) + (8 - (length (header_spelling f.header) + subframes_cost depth f) % 8) % 8
unfolding frame_spelling
frame_long depth f =
    let parts = subframes_spelling depth f.header.channel_code 0 f.subframes in
    let text = header_spelling f.header ++ parts in
    let sum : length text ≡ length (header_spelling f.header) + subframes_cost depth f = length-append (header_spelling f.header) parts in
    whole_long text ∙ ap (λ n. 16 + n + (8 - n % 8) % 8) sum

-- the bits of the subframes are fewer than those of the frame
pub cost_below : (depth : ℕ) (f : FrameForm) → subframes_cost depth f ≤ length (frame_spelling depth f)
cost_below depth f = omega (arith, frame_long depth f)

inner : (a b : Header) → Some a ≡ Some b → a ≡ b
inner a b e = cc

-- the bytes of the header, those of the subframes and of the check
pub frame_counted : (depth bits n : ℕ) (h : Header) (f : FrameForm) → Some h ≡ Some f.header → length (header_spelling h) ≡ 8 * n → bits ≡ subframes_cost depth f → length (frame_spelling depth f) ≡ 8 * (n + (bits + 7) / 8 + 2)
frame_counted depth bits n h f is long cost =
    let same : length (header_spelling f.header) ≡ 8 * n = ap (λ k. length (header_spelling k)) (inner f.header h (sym is)) ∙ long in
    omega (arith, frame_long depth f, same, cost)
