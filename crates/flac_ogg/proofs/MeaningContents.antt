-- What an input has: good pages and the packets in them, in just one way.
use Rattle.std.proofs.Common.{◌≡◌, ℕ, ◌+◌, Bool, false, List, [], length, None, refl, sym, ap, subst, ◌∙◌, arith}
use Rattle.flac_bits.specs.State.{Mark}
use Rattle.flac_bits.proofs.Readings.{at_}
use Rattle.flac_pages.specs.Pages.{Run, pages_of}
use Rattle.flac_pages.specs.Packets.{Place, Ahead, ahead, fault_of, stop_of}
use Rattle.flac_pages.specs.Given.{PacketsAhead}
use Rattle.flac_pages.specs.Runs.{IsRun}
use Rattle.flac_pages.proofs.PageRuns.{pages_are_runs}
use Rattle.flac_pages.proofs.PacketList.{packet_list}
use Rattle.flac_ogg.specs.Stream.{Contents, fault_in, stop_in}
use Rattle.flac_ogg.proofs.MeaningPackets.{lacing_in, bytes_in, good_laced, cut}

-- ---- what good pages give

abbrev pub ahead_in : Run → Ahead
ahead_in r = record { lacing = lacing_in r.pages; bytes = bytes_in r.pages; fault = fault_of (length r.pages) r.stop; stop = stop_of (length r.pages) r.stop }

-- where a reader of pages begins
abbrev pub ahead_of : Mark → List Bool → Ahead
ahead_of mark text = ahead_in (pages_of None (at_ text mark))

pub begins_ahead : (mark : Mark) (text : List Bool) (p : Place) → p.lacing ≡ [] → p.body ≡ [] → p.last ≡ false → p.before ≡ None → p.count ≡ 0 → p.cursor ≡ record { left = text; mark = mark } → ahead p ≡ ahead_of mark text
unfolding ahead
begins_ahead mark text p lacing body last before count cursor =
    let n : ℕ = length (pages_of None (at_ text mark)).pages in
    let plain : 0 + n ≡ n = omega arith in
    rw (lacing, body, last, before, count, cursor, plain) refl

-- ---- some contents

pub some_contents : (mark : Mark) (text : List Bool) → Contents mark text
some_contents mark text =
    let r : Run = pages_of None (at_ text mark) in
    let is : IsRun None (at_ text mark) r = (pages_are_runs None (at_ text mark) r).1 refl in
    let c = cut (lacing_in r.pages) (bytes_in r.pages) (good_laced None mark r.pages is.text is.good) in
    record { run = r; is_run = is; packets = c.packets; begun = c.begun; packed = record { full = c.full; lacing = c.lacing; bytes = c.bytes; part = c.part } }

-- ---- and no others

pub run_is : {mark : Mark} {text : List Bool} (c : Contents mark text) → pages_of None (at_ text mark) ≡ c.run
run_is {mark} {text} c = (pages_are_runs None (at_ text mark) c.run).0 c.is_run

pub contents_ahead : {mark : Mark} {text : List Bool} (c : Contents mark text) → PacketsAhead (ahead_of mark text) c.packets c.begun
contents_ahead {mark} {text} c =
    let there : PacketsAhead (ahead_in c.run) c.packets c.begun = record { full = c.packed.full; lacing = c.packed.lacing; bytes = c.packed.bytes; part = c.packed.part } in
    subst (λ (r : Run). PacketsAhead (ahead_in r) c.packets c.begun) (sym (run_is c)) there

pub contents_fault : {mark : Mark} {text : List Bool} (c : Contents mark text) → (ahead_of mark text).fault ≡ fault_in c
contents_fault c = ap (λ r. (ahead_in r).fault) (run_is c)

pub contents_stop : {mark : Mark} {text : List Bool} (c : Contents mark text) → (ahead_of mark text).stop ≡ stop_in c
contents_stop c = ap (λ r. (ahead_in r).stop) (run_is c)

pub one_contents : {mark : Mark} {text : List Bool} (c d : Contents mark text) → (c.run ≡ d.run) × (c.packets ≡ d.packets) × (c.begun ≡ d.begun)
one_contents {mark} {text} c d =
    let same = packet_list.one (ahead_of mark text) c.packets d.packets c.begun d.begun (contents_ahead c) (contents_ahead d) in
    (sym (run_is c) ∙ run_is d, same.0, same.1)
