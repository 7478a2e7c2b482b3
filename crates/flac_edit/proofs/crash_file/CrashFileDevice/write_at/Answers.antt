use Rattle.std.proofs.Common.{length}
use Rattle.flac_edit.specs.declared.crash_file.Call.TheVariants as call
use Rattle.flac_edit.proofs.Crashes.{write_holds, write_torn, write_whole, elapses_to, elapses_same, same_torn, same_whole}
use Rattle.flac_edit.proofs.crash_file.CrashFileDevice.write_at.Goals as goal

pub returns-in_err-note_write-clause-crash : goal.returns-in_err-note_write-clause-crash
returns-in_err-note_write-clause-crash c =
    let first = c.args.self.now.first.items in
    let cs = c.args.self.now.calls.items in
    let ds = c.note_write.new.calls.items in
    λ k. same_torn first cs ds c.args.at (length c.args.bytes.now) c.in_err-note_write.ensures.err

pub returns-in_err-note_write-clause-whole : goal.returns-in_err-note_write-clause-whole
returns-in_err-note_write-clause-whole c =
    let first = c.args.self.now.first.items in
    let cs = c.args.self.now.calls.items in
    let ds = c.note_write.new.calls.items in
    λ k word. same_whole first cs ds c.args.at c.args.bytes.now c.in_err-note_write.ensures.err

pub returns-in_err-note_write-clause-time : goal.returns-in_err-note_write-clause-time
returns-in_err-note_write-clause-time c =
    let first = c.args.self.now.first.items in
    let cs = c.args.self.now.calls.items in
    let ds = c.note_write.new.calls.items in
    λ k. elapses_same first cs ds c.in_err-note_write.ensures.err

pub returns-clause-written : goal.returns-clause-written
returns-clause-written c =
    let first = c.args.self.now.first.items in
    let cs = c.args.self.now.calls.items in
    let ds = c.note_write.new.calls.items in
    let ok = c.in_ok-note_write.ensures.ok in
    λ k. write_holds first cs ds c.args.at ok.0 c.args.bytes.now ok.1 ok.2 (c.requires k)

pub returns-clause-crash : goal.returns-clause-crash
returns-clause-crash c =
    let first = c.args.self.now.first.items in
    let cs = c.args.self.now.calls.items in
    let ds = c.note_write.new.calls.items in
    let ok = c.in_ok-note_write.ensures.ok in
    λ k. write_torn first cs ds c.args.at ok.0 c.args.bytes.now ok.1 ok.2

pub returns-clause-whole : goal.returns-clause-whole
returns-clause-whole c =
    let first = c.args.self.now.first.items in
    let cs = c.args.self.now.calls.items in
    let ds = c.note_write.new.calls.items in
    let ok = c.in_ok-note_write.ensures.ok in
    λ k word. write_whole first cs ds c.args.at ok.0 c.args.bytes.now ok.1 ok.2 word

pub returns-clause-time : goal.returns-clause-time
returns-clause-time c =
    let first = c.args.self.now.first.items in
    let cs = c.args.self.now.calls.items in
    let ds = c.note_write.new.calls.items in
    let ok = c.in_ok-note_write.ensures.ok in
    λ k. elapses_to first cs ds (call.Write c.args.at ok.0) ok.2
