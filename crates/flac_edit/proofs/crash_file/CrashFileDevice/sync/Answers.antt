use Rattle.std.proofs.Common.{ap}
use Rattle.flac_edit.specs.Crashes.{shown_after}
use Rattle.flac_edit.specs.declared.crash_file.Call.TheVariants as call
use Rattle.flac_edit.proofs.Crashes.{sync_shown, sync_only, sync_less, elapses_to, elapses_same, same_less}
use Rattle.flac_edit.proofs.crash_file.CrashFileDevice.sync.Goals as goal

pub returns-in_err-note_sync-clause-seen : goal.returns-in_err-note_sync-clause-seen
returns-in_err-note_sync-clause-seen c =
    let first = c.args.self.now.first.items in
    let cs = c.args.self.now.calls.items in
    let ds = c.note_sync.new.calls.items in
    λ k. ap (shown_after first) c.in_err-note_sync.ensures.err

pub returns-in_err-note_sync-clause-crash : goal.returns-in_err-note_sync-clause-crash
returns-in_err-note_sync-clause-crash c =
    let first = c.args.self.now.first.items in
    let cs = c.args.self.now.calls.items in
    let ds = c.note_sync.new.calls.items in
    λ k. same_less first cs ds c.in_err-note_sync.ensures.err

pub returns-in_err-note_sync-clause-time : goal.returns-in_err-note_sync-clause-time
returns-in_err-note_sync-clause-time c =
    let first = c.args.self.now.first.items in
    let cs = c.args.self.now.calls.items in
    let ds = c.note_sync.new.calls.items in
    λ k. elapses_same first cs ds c.in_err-note_sync.ensures.err

pub returns-clause-durable : goal.returns-clause-durable
returns-clause-durable c =
    let first = c.args.self.now.first.items in
    let cs = c.args.self.now.calls.items in
    let ds = c.note_sync.new.calls.items in
    λ k. sync_only first cs ds c.in_ok-note_sync.ensures.ok

pub returns-clause-seen : goal.returns-clause-seen
returns-clause-seen c =
    let first = c.args.self.now.first.items in
    let cs = c.args.self.now.calls.items in
    let ds = c.note_sync.new.calls.items in
    λ k. sync_shown first cs ds c.in_ok-note_sync.ensures.ok

pub returns-clause-crash : goal.returns-clause-crash
returns-clause-crash c =
    let first = c.args.self.now.first.items in
    let cs = c.args.self.now.calls.items in
    let ds = c.note_sync.new.calls.items in
    λ k. sync_less first cs ds c.in_ok-note_sync.ensures.ok

pub returns-clause-time : goal.returns-clause-time
returns-clause-time c =
    let first = c.args.self.now.first.items in
    let cs = c.args.self.now.calls.items in
    let ds = c.note_sync.new.calls.items in
    λ k. elapses_to first cs ds call.Sync c.in_ok-note_sync.ensures.ok
