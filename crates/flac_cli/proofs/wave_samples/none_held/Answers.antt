use Rattle.std.proofs.Common.{[], sym, subst}
use Rattle.std.proofs.lemmas.Result.{err_from_is_err_and}
use Rattle.flac_cli.specs.inner.HeldWaves.{HasRoom}
use Rattle.flac_cli.proofs.HeldWaves.{held_none, room_of}
use Rattle.flac_cli.proofs.wave_samples.none_held.Goals as goal

pub returns-in_err-channels : goal.returns-in_err-channels
returns-in_err-channels c =
    let p = err_from_is_err_and c.from_residual.result c.from_residual.ensures.1 in
    rw (p.1, p.2) (record { none = tt; many = tt; room = tt; memory = c.in_err-channels.ensures.memory })

pub returns : goal.returns
returns c =
    let f = c.args.format.now in
    record {
      none = held_none f (record { depth = c.depth_of-depth.result; channels = c.in_ok-channels.channels }) c.in_ok-channels.ensures.many c.in_ok-channels.ensures.none c.depth_of-depth.ensures;
      many = c.in_ok-channels.ensures.many;
      room = subst (HasRoom f) (sym c.depth_of-depth.ensures) (room_of f c.requires.range []);
      memory = tt;
    }
