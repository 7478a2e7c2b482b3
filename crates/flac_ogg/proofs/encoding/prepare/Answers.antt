use Rattle.std.proofs.Common.{◌≡◌, ◌≤◌, ◌+◌, ◌*◌, ◌/◌, [], List, length, subst}
use Rattle.std.proofs.lemmas.Result.{err_from_is_err_and}
use Rattle.flac_info.specs.Info.{Info}
use Rattle.flac_meta.specs.declared.block.Block.{Block}
use Rattle.flac_native.proofs.FixedBuffers.{room_of}
use Rattle.flac_ogg.specs.declared.headers.Headers.{Headers}
use Rattle.flac_ogg.specs.Headers.{AreHeaders}
use Rattle.flac_ogg.specs.Native.{packet_spellings}
use Rattle.flac_ogg.specs.Writing.{header_count}
use Rattle.flac_ogg.proofs.encoding.prepare.Goals as goal

-- header packets of the STREAMINFO of the frames
made_of : (info i : Info) (list : List Block) (h : Headers) → info ≡ i → AreHeaders (packet_spellings (header_count (length list)) info list []) h → AreHeaders (packet_spellings (header_count (length list)) i list []) h
made_of info i list h is made = subst (λ (x : Info). AreHeaders (packet_spellings (header_count (length list)) x list []) h) is made

pub returns-in_err-frames : goal.returns-in_err-frames
returns-in_err-frames c =
    let p = err_from_is_err_and c.from_residual.result c.from_residual.ensures.1 in
    rw (p.1, p.2) (record { counted = tt; choices = tt; headers = tt; serial = tt; room = tt; pages = tt; buffers = c.in_err-frames.ensures.kept; memory = c.in_err-frames.ensures.memory })

pub returns-in_err-headers : goal.returns-in_err-headers
returns-in_err-headers c =
    let p = err_from_is_err_and c.from_residual-in_err-headers.result c.from_residual-in_err-headers.ensures.1 in
    rw (p.1, p.2) (record { counted = tt; choices = tt; headers = tt; serial = tt; room = tt; pages = tt; buffers = c.in_ok-frames.ensures.kept; memory = c.in_err-headers.ensures.memory })

pub returns-in_err-room : goal.returns-in_err-room
returns-in_err-room c =
    let p = err_from_is_err_and c.from_residual-in_err-room.result c.from_residual-in_err-room.ensures.1 in
    rw (p.1, p.2) (record { counted = tt; choices = tt; headers = tt; serial = tt; room = tt; pages = tt; buffers = c.in_ok-frames.ensures.kept; memory = c.in_err-room.ensures.memory })

pub returns-in_err-pages : goal.returns-in_err-pages
returns-in_err-pages c =
    let p = err_from_is_err_and c.from_residual-in_err-pages.result c.from_residual-in_err-pages.ensures.1 in
    rw (p.1, p.2) (record { counted = tt; choices = tt; headers = tt; serial = tt; room = tt; pages = tt; buffers = c.in_ok-frames.ensures.kept; memory = c.in_err-pages.ensures.memory })

pub returns : goal.returns
returns c = record {
  counted = c.in_ok-frames.ensures.counted;
  choices = c.in_ok-frames.ensures.choices;
  headers = made_of c.info.result _ c.args.list.now c.in_ok-headers.headers c.info.ensures c.in_ok-headers.ensures.made;
  serial = c.in_ok-headers.ensures.serial;
  room = room_of c.args.plan.now c.args.audio.now _ _ _ _ c.in_ok-frames.ensures.counted c.in_ok-room.ensures.places;
  pages = subst (λ n. 65307 * (n / 65025 + 1) ≤ c.in_ok-pages.pages.places) c.greatest.ensures c.in_ok-pages.ensures.places;
  buffers = c.in_ok-frames.ensures.kept;
  memory = tt;
}
