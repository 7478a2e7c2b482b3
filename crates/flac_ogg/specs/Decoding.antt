-- How an input is read as an Ogg stream.
use Rattle.std.specs.Prelude.{◌≡◌, ◌≢◌, ◌⊎◌, ℕ, Bool, true, false, List, [], ◌++◌, length, None}
use Rattle.flac_bits.specs.Bits.{bits_of}
use Rattle.flac_bits.specs.State.{Mark}
use Rattle.flac_bits.specs.Items.{state_after}
use Rattle.flac_bits.specs.Handing.{InputReading}
use Rattle.flac_bits.specs.declared.source.Source as source
use Rattle.flac_bits.specs.declared.why.Why.{Why}
use Rattle.flac_bits.specs.declared.why.Why.TheVariants.{Read, Memory}
use Rattle.flac_native.specs.Decoding.{start_mark}
use Rattle.flac_native.specs.Stream.{Piece, Progress, grammar}
use Rattle.flac_native.specs.declared.fault.Place.{Place}
use Rattle.flac_native.specs.declared.fault.Place.TheVariants as place
use Rattle.flac_native.specs.declared.track.Phase.TheVariants.{Frames}
use Rattle.flac_pages.specs.Page.{Page}
use Rattle.flac_pages.specs.Packets.{Place as Stands, Packets, page_index, on_page, PassesPacket, BreaksAt}
use Rattle.flac_ogg.specs.Stream.{start, Contents, AreItems, OggStream, OggRefused}
use Rattle.flac_header.specs.declared.subset.Profile.{Profile}

-- the input's first packets are these items, each whole
pub record BeginsWith (profile : Profile) (mark : Mark) (items : List Piece) (text : List Bool) : Type 0 where
  pub contents : Contents mark text
  pub taken : List (List ℕ)
  pub left : List (List ℕ)
  pub split : contents.packets ≡ taken ++ left
  pub spelled : AreItems (start profile) taken items

-- The first n of the input's good pages were read, where n stops at 2^64 - 1: the packets that end in them are these
-- items. A further packet may have begun in them.
pub record ReadsTo (profile : Profile) (mark : Mark) (items : List Piece) (text : List Bool) (n : ℕ) : Type 0 where
  pub contents : Contents mark text
  pub read : List Page
  pub left : List Page
  pub split : contents.run.pages ≡ read ++ left
  pub count : n ≡ page_index (length read)
  pub packets : List (List ℕ)
  pub begun : List ℕ
  pub packed : Packets read packets begun
  pub spelled : AreItems (start profile) packets items

-- The place of an error that ends the reading of the next item early, once n pages were read: one of the device is
-- reported at the page after them, one of memory at the metadata block that comes next, since no memory is allocated
-- for a frame.
abbrev pub IsBrokenAt : ℕ → Progress → Place → Why → Type 0
IsBrokenAt n p at why = (why ≡ Read → at ≡ place.Page n) × (why ≡ Memory → (p.stand.phase ≢ Frames) × (at ≡ grammar.place p))

-- Reading ended early after these items, when n pages of the input had been read; an error of the device is reported at
-- the page after those of the items.
abbrev pub BreaksAtPage : Profile → Mark → List Piece → List Bool → Place → Why → Type 0
BreaksAtPage profile mark items text at why = (n : ℕ) × IsBrokenAt n (state_after grammar (start profile) items) at why × (why ≡ Read → ReadsTo profile mark items text n)

-- It is an Ogg stream of these items, or is refused after them, or its first packets are these items; the place of the
-- next one is that in a native stream. An error of the device is reported at the page after those that were read, which
-- are the pages of these items. Before the first item memory may run out at the marker too: the room for a page is
-- allocated before anything is read.
abbrev pub ogg_reading : Profile → Mark → List Bool → InputReading Piece Place
ogg_reading profile mark text = record {
  whole = λ items. OggStream profile mark items text;
  refused = λ items at why. OggRefused profile mark items text at why;
  begins = λ items. BeginsWith profile mark items text;
  place = λ items. grammar.place (state_after grammar (start profile) items);
  breaks = λ items at why. BreaksAtPage profile mark items text at why ⊎ ((items ≡ []) × (at ≡ place.Marker) × (why ≡ Memory));
}

-- how what a source has to come is read as an Ogg stream
abbrev pub ogg_reading_of : {R : Type 0} → source.Ghosts R → Profile → R → InputReading Piece Place
ogg_reading_of g profile s = ogg_reading profile (start_mark (g.after s)) (bits_of (g.coming s))

-- ---- where pages begin

-- a reader of pages is before this input, whose bytes are known, and has read nothing of it
pub record IsFront (mark : Mark) (text : List Bool) (p : Stands) : Type 0 where
  pub known : p.known ≡ true
  pub lacing : p.lacing ≡ []
  pub body : p.body ≡ []
  pub last : p.last ≡ false
  pub before : p.before ≡ None
  pub count : p.count ≡ 0
  pub cursor : p.cursor ≡ record { left = text; mark = mark }

-- ---- one packet

-- the next packet was passed
abbrev pub PassesNext : Stands → Stands → Type 0
PassesNext old new = old.known ≡ true → (new.known ≡ true) × PassesPacket (on_page old) (on_page new)

-- the device failed after as many pages as are counted, before the next packet ended
abbrev pub BreaksInNext : Stands → Stands → Why → Type 0
BreaksInNext old new why = why ≡ Read → old.known ≡ true → BreaksAt (on_page old) new.count
