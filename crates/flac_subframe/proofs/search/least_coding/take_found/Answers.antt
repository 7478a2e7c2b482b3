use Rattle.flac_subframe.proofs.search.least_coding.take_found.Goals as goal

pub take_up-requires : goal.take_up-requires
take_up-requires c = record {
  within = c.requires.within;
  table = c.requires.four;
  entries = rw c.in-FourBits.is c.requires.entries;
  widths = c.requires.widths;
  places = c.requires.places;
  codings = c.requires.codings;
}

pub take_up-requires-in-FiveBits : goal.take_up-requires-in-FiveBits
take_up-requires-in-FiveBits c = record {
  within = c.requires.within;
  table = c.requires.five;
  entries = rw c.in-FiveBits.is (c.requires.more c.in-FiveBits.is);
  widths = c.requires.widths;
  places = c.requires.places;
  codings = c.requires.codings;
}

pub returns-in-FourBits : goal.returns-in-FourBits
returns-in-FourBits c = record { least = c.take_up.ensures.least; bits = c.take_up.ensures.bits }

pub returns-in-FiveBits : goal.returns-in-FiveBits
returns-in-FiveBits c = record { least = c.take_up-in-FiveBits.ensures.least; bits = c.take_up-in-FiveBits.ensures.bits }
