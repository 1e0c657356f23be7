-- What a drawer means as a channel. Assumes nothing.
use Rattle.std.specs.Prelude.{ℕ, Option}
use mathlib.Core.List.{Memᴰ}
use Rattle.terms.specs.declared.side.Side.{Side}
use Rattle.channel.specs.Packet.{Packet, Body}
use Rattle.channel.specs.Tallies.{tally_in}
use Rattle.drawer.specs.declared.drawer.Drawer.{Drawer}
use Rattle.drawer.specs.Keeping.{keeps, OneKept, Drawn}

-- a packet is afloat once it is kept
abbrev pub drawer_afloat : Drawer → Packet → Type 0
drawer_afloat d p = Memᴰ p (keeps d)

abbrev pub drawer_tally : Drawer → Side → ℕ
drawer_tally d = tally_in d.tallies

-- a put adds to what is kept
abbrev pub drawer_posts : Drawer → Packet → Drawer → Type 0
drawer_posts before p after = OneKept p before after

-- a take hands out what the next pick tells
abbrev pub drawer_hands : Drawer → Side → Option Body → Drawer → Type 0
drawer_hands before side got after = Drawn side got before after
