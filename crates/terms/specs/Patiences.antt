-- Which figures make a patience. Assumes nothing.
use Rattle.std.specs.Prelude.{ℕ, ◌+◌, ◌*◌, Bool, ◌&&◌, nat_le}

-- wait 1 to 255 seconds, tries 0 to 15, and at most 1,530 seconds in all
abbrev pub legal_patience : ℕ → ℕ → Bool
legal_patience wait tries = nat_le 1 wait && (nat_le wait 255 && (nat_le tries 15 && nat_le ((tries + 1) * wait) 1530))
