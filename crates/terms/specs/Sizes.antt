-- Which block sizes and windows may be agreed. Assumes nothing.
use Rattle.std.specs.Prelude.{ℕ, Bool, ◌&&◌, nat_le}

-- block size 8 to 1,468, window 1 to 16
abbrev pub legal_sizes : ℕ → ℕ → Bool
legal_sizes size window = nat_le 8 size && (nat_le size 1468 && (nat_le 1 window && nat_le window 16))
