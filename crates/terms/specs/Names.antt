-- Which bytes may be the name of an item. Assumes nothing.
use Rattle.std.specs.Prelude.{ℕ, Bool, ◌&&◌, List, length, nat_le, nat_lt}
use Rattle.std.specs.List.{list_all}

-- the byte shows as a character
abbrev pub visible : ℕ → Bool
visible b = nat_le 33 b && nat_le b 126

abbrev pub all_visible : List ℕ → Bool
all_visible bs = list_all visible bs

-- 1 to 32 visible bytes
abbrev pub legal_name : List ℕ → Bool
legal_name bs = nat_lt 0 (length bs) && (nat_le (length bs) 32 && all_visible bs)
