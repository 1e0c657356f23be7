-- The bytes that hexadecimal digits stand for. Assumes nothing.
use Rattle.std.specs.Prelude.{◌≡◌, ℕ, ◌+◌, ◌-◌, ◌*◌, cond, ◌&&◌, List, [], ◌∷◌, Some, None, Ok, Err, vec_items, Option, Result, Vec, nat_le, slice_index}
use Rattle.std.specs.declared.alloc.Global.{Global}
use Rattle.console.specs.declared.hex.HexFault.{HexFault}
use Rattle.console.specs.declared.hex.HexFault.TheVariants.{OddLength, NotADigit, NoMemory}

-- the value of a digit in either case, or none
abbrev pub digit_value : ℕ → Option ℕ
digit_value c =
    cond (nat_le 48 c && nat_le c 57) (Some (c - 48)) (cond (nat_le 97 c && nat_le c 102) (Some (c - 97 + 10)) (cond (nat_le 65 c && nat_le c 70) (Some (c - 65 + 10)) None))

abbrev pub joined_digits : Option ℕ → Option ℕ → Option ℕ
joined_digits None l = None
joined_digits (Some h) None = None
joined_digits (Some h) (Some l) = Some (h * 16 + l)

-- the byte of two digits
abbrev pub byte_value : ℕ → ℕ → Option ℕ
byte_value h l = joined_digits (digit_value h) (digit_value l)

abbrev pub with_first : Option ℕ → Option (List ℕ) → Option (List ℕ)
with_first None bs = None
with_first (Some b) None = None
with_first (Some b) (Some bs) = Some (b ∷ bs)

-- the bytes of the digits, or none where a character is no digit or a digit is left over
abbrev pub hex_bytes : List ℕ → Option (List ℕ)
hex_bytes [] = Some []
hex_bytes (h ∷ []) = None
hex_bytes (h ∷ l ∷ cs) = with_first (byte_value h l) (hex_bytes cs)

-- what is answered to the digits: their bytes, or a fault where they stand for none or memory lacks
abbrev pub Decodes : List ℕ → Result (Vec ℕ Global) HexFault → Type 0
Decodes cs (Ok v) = hex_bytes cs ≡ Some (vec_items v)
Decodes cs (Err NoMemory) = Unit {0}
Decodes cs (Err OddLength) = hex_bytes cs ≡ None
Decodes cs (Err (NotADigit k)) = (hex_bytes cs ≡ None) × (byte_value (slice_index cs k) (slice_index cs (k + 1)) ≡ None)
