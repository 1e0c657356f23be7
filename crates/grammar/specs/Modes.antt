-- The word of each mode, and which bytes name a mode. Assumes nothing.
use Rattle.std.specs.Prelude.{◌≡◌, ℕ, List, map, Ok, Err, codes, Result}
use Rattle.std.specs.Char.{to_ascii_lowercase}
use Rattle.terms.specs.declared.refusal.Refusal.{Refusal}
use Rattle.terms.specs.declared.refusal.Refusal.TheVariants.{UnsupportedMode}
use Rattle.grammar.specs.declared.mode.Mode.{Mode}
use Rattle.grammar.specs.declared.mode.Mode.TheVariants.{Octet}

abbrev pub mode_word : Mode → List ℕ
mode_word Octet = codes "octet"

-- the bytes are the word of m, A to Z taken as a to z
abbrev pub NamesMode : List ℕ → Mode → Type 0
NamesMode bs m = map to_ascii_lowercase bs ≡ map to_ascii_lowercase (mode_word m)

-- what is answered to the bytes bs
abbrev pub Moded : List ℕ → Result Mode Refusal → Type 0
Moded bs (Ok m) = NamesMode bs m
Moded bs (Err e) = (e ≡ UnsupportedMode) × ((m : Mode) → NamesMode bs m → ⊥)
