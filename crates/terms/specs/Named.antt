-- What a name holds, and what is made of bytes. Assumes nothing.
use Rattle.std.specs.Prelude.{◌≡◌, ℕ, ◌-◌, true, false, List, ◌++◌, length, replicate, Ok, Err, Result}
use Rattle.terms.specs.declared.refusal.Refusal.{Refusal}
use Rattle.terms.specs.declared.refusal.Refusal.TheVariants.{IllegalName}
use Rattle.terms.specs.declared.name.Name.{Name}
use Rattle.terms.specs.Names.{legal_name}
use Rattle.terms.specs.Short.{held}

-- the bytes of a name
abbrev pub name_text : Name → List ℕ
name_text n = held n.text

-- the name n was made of the legal bytes bs, with zeros after them
pub record Made (bs : List ℕ) (n : Name) : Type 0 where
  pub legal : legal_name bs ≡ true
  pub text : name_text n ≡ bs
  pub len : n.text.len ≡ length bs
  pub whole : n.text.bytes ≡ bs ++ replicate (32 - length bs) 0

-- what is answered to the bytes bs
abbrev pub Named : List ℕ → Result Name Refusal → Type 0
Named bs (Ok n) = Made bs n
Named bs (Err e) = (e ≡ IllegalName) × (legal_name bs ≡ false)
