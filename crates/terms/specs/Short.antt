-- What a short byte string holds. Assumes nothing.
use Rattle.std.specs.Prelude.{◌≡◌, ℕ, ◌-◌, List, ◌++◌, length, take, replicate}
use Rattle.terms.specs.declared.short_bytes.ShortBytes.{ShortBytes}

-- the bytes held
abbrev pub held : {N : ℕ} → ShortBytes N → List ℕ
held s = take s.len s.bytes

-- s holds the bytes bs, with zeros after them
pub record Holds {N : ℕ} (bs : List ℕ) (s : ShortBytes N) : Type 0 where
  pub text : held s ≡ bs
  pub len : s.len ≡ length bs
  pub whole : s.bytes ≡ bs ++ replicate (N - length bs) 0
