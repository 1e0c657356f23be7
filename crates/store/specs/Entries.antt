-- The names of entries. Assumes nothing.
use Rattle.std.specs.Prelude.{ℕ, Bool, List}
use Rattle.std.specs.Str.{bytes_eq}
use Rattle.terms.specs.Named.{name_text}
use Rattle.store.specs.declared.entry.Entry.{Entry}

-- the entry has that name
abbrev pub is_called : {T : Type 0} → List ℕ → Entry T → Bool
is_called n f = bytes_eq (name_text f.name) n
