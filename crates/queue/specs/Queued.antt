-- What waits in a queue. Assumes nothing.
use Rattle.std.specs.Prelude.{ℕ, List, ◌++◌, length, take, drop}
use Rattle.queue.specs.declared.queue.Queue.{Queue}

-- a list from its place numbered head on, and then what stands before that place
abbrev pub around : {T : Type 0} → List T → ℕ → List T
around slots head = drop head slots ++ take head slots

-- what waits in a queue, the oldest first
abbrev pub queued : {T : Type 0} → Queue T → List T
queued q = take q.count (around q.slots.now q.head)

-- how many elements a queue can hold
abbrev pub places : {T : Type 0} → Queue T → ℕ
places q = length q.slots.now
