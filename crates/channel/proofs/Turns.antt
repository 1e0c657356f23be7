-- Packets put in turn.
use Rattle.std.proofs.Common.{ℕ, ◌+◌, List, [], ◌∷◌, ◌++◌, replicate, sym, subst, append_assoc, append-nil}
use Rattle.std.proofs.lemmas.List.{replicate-append-replicate}
use Rattle.channel.specs.Packet.{Packet}
use Rattle.channel.specs.Sent.{Sent, none, more}

pub in_turn : {S : Type 0} (posts : S → Packet → S → Type 0) (s t u : S) (ps qs : List Packet) → Sent posts s ps t → Sent posts t qs u → Sent posts s (ps ++ qs) u
in_turn posts s t u ps qs a none = subst (λ l. Sent posts s l t) (sym (append-nil ps)) a
in_turn posts s t u ps qs a (more {t = v} {ps = rs} {p = p} b step) =
    subst (λ l. Sent posts s l u) (append_assoc ps rs (p ∷ [])) (more (in_turn posts s t v ps rs a b) step)

pub once_more : {S : Type 0} (posts : S → Packet → S → Type 0) (s t u : S) (n : ℕ) (p : Packet) → Sent posts s (replicate n p) t → posts t p u → Sent posts s (replicate (n + 1) p) u
once_more posts s t u n p a step =
    subst (λ l. Sent posts s l u) (replicate-append-replicate n 1 p) (more a step)
