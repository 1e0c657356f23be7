-- A datagram written at the front of a buffer, through the front of so many bytes as any datagram has.
use Rattle.std.proofs.Common.{◌≡◌, ℕ, ◌≤◌, List, ◌++◌, length, take, drop, sym, ap, ◌∙◌, subst, arith, length-take}
use Rattle.std.proofs.lemmas.List.{take-append-le, drop-append-le, take-append-drop}
use Rattle.terms.specs.declared.side.Side.{Side}
use Rattle.terms.specs.Sides.{opposite}
use Rattle.channel.specs.declared.datagram.Header.{Header}
use Rattle.channel.specs.Packet.{Packet, body, packet, in_front}
use Rattle.channel.specs.Meaning.{HandedOut}

-- a front that was left as it was
pub unwritten : (front buf : List ℕ) (n : ℕ) → front ≡ take n buf → front ++ drop n buf ≡ buf
unwritten front buf n e = ap (λ xs. xs ++ drop n buf) e ∙ take-append-drop n buf

-- the buffer says what its front says
pub said_in_front : (h : Header) (front rest : List ℕ) → h.len ≤ length front → in_front h (front ++ rest) ≡ in_front h front
said_in_front h front rest l = ap (body h.source h.target) (take-append-le h.len front rest l)

rest_kept : (len n : ℕ) (front after buf : List ℕ) → len ≤ n → n ≤ length buf → front ≡ take n buf → length after ≡ n → drop len after ≡ drop len front → drop len (after ++ drop n buf) ≡ drop len buf
rest_kept len n front after buf l m e w d =
    let short : len ≤ length after = omega arith in
    let long : len ≤ length (take n buf) = simp length-take (omega arith) in
    drop-append-le len after (drop n buf) short ∙ ap (λ xs. xs ++ drop n buf) (d ∙ ap (drop len) e) ∙ sym (drop-append-le len (take n buf) (drop n buf) long) ∙ ap (drop len) (take-append-drop n buf)

-- what is handed out at the front of a buffer, by what the front is then
pub handed_out : (was_afloat : Packet → Type 0) (side : Side) (h : Header) (front after buf : List ℕ)
    → 1472 ≤ length buf → front ≡ take 1472 buf → length after ≡ 1472 → h.len ≤ 1472 → drop h.len after ≡ drop h.len front → was_afloat (packet (opposite side) (in_front h after))
    → HandedOut was_afloat side h buf (after ++ drop 1472 buf)
handed_out was_afloat side h front after buf m e w l d was = record {
  fits = l;
  was = subst (λ b. was_afloat (packet (opposite side) b)) (sym (said_in_front h after (drop 1472 buf) (omega arith))) was;
  rest = rest_kept h.len 1472 front after buf l m e w d;
}
