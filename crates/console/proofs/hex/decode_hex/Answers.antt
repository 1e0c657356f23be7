use Rattle.std.proofs.Common.{rules, arith, ap, sym, ◌∙◌, ◌≡◌, length, drop, get_or, ◌*◌, Err}
use Rattle.console.specs.declared.hex.HexFault.TheVariants.{NotADigit}
use Rattle.console.specs.Hex.{hex_bytes, Decodes}
use Rattle.console.proofs.Decoding.{after, pair_first, left_after, no_byte, more, bad}
use Rattle.console.proofs.hex.decode_hex.Goals as goal

pub loop-i-preserved : goal.loop-i-preserved
loop-i-preserved c =
    let inv = c.loop-i.invariant in
    let st = c.in-Some.ensures.steps in
    let cs = c.args.digits.now in
    let p = c.in-Some.pair.now in
    let left = c.next.new.self.iter.rest.now in
    let two : length p ≡ 2 = omega (arith, c.in-len2.len_at_least, c.in-len2.len_below) in (
      st.0.0 ∙ inv.0,
      left_after cs p left c.loop-i.i-iterator.count c.next.new.self.count (sym st.0.1.0 ∙ inv.1) two st.2,
      ap (λ l. after l (hex_bytes left)) c.in_ok-push.ensures.items
          ∙ more cs c.loop-i.bytes.items (get_or p 0 0) (get_or p 1 0) c.in_ok-ok_or.field-0 left (sym c.hex_byte.ensures ∙ c.in_ok-ok_or.ensures.ok_part)
          (ap (λ r. after c.loop-i.bytes.items (hex_bytes r)) (sym (st.0.1.0 ∙ pair_first p left two)) ∙ inv.2),
    )

pub returns-in_err-ok_or : goal.returns-in_err-ok_or
returns-in_err-ok_or c =
    let inv = c.loop-i.invariant in
    let st = c.in-Some.ensures.steps in
    let cs = c.args.digits.now in
    let p = c.in-Some.pair.now in
    let left = c.next.new.self.iter.rest.now in
    let two : length p ≡ 2 = omega (arith, c.in-len2.len_at_least, c.in-len2.len_below) in
    let split = sym (pair_first p left two) ∙ sym st.0.1.0 in
    let none = sym c.hex_byte.ensures ∙ c.in_err-ok_or.ensures.ok_part in
    let d : Decodes cs (Err (NotADigit (2 * c.in-Some.i))) = (
      bad cs c.loop-i.bytes.items (get_or p 0 0) (get_or p 1 0) left none (ap (λ r. after c.loop-i.bytes.items (hex_bytes r)) split ∙ inv.2),
      no_byte cs left (get_or p 0 0) (get_or p 1 0) (2 * c.in-Some.i) (split ∙ inv.1 ∙ ap (λ i. drop (2 * i) cs) (sym st.1)) none,
    ) in
    search rules
