use Rattle.std.proofs.Common.{◌≡◌, ◌*◌, drop, vec_items}
use Rattle.console.specs.Hex.{hex_bytes}
use Rattle.console.proofs.Decoding.{after}
use Rattle.console.proofs.hex.decode_hex.Given as goal

abbrev pub invariant-loop-i : goal.invariant-loop-i
invariant-loop-i l =
    (l.i-iterator.iter.size ≡ 2)
    × (l.i-iterator.iter.rest.now ≡ drop (2 * l.i-iterator.count) l.digits)
    × (after (vec_items l.bytes) (hex_bytes l.i-iterator.iter.rest.now) ≡ hex_bytes l.digits)
