-- Messages taken apart: their parts, and why bytes are none.
use Rattle.std.proofs.Common.{◌≡◌, ℕ, ◌-◌, ◌≤◌, List, [], ◌∷◌, ◌++◌, length, take, drop, Err, Result, sym, refl, ap, ◌∙◌, rules}
use Rattle.std.proofs.lemmas.List.{take_rest}
use Rattle.terms.specs.declared.refusal.Refusal.{Refusal}
use Rattle.terms.specs.declared.refusal.Refusal.TheVariants.{Malformed}
use Rattle.grammar.specs.declared.message.Message.{Message}
use Rattle.grammar.specs.Grammar.{Text, Kind, fault, Msg, requestMsg, asked, blockMsg, ackMsg, faultMsg, oackMsg, Asks, Paired}
use Rattle.grammar.specs.declared.message.Access.{Access}
use Rattle.grammar.specs.Meaning.{Cut}
use Rattle.grammar.proofs.Bytes.{one_cut, no_cut}
use Rattle.wire.specs.Codec.{Takes, Is}

-- the text of a message of these bytes, where it is an ERROR
fault_cut : (m : Msg) (bs : List ℕ) → Is m fault bs → (t : List ℕ) × Cut t [] (take (length bs - 2) (drop 2 bs)) × (length t ≤ 128)
fault_cut (faultMsg n t) bs p =
    (t, record { text = p.legal.2; whole = ap (drop 2) p.bytes ∙ sym (take_rest bs 2) }, p.legal.1)
fault_cut (requestMsg a n m ps) bs p = absurd (search rules)
fault_cut (blockMsg n d) bs p = absurd (search rules)
fault_cut (ackMsg n) bs p = absurd (search rules)
fault_cut (oackMsg ps) bs p = absurd (search rules)

pub fault_some : (m : Msg) (bs t x : List ℕ) → Is m fault bs → Cut t x (take (length bs - 2) (drop 2 bs)) → (length x ≡ 0) × (length t ≤ 128)
fault_some m bs t x p q =
    let f = fault_cut m bs p in
    let s = one_cut t f.0 x [] _ q f.1 in
    (ap length s.1, rw s.0 f.2)

-- the parts of a message of these bytes, where it is a request
asks : (m : Msg) (a : Access) (bs : List ℕ) → Is m (asked a) bs → (n : List ℕ) × (x : List ℕ) × (ps : List ℕ) × Asks n x ps × (n ++ 0 ∷ (x ++ 0 ∷ ps) ≡ bs)
asks (requestMsg _ n x ps) a bs p = (n, x, ps, p.legal, p.bytes)
asks (blockMsg n d) a bs p = absurd (search rules)
asks (ackMsg n) a bs p = absurd (search rules)
asks (faultMsg n t) a bs p = absurd (search rules)
asks (oackMsg ps) a bs p = absurd (search rules)

pub asks_none : (m : Msg) (a : Access) (bs : List ℕ) → Is m (asked a) bs → Text bs → ⊥
asks_none m a bs p h =
    let f = asks m a bs p in no_cut f.0 _ bs (record { text = f.3.name; whole = f.4 }) h

pub asks_some : (m : Msg) (a : Access) (bs n y : List ℕ) → Is m (asked a) bs → Cut n y bs → (x : List ℕ) × (ps : List ℕ) × Cut x ps y × Paired ps
asks_some m a bs n y p q =
    let f = asks m a bs p in
    let s = one_cut f.0 n _ y bs (record { text = f.3.name; whole = f.4 }) q in
    (f.1, f.2, record { text = f.3.mode; whole = s.1 }, f.3.paired)

-- bytes that are no message of the opcode are refused as malformed
pub taken_not : (k : Kind) (bs : List ℕ) (r : Result Message Refusal) → r ≡ Err Malformed → ((m : Msg) → Is m k bs → ⊥) → Takes k bs r
taken_not k bs r e n = rw e (refl, n)
