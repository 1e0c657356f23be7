-- The parts of a datagram stand at their places.
use Rattle.std.proofs.Common.{◌≡◌, ℕ, ◌/◌, ◌%◌, List, [], ◌∷◌, ◌++◌, length, take, drop, Ok, Err, Result, sym, refl, ap, ◌∙◌, append_assoc, append-nil, arith, length-append}
use Rattle.std.proofs.lemmas.List.{take_at, drop_at}
use Rattle.terms.specs.declared.refusal.Refusal.{Refusal}
use Rattle.grammar.specs.declared.message.Message.{Message}
use Rattle.grammar.specs.Grammar.{Msg, requestMsg, blockMsg, ackMsg, faultMsg, oackMsg, code, asked, encoded, Legal}
use Rattle.grammar.specs.Meaning.{meaning}
use Rattle.wire.specs.Codec.{Reads}
use Rattle.grammar.specs.Parts.{placed, spots, parts, Stand}
use Rattle.wire.specs.Parts.{Parted}

part : (before p after bs : List ℕ) (k : ℕ) → length before ≡ k → before ++ (p ++ after) ≡ bs → take (length p) (drop k bs) ≡ p
part before p after bs k h e =
    ap (λ l. take (length p) (drop k l)) (sym e) ∙ ap (take (length p)) (drop_at before (p ++ after) k h)
    ∙ take_at p after (length p) refl

stand : (m : Msg) (bs : List ℕ) → Legal m → encoded m ≡ bs → Stand bs (spots (placed m)) (parts m)
stand (requestMsg a n m ps) bs g e =
    let l = simp length-append at g.within in (
      part (0 ∷ _ ∷ []) n (0 ∷ (m ++ 0 ∷ ps)) bs 2 refl e,
      (
        part (0 ∷ code (asked a) ∷ (n ++ 0 ∷ [])) m (0 ∷ ps) bs _ (simp length-append (omega arith)) (simp append_assoc e),
        (
          part (0 ∷ code (asked a) ∷ (n ++ 0 ∷ (m ++ 0 ∷ []))) ps [] bs _ (simp length-append (omega arith)) (simp (append_assoc, append-nil) e),
          tt,
        ),
      ),
    )
stand (blockMsg n d) bs g e = (part (0 ∷ 3 ∷ n / 256 ∷ n % 256 ∷ []) d [] bs 4 refl (simp append-nil e), tt)
stand (ackMsg n) bs g e = tt
stand (faultMsg n t) bs g e = (part (0 ∷ 5 ∷ _ ∷ _ ∷ []) t (0 ∷ []) bs 4 refl e, tt)
stand (oackMsg ps) bs g e = (part (0 ∷ 6 ∷ []) ps [] bs 2 refl (simp append-nil e), tt)

pub parted : (bs : List ℕ) (r : Result Message Refusal) → Reads bs r → Parted bs r
parted bs (Ok x) t = stand (meaning x) bs t.0 t.1
parted bs (Err e) t = tt
