-- What can be agreed.
use Rattle.std.proofs.Common.{◌≡◌, ℕ, ◌≤◌, true, false, List, Some, None, Ok, Err, codes, Option, Result, unwrap_or, sym, refl, ap, ◌∙◌, inr, arith}
use Rattle.std.proofs.lemmas.Bool.{and_from, cond_both, both_ways}
use Rattle.std.proofs.lemmas.Bool.Decides.{nat_tests}
use Rattle.terms.specs.declared.agreed.Agreed.{Agreed}
use Rattle.terms.specs.declared.patience.Patience.{Patience}
use Rattle.terms.specs.declared.refusal.Refusal.{Refusal}
use Rattle.terms.specs.declared.refusal.Refusal.TheVariants.{OptionsNotAccepted}
use Rattle.terms.specs.Patiences.{legal_patience}
use Rattle.terms.specs.Sizes.{legal_sizes}
use Rattle.grammar.specs.Grammar.{Pair}
use Rattle.option_pairs.specs.PerOption.{Options}
use Rattle.options.specs.Agreement.{Settled, may_settle, cut_to, kept_if_legal, answered, Accepting}
use Rattle.option_pairs.specs.declared.scan.Scan.{Scan}
use Rattle.option_pairs.specs.Scan.{Wants, Held, Finds, Scans}
use Rattle.option_pairs.specs.Values.{range, request_ranges, answer_ranges}
use Rattle.option_pairs.proofs.Found.{wanted_range, one_found}

-- what is held was legal
pub settled_may : (own : Patience) (o : Options) (a : Agreed) → Settled own o a → may_settle own o ≡ true
settled_may own o a s =
    and_from _ _
    (ap (λ w. legal_patience w own.tries) (sym s.wait) ∙ ap (λ t. legal_patience a.patience.wait t) (sym s.tries) ∙ a.patience.legal)
    (ap (λ b. legal_sizes b (unwrap_or o.windowsize 1)) (sym s.size) ∙ ap (λ w. legal_sizes a.block_size w) (sym s.window) ∙ a.legal)

-- a value wanted in a range and then cut lies in the range of what is served
served : (w : List ℕ) (low high most d : ℕ) (ps : List Pair) (o : Option ℕ) → Held o (Wants w (range low high) ps) → low ≤ most → low ≤ d → d ≤ most →
    (low ≤ unwrap_or (cut_to most o) d) × (unwrap_or (cut_to most o) d ≤ most)
served w low high most d ps None h l a b = (a, b)
served w low high most d ps (Some n) h l a b = let r = wanted_range w (range low high) ps n h in (omega arith, omega arith)

waits : (own : Patience) (o : Option ℕ) → legal_patience (unwrap_or (kept_if_legal own.tries o) own.wait) own.tries ≡ true
waits own None = own.legal
waits own (Some n) =
    cond_both (legal_patience n own.tries) (Some n) None (λ o. legal_patience (unwrap_or o own.wait) own.tries ≡ true) (λ e. e) (λ _. own.legal)

pub answer_may_settle : (own : Patience) (ps : List Pair) (w : Options) → Finds request_ranges ps w → may_settle own (answered own.tries w) ≡ true
answer_may_settle own ps w f =
    let b = served (codes "blksize") 8 65464 1468 512 ps w.blksize f.blksize (omega arith) (omega arith) (omega arith) in
    let n = served (codes "windowsize") 1 65535 16 1 ps w.windowsize f.windowsize (omega arith) (omega arith) (omega arith) in
    and_from _ _ (waits own w.timeout) (grind (arith, nat_tests))

-- an OACK whose pairs cannot be agreed is not accepted
pub not_settled : (asked : Options) (own : Patience) (bs : List ℕ) (s : Scan) (r : Result Agreed Refusal) →
    Scans (answer_ranges asked) bs (Ok s) → may_settle own s.found ≡ false → r ≡ Err OptionsNotAccepted → Accepting asked own bs r
not_settled asked own bs s r (ps, p, n) m e =
    rw e
    (inr (
      refl,
      (
        ps,
        p,
        λ a q.
            let f = one_found _ ps _ _ q.once q.agreed.1 n.found in
            both_ways _ m (rw f at (settled_may _ _ a q.agreed.2)),
      ),
    ))
