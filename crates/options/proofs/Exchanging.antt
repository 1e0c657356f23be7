-- Why the cabin's answer is accepted.
use Rattle.std.proofs.Common.{◌≡◌, ℕ, ◌<◌, ◌≤◌, min, true, ◌&&◌, eqb, leb, Some, None, Ok, Err, Option, unwrap_or, sym, refl, ap, ◌∙◌, inl, inr, ⊎_elim, arith, rules}
use Rattle.std.proofs.lemmas.Bool.{cond_both, cond-true, and_from, and_parts, or_cases, both_ways, eqb-true, eqb-false, leb-true}
use Rattle.std.proofs.lemmas.Bool.Decides.{nat_tests}
use Rattle.terms.specs.declared.agreed.Agreed.{Agreed}
use Rattle.terms.specs.declared.patience.Patience.{Patience}
use Rattle.terms.specs.declared.refusal.Refusal.{Refusal}
use Rattle.terms.specs.Patiences.{legal_patience}
use Rattle.terms.specs.Sizes.{legal_sizes}
use Rattle.grammar.specs.Grammar.{pairs}
use Rattle.options.specs.declared.offer.Offer.{Offer}
use Rattle.option_pairs.specs.PerOption.{Options}
use Rattle.options.specs.Agreement.{given, may_ask, asked_options, cut_to, kept_if_legal, answered, Settled, may_settle, Offers, Accepts, Accepting}
use Rattle.options.specs.Exchange.{Hears}
use Rattle.options.specs.Listing.{listed}
use Rattle.option_pairs.specs.Pairs.{Are}
use Rattle.option_pairs.specs.Values.{range, up_to, just, request_ranges, answer_ranges}
use Rattle.option_pairs.proofs.Found.{one_found}
use Rattle.option_pairs.proofs.Heads.{one_pairs}
use Rattle.options.proofs.Listed.{Within, AllWithin, listed_good, listed_once, listed_finds, listed_fit}

-- the operands that an ask may have
pub record May (tries b t w : ℕ) : Type 0 where
  pub blksize : 0 < b → (8 ≤ b) × (b ≤ 1468)
  pub timeout : 0 < t → legal_patience t tries ≡ true
  pub windowsize : w ≤ 16

may : (tries b t w : ℕ) → may_ask tries b t w ≡ true → May tries b t w
may tries b t w h =
    let p = and_parts _ _ h in
    let q = and_parts _ _ p.1 in
    record {
      blksize = λ l. ⊎_elim (λ e. absurd (omega (arith, eqb-true b 0 e))) (λ e. let r = and_parts _ _ e in (leb-true 8 b r.0, leb-true b 1468 r.1)) (or_cases (eqb b 0) (leb 8 b && leb b 1468) p.0);
      timeout = λ l. ⊎_elim (λ e. absurd (omega (arith, eqb-true t 0 e))) (λ e. e) (or_cases (eqb t 0) (legal_patience t tries) q.0);
      windowsize = leb-true w 16 q.1;
    }

short : (t tries : ℕ) → legal_patience t tries ≡ true → (1 ≤ t) × (t ≤ 255)
short t tries h = let p = and_parts _ _ h in let q = and_parts _ _ p.1 in (leb-true 1 t p.0, leb-true t 255 q.0)

-- what holds of an operand that is asked, and of none, holds of what is given
on_given : (P : Option ℕ → Type 0) (n : ℕ) → P None → (0 < n → P (Some n)) → P (given n)
on_given P n a b =
    cond_both (eqb n 0) None (Some n) P (λ _. a) (λ e. let d = eqb-false n 0 e in b (search rules))

module _ (tries b t w : ℕ) (m : May tries b t w) where
  asked_within : AllWithin request_ranges (asked_options b t w)
  asked_within =
      record {
        blksize = on_given (Within (range 8 65464)) b tt (λ l. let h = m.blksize l in (omega arith, omega arith, omega arith));
        timeout = on_given (Within (range 1 255)) t tt (λ l. let h = short t tries (m.timeout l) in (omega arith, omega arith, omega arith));
        windowsize = on_given (Within (range 1 65535)) w tt (λ l. let h = m.windowsize in (omega arith, omega arith, omega arith));
      }

  answer_within : (served : ℕ) → AllWithin (answer_ranges (asked_options b t w)) (answered served (asked_options b t w))
  answer_within served =
      record {
        blksize = on_given (λ o. Within (up_to 8 o) (cut_to 1468 o)) b tt (λ l. let h = m.blksize l in (omega arith, omega arith, omega arith));
        timeout = on_given (λ o. Within (just o) (kept_if_legal served o)) t tt
            (λ l. let h = short t tries (m.timeout l) in
            cond_both (legal_patience t served) (Some t) None (Within (range t t)) (λ _. (omega arith, omega arith, omega arith)) (λ _. tt));
        windowsize = on_given (λ o. Within (up_to 1 o) (cut_to 16 o)) w tt (λ l. let h = m.windowsize in (omega arith, omega arith, omega arith));
      }

  -- what is answered can be agreed at the asker
  answer_settles : (own : Patience) → own.tries ≡ tries → (served : ℕ) → may_settle own (answered served (asked_options b t w)) ≡ true
  answer_settles own e served = and_from _ _ waits sizes
    where
      waits : legal_patience (unwrap_or (kept_if_legal served (given t)) own.wait) own.tries ≡ true
      waits =
          on_given (λ o. legal_patience (unwrap_or (kept_if_legal served o) own.wait) own.tries ≡ true) t own.legal
          (λ l. cond_both (legal_patience t served) (Some t) None (λ o. legal_patience (unwrap_or o own.wait) own.tries ≡ true) (λ _. rw e (m.timeout l)) (λ _. own.legal))

      sizes : legal_sizes (unwrap_or (cut_to 1468 (given b)) 512) (unwrap_or (cut_to 16 (given w)) 1) ≡ true
      sizes =
          on_given (λ o. legal_sizes (unwrap_or (cut_to 1468 o) 512) (unwrap_or (cut_to 16 (given w)) 1) ≡ true) b
          (on_given (λ o. legal_sizes 512 (unwrap_or (cut_to 16 o) 1) ≡ true) w refl (λ l. let h = m.windowsize in grind (arith, nat_tests)))
          (λ l. let h = m.blksize l in
          on_given (λ o. legal_sizes (min b 1468) (unwrap_or (cut_to 16 o) 1) ≡ true) w (grind (arith, nat_tests)) (λ k. let g = m.windowsize in grind (arith, nat_tests)))

-- values that may be agreed are
pub settled_some : (own : Patience) (o : Options) → may_settle own o ≡ true → (a : Agreed) × Settled own o a
settled_some own o h =
    let p = and_parts _ _ h in (
      record { block_size = unwrap_or o.blksize 512; window = unwrap_or o.windowsize 1; patience = record { wait = unwrap_or o.timeout own.wait; tries = own.tries; legal = p.0 }; legal = p.1 },
      record { size = refl; window = refl; wait = refl; tries = refl },
    )

-- an exchange of options that an ask may send
module _ (tries b t w : ℕ) (ok : may_ask tries b t w ≡ true) where
  request_are : Are (listed (asked_options b t w)) (pairs (listed (asked_options b t w)))
  request_are = (listed_good request_ranges _ (asked_within tries b t w (may tries b t w ok)), refl)

  pub offer_ok : (cabin : Patience) (asked : Options) (f : Offer) → asked ≡ asked_options b t w → Offers cabin (pairs (listed asked)) (Ok f) →
      (f.answer ≡ answered cabin.tries (asked_options b t w)) × Settled cabin f.answer f.agreed
  offer_ok cabin asked f e h =
      let g : Offers cabin (pairs (listed (asked_options b t w))) (Ok f) = rw e at h in
      let o = g.2 in
      let same = one_pairs g.0 _ _ g.1 request_are in
      let i = asked_within tries b t w (may tries b t w ok) in
      let found = one_found request_ranges g.0 _ (asked_options b t w) o.once o.answer.1 (rw same (listed_finds request_ranges _ i)) in
      (o.answer.2 ∙ ap (answered cabin.tries) found, o.agreed)

  pub offer_err : (cabin : Patience) (asked : Options) (e : Refusal) → asked ≡ asked_options b t w → Offers cabin (pairs (listed asked)) (Err e) → ⊥
  offer_err cabin asked e q (inl (_, none)) = none (rw q (_, request_are.0, request_are.1))
  offer_err cabin asked e q (inr (_, (ps, p, two))) =
      both_ways _ (listed_once (asked_options b t w)) (rw (one_pairs ps _ _ (rw q at p) request_are) at two)

  answer_are : (served : ℕ) → Are (listed (answered served (asked_options b t w))) (pairs (listed (answered served (asked_options b t w))))
  answer_are served = (listed_good (answer_ranges (asked_options b t w)) _ (answer_within tries b t w (may tries b t w ok) served), refl)

  accept_ok : (own : Patience) (served : ℕ) (a : Agreed) → Accepting (asked_options b t w) own (pairs (listed (answered served (asked_options b t w)))) (Ok a) →
      Settled own (answered served (asked_options b t w)) a
  accept_ok own served a (ps, p, o) =
      let same = one_pairs ps _ _ p (answer_are served) in
      let i = answer_within tries b t w (may tries b t w ok) served in
      let found = one_found (answer_ranges (asked_options b t w)) ps _ (answered served (asked_options b t w)) o.once o.agreed.1 (rw same (listed_finds (answer_ranges (asked_options b t w)) _ i)) in
      rw found at o.agreed.2

  accept_err : (own : Patience) → own.tries ≡ tries → (served : ℕ) (e : Refusal) →
      Accepting (asked_options b t w) own (pairs (listed (answered served (asked_options b t w)))) (Err e) → ⊥
  accept_err own q served e (inl (_, none)) = none (_, (answer_are served).0, (answer_are served).1)
  accept_err own q served e (inr (_, (ps, p, none))) =
      let m = may tries b t w ok in
      let i = answer_within tries b t w m served in
      let s = settled_some own _ (answer_settles tries b t w m own q served) in
      let fits : Accepts (asked_options b t w) own (listed (answered served (asked_options b t w))) s.0 = record {
        once = listed_once (answered served (asked_options b t w));
        each = listed_fit (answer_ranges (asked_options b t w)) _ i;
        agreed = (_, listed_finds (answer_ranges (asked_options b t w)) _ i, s.1);
      } in
      none s.0 (rw (one_pairs ps _ _ p (answer_are served)) fits)

  -- what the asker hears of the answer, it accepts
  pub heard_ok : (own : Patience) (served : ℕ) (asked answer : Options) (a : Agreed) → asked ≡ asked_options b t w → answer ≡ answered served (asked_options b t w) →
      Hears asked own answer (Ok a) → Settled own (answered served (asked_options b t w)) a
  heard_ok own served asked answer a e f (inl h) = accept_ok own served a (rw (e, f) at h)
  heard_ok own served asked answer a e f (inr (none, (x, g, s))) =
      let same : x ≡ a = cc in rw (sym none ∙ f, same) at s

  pub heard_err : (own : Patience) → own.tries ≡ tries → (served : ℕ) (asked answer : Options) (x : Refusal) → asked ≡ asked_options b t w → answer ≡ answered served (asked_options b t w) →
      Hears asked own answer (Err x) → ⊥
  heard_err own q served asked answer x e f (inl h) = accept_err own q served x (rw (e, f) at h)
  heard_err own q served asked answer x e f (inr (none, (y, g, s))) = let z : ◌≡◌ {A = ℕ} 0 1 = cc in omega arith

-- what is legal with the cabin's tries is answered
pub answered_wait : (t tries : ℕ) → legal_patience t tries ≡ true → kept_if_legal tries (given t) ≡ Some t
answered_wait t tries h =
    let s = short t tries h in
    cond_both (eqb t 0) None (Some t) (λ o. kept_if_legal tries o ≡ Some t) (λ e. absurd (omega (arith, eqb-true t 0 e))) (λ _. cond-true _ _ _ h)

-- where the cabin answers the timeout, both ends wait as long
pub same_wait : (t : ℕ) (shield cabin : Patience) (b w : ℕ) (x y : Agreed) →
    Settled shield (answered cabin.tries (asked_options b t w)) x → Settled cabin (answered cabin.tries (asked_options b t w)) y →
    legal_patience t cabin.tries ≡ true → x.patience.wait ≡ y.patience.wait
same_wait t shield cabin b w x y p q h =
    let e = answered_wait t cabin.tries h in
    p.wait ∙ ap (λ o. unwrap_or o shield.wait) e ∙ sym (ap (λ o. unwrap_or o cabin.wait) e) ∙ sym q.wait
