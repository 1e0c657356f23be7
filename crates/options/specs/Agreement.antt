-- What an ask may send, what the cabin answers, what the shield accepts, and what each then holds. Assumes nothing.
use Rattle.std.specs.Prelude.{◌≡◌, ℕ, min, Bool, true, false, cond, ◌&&◌, ◌||◌, ◌⊎◌, List, Some, None, Ok, Err, Option, Result, ◌==◌, nat_le}
use Rattle.std.specs.Option.{unwrap_or}
use Rattle.std.specs.List.{AllByRecursion}
use Rattle.terms.specs.declared.agreed.Agreed.{Agreed}
use Rattle.terms.specs.declared.patience.Patience.{Patience}
use Rattle.terms.specs.declared.refusal.Refusal.{Refusal}
use Rattle.terms.specs.declared.refusal.Refusal.TheVariants.{Malformed, OutOfRange, OptionsNotAccepted}
use Rattle.terms.specs.Patiences.{legal_patience}
use Rattle.terms.specs.Sizes.{legal_sizes}
use Rattle.grammar.specs.Grammar.{Pair, Paired}
use Rattle.options.specs.declared.offer.Offer.{Offer}
use Rattle.option_pairs.specs.PerOption.{Options}
use Rattle.option_pairs.specs.Pairs.{Are, twice}
use Rattle.option_pairs.specs.Scan.{Finds, Fitting, Refuses}
use Rattle.option_pairs.specs.Values.{request_ranges, answer_ranges}

-- an operand of ask: 0 is not asked
abbrev pub given : ℕ → Option ℕ
given n = cond (n == 0) None (Some n)

-- the operands that an ask may have: block size 8 to 1,468, a timeout legal with the end's own tries, window up to 16, or 0
abbrev pub may_ask : ℕ → ℕ → ℕ → ℕ → Bool
may_ask tries b t w = (b == 0 || (nat_le 8 b && nat_le b 1468)) && ((t == 0 || legal_patience t tries) && nat_le w 16)

abbrev pub asked_options : ℕ → ℕ → ℕ → Options
asked_options b t w = record { blksize = given b; timeout = given t; windowsize = given w }

-- what is answered to the operands of an ask
abbrev pub Asked : ℕ → ℕ → ℕ → ℕ → Result Options Refusal → Type 0
Asked tries b t w (Ok o) = (may_ask tries b t w ≡ true) × (o ≡ asked_options b t w)
Asked tries b t w (Err e) = (e ≡ OutOfRange) × (may_ask tries b t w ≡ false)

-- the end with this patience holds a where the options o are agreed
pub record Settled (own : Patience) (o : Options) (a : Agreed) : Type 0 where
  pub size : a.block_size ≡ unwrap_or o.blksize 512
  pub window : a.window ≡ unwrap_or o.windowsize 1
  pub wait : a.patience.wait ≡ unwrap_or o.timeout own.wait
  pub tries : a.patience.tries ≡ own.tries

-- the options o can be agreed
abbrev pub may_settle : Patience → Options → Bool
may_settle own o =
    legal_patience (unwrap_or o.timeout own.wait) own.tries && legal_sizes (unwrap_or o.blksize 512) (unwrap_or o.windowsize 1)

abbrev pub Settles : Patience → Options → Result Agreed Refusal → Type 0
Settles own o (Ok a) = Settled own o a
Settles own o (Err e) = (e ≡ OutOfRange) × (may_settle own o ≡ false)

-- a value cut to the most that is served
abbrev pub cut_to : ℕ → Option ℕ → Option ℕ
cut_to most None = None
cut_to most (Some n) = Some (min n most)

-- a wait passed over unless it is legal with the tries
abbrev pub kept_if_legal : ℕ → Option ℕ → Option ℕ
kept_if_legal tries None = None
kept_if_legal tries (Some n) = cond (legal_patience n tries) (Some n) None

-- what the cabin answers to the options wanted
abbrev pub answered : ℕ → Options → Options
answered tries w =
    record { blksize = cut_to 1468 w.blksize; timeout = kept_if_legal tries w.timeout; windowsize = cut_to 16 w.windowsize }

-- the offer f to a request with the pairs ps
pub record Offered (own : Patience) (ps : List Pair) (f : Offer) : Type 0 where
  pub once : twice ps ≡ false
  pub answer : (w : Options) × Finds request_ranges ps w × (f.answer ≡ answered own.tries w)
  pub agreed : Settled own f.answer f.agreed

-- what the cabin makes of the bytes bs
abbrev pub Offers : Patience → List ℕ → Result Offer Refusal → Type 0
Offers own bs (Ok f) = (ps : List Pair) × Are ps bs × Offered own ps f
Offers own bs (Err e) = Refuses bs e

-- the asker accepts the pairs ps of an OACK, and then holds a
pub record Accepts (asked : Options) (own : Patience) (ps : List Pair) (a : Agreed) : Type 0 where
  pub once : twice ps ≡ false
  pub each : AllByRecursion (Fitting (answer_ranges asked)) ps
  pub agreed : (o : Options) × Finds (answer_ranges asked) ps o × Settled own o a

-- what the asker makes of the bytes bs
abbrev pub Accepting : Options → Patience → List ℕ → Result Agreed Refusal → Type 0
Accepting asked own bs (Ok a) = (ps : List Pair) × Are ps bs × Accepts asked own ps a
Accepting asked own bs (Err e) =
    ((e ≡ Malformed) × (Paired bs → ⊥))
    ⊎ ((e ≡ OptionsNotAccepted) × ((ps : List Pair) × Are ps bs × ((a : Agreed) → Accepts asked own ps a → ⊥)))
