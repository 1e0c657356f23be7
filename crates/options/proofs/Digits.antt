-- The digits of a number: how many there are, and the number that they are read as.
use Rattle.std.proofs.Common.{◌≡◌, ℕ, ◌<◌, ◌≤◌, length, get_or, decimal, ap, ⊎_elim, arith, rules}
use Rattle.std.specs.Int.{IsInRange}
use Rattle.std.proofs.lemmas.Fmt.{decimal_digit, decimal_nonempty, first_decimal, length-decimal-le, digits_decimal, digits_value-decimal}
use Rattle.std.proofs.lemmas.Str.Parse.{IsNumeralModel, numerals_by_fold, tells_by_index}
use Rattle.std.proofs.lemmas.Bool.{cases_lt}
use Rattle.grammar.specs.Grammar.{Text}
use Rattle.option_pairs.specs.Number.{Numeral, numeral_value, read_on}

pub ten_at_most : (n : ℕ) → n < 4294967296 → length (decimal n) ≤ 10
ten_at_most n l = length-decimal-le 10 n (omega arith) (omega arith) (omega arith)

own : IsNumeralModel (λ ds. (i : ℕ) → i < length ds → IsInRange 48 57 (get_or ds i 0)) (read_on 0)
own = numerals_by_fold _ tells_by_index read_on (search rules)

pub value_is : (n : ℕ) → n < 4294967296 → numeral_value (decimal n) ≡ n
value_is n l = digits_value-decimal own n (omega arith)

-- only 0 begins with the digit 0
plain : (n : ℕ) → n < 4294967296 → get_or (decimal n) 0 0 ≡ 48 → length (decimal n) ≡ 1
plain n l e =
    ⊎_elim (λ h. ap length (decimal_digit n (omega arith))) (λ h. absurd (omega (arith, first_decimal n (omega arith) (omega arith)))) (cases_lt n 1)

-- what is written of a number is a number, and that one
pub numeral_decimal : (n : ℕ) → n < 4294967296 → Numeral (decimal n)
numeral_decimal n l =
    record {
      some = decimal_nonempty n (omega arith);
      few = ten_at_most n l;
      digits = digits_decimal own n (omega arith);
      plain = plain n l;
      limit = omega (arith, value_is n l);
    }

pub text_decimal : (n : ℕ) → n < 4294967296 → Text (decimal n)
text_decimal n l k h e = omega (arith, digits_decimal own n (omega arith) k h)
