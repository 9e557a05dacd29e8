-- What std writes for a number is the text that a formula has for it. Assumes nothing.
use Rattle.std.proofs.Common.{◌≡◌, ℕ, ◌^◌, ◌<◌, ◌∷◌, ℤ, pos, negsuc, sym, ap, ◌∙◌, ⊎_elim, arith, w32, SFits}
use Rattle.std.specs.Fmt.{decimal, signed_decimal}
use Rattle.std.proofs.lemmas.Fmt.{decimal_digit, decimal-digits_of}
use Rattle.std.proofs.lemmas.Bool.{cases_eq}
use Rattle.std.proofs.lemmas.Int.{ints}
use Rattle.formulas.specs.Tree.{numeral, number_text}
use Rattle.formulas.proofs.Numerals.{positive, numeral_zero}

pub decimal_numeral : (n : ℕ) → n < 2 ^ 64 → decimal n ≡ numeral n
decimal_numeral n h = ⊎_elim
    (λ z. ap decimal z ∙ decimal_digit 0 (omega arith) ∙ sym numeral_zero ∙ ap numeral (sym z))
    (λ p. decimal-digits_of n (omega arith) h ∙ sym (positive n (omega arith)))
    (cases_eq n 0)

pub signed_number_text : (z : ℤ) → SFits w32 z → signed_decimal z ≡ number_text z
signed_number_text (pos n) h = decimal_numeral n (omega (arith, ints, h.sfits))
signed_number_text (negsuc n) h = ap (λ l. 45 ∷ l) (decimal_numeral _ (omega (arith, ints, h.sfits)))
