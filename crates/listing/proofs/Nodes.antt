-- Stored nodes do not tell a formula's text: these formulas have different texts and equal nodes. Assumes nothing.
use Rattle.std.proofs.Common.{◌≡◌, ℕ, refl}
use Rattle.formulas.specs.Tree.{Condition, all, one, more}
use Rattle.formulas.specs.Layout.{layout}

-- AND(a,b,c) and AND(a,AND(b,c))
same_nodes : (n : ℕ) (a b c : Condition) → layout n (all (more a (more b (one c)))) ≡ layout n (all (more a (one (all (more b (one c))))))
same_nodes n a b c = refl

-- AND(a) and a
one_alone : (n : ℕ) (a : Condition) → layout n (all (one a)) ≡ layout n a
one_alone n a = refl
