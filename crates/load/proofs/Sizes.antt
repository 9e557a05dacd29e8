-- Stores of the same sizes. Assumes nothing.
use Rattle.std.proofs.Common.{◌≡◌, map, length, replicate, pos, sym, refl, ap, ◌∙◌}
use Rattle.std.specs.List.{flat_map}
use lib.ListN.{length-replicate}
use Rattle.formulas.specs.declared.node.Node.TheVariants.{Free}
use Rattle.sheets.specs.Sheet.{Sheet, empty}
use Rattle.sheets.specs.Stored.{Contents, zero_rule, zero_formula, filled, places_of, rules_of, formulas_of, nodes_of, stored, zeroed}
use Rattle.sheets.proofs.Filled.{filled_none}
use Rattle.load.specs.Fields.{SameSizes}

pub same_again : (c : Contents) → SameSizes c c
same_again c = record { lengths = refl; numbers = refl; rules = refl; places = refl; formulas = refl; nodes = refl }

pub same_then : {a b c : Contents} → SameSizes a b → SameSizes b c → SameSizes a c
same_then p q = record {
  lengths = q.lengths ∙ p.lengths;
  numbers = q.numbers ∙ p.numbers;
  rules = q.rules ∙ p.rules;
  places = q.places ∙ p.places;
  formulas = q.formulas ∙ p.formulas;
  nodes = q.nodes ∙ p.nodes;
}

pub same_zeroed : (c z : Contents) → z ≡ zeroed c → SameSizes c z
same_zeroed c z e = record {
  lengths = ap (λ (x : Contents). length x.lengths) e ∙ length-replicate (length c.lengths) 0;
  numbers = ap (λ (x : Contents). length x.numbers) e ∙ length-replicate (length c.numbers) (pos 0);
  rules = ap (λ (x : Contents). length x.rules) e ∙ length-replicate (length c.rules) zero_rule;
  places = ap (λ (x : Contents). length x.places) e ∙ length-replicate (length c.places) 0;
  formulas = ap (λ (x : Contents). length x.formulas) e ∙ length-replicate (length c.formulas) zero_formula;
  nodes = ap (λ (x : Contents). length x.nodes) e ∙ length-replicate (length c.nodes) Free;
}

-- only the sizes count
pub zeroed_same : {a b : Contents} → SameSizes a b → zeroed b ≡ zeroed a
zeroed_same p = λ i. record {
  lengths = replicate (p.lengths i) 0;
  numbers = replicate (p.numbers i) (pos 0);
  rules = replicate (p.rules i) zero_rule;
  places = replicate (p.places i) 0;
  formulas = replicate (p.formulas i) zero_formula;
  nodes = replicate (p.nodes i) Free;
}

pub stored_same : {a b : Contents} (s : Sheet) → SameSizes a b → stored b s ≡ stored a s
stored_same {a} s p = λ i. record {
  lengths = filled 0 (p.lengths i) (map length s.lists);
  numbers = filled (pos 0) (p.numbers i) (flat_map (filled (pos 0) 64) s.lists);
  rules = filled zero_rule (p.rules i) (rules_of 0 s.rows);
  places = filled 0 (p.places i) (flat_map places_of s.rows);
  formulas = filled zero_formula (p.formulas i) (formulas_of 0 s.formulas);
  nodes = filled Free (p.nodes i) (nodes_of 0 s.formulas);
}

pub stored_again : {a b : Contents} (s : Sheet) → SameSizes a b → b ≡ stored a s → b ≡ stored b s
stored_again s p i = i ∙ sym (stored_same s p)

-- zero stores hold the empty sheet
pub zero_empty : (c : Contents) → zeroed c ≡ stored c empty
zero_empty c = λ i. record {
  lengths = sym (filled_none 0 (length c.lengths)) i;
  numbers = sym (filled_none (pos 0) (length c.numbers)) i;
  rules = sym (filled_none zero_rule (length c.rules)) i;
  places = sym (filled_none 0 (length c.places)) i;
  formulas = sym (filled_none zero_formula (length c.formulas)) i;
  nodes = sym (filled_none Free (length c.nodes)) i;
}
