-- The rules by formulas of a sheet, as they lie in the stores. Assumes nothing.
use Rattle.std.proofs.Common.{◌≡◌, ℕ, zero, suc, ◌+◌, ◌-◌, ◌<◌, ◌≤◌, Bool, true, false, ◌&&◌, ltb, List, [], ◌∷◌, ◌++◌, map, length, get_or, replicate, ℤ, pos, sym, refl, ap, ◌∙◌, subst, append_assoc, arith, length-append}
use Rattle.std.specs.List.{AllByRecursion}
use Rattle.std.proofs.lemmas.Bool.{and_from, lt-ltb}
use Rattle.bits.proofs.Lists.{each_at}
use Rattle.formulas.specs.declared.node.Node.{Node}
use Rattle.formulas.specs.declared.node.Node.TheVariants.{And, Or}
use Rattle.formulas.specs.Tree.{Condition, compares, negates, all, any, Conditions, one, more, cells_of}
use Rattle.formulas.specs.Truth.{truth}
use Rattle.formulas.specs.Layout.{size, layout, Stands, StandsAll}
use Rattle.formulas.proofs.Layouts.{size_layout, size_some}
use Rattle.formulas.proofs.Standings.{laid_out}
use Rattle.reader.specs.declared.formula.Formula.{Formula}
use Rattle.judge.specs.Trees.{tree}
use Rattle.judge.proofs.Trees.{below, stands_true}
use Rattle.formula_book.specs.Trees.{child, node_grounded, grounded}
use Rattle.formula_book.specs.Formulas.{no_formula, Lists, assigned, unset, listed, rule_of, GoodRule, WellFormed}
use Rattle.formula_book.specs.Support.{lists_of}
use Rattle.sheets.specs.Sheet.{GoodFormula}
use Rattle.sheets.specs.Stored.{formula_of, formulas_of, nodes_of}
use Rattle.sheets.specs.Meaning.{numbers_at, formula_rule, no_condition, listed as within}
use Rattle.sheets.proofs.Storing.{length_formulas}
use Rattle.sheet_books.proofs.Parts.{cells_there, cells_good}
use Rattle.sheet_books.proofs.StoredCells.{cells_known, cells_below, cells_apart}
use Rattle.sheet_books.proofs.StoredNumbers.{Short, spread, listed_same, numbers_same}

-- ---- a node that stands for a condition is grounded
module _ (ns : List Node) where
  child_there : (n i j : ℕ) → j < i → grounded n ns j ≡ true → child (grounded n ns) i j ≡ true
  child_there n i j l g = and_from (ltb j i) (grounded n ns j) (lt-ltb j i l) g

  mutual
    stands_grounded : (c : Condition) (n i : ℕ) → i ≤ n → Stands ns i c → grounded (suc n) ns i ≡ true
    stands_grounded (compares a o b) n i l s = ap (node_grounded (grounded n ns) i) s
    stands_grounded (negates c) n i l s =
        ap (node_grounded (grounded n ns) i) s.2
        ∙ child_there n i s.0 s.1 (below (λ k. grounded k ns s.0 ≡ true) s.0 (λ k h. stands_grounded c k s.0 h s.3) n (omega (arith, s.1)))
    stands_grounded (all cs) n i l s = list_grounded And (λ m j k h. refl) cs n i l s
    stands_grounded (any cs) n i l s = list_grounded Or (λ m j k h. refl) cs n i l s

    list_grounded : (joins : ℕ → ℕ → Node) → ((n i j k : ℕ) → node_grounded (grounded n ns) i (joins j k) ≡ (child (grounded n ns) i j && child (grounded n ns) i k))
        → (cs : Conditions) (n i : ℕ) → i ≤ n → StandsAll joins ns i cs → grounded (suc n) ns i ≡ true
    list_grounded joins is (one c) n i l s = stands_grounded c n i l s
    list_grounded joins is (more c cs) n i l s =
        ap (node_grounded (grounded n ns) i) s.4 ∙ is n i s.0 s.1
        ∙ and_from (child (grounded n ns) i s.0) (child (grounded n ns) i s.1)
        (child_there n i s.0 s.2 (below (λ k. grounded k ns s.0 ≡ true) s.0 (λ k h. stands_grounded c k s.0 h s.5) n (omega (arith, s.2))))
        (child_there n i s.1 s.3 (below (λ k. grounded k ns s.1 ≡ true) s.1 (λ k h. list_grounded joins is cs k s.1 h s.6) n (omega (arith, s.3))))

-- ---- the formulas in the stores
record FormulaThere (formulas : List Formula) (nodes : List Node) (c : Condition) (r : ℕ) : Type 0 where
  pub start : ℕ
  pub before : List Node
  pub after : List Node
  pub is : get_or formulas r no_formula ≡ formula_of start c
  pub long : length before ≡ start
  pub said : nodes ≡ before ++ (layout start c ++ after)

formula_there : (cs : List Condition) (n : ℕ) (p q nodes : List Node) → length p ≡ n → nodes ≡ p ++ (nodes_of n cs ++ q)
    → (r : ℕ) → r < length cs → FormulaThere (formulas_of n cs) nodes (get_or cs r no_condition) r
formula_there [] n p q nodes l e r h = absurd (omega arith)
formula_there (c ∷ cs) n p q nodes l e zero h = record {
  start = n;
  before = p;
  after = nodes_of (n + size c) cs ++ q;
  is = refl;
  long = l;
  said = e ∙ ap (λ y. p ++ y) (append_assoc (layout n c) (nodes_of (n + size c) cs) q);
}
formula_there (c ∷ cs) n p q nodes l e (suc r) h =
    let i = formula_there cs (n + size c) (p ++ layout n c) q nodes (length-append p (layout n c) ∙ omega (arith, size_layout n c))
    (e ∙ ap (λ y. p ++ y) (append_assoc (layout n c) (nodes_of (n + size c) cs) q) ∙ sym (append_assoc p (layout n c) (nodes_of (n + size c) cs ++ q))) r (omega arith) in
    record { start = i.start; before = i.before; after = i.after; is = i.is; long = i.long; said = i.said }

-- tests that agree in their second part where the first holds
and_same : (a b x y : Bool) → a ≡ b → (b ≡ true → x ≡ y) → (a && x) ≡ (b && y)
and_same a true x y e same = ap (λ t. t && x) e ∙ same refl
and_same a false x y e same = ap (λ t. t && x) e

module _ (lists : List (List ℤ)) (short : Short lists) (few : length lists ≤ 64) (cs : List Condition) (good : AllByRecursion (GoodFormula lists) cs) (q : List Node) (z : List ℤ) where
  abbrev nodes : List Node
  nodes = nodes_of 0 cs ++ q

  abbrev stored_lists : Lists
  stored_lists = lists_of (map length lists) (spread lists ++ z)

  module _ (r : ℕ) (h : r < length cs) where
    abbrev is : Condition
    is = get_or cs r no_condition

    there : FormulaThere (formulas_of 0 cs) nodes is r
    there = formula_there cs 0 [] q nodes refl refl r h

    good_at : GoodFormula lists is
    good_at = each_at (GoodFormula lists) cs no_condition good r h

    stands : Stands nodes (there.start + size is - 1) is
    stands = laid_out is there.start there.before there.after nodes there.long there.said

    fit : GoodRule nodes (formula_of there.start is)
    fit = record {
      good = cells_good (cells_of is) (length lists) few good_at.some good_at.few (cells_known (length lists) is good_at.known) (cells_apart is);
      inside =
          let t = there in
          omega (arith, ap length t.said, length-append t.before (layout t.start is ++ t.after), length-append (layout t.start is) t.after, size_layout t.start is, size_some is);
      rooted = stands_grounded nodes is (there.start + size is - 1) (there.start + size is - 1) (omega arith) stands;
    }

    pub formula_cells : (rule_of stored_lists nodes (get_or (formulas_of 0 cs) r no_formula)).cells ≡ (formula_rule lists is).cells
    formula_cells = ap (λ f. (rule_of stored_lists nodes f).cells) there.is ∙ cells_there (cells_of is)

    pub formula_permits : (row : List ℕ) → (rule_of stored_lists nodes (get_or (formulas_of 0 cs) r no_formula)).permits row ≡ (formula_rule lists is).permits row
    formula_permits row =
        let root = there.start + size is - 1 in
        let said = tree (suc root) nodes root in
        ap (λ f. (rule_of stored_lists nodes f).permits row) there.is
        ∙ ap (λ (x : List ℕ). listed stored_lists x row && truth (assigned stored_lists unset x row) said) (cells_there (cells_of is))
        ∙ and_same (listed stored_lists (cells_of is) row) (within lists (cells_of is) row) (truth (assigned stored_lists unset (cells_of is) row) said)
        (truth (numbers_at lists (replicate 64 (pos 0)) (cells_of is) row) is)
        (listed_same lists z short (cells_of is) row)
        (λ t. stands_true nodes (assigned stored_lists unset (cells_of is) row) is root root (omega arith) stands
        ∙ ap (λ f. truth f is) (numbers_same lists z short unset (cells_of is) row (cells_below (length lists) is good_at.known) t))

  pub formulas_well_formed : length cs ≤ 64 → WellFormed nodes (formulas_of 0 cs)
  formulas_well_formed few_rules = record {
    few = omega (arith, length_formulas 0 cs);
    each = λ r h.
        let h' : r < length cs = omega (arith, length_formulas 0 cs) in
        subst (GoodRule nodes) (sym (there r h').is) (fit r h');
  }
