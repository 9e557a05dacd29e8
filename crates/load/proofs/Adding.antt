-- Where the stores hold a sheet, and a list, a rule by rows or a rule by a formula is written after it, they hold the sheet with that added. Assumes nothing.
use Rattle.std.proofs.Common.{◌≡◌, ℕ, ◌+◌, ◌-◌, ◌*◌, ◌<◌, ◌≤◌, List, [], ◌∷◌, ◌++◌, map, length, take, drop, set, replicate, ℤ, pos, sym, ap, ◌∙◌, arith, length-append, take-append-drop}
use borrow.Rule.Slice.PartMut.{put_mid}
use lib.ListN.{length-map}
use Rattle.std.specs.List.{flat_map}
use Rattle.std.proofs.lemmas.List.{flat_map_more, map_push, length_push, drop-replicate, take_at, take-append-le, length-take-le}
use Rattle.formulas.specs.declared.node.Node.{Node}
use Rattle.formulas.specs.declared.node.Node.TheVariants.{Free}
use Rattle.formulas.specs.Tree.{Condition}
use Rattle.formulas.specs.Layout.{size, layout}
use Rattle.formulas.proofs.Layouts.{size_layout}
use Rattle.reader.specs.declared.formula.Formula.{Formula}
use Rattle.rows.specs.declared.rule.RowsRule.{RowsRule}
use Rattle.sheets.specs.declared.stores.Extent.{Extent}
use Rattle.sheets.specs.Sheet.{Sheet, RowsField, rows_bytes, GoodList, GoodRows, Good, with_list, with_rows, with_formula}
use Rattle.sheets.specs.Stored.{Contents, held, zero_rule, zero_formula, filled, places_of, stored_rule_of, rules_of, formula_of, formulas_of, nodes_of, stored, extent_of}
use Rattle.load.specs.declared.loading.Loading.{Loading}
use Rattle.load.specs.Fields.{Holds}
use Rattle.sheets.proofs.Filled.{filled_more, blank_part, block, rest_block, front_block, length_filled}
use Rattle.sheets.proofs.Wide.{run_length}
use Rattle.sheets.proofs.Storing.{rules_more, length_rules, formulas_more, length_formulas, nodes_more, nodes_count, length_numbers}

-- how many places a rule's rows have
pub places_count : (lists : List (List ℤ)) (x : RowsField) → GoodRows lists x → (n : ℕ) (rule : RowsRule) → rule ≡ stored_rule_of n x → rule.count * rule.width ≡ length (places_of x)
places_count lists x g n rule i =
    (λ k. (i k).count * (i k).width) ∙ sym (run_length (length x.cells) x.rows (λ j l. (g.rows j l).wide))

pub places_short : (x : RowsField) → length (places_of x) ≤ length (rows_bytes x)
places_short x = omega (arith, length-append x.cells (flat_map (λ row. row) x.rows))

module _ (s : Sheet) (good : Good s) (loading : Loading) (holds : Holds loading s) where
  abbrev c : Contents
  c = held loading.stores.now

  abbrev e : Extent
  e = loading.extent

  cells_are : e.cells ≡ length s.lists
  cells_are = ap (λ (x : Extent). x.cells) holds.extent

  rules_are : e.rules ≡ length s.rows
  rules_are = ap (λ (x : Extent). x.rules) holds.extent

  places_are : e.places ≡ length (flat_map places_of s.rows)
  places_are = ap (λ (x : Extent). x.places) holds.extent

  formulas_are : e.formulas ≡ length s.formulas
  formulas_are = ap (λ (x : Extent). x.formulas) holds.extent

  nodes_are : e.nodes ≡ length (nodes_of 0 s.formulas)
  nodes_are = ap (λ (x : Extent). x.nodes) holds.extent

  -- the lengths that are there are those of the lists
  pub lengths_known : (copy : List ℕ) → copy ≡ take 64 c.lengths → map length s.lists ≡ take e.cells copy
  lengths_known copy i =
      let long : e.cells ≤ length (take 64 c.lengths) = omega (arith, length-take-le 64 c.lengths loading.enough.lengths, loading.few_cells) in
      sym (take_at (map length s.lists) (replicate (length c.lengths - length (map length s.lists)) 0) e.cells (length-map s.lists length ∙ sym cells_are))
      ∙ ap (λ (x : Contents). take e.cells x.lengths) (sym holds.stores)
      ∙ ap (take e.cells) (sym (take-append-drop 64 c.lengths)) ∙ take-append-le e.cells (take 64 c.lengths) (drop 64 c.lengths) long
      ∙ ap (take e.cells) (sym i)

  -- a cell's list
  module _ (zs : List ℤ) (g : GoodList zs) (room : e.cells < 64) where
    lengths_more : (n : ℕ) → n ≡ length zs → set c.lengths e.cells n ≡ (stored c (with_list s zs)).lengths
    lengths_more n i =
        let l = length-map s.lists length in
        (λ k. set (holds.stores k).lengths e.cells (i k))
        ∙ filled_more 0 (length c.lengths) (map length s.lists) (length zs) e.cells (cells_are ∙ sym l) (omega (arith, cells_are, l, loading.enough.lengths))
        ∙ ap (filled 0 (length c.lengths)) (sym (map_push length s.lists zs))

    numbers_more : (from k : ℕ) (part : List ℤ) → from ≡ 64 * e.cells → k ≡ 64 → part ≡ zs ++ drop (length zs) (take k (drop from c.numbers))
        → put_mid from k c.numbers part ≡ (stored c (with_list s zs)).numbers
    numbers_more from k part f i p =
        let xs = flat_map (filled (pos 0) 64) s.lists in
        let n = length c.numbers in
        let lx = length_numbers s.lists good.lists in
        let here : from ≡ length xs = omega (arith, f, cells_are, lx) in
        let ly = length_filled (pos 0) 64 zs g.few in
        let fits : length xs + 64 ≤ n = omega (arith, lx, cells_are, loading.enough.numbers) in
        let new : part ≡ filled (pos 0) 64 zs =
        p ∙ ap (λ l. zs ++ drop (length zs) l) ((λ j. take (i j) (drop (here j) (holds.stores j).numbers)) ∙ blank_part (pos 0) n xs 64 fits) ∙ ap (λ l. zs ++ l) (drop-replicate (length zs) 64 (pos 0)) in
        block (pos 0) n xs (filled (pos 0) 64 zs) c.numbers part from (ap (λ (x : Contents). x.numbers) holds.stores) here k (i ∙ sym ly) new (omega (arith, fits, ly))
        ∙ ap (filled (pos 0) n) (flat_map_more (filled (pos 0) 64) [] s.lists zs)

    pub list_stored : (n from k : ℕ) (part : List ℤ) → n ≡ length zs → from ≡ 64 * e.cells → k ≡ 64 → part ≡ zs ++ drop (length zs) (take k (drop from c.numbers))
        → record { lengths = set c.lengths e.cells n; numbers = put_mid from k c.numbers part; rules = c.rules; places = c.places; formulas = c.formulas; nodes = c.nodes } ≡ stored c (with_list s zs)
    list_stored n from k part i f j p = λ x. record {
      lengths = lengths_more n i x;
      numbers = numbers_more from k part f j p x;
      rules = (holds.stores x).rules;
      places = (holds.stores x).places;
      formulas = (holds.stores x).formulas;
      nodes = (holds.stores x).nodes;
    }

    pub list_extent : record { cells = e.cells + 1; rules = e.rules; places = e.places; formulas = e.formulas; nodes = e.nodes } ≡ extent_of (with_list s zs)
    list_extent =
        let one : e.cells + 1 ≡ length (s.lists ++ (zs ∷ [])) = ap (λ n. n + 1) cells_are ∙ sym (length_push s.lists zs) in
        λ x. record { cells = one x; rules = (holds.extent x).rules; places = (holds.extent x).places; formulas = (holds.extent x).formulas; nodes = (holds.extent x).nodes }

  -- a rule by rows
  module _ (x : RowsField) (room : e.rules < 64) (fits : e.places + length (places_of x) ≤ 32768) where
    rules_added : (rule : RowsRule) → rule ≡ stored_rule_of e.places x → set c.rules e.rules rule ≡ (stored c (with_rows s x)).rules
    rules_added rule i =
        let l = length_rules 0 s.rows in
        let start : stored_rule_of e.places x ≡ stored_rule_of (0 + length (flat_map places_of s.rows)) x = ap (λ n. stored_rule_of n x) (places_are ∙ sym (native.Mathlib.Nat.zero-add (length (flat_map places_of s.rows)))) in
        (λ k. set (holds.stores k).rules e.rules ((i ∙ start) k))
        ∙ filled_more zero_rule (length c.rules) (rules_of 0 s.rows) (stored_rule_of (0 + length (flat_map places_of s.rows)) x) e.rules (rules_are ∙ sym l) (omega (arith, rules_are, l, loading.enough.rules))
        ∙ ap (filled zero_rule (length c.rules)) (sym (rules_more 0 s.rows x))

    places_added : (part : List ℕ) → part ≡ places_of x ++ drop (length (places_of x)) (take (length c.places - e.places) (drop e.places c.places))
        → put_mid e.places (length c.places - e.places) c.places part ≡ (stored c (with_rows s x)).places
    places_added part p =
        rest_block 0 (length c.places) (flat_map places_of s.rows) (places_of x) c.places part e.places (ap (λ (y : Contents). y.places) holds.stores) places_are p (omega (arith, places_are, fits, loading.enough.places))
        ∙ ap (filled 0 (length c.places)) (flat_map_more places_of [] s.rows x)

    pub rows_stored : (rule : RowsRule) (part : List ℕ) → rule ≡ stored_rule_of e.places x → part ≡ places_of x ++ drop (length (places_of x)) (take (length c.places - e.places) (drop e.places c.places))
        → record { lengths = c.lengths; numbers = c.numbers; rules = set c.rules e.rules rule; places = put_mid e.places (length c.places - e.places) c.places part; formulas = c.formulas; nodes = c.nodes } ≡ stored c (with_rows s x)
    rows_stored rule part i p = λ y. record {
      lengths = (holds.stores y).lengths;
      numbers = (holds.stores y).numbers;
      rules = rules_added rule i y;
      places = places_added part p y;
      formulas = (holds.stores y).formulas;
      nodes = (holds.stores y).nodes;
    }

    pub rows_extent : (n : ℕ) → n ≡ e.places + length (places_of x) → record { cells = e.cells; rules = e.rules + 1; places = n; formulas = e.formulas; nodes = e.nodes } ≡ extent_of (with_rows s x)
    rows_extent n i =
        let one : e.rules + 1 ≡ length (s.rows ++ (x ∷ [])) = ap (λ k. k + 1) rules_are ∙ sym (length_push s.rows x) in
        let more : n ≡ length (flat_map places_of (s.rows ++ (x ∷ []))) =
        i ∙ ap (λ k. k + length (places_of x)) places_are ∙ sym (length-append (flat_map places_of s.rows) (places_of x)) ∙ ap length (flat_map_more places_of [] s.rows x) in
        λ y. record { cells = (holds.extent y).cells; rules = one y; places = more y; formulas = (holds.extent y).formulas; nodes = (holds.extent y).nodes }

  -- a rule by a formula
  module _ (d : Condition) (room : e.formulas < 64) (fits : e.nodes + size d ≤ 32768) where
    laid : layout e.nodes d ≡ layout (0 + length (nodes_of 0 s.formulas)) d
    laid = ap (λ n. layout n d) (nodes_are ∙ sym (native.Mathlib.Nat.zero-add (length (nodes_of 0 s.formulas))))

    formulas_added : (f : Formula) → f ≡ formula_of e.nodes d → set c.formulas e.formulas f ≡ (stored c (with_formula s d)).formulas
    formulas_added f i =
        let l = length_formulas 0 s.formulas in
        let start : formula_of e.nodes d ≡ formula_of (0 + length (nodes_of 0 s.formulas)) d = ap (λ n. formula_of n d) (nodes_are ∙ sym (native.Mathlib.Nat.zero-add (length (nodes_of 0 s.formulas)))) in
        (λ k. set (holds.stores k).formulas e.formulas ((i ∙ start) k))
        ∙ filled_more zero_formula (length c.formulas) (formulas_of 0 s.formulas) (formula_of (0 + length (nodes_of 0 s.formulas)) d) e.formulas (formulas_are ∙ sym l) (omega (arith, formulas_are, l, loading.enough.formulas))
        ∙ ap (filled zero_formula (length c.formulas)) (sym (formulas_more 0 s.formulas d))

    nodes_added : (part : List Node) → part ≡ take e.nodes (take 32768 c.nodes) ++ (layout e.nodes d ++ drop (e.nodes + length (layout e.nodes d)) (take 32768 c.nodes))
        → part ++ drop 32768 c.nodes ≡ (stored c (with_formula s d)).nodes
    nodes_added part p =
        front_block Free (length c.nodes) (nodes_of 0 s.formulas) (layout e.nodes d) c.nodes part e.nodes (ap (λ (y : Contents). y.nodes) holds.stores) nodes_are 32768 p
        (omega (arith, nodes_are, fits, size_layout e.nodes d)) loading.enough.nodes
        ∙ ap (λ l. filled Free (length c.nodes) (nodes_of 0 s.formulas ++ l)) laid
        ∙ ap (filled Free (length c.nodes)) (sym (nodes_more 0 s.formulas d))

    pub formula_stored : (f : Formula) (part : List Node) → f ≡ formula_of e.nodes d
        → part ≡ take e.nodes (take 32768 c.nodes) ++ (layout e.nodes d ++ drop (e.nodes + length (layout e.nodes d)) (take 32768 c.nodes))
        → record { lengths = c.lengths; numbers = c.numbers; rules = c.rules; places = c.places; formulas = set c.formulas e.formulas f; nodes = part ++ drop 32768 c.nodes } ≡ stored c (with_formula s d)
    formula_stored f part i p = λ y. record {
      lengths = (holds.stores y).lengths;
      numbers = (holds.stores y).numbers;
      rules = (holds.stores y).rules;
      places = (holds.stores y).places;
      formulas = formulas_added f i y;
      nodes = nodes_added part p y;
    }

    pub formula_extent : (n : ℕ) → n ≡ e.nodes + size d → record { cells = e.cells; rules = e.rules; places = e.places; formulas = e.formulas + 1; nodes = n } ≡ extent_of (with_formula s d)
    formula_extent n i =
        let one : e.formulas + 1 ≡ length (s.formulas ++ (d ∷ [])) = ap (λ k. k + 1) formulas_are ∙ sym (length_push s.formulas d) in
        let more : n ≡ length (nodes_of 0 (s.formulas ++ (d ∷ []))) = i ∙ ap (λ k. k + size d) nodes_are ∙ sym (nodes_count s.formulas d) in
        λ y. record { cells = (holds.extent y).cells; rules = (holds.extent y).rules; places = (holds.extent y).places; formulas = one y; nodes = more y }
