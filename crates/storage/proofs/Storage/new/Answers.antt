use Rattle.std.proofs.Common.{◌≡◌, length, replicate, pos, subst, vec_items}
use Rattle.formulas.specs.declared.node.Node.TheVariants.{Free}
use Rattle.sheets.specs.Stored.{zero_rule, zero_formula}
use Rattle.storage.proofs.Blank.{blank, zeros}
use Rattle.storage.proofs.Storage.new.Goals as goal

pub returns-clause-zero : goal.returns-clause-zero
returns-clause-zero c =
    let (kind, (width, (cells, (start, count)))) = c.default.ensures in
    let rule : c.default.result ≡ zero_rule = λ i. record { kind = kind i; width = width i; cells = zeros 4 c.default.result.cells cells i; start = start i; count = count i } in
    let (root, (breadth, columns)) = c.default-2.ensures in
    let formula : c.default-2.result ≡ zero_formula = λ i. record { root = root i; width = breadth i; cells = zeros 4 c.default-2.result.cells columns i } in
    let lengths = blank 0 (vec_items c.in_ok-lengths.lengths) (λ y h. h) c.in_ok-lengths.ensures.items in
    let numbers = blank (pos 0) (vec_items c.in_ok-numbers.numbers) (λ y h. h) c.in_ok-numbers.ensures.items in
    let stored = subst (λ x. vec_items c.in_ok-rules.rules ≡ replicate (length (vec_items c.in_ok-rules.rules)) x) rule (blank c.default.result (vec_items c.in_ok-rules.rules) (λ y h. h) c.in_ok-rules.ensures.items) in
    let places = blank 0 (vec_items c.in_ok-places.places) (λ y h. h) c.in_ok-places.ensures.items in
    let formulas = subst (λ x. vec_items c.in_ok-formulas.formulas ≡ replicate (length (vec_items c.in_ok-formulas.formulas)) x) formula (blank c.default-2.result (vec_items c.in_ok-formulas.formulas) (λ y h. h) c.in_ok-formulas.ensures.items) in
    let nodes = blank Free (vec_items c.in_ok-nodes.nodes) (λ y h. h) c.in_ok-nodes.ensures.items in
    λ i. record { lengths = lengths i; numbers = numbers i; rules = stored i; places = places i; formulas = formulas i; nodes = nodes i }
