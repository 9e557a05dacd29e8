use Rattle.std.proofs.Common.{◌≡◌, ℕ, ◌+◌, ◌*◌, List, ◌++◌, get_or, ℤ, pos, string_bytes, codes, refl, ap, ◌∙◌, arith, rules}
use Rattle.std.specs.List.{range_with_len, flat_map}
use Rattle.formulas.specs.Tree.{numeral}
use Rattle.text.proofs.Decimals.{decimal_numeral}
use Rattle.report.specs.Report.{cell_line}
use Rattle.report.proofs.Lines.{after_first, cells_more, cells_none}
use Rattle.report.proofs.push_fits.Goals as goal

-- the line of a cell
abbrev line : List ℤ → List ℕ → ℕ → List ℕ
line numbers filling c = cell_line c (get_or numbers (64 * c + get_or filling c 0) (pos 0))

pub loop-cell-init : goal.loop-cell-init
loop-cell-init c = cells_none (line c.args.numbers.now c.args.filling.now) (string_bytes c.writeln.new.self)

pub loop-cell-preserved : goal.loop-cell-preserved
loop-cell-preserved c =
    cells_more (line c.args.numbers.now c.args.filling.now) c.loop-cell.cell (string_bytes c.writeln.new.self) (string_bytes c.loop-cell.out) (string_bytes c.push_cell.new.out) c.loop-cell.invariant
    (c.in_ok-push_cell.ensures ∙ ap (λ z. string_bytes c.loop-cell.out ++ cell_line c.loop-cell.cell z) (search rules))

pub returns : goal.returns
returns c =
    let rest = flat_map (line c.args.numbers.now c.args.filling.now) (range_with_len 0 c.args.cells) in
    let end : c.loop-cell.cell ≡ c.args.cells = omega arith in
    after_first (string_bytes c.args.out.now) _ (codes "FITS ") (numeral c.args.lines) rest (string_bytes c.writeln.new.self) (string_bytes c.loop-cell.out)
    refl (search (rules, decimal_numeral)) (c.loop-cell.invariant ∙ ap (λ n. string_bytes c.writeln.new.self ++ flat_map (line c.args.numbers.now c.args.filling.now) (range_with_len 0 n)) end)
