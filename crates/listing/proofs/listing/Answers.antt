use Rattle.std.proofs.Common.{◌++◌, length, vec_items, ap, ◌∙◌}
use Rattle.std.proofs.lemmas.Result.{IfOk-weaker}
use Rattle.text.proofs.Pieces.{after}
use Rattle.sheets.specs.Stored.{held}
use Rattle.listing.specs.Listing.{numbered, cell_line, list_in, rows_line, field_of, formula_lines}
use Rattle.listing.proofs.Stored.{all_fields, file_fields, few, listing_same}
use Rattle.listing.proofs.listing.Goals as goal

pub returns : goal.returns
returns c =
    IfOk-weaker c.push_formulas.result _ _
    (λ _ wrote s h is.
    let all = held c.args.stores.now in
    let rules = c.rules-rules.result.now in
    let lengths = c.lengths.result.now in
    let are = c.rules-rules.ensures.means s h in
    let cells = numbered (λ k n. cell_line k (list_in all.numbers k n)) 0 lengths in
    let rows = numbered (λ r rule. rows_line r (field_of all.places rule)) 0 rules in
    let formulas = formula_lines (length rules) (all_fields s) in
    after (vec_items c.args.out.now) cells (rows ++ formulas) c.in_ok-push_cells.ensures
    (after (vec_items c.push_cells.new.out) rows formulas c.in_ok-push_rules.ensures
    (wrote (all_fields s) (few all c.args.extent s h rules are) (is ∙ file_fields s)))
    ∙ ap (λ x. vec_items c.args.out.now ++ x) (listing_same all c.args.extent s h rules are lengths (c.lengths.ensures.means s h)))
    c.push_formulas.ensures
