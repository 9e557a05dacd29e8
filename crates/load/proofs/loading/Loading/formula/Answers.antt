use Rattle.std.proofs.Common.{◌≡◌, ◌+◌, ◌≤◌, length, ap, subst, arith, rules}
use Rattle.formulas.specs.Tree.{text}
use Rattle.formulas.specs.Faults.{Accepted}
use Rattle.formulas.specs.Layout.{size}
use Rattle.formulas.proofs.Layouts.{size_text}
use Rattle.sheets.specs.declared.stores.Extent.{Extent}
use Rattle.sheets.specs.Stored.{formula_of}
use Rattle.load.proofs.Sizes.{stored_again}
use Rattle.load.proofs.Adding.{formula_stored, formula_extent}
use Rattle.load.proofs.loading.Loading.formula.Goals as goal

pub returns-clause-adds : goal.returns-clause-adds
returns-clause-adds c = λ s good holds.
    let l = c.args.self.now in
    let k = c.in_ok-formula.ensures in
    let cells : c.args.self.now.extent.cells ≡ length s.lists = ap (λ (x : Extent). x.cells) holds.extent in
    let fits : c.args.self.now.extent.nodes + size k.is ≤ 32768 = omega (arith, size_text k.is, ap length k.accepted.said, c.requires.nodes) in
    let made : c.in_ok-formula.formula ≡ formula_of c.args.self.now.extent.nodes k.is = λ i. record { root = k.root i; width = k.width i; cells = k.named i } in
    record {
      part = k.is;
      good = subst (λ n. Accepted n (text k.is) k.is) cells (subst (λ t. Accepted c.args.self.now.extent.cells t k.is) k.accepted.said k.accepted);
      said = k.accepted.said;
      holds = record {
        stores = stored_again _ (search rules) (formula_stored s good l holds k.is (omega arith) fits _ _ made k.nodes);
        extent = formula_extent s good l holds k.is (omega arith) fits _ k.count;
      };
    }
