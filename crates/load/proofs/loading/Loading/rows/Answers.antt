use Rattle.std.proofs.Common.{◌≡◌, ◌+◌, ◌*◌, ◌≤◌, length, ap, arith, rules}
use Rattle.std.proofs.lemmas.Result.{err_from_is_err_and}
use Rattle.sheets.specs.Stored.{places_of}
use Rattle.load.proofs.Sizes.{stored_again}
use Rattle.load.proofs.Adding.{rows_stored, rows_extent, lengths_known, places_count, places_short}
use Rattle.load.proofs.loading.Loading.rows.Goals as goal

pub returns-clause-adds : goal.returns-clause-adds
returns-clause-adds c = λ s good holds.
    let l = c.args.self.now in
    let k = c.in_ok-rule.ensures in
    let g = k.good s.lists (lengths_known s good l holds c.first_lengths-lengths.result c.first_lengths-lengths.ensures) in
    let count : c.in_ok-rule.rule.count * c.in_ok-rule.rule.width ≡ length (places_of k.field) = places_count s.lists k.field g c.args.self.now.extent.places c.in_ok-rule.rule k.rule_is in
    let fits : c.args.self.now.extent.places + length (places_of k.field) ≤ 32768 = omega (arith, places_short k.field, ap length k.said, c.requires.places) in
    record {
      part = k.field;
      good = g;
      said = k.said;
      holds = record {
        stores = stored_again _ (search rules) (rows_stored s good l holds k.field (omega arith) fits _ _ k.rule_is k.stored);
        extent = rows_extent s good l holds k.field (omega arith) fits _ (ap (λ n. c.args.self.now.extent.places + n) count);
      };
    }

pub returns-in_err-rule-clause-adds : goal.returns-in_err-rule-clause-adds
returns-in_err-rule-clause-adds c = λ s good holds.
    let p = err_from_is_err_and c.from_residual.result c.from_residual.ensures.1 in
    let k = c.in_err-rule.ensures in
    rw (p.1, p.2) ((k.fault_is, k.none s.lists (lengths_known s good c.args.self.now holds c.first_lengths-lengths.result c.first_lengths-lengths.ensures)))
