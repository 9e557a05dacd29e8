use Rattle.std.proofs.Common.{refl, arith, rules}
use Rattle.load.proofs.Sizes.{stored_again}
use Rattle.load.proofs.Adding.{list_stored, list_extent}
use Rattle.load.proofs.loading.Loading.cell.Goals as goal

pub returns-clause-adds : goal.returns-clause-adds
returns-clause-adds c = λ s good holds.
    let k = c.in_ok-length.ensures in
    record {
      part = k.list;
      good = k.good;
      said = k.said;
      holds = record {
        stores = stored_again _ (search rules) (list_stored s good c.args.self.now holds k.list k.good c.requires _ _ _ _ k.count refl (omega arith) k.stored);
        extent = list_extent s good c.args.self.now holds k.list k.good c.requires;
      };
    }
