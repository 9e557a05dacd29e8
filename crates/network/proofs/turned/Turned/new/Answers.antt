use Rattle.std.proofs.Common.{refl}
use Rattle.network.specs.Book.{flag_at}
use Rattle.network.proofs.Meeting.{turned_meets, meetable_same}
use Rattle.network.proofs.turned.Turned.new.Goals as goal

pub returns : goal.returns
returns g c =
    let same = turned_meets (flag_at c.args.flags) (g.B.RuleBook.meaning c.args.below) in
    record { made = refl; same = same; together = meetable_same _ _ same }
