use Rattle.std.proofs.Common.{refl}
use Rattle.network.proofs.Meeting.{joined_meets, joined_whole}
use Rattle.network.proofs.joined.Joined.new.Goals as goal

pub returns : goal.returns
returns g c =
    let first = g.A.RuleBook.meaning c.args.first in
    let second = g.B.RuleBook.meaning c.args.second in
    let bounded = (g.A.RuleBook.laws c.args.first).bounded in
    record { made = refl; both = joined_whole first second bounded; counted = joined_meets first second bounded }
