use Rattle.std.proofs.Common.{◌+◌, ◌-◌, ◌*◌, length}
use Rattle.reader.proofs.store.Store.+condition_conditions.Given as goal

abbrev pub decreases-condition : goal.decreases-condition
decreases-condition l = 3 * (length l.place.now.at.text.now.bytes.now - l.place.now.at.at) + 1

abbrev pub decreases-negation : goal.decreases-negation
decreases-negation l = 3 * (length l.place.now.at.text.now.bytes.now - l.place.now.at.at)

abbrev pub decreases-conjunction : goal.decreases-conjunction
decreases-conjunction l = 3 * (length l.place.now.at.text.now.bytes.now - l.place.now.at.at)

abbrev pub decreases-disjunction : goal.decreases-disjunction
decreases-disjunction l = 3 * (length l.place.now.at.text.now.bytes.now - l.place.now.at.at)

abbrev pub decreases-conditions : goal.decreases-conditions
decreases-conditions l = 3 * (length l.place.now.at.text.now.bytes.now - l.place.now.at.at) + 2
