use Rattle.std.proofs.Common.{sym, refl, subst}
use Rattle.permits.specs.Lists.{Listed, none}
use Rattle.permits.proofs.Listing.{listed_more}
use Rattle.permits.proofs.lists.list_in.Goals as goal

pub loop-word-init : goal.loop-word-init
loop-word-init c = subst Listed (sym c.new-list.ensures.items) none

pub loop-word-preserved : goal.loop-word-preserved
loop-word-preserved c = listed_more c.loop-word.invariant c.deref.ensures.value (c.if-not-may_follow.ensures.0 refl) c.in_ok-push.ensures.items
