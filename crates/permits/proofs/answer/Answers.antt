use Rattle.std.proofs.Common.{length, IfSome, vec_items, ap, subst, arith}
use Rattle.permits.specs.Lists.{IsList}
use Rattle.permits.proofs.Listing.{listed_few}
use Rattle.permits.proofs.answer.Goals as goal

pub add-requires : goal.add-requires
add-requires c =
    let l = subst (λ o. IfSome o (λ v. IsList (vec_items v))) c.in-Some-2.is c.in_ok-list.ensures in
    omega (arith, listed_few l.listed, ap length c.deref.ensures.value)
