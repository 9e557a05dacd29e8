use Rattle.std.proofs.Common.{◌-◌, arith}
use lib.Count.{count_leading_zeros}
use Rattle.std.proofs.lemmas.Nat.{leading_le}
use Rattle.settling.proofs.Revised.{past_is}
use Rattle.settling.proofs.revise.past_highest.Goals as goal

pub returns : goal.returns
returns c =
    let p = past_is c.args.places (64 - count_leading_zeros 64 c.args.places) c.ranges.places.fits (omega (arith, leading_le 64 c.args.places)) in
    record { few = omega arith; above = p.0; highest = p.1 }
