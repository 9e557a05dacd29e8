use Rattle.std.proofs.Common.{refl}
use Rattle.runs.specs.Run.{Searches.fails, Searches.settled}
use Rattle.settling.proofs.Reports.{kept_more}
use Rattle.search.proofs.Tries.{ok_says, err_says, able_settled}
use Rattle.search.proofs.run.search.Goals as goal

pub returns-then-is_err : goal.returns-then-is_err
returns-then-is_err g c = record { kept = c.settle.ensures.kept; steps = fails (err_says _ _ c.if-is_err.ensures.negation c.settle.ensures.steps).1 }

pub explore-requires : goal.explore-requires
explore-requires g c = able_settled _ c.requires (ok_says _ _ c.if-is_err.ensures.negation c.settle.ensures.law c.requires.full) refl

pub returns : goal.returns
returns g c =
    let k = c.settle.ensures.kept in
    record { kept = kept_more k c.explore.ensures.kept; steps = settled (ok_says _ _ c.if-is_err.ensures.negation c.settle.ensures.steps) (rw (k.book, k.rules) at c.explore.ensures.steps) }
