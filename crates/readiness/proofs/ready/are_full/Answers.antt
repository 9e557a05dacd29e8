use Rattle.std.proofs.Common.{ℕ, ◌<◌, ◌≢◌, Decides, length, get_or, rules, arith}
use Rattle.readiness.proofs.Places.{full_from, from_full}
use Rattle.readiness.proofs.ready.are_full.Goals as goal

pub returns : goal.returns
returns c =
    let plain : Decides c.all.result ((k : ℕ) → k < length c.args.sets.now → get_or c.args.sets.now k 0 ≢ 0) = search rules in
    (λ e. full_from c.args.sets.now (λ k. omega (arith, c.type_inv.sets k)) (plain.0 e), λ f. plain.1 (from_full c.args.sets.now f))
