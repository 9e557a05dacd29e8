use Rattle.std.proofs.Common.{rules, ◌≡◌, ℕ, ◌<◌, get_or}
use Rattle.network.proofs.Allowing.{masks_allow}
use Rattle.network.proofs.tries.allowed.Goals as goal

pub returns-then-position-lt4 : goal.returns-then-position-lt4
returns-then-position-lt4 c =
    let is : (k : ℕ) → k < 4 → get_or c.map-masks.result k 0 ≡ get_or c.args.sets.now (get_or c.args.cells k 0) 0 =
    λ k h. (let call = c.map-masks.ensures.items.at k 0 0 h in search rules) in
    masks_allow c.args.cells c.args.position c.args.place c.args.sets.now c.map-masks.result
    c.only.result c.only.ensures.one c.only.ensures.none c.map-masks.ensures.items.long c.if-position-lt4.true is
