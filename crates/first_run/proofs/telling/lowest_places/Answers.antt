use Rattle.std.proofs.Common.{◌≡◌, ℕ, ◌+◌, ◌<◌, length, get_or, vec_items, sym, subst, arith}
use Rattle.std.proofs.lemmas.List.{length_push}
use Rattle.session.specs.Pins.{LowestByte}
use Rattle.first_run.proofs.Pushing.{pushed}
use Rattle.first_run.proofs.telling.lowest_places.Goals as goal

pub loop-set-preserved : goal.loop-set-preserved
loop-set-preserved c =
    let n = c.loop-set.set-index in
    let was = vec_items c.loop-set.places in
    let sets = c.args.sets.now in
    subst (λ l. (length l ≡ n + 1) × ((k : ℕ) → k < n + 1 → LowestByte (get_or sets k 0) (get_or l k 0))) (sym c.in_ok-push.ensures.items)
    (omega (arith, length_push was c.lowest_place.result, c.loop-set.invariant.0), pushed (λ k v. LowestByte (get_or sets k 0) v) was c.lowest_place.result n c.loop-set.invariant.0 c.loop-set.invariant.1 c.lowest_place.ensures)
