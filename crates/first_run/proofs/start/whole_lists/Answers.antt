use Rattle.std.proofs.Common.{◌≡◌, ℕ, ◌+◌, ◌<◌, length, get_or, None, vec_items, sym, ◌∙◌, subst, arith}
use Rattle.std.proofs.lemmas.List.{ext_get_or, length_push}
use Rattle.calls.specs.Runs.{start_of, starts}
use Rattle.calls.proofs.Fillings.{starts_long, starts_at}
use Rattle.first_run.proofs.Pushing.{pushed}
use Rattle.first_run.proofs.Starting.{first_whole}
use Rattle.first_run.proofs.start.whole_lists.Goals as goal

pub loop-length-preserved : goal.loop-length-preserved
loop-length-preserved c =
    let n = c.loop-length.length-index in
    let was = vec_items c.loop-length.start in
    let lengths = c.args.lengths.now in
    let last : c.first.result ≡ start_of (get_or lengths n 0) None = first_whole (get_or lengths n 0) c.first.result (c.requires n c.loop-length-test.true) c.first.ensures.some c.first.ensures.all in
    subst (λ l. (length l ≡ n + 1) × ((k : ℕ) → k < n + 1 → get_or l k 0 ≡ start_of (get_or lengths k 0) None)) (sym c.in_ok-push.ensures.items)
    (omega (arith, length_push was c.first.result, c.loop-length.invariant.0), pushed (λ k v. v ≡ start_of (get_or lengths k 0) None) was c.first.result n c.loop-length.invariant.0 c.loop-length.invariant.1 last)

pub returns : goal.returns
returns c =
    let lengths = c.args.lengths.now in
    let long : length (vec_items c.loop-length.start) ≡ length lengths = omega arith in
    ext_get_or 0 (vec_items c.loop-length.start) (starts lengths (λ k. None)) (long ∙ sym (starts_long lengths (λ k. None)))
    (λ k lt. c.loop-length.invariant.1 k (omega (arith, lt, long)) ∙ sym (starts_at lengths (λ j. None) k (omega (arith, lt, long))))
