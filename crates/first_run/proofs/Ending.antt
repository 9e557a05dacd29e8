-- What is told of a run. Assumes nothing.
use Rattle.std.proofs.Common.{◌≡◌, ℕ, ◌<◌, List, length, get_or, sym, ◌∙◌, subst, arith}
use Rattle.std.proofs.lemmas.List.{ext_get_or}
use Rattle.bits.specs.Sets.{In}
use Rattle.bits.proofs.Bits.{has_zero}
use Rattle.runs.specs.Law.{Alone}
use Rattle.session.specs.Pins.{LowestByte}

-- where the sets hold one place a cell, their lowest places are these
pub alone_lowest : (sets f places : List ℕ) → Alone sets f → length places ≡ length sets → ((c : ℕ) → c < length sets → LowestByte (get_or sets c 0) (get_or places c 0)) → Alone sets places
alone_lowest sets f places a long low =
    let e : f ≡ places = ext_get_or 0 f places (a.there.long ∙ sym long) (λ c lt.
    let l : c < length sets = omega (arith, lt, a.there.long) in
    let r = a.there.each c l in
    let q = (low c l).some (λ z. has_zero (get_or f c 0) (subst (λ (x : ℕ). In x (get_or f c 0)) z r.1)) in
    sym (a.only c (get_or places c 0) (q.1, q.0.there))) in
    subst (Alone sets) e a
