-- Lines written one after another. Assumes nothing.
use Rattle.std.proofs.Common.{◌≡◌, ℕ, ◌+◌, ◌<◌, List, [], ◌∷◌, ◌++◌, length, take, drop, set, sym, refl, ap, ◌∙◌, subst, arith}
use Rattle.std.proofs.lemmas.List.{append-nil, append_assoc, length-append, length_push, take_more_set, drop-set-lt, drop-drop}
use Rattle.runs.specs.declared.line.Line.{Line}
use Rattle.clash.specs.Logged.{Wrote}

pub wrote_none : (log : List Line) (from : ℕ) → Wrote log from from [] log
wrote_none log from = record { upto = omega arith; begins = sym (append-nil (take from log)); keeps = refl }

pub wrote_more : (before after ws : List Line) (from to : ℕ) (l : Line) → to < length after → Wrote before from to ws after
    → Wrote before from (to + 1) (ws ++ l ∷ []) (set after to l)
wrote_more before after ws from to l h w = record {
  upto = let e = length_push ws l in let u = w.upto in omega arith;
  begins = take_more_set after to l h ∙ ap (λ (x : List Line). x ++ l ∷ []) w.begins ∙ append_assoc (take from before) ws (l ∷ []);
  keeps = drop-set-lt (to + 1) after to l (omega arith) ∙ sym (drop-drop 1 to after) ∙ ap (drop 1) w.keeps ∙ drop-drop 1 to before;
}

-- the same, where the log and the number of its lines are known by equations
pub wrote_next : {before mid after ws : List Line} {from to end : ℕ} (l : Line) → to < length mid → Wrote before from to ws mid → after ≡ set mid to l → end ≡ to + 1 → Wrote before from end (ws ++ l ∷ []) after
wrote_next {before} {mid} {after} {ws} {from} {to} {end} l h w e n =
    subst (λ i. Wrote before from i (ws ++ l ∷ []) after) (sym n) (subst (Wrote before from (to + 1) (ws ++ l ∷ [])) (sym e) (wrote_more before mid ws from to l h w))

pub wrote_then : {before middle after ws vs : List Line} {from to end : ℕ} → Wrote before from to ws middle → Wrote middle to end vs after → Wrote before from end (ws ++ vs) after
wrote_then {before} {middle} {after} {ws} {vs} {from} {to} {end} a b =
    let e : end ≡ to + length vs = b.upto in
    record {
      upto = let p = length-append ws vs in let q = a.upto in omega arith;
      begins = b.begins ∙ ap (λ (x : List Line). x ++ vs) a.begins ∙ append_assoc (take from before) ws vs;
      keeps = b.keeps ∙ ap (λ (x : ℕ). drop x middle) e ∙ sym (drop-drop (length vs) to middle) ∙ ap (drop (length vs)) a.keeps ∙ drop-drop (length vs) to before ∙ ap (λ (x : ℕ). drop x before) (sym e);
    }
