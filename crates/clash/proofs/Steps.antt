-- The steps of the loops: what follows a line follows what led to it. Assumes nothing.
use Rattle.std.proofs.Common.{◌≡◌, ℕ, ◌+◌, ◌-◌, ◌*◌, ◌/◌, ◌^◌, ◌<◌, ◌≤◌, ◌≢◌, List, [], ◌∷◌, ◌++◌, length, take, Some, None, sym, refl, ◌∙◌, subst, arith}
use Rattle.std.proofs.lemmas.List.{append_assoc, append-nil}
use Rattle.bits.specs.Sets.{Subset, members, size}
use Rattle.runs.specs.declared.line.Line.{Line}
use Rattle.runs.specs.declared.line.Verdict.TheVariants.{Met, Unmet}
use Rattle.runs.specs.Law.{Right}
use Rattle.cores.specs.Core.{Outcome}
use Rattle.cores.specs.Fit.{with_first, with_rule, Lawful, Gives, Shrinks, Shrinks.all, Shrinks.fewer, Halves, Halves.met, Halves.down, Halves.up, Rounds, Rounds.alone, Rounds.round, Fit, Fit.fills, Fit.clashes}
use Rattle.bits.proofs.Size.{size_le}
use Rattle.cores.proofs.CoreLaw.{shrinks_law, fit_law}
use Rattle.clash.specs.declared.fitted.Fitted.{Fitted}
use Rattle.clash.specs.Logged.{Wrote, Answers, Logged}
use Rattle.clash.proofs.LogFacts.{wrote_then}

module _ {S O : Type 0} (R : S → Line → O → S → Type 0) where
  -- what may follow from here, shrinking, after the lines ws
  abbrev pub MoreShrinks : Line → S → List Line → Line → S → Type 0
  MoreShrinks first s₀ ws l s = (ls : List Line) (c : ℕ) (u : S) → Shrinks R l s ls c u → Shrinks R first s₀ (ws ++ ls) c u

  pub shrink_more : {first l m : Line} {s₀ s t : S} {o : O} (ws : List Line) → l.used ≢ l.listed → Gives R l.used Unmet s m o t
      → MoreShrinks first s₀ ws l s → MoreShrinks first s₀ (ws ++ m ∷ []) m t
  shrink_more {first} {l} {m} {s₀} ws ne g k ls c u p = subst (λ (xs : List Line). Shrinks R first s₀ xs c u) (sym (append_assoc ws (m ∷ []) ls)) (k (m ∷ ls) c u (fewer ne g p))

  pub shrink_end : {first l : Line} {s₀ s : S} (ws : List Line) → l.used ≡ l.listed → MoreShrinks first s₀ ws l s → Shrinks R first s₀ ws l.listed s
  shrink_end {first} {l} {s₀} {s} ws e k = subst (λ (xs : List Line). Shrinks R first s₀ xs l.listed s) (append-nil ws) (k [] l.listed s (all e))

  module _ (found : ℕ) (cs : List ℕ) where
    -- the same for halving
    abbrev pub More-halves : ℕ → ℕ → S → List Line → ℕ → ℕ → S → Type 0
    More-halves lo₀ hi₀ s₀ ws lo hi s = (ls : List Line) (j : ℕ) (u : S) → Halves R found cs lo hi s ls j u → Halves R found cs lo₀ hi₀ s₀ (ws ++ ls) j u

    pub halve_down : {lo₀ hi₀ lo hi : ℕ} {m : Line} {s₀ s t : S} {o : O} (ws : List Line) → lo < hi → Gives R (with_first found ((lo + hi) / 2) cs) Unmet s m o t
        → More-halves lo₀ hi₀ s₀ ws lo hi s → More-halves lo₀ hi₀ s₀ (ws ++ m ∷ []) lo ((lo + hi) / 2) t
    halve_down {lo₀} {hi₀} {m = m} {s₀} ws lt g k ls j u p = subst (λ (xs : List Line). Halves R found cs lo₀ hi₀ s₀ xs j u) (sym (append_assoc ws (m ∷ []) ls)) (k (m ∷ ls) j u (down lt g p))

    pub halve_up : {lo₀ hi₀ lo hi : ℕ} {m : Line} {s₀ s t : S} {o : O} (ws : List Line) → lo < hi → Gives R (with_first found ((lo + hi) / 2) cs) Met s m o t
        → More-halves lo₀ hi₀ s₀ ws lo hi s → More-halves lo₀ hi₀ s₀ (ws ++ m ∷ []) ((lo + hi) / 2 + 1) hi t
    halve_up {lo₀} {hi₀} {m = m} {s₀} ws lt g k ls j u p = subst (λ (xs : List Line). Halves R found cs lo₀ hi₀ s₀ xs j u) (sym (append_assoc ws (m ∷ []) ls)) (k (m ∷ ls) j u (up lt g p))

    pub halve_end : {lo₀ hi₀ lo hi : ℕ} {s₀ s : S} (ws : List Line) → lo ≡ hi → More-halves lo₀ hi₀ s₀ ws lo hi s → Halves R found cs lo₀ hi₀ s₀ ws lo s
    halve_end {lo₀} {hi₀} {lo} {s₀ = s₀} {s = s} ws e k = subst (λ (xs : List Line). Halves R found cs lo₀ hi₀ s₀ xs lo s) (append-nil ws) (k [] lo s (met e))

  module _ (cs : List ℕ) where
    -- the same for rounds
    abbrev pub More-rounds : ℕ → ℕ → S → List Line → ℕ → ℕ → S → Type 0
    More-rounds f₀ n₀ s₀ ws found n s = (ls : List Line) (c : ℕ) (w : S) → Rounds R cs found n s ls c w → Rounds R cs f₀ n₀ s₀ (ws ++ ls) c w

    pub round_more : {f₀ n₀ found n j f : ℕ} {m : Line} {s₀ s t u : S} {o : O} {vs : List Line} (ws : List Line) → Gives R found Met s m o t → Halves R found cs 1 n t vs j u
        → with_rule found j cs ≡ f → More-rounds f₀ n₀ s₀ ws found n s → More-rounds f₀ n₀ s₀ ((ws ++ m ∷ []) ++ vs) f (j - 1) u
    round_more {f₀} {n₀} {j = j} {m = m} {s₀} {u = u} {vs = vs} ws g h e k ls c w p =
        subst (λ (xs : List Line). Rounds R cs f₀ n₀ s₀ xs c w) (sym (append_assoc (ws ++ m ∷ []) vs ls ∙ append_assoc ws (m ∷ []) (vs ++ ls)))
        (k (m ∷ (vs ++ ls)) c w (round g h (subst (λ (x : ℕ). Rounds R cs x (j - 1) u ls c w) (sym e) p)))

    pub round_end : {f₀ n₀ n₁ found n : ℕ} {m : Line} {s₀ s t : S} {o : O} (ws : List Line) → n₀ ≡ n₁ → Gives R found Unmet s m o t
        → More-rounds f₀ n₀ s₀ ws found n s → Rounds R cs f₀ n₁ s₀ (ws ++ m ∷ []) found t
    round_end {f₀} {found = found} {m = m} {s₀} {t = t} ws e g k = subst (λ (x : ℕ). Rounds R cs f₀ x s₀ (ws ++ m ∷ []) found t) e (k (m ∷ []) found t (alone g))

  -- ---- a whole Fit
  module _ (Fits : ℕ → Type 0) (law : Lawful R Fits) where
    logged : {on : ℕ} {s t : S} {sets : O} {ls before after : List Line} {out : Outcome O} (f : Fitted) → on < 2 ^ 64 → f.lines ≤ length after → Wrote before 0 f.lines ls after → Answers out f sets
        → Fit R on s ls out t → Logged R Fits on s before f t sets after
    logged {on} {s} {t} {after = after} {out = out} f h i w a p =
        let runs : Fit R on s (take f.lines after) out t = subst (λ (xs : List Line). Fit R on s xs out t) (sym w.begins) p in
        record { out = out; runs = runs; law = fit_law R Fits law h runs; answers = a; inside = i; keeps = w.keeps }

    pub filled : {on b : ℕ} {s t : S} {o : O} {l : Line} {before after : List Line} → on < 2 ^ 64 → b ≤ length after → Wrote before 0 b (l ∷ []) after → Gives R on Met s l o t
        → Logged R Fits on s before (record { lines = b; core = None }) t o after
    filled {b = b} h i w g = logged (record { lines = b; core = None }) h i w (refl, refl) (fills g)

    pub searched : {on c e a b found : ℕ} {s t u w : S} {o sets : O} {l : Line} {ls ms before first middle after : List Line} → on < 2 ^ 64 → b ≤ length after → Wrote before 0 e (l ∷ []) first → Gives R on Unmet s l o t
        → Wrote first e a ls middle → Shrinks R l t ls c u → Wrote middle a b ms after → Rounds R (members c) 0 (size c) u ms found w
        → Logged R Fits on s before (record { lines = b; core = Some found }) w sets after
    searched {b = b} {found = found} h i w₁ g w₂ p w₃ q = logged (record { lines = b; core = Some found }) h i (wrote_then (wrote_then w₁ w₂) w₃) refl (clashes g p q)

    -- the lines so far leave room for the rounds
    pub room : {c e a : ℕ} {s t : S} {l : Line} {ls before after : List Line} → l.listed < 2 ^ 64 → l.verdict ≡ Unmet → Right Fits l
        → e ≡ 1 → Wrote before e a ls after → Shrinks R l s ls c t → Subset c l.listed × (Fits c → ⊥) × (a + 1 + 7 * size c ≤ 450)
    room {c} {l = l} h v r one w p =
        let q = shrinks_law R Fits law p h (r.among v) (r.clash v) in
        let m = size_le l.listed in
        let b = q.2 in
        let u = w.upto in (q.0, q.1, omega arith)
