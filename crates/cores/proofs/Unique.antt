-- A Fit's lines and its outcome follow from where it starts, if its runs do. Assumes nothing.
use Rattle.std.proofs.Common.{◌≡◌, ℕ, ◌+◌, ◌-◌, ◌/◌, List, [], ◌∷◌, ◌++◌, sym, refl, ap, ◌∙◌, subst, ap₂, subst₂, arith}
use Rattle.bits.specs.Sets.{members, size}
use Rattle.runs.specs.declared.line.Line.{Line}
use Rattle.runs.specs.declared.line.Verdict.{Verdict}
use Rattle.runs.specs.declared.line.Verdict.TheVariants.{Met, Unmet}
use Rattle.cores.specs.Core.{Outcome, Outcome.left, Outcome.core}
use Rattle.cores.specs.Fit.{with_rule, Gives, Shrinks, Shrinks.all, Shrinks.fewer, Halves, Halves.met, Halves.down, Halves.up, Rounds, Rounds.alone, Rounds.round, Fit, Fit.fills, Fit.clashes}

-- the runs follow from where they start: two that list the same from one state come to the same
pub record Fixed {S O : Type 0} (R : S → Line → O → S → Type 0) : Type 0 where
  pub same : {s t t' : S} {l l' : Line} {o o' : O} → R s l o t → R s l' o' t' → l.listed ≡ l'.listed → (l ≡ l') × (o ≡ o') × (t ≡ t')

module _ {S O : Type 0} (R : S → Line → O → S → Type 0) (fixed : Fixed R) where
  gives_same : {a : ℕ} {v v' : Verdict} {s t t' : S} {l l' : Line} {o o' : O} → Gives R a v s l o t → Gives R a v' s l' o' t' → (l ≡ l') × (o ≡ o') × (t ≡ t')
  gives_same g h = fixed.same g.run h.run (g.lists ∙ sym h.lists)

  -- one run has one verdict
  never_both : {a : ℕ} {s t t' : S} {l l' : Line} {o o' : O} → Gives R a Met s l o t → Gives R a Unmet s l' o' t' → ⊥
  never_both g h = let e = ap (λ (x : Line). x.verdict) (gives_same g h).0 in let a = g.says in let b = h.says in cc

  shrinks_same : {c c' : ℕ} {s t t' : S} {l : Line} {ls ls' : List Line} → Shrinks R l s ls c t → Shrinks R l s ls' c' t' → (ls ≡ ls') × (c ≡ c') × (t ≡ t')
  shrinks_same (all e) (all e') = (refl, refl, refl)
  shrinks_same (all e) (fewer ne g p) = absurd (ne e)
  shrinks_same (fewer ne g p) (all e) = absurd (ne e)
  shrinks_same {c} {t = w} (fewer {ls = ls} ne g p) (fewer ne' g' p') =
      let e = gives_same g g' in
      let q = shrinks_same (subst₂ (λ (x : Line) (y : S). Shrinks R x y ls c w) e.0 e.2 p) p' in
      (ap₂ ◌∷◌ e.0 q.0, q.1, q.2)

  halves_same : {found : ℕ} {cs : List ℕ} {lo hi j j' : ℕ} {s t t' : S} {ls ls' : List Line} → Halves R found cs lo hi s ls j t → Halves R found cs lo hi s ls' j' t'
      → (ls ≡ ls') × (j ≡ j') × (t ≡ t')
  halves_same (met e) (met e') = (refl, refl, refl)
  halves_same (met e) (down lt g p) = absurd (omega arith)
  halves_same (met e) (up lt g p) = absurd (omega arith)
  halves_same (down lt g p) (met e) = absurd (omega arith)
  halves_same (up lt g p) (met e) = absurd (omega arith)
  halves_same (down lt g p) (up lt' g' p') = absurd (never_both g' g)
  halves_same (up lt g p) (down lt' g' p') = absurd (never_both g g')
  halves_same {found} {cs} {lo} {hi} {j} {t = w} (down {ls = ls} lt g p) (down lt' g' p') =
      let e = gives_same g g' in
      let q = halves_same (subst (λ (y : S). Halves R found cs lo ((lo + hi) / 2) y ls j w) e.2 p) p' in
      (ap₂ ◌∷◌ e.0 q.0, q.1, q.2)
  halves_same {found} {cs} {lo} {hi} {j} {t = w} (up {ls = ls} lt g p) (up lt' g' p') =
      let e = gives_same g g' in
      let q = halves_same (subst (λ (y : S). Halves R found cs ((lo + hi) / 2 + 1) hi y ls j w) e.2 p) p' in
      (ap₂ ◌∷◌ e.0 q.0, q.1, q.2)

  rounds_same : {cs : List ℕ} {found n c c' : ℕ} {s t t' : S} {ls ls' : List Line} → Rounds R cs found n s ls c t → Rounds R cs found n s ls' c' t'
      → (ls ≡ ls') × (c ≡ c') × (t ≡ t')
  rounds_same (alone g) (alone g') = let e = gives_same g g' in (ap (λ (x : Line). x ∷ []) e.0, refl, e.2)
  rounds_same (alone g) (round g' h' p') = absurd (never_both g' g)
  rounds_same (round g h p) (alone g') = absurd (never_both g g')
  rounds_same {cs} {found} {n} {c} {t = w} (round {j = j} {u = u} {ls = ls} {ms = ms} g h p) (round {u = u'} g' h' p') =
      let e = gives_same g g' in
      let f = halves_same (subst (λ (y : S). Halves R found cs 1 n y ls j u) e.2 h) h' in
      let q = rounds_same (subst₂ (λ (x : ℕ) (y : S). Rounds R cs (with_rule found x cs) (x - 1) y ms c w) f.1 f.2 p) p' in
      (ap₂ ◌∷◌ e.0 (ap₂ ◌++◌ f.0 q.0), q.1, q.2)

  pub fit_same : {on : ℕ} {s t t' : S} {ls ls' : List Line} {out out' : Outcome O} → Fit R on s ls out t → Fit R on s ls' out' t'
      → (ls ≡ ls') × (out ≡ out') × (t ≡ t')
  fit_same (fills g) (fills g') = let e = gives_same g g' in (ap (λ (x : Line). x ∷ []) e.0, ap left e.1, e.2)
  fit_same (fills g) (clashes g' p' q') = absurd (never_both g g')
  fit_same (clashes g p q) (fills g') = absurd (never_both g' g)
  fit_same {t = w} (clashes {c = c} {found = found} {u = u} {ls = ls} {ms = ms} g p q) (clashes {u = u'} g' p' q') =
      let e = gives_same g g' in
      let f = shrinks_same (subst₂ (λ (x : Line) (y : S). Shrinks R x y ls c u) e.0 e.2 p) p' in
      let r = rounds_same (subst₂ (λ (x : ℕ) (y : S). Rounds R (members x) 0 (size x) y ms found w) f.1 f.2 q) q' in
      (ap₂ ◌∷◌ e.0 (ap₂ ◌++◌ f.0 r.0), ap core r.1, r.2)
