-- The cell that `pick` gives is the lowest open cell that no open cell beats. Assumes nothing.
use Rattle.std.proofs.Common.{◌≡◌, ℕ, zero, suc, ◌<◌, Bool, true, false, ◌&&◌, ◌||◌, eqb, ◌⊎◌, List, length, Decides, sym, refl, subst, inl, inr, ⊎_elim, arith}
use Rattle.std.proofs.lemmas.Bool.{cond_both, eqb-true, eqb-false, and_parts, and_cases, or_cases, or_parts, cases_Bool, both_ways, cases_lt}
use Rattle.choosers.specs.declared.chooser.Figure.{Figure}
use Rattle.choosers.specs.Choice.{Open, open?, figure}
use Rattle.choosers.specs.Kinds.{pick, Chosen}
use Rattle.choosers.specs.KindLaws.{open_true, open_false, open_below}

-- the test tells what it stands for, and ranks the figures of open cells
pub record Ranking (beats : Figure → Figure → Bool) (Beats : Figure → Figure → Type 0) : Type 0 where
  pub tells : (f g : Figure) → 1 < f.places → 1 < g.places → Decides (beats f g) (Beats f g)
  pub one_way : (f g : Figure) → beats f g ≡ true → beats g f ≡ false
  pub chain : (f g h : Figure) → 1 < g.places → beats f g ≡ false → beats g h ≡ false → beats f h ≡ false

module _ {beats : Figure → Figure → Bool} {Beats : Figure → Figure → Type 0} (ranking : Ranking beats Beats) (fs : List Figure) where
  -- what is known of the cell that is picked of the first n
  record Leads (n b : ℕ) : Type 0 where
    below : b < n
    opened : Open fs b
    unbeaten : (k : ℕ) → k < n → Open fs k → beats (figure fs k) (figure fs b) ≡ false
    first : (k : ℕ) → k < b → Open fs k → beats (figure fs b) (figure fs k) ≡ true

  abbrev Picked : ℕ → ℕ → Type 0
  Picked n b = Leads n b ⊎ ((b ≡ 255) × ((k : ℕ) → k < n → Open fs k → ⊥))

  abbrev wins : ℕ → ℕ → Bool
  wins j k = beats (figure fs j) (figure fs k)

  self : (j : ℕ) → wins j j ≡ false
  self j = ⊎_elim (λ t. ranking.one_way (figure fs j) (figure fs j) t) (λ f. f) (cases_Bool (wins j j))

  -- cell n is taken: it beats each open one before it
  over : (n b : ℕ) → (eqb b 255 || wins n b) ≡ true → Picked n b → (k : ℕ) → k < n → Open fs k → wins n k ≡ true
  over n b t p k h ok =
      elim p [
        | inr q ↦ absurd (q.1 k h ok)
        | inl q ↦
            let win : wins n b ≡ true =
            ⊎_elim (λ e. absurd (omega (arith, eqb-true b 255 e, q.opened.0))) (λ w. w) (or_cases (eqb b 255) (wins n b) t) in
            ⊎_elim (λ y. y)
            (λ f. absurd (both_ways _ (ranking.chain (figure fs n) (figure fs k) (figure fs b) ok.1 f (q.unbeaten k h ok)) win))
            (cases_Bool (wins n k))
      ]

  taken : (n b : ℕ) → Open fs n → (eqb b 255 || wins n b) ≡ true → Picked n b → Leads (suc n) n
  taken n b o t p =
      record {
        below = omega arith;
        opened = o;
        unbeaten = λ k h ok. ⊎_elim
            (λ lt. ranking.one_way (figure fs n) (figure fs k) (over n b t p k lt ok))
            (λ ge. subst (λ j. wins j n ≡ false) (omega arith) (self n))
            (cases_lt k n);
        first = over n b t p;
      }

  -- cell n is passed over
  passed : (n b : ℕ) → (open? fs n && (eqb b 255 || wins n b)) ≡ false → Picked n b → Picked (suc n) b
  passed n b t p =
      elim p [
        | inl q ↦
            inl (record {
              below = omega (arith, q.below);
              opened = q.opened;
              unbeaten = λ k h ok. ⊎_elim
                  (λ lt. q.unbeaten k lt ok)
                  (λ ge.
                  let e : n ≡ k = omega arith in
                  ⊎_elim
                  (λ f. absurd (open_false fs n f (subst (Open fs) (sym e) ok)))
                  (λ f. subst (λ j. wins j b ≡ false) e (or_parts (eqb b 255) (wins n b) f).1)
                  (and_cases (open? fs n) (eqb b 255 || wins n b) t))
                  (cases_lt k n);
              first = q.first;
            })
        | inr q ↦
            inr (
              q.0,
              λ k h ok. ⊎_elim
                  (λ lt. q.1 k lt ok)
                  (λ ge.
                  let e : n ≡ k = omega arith in
                  ⊎_elim
                  (λ f. open_false fs n f (subst (Open fs) (sym e) ok))
                  (λ f. eqb-false b 255 (or_parts (eqb b 255) (wins n b) f).0 q.0)
                  (and_cases (open? fs n) (eqb b 255 || wins n b) t))
                  (cases_lt k n),
            )
      ]

  picked : (n : ℕ) → Picked n (pick beats fs n)
  picked zero = inr (refl, λ k lt _. omega arith)
  picked (suc n) =
      let b = pick beats fs n in
      cond_both (open? fs n && (eqb b 255 || wins n b)) n b (Picked (suc n))
      (λ t.
      let both = and_parts (open? fs n) (eqb b 255 || wins n b) t in
      inl (taken n b (open_true fs n both.0) both.1 (picked n)))
      (λ t. passed n b t (picked n))

  pub chosen : (b : ℕ) → b ≡ pick beats fs (length fs) → Chosen Beats fs b
  chosen b e =
      elim (subst (Picked (length fs)) (sym e) (picked (length fs))) [
        | inl q ↦
            inl (record {
              opened = q.opened;
              unbeaten = λ k ok w. both_ways _ (q.unbeaten k (open_below fs k ok) ok) ((ranking.tells (figure fs k) (figure fs b) ok.1 q.opened.1).1 w);
              first = λ k h ok. (ranking.tells (figure fs b) (figure fs k) q.opened.1 ok.1).0 (q.first k h ok);
            })
        | inr q ↦ inr (q.0, λ k ok. q.1 k (open_below fs k ok) ok)
      ]
