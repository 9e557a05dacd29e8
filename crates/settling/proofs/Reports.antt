-- Reports, one after another. Assumes nothing.
use Rattle.std.proofs.Common.{◌≡◌, ℕ, ◌+◌, ◌≤◌, Bool, true, false, ◌||◌, ◌≢◌, length, sym, refl, ap, ◌∙◌, subst, subst₂, arith}
use Rattle.std.specs.Prelude.{sum}
use Rattle.std.proofs.lemmas.Bool.{false≢true, true≢false}
use Rattle.network.specs.declared.book.RuleBook.{Ghosts}
use Rattle.runs.specs.Settle.{State, Turns}
use Rattle.runs.proofs.Turning.{turns_more}
use Rattle.settling.specs.declared.progress.Progress.{Progress}
use Rattle.settling.specs.Kept.{state_of, Kept}
use Rattle.settling.specs.Report.{Report}

module _ {B : Type 0} {r : Ghosts B} where
  pub kept_none : (p : Progress B r) → Kept p p
  kept_none p = record { book = refl; rules = refl; sets = refl; weights = refl; cells = refl; weighted = refl }

  pub kept_more : {a b c : Progress B r} → Kept a b → Kept b c → Kept a c
  kept_more p q = record {
    book = q.book ∙ p.book;
    rules = q.rules ∙ p.rules;
    sets = p.sets ∙ q.sets;
    weights = p.weights ∙ q.weights;
    cells = q.cells ∙ p.cells;
    weighted = q.weighted ∙ p.weighted;
  }

  -- what holds of the book and the rules held of them before
  pub before : {a b : Progress B r} (P : B → ℕ → Type 0) → Kept a b → P b.book.now b.rules → P a.book.now a.rules
  before P k p = subst₂ (λ x (n : ℕ). P x.now n) k.book k.rules p

  -- the same from a progress with other contents in the same buffers
  pub kept_from : {a b c : Progress B r} → Kept b c → b.book ≡ a.book → b.rules ≡ a.rules → a.sets.ghost_name ≡ b.sets.ghost_name → a.weights.ghost_name ≡ b.weights.ghost_name
      → length b.sets.now ≡ length a.sets.now → length b.weights.now ≡ length a.weights.now → Kept a c
  kept_from k e l s w n m = kept_more (record { book = e; rules = l; sets = s; weights = w; cells = n; weighted = m }) k

pub report_none : (s : State) → Report false s s
report_none s = record { same = λ _. refl; less = λ e. absurd (false≢true e) }

pub report_le : {b : Bool} {s t : State} → Report b s t → sum t.sets ≤ sum s.sets
report_le {b} {s} {t} r = go b r
  where
    go : (b : Bool) → Report b s t → sum t.sets ≤ sum s.sets
    go true r = let h = r.less refl in omega arith
    go false r = let h = ap sum (r.same refl) in omega arith

pub report_more : (a b : Bool) {s t u : State} → Report a s t → Report b t u → Report (a || b) s u
report_more true b {s} {t} {u} p q = record { same = λ e. absurd (true≢false e); less = λ _. let h = p.less refl in omega (arith, report_le q) }
report_more false b {s} {t} {u} p q = record { same = λ e. q.same e ∙ p.same refl; less = λ e. let h = q.less e in omega (arith, report_le p) }

pub report_differs : {s t : State} → Report true s t → t.sets ≢ s.sets
report_differs r e = let h = r.less refl in omega (arith, ap sum e)

pub turns_all : {R : ℕ → State → State → Type 0} {s t : State} (n k : ℕ) → n ≡ k → Turns R n s t → Turns R k s t
turns_all {R} {s} {t} n k e p = subst (λ (j : ℕ). Turns R j s t) e p

-- where two ways of a turn meet: the values as the meet has them
module _ {B : Type 0} {r : Ghosts B} where
  pub meets_more : {R : ℕ → State → State → Type 0} {n : ℕ} {p q u z : Progress B r} {a b d : Bool}
      → Turns R n (state_of p) (state_of q) → Report a (state_of p) (state_of q) → Kept p q → R n (state_of q) (state_of u) → Report b (state_of q) (state_of u) → Kept q u
      → z ≡ u → d ≡ (a || b) → Turns R (n + 1) (state_of p) (state_of z) × Report d (state_of p) (state_of z) × Kept p z
  meets_more {R} {n} {p} {q} {u} {z} {a} {b} {d} t s k f h l ez ed =
      subst₂ (λ (z : Progress B r) (d : Bool). Turns R (n + 1) (state_of p) (state_of z) × Report d (state_of p) (state_of z) × Kept p z) (sym ez) (sym ed)
      (turns_more t f, report_more a b s h, kept_more k l)

  pub meets_same : {R : ℕ → State → State → Type 0} {n : ℕ} {p q z : Progress B r} {a d : Bool}
      → Turns R n (state_of p) (state_of q) → Report a (state_of p) (state_of q) → Kept p q → R n (state_of q) (state_of q)
      → z ≡ q → d ≡ a → Turns R (n + 1) (state_of p) (state_of z) × Report d (state_of p) (state_of z) × Kept p z
  meets_same {R} {n} {p} {q} {z} {a} {d} t s k f ez ed =
      subst₂ (λ (z : Progress B r) (d : Bool). Turns R (n + 1) (state_of p) (state_of z) × Report d (state_of p) (state_of z) × Kept p z) (sym ez) (sym ed)
      (turns_more t f, s, k)
