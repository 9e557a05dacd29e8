-- What a search for a core was lent is the same after each part of it, and its log grows by the lines of that part. Assumes nothing.
use Rattle.std.proofs.Common.{◌≡◌, ◌+◌, ◌<◌, List, ◌∷◌, [], ◌++◌, length, set, refl, sym, ◌∙◌, subst}
use Rattle.runs.specs.declared.line.Line.{Line}
use Rattle.clash.specs.declared.runner.Runner.{Ghosts}
use Rattle.clash.specs.declared.core_search.CoreSearch.{CoreSearch}
use Rattle.clash.specs.Seeking.{Keeps, Logs}
use Rattle.clash.proofs.LogFacts.{wrote_next}

module _ {T C : Type 0} {r : Ghosts T C} where
  pub keeps_all : (s : CoreSearch T C r) → Keeps s s
  keeps_all s = record { runner = refl; chooser = refl; weights = refl; work = refl; sets = refl; log = refl; long = refl }

  pub keeps_then : {a b c : CoreSearch T C r} → Keeps a b → Keeps b c → Keeps a c
  keeps_then h k = record {
    runner = k.runner ∙ h.runner;
    chooser = k.chooser ∙ h.chooser;
    weights = k.weights ∙ h.weights;
    work = k.work ∙ h.work;
    sets = k.sets ∙ h.sets;
    log = k.log ∙ h.log;
    long = k.long ∙ h.long;
  }

  -- what holds of the runner holds of it later, and held before
  pub later : {a b : CoreSearch T C r} → Keeps a b → (P : T → Type 0) → P a.runner.now → P b.runner.now
  later k P p = subst (λ x. P x.now) (sym k.runner) p

  pub before : {a b : CoreSearch T C r} → Keeps a b → (P : T → Type 0) → P b.runner.now → P a.runner.now
  before k P p = subst (λ x. P x.now) k.runner p

  -- one more line
  pub logs_more : {a b : CoreSearch T C r} (c : CoreSearch T C r) {ws : List Line} (l : Line) → Keeps a b → b.lines < length a.log.now → Logs a ws b
      → c.log.now ≡ set b.log.now b.lines l → c.lines ≡ b.lines + 1 → Logs a (ws ++ l ∷ []) c
  logs_more {a} {b} c l k h w e n = wrote_next l (subst (λ x. b.lines < x) (sym k.long) h) w e n
