-- The laws of a run, as the search for a core asks for them. Assumes nothing.
use Rattle.std.proofs.Common.{◌≡◌, ℕ, List, sym, subst, ap₂}
use Rattle.bits.specs.Sets.{Subset}
use Rattle.network.specs.Book.{BookMeaning, Lawful}
use Rattle.network.specs.Fillings.{Meetable}
use Rattle.choosers.specs.Choice.{Machine, Naming}
use Rattle.runs.specs.declared.line.Line.{Line}
use Rattle.runs.specs.declared.line.Verdict.TheVariants.{Met}
use Rattle.runs.specs.Law.{Right, Ready, Fills}
use Rattle.runs.specs.Run.{Run}
use Rattle.runs.proofs.Running.{run_right, run_fills}
use Rattle.runs.proofs.OneRun.{only_run}
use Rattle.cores.proofs.Unique.{Fixed}
use Rattle.cores.specs.Fit.{Lawful as LawfulRuns}
use Rattle.clash.specs.Running.{Lasting, lasting, Laws}
use Rattle.calls.specs.Runs.{Ran}

-- fewer rules are met by the same filling
pub fewer_met : (m : BookMeaning) (start : List ℕ) (a b : ℕ) → Subset a b → Meetable m start b → Meetable m start a
fewer_met m start a b sub q = record { filling = q.filling; inside = q.inside; meets = λ r h. q.meets r (sub r h) }

pub fewer_ready : (m : BookMeaning) (start : List ℕ) (a b : ℕ) → Subset a b → Ready m start b → Ready m start a
fewer_ready m start a b sub q = record { few = q.few; suits = q.suits; known = λ r h. q.known r (sub r h); full = q.full }

module _ {C : Type 0} (k : Machine C) (naming : Naming k) (m : BookMeaning) (law : Lawful m) (start : List ℕ) where
  pub ran_right : {s t : Lasting C} {l : Line} {sets : List ℕ} → Ran k m start s l sets t → Right (Meetable m start) l
  ran_right {l = l} p = run_right k naming m law start l.listed p.ready p.run

  pub ran_fills : {s t : Lasting C} {l : Line} {sets : List ℕ} → Ran k m start s l sets t → l.verdict ≡ Met → Fills m start l.listed sets
  ran_fills {l = l} p = run_fills k naming m law start l.listed p.ready p.run

  pub ran_lawful : LawfulRuns (Ran k m start) (Meetable m start)
  ran_lawful = record { right = ran_right; less = fewer_met m start }

  pub ran_laws : Laws (Ready m start) (Meetable m start) (Ran k m start)
  ran_laws = record { lawful = ran_lawful; part = fewer_ready m start }

module _ {C : Type 0} (k : Machine C) (m : BookMeaning) (start : List ℕ) where
  ran_same : {s t t' : Lasting C} {l l' : Line} {sets sets' : List ℕ} → Ran k m start s l sets t → Ran k m start s l' sets' t' → l.listed ≡ l'.listed → (l ≡ l') × (sets ≡ sets') × (t ≡ t')
  ran_same {s} {t} {t'} {l} {l'} {sets} {sets'} p q e =
      let d = only_run p.run l' t'.chooser t'.weights sets'
      (subst (λ (x : ℕ). Run k m start x s.chooser s.weights l' t'.chooser t'.weights sets') (sym e) q.run) in
      (sym d.0, sym d.3, ap₂ lasting (sym d.1) (sym d.2))

  pub ran_fixed : Fixed (Ran k m start)
  ran_fixed = record { same = ran_same }
