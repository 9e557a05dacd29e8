-- A formula that is read stands in the store, and each text is told for one reason only. Assumes nothing.
use Rattle.std.proofs.Common.{◌≡◌, ℕ, ◌+◌, ◌-◌, ◌≤◌, List, length, take, drop, replicate, ℤ, IfOk, Ok, Err, Result, sym, refl, ap, ◌∙◌, subst, arith}
use Rattle.std.proofs.lemmas.List.{take_at, length-take-le}
use Rattle.formulas.specs.declared.node.Node.{Node}
use Rattle.formulas.specs.declared.fault.FormulaFault.{FormulaFault}
use Rattle.formulas.specs.Tree.{cells_of}
use Rattle.formulas.specs.Layout.{layout, Stands, Standing}
use Rattle.formulas.specs.Faults.{First}
use Rattle.formulas.proofs.Firsts.{first_unique}
use Rattle.formulas.proofs.Exact.{accepted_not_refused, accepted_unique}
use Rattle.formulas.proofs.Layouts.{size_text}
use Rattle.formulas.proofs.Standings.{laid_out}
use Rattle.reader.specs.declared.formula.Formula.{Formula}
use Rattle.reader.specs.declared.unread.Unread.{Unread}
use Rattle.reader.specs.declared.unread.Unread.TheVariants.{Fault}
use Rattle.reader.specs.Formula.{ReadFormula, Fits, NotRead, no_room, fault}
use Rattle.preview.specs.Preview.{Tells, unfit, long, faulty, read, Exactly, fault_line, permits}

module _ {cells used : ℕ} {s : List ℕ} {before after : List Node} {f : Formula} (r : ReadFormula cells s before 0 after used f) where
  pub stands_there : Stands after f.root r.is
  stands_there = subst (λ i. Stands after i r.is) (sym r.root) (laid_out r.is 0 (take 0 before) (drop (0 + length (layout 0 r.is)) before) after (length-take-le 0 before (omega arith)) r.nodes)

  pub standing_there : length s ≤ 32768 → length after ≡ 32768 → Standing after f.root
  standing_there h l = record { is = r.is; stands = stands_there; within = omega (arith, r.root, size_text r.is, ap length r.accepted.said) }

  pub cells_there : (w : ℕ) → w ≡ f.width → take w f.cells ≡ cells_of r.is
  cells_there w e = ap (take w) r.named ∙ take_at (cells_of r.is) (replicate (4 - length (cells_of r.is)) 0) w (sym (e ∙ r.width))

-- where the store has room for the text, it is a fault for which a formula is not read
pub fault_there : {cells n used : ℕ} {s : List ℕ} {before after : List Node} {e : Unread} → Fits s before n → NotRead cells s before n after used e
    → (f : FormulaFault) × (e ≡ Fault f) × First cells s f.flaw f.offset
fault_there fits (no_room short untouched same) = absurd (short fits)
fault_there fits (fault {e = f} there first same cleared) = (f, refl, first)

pub exactly : {lengths : List ℕ} {numbers : List ℤ} {s t : List ℕ} → Tells lengths numbers s t → Exactly lengths numbers s t
exactly (unfit none) = record { unfit = λ _. refl; long = λ f _. absurd (none f); faulty = λ f _ _ _ _. absurd (none f); read = λ f _ _ _. absurd (none f) }
exactly (long fit l) = record { unfit = λ none. absurd (none fit); long = λ _ _. refl; faulty = λ _ h _ _ _. absurd (omega arith); read = λ _ h _ _. absurd (omega arith) }
exactly {lengths} {numbers} {s} (faulty fit short f k first) = record {
  unfit = λ none. absurd (none fit);
  long = λ _ h. absurd (omega arith);
  faulty = λ _ _ g j other. let u = first_unique f g k j first other in λ i. fault_line (u.0 i) (u.1 i);
  read = λ _ _ c a. absurd (accepted_not_refused (length lengths) s c f k (omega (arith, fit.few)) a first);
}
exactly {lengths} {numbers} {s} (read fit short c accepted) = record {
  unfit = λ none. absurd (none fit);
  long = λ _ h. absurd (omega arith);
  faulty = λ _ _ f k first. absurd (accepted_not_refused (length lengths) s c f k (omega (arith, fit.few)) accepted first);
  read = λ _ _ d other. ap (permits lengths numbers) (accepted_unique (length lengths) s c d accepted other);
}

-- both promises from the first
pub made_told : {V E : Type 0} {lengths : List ℕ} {numbers : List ℤ} {s : List ℕ} (items : V → List ℕ) (r : Result V E) (P : V → Type 0) → ((v : V) → P v → Tells lengths numbers s (items v)) → IfOk r P
    → IfOk r (λ v. Tells lengths numbers s (items v)) × IfOk r (λ v. Exactly lengths numbers s (items v))
made_told items (Ok v) P f h = let t = f v h in (t, exactly t)
made_told items (Err e) P f h = (tt, tt)
