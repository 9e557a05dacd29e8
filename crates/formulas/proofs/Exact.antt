-- A text is accepted or has a first fault, and not both. Assumes nothing.
use Rattle.std.proofs.Common.{◌≡◌, ℕ, ◌≤◌, List, ◌++◌, length, drop, sym, refl, ap, ◌∙◌, ⊎_elim, append-nil, arith, take-append-drop}
use Rattle.std.proofs.lemmas.List.{drop_all}
use Rattle.formulas.specs.declared.fault.Flaw.{Flaw}
use Rattle.formulas.specs.declared.fault.Flaw.TheVariants.{Grammar, Level, Range, Cells}
use Rattle.formulas.specs.Tree.{Condition, text, cells_of}
use Rattle.formulas.specs.Faults.{Fault, First, Accepted}
use Rattle.formulas.specs.Reading.{Spans, Clear, EndsShift}
use Rattle.formulas.proofs.Unique.{ends_condition}
use Rattle.formulas.proofs.Spans.{next_end}
use Rattle.formulas.proofs.Firsts.{deep_within, large_within, token_some, text_unique}
use Rattle.formulas.proofs.Levels.{deep_start}
use Rattle.formulas.proofs.Clears.{clear_start, clear_condition}

pub spans_whole : (s : List ℕ) (c : Condition) → s ≡ text c → Spans s 0 (text c) (length s)
spans_whole s c e = record { upto = ap length e ∙ omega arith; within = omega arith; said = e ∙ sym (append-nil (text c)) ∙ ap (λ l. text c ++ l) (sym (drop_all (length s) s (omega arith))) }

pub at_end : (c : Condition) (b : ℕ) → b ≡ 256 → Rattle.formulas.specs.Reading.Ends c b
at_end c b e = ends_condition c b ((λ d. omega (arith, d.1)), (λ h. omega arith), (λ h. omega arith))

pub accepted_not_refused : (cells : ℕ) (s : List ℕ) (c : Condition) (f : Flaw) (k : ℕ) → cells ≤ 1000000 → Accepted cells s c → First cells s f k → ⊥
accepted_not_refused cells s c f k many a r = go f r.here
  where
    clear : Clear cells s (length s)
    clear = clear_condition many c clear_start (deep_start s) (spans_whole s c a.said) a.known (omega (arith, a.shallow)) (at_end c _ (next_end s (length s) (omega arith)))

    go : (f : Flaw) → Fault cells s f k → ⊥
    go Grammar o = o.none c (drop k s) (sym a.said ∙ sym (take-append-drop k s)) refl
    go Level d = omega (arith, clear.deep k d, deep_within s k d)
    go Range t = omega (arith, clear.large k t, large_within t, token_some t)
    go Cells m =
        let e : m.formula ≡ c = text_unique m.formula c (sym m.said ∙ a.said) in
        let l : length (cells_of m.formula) ≡ length (cells_of c) = ap (λ x. length (cells_of x)) e in
        ⊎_elim (λ z. omega (arith, a.some)) (λ z. omega (arith, a.few)) m.wrong

pub accepted_unique : (cells : ℕ) (s : List ℕ) (c d : Condition) → Accepted cells s c → Accepted cells s d → c ≡ d
accepted_unique cells s c d a b = text_unique c d (sym a.said ∙ b.said)
