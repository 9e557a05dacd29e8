use Rattle.std.proofs.Common.{◌≡◌, ℕ, Bool, ◌==◌, List, take, set, sym, ap, ◌∙◌}
use Rattle.std.specs.List.{list_any}
use Rattle.formulas.specs.Tree.{among}
use Rattle.reader.specs.declared.named.Named.{Named}
use Rattle.reader.specs.Mentions.{Holds}
use Rattle.reader.proofs.Cells.{kept, contains_among, hold_old, hold_full, hold_new}
use Rattle.reader.proofs.named.Named.with.Goals as goal

-- what is asked of the cells kept
asked : (cs : List ℕ) (n : Named) (c k : ℕ) (r b : Bool) → Holds cs n → k ≡ n.count → r ≡ list_any (λ y. y == c) (take k n.cells) → r ≡ b → among c cs ≡ b
asked cs n c k r b h e f g =
    ap (among c) (sym (kept cs n c h)) ∙ ap (λ i. among c (take i n.cells)) (sym e) ∙ sym (contains_among c (take k n.cells)) ∙ sym f ∙ g

pub returns-then-contains : goal.returns-then-contains
returns-then-contains c = λ cs h. hold_old cs c.args.self c.args.cell h (asked cs c.args.self c.args.cell c.from-kept.result c.contains.result _ h c.from-kept.ensures c.contains.ensures.value c.if-contains.true)

pub returns-then-kept-eq-MOST : goal.returns-then-kept-eq-MOST
returns-then-kept-eq-MOST c = λ cs h. hold_full cs c.args.self c.args.cell h (sym c.from-kept.ensures ∙ c.if-kept-eq-MOST.true)
    (asked cs c.args.self c.args.cell c.from-kept.result c.contains.result _ h c.from-kept.ensures c.contains.ensures.value c.if-contains.false)

pub returns : goal.returns
returns c = λ cs h. hold_new cs c.args.self c.args.cell h (λ e. c.if-kept-eq-MOST.false (c.from-kept.ensures ∙ e))
    (asked cs c.args.self c.args.cell c.from-kept.result c.contains.result _ h c.from-kept.ensures c.contains.ensures.value c.if-contains.false)
    (ap (λ k. set c.args.self.cells k c.args.cell) c.from-kept.ensures)
