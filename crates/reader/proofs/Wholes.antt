-- A whole formula, from the condition read. Assumes nothing.
use Rattle.std.proofs.Common.{◌≡◌, ℕ, ◌+◌, ◌-◌, ◌<◌, ◌≤◌, ◌⊎◌, ◌≢◌, List, [], ◌++◌, length, take, drop, Ok, Err, sym, refl, ap, ◌∙◌, subst, inl, inr, append-nil, arith}
use Rattle.std.proofs.lemmas.List.{take_at, drop_at, drop_all, length-take-le}
use Rattle.formulas.specs.declared.node.Node.{Node}
use Rattle.formulas.specs.declared.fault.Flaw.TheVariants.{Cells}
use Rattle.formulas.specs.declared.fault.FormulaFault.{FormulaFault}
use Rattle.formulas.specs.Tree.{text, noted, cells_of}
use Rattle.formulas.specs.Faults.{next}
use Rattle.formulas.specs.Layout.{layout, stored}
use Rattle.formulas.specs.Reading.{Clear, Ends, Follows, ends, Awaits}
use Rattle.formulas.proofs.Awaits.{await_start, after_condition}
use Rattle.formulas.proofs.Clears.{clear_condition}
use Rattle.formulas.proofs.Firsts.{first_grammar, first_cells, first_unique}
use Rattle.formulas.proofs.Layouts.{size_layout}
use Rattle.formulas.proofs.Exact.{accepted_not_refused}
use Rattle.reader.specs.declared.named.Named.{Named}
use Rattle.reader.specs.declared.formula.Formula.{Formula}
use Rattle.reader.specs.Mentions.{Holds, mentioned, named_from}
use Rattle.reader.specs.declared.cursor.Text.{Text}
use Rattle.reader.specs.declared.cursor.Cursor.{Cursor}
use Rattle.reader.specs.declared.nested.Nested.{Nested}
use Rattle.reader.specs.declared.store.Store.{Store}
use Rattle.reader.specs.Places.{ahead, behind, FirstIn}
use Rattle.reader.specs.Stores.{Room}
use Rattle.reader.specs.Read.{outside, ReadOne, FirstOf}
use Rattle.reader.proofs.Refusals.{told}
use Rattle.reader.proofs.Places.{ahead_in}
use Rattle.reader.specs.declared.unread.Unread.TheVariants.{Fault}
use Rattle.reader.specs.Formula.{ReadFormula, Fits, NotRead, fault, Decided}
use Rattle.reader.proofs.Cells.{mentioned_layout}

-- the nodes between two places of the store
pub part_stored : {X : Type 0} (l new : List X) (n m : ℕ) → n ≤ length l → m ≡ n + length new → take (m - n) (drop n (stored l n new)) ≡ new
part_stored l new n m h e =
    ap (take (m - n)) (drop_at (take n l) (new ++ drop (n + length new) l) n (length-take-le n l h)) ∙ take_at new (drop (n + length new) l) (m - n) (omega arith)

-- the start of a text
pub await_first : (a : Cursor) → a.at ≡ 0 → Awaits [] (behind a)
await_first a first = subst (λ k. Awaits [] (take k a.text.now.bytes.now)) (sym first) await_start

module _ {start : Nested} {end : Cursor} {old new : Store} (many : start.at.text.now.cells ≤ 1000000) (first : start.at.at ≡ 0) (r : ReadOne start old new end) where
  abbrev a : Cursor
  a = start.at

  abbrev s : List ℕ
  s = a.text.now.bytes.now

  stop : Ends r.is (next (drop end.at s))
  stop = subst (Ends r.is) (ahead_in r.reads) r.ends

  clear : Clear a.text.now.cells s end.at
  clear = clear_condition many r.is start.ready.clear start.ready.deep r.reads.spans r.known r.shallow stop

  -- something stands behind it
  pub junk_behind : {e : FormulaFault} → e ≡ outside end.at → ahead end < 256 → FirstIn a e
  junk_behind is small = told is (first_grammar (after_condition r.is (await_first a first) r.reads.spans stop wrong) clear)
    where
      wrong : (t : List ℕ) → Follows [] t → next t ≢ next (drop end.at s)
      wrong t ends e = omega (arith, ahead_in r.reads)

  module _ (all : length end.text.now.bytes.now ≤ end.at) where
    past : length s ≤ end.at
    past = subst (λ (t : Text). length t.bytes.now ≤ end.at) r.reads.text all

    said : s ≡ text r.is
    said = ap (λ k. drop k s) (sym first) ∙ r.reads.spans.said ∙ ap (λ l. text r.is ++ l) (drop_all end.at s past) ∙ append-nil (text r.is)

    end_is : end.at ≡ length s
    end_is = omega (arith, past, r.reads.spans.within)

    cells_are : Room old a → named_from new old.used ≡ cells_of r.is
    cells_are room =
        let l = size_layout old.used r.is in
        ap (λ x. noted [] (mentioned (take (new.used - old.used) (drop old.used x)))) r.nodes
        ∙ ap (λ x. noted [] (mentioned x)) (part_stored old.nodes.now (layout old.used r.is) old.used new.used (omega (arith, room.room, r.reads.spans.upto, r.reads.spans.within)) (r.count ∙ ap (λ k. old.used + k) (sym l)))
        ∙ ap (noted []) (mentioned_layout old.used r.is)

    miscounted : {e : FormulaFault} → e ≡ record { flaw = Cells; offset = a.at } → (length (cells_of r.is) ≡ 0) ⊎ (4 < length (cells_of r.is)) → FirstIn a e
    miscounted is w = told (is ∙ ap (λ k. record { flaw = Cells; offset = k }) first) (first_cells (record { first = refl; formula = r.is; said = said; wrong = w }) (subst (Clear a.text.now.cells s) end_is clear))

    module _ (room : Room old a) where
      pub many_cells : {e : FormulaFault} → e ≡ record { flaw = Cells; offset = a.at } → 4 < length (named_from new old.used) → FirstIn a e
      many_cells is big = miscounted is (inr (omega (arith, big, ap length (cells_are room))))

      module _ (named : Named) (h : Holds (named_from new old.used) named) where
        held : Holds (cells_of r.is) named
        held = subst (λ l. Holds l named) (cells_are room) h

        pub no_cell : {e : FormulaFault} → e ≡ record { flaw = Cells; offset = a.at } → named.count ≡ 0 → FirstIn a e
        no_cell is z = miscounted is (inl (sym held.count_is ∙ z))

        pub formula_read : (root : ℕ) → root ≡ new.used - 1 → named.count ≢ 0 → ReadFormula a.text.now.cells s old.nodes.now old.used new.nodes.now new.used (record { root = root; width = named.count; cells = named.cells })
        formula_read root is some = record {
          is = r.is;
          accepted = record { said = said; known = r.known; shallow = omega (arith, r.shallow, start.ready.some); some = omega (arith, held.count_is); few = held.few };
          nodes = r.nodes;
          count = r.count;
          root = is ∙ ap (λ m. m - 1) r.count;
          width = held.count_is;
          named = held.cells_are;
        }

-- a formula that is read or not is decided
pub decided_read : {cells n used : ℕ} {s : List ℕ} {before after : List Node} {f : Formula} → cells ≤ 1000000 → Fits s before n → ReadFormula cells s before n after used f → Decided cells s before n (Ok f)
decided_read {cells} {s = s} many fits r = record {
  accepts = λ c h a. refl;
  refuses = λ f k h g. absurd (accepted_not_refused cells s r.is f k many r.accepted g);
  no_room = λ short. absurd (short fits);
}

pub decided_fault : {cells n : ℕ} {s : List ℕ} {before : List Node} {e : FormulaFault} → cells ≤ 1000000 → Fits s before n → FirstOf cells s e → Decided cells s before n (Err (Fault e))
decided_fault {cells} {s = s} {e = e} many fits g = record {
  accepts = λ c h a. absurd (accepted_not_refused cells s c e.flaw e.offset many a g);
  refuses = λ f k h first. let u = first_unique e.flaw f e.offset k g first in λ i. Err (Fault (record { flaw = u.0 i; offset = u.1 i }));
  no_room = λ short. absurd (short fits);
}

-- the fault of a formula that is not read is its first
pub fault_first : {cells n used : ℕ} {s : List ℕ} {before after : List Node} {e : FormulaFault} → NotRead cells s before n after used (Fault e) → FirstOf cells s e
fault_first (fault there first same cleared) = first
